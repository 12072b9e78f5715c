use Rattle.std.specs.Prelude.{nat_eq}
use Rattle.std.proofs.Common.{◌≡◌, ◌∙◌, ◌++◌, ◌-◌, false, List, ℕ, length, drop, refl, sym, ap, arith, length-drop}
use Rattle.std.specs.List.{starts_with}
use Rattle.std.proofs.lemmas.List.{take-append-drop}
use Rattle.lists.specs.Bytes.{AreBytes}
use Rattle.partition.specs.FtiFault.{fti_fault}
use Rattle.alc.proofs.Bytes.{AreBytes-drop}
use Rattle.partition.specs.FtiBytes.{bytes_of_fti}
use Rattle.certificate.specs.Certificate.{magic, magic_of_named, head_text, told_fti}
use Rattle.certificate.specs.CertificateReading.{head_length}
use Rattle.certificate.proofs.Texts.{plain_front, short_head, wrong_fti, fti_again}
use Rattle.certificate.proofs.head.plain_head.Goals as goal

length_is : (x : List ℕ) → starts_with nat_eq x magic_of_named ≡ false → head_length x ≡ 14
length_is x other = rw other refl

pub returns-then-bytes-lt-LENGTH-clause-fault : goal.returns-then-bytes-lt-LENGTH-clause-fault
returns-then-bytes-lt-LENGTH-clause-fault c = λ rest end.
    let x : List ℕ = c.args.bytes.now in
    short_head x rest false c.requires.other (λ _. c.requires.magic) (omega (arith, length_is x c.requires.other, c.if-bytes-lt-LENGTH.true)) end

pub returns-in-Ok-clause-ok : goal.returns-in-Ok-clause-ok
unfolding head_text
returns-in-Ok-clause-ok c =
    let x : List ℕ = c.args.bytes.now in
    let long : length c.args.bytes.now ≡ 14 = omega (arith, c.requires.few, c.if-bytes-lt-LENGTH.false) in
    let bytes : AreBytes c.args.bytes.now = λ i. (c.type_inv.bytes i).fits in
    record {
      text = sym (take-append-drop 4 x) ∙ ap (λ (l : List ℕ). l ++ drop 4 x) (plain_front x c.requires.magic)
          ∙ ap (λ (l : List ℕ). magic ++ l) (fti_again (drop 4 x) (omega (arith, long, length-drop 4 x)) (AreBytes-drop 4 x bytes))
          ∙ ap (λ f. magic ++ bytes_of_fti f) (sym (c.in-Ok.ensures.numbers ∙ ap (told_fti 0) c.split_at.ensures.back));
      name = tt;
      good = ap fti_fault c.in-Ok.ensures.numbers ∙ c.in-Ok.ensures.no_fault;
    }

pub returns-in-Err-clause-fault : goal.returns-in-Err-clause-fault
returns-in-Err-clause-fault c = λ rest end.
    let x : List ℕ = c.args.bytes.now in
    let h = length_is x c.requires.other in
    wrong_fti x rest false c.in-Err.e c.requires.other (λ _. c.requires.magic) (omega (arith, h, c.requires.few, c.if-bytes-lt-LENGTH.false))
    (ap (λ (n : ℕ). fti_fault (told_fti 0 (drop n x))) (let e : head_length x - 10 ≡ 4 = omega (arith, h) in e) ∙ ap (λ (l : List ℕ). fti_fault (told_fti 0 l)) (sym c.split_at.ensures.back) ∙ c.in-Err.ensures.fault)
