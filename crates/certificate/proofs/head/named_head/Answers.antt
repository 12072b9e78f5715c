use Rattle.std.specs.Prelude.{nat_eq}
use Rattle.std.proofs.Common.{◌≡◌, ◌∙◌, ◌++◌, ◌-◌, true, List, ℕ, length, drop, take, refl, sym, ap, subst, arith, length-drop, length-take-le}
use Rattle.std.specs.List.{starts_with}
use Rattle.std.proofs.lemmas.List.{take-append-drop, drop-drop}
use Rattle.lists.specs.Bytes.{AreBytes}
use Rattle.partition.specs.FtiFault.{fti_fault}
use Rattle.alc.proofs.Bytes.{AreBytes-drop, AreBytes-take}
use Rattle.partition.specs.FtiBytes.{bytes_of_fti}
use Rattle.certificate.specs.Certificate.{IsIdentity, magic_of_named, name_text, head_text, told_fti}
use Rattle.certificate.specs.CertificateReading.{told_name, head_length}
use Rattle.certificate.proofs.Texts.{named_front, short_head, wrong_fti, fti_again, name_again, name_in_range}
use Rattle.certificate.proofs.head.named_head.Goals as goal

length_is : (x : List ℕ) → starts_with nat_eq x magic_of_named ≡ true → head_length x ≡ 34
length_is x named = rw named refl

pub returns-then-bytes-lt-LENGTH_OF_NAMED-clause-fault : goal.returns-then-bytes-lt-LENGTH_OF_NAMED-clause-fault
returns-then-bytes-lt-LENGTH_OF_NAMED-clause-fault c = λ rest end.
    let x : List ℕ = c.args.bytes.now in
    short_head x rest true c.requires.magic (λ e. absurd (cc)) (omega (arith, length_is x c.requires.magic, c.if-bytes-lt-LENGTH_OF_NAMED.true)) end

pub returns-in-Ok-clause-ok : goal.returns-in-Ok-clause-ok
unfolding head_text
returns-in-Ok-clause-ok c =
    let x : List ℕ = c.args.bytes.now in
    let long : length c.args.bytes.now ≡ 34 = omega (arith, c.requires.few, c.if-bytes-lt-LENGTH_OF_NAMED.false) in
    let bytes : AreBytes c.args.bytes.now = λ i. (c.type_inv.bytes i).fits in
    let part = take 20 (drop 4 x) in
    let part_long : length (take 20 (drop 4 c.args.bytes.now)) ≡ 20 = length-take-le 20 (drop 4 x) (omega (arith, long, length-drop 4 x)) in
    let part_bytes = AreBytes-take 20 (drop 4 x) (AreBytes-drop 4 x bytes) in
    let behind : drop 20 (drop 4 c.args.bytes.now) ≡ drop 24 c.args.bytes.now = drop-drop 20 4 x in
    let name_is : c.split_at-2.result.0.now ≡ take 20 (drop 4 c.args.bytes.now) = c.split_at-2.ensures.front ∙ ap (take 20) c.split_at.ensures.back in
    let fti_is : c.split_at-2.result.1.now ≡ drop 24 c.args.bytes.now = c.split_at-2.ensures.back ∙ ap (drop 20) c.split_at.ensures.back ∙ behind in
    record {
      text = sym (take-append-drop 4 x) ∙ ap (λ (l : List ℕ). l ++ drop 4 x) (named_front x c.requires.magic)
          ∙ ap (λ (l : List ℕ). magic_of_named ++ l) (sym (take-append-drop 20 (drop 4 x)))
          ∙ ap (λ (l : List ℕ). magic_of_named ++ (l ++ drop 20 (drop 4 x))) (name_again part part_long part_bytes)
          ∙ ap (λ who. magic_of_named ++ (name_text who ++ drop 20 (drop 4 x))) (sym (c.read_name.ensures ∙ ap told_name name_is))
          ∙ ap (λ (l : List ℕ). magic_of_named ++ (name_text c.read_name.result ++ l)) (behind ∙ fti_again (drop 24 x) (omega (arith, long, length-drop 24 x)) (AreBytes-drop 24 x bytes))
          ∙ ap (λ f. magic_of_named ++ (name_text c.read_name.result ++ bytes_of_fti f)) (sym (c.in-Ok.ensures.numbers ∙ ap (told_fti 0) fti_is));
      name = subst IsIdentity (sym (c.read_name.ensures ∙ ap told_name name_is)) (name_in_range part part_bytes);
      good = ap fti_fault c.in-Ok.ensures.numbers ∙ c.in-Ok.ensures.no_fault;
    }

pub returns-in-Err-clause-fault : goal.returns-in-Err-clause-fault
returns-in-Err-clause-fault c = λ rest end.
    let x : List ℕ = c.args.bytes.now in
    let h = length_is x c.requires.magic in
    wrong_fti x rest true c.in-Err.e c.requires.magic (λ e. absurd (cc)) (omega (arith, h, c.requires.few, c.if-bytes-lt-LENGTH_OF_NAMED.false))
    (ap (λ (n : ℕ). fti_fault (told_fti 0 (drop n x))) (let e : head_length x - 10 ≡ 24 = omega (arith, h) in e)
    ∙ ap (λ (l : List ℕ). fti_fault (told_fti 0 l)) (sym (c.split_at-2.ensures.back ∙ ap (drop 20) c.split_at.ensures.back ∙ drop-drop 20 4 x)) ∙ c.in-Err.ensures.fault)
