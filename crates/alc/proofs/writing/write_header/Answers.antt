use Rattle.std.proofs.Common.{◌≡◌, List, ℕ, drop, ap, sym, ◌∙◌, append_assoc}
use Rattle.std.proofs.lemmas.List.{drop-drop}
use Rattle.alc.specs.WrittenParts.{fixed_part, fti_part}
use Rattle.alc.proofs.writing.write_header.Goals as goal

pub returns-in-Some-clause-written : goal.returns-in-Some-clause-written
returns-in-Some-clause-written c =
    let rest : List ℕ = c.split_at_mut-fixed.result.1.now in
    let behind : drop 12 rest ≡ drop 28 c.args.out.now = ap (drop 12) c.split_at_mut-fixed.ensures.back ∙ drop-drop 12 16 c.args.out.now in
    rw (c.in-Some.is, c.write_fixed_part.ensures, c.write_fti.ensures.written, behind)
    (sym (append_assoc (fixed_part 7 c.args.tsi c.args.toi) (fti_part c.in-Some.fti.now) (drop 28 c.args.out.now)))

pub returns-in-Some-clause-valid : goal.returns-in-Some-clause-valid
returns-in-Some-clause-valid c = rw c.in-Some.is c.write_fti.ensures.valid
