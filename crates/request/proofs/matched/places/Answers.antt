use Rattle.std.proofs.Common.{List, codes, subst, sym}
use Rattle.std.specs.Prelude.{IfOk, IfErr}
use Rattle.clap.specs.Words.{Text, found_of}
use Rattle.request.specs.Matching.{AreRefused}
use Rattle.request.specs.Places.{AreRanges}
use Rattle.request.proofs.Texts.{texts_given}
use Rattle.request.proofs.matched.places.Goals as goal

pub returns-in-Some-clause-ok : goal.returns-in-Some-clause-ok
returns-in-Some-clause-ok c =
    let same = rw c.in-Some.is at (texts_given (found_of c.args.matches.now) (codes "PLACE") c.get_strs.result c.get_strs.ensures) in
    subst (λ (words : List Text). IfOk c.read_places.result (λ v. AreRanges words v.items)) (sym same) c.read_places.ensures.ok

pub returns-in-Some-clause-fault : goal.returns-in-Some-clause-fault
returns-in-Some-clause-fault c =
    let same = rw c.in-Some.is at (texts_given (found_of c.args.matches.now) (codes "PLACE") c.get_strs.result c.get_strs.ensures) in
    subst (λ (words : List Text). IfErr c.read_places.result (AreRefused words)) (sym same) c.read_places.ensures.fault

pub returns-in-None-clause-ok : goal.returns-in-None-clause-ok
returns-in-None-clause-ok c =
    let same = rw c.in-None.is at (texts_given (found_of c.args.matches.now) (codes "PLACE") c.get_strs.result c.get_strs.ensures) in
    rw (same, c.new.ensures.items) tt
