use Rattle.std.proofs.Common.{subst}
use Rattle.partition.specs.Fti.{IsValidFti}
use Rattle.decoder.specs.Unsolvable.{AreSound}
use Rattle.decoder.proofs.SoundObject.{sound_object}
use Rattle.decoder.proofs.verdict.first_of_no_object.Goals as goal

pub unsound_answer-requires : goal.unsound_answer-requires
unsound_answer-requires g c = λ told. rw c.if-not-branch.false at (c.in_ok-has_unsolvable.ensures.told told)

pub returns-then-not-branch-clause-told : goal.returns-then-not-branch-clause-told
returns-then-not-branch-clause-told g c = λ told.
    let f = g.S.Source.known c.args.coded.now.source.now in
    let at = g.S.Source.at c.args.coded.now.source.now in
    let sound : AreSound (g.S.Source.known c.args.coded.now.source.now) (g.S.Source.at c.args.coded.now.source.now) = rw c.if-not-branch.true at (c.in_ok-has_unsolvable.ensures.told told) in
    let w = sound_object f (subst IsValidFti c.fti.ensures c.is_valid.ensures) at c.requires sound in
    (sound, w.0, w.1)
