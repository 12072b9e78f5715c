use mathlib.Core.HLevel.{⊥_prop}
use Rattle.std.proofs.Common.{refl, subst}
use Rattle.std.proofs.Math.Logic.{∥∥₁_elim}
use Rattle.partition.specs.Fti.{IsValidFti}
use Rattle.decoder.proofs.Unsound.{none_unsound}
use Rattle.decoder.proofs.verdict.unsound_answer.Goals as goal

pub returns-in-None-clause-fault : goal.returns-in-None-clause-fault
returns-in-None-clause-fault g c = λ told.
    let f = g.S.Source.known c.args.coded.now.source.now in
    let at = g.S.Source.at c.args.coded.now.source.now in
    ∥∥₁_elim (c.args.coded.now.stand told) ⊥_prop (λ s.
    none_unsound f (subst IsValidFti c.fti.ensures c.is_valid.ensures) at s (c.requires told)
    ((rw c.in-None.is at (c.in_ok-b.ensures.none told)) refl s.arrivals s.index s.within))
