use Rattle.std.proofs.Common.{◌∙◌, ap, refl}
use Rattle.std.specs.Prelude.{length}
use Rattle.receiver.specs.Holds.{kept_of}
use Rattle.receiver.proofs.Pending.{kept_count}
use Rattle.receiver.proofs.store.Store.short.Goals as goal

pub returns-then-have-need-clause-short : goal.returns-then-have-need-clause-short
returns-then-have-need-clause-short c = λ bytes at holds.
    let s = c.args.self.now in
    let b = c.args.b in
    record {
      block = refl;
      have = ap length c.get-have.ensures ∙ kept_count s.fti b (bytes b) (kept_of s b) (at b) (holds.blocks b);
      need = c.k-need.ensures.value;
      few = c.if-have-need.true;
    }
