use Rattle.host.proofs.memory.MemoryHost.put.Goals as goal
use Rattle.host.proofs.memory.MemoryHost.put.Goals.{in-Ok, in-Err}
use Rattle.std.proofs.Common.{refl}

pub returns-clause-ok : goal.returns-clause-ok
returns-clause-ok c =
    elim c.match-push.branch [
      | in-Ok w ↦
          rw w.result-is
          (record {
            kept = c.in_ok-kept.kept;
            vector = c.args.bytes;
            named = c.in_ok-kept.ensures.ok;
            whole = refl;
            behind = rw w.in-Ok.is at c.push.ensures.items;
          })
      | in-Err w ↦ rw w.result-is search
    ]
