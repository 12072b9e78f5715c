use Rattle.std.proofs.Common.{◌≡◌, List, ℕ, sym, subst}
use Rattle.std.specs.Prelude.{IfSome}
use Rattle.send_commands.proofs.Making.{ok_more}
use Rattle.send_commands.proofs.encode.send_whole.Goals as goal

pub returns-clause-sent : goal.returns-clause-sent
returns-clause-sent g c =
    ok_more c.send_held.result _ _
    (λ count sent. record {
      object = c.as_slice-bytes.result.now;
      form = record { count = sent.can.whole; bytes = c.are_bytes.ensures };
      all = subst (λ (ys : List ℕ). IfSome (g.R.Read.remaining c.args.reader.now) (λ x. x ≡ ys)) (sym c.as_slice-bytes.ensures.value) c.in-Ok.ensures.ok;
      holds = sent;
    })
    c.send_held.ensures.sent
