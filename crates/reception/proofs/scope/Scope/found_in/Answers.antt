use Rattle.std.proofs.Common.{List, ℕ, map, ◌<◌, length, sym, ◌∙◌, arith}
use Rattle.std.specs.Borrow.{Bor}
use Rattle.std.proofs.lemmas.List.{length-map}
use Rattle.reception.proofs.Heard.{heard_more, heard_enough, heard_all, found_scope, known_some, borrowed_at}
use Rattle.reception.proofs.scope.Scope.found_in.Goals as goal

pub returns-then-is_some : goal.returns-then-is_some
returns-then-is_some c =
    let w = known_some c.loop-datagram.scope.fti (sym c.is_some.ensures ∙ c.if-is_some.true) in
    let ds = map (λ (d : Bor (List ℕ)). d.now) c.args.datagrams.now in
    found_scope c.args.identity ds c.loop-datagram.scope (heard_enough c.args.identity ds c.loop-datagram.datagram-index c.loop-datagram.scope c.loop-datagram.invariant w.0 w.1)

pub loop-datagram-preserved : goal.loop-datagram-preserved
loop-datagram-preserved c =
    let l : c.loop-datagram.datagram-index < length c.args.datagrams.now = omega arith in
    heard_more c.args.identity (map (λ (d : Bor (List ℕ)). d.now) c.args.datagrams.now) c.loop-datagram.datagram-index c.loop-datagram.scope c.loop-datagram.invariant _ c.hear.new.self
    (omega (arith, l, length-map c.args.datagrams.now (λ (d : Bor (List ℕ)). d.now))) (borrowed_at c.args.datagrams.now c.loop-datagram.datagram-index _ l) c.hear.ensures

pub returns : goal.returns
returns c =
    let ds = map (λ (d : Bor (List ℕ)). d.now) c.args.datagrams.now in
    found_scope c.args.identity ds c.loop-datagram.scope
    (heard_all c.args.identity ds c.loop-datagram.datagram-index c.loop-datagram.scope (omega (arith, length-map c.args.datagrams.now (λ (d : Bor (List ℕ)). d.now))) c.loop-datagram.invariant)
