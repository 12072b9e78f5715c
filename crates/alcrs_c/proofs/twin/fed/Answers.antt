use Rattle.std.proofs.Common.{[], get_or, map, take, List, ℕ}
use Rattle.std.specs.Borrow.{Bor}
use Rattle.std.proofs.lemmas.List.{get_or_default}
use Rattle.alcrs_c.proofs.Twins.{no_frame_fault, datagram_of, next_fed}
use Rattle.alcrs_c.proofs.twin.fed.Goals as goal

pub unreachable-requires : goal.unreachable-requires
unreachable-requires c =
    let ds = c.args.datagrams.now in
    let i = c.loop-datagram.datagram-index in
    let d : Bor (List ℕ) = get_or c.args.datagrams.now c.loop-datagram.datagram-index (record { ref_ptr = (0, 0); now = [] }) in
    let is = get_or_default ds i (record { ref_ptr = (0, 0); now = [] }) d c.loop-datagram-test.true in
    no_frame_fault c.in-Err-Frame.field-0-0 d.now (rw c.in-Err-Frame.field-0-is at c.in-Err-Frame.ensures.unfed) (datagram_of ds i d c.loop-datagram-test.true is c.requires)

pub loop-datagram-preserved : goal.loop-datagram-preserved
loop-datagram-preserved c =
    let ds = c.args.datagrams.now in
    let i = c.loop-datagram.datagram-index in
    let d : Bor (List ℕ) = get_or c.args.datagrams.now c.loop-datagram.datagram-index (record { ref_ptr = (0, 0); now = [] }) in
    let is = get_or_default ds i (record { ref_ptr = (0, 0); now = [] }) d c.loop-datagram-test.true in
    rw (next_fed ds i d c.loop-datagram-test.true is)
    (c.in-Ok-feed.ensures.fed c.args.identity c.args.object.now c.args.certificate (map (λ b. b.now) (take i ds)) c.loop-datagram.invariant)
