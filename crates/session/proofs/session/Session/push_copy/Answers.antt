use Rattle.std.proofs.Common.{◌≡◌, ◌∙◌, ◌+◌, ◌∷◌, [], ◌++◌, ℕ, List, length, length-append, ap, arith}
use Rattle.session.specs.Buffer.{pieces, AreEnds}
use Rattle.session.proofs.Sessions.{datagrams_push}
use Rattle.session.proofs.Places.{ends_more, pieces_more}
use Rattle.session.proofs.session.Session.push_copy.Goals as goal

-- the datagram is the last piece
pub more : (c : goal.In-Ok) → pieces 0 c.push.new.self.items c.extend_from_slice.new.self.items ≡ pieces 0 c.self.inside.ends.items c.self.inside.bytes.items ++ c.args.datagram.now ∷ []
more c =
    let ends = c.self.inside.ends.items in
    let bytes = c.self.inside.bytes.items in
    let end : c.len.result + length c.args.datagram.now ≡ length bytes + length c.args.datagram.now = omega (arith, c.len.ensures) in
    ap (λ (l : List ℕ). pieces 0 l c.extend_from_slice.new.self.items) (c.in_ok-push.ensures.items ∙ ap (λ (e : ℕ). ends ++ e ∷ []) end)
    ∙ ap (pieces 0 (ends ++ (length bytes + length c.args.datagram.now) ∷ [])) c.in-Ok.ensures.items
    ∙ pieces_more 0 ends bytes c.args.datagram.now c.self.invariant.0

pub invariant_of-self-in-Ok : goal.invariant_of-self-in-Ok
invariant_of-self-in-Ok c =
    let ends = c.self.inside.ends.items in
    let bytes = c.self.inside.bytes.items in
    let end : c.len.result + length c.args.datagram.now ≡ length bytes + length c.args.datagram.now = omega (arith, c.len.ensures) in
    let last = ends_more 0 ends (length bytes) (length c.args.datagram.now) c.self.invariant.0 in
    let at : AreEnds 0 c.push.new.self.items (length c.extend_from_slice.new.self.items) =
    rw (c.in_ok-push.ensures.items, c.in-Ok.ensures.items, length-append bytes c.args.datagram.now, end) last in
    (at, rw (more c) (datagrams_push _ _ c.self.invariant.1 c.requires))

pub returns-in-Ok-clause-ok : goal.returns-in-Ok-clause-ok
returns-in-Ok-clause-ok c = rw (← c.self.view_is) (more c)
