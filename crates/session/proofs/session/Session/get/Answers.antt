use Rattle.std.proofs.Common.{◌<◌, length, sym, arith}
use Rattle.session.proofs.Places.{length_pieces, piece_at}
use Rattle.session.proofs.session.Session.get.Goals as goal

pub bounds_of-from-requires-clause-place : goal.bounds_of-from-requires-clause-place
bounds_of-from-requires-clause-place c =
    let many = length_pieces 0 c.self.inside.ends.items c.self.inside.bytes.items in
    let inside = rw (← c.self.view_is) at c.requires in
    rw c.deref.ensures.value (omega (arith, many, inside))

pub returns : goal.returns
returns c =
    let ends = c.self.inside.ends.items in
    let bytes = c.self.inside.bytes.items in
    let many = length_pieces 0 ends bytes in
    let inside = rw (← c.self.view_is) at c.requires in
    let l : c.args.i < length c.self.inside.ends.items = omega (arith, many, inside) in
    rw (← c.self.view_is, c.bounds_of-from.ensures.begin, c.bounds_of-from.ensures.end, c.deref.ensures.value, c.deref-2.ensures.value)
    (sym (piece_at c.args.i 0 ends bytes l))
