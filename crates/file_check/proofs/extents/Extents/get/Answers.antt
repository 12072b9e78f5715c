use Rattle.std.proofs.Common.{rules, ◌<◌, length, sym, arith}
use Rattle.file_check.proofs.Standing.{extent_is, many}
use Rattle.file_check.proofs.extents.Extents.get.Goals as goal

pub returns-in_err-end-clause-none : goal.returns-in_err-end-clause-none
returns-in_err-end-clause-none c = λ none.
    let past = rw c.as_slice.ensures.value at c.in_err-end.ensures.lookup.3 in
    omega (arith, past, many 0 c.args.self.now.ends.items)

pub returns-clause-some : goal.returns-clause-some
returns-clause-some c =
    let ends = c.args.self.now.ends.items in
    let inside : c.args.place < length c.args.self.now.ends.items = search rules in
    let end = rw c.as_slice.ensures.value at (c.in_ok-end.ensures.lookup.4 (omega arith) 0) in
    rw (c.begin_of-offset.ensures, end) (sym (extent_is 0 ends c.args.place inside))

pub returns-clause-inside : goal.returns-clause-inside
returns-clause-inside c =
    let inside : c.args.place < length c.args.self.now.ends.items = search rules in
    omega (arith, inside, many 0 c.args.self.now.ends.items)
