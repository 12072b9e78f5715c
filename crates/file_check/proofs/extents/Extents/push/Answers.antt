use Rattle.std.proofs.Common.{rules, ◌∙◌, ◌+◌, ◌<◌, ◌∷◌, ◌++◌, [], ℕ, ap, arith}
use Rattle.std.specs.Prelude.{is_ok}
use Rattle.session.specs.declared.extent.Extent.{Extent}
use Rattle.file_check.specs.Standing.{end_from, extents_from}
use Rattle.file_check.proofs.Standing.{apart_pushed, end_pushed, pushed, same_extent}
use Rattle.file_check.proofs.extents.Extents.push.Goals as goal

pub invariant_of-self : goal.invariant_of-self
invariant_of-self c =
    let ends = c.args.self.now.ends.items in
    let e : ℕ = c.args.extent.offset + c.from.result in
    let begin = c.requires.begin in
    let small : c.args.extent.length < 65536 = search rules in
    record {
      apart = apart_pushed ends e c.args.self.now.apart (omega (arith, begin)) (omega (arith, begin, small, c.from.ensures)) (is_ok c.push.result) c.push.new.self.items c.push.ensures.items;
    }

pub returns-clause-pushed : goal.returns-clause-pushed
returns-clause-pushed c =
    let ends = c.args.self.now.ends.items in
    let e : ℕ = c.args.extent.offset + c.from.result in
    rw c.in_ok-push.ensures.items
    (pushed 0 ends e ∙ ap (λ (x : Extent). extents_from 0 c.args.self.now.ends.items ++ x ∷ [])
    (same_extent c.args.extent (end_from 0 ends) e c.requires.begin (ap (λ (n : ℕ). c.args.extent.offset + n) c.from.ensures)))

pub returns-clause-end : goal.returns-clause-end
returns-clause-end c =
    let ends = c.args.self.now.ends.items in
    let e : ℕ = c.args.extent.offset + c.from.result in
    rw c.in_ok-push.ensures.items (end_pushed 0 ends e ∙ ap (λ (n : ℕ). c.args.extent.offset + n) c.from.ensures)
