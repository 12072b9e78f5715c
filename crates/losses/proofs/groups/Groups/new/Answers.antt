use Rattle.std.proofs.Common.{◌≡◌, ◌+◌, ◌∙◌, ℕ, List, [], length, ap, subst, sym, arith}
use Rattle.std.specs.Global.{Vec}
use Rattle.std.proofs.lemmas.List.{length_push}
use Rattle.losses.specs.declared.groups.Entry.{Entry}
use Rattle.losses.specs.Groups.{entries_at, members_among}
use Rattle.losses.proofs.SharedGroups.{share_made, entries_more, without_from}
use Rattle.losses.proofs.groups.Groups.new.Goals as goal
use Rattle.losses.proofs.groups.Groups.new.Goals.{in-0, in_default}

pub loop-preserved : goal.loop-preserved
loop-preserved c =
    let items = c.in_ok-push.ensures.items in
    record {
      size = (let more = ap (λ (xs : List (Vec Entry)). length xs) items in let one = length_push c.loop.shares.items c.new.result in let size = c.loop.invariant.size in omega (arith, more, one, size));
      empty = subst (λ (xs : List (Vec Entry)). (a : ℕ) → entries_at xs a ≡ []) (sym items) (entries_more c.loop.shares.items c.new.result c.loop.invariant.empty c.new.ensures.items);
    }

pub invariant_of-result-clause-shared : goal.invariant_of-result-clause-shared
invariant_of-result-clause-shared c = λ b l.
    let size = c.loop.invariant.size in
    elim c.match-len.branch [
      | in-0 w ↦ absurd (let none = w.in-0.is in omega (arith, l, c.len.ensures, none))
      | in_default w ↦
          (let count = w.count-is in
          let made = share_made c.of_lengths-sharing.result c.len.result c.match-len.count (w.count-is ∙ ap (λ (x : ℕ). x + 1) w.share.ensures) b (omega (arith, l, c.len.ensures)) in
          omega (arith, made, c.loop-test.false, size))
    ]

pub returns : goal.returns
returns c = without_from _ 0 c.args.needs.items (λ i. ap (λ (es : List Entry). members_among i es) (c.loop.invariant.empty _))
