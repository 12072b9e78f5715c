use Rattle.std.proofs.Common.{◌≡◌, ◌∙◌, ◌++◌, ℕ, List, Option, map, sym, subst, ap}
use Rattle.std.specs.List.{AllByRecursion}
use Rattle.std.specs.Map.Iter.{deref_pair}
use Rattle.std.proofs.lemmas.List.{append-nil}
use Rattle.std.proofs.lemmas.Map.Iter.{btree_map_turn}
use Rattle.reception.specs.declared.scope.Identity.{Identity}
use Rattle.inventory.specs.Packets.{packets_of}
use Rattle.inventory.specs.Parts.{IsPart, IsPartOf, identities}
use Rattle.inventory.specs.Tallies.{IsTallyAt}
use Rattle.inventory.specs.Tells.{named_by}
use Rattle.inventory.specs.declared.part.Part.{Part}
use Rattle.inventory.specs.declared.tally.Tally.{Tally}
use Rattle.inventory.proofs.Pairs.{pair_total}
use Rattle.inventory.proofs.Told.{all_push, one_named, rising_parts, whole_parts}
use Rattle.inventory.proofs.collecting.Summary.parts.Goals as goal

pub loop-key-preserved : goal.loop-key-preserved
loop-key-preserved c =
    let gives = c.into_iter-key-iterator.ensures.into_iter_gives in
    let turn = btree_map_turn deref_pair c.loop-key.yielded c.into_iter-key-iterator.result c.loop-key.key-iterator c.next.new.self c.next.result (c.in-Some.key, c.in-Some.tally)
    c.loop-key.yielded_by c.in-Some.is c.next.ensures.steps pair_total c.args.self.now.tallies gives.0 gives.5 in
    let pushed = c.in_ok-push.ensures.items in
    let step = rw c.in-Some.is at c.next.ensures.steps in
    let key : ℕ × ℕ = c.in-Some.key.now in
    record {
      each = λ rs told.
          let counted = subst (λ (o : Option Tally). IsTallyAt (packets_of (named_by key) rs) o) turn.1 (told.tallies key) in
          let part = c.in_ok-part.ensures.part (packets_of (named_by key) rs) counted.0 counted.1 in
          subst (λ (parts : List Part). AllByRecursion (IsPart rs) parts) (sym pushed)
          (all_push (IsPart rs) c.loop-key.parts.items c.in_ok-part.field-0 (c.loop-key.invariant.each rs told)
          (subst (λ (w : Identity). IsPartOf (packets_of w rs) c.in_ok-part.field-0) (sym c.in_ok-part.ensures.identity) part));
      named =
          subst (λ (parts : List Part). identities parts ++ map (λ e. named_by e.0) c.next.new.self ≡ map (λ e. named_by e.0) c.args.self.now.tallies.entries) (sym pushed)
          (one_named c.loop-key.parts.items c.in_ok-part.field-0 (c.in-Some.key.now, c.in-Some.tally.now) c.next.new.self c.args.self.now.tallies.entries
          (subst (λ (es : List ((ℕ × ℕ) × Tally)). identities c.loop-key.parts.items ++ map (λ e. named_by e.0) es ≡ map (λ e. named_by e.0) c.args.self.now.tallies.entries) step
          c.loop-key.invariant.named) c.in_ok-part.ensures.identity);
    }

pub returns : goal.returns
returns c = λ rs told.
    let gives = c.into_iter-key-iterator.ensures.into_iter_gives in
    let end = rw c.in-None.is at c.next.ensures.steps in
    let named : identities c.loop-key.parts.items ≡ map (λ e. named_by e.0) c.args.self.now.tallies.entries =
    sym (append-nil (identities c.loop-key.parts.items))
    ∙ sym (ap (λ (es : List ((ℕ × ℕ) × Tally)). identities c.loop-key.parts.items ++ map (λ e. named_by e.0) es) end.0) ∙ c.loop-key.invariant.named in
    record {
      each = c.loop-key.invariant.each rs told;
      whole = whole_parts rs c.loop-key.parts.items c.args.self.now.tallies told.tallies named;
      rising = rising_parts c.loop-key.parts.items c.args.self.now.tallies gives.5 named;
    }
