use Rattle.std.proofs.Common.{◌≡◌, ◌∙◌, ◌++◌, ℕ, List, Option, map, sym, subst, ap}
use Rattle.std.specs.List.{AllByRecursion}
use Rattle.std.specs.Map.Iter.{deref_pair}
use Rattle.std.proofs.lemmas.List.{append-nil}
use Rattle.std.proofs.lemmas.Map.Iter.{btree_map_turn}
use Rattle.partition.specs.Fti.{Fti}
use Rattle.inventory.specs.Parts.{IsFtiCount, ftis_of}
use Rattle.inventory.specs.Tally.{Key, fti_of, IsCountedAt}
use Rattle.inventory.specs.declared.part.FtiCount.{FtiCount}
use Rattle.inventory.proofs.Ftis.{key_total, one_told, rising_told, whole_told}
use Rattle.inventory.proofs.Told.{all_push}
use Rattle.inventory.proofs.carriers.Carriers.ftis.Goals as goal

pub loop-key-preserved : goal.loop-key-preserved
loop-key-preserved c =
    let gives = c.into_iter-key-iterator.ensures.into_iter_gives in
    let turn = btree_map_turn deref_pair c.loop-key.yielded c.into_iter-key-iterator.result c.loop-key._key-iterator c.next.new.self c.next.result (c.in-Some._key, c.in-Some.counted)
    c.loop-key.yielded_by c.in-Some.is c.next.ensures.steps key_total c.args.self.now.counts gives.0 gives.5 in
    let pushed = c.in_ok-push.ensures.items in
    let step = rw c.in-Some.is at c.next.ensures.steps in
    let key : Key = c.in-Some._key.now in
    let value : FtiCount = c.in-Some.counted.now in
    record {
      each = λ ftis counted.
          let at = subst (λ (o : Option FtiCount). IsCountedAt ftis (fti_of key) o) turn.1 (counted.counts (fti_of key)) in
          subst (λ (counts : List FtiCount). AllByRecursion (IsFtiCount ftis) counts) (sym pushed)
          (all_push (IsFtiCount ftis) c.loop-key.ftis.items value (c.loop-key.invariant.each ftis counted) at.1);
      named = λ ftis counted.
          let at = subst (λ (o : Option FtiCount). IsCountedAt ftis (fti_of key) o) turn.1 (counted.counts (fti_of key)) in
          subst (λ (counts : List FtiCount). ftis_of counts ++ map (λ e. fti_of e.0) c.next.new.self ≡ map (λ e. fti_of e.0) c.args.self.now.counts.entries) (sym pushed)
          (one_told c.loop-key.ftis.items value (key, value) c.next.new.self c.args.self.now.counts.entries
          (subst (λ (es : List (Key × FtiCount)). ftis_of c.loop-key.ftis.items ++ map (λ e. fti_of e.0) es ≡ map (λ e. fti_of e.0) c.args.self.now.counts.entries) step
          (c.loop-key.invariant.named ftis counted)) at.0);
    }

pub returns : goal.returns
returns c = λ ftis counted.
    let gives = c.into_iter-key-iterator.ensures.into_iter_gives in
    let end = rw c.in-None.is at c.next.ensures.steps in
    let named : ftis_of c.loop-key.ftis.items ≡ map (λ e. fti_of e.0) c.args.self.now.counts.entries =
    sym (append-nil (ftis_of c.loop-key.ftis.items))
    ∙ sym (ap (λ (es : List (Key × FtiCount)). ftis_of c.loop-key.ftis.items ++ map (λ e. fti_of e.0) es) end.0) ∙ c.loop-key.invariant.named ftis counted in
    record {
      each = c.loop-key.invariant.each ftis counted;
      whole = whole_told c.loop-key.ftis.items c.args.self.now.counts named ftis counted.counts;
      rising = rising_told c.loop-key.ftis.items c.args.self.now.counts named gives.5;
    }
