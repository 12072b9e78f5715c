use Rattle.std.proofs.Common.{◌≡◌, ◌≤◌, ◌+◌, ◌∙◌, ℕ, List, Option, length, sym, ap, subst, arith}
use Rattle.std.specs.Prelude.{Some, None, count_by, option_map, slice_get}
use Rattle.std.specs.BTreeMap.{get}
use Rattle.std.proofs.lemmas.List.{length_push}
use Rattle.std.proofs.lemmas.List.Sums.{count_by-le-length}
use Rattle.partition.specs.Fti.{Fti}
use Rattle.reception.specs.Reception.{same_fti}
use Rattle.std.specs.Prelude.{cond}
use Rattle.std.specs.Ordering.{is_eq}
use Rattle.inventory.specs.Tally.{Key, key_of, key_cmp, IsCountedAt}
use Rattle.inventory.specs.declared.carriers.Carriers.{Carriers}
use Rattle.inventory.specs.declared.part.FtiCount.{FtiCount}
use Rattle.inventory.proofs.Ftis.{counted_more, counted_before, none_before, first_after}
use Rattle.inventory.proofs.carriers.Carriers.note.Goals as goal
use Rattle.inventory.proofs.carriers.Carriers.note.Goals.{in-Some, in-None, then-self-eq0, else-self-eq0}

pub returns-clause-counted : goal.returns-clause-counted
returns-clause-counted c = λ ftis counted.
    let x : Fti = c.args.fti in
    let longer = length_push ftis x in
    let e = c.key_of-key.ensures in
    let same : c.match-get.self ≡ c.args.self.now = elim c.match-get.branch [
      | in-Some w ↦ w.self-is
      | in-None w ↦ w.self-is
    ] in
    let there = subst (λ (k : Key). IsCountedAt ftis c.args.fti (get key_cmp c.args.self.now.counts k)) (sym e) (counted.counts x) in
    let was : c.match-get.before ≡ count_by (same_fti c.args.fti) ftis = elim c.match-get.branch [
      | in-Some w ↦ counted_before ftis x (get key_cmp c.args.self.now.counts c.key_of-key.result) w.in-Some.counted.now c.match-get.before there (sym w.in-Some.ensures.value) w.before-is
      | in-None w ↦ none_before ftis x (get key_cmp c.args.self.now.counts c.key_of-key.result) c.match-get.before there (sym w.in-None.ensures.value) w.before-is
    ] in
    let carriers : ℕ = c.saturating_add-carriers.result in
    let few = count_by-le-length (same_fti c.args.fti) ftis in
    let sum = c.saturating_add-carriers.ensures in
    let before = counted.count in
    let more : c.saturating_add-carriers.result ≡ c.match-get.before + 1 = omega (arith, sum, few, was, before, c.requires) in
    let updates = c.in_ok-insert.ensures.updates in
    let value : Option FtiCount = Some (record { fti = x; carriers = carriers }) in
    let puts : (q : Key) → get key_cmp c.insert.new.self q ≡ cond (is_eq (key_cmp (key_of c.args.fti) q)) (Some (record { fti = c.args.fti; carriers = c.saturating_add-carriers.result })) (get key_cmp c.args.self.now.counts q) =
    λ q. updates.0 q ∙ ap (λ (k : Key). cond (is_eq (key_cmp k q)) value (get key_cmp c.match-get.self.counts q)) e
    ∙ ap (λ (s : Carriers). cond (is_eq (key_cmp (key_of x) q)) value (get key_cmp s.counts q)) same in
    let all = counted_more ftis x c.args.self.now.counts c.insert.new.self c.match-get.before carriers puts counted.counts was more in
    let many : c.match-get.self.count ≡ length ftis = ap (λ (s : Carriers). s.count) same ∙ counted.count in
    let first = first_after ftis x c.match-get.self.count c.match-get.self.first many (ap (λ (s : Carriers). s.first) same ∙ counted.first) in
    elim c.if-self-eq0.branch [
      | then-self-eq0 w ↦ rw w.self-is (record { count = omega (arith, longer, many); first = first.0 w.if-self-eq0.true; counts = all })
      | else-self-eq0 w ↦ rw w.self-is (record { count = omega (arith, longer, many); first = first.1 (λ e. let bad = w.if-self-eq0.false in omega (arith, e, bad)); counts = all })
    ]
