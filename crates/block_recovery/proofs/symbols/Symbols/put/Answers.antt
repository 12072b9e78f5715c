use Rattle.std.specs.BTreeMap.{get}
use Rattle.std.specs.Ordering.{nat_cmp}
use Rattle.std.proofs.Common.{◌≡◌, ◌∙◌, ℕ, List, Option, sym, ap, subst, refl, rules}
use Rattle.std.specs.List.{Contains}
use Rattle.std.proofs.lemmas.Result.{IfOk-weaker}
use Rattle.shared_lists.specs.SharedLists.{list_at}
use Rattle.block_recovery.specs.Arrivals.{arrived_at}
use Rattle.block_recovery.specs.Received.{list_of, listed}
use Rattle.block_recovery.specs.declared.arrivals.Arrival.{Arrival}
use Rattle.block_recovery.specs.declared.shared_arrivals.SharedArrivals.{SharedArrivals}
use Rattle.block_recovery.proofs.Arrived.{more_here, more_elsewhere, list_more, list_others, list_same}
use Rattle.block_recovery.proofs.Results.{either_way, if_ok_some}
use Rattle.block_recovery.proofs.symbols.Symbols.put.Goals as goal

pub returns-in-Some-clause-here : goal.returns-in-Some-clause-here
returns-in-Some-clause-here g c =
    let a : Arrival g.row.S.Denot = record { esi = c.args.esi; symbol = c.args.symbol } in
    let updates = (c.get_mut.follows.holds c.put.new.self).3 (search rules) in
    let s = c.args.self.now in
    IfOk-weaker c.put.result _ _
    (λ o pushed none held.
    more_here held (list_of s c.args.block) _ a
    (list_more s.sharing s.shares (c.get_mut.follows.lender c.put.new.self) c.args.block c.share-share.result c.index-index.result c.share-share.ensures c.index-index.ensures
    c.put.new.self (list_at c.in-Some.arrivals.now.lists) (λ i. ap (λ (o : Option (SharedArrivals g.row.S.Denot)). listed o i) (sym c.in-Some.ensures.value)) updates.1 updates.2
    c.put.ensures.others a (pushed none)))
    c.put.ensures.pushed

pub returns-in-Some-clause-elsewhere : goal.returns-in-Some-clause-elsewhere
returns-in-Some-clause-elsewhere g c =
    let a : Arrival g.row.S.Denot = record { esi = c.args.esi; symbol = c.args.symbol } in
    let updates = (c.get_mut.follows.holds c.put.new.self).3 (search rules) in
    let s = c.args.self.now in
    let new = c.get_mut.follows.lender c.put.new.self in
    let was : (i : ℕ) → listed (get nat_cmp s.shares c.share-share.result) i ≡ list_at c.in-Some.arrivals.now.lists i = λ i. ap (λ (o : Option (SharedArrivals g.row.S.Denot)). listed o i) (sym c.in-Some.ensures.value) in
    either_way _ _ _ c.put.result
    (λ pushed held.
    more_elsewhere held (list_of s) (list_of (record { sharing = s.sharing; shares = new })) c.args.block a
    (list_more s.sharing s.shares new c.args.block c.share-share.result c.index-index.result c.share-share.ensures c.index-index.ensures
    c.put.new.self (list_at c.in-Some.arrivals.now.lists) was updates.1 updates.2 c.put.ensures.others a pushed)
    (list_others s.sharing s.shares new c.args.block c.share-share.result c.index-index.result c.share-share.ensures c.index-index.ensures
    c.put.new.self (list_at c.in-Some.arrivals.now.lists) was updates.1 updates.2 c.put.ensures.others))
    (λ same held b j other.
    ap (λ (l : List (Arrival g.row.S.Denot)). arrived_at held l j)
    (list_same s.sharing s.shares new c.args.block c.share-share.result c.index-index.result c.share-share.ensures c.index-index.ensures
    c.put.new.self (list_at c.in-Some.arrivals.now.lists) was updates.1 updates.2 c.put.ensures.others same b))
    c.put.ensures.pushed c.put.ensures.stays

pub returns-in-Some-clause-earlier : goal.returns-in-Some-clause-earlier
returns-in-Some-clause-earlier g c =
    let s = c.args.self.now in
    let was : (i : ℕ) → listed (get nat_cmp s.shares c.share-share.result) i ≡ list_at c.in-Some.arrivals.now.lists i = λ i. ap (λ (o : Option (SharedArrivals g.row.S.Denot)). listed o i) (sym c.in-Some.ensures.value) in
    let here : list_at c.in-Some.arrivals.now.lists c.index-index.result ≡ list_of s c.args.block =
    sym (was c.index-index.result) ∙ rw (c.share-share.ensures, c.index-index.ensures) refl in
    if_ok_some _ _ c.put.result
    (λ found w. (
      λ held. ap (λ (l : List (Arrival g.row.S.Denot)). arrived_at held l c.args.esi) (sym here) ∙ w.0 held,
      subst (λ (l : List (Arrival g.row.S.Denot)). Contains l (record { esi = c.args.esi; symbol = found })) here w.1,
    ))
    c.put.ensures.earlier
