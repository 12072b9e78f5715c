-- From the weights of blocks to the figures.
use Rattle.std.proofs.Common.{◌≡◌, ℕ, ◌+◌, ◌<◌, ◌≤◌, true, false, List, nat_lt, length, refl, ap, sym, ◌∙◌, arith, subst, ltb-true}
use Rattle.std.proofs.lemmas.Bool.{ltb-false}
use Rattle.losses.proofs.Block.{cheap, cost, some_copies, some_total}
use Rattle.lists.proofs.Lists.{filter_all}
use Rattle.losses.proofs.Margins.{IsCut}
use Rattle.losses.proofs.Narrowest.{members_between, present_all}
use Rattle.losses.proofs.Weights.{cheap_are, cost_are}
use Rattle.losses.specs.Costs.{IsWeighed, copies, is_cheap}
use Rattle.losses.specs.Windows.{ArePlaced, members}
use Rattle.losses.specs.Numbers.{present}
use Rattle.losses.specs.declared.groups.Member.{Member}
use Rattle.losses.specs.Number.{Number}

-- what a block's members give its check
pub group_placed : (b : ℕ) (ps : List Number) (qs : List Member) → qs ≡ members b 0 ps → ArePlaced qs
group_placed b ps qs is = subst (λ (xs : List Member). ArePlaced xs) (sym is) ((members_between b 0 (length ps) ps (omega arith)).placed)

module _ (b k price t last : ℕ) (ps : List Number) (w : IsWeighed (members b 0 ps) k price t last) where
  pub cut_of : IsCut b k ps t last
  cut_of =
      let a = present_all b ps in
      let e = ap (λ (xs : List ℕ). length xs) (cheap_are b ps t last) in
      let n = w.count in
      record { count = omega (arith, a, e, n) }

  pub price_of : price ≡ cost b t last ps
  price_of = w.price ∙ cost_are b ps t last

  pub some_price : k ≤ length (present b ps) → 1 ≤ price
  some_price enough =
      let c = cut_of.count in
      let p = price_of in
      let s = some_total (copies b ps) (cheap b t last ps) (filter_all (λ j. 1 ≤ copies b ps j) (is_cheap (copies b ps) t last) (present b ps) (some_copies b ps)) (omega (arith, c, enough)) in
      omega (arith, p, s)

pub last_or : (P : ℕ → Type 0) (n : ℕ) → ((b : ℕ) → b < n → P b) → P n → (b : ℕ) → b < n + 1 → P b
last_or P n h here b l =
    elim (nat_lt b n) as (λ v. nat_lt b n ≡ v → P b) [
      | true ↦ λ e. h b (ltb-true b n e)
      | false ↦ λ e. (let g = ltb-false b n e in let is : n ≡ b = omega (arith, l, g) in subst P is here)
    ] refl
