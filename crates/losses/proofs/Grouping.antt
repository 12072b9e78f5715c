-- The members of a block tell which of its symbols are there.
use Rattle.std.proofs.Common.{◌≡◌, ℕ, ◌+◌, Bool, true, false, ◌&&◌, ◌||◌, cond, List, [], ◌∷◌, nat_lt, refl, sym, ap, ◌∙◌, arith, count_by}
use Rattle.std.specs.Prelude.{◌==◌}
use Rattle.std.specs.List.{list_any}
use Rattle.std.proofs.lemmas.Bool.{lt-ltb, le-ltb}
use Rattle.std.proofs.lemmas.List.Sums.{sum_by-cons}
use Rattle.losses.specs.Number.{Number}
use Rattle.losses.specs.declared.groups.Member.{Member}
use Rattle.losses.specs.Numbers.{has}
use Rattle.losses.specs.Members.{has_esi}
use Rattle.losses.specs.Windows.{member, members}

pub has_members : (b j i : ℕ) (ps : List Number) → has b ps j ≡ list_any (has_esi j) (members b i ps)
has_members b j i [] = refl
has_members b j i (p ∷ ps) =
    let e = has_members b j (i + 1) ps in
    elim (p.block == b) as (λ v. ((v && p.esi == j) || has b ps j) ≡ list_any (has_esi j) (cond v (member i p.esi ∷ members b (i + 1) ps) (members b (i + 1) ps))) [
      | true ↦ ap (λ (v : Bool). (p.esi == j) || v) e
      | false ↦ e
    ]

pub count_cons : (p : Member → Bool) (q : Member) (qs : List Member) → count_by p (q ∷ qs) ≡ cond (p q) 1 0 + count_by p qs
count_cons p q qs = sum_by-cons (λ z. cond (p z) 1 0) q qs

pub any_is : (p : Member → Bool) (qs : List Member) → list_any p qs ≡ nat_lt 0 (count_by p qs)
any_is p [] = sym (le-ltb 0 0 (omega arith))
any_is p (q ∷ qs) =
    let e = any_is p qs in
    let d = count_cons p q qs in
    ap (λ (v : Bool). p q || v) e
    ∙ (elim (p q) as (λ v. (v || nat_lt 0 (count_by p qs)) ≡ nat_lt 0 (cond v 1 0 + count_by p qs)) [
      | true ↦ sym (lt-ltb 0 (1 + count_by p qs) (omega arith))
      | false ↦ ap (nat_lt 0) (let z : count_by p qs ≡ 0 + count_by p qs = omega arith in z)
    ])
    ∙ ap (nat_lt 0) (sym d)
