-- Values in front of what a buffer held.
use Rattle.std.proofs.Common.{◌≡◌, ◌<◌, ◌+◌, ℕ, suc, List, [], ◌∷◌, ◌++◌, take, drop, length, get_or, set, min, sym, ap, ◌∙◌, arith}
use Rattle.std.proofs.lemmas.List.{append_assoc, length-take-le, take_more}
use Rattle.std.proofs.Math.Seq.{set-append_seam, drop-cons}
use Rattle.std.proofs.lemmas.Grind.{common_steps}
use Rattle.alcrs_c.specs.Statuses.{in_front}

-- one value more
pub one_more : {X : Type 0} → (xs held : List X) (i : ℕ) (x : X) → i < length xs → i < length held → x ≡ get_or xs i x
    → set (take i xs ++ drop i held) i x ≡ take (i + 1) xs ++ drop (i + 1) held
one_more {X = X} xs held i x l m e =
    let front : List X = take i xs in
    let behind : List X = drop (i + 1) held in
    let size : length front ≡ i = length-take-le i xs (omega (arith, l)) in
    let next : suc i ≡ i + 1 = omega arith in
    let from : drop i held ≡ get_or held i x ∷ behind = drop-cons held i x m ∙ ap (λ (n : ℕ). get_or held i x ∷ drop n held) next in
    let put : set (front ++ drop i held) i x ≡ front ++ x ∷ behind =
    ap (λ (ys : List X). set (front ++ ys) i x) from ∙ ap (λ (n : ℕ). set (front ++ get_or held i x ∷ behind) n x) (sym size) ∙ set-append_seam front (get_or held i x) behind x in
    let more : take (i + 1) xs ≡ front ++ x ∷ [] = take_more xs i x l ∙ ap (λ (y : X). front ++ y ∷ []) (sym e) in
    put ∙ sym (append_assoc front (x ∷ []) behind) ∙ ap (λ (ys : List X). ys ++ behind) (sym more)

-- as many as there is room for
pub all_put : {X : Type 0} → (xs held : List X) (i : ℕ) → i ≡ min (length held) (length xs) → take i xs ++ drop i held ≡ in_front xs held
all_put xs held i e = grind (arith, common_steps) steps 2000000
