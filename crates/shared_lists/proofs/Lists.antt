-- What the lists are that share their values.
use Rattle.std.specs.Prelude.{insert}
use Rattle.std.proofs.Common.{◌≡◌, ◌≢◌, ℕ, zero, suc, ◌+◌, ◌-◌, ◌<◌, ◌≤◌, List, [], ◌∷◌, ◌++◌, length, get_or, set, take, drop, refl, sym, ap, subst, ◌∙◌, arith}
use Rattle.std.proofs.Math.Seq.{take-length, drop-length}
use Rattle.std.proofs.lemmas.List.{length-drop, length-take-le, drop-drop, drop-append-le, take-append-le, take-append-drop, drop_at, take_at, take_more, length-append, append_assoc, take_all, take_rest}
use Rattle.std.proofs.lemmas.List.Edits.{insert-append_right}
use Rattle.shared_lists.specs.SharedLists.{list_in}
use Rattle.shared_lists.specs.Totals.{total}

pub total_behind : (ls : List ℕ) (m : ℕ) → total (ls ++ m ∷ []) ≡ total ls + m
total_behind [] m = omega arith
total_behind (n ∷ ls) m = let h = total_behind ls m in omega (arith, h)

-- one length more
pub total_more : (ls : List ℕ) (i : ℕ) → i < length ls → total (take (i + 1) ls) ≡ total (take i ls) + get_or ls i 0
total_more ls i lt = ap total (take_more ls i 0 lt) ∙ total_behind (take i ls) (get_or ls i 0)

pub total_front : (ls : List ℕ) (i : ℕ) → total (take i ls) ≤ total ls
total_front [] zero = omega arith
total_front [] (suc i) = omega arith
total_front (n ∷ ls) zero = omega arith
total_front (n ∷ ls) (suc i) = let h = total_front ls i in omega (arith, h)

pub total_set : (ls : List ℕ) (i : ℕ) → i < length ls → total (set ls i (get_or ls i 0 + 1)) ≡ total ls + 1
total_set [] i lt = absurd (omega (arith, lt))
total_set (n ∷ ls) zero lt = omega arith
total_set (n ∷ ls) (suc i) lt = let h = total_set ls i (omega (arith, lt)) in omega (arith, h)

module _ {T : Type 0} where
  -- the last list has the values behind those of the others
  pub last_list : (ls : List ℕ) (v : List T) → list_in ls v (length ls) ≡ drop (total ls) v
  last_list [] v = refl
  last_list (n ∷ ls) v = last_list ls (drop n v) ∙ drop-drop (total ls) n v

  -- one before it has as many as its length says
  pub one_list : (ls : List ℕ) (v : List T) (i : ℕ) → i < length ls → list_in ls v i ≡ take (get_or ls i 0) (drop (total (take i ls)) v)
  one_list [] v i lt = absurd (omega (arith, lt))
  one_list (n ∷ ls) v zero lt = refl
  one_list (n ∷ ls) v (suc i) lt = one_list ls (drop n v) i (omega (arith, lt)) ∙ ap (take (get_or ls i 0)) (drop-drop (total (take i ls)) n v)

  -- it ends within all values
  pub size_within : (ls : List ℕ) (v : List T) (i : ℕ) → i < length ls → total ls ≤ length v → total (take i ls) + get_or ls i 0 ≤ length v
  size_within ls v i lt le = let more = total_more ls i lt in let front = total_front ls (i + 1) in omega (arith, more, front, le)

  -- the last one as a part of all values
  pub rest_list : (ls : List ℕ) (v : List T) (i : ℕ) → length ls ≤ i → i ≤ length ls → list_in ls v i ≡ take (length v - total (take i ls)) (drop (total (take i ls)) v)
  rest_list ls v i ge le =
      ap (list_in ls v) {x = i} {y = length ls} (omega (arith, ge, le)) ∙ last_list ls v
      ∙ ap (λ (l : List ℕ). drop (total l) v) (sym (take_all i ls ge))
      ∙ sym (take_rest v (total (take i ls)))

  -- there is none behind it
  pub no_list : (ls : List ℕ) (v : List T) (i : ℕ) → length ls < i → list_in ls v i ≡ []
  no_list [] v zero lt = absurd (omega (arith, lt))
  no_list [] v (suc i) lt = refl
  no_list (n ∷ ls) v zero lt = absurd (omega (arith, lt))
  no_list (n ∷ ls) v (suc i) lt = no_list ls (drop n v) i (omega (arith, lt))

  -- where the last list gets its length, an empty one is behind it
  pub closed : (ls : List ℕ) (v : List T) → total ls ≤ length v → (m : ℕ) → m ≡ length v - total ls → (i : ℕ) → list_in (ls ++ m ∷ []) v i ≡ list_in ls v i
  closed [] v le m is zero = ap (λ (n : ℕ). take n v) {x = m} {y = length v} (omega (arith, is)) ∙ take-length v
  closed [] v le m is (suc zero) = ap (λ (n : ℕ). drop n v) {x = m} {y = length v} (omega (arith, is)) ∙ drop-length v
  closed [] v le m is (suc (suc i)) = refl
  closed (n ∷ ls) v le m is zero = refl
  closed (n ∷ ls) v le m is (suc i) = let len = length-drop n v in closed ls (drop n v) (omega (arith, len, le)) m (omega (arith, len, le, is)) i

  module _ (ls : List ℕ) (v : List T) (m n : ℕ) (le : total ls ≤ length v) (ge : length ls ≤ n) (is : m ≡ length v - total (take n ls)) where
    all : total (take n ls) ≡ total ls
    all = ap total (take_all n ls ge)

    pub closed_same : (i : ℕ) → list_in (ls ++ m ∷ []) v i ≡ list_in ls v i
    closed_same i = closed ls v le m (is ∙ ap (λ (t : ℕ). length v - t) all) i

    pub closed_within : total (ls ++ m ∷ []) ≤ length v
    closed_within = let more = total_behind ls m in omega (arith, more, is, all, le)

  module _ (x : T) where
    -- a value is put last
    pub last_more : (ls : List ℕ) (v : List T) → total ls ≤ length v → list_in ls (v ++ x ∷ []) (length ls) ≡ list_in ls v (length ls) ++ x ∷ []
    last_more ls v le = last_list ls (v ++ x ∷ []) ∙ drop-append-le (total ls) v (x ∷ []) le ∙ ap (λ (l : List T). l ++ x ∷ []) (sym (last_list ls v))

    pub last_at : (ls : List ℕ) (v : List T) (i : ℕ) → length ls ≤ i → i ≤ length ls → total ls ≤ length v → list_in ls (v ++ x ∷ []) i ≡ list_in ls v i ++ x ∷ []
    last_at ls v i ge most le = subst (λ (n : ℕ). list_in ls (v ++ x ∷ []) n ≡ list_in ls v n ++ x ∷ []) {x = length ls} {y = i} (omega (arith, ge, most)) (last_more ls v le)

    pub last_others : (ls : List ℕ) (v : List T) → total ls ≤ length v → (j : ℕ) → length ls ≢ j → list_in ls (v ++ x ∷ []) j ≡ list_in ls v j
    last_others [] v le zero ne = absurd (ne refl)
    last_others [] v le (suc j) ne = refl
    last_others (n ∷ ls) v le zero ne = take-append-le n v (x ∷ []) (omega (arith, le))
    last_others (n ∷ ls) v le (suc j) ne =
        let len = length-drop n v in
        ap (λ (l : List T). list_in ls l j) (drop-append-le n v (x ∷ []) (omega (arith, le)))
        ∙ last_others ls (drop n v) (omega (arith, len, le)) j (λ e. ne (ap suc e))

    module _ (n at : ℕ) (v : List T) (le : n ≤ length v) where
      -- it is put behind the first list
      parted : insert v (n + at) x ≡ take n v ++ insert (drop n v) at x
      parted =
          ap (λ (l : List T). insert l (n + at) x) (sym (take-append-drop n v))
          ∙ insert-append_right (take n v) (drop n v) n (n + at) x (length-take-le n v le) (omega arith)
          ∙ ap (λ (m : ℕ). take n v ++ insert (drop n v) m x) {x = n + at - n} {y = at} (omega arith)

      dropped : drop n (insert v (n + at) x) ≡ insert (drop n v) at x
      dropped = ap (drop n) parted ∙ drop_at (take n v) (insert (drop n v) at x) n (length-take-le n v le)

      taken : take n (insert v (n + at) x) ≡ take n v
      taken = ap (take n) parted ∙ take_at (take n v) (insert (drop n v) at x) n (length-take-le n v le)

    -- what is put behind the first list of all is its last
    module _ (n : ℕ) (v : List T) (le : n ≤ length v) where
      apart : insert v n x ≡ (take n v ++ x ∷ []) ++ drop n v
      apart = sym (append_assoc (take n v) (x ∷ []) (drop n v))

      size : length (take n v ++ x ∷ []) ≡ n + 1
      size = length-append (take n v) (x ∷ []) ∙ ap (λ (m : ℕ). m + 1) (length-take-le n v le)

      first_taken : take (n + 1) (insert v n x) ≡ take n v ++ x ∷ []
      first_taken = ap (take (n + 1)) apart ∙ take_at (take n v ++ x ∷ []) (drop n v) (n + 1) size

      first_dropped : drop (n + 1) (insert v n x) ≡ drop n v
      first_dropped = ap (drop (n + 1)) apart ∙ drop_at (take n v ++ x ∷ []) (drop n v) (n + 1) size

    -- a value is put behind a list that others follow
    pub put_here : (ls : List ℕ) (v : List T) (i at : ℕ) → i < length ls → total ls ≤ length v → at ≡ total (take i ls) + get_or ls i 0
        → list_in (set ls i (get_or ls i 0 + 1)) (insert v at x) i ≡ list_in ls v i ++ x ∷ []
    put_here [] v i at lt le is = absurd (omega (arith, lt))
    put_here (n ∷ ls) v zero at lt le is =
        ap (λ (m : ℕ). take (n + 1) (insert v m x)) {x = at} {y = n} (omega (arith, is)) ∙ first_taken n v (omega (arith, le))
    put_here (n ∷ ls) v (suc i) at lt le is =
        let len = length-drop n v in
        ap (λ (m : ℕ). list_in (set ls i (get_or ls i 0 + 1)) (drop n (insert v m x)) i) {x = at} {y = n + (total (take i ls) + get_or ls i 0)} (omega (arith, is))
        ∙ ap (λ (l : List T). list_in (set ls i (get_or ls i 0 + 1)) l i) (dropped n (total (take i ls) + get_or ls i 0) v (omega (arith, le)))
        ∙ put_here ls (drop n v) i (total (take i ls) + get_or ls i 0) (omega (arith, lt)) (omega (arith, len, le)) refl

    pub put_others : (ls : List ℕ) (v : List T) (i at : ℕ) → i < length ls → total ls ≤ length v → at ≡ total (take i ls) + get_or ls i 0 → (j : ℕ) → i ≢ j
        → list_in (set ls i (get_or ls i 0 + 1)) (insert v at x) j ≡ list_in ls v j
    put_others [] v i at lt le is j ne = absurd (omega (arith, lt))
    put_others (n ∷ ls) v zero at lt le is zero ne = absurd (ne refl)
    put_others (n ∷ ls) v zero at lt le is (suc j) ne =
        ap (λ (m : ℕ). list_in ls (drop (n + 1) (insert v m x)) j) {x = at} {y = n} (omega (arith, is))
        ∙ ap (λ (l : List T). list_in ls l j) (first_dropped n v (omega (arith, le)))
    put_others (n ∷ ls) v (suc i) at lt le is zero ne =
        ap (λ (m : ℕ). take n (insert v m x)) {x = at} {y = n + (total (take i ls) + get_or ls i 0)} (omega (arith, is)) ∙ taken n (total (take i ls) + get_or ls i 0) v (omega (arith, le))
    put_others (n ∷ ls) v (suc i) at lt le is (suc j) ne =
        let len = length-drop n v in
        ap (λ (m : ℕ). list_in (set ls i (get_or ls i 0 + 1)) (drop n (insert v m x)) j) {x = at} {y = n + (total (take i ls) + get_or ls i 0)} (omega (arith, is))
        ∙ ap (λ (l : List T). list_in (set ls i (get_or ls i 0 + 1)) l j) (dropped n (total (take i ls) + get_or ls i 0) v (omega (arith, le)))
        ∙ put_others ls (drop n v) i (total (take i ls) + get_or ls i 0) (omega (arith, lt)) (omega (arith, len, le)) refl j (λ e. ne (ap suc e))
