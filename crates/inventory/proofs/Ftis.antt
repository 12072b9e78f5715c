-- FTIs, counted and told.
use Rattle.std.specs.Prelude.{◌&&◌, ◌==◌, cond, count_by, Contains, slice_get}
use Rattle.std.specs.BTreeMap.{BTreeMap, get, IsOrdered, keys}
use Rattle.std.specs.Cmp.{IsEquivalence, IsTotalOrder}
use Rattle.std.specs.List.{AllByRecursion}
use Rattle.std.specs.List.Sorted.{IsStrictlySortedBy}
use Rattle.std.specs.Ordering.{eq_by_cmp, is_eq}
use Rattle.std.specs.declared.cmp.Ordering.TheVariants.{Less}
use Rattle.std.proofs.Common.{◌≡◌, ◌≢◌, ◌<◌, ◌≤◌, ◌∙◌, ◌+◌, ℕ, suc, zero, Bool, true, false, List, [], ◌∷◌, ◌++◌, map, length, Option, Some, None, refl, sym, ap, subst, arith, append_assoc}
use Rattle.std.specs.Prelude.{IsSome}
use Rattle.std.proofs.lemmas.List.{append-nil, map-append, length-map}
use Rattle.std.proofs.Math.ListN.{get_or-map}
use Rattle.std.proofs.lemmas.Cmp.{eq_by_cmp_equiv, then_total, on_total}
use Rattle.std.proofs.lemmas.Map.Lookups.{CmpEqualImpliesEq, exact_pairs}
use Rattle.std.proofs.lemmas.List.Sums.{sum_by-append}
use Rattle.std.proofs.lemmas.Map.Views.{tells_apart, Contains-keys_from_lookup}
use Rattle.partition.specs.Fti.{Fti}
use Rattle.reception.specs.Reception.{same_fti}
use Rattle.inventory.specs.Parts.{IsFtiCount, fti_cmp, ftis_of}
use Rattle.inventory.specs.Tally.{Key, key_of, fti_of, key_cmp, pair_cmp, IsCountedAt}
use Rattle.inventory.specs.declared.part.FtiCount.{FtiCount}
use Rattle.inventory.proofs.Pairs.{pair_total, pair_exact, both_equal, same_is}
use Rattle.inventory.proofs.Steps.{count_push, same_itself}

pub key_total : IsTotalOrder key_cmp
key_total = then_total (on_total (λ (k : Key). k.0) pair_total) (on_total (λ (k : Key). k.1) pair_total)

pub key_exact : CmpEqualImpliesEq key_cmp
key_exact = exact_pairs pair_cmp pair_cmp pair_exact pair_exact

in_pairs : (a b c d : Bool) → ((a && b) && (c && d)) ≡ (((a && b) && c) && d)
in_pairs true true c d = refl
in_pairs true false c d = refl
in_pairs false b c d = refl

-- two FTIs have one key where they are the same
pub same_key : (f g : Fti) → is_eq (key_cmp (key_of f) (key_of g)) ≡ same_fti f g
same_key f g =
    both_equal (pair_cmp (key_of f).0 (key_of g).0) (pair_cmp (key_of f).1 (key_of g).1)
    ∙ rw (same_is (key_of f).0 (key_of g).0, same_is (key_of f).1 (key_of g).1)
    (in_pairs (f.transfer_length == g.transfer_length) (f.symbol_length == g.symbol_length) (f.block_length == g.block_length) (f.max_symbols == g.max_symbols))

key_laws : IsEquivalence (eq_by_cmp key_cmp)
key_laws = eq_by_cmp_equiv key_total

same_turned : (f g : Fti) → same_fti f g ≡ same_fti g f
same_turned f g = sym (same_key f g) ∙ key_laws.symm (key_of f) (key_of g) ∙ same_key g f

one_fti : (f g : Fti) → same_fti f g ≡ true → f ≡ g
one_fti f g same = ap fti_of (tells_apart key_exact (key_of f) (key_of g) (same_key f g ∙ same))

-- ---- one more

stays_counted : (ftis : List Fti) (x f : Fti) (o : Option FtiCount) → count_by (same_fti f) (ftis ++ x ∷ []) ≡ count_by (same_fti f) ftis → IsCountedAt ftis f o → IsCountedAt (ftis ++ x ∷ []) f o
stays_counted ftis x f None same none = same ∙ none
stays_counted ftis x f (Some counted) same (is, has) = (
  is,
  record {
    count = has.count ∙ ap (λ (g : Fti). count_by (same_fti g) ftis) is ∙ sym same ∙ sym (ap (λ (g : Fti). count_by (same_fti g) (ftis ++ x ∷ [])) is);
    some = has.some;
  },
)

module _ (ftis : List Fti) (x : Fti) (old new : BTreeMap Key FtiCount) (before carriers : ℕ)
    (puts : (q : Key) → get key_cmp new q ≡ cond (is_eq (key_cmp (key_of x) q)) (Some (record { fti = x; carriers = carriers })) (get key_cmp old q))
    (counted : (f : Fti) → IsCountedAt ftis f (get key_cmp old (key_of f))) (was : before ≡ count_by (same_fti x) ftis) (more : carriers ≡ before + 1) where
  here : IsCountedAt (ftis ++ x ∷ []) x (get key_cmp new (key_of x))
  here =
      let pushed = count_push x ftis x ∙ ap (λ (b : Bool). count_by (same_fti x) ftis + cond b 1 0) (same_itself x) in
      let got : get key_cmp new (key_of x) ≡ Some (record { fti = x; carriers = carriers }) =
      puts (key_of x) ∙ ap (λ (b : Bool). cond b (Some (record { fti = x; carriers = carriers })) (get key_cmp old (key_of x))) (same_key x x ∙ same_itself x) in
      subst (λ (o : Option FtiCount). IsCountedAt (ftis ++ x ∷ []) x o) (sym got) (refl, record { count = omega (arith, pushed, was, more); some = omega (arith, more) })

  pub counted_more : (f : Fti) → IsCountedAt (ftis ++ x ∷ []) f (get key_cmp new (key_of f))
  counted_more f = go (same_fti x f) refl
    where
      go : (b : Bool) → same_fti x f ≡ b → IsCountedAt (ftis ++ x ∷ []) f (get key_cmp new (key_of f))
      go true is = subst (λ (g : Fti). IsCountedAt (ftis ++ x ∷ []) g (get key_cmp new (key_of g))) (one_fti x f is) here
      go false is =
          let kept = puts (key_of f) ∙ ap (λ (b : Bool). cond b (Some (record { fti = x; carriers = carriers })) (get key_cmp old (key_of f))) (same_key x f ∙ is) in
          let pushed = count_push f ftis x ∙ ap (λ (b : Bool). count_by (same_fti f) ftis + cond b 1 0) (same_turned f x ∙ is) in
          let same : count_by (same_fti f) (ftis ++ x ∷ []) ≡ count_by (same_fti f) ftis = omega (arith, pushed) in
          subst (λ (o : Option FtiCount). IsCountedAt (ftis ++ x ∷ []) f o) (sym kept) (stays_counted ftis x f (get key_cmp old (key_of f)) same (counted f))

-- how many were counted before
pub counted_before : (ftis : List Fti) (x : Fti) (o : Option FtiCount) (counted : FtiCount) (before : ℕ) → IsCountedAt ftis x o → o ≡ Some counted → before ≡ counted.carriers → before ≡ count_by (same_fti x) ftis
counted_before ftis x None counted before at is n = absurd (cc)
counted_before ftis x (Some c) counted before (same, has) is n =
    let one : c ≡ counted = cc in
    n ∙ sym (ap (λ (d : FtiCount). d.carriers) one) ∙ has.count ∙ ap (λ (g : Fti). count_by (same_fti g) ftis) same

pub none_before : (ftis : List Fti) (x : Fti) (o : Option FtiCount) (before : ℕ) → IsCountedAt ftis x o → o ≡ None → before ≡ 0 → before ≡ count_by (same_fti x) ftis
none_before ftis x None before at is n = n ∙ sym at
none_before ftis x (Some c) before at is n = absurd (cc)

-- one that occurs is counted
some_counted : (f : Fti) (ftis : List Fti) → Contains ftis f → count_by (same_fti f) ftis ≡ 0 → ⊥
some_counted f [] (i, l, is) none = omega (arith, l)
some_counted f (g ∷ gs) (zero, l, is) none =
    let first : same_fti f g ≡ true = ap (same_fti f) is ∙ same_itself f in
    let split = sum_by-append (λ (h : Fti). cond (same_fti f h) 1 0) (g ∷ []) gs in
    let one : cond {A = ℕ} (same_fti f g) 1 0 ≡ 1 = ap (λ (b : Bool). cond {A = ℕ} b 1 0) first in
    omega (arith, split, one, none)
some_counted f (g ∷ gs) (suc i, l, is) none =
    let split = sum_by-append (λ (h : Fti). cond (same_fti f h) 1 0) (g ∷ []) gs in
    some_counted f gs (i, omega (arith, l), is) (omega (arith, split, none))

-- ---- told

module _ (counts : List FtiCount) (counted : FtiCount) (e : Key × FtiCount) (rest entries : List (Key × FtiCount)) where
  pub one_told : ftis_of counts ++ map (λ x. fti_of x.0) (e ∷ rest) ≡ map (λ x. fti_of x.0) entries → counted.fti ≡ fti_of e.0
      → ftis_of (counts ++ counted ∷ []) ++ map (λ x. fti_of x.0) rest ≡ map (λ x. fti_of x.0) entries
  one_told before named =
      ap (λ (t : List Fti). t ++ map (λ (x : Key × FtiCount). fti_of x.0) rest) (map-append (λ (c : FtiCount). c.fti) counts (counted ∷ []) ∙ ap (λ (f : Fti). ftis_of counts ++ f ∷ []) named)
      ∙ append_assoc (ftis_of counts) (fti_of e.0 ∷ []) (map (λ (x : Key × FtiCount). fti_of x.0) rest) ∙ before

rising_ftis : (ks : List Key) → IsStrictlySortedBy key_cmp ks → IsStrictlySortedBy fti_cmp (map fti_of ks)
unfolding IsStrictlySortedBy
rising_ftis [] rises = tt
rising_ftis (k ∷ ks) rises = (go ks rises.0, rising_ftis ks rises.1)
  where
    go : (js : List Key) → AllByRecursion (λ j. key_cmp k j ≡ Less) js → AllByRecursion (λ f. fti_cmp (fti_of k) f ≡ Less) (map fti_of js)
    go [] all = tt
    go (j ∷ js) all = (all.0, go js all.1)

keys_told : (es : List (Key × FtiCount)) → map fti_of (map (λ e. e.0) es) ≡ map (λ e. fti_of e.0) es
keys_told [] = refl
keys_told (e ∷ es) = ap (λ (t : List Fti). fti_of e.0 ∷ t) (keys_told es)

module _ (counts : List FtiCount) (m : BTreeMap Key FtiCount) (are : ftis_of counts ≡ map (λ e. fti_of e.0) m.entries) where
  pub rising_told : IsOrdered key_cmp m → IsStrictlySortedBy fti_cmp (ftis_of counts)
  rising_told ordered = subst (λ (fs : List Fti). IsStrictlySortedBy fti_cmp fs) (keys_told m.entries ∙ sym are) (rising_ftis (keys m) ordered)

  pub whole_told : (ftis : List Fti) → ((f : Fti) → IsCountedAt ftis f (get key_cmp m (key_of f))) → (f : Fti) → Contains ftis f → Contains (ftis_of counts) f
  whole_told ftis counted f among =
      subst (λ (fs : List Fti). Contains fs f) (keys_told m.entries ∙ sym are)
      (contains_fti (key_of f) (keys m) (Contains-keys_from_lookup (tells_apart key_exact) (key_of f) m.entries (there (get key_cmp m (key_of f)) (counted f))))
    where
      contains_fti : (k : Key) (ks : List Key) → Contains ks k → Contains (map fti_of ks) (fti_of k)
      contains_fti k ks (i, l, is) = (i, (let count = length-map ks fti_of in omega (arith, count, l)), get_or-map fti_of ks i k ∙ ap fti_of is)

      there : (o : Option FtiCount) → IsCountedAt ftis f o → IsSome o
      there None none = absurd (some_counted f ftis among none)
      there (Some c) at = refl

-- the first carrier's FTI
pub first_after : (ftis : List Fti) (x : Fti) (n : ℕ) (o : Option Fti) → n ≡ length ftis → o ≡ slice_get ftis 0 → (n ≡ 0 → Some x ≡ slice_get (ftis ++ x ∷ []) 0) × (n ≢ 0 → o ≡ slice_get (ftis ++ x ∷ []) 0)
first_after [] x n o many is = (λ _. refl, λ some. absurd (some many))
first_after (f ∷ fs) x n o many is = (λ none. absurd (omega (arith, many, none)), λ _. is)
