-- Bytes that are put to a block that is held in memory.
use Rattle.std.specs.Prelude.{Option, Some, None, MatchOption}
use Rattle.std.specs.BTreeMap.{BTreeMap, get}
use Rattle.std.specs.Global.{Vec}
use Rattle.std.specs.Ordering.{is_eq, nat_cmp}
use Rattle.std.proofs.Common.{◌≡◌, ◌≢◌, ◌∙◌, ◌+◌, ◌++◌, ℕ, false, List, length, take, ap, sym, refl, inl, inr, arith}
use Rattle.std.proofs.lemmas.Bool.{cases_order, le-ltb, lt-ltb, ne_eqb}
use Rattle.block_bytes.specs.Bytes.{Becomes}
use Rattle.block_bytes.specs.Held.{bytes_or_none, bytes_in}

-- where there was no map, the one that there is now is empty
pub was_in : {P : Type 0} (old : Option (BTreeMap ℕ (Vec ℕ))) (now : BTreeMap ℕ (Vec ℕ)) → (P → (a : ℕ) → get nat_cmp now a ≡ None) → MatchOption old P (λ x. now ≡ x)
    → (a : ℕ) → bytes_or_none (get nat_cmp now a) ≡ bytes_in old a
was_in None now empty p a = ap bytes_or_none (empty p a)
was_in (Some m) now empty e a = ap (λ (x : BTreeMap ℕ (Vec ℕ)). bytes_or_none (get nat_cmp x a)) e

-- one block's bytes change
pub put_in : (old : Option (BTreeMap ℕ (Vec ℕ))) (now new : BTreeMap ℕ (Vec ℕ)) (b from : ℕ) (bytes : List ℕ) (v w : Vec ℕ)
    → ((a : ℕ) → bytes_or_none (get nat_cmp now a) ≡ bytes_in old a) → ((a : ℕ) → b ≢ a → get nat_cmp new a ≡ get nat_cmp now a)
    → get nat_cmp now b ≡ Some v → get nat_cmp new b ≡ Some w → take (from + length bytes) w.items ≡ take from v.items ++ bytes
    → Becomes (bytes_in old) (Some (bytes_in (Some new))) b (λ y. take (from + length bytes) y ≡ take from (bytes_in old b) ++ bytes)
put_in old now new b from bytes v w before others was here put = record {
  bytes = bytes_in (Some new);
  told = refl;
  others = λ a ne. ap bytes_or_none (others a ne) ∙ before a;
  has =
      ap (λ (o : Option (Vec ℕ)). take (from + length bytes) (bytes_or_none o)) here ∙ put
      ∙ ap (λ (l : List ℕ). take from l ++ bytes) (sym (ap bytes_or_none was) ∙ before b);
}

-- two numbers that differ don't compare as equal
pub other_number : (x y : ℕ) → x ≢ y → is_eq (nat_cmp x y) ≡ false
other_number x y ne = elim (cases_order x y) [
  | inl same ↦ absurd (ne same)
  | inr (inl less) ↦ rw (lt-ltb x y less) refl
  | inr (inr more) ↦ rw (le-ltb x y (omega (arith, more)), ne_eqb x y ne) refl
]
