-- One extension at the front of some bytes.
use Rattle.std.proofs.Common.{◌≡◌, ℕ, suc, ◌+◌, ◌-◌, ◌<◌, ◌≤◌, true, List, [], ◌∷◌, ◌++◌, length, take, arith, refl, sym, subst}
use Rattle.std.proofs.lemmas.Bool.Decides.{nat_tests}
use Rattle.std.proofs.lemmas.List.{length-take}
use Rattle.alc.specs.Packet.{is_extension, type_of}
use Rattle.alc.specs.Computed.{size_of}

-- its length is what it says, whatever follows
pub size_is : (e more : List ℕ) → is_extension e ≡ true → size_of (e ++ more) ≡ length e
size_is [] more h = absurd cc
size_is (t ∷ []) more h = absurd cc
size_is (t ∷ w ∷ rest) more h = grind (arith, nat_tests)

pub type_is : (e more : List ℕ) → is_extension e ≡ true → type_of (e ++ more) ≡ type_of e
type_is [] more h = absurd cc
type_is (t ∷ rest) more h = refl

pub is_long : (e : List ℕ) → is_extension e ≡ true → 4 ≤ length e
is_long [] h = absurd cc
is_long (t ∷ []) h = absurd cc
is_long (t ∷ w ∷ rest) h = grind (arith, nat_tests)

at_least : (t w : ℕ) (rest : List ℕ) → 0 < size_of (t ∷ w ∷ rest) → 4 ≤ size_of (t ∷ w ∷ rest)
at_least t w rest some = grind (arith, nat_tests)

one_more : (t w : ℕ) (x rest : List ℕ) → size_of (t ∷ w ∷ rest) ≡ length x + 2 → is_extension (t ∷ w ∷ x) ≡ true
one_more t w x rest e = grind (arith, nat_tests)

-- what has the length that it says is an extension
pub is_one : (rest : List ℕ) → 0 < size_of rest → size_of rest ≤ length rest → is_extension (take (size_of rest) rest) ≡ true
is_one [] some fits = absurd (omega arith)
is_one (t ∷ []) some fits = absurd (omega arith)
is_one (t ∷ w ∷ rest) some fits =
    let four = at_least t w rest some in
    let n : ℕ = size_of (t ∷ w ∷ rest) - 2 in
    let e : size_of (t ∷ w ∷ rest) ≡ suc (suc n) = omega arith in
    subst (λ (k : ℕ). is_extension (take k (t ∷ w ∷ rest)) ≡ true) (sym e)
    (one_more t w (take n rest) rest (omega (arith, length-take n rest)))
