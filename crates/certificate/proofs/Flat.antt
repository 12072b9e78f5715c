-- Lists that are made one part after another.
use Rattle.std.specs.Prelude.{flat_map, Result, Ok, Err, OnErr}
use Rattle.std.proofs.Common.{◌≡◌, ℕ, zero, suc, ◌+◌, ◌<◌, ◌≤◌, List, [], ◌∷◌, ◌++◌, Option, Some, None, length, refl, sym, ap, ◌∙◌, inl, inr, arith, append_assoc, length-append}
use Rattle.std.proofs.lemmas.Bool.{cases_lt}
use Rattle.std.proofs.lemmas.Grind.{flat_map-append}
use Rattle.std.proofs.lemmas.List.{append-nil}
use Rattle.std.specs.Io.KnownBytes.{Appends}
use Rattle.session.specs.Pieces.{AppendsSome}
use Rattle.session.proofs.Writes.{then_appends, then_some, front_some}
use Rattle.lists.specs.Below.{below}

pub none_yet : (f : ℕ → List ℕ) → flat_map f (below 0) ≡ []
unfolding below
none_yet f = refl

-- one part more
pub next_part : (f : ℕ → List ℕ) (i : ℕ) → flat_map f (below (i + 1)) ≡ flat_map f (below i) ++ f i
unfolding below
next_part f i =
    let more : i + 1 ≡ suc i = omega arith in
    ap (λ (n : ℕ). flat_map f (below n)) more ∙ flat_map-append f (below i) (i ∷ []) ∙ ap (λ (l : List ℕ). flat_map f (below i) ++ l) (append-nil (f i))

-- the first parts are in front of all
pub in_front : (f : ℕ → List ℕ) (i n : ℕ) → i ≤ n → (rest : List ℕ) × (flat_map f (below n) ≡ flat_map f (below i) ++ rest)
in_front f i zero most = (let none : i ≡ 0 = omega (arith, most) in ([], sym (append-nil _ ∙ ap (λ (m : ℕ). flat_map f (below m)) none)))
in_front f i (suc n) most = elim (cases_lt n i) [
  | inl last ↦ (let all : i ≡ suc n = omega (arith, last, most) in ([], sym (append-nil _ ∙ ap (λ (m : ℕ). flat_map f (below m)) all)))
  | inr more ↦
      (let before = in_front f i n more in
      let step : flat_map f (below (suc n)) ≡ flat_map f (below n) ++ f n = (let e : n + 1 ≡ suc n = omega arith in ap (λ (m : ℕ). flat_map f (below m)) (sym e) ∙ next_part f n) in
      (before.0 ++ f n, step ∙ ap (λ (l : List ℕ). l ++ f n) before.1 ∙ append_assoc (flat_map f (below i)) before.0 (f n)))
]

-- part i and those before it are in front of all
pub with_next : (f : ℕ → List ℕ) (i n : ℕ) → i < n → (rest : List ℕ) × (flat_map f (below n) ≡ (flat_map f (below i) ++ f i) ++ rest)
with_next f i n less =
    let front = in_front f (i + 1) n (omega (arith, less)) in
    (front.0, front.1 ∙ ap (λ (l : List ℕ). l ++ front.0) (next_part f i))

module _ (f : ℕ → List ℕ) (i : ℕ) (a b c : Option (List ℕ)) (done : Appends a b (flat_map f (below i))) where
  pub part_written : Appends b c (f i) → Appends a c (flat_map f (below (i + 1)))
  part_written more = rw (next_part f i) (then_appends a b c (flat_map f (below i)) (f i) done more)

  pub part_begun : (n : ℕ) → i < n → AppendsSome b c (f i) → AppendsSome a c (flat_map f (below n))
  part_begun n less some =
      let w = with_next f i n less in
      rw w.1 (front_some a c (flat_map f (below i) ++ f i) w.0 (then_some a b c (flat_map f (below i)) (f i) done some))

-- how much room is left
pub part_room : (f : ℕ → List ℕ) (i : ℕ) (before here after : ℕ) → before ≤ here + length (flat_map f (below i)) → here ≤ after + length (f i)
    → before ≤ after + length (flat_map f (below (i + 1)))
part_room f i before here after done more = omega (arith, done, more, ap length (next_part f i), length-append (flat_map f (below i)) (f i))

pub no_room : (f : ℕ → List ℕ) (i n : ℕ) → i < n → (before here : ℕ) → before ≤ here + length (flat_map f (below i)) → here < length (f i) → before < length (flat_map f (below n))
no_room f i n less before here done short =
    let w = with_next f i n less in
    omega (arith, done, short, ap length w.1, length-append (flat_map f (below i) ++ f i) w.0, length-append (flat_map f (below i)) (f i))

pub on_err : {A E : Type 0} {P : Type 0} (r : Result A E) → P → OnErr r P
on_err (Ok a) p = tt
on_err (Err e) p = p

pub appends_none : (a : Option (List ℕ)) → Appends a a []
appends_none None = tt
appends_none (Some x) = sym (append-nil x)
