-- Pieces that are read and written one behind the other.
use Rattle.std.proofs.Common.{◌≡◌, ℕ, ◌+◌, ◌-◌, ◌≤◌, List, ◌++◌, Option, Some, None, take, drop, length, refl, sym, ap, ◌∙◌, arith, append_assoc, length-append, length-drop}
use Rattle.std.proofs.lemmas.List.{drop-drop, drop-take, drop_all, length-take-le, take-append-drop, take-take}
use Rattle.std.proofs.Math.Seq.{take-add, take-append_seam, drop-append-add}
use Rattle.std.specs.Option.{option_map}
use Rattle.std.specs.Io.KnownBytes.{Consumes, IsAtEnd}
use Rattle.streams.specs.Offsets.{StandsAt, EndsBy, HasRoomAt, overwritten, Overwrites}

-- bytes that stand one behind the other
pub joined : (content : Option (List ℕ)) (offset : ℕ) (a b : List ℕ) (n : ℕ) → n ≡ length a → StandsAt content offset a → StandsAt content (offset + n) b → StandsAt content offset (a ++ b)
joined None offset a b n e p q = tt
joined (Some xs) offset a b n e p q =
    let behind : b ≡ take (length b) (drop (length a) (drop offset xs)) = q ∙ ap (take (length b)) (ap (λ (m : ℕ). drop (offset + m) xs) e ∙ sym (drop-drop (length a) offset xs)) in
    let both : take (length a + length b) (drop offset xs) ≡ a ++ b =
    take-add (length a) (length b) (drop offset xs) ∙ ap (λ (l : List ℕ). l ++ take (length b) (drop (length a) (drop offset xs))) (sym p) ∙ ap (λ (l : List ℕ). a ++ l) (sym behind) in
    sym both ∙ ap (λ (m : ℕ). take m (drop offset xs)) (sym (length-append a b))

module _ (xs : List ℕ) (offset : ℕ) (a : List ℕ) (room : offset + length a ≤ length xs) where
  front : length (take offset xs ++ a) ≡ offset + length a
  front = length-append (take offset xs) a ∙ ap (λ (n : ℕ). n + length a) (length-take-le offset xs (omega arith))

  apart : overwritten xs offset a ≡ (take offset xs ++ a) ++ drop (offset + length a) xs
  apart = sym (append_assoc (take offset xs) a (drop (offset + length a) xs))

  pub length-overwritten : length (overwritten xs offset a) ≡ length xs
  length-overwritten =
      ap length apart ∙ length-append (take offset xs ++ a) (drop (offset + length a) xs) ∙ ap (λ (n : ℕ). n + length (drop (offset + length a) xs)) front
      ∙ omega (arith, length-drop (offset + length a) xs)

  pub overwritten-overwritten : (b : List ℕ) (n : ℕ) → n ≡ length a → overwritten (overwritten xs offset a) (offset + n) b ≡ overwritten xs offset (a ++ b)
  overwritten-overwritten b n e =
      let ys : List ℕ = take offset xs ++ a in
      let zs : List ℕ = drop (offset + length a) xs in
      let at : offset + n ≡ length ys = omega (arith, e, front) in
      let before : take (offset + n) (overwritten xs offset a) ≡ ys = ap (take (offset + n)) apart ∙ ap (λ (m : ℕ). take m (ys ++ zs)) at ∙ take-append_seam ys zs in
      let behind : drop (offset + n + length b) (overwritten xs offset a) ≡ drop (offset + length (a ++ b)) xs =
      ap (drop (offset + n + length b)) apart ∙ ap (λ (m : ℕ). drop (m + length b) (ys ++ zs)) at ∙ drop-append-add ys zs (length b)
      ∙ drop-drop (length b) (offset + length a) xs ∙ ap (λ (m : ℕ). drop m xs) (omega (arith, length-append a b)) in
      ap (λ (l : List ℕ). l ++ (b ++ drop (offset + n + length b) (overwritten xs offset a))) before
      ∙ ap (λ (l : List ℕ). ys ++ (b ++ l)) behind
      ∙ append_assoc (take offset xs) a (b ++ drop (offset + length (a ++ b)) xs)
      ∙ ap (λ (l : List ℕ). take offset xs ++ l) (sym (append_assoc a b (drop (offset + length (a ++ b)) xs)))

-- one piece behind the other
pub then_overwrites : (a b c : Option (List ℕ)) (offset n : ℕ) (xs ys : List ℕ) → n ≡ length xs → HasRoomAt a offset (length xs) → Overwrites a b offset xs → Overwrites b c (offset + n) ys
    → Overwrites a c offset (xs ++ ys)
then_overwrites None b c offset n xs ys e room p q = q ∙ ap (option_map (λ l. overwritten l (offset + n) ys)) p
then_overwrites (Some a) b c offset n xs ys e room p q =
    q ∙ ap (option_map (λ l. overwritten l (offset + n) ys)) p ∙ ap Some (overwritten-overwritten a offset xs room ys n e)

-- a part of what there is room for
pub room_before : (a : Option (List ℕ)) (offset n all : ℕ) → n ≤ all → HasRoomAt a offset all → HasRoomAt a offset n
room_before None offset n all le room = tt
room_before (Some a) offset n all le room = omega (arith, room)

-- ---- what a cursor gives

-- a front part of bytes that stand somewhere
pub front_stands : (content : Option (List ℕ)) (offset n : ℕ) (b : List ℕ) → n ≤ length b → StandsAt content offset b → StandsAt content offset (take n b)
front_stands None offset n b le p = tt
front_stands (Some xs) offset n b le p =
    ap (take n) p ∙ take-take n (length b) (drop offset xs) le ∙ ap (λ (m : ℕ). take m (drop offset xs)) (sym (length-take-le n b le))

-- and the rest of them
pub rest_stands : (content : Option (List ℕ)) (offset n : ℕ) (b : List ℕ) → n ≤ length b → StandsAt content offset b → StandsAt content (offset + n) (drop n b)
rest_stands None offset n b le p = tt
rest_stands (Some xs) offset n b le p =
    let m : ℕ = length b - n in
    let e : length b ≡ n + m = omega arith in
    let count : length (drop n b) ≡ m = length-drop n b in
    ap (drop n) (p ∙ ap (λ (k : ℕ). take k (drop offset xs)) e) ∙ drop-take n m (drop offset xs)
    ∙ ap (take m) (drop-drop n offset xs) ∙ ap (λ (k : ℕ). take k (drop (offset + n) xs)) (sym count)

-- bytes that stand in front of the rest are consumed
pub given_front : (content : Option (List ℕ)) (from to n : ℕ) (b : List ℕ) → to ≡ from + n → n ≡ length b → StandsAt content from b
    → Consumes (option_map (λ xs. drop from xs) content) (option_map (λ xs. drop to xs) content) b
given_front None from to n b e f p = tt
given_front (Some xs) from to n b e f p =
    sym (take-append-drop n (drop from xs)) ∙ ap (λ (l : List ℕ). l ++ drop n (drop from xs)) (ap (λ (k : ℕ). take k (drop from xs)) f ∙ sym p)
    ∙ ap (λ (l : List ℕ). b ++ l) (drop-drop n from xs ∙ ap (λ (k : ℕ). drop k xs) (sym e))

-- a cursor at the start gives all bytes
pub cursor_start : (content here : Option (List ℕ)) (next end at : ℕ) → here ≡ content → next ≡ 0 → (x : List ℕ) → content ≡ Some x
    → option_map (λ xs. drop (next - (end - at)) xs) here ≡ Some x
cursor_start content here next end at same zero x told =
    let none : next - (end - at) ≡ 0 = omega (arith, zero) in
    rw (same, told, none) refl

-- nothing is left behind the end
pub at_the_end : (content : Option (List ℕ)) (from to : ℕ) → from ≤ to → EndsBy content from → IsAtEnd (option_map (λ xs. drop to xs) content)
at_the_end None from to le p = tt
at_the_end (Some xs) from to le p = drop_all to xs (omega (arith, le, p))
