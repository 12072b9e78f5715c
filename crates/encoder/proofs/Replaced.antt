-- A list whose members from a place on are replaced by others, and the bytes of such lists.
use Rattle.std.proofs.Common.{◌≡◌, ℕ, zero, suc, ◌+◌, ◌-◌, ◌<◌, ◌≤◌, List, [], ◌∷◌, ◌++◌, length, get_or, take, drop, refl, ap, sym, ◌∙◌, inl, inr, arith, append_assoc, length-append, length-drop, length-take-le, take-append-drop}
use Rattle.std.specs.Prelude.{flat_map}
use Rattle.std.proofs.lemmas.Bool.{cases_lt}
use Rattle.std.proofs.lemmas.List.{append-nil, get_or_append_left, get_or-append_right, get_or-take, get_or-drop, take_at, drop_at, take_more, nil_from_length, length_push, get_or_push}
use Rattle.std.proofs.lemmas.Grind.{flat_map-append}
use Rattle.streams.specs.Offsets.{overwritten}
use Rattle.partition.specs.Fti.{Fti}
use Rattle.encoder.specs.Sending.{frame_bytes}
use Rattle.encoder.specs.RoundPlaces.{offset_of}
use Rattle.encoder.proofs.FrameOffsets.{offset_zero, offset_next}

abbrev pub replaced : {A : Type 0} → List A → ℕ → List A → List A
replaced xs p ys = take p xs ++ (ys ++ drop (p + length ys) xs)

module _ {A : Type 0} (xs : List A) (p : ℕ) (ys : List A) (fits : p + length ys ≤ length xs) where
  front_long : length (take p xs) ≡ p
  front_long = length-take-le p xs (omega arith)

  pub length_replaced : length (replaced xs p ys) ≡ length xs
  length_replaced =
      omega (arith, fits, front_long, length-append (take p xs) (ys ++ drop (p + length ys) xs), length-append ys (drop (p + length ys) xs), length-drop (p + length ys) xs)

  pub before : (i : ℕ) (d : A) → i < p → get_or (replaced xs p ys) i d ≡ get_or xs i d
  before i d lt =
      get_or_append_left (take p xs) (ys ++ drop (p + length ys) xs) d i (omega (arith, lt, front_long)) ∙ get_or-take p xs i d lt

  pub within : (i : ℕ) (d : A) → i < length ys → get_or (replaced xs p ys) (p + i) d ≡ get_or ys i d
  within i d lt =
      let e : p + i - p ≡ i = omega arith in
      get_or-append_right (take p xs) (ys ++ drop (p + length ys) xs) p (p + i) d front_long (omega arith)
      ∙ ap (λ (k : ℕ). get_or (ys ++ drop (p + length ys) xs) k d) e
      ∙ get_or_append_left ys (drop (p + length ys) xs) d i lt

  pub behind : (i : ℕ) (d : A) → p + length ys ≤ i → get_or (replaced xs p ys) i d ≡ get_or xs i d
  behind i d ge =
      let e : p + length ys + (i - p - length ys) ≡ i = omega arith in
      get_or-append_right (take p xs) (ys ++ drop (p + length ys) xs) p i d front_long (omega (arith, ge))
      ∙ get_or-append_right ys (drop (p + length ys) xs) (length ys) (i - p) d refl (omega (arith, ge))
      ∙ get_or-drop (p + length ys) xs (i - p - length ys) d
      ∙ ap (λ (k : ℕ). get_or xs k d) e

-- ---- pieces, each as long as the frame at its place

abbrev pub joined : List (List ℕ) → List ℕ
joined pieces = flat_map (λ x. x) pieces

module _ (f : Fti) (every : ℕ) where
  abbrev pub HaveSizes : List (List ℕ) → Type 0
  HaveSizes pieces = (i : ℕ) → i < length pieces → length (get_or pieces i []) ≡ frame_bytes f every i

  pub joined_long : (pieces : List (List ℕ)) → HaveSizes pieces → (p : ℕ) → p ≤ length pieces → length (joined (take p pieces)) ≡ offset_of f every p
  joined_long pieces sizes zero le = sym (offset_zero f every)
  joined_long pieces sizes (suc p) le =
      let e : p + 1 ≡ suc p = omega arith in
      let lt : p < length pieces = omega arith in
      let piece : List ℕ = get_or pieces p [] in
      let more : joined (take (p + 1) pieces) ≡ joined (take p pieces) ++ (piece ++ []) =
      ap joined (take_more pieces p [] lt) ∙ flat_map-append (λ (x : List ℕ). x) (take p pieces) (piece ∷ []) in
      let g : length (joined (take (p + 1) pieces)) ≡ offset_of f every (p + 1) =
      ap length more ∙ length-append (joined (take p pieces)) (piece ++ []) ∙ ap (λ (l : List ℕ). length (joined (take p pieces)) + length l) (append-nil piece)
      ∙ omega (arith, joined_long pieces sizes p (omega arith), sizes p lt, offset_next f every p) in
      rw e at g

  pub sizes_replaced : (pieces : List (List ℕ)) (p : ℕ) (ys : List (List ℕ)) → p + length ys ≤ length pieces → HaveSizes pieces
      → ((i : ℕ) → i < length ys → length (get_or ys i []) ≡ frame_bytes f every (p + i)) → HaveSizes (replaced pieces p ys)
  sizes_replaced pieces p ys fits sizes own i lt =
      let inside : i < length pieces = omega (arith, lt, length_replaced pieces p ys fits) in
      elim (cases_lt i p) [
        | inl l ↦ ap length (before pieces p ys fits i [] l) ∙ sizes i inside
        | inr g ↦ elim (cases_lt i (p + length ys)) [
          | inl l ↦
              (let e : p + (i - p) ≡ i = omega arith in
              let own_size : length (get_or (replaced pieces p ys) (p + (i - p)) []) ≡ frame_bytes f every (p + (i - p)) =
              ap length (within pieces p ys fits (i - p) [] (omega arith)) ∙ own (i - p) (omega arith) in
              rw e at own_size)
          | inr h ↦ ap length (behind pieces p ys fits i [] h) ∙ sizes i inside
        ]
      ]

  -- what is written over them
  pub joined_replaced : (pieces : List (List ℕ)) (p : ℕ) (ys : List (List ℕ)) → p + length ys ≤ length pieces → HaveSizes pieces
      → ((i : ℕ) → i < length ys → length (get_or ys i []) ≡ frame_bytes f every (p + i))
      → overwritten (joined pieces) (offset_of f every p) (joined ys) ≡ joined (replaced pieces p ys)
  joined_replaced pieces p ys fits sizes own =
      let q : ℕ = p + length ys in
      let id = λ (x : List ℕ). x in
      let front : joined pieces ≡ joined (take p pieces) ++ joined (drop p pieces) = ap joined (sym (take-append-drop p pieces)) ∙ flat_map-append id (take p pieces) (drop p pieces) in
      let rear : joined pieces ≡ joined (take q pieces) ++ joined (drop q pieces) = ap joined (sym (take-append-drop q pieces)) ∙ flat_map-append id (take q pieces) (drop q pieces) in
      let at = joined_long pieces sizes p (omega arith) in
      let to = joined_long pieces sizes q (omega arith) in
      let now = sizes_replaced pieces p ys fits sizes own in
      let same : List (List ℕ) = replaced pieces p ys in
      let whole : same ≡ (take p pieces ++ ys) ++ drop q pieces = sym (append_assoc (take p pieces) ys (drop q pieces)) in
      let half : length (take p pieces ++ ys) ≡ q = omega (arith, length-append (take p pieces) ys, length-take-le p pieces (omega arith)) in
      let new_front : take q same ≡ take p pieces ++ ys = ap (take q) whole ∙ take_at (take p pieces ++ ys) (drop q pieces) q half in
      let new_long : length (joined (take p pieces ++ ys)) ≡ offset_of f every q =
      ap (λ (l : List (List ℕ)). length (joined l)) (sym new_front) ∙ joined_long same now q (omega (arith, length_replaced pieces p ys fits)) in
      let parts : length (joined (take p pieces ++ ys)) ≡ length (joined (take p pieces)) + length (joined ys) =
      ap length (flat_map-append id (take p pieces) ys) ∙ length-append (joined (take p pieces)) (joined ys) in
      let end : length (joined (take q pieces)) ≡ offset_of f every p + length (joined ys) = omega (arith, to, new_long, parts, at) in
      let first : take (offset_of f every p) (joined pieces) ≡ joined (take p pieces) =
      ap (take (offset_of f every p)) front ∙ take_at (joined (take p pieces)) (joined (drop p pieces)) (offset_of f every p) at in
      let last : drop (offset_of f every p + length (joined ys)) (joined pieces) ≡ joined (drop q pieces) =
      ap (drop (offset_of f every p + length (joined ys))) rear ∙ drop_at (joined (take q pieces)) (joined (drop q pieces)) (offset_of f every p + length (joined ys)) end in
      ap (λ (l : List ℕ). l ++ (joined ys ++ drop (offset_of f every p + length (joined ys)) (joined pieces))) first
      ∙ ap (λ (l : List ℕ). joined (take p pieces) ++ (joined ys ++ l)) last
      ∙ sym (flat_map-append id (take p pieces) (ys ++ drop q pieces) ∙ ap (λ (l : List ℕ). joined (take p pieces) ++ l) (flat_map-append id ys (drop q pieces)))

  -- any bytes that are long enough are such pieces
  pub pieces_of : (n : ℕ) → (xs : List ℕ) → length xs ≡ offset_of f every n → (pieces : List (List ℕ)) × (length pieces ≡ n) × HaveSizes pieces × (xs ≡ joined pieces)
  pieces_of zero xs e = ([], refl, λ i lt. absurd (omega arith), nil_from_length xs (omega (arith, e, offset_zero f every)))
  pieces_of (suc n) xs e =
      let is : n + 1 ≡ suc n = omega arith in
      let whole : length xs ≡ offset_of f every (n + 1) = rw is e in
      let more = offset_next f every n in
      let short = length-take-le (offset_of f every n) xs (omega (arith, whole, more)) in
      let r = pieces_of n (take (offset_of f every n) xs) short in
      let many : length r.0 ≡ n = r.1 in
      let last : List ℕ = drop (offset_of f every n) xs in
      let long : length last ≡ frame_bytes f every n = omega (arith, length-drop (offset_of f every n) xs, whole, more) in (
        r.0 ++ last ∷ [],
        length_push r.0 last ∙ omega (arith, many),
        λ i lt. elim (cases_lt i n) [
          | inl l ↦ ap length (get_or_append_left r.0 (last ∷ []) [] i (omega (arith, many, l))) ∙ r.2 i (omega (arith, many, l))
          | inr g ↦
              (let at : length r.0 ≡ i = omega (arith, lt, length_push r.0 last, many, g) in
              let same : n ≡ i = omega (arith, at, many) in
              ap length (get_or_push r.0 last [] i at) ∙ long ∙ ap (frame_bytes f every) same)
        ],
        sym (take-append-drop (offset_of f every n) xs) ∙ ap (λ (l : List ℕ). l ++ last) r.3 ∙ ap (λ (l : List ℕ). joined r.0 ++ l) (sym (append-nil last))
            ∙ sym (flat_map-append (λ (x : List ℕ). x) r.0 (last ∷ [])),
      )
