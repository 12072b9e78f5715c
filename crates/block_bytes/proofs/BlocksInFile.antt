-- The bytes of blocks that stand in a file.
use Rattle.std.specs.Prelude.{flat_map, min}
use Rattle.std.proofs.Common.{◌≡◌, ◌≢◌, ℕ, zero, suc, ◌+◌, ◌-◌, ◌*◌, ◌^◌, ◌<◌, ◌≤◌, ◌⊎◌, List, [], ◌∷◌, ◌++◌, Option, Some, None, length, refl, sym, ap, ◌∙◌, arith, inl, inr, Result, Ok, Err}
use Rattle.std.specs.Prelude.{IfSome, OnOk, OnErr}
use Rattle.std.specs.Option.{option_map}
use Rattle.std.proofs.Math.Path.{fun_ext}
use Rattle.std.proofs.Math.Nat.{mul-le-mul_right}
use Rattle.std.proofs.lemmas.Bool.{cases_lt}
use Rattle.std.proofs.lemmas.List.{append-nil}
use Rattle.std.proofs.lemmas.Grind.{flat_map-append}
use Rattle.lists.specs.Below.{below}
use Rattle.partition.specs.Fti.{Fti, IsValidFti, symbol_count, block_count, source_count, start_of}
use Rattle.partition.proofs.Laws.{start_step, start_end, rising_to, symbols_bounds}
use Rattle.streams.specs.Offsets.{StandsAt, overwritten, Overwrites, resized, Resizes}
use Rattle.block_bytes.specs.Bytes.{StandIn, Puts}
use Rattle.block_bytes.specs.InFile.{padded_from, bytes_at, kept_at}
use Rattle.block_bytes.specs.Parts.{part_of, object_below, object_in}
use Rattle.block_bytes.proofs.Padding.{same_padded, take-padded, padded-append, resized_is, at_longer, padded_apart, put_in, read_in}

-- the file is so long
abbrev pub IsLong : Option (List ℕ) → ℕ → Type 0
IsLong contents len = IfSome contents (λ x. length x ≡ len)

pub blank_long : (contents : Option (List ℕ)) → IfSome contents (λ x. x ≡ []) → IsLong contents 0
blank_long None blank = tt
blank_long (Some x) blank = ap length blank

-- ---- where blocks stand

module _ (f : Fti) (valid : IsValidFti f) where
  -- a block ends where the next one begins, and before each later one
  ends_before : (a b : ℕ) → a < b → start_of f a * f.symbol_length + source_count f a * f.symbol_length ≤ start_of f b * f.symbol_length
  ends_before a b l =
      let next : start_of f (suc a) ≤ start_of f b = rising_to f valid (suc a) b (omega (arith, l)) in
      let rows : (start_of f a + source_count f a) * f.symbol_length ≤ start_of f b * f.symbol_length = mul-le-mul_right f.symbol_length (omega (arith, next, start_step f valid a)) in
      omega (arith, rows)

  apart : (a b : ℕ) → b ≢ a
      → (start_of f a * f.symbol_length + source_count f a * f.symbol_length ≤ start_of f b * f.symbol_length) ⊎ (start_of f b * f.symbol_length + source_count f b * f.symbol_length ≤ start_of f a * f.symbol_length)
  apart a b other = elim (cases_lt a b) [
    | inl before ↦ inl (ends_before a b before)
    | inr from ↦ elim (cases_lt b a) [ inl behind ↦ inr (ends_before b a behind) | inr same ↦ absurd (other (omega (arith, from, same))) ]
  ]

-- a block's bytes end below 2 ^ 49
pub end_small : (f : Fti) → IsValidFti f → (start count : ℕ) → start + count ≤ symbol_count f → start * f.symbol_length + count * f.symbol_length < 2 ^ 49
end_small f valid start count within =
    let rows : (start + count) * f.symbol_length ≤ symbol_count f * f.symbol_length = mul-le-mul_right f.symbol_length within in
    omega (arith, rows, symbols_bounds f valid, valid.length_below, valid.symbol_below)

-- ---- a longer file

pub grown_keeps : (old new : Option (List ℕ)) (len n : ℕ) → IsLong old len → len ≤ n → Resizes old new n → kept_at new ≡ kept_at old
grown_keeps None new len n long more is = ap kept_at is
grown_keeps (Some x) new len n long more is =
    ap kept_at is ∙ fun_ext (λ f. ap Some (fun_ext (λ b.
    same_padded (resized x n) x (start_of f b * f.symbol_length) (source_count f b * f.symbol_length) (λ c l. at_longer x n (start_of f b * f.symbol_length + c) (omega (arith, long, more))))))

-- what isn't told of either isn't told of the other
pub untold_before : (f : Fti) (old new : Option (List ℕ)) → kept_at new ≡ kept_at old → new ≡ None → old ≡ None
untold_before f None new same none = refl
untold_before f (Some x) new same none =
    let e : kept_at None f ≡ kept_at (Some x) f = ap (λ (o : Option (List ℕ)). kept_at o f) (sym none) ∙ ap (λ k. k f) same in
    absurd (cc)

-- ---- what is read and written

pub stands_in : (f : Fti) (contents : Option (List ℕ)) (len b from : ℕ) (bytes : List ℕ) → IsLong contents len
    → start_of f b * f.symbol_length + source_count f b * f.symbol_length ≤ len → from + length bytes ≤ source_count f b * f.symbol_length
    → StandsAt contents (start_of f b * f.symbol_length + from) bytes → StandIn (kept_at contents f) b from bytes
stands_in f None len b from bytes long room inside is = tt
stands_in f (Some x) len b from bytes long room inside is =
    is ∙ read_in x (start_of f b * f.symbol_length) (source_count f b * f.symbol_length) from (length bytes) (omega (arith, long, room)) inside

pub puts : (f : Fti) → IsValidFti f → (old new : Option (List ℕ)) (len b from : ℕ) (bytes : List ℕ) → IsLong old len
    → start_of f b * f.symbol_length + source_count f b * f.symbol_length ≤ len → from + length bytes ≤ source_count f b * f.symbol_length
    → Overwrites old new (start_of f b * f.symbol_length + from) bytes → Puts (kept_at old f) (kept_at new f) b from bytes
puts f valid None new len b from bytes long room inside is = tt
puts f valid (Some x) new len b from bytes long room inside is =
    let begin : ℕ = start_of f b * f.symbol_length in
    let y : List ℕ = overwritten x (begin + from) bytes in
    record {
      bytes = bytes_at f y;
      told = ap (λ (o : Option (List ℕ)). kept_at o f) is;
      others = λ a other. padded_apart x (begin + from) bytes (omega (arith, long, room, inside)) (start_of f a * f.symbol_length) (source_count f a * f.symbol_length) (elim (apart f valid a b other) [
        | inl before ↦ inl (omega (arith, before))
        | inr behind ↦ inr (omega (arith, behind, inside))
      ]);
      has = put_in x begin (source_count f b * f.symbol_length) from bytes (omega (arith, long, room)) inside;
    }

-- ---- the object

below_next : (n : ℕ) → below (suc n) ≡ below n ++ n ∷ []
unfolding below
below_next n = refl

none_below : below 0 ≡ []
unfolding below
none_below = refl

module _ (f : Fti) (valid : IsValidFti f) (x : List ℕ) where
  part_is : (b : ℕ) → part_of f (bytes_at f x) b
      ≡ padded_from x (start_of f b * f.symbol_length) (min (f.transfer_length - start_of f b * f.symbol_length) (source_count f b * f.symbol_length))
  part_is b = take-padded x (start_of f b * f.symbol_length) (source_count f b * f.symbol_length) (min (f.transfer_length - start_of f b * f.symbol_length) (source_count f b * f.symbol_length)) (omega arith)

  part_more : (n : ℕ) → object_below f (bytes_at f x) (suc n) ≡ object_below f (bytes_at f x) n ++ part_of f (bytes_at f x) n
  part_more n =
      ap (flat_map (part_of f (bytes_at f x))) (below_next n) ∙ flat_map-append (part_of f (bytes_at f x)) (below n) (n ∷ [])
      ∙ ap (λ (l : List ℕ). object_below f (bytes_at f x) n ++ l) (append-nil (part_of f (bytes_at f x) n))

  below_is : (n : ℕ) → object_below f (bytes_at f x) n ≡ padded_from x 0 (min f.transfer_length (start_of f n * f.symbol_length))
  unfolding start_of
  below_is zero =
      let none : min f.transfer_length (0 * f.symbol_length) ≡ 0 = omega arith in
      ap (flat_map (part_of f (bytes_at f x))) none_below ∙ ap (padded_from x 0) (sym none)
  below_is (suc n) =
      let begin : ℕ = start_of f n * f.symbol_length in
      let few : ℕ = min (f.transfer_length - begin) (source_count f n * f.symbol_length) in
      let step : (start_of f n + source_count f n) * f.symbol_length ≡ begin + source_count f n * f.symbol_length = omega arith in
      part_more n ∙ ap (λ (l : List ℕ). l ++ part_of f (bytes_at f x) n) (below_is n) ∙ ap (λ (l : List ℕ). padded_from x 0 (min f.transfer_length begin) ++ l) (part_is n)
      ∙ elim (cases_lt f.transfer_length begin) [
        | inl past ↦
            let nothing : few ≡ 0 = omega (arith, past) in
            let all : min f.transfer_length begin ≡ min f.transfer_length ((start_of f n + source_count f n) * f.symbol_length) = omega (arith, past, step) in
            ap (λ (m : ℕ). padded_from x 0 (min f.transfer_length begin) ++ padded_from x begin m) nothing ∙ append-nil (padded_from x 0 (min f.transfer_length begin)) ∙ ap (padded_from x 0) all
        | inr within ↦
            let here : min f.transfer_length begin ≡ begin = omega (arith, within) in
            let zero_begin : 0 + begin ≡ begin = omega arith in
            let all : begin + few ≡ min f.transfer_length ((start_of f n + source_count f n) * f.symbol_length) = omega (arith, within, step) in
            ap (λ (m : ℕ). padded_from x 0 m ++ padded_from x begin few) here ∙ ap (λ (m : ℕ). padded_from x 0 begin ++ padded_from x m few) (sym zero_begin)
            ∙ padded-append x 0 begin few ∙ ap (padded_from x 0) all
      ]

  object_is : object_in f (bytes_at f x) ≡ resized x f.transfer_length
  object_is =
      let end : start_of f (block_count f) * f.symbol_length ≡ symbol_count f * f.symbol_length = ap (λ (n : ℕ). n * f.symbol_length) (start_end f valid) in
      let whole : min f.transfer_length (start_of f (block_count f) * f.symbol_length) ≡ f.transfer_length = omega (arith, end, symbols_bounds f valid) in
      below_is (block_count f) ∙ ap (padded_from x 0) whole ∙ sym (resized_is x f.transfer_length)

pub cut_is : (f : Fti) → IsValidFti f → (old new : Option (List ℕ)) → Resizes old new f.transfer_length → new ≡ option_map (object_in f) (kept_at old f)
cut_is f valid None new is = is
cut_is f valid (Some x) new is = is ∙ ap Some (sym (object_is f valid x))

-- ---- what is known of a result

pub on_ok : {T E : Type 0} (r : Result T E) (P Q : Type 0) → (P → Q) → OnOk r P → OnOk r Q
on_ok (Ok x) P Q to p = to p
on_ok (Err e) P Q to p = tt

pub on_err : {T E : Type 0} (r : Result T E) (P Q : Type 0) → (P → Q) → OnErr r P → OnErr r Q
on_err (Ok x) P Q to p = tt
on_err (Err e) P Q to p = to p
