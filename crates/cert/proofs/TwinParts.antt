-- An object of which one block's bytes are changed, by its parts.
use Rattle.std.proofs.Common.{◌≡◌, ◌<◌, ◌≤◌, ◌+◌, ◌*◌, ◌-◌, ◌/◌, ◌%◌, ◌&&◌, ℕ, Bool, true, false, cond, List, ◌++◌, Option, Some, Result, Ok, Err, length, get_or, take, drop, length-append, length-drop, refl, sym, ap, ◌∙◌, inl, inr, arith}
use Rattle.std.specs.Prelude.{◌==◌, nat_le, nat_lt, OnOk}
use borrow.Rule.Slice.PartMut.{put_mid}
use Rattle.std.specs.Io.KnownBytes.{Appends}
use Rattle.std.proofs.lemmas.Bool.{cases_lt, le-leb, lt-leb, lt-ltb, le-ltb}
use Rattle.std.proofs.lemmas.List.{drop-drop, get_or-take, get_or-drop, get_or_append_left, get_or-append_right, length-take-le, take_all}
use Rattle.std.proofs.lemmas.Nat.{div-mul-add, mod-mul-add}
use Rattle.std.proofs.lemmas.Simd.{get_or-chunk}
use Rattle.std.proofs.Math.Nat.{div-add-mod, mul-le-mul_right}
use Rattle.std.proofs.Math.Seq.{take-add}
use Rattle.streams.specs.Offsets.{StandsAt}
use Rattle.streams.proofs.Writes.{then_appends}
use Rattle.gf256.specs.Arithmetic.{sum_of, point}
use Rattle.poly.specs.Polynomial.{value}
use Rattle.partition.specs.Fti.{Fti, IsValidFti, block_bytes, block_count, source_count, start_of}
use Rattle.partition.proofs.Laws.{begins_within, counts, in_object}
use Rattle.reception.specs.Symbols.{IsObject}
use Rattle.cert.specs.Twins.{different_esis, root_value, IsTwin}
use Rattle.cert.specs.TwinBytes.{AppendsAny, IsTwinFault, is_first_of, twin_bytes}
use Rattle.cert.proofs.TwinObject.{is_twin, same_twin}
use Rattle.cert.specs.TwinPieces.{byte_with_value}
use Rattle.cert.specs.declared.twins.TwinFault.{TwinFault}
use Rattle.cert.specs.declared.twins.TwinFault.TheVariants.{Object, Write, NoMemory}
use Rattle.cert.proofs.Adding.{added}

-- ---- places among symbols of t bytes

module _ (t : ℕ) (some : 0 < t) where
  -- before the first of s symbols
  before : (s n x : ℕ) → x < s * t → is_first_of t s n x ≡ false
  before s n x l =
      let low : x / t < s = elim (cases_lt (x / t) s) [
        | inl lt ↦ lt
        | inr ge ↦ let m = mul-le-mul_right t ge in let d = div-add-mod x t in absurd (omega (arith, l, m, d))
      ] in
      let no : nat_le s (x / t) ≡ false = lt-leb _ _ low in
      none_first (x % t == 0) (nat_lt (x / t) (s + n)) (nat_le s (x / t)) no
    where
      none_first : (a c b : Bool) → b ≡ false → (a && (b && c)) ≡ false
      none_first true c b e = rw e refl
      none_first false c b e = refl

  -- behind the last of n
  behind : (s n x : ℕ) → (s + n) * t ≤ x → is_first_of t s n x ≡ false
  behind s n x l =
      let high : s + n ≤ x / t = elim (cases_lt (x / t) (s + n)) [
        | inl lt ↦
            let next : x / t + 1 ≤ s + n = omega (arith, lt) in
            let m = mul-le-mul_right t next in
            let d = div-add-mod x t in
            let small : x % t < t = omega (arith, some) in
            absurd (omega (arith, l, m, d, small))
        | inr ge ↦ ge
      ] in
      let no : nat_lt (x / t) (s + n) ≡ false = le-ltb _ _ high in
      none_last (x % t == 0) (nat_le s (x / t)) (nat_lt (x / t) (s + n)) no
    where
      none_last : (a b c : Bool) → c ≡ false → (a && (b && c)) ≡ false
      none_last true true c e = e
      none_last true false c e = refl
      none_last false b c e = refl

  -- a place behind s whole symbols
  module _ (s n y : ℕ) where
    small : y % t < t
    small = omega (arith, some)

    parts : s * t + y ≡ (s + y / t) * t + y % t
    parts = let d = div-add-mod y t in omega (arith, d)

    row : (s * t + y) / t ≡ s + y / t
    row = ap (λ (x : ℕ). x / t) parts ∙ div-mul-add (s + y / t) t (y % t) small

    column : (s * t + y) % t ≡ y % t
    column = ap (λ (x : ℕ). x % t) parts ∙ mod-mul-add (s + y / t) t (y % t) small

    low : nat_le 0 (y / t) ≡ nat_le s (s + y / t)
    low = le-leb 0 (y / t) (omega arith) ∙ sym (le-leb s (s + y / t) (omega arith))

    high : nat_lt (y / t) (0 + n) ≡ nat_lt (s + y / t) (s + n)
    high = elim (cases_lt (y / t) n) [
      | inl lt ↦ lt-ltb (y / t) (0 + n) (omega (arith, lt)) ∙ sym (lt-ltb (s + y / t) (s + n) (omega (arith, lt)))
      | inr ge ↦ le-ltb (y / t) (0 + n) (omega (arith, ge)) ∙ sym (le-ltb (s + y / t) (s + n) (omega (arith, ge)))
    ]

    same_first : is_first_of t 0 n y ≡ is_first_of t s n (s * t + y)
    same_first =
        ap (λ (c : ℕ). c == 0 && (nat_le 0 (y / t) && nat_lt (y / t) (0 + n))) (sym column)
        ∙ ap (λ (b : Bool). (s * t + y) % t == 0 && (b && nat_lt (y / t) (0 + n))) low
        ∙ ap (λ (b : Bool). (s * t + y) % t == 0 && (nat_le s (s + y / t) && b)) high
        ∙ ap (λ (r : ℕ). (s * t + y) % t == 0 && (nat_le s r && nat_lt r (s + n))) (sym row)

    same_place : y / t - 0 ≡ (s * t + y) / t - s
    same_place = omega (arith, row)

-- ---- the parts of an object

module _ (f : Fti) (valid : IsValidFti f) (b : ℕ) (hb : b < block_count f) where
  abbrev from : ℕ
  from = start_of f b * f.symbol_length

  abbrev to : ℕ
  to = start_of f b * f.symbol_length + block_bytes f b

  -- the block has bytes, and all of them are the object's
  pub within : (0 < block_bytes f b) × (from + block_bytes f b ≤ f.transfer_length)
  within =
      let begins = begins_within f valid b hb in
      let some = (counts f valid b hb).0 in
      let width = valid.some_symbol in
      let m = mul-le-mul_right f.symbol_length some in
      (omega (arith, begins, m, width), omega (arith, begins))

  -- a source symbol's first byte is one of the block
  pub first_inside : (i : ℕ) → i < source_count f b → i * f.symbol_length < block_bytes f b
  first_inside i l =
      let o = in_object f valid b i hb l in
      let next : i + 1 ≤ source_count f b = omega (arith, l) in
      let m = mul-le-mul_right f.symbol_length next in
      let width = valid.some_symbol in
      omega (arith, o, m, width)

  -- an object with these bytes in the block's place
  abbrev pub whole : List ℕ → List ℕ → List ℕ
  whole object bytes = take from object ++ (bytes ++ drop to object)

  module _ (object bytes : List ℕ) (long : length object ≡ f.transfer_length) (size : length bytes ≡ block_bytes f b) where
    front : length (take from object) ≡ from
    front = length-take-le from object (let w = within in omega (arith, w.1, long))

    pub whole_long : length (whole object bytes) ≡ length object
    whole_long =
        let w = within in
        omega (arith, length-append (take from object) (bytes ++ drop to object), length-append bytes (drop to object), length-drop to object, front, size, w.1, long)

    module _ (v : ℕ → ℕ) (changed : (y : ℕ) → get_or bytes y 0 ≡ added f.symbol_length 0 (source_count f b) v (take (block_bytes f b) (drop from object)) y) where
      -- a byte before the block
      in_front : (x : ℕ) → x < from → get_or (whole object bytes) x 0 ≡ added f.symbol_length (start_of f b) (source_count f b) v object x
      in_front x l =
          let no = before f.symbol_length valid.some_symbol (start_of f b) (source_count f b) x l in
          get_or_append_left (take from object) (bytes ++ drop to object) 0 x (omega (arith, l, front)) ∙ get_or-take from object x 0 l ∙ sym (rw no refl)

      -- one of the block
      inside : (y : ℕ) → y < block_bytes f b → get_or (whole object bytes) (from + y) 0 ≡ added f.symbol_length (start_of f b) (source_count f b) v object (from + y)
      inside y l =
          let t : ℕ = f.symbol_length in
          let s : ℕ = start_of f b in
          let n : ℕ = source_count f b in
          let back : from + y - from ≡ y = omega arith in
          let first = same_first f.symbol_length valid.some_symbol (start_of f b) (source_count f b) y in
          let place = same_place f.symbol_length valid.some_symbol (start_of f b) (source_count f b) y in
          let old : get_or (take (block_bytes f b) (drop from object)) y 0 ≡ get_or object (from + y) 0 = get_or-chunk from (block_bytes f b) object y 0 l in
          get_or-append_right (take from object) (bytes ++ drop to object) from (from + y) 0 front (omega arith)
          ∙ ap (λ (i : ℕ). get_or (bytes ++ drop to object) i 0) back
          ∙ get_or_append_left bytes (drop to object) 0 y (omega (arith, l, size))
          ∙ changed y
          ∙ ap (λ (c : Bool). cond c (sum_of (get_or (take (block_bytes f b) (drop from object)) y 0) (v (y / t - 0))) (get_or (take (block_bytes f b) (drop from object)) y 0)) first
          ∙ ap (λ (o : ℕ). cond (is_first_of t s n (from + y)) (sum_of o (v (y / t - 0))) o) old
          ∙ ap (λ (i : ℕ). cond (is_first_of t s n (from + y)) (sum_of (get_or object (from + y) 0) (v i)) (get_or object (from + y) 0)) place

      -- one behind it
      in_back : (x : ℕ) → to ≤ x → x < length object → get_or (whole object bytes) x 0 ≡ added f.symbol_length (start_of f b) (source_count f b) v object x
      in_back x l inside_x =
          let w = within in
          let apart : (start_of f b + source_count f b) * f.symbol_length ≡ from + source_count f b * f.symbol_length = omega arith in
          let past : (start_of f b + source_count f b) * f.symbol_length ≤ x = omega (arith, l, inside_x, long, apart) in
          let no = behind f.symbol_length valid.some_symbol (start_of f b) (source_count f b) x past in
          let place : to + (x - from - block_bytes f b) ≡ x = omega (arith, l) in
          get_or-append_right (take from object) (bytes ++ drop to object) from x 0 front (omega (arith, l))
          ∙ get_or-append_right bytes (drop to object) (block_bytes f b) (x - from) 0 size (omega (arith, l))
          ∙ get_or-drop to object (x - from - block_bytes f b) 0
          ∙ ap (λ (i : ℕ). get_or object i 0) place
          ∙ sym (rw no refl)

      pub whole_changed : (x : ℕ) → x < length object → get_or (whole object bytes) x 0 ≡ added f.symbol_length (start_of f b) (source_count f b) v object x
      whole_changed x l = elim (cases_lt x from) [
        | inl lt ↦ in_front x lt
        | inr ge ↦ elim (cases_lt (x - from) (block_bytes f b)) [
          | inl lt ↦ (let e : from + (x - from) ≡ x = omega (arith, ge) in rw e at (inside (x - from) lt))
          | inr past ↦ in_back x (omega (arith, ge, past)) l
        ]
      ]

  -- what is put into the place of the block's bytes
  pub put_whole : (object held bytes : List ℕ) (a k : ℕ) → held ≡ object → a ≡ start_of f b * f.symbol_length → k ≡ block_bytes f b → put_mid a k held bytes ≡ whole object bytes
  put_whole object held bytes a k same begin count =
      ap (λ (l : List ℕ). put_mid a k l bytes) same ∙ ap (λ (n : ℕ). put_mid n k object bytes) begin ∙ ap (λ (n : ℕ). put_mid from n object bytes) count
      ∙ ap (λ (l : List ℕ). take from object ++ (bytes ++ l)) (drop-drop (block_bytes f b) from object)

  -- the block's bytes with a polynomial's values make a twin
  module _ (arrived_esis p : List ℕ) (values : (z : ℕ) → z < 256 → value p z ≡ root_value arrived_esis z) (object bytes : List ℕ) (long : length object ≡ f.transfer_length)
      (size : length bytes ≡ block_bytes f b)
      (changed : (y : ℕ) → get_or bytes y 0 ≡ byte_with_value f b p (take (block_bytes f b) (drop (start_of f b * f.symbol_length) object)) y) where
    added_here : (y : ℕ) → get_or bytes y 0 ≡ added f.symbol_length 0 (source_count f b) (λ j. value p (point j)) (take (block_bytes f b) (drop from object)) y
    added_here y =
        let part : List ℕ = take (block_bytes f b) (drop from object) in
        let none : y / f.symbol_length ≡ y / f.symbol_length - 0 = omega arith in
        changed y ∙ ap (λ (m : ℕ). cond (is_first_of f.symbol_length 0 (source_count f b) y) (sum_of (get_or part y 0) (value p (point m))) (get_or part y 0)) none

    pub whole_twin_bytes : whole object bytes ≡ twin_bytes f b arrived_esis object
    whole_twin_bytes =
        same_twin f b arrived_esis object (whole object bytes) p values (whole_long object bytes long size)
        (whole_changed object bytes long size (λ j. value p (point j)) added_here)

    pub whole_twin : IsObject f object → length (different_esis arrived_esis) < source_count f b → IsTwin f b arrived_esis object (whole object bytes)
    whole_twin form few =
        is_twin f valid b hb arrived_esis object (whole object bytes) p form few values (whole_long object bytes long size)
        (whole_changed object bytes long size (λ j. value p (point j)) added_here)

-- ---- what a writer gained

-- the three parts of a twin, one behind the other
pub three_parts : (a b c d : Option (List ℕ)) (from to size : ℕ) (o bytes : List ℕ) → size ≡ length o → Appends a b (take (from - 0) (drop 0 o)) → Appends b c bytes
    → Appends c d (take (size - to) (drop to o)) → Appends a d (take from o ++ (bytes ++ drop to o))
three_parts a b c d from to size o bytes is first second third =
    let none : from - 0 ≡ from = omega arith in
    let rest : take (size - to) (drop to o) ≡ drop to o = take_all (size - to) (drop to o) (omega (arith, is, length-drop to o)) in
    then_appends a b d (take from o) (bytes ++ drop to o) (rw none at first) (then_appends b c d bytes (drop to o) second (rw rest at third))

-- one piece more
pub next_piece : (a b c : Option (List ℕ)) (from at count next : ℕ) (o piece : List ℕ) → from ≤ at → next ≡ at + count → length piece ≡ count
    → Appends a b (take (at - from) (drop from o)) → StandsAt (Some o) at piece → Appends b c piece → Appends a c (take (next - from) (drop from o))
next_piece a b c from at count next o piece order more size before stands gained =
    let split : next - from ≡ (at - from) + count = omega (arith, order, more) in
    let place : from + (at - from) ≡ at = omega (arith, order) in
    let is : piece ≡ take count (drop (at - from) (drop from o)) =
    stands ∙ ap (λ (n : ℕ). take n (drop at o)) size ∙ ap (λ (n : ℕ). take count (drop n o)) (sym place) ∙ ap (take count) (sym (drop-drop (at - from) from o)) in
    let joined : take (next - from) (drop from o) ≡ take (at - from) (drop from o) ++ piece =
    ap (λ (n : ℕ). take n (drop from o)) split ∙ take-add (at - from) count (drop from o) ∙ ap (λ (l : List ℕ). take (at - from) (drop from o) ++ l) (sym is) in
    rw joined (then_appends a b c (take (at - from) (drop from o)) piece before gained)

pub any_more : (a b c : Option (List ℕ)) → AppendsAny a b → AppendsAny b c → AppendsAny a c
any_more a b c p q = (p.0 ++ q.0, then_appends a b c p.0 q.0 p.1 q.1)

-- ---- why one isn't written

-- a fault of reading is one of reading more
pub fault_of_more : (small size : ℕ) (content : Option (List ℕ)) (reliable failed : Bool) (e : TwinFault) → IsTwinFault small content reliable failed e → small ≤ size → IsTwinFault size content reliable failed e
fault_of_more small size content reliable failed Object h le = λ o told l. h o told (omega (arith, le, l))
fault_of_more small size content reliable failed Write h le = h
fault_of_more small size content reliable failed NoMemory h le = tt

-- what holds anyway
pub always : {A E : Type 0} (r : Result A E) (P : Type 0) → P → OnOk r P
always (Ok a) P p = p
always (Err e) P p = tt
