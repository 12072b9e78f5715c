-- What stands in a file, with zeros behind its end.
use Rattle.std.proofs.Common.{◌≡◌, ℕ, ◌+◌, ◌-◌, ◌<◌, ◌≤◌, ◌⊎◌, List, ◌++◌, take, drop, length, replicate, get_or, refl, sym, ap, ◌∙◌, arith, inl, inr, length-append, length-take, length-drop}
use Rattle.std.proofs.lemmas.Bool.{cases_lt}
use Rattle.std.proofs.lemmas.List.{ext_get_or, get_or-take, get_or-drop, get_or-replicate, get_or_append_left, get_or-append_right, get_or_past, length-take-le, length-replicate}
use Rattle.streams.specs.Offsets.{overwritten, resized}
use Rattle.block_bytes.specs.InFile.{padded_from}

pub length-padded : (x : List ℕ) (from count : ℕ) → length (padded_from x from count) ≡ count
length-padded x from count =
    length-take-le count (drop from x ++ replicate count 0) (omega (arith, length-append (drop from x) (replicate count 0), length-replicate {A = ℕ}))

pub at_padded : (x : List ℕ) (from count c : ℕ) → c < count → get_or (padded_from x from count) c 0 ≡ get_or x (from + c) 0
at_padded x from count c l =
    get_or-take count (drop from x ++ replicate count 0) c 0 l ∙ elim (cases_lt c (length (drop from x))) [
      | inl lt ↦ get_or_append_left (drop from x) (replicate count 0) 0 c lt ∙ get_or-drop from x c 0
      | inr past ↦
          get_or-append_right (drop from x) (replicate count 0) (length (drop from x)) c 0 refl past
          ∙ get_or-replicate count (c - length (drop from x)) 0 0 (omega (arith, l))
          ∙ sym (get_or_past x (from + c) 0 (omega (arith, past, length-drop from x)))
    ]

-- two lists with the same bytes there
pub same_padded : (x y : List ℕ) (from count : ℕ) → ((c : ℕ) → c < count → get_or x (from + c) 0 ≡ get_or y (from + c) 0) → padded_from x from count ≡ padded_from y from count
same_padded x y from count same =
    ext_get_or 0 (padded_from x from count) (padded_from y from count) (length-padded x from count ∙ sym (length-padded y from count))
    (λ c lt. let l : c < count = omega (arith, lt, length-padded x from count) in at_padded x from count c l ∙ same c l ∙ sym (at_padded y from count c l))

pub take-padded : (x : List ℕ) (from count n : ℕ) → n ≤ count → take n (padded_from x from count) ≡ padded_from x from n
take-padded x from count n few =
    let long : length (take n (padded_from x from count)) ≡ n = length-take-le n (padded_from x from count) (omega (arith, few, length-padded x from count)) in
    ext_get_or 0 (take n (padded_from x from count)) (padded_from x from n) (long ∙ sym (length-padded x from n))
    (λ c lt.
    let l : c < n = omega (arith, lt, long) in
    get_or-take n (padded_from x from count) c 0 l ∙ at_padded x from count c (omega (arith, l, few)) ∙ sym (at_padded x from n c l))

pub padded-append : (x : List ℕ) (from m n : ℕ) → padded_from x from m ++ padded_from x (from + m) n ≡ padded_from x from (m + n)
padded-append x from m n =
    let front : length (padded_from x from m) ≡ m = length-padded x from m in
    let all : length (padded_from x from m ++ padded_from x (from + m) n) ≡ m + n = omega (arith, length-append (padded_from x from m) (padded_from x (from + m) n), front, length-padded x (from + m) n) in
    ext_get_or 0 (padded_from x from m ++ padded_from x (from + m) n) (padded_from x from (m + n)) (all ∙ sym (length-padded x from (m + n)))
    (λ c lt.
    let l : c < m + n = omega (arith, lt, all) in
    elim (cases_lt c m) [
      | inl in_front ↦ get_or_append_left (padded_from x from m) (padded_from x (from + m) n) 0 c (omega (arith, in_front, front)) ∙ at_padded x from m c in_front
      | inr behind ↦
          let e : from + m + (c - m) ≡ from + c = omega (arith, behind) in
          get_or-append_right (padded_from x from m) (padded_from x (from + m) n) m c 0 front behind
          ∙ at_padded x (from + m) n (c - m) (omega (arith, l, behind)) ∙ ap (λ (i : ℕ). get_or x i 0) e
    ] ∙ sym (at_padded x from (m + n) c l))

-- ---- another length

pub length-resized : (x : List ℕ) (n : ℕ) → length (resized x n) ≡ n
length-resized x n = elim (cases_lt (length x) n) [
  | inl lt ↦ omega (arith, lt, length-append (take n x) (replicate (n - length x) 0), length-take {A = ℕ}, length-replicate {A = ℕ})
  | inr le ↦ omega (arith, le, length-append (take n x) (replicate (n - length x) 0), length-take {A = ℕ}, length-replicate {A = ℕ})
]

pub resized_is : (x : List ℕ) (n : ℕ) → resized x n ≡ padded_from x 0 n
resized_is x n =
    ext_get_or 0 (resized x n) (padded_from x 0 n) (length-resized x n ∙ sym (length-padded x 0 n))
    (λ c lt.
    let l : c < n = omega (arith, lt, length-resized x n) in
    let zero : 0 + c ≡ c = omega arith in
    elim (cases_lt c (length x)) [
      | inl there ↦
          get_or_append_left (take n x) (replicate (n - length x) 0) 0 c (omega (arith, l, there, length-take {A = ℕ})) ∙ get_or-take n x c 0 l
      | inr past ↦
          get_or-append_right (take n x) (replicate (n - length x) 0) (length x) c 0 (omega (arith, l, past, length-take {A = ℕ})) past
          ∙ get_or-replicate (n - length x) (c - length x) 0 0 (omega (arith, l, past)) ∙ sym (get_or_past x c 0 past)
    ] ∙ ap (λ (i : ℕ). get_or x i 0) (sym zero) ∙ sym (at_padded x 0 n c l))

-- a longer file has zeros there, as it counts before
pub at_longer : (x : List ℕ) (n i : ℕ) → length x ≤ n → get_or (resized x n) i 0 ≡ get_or x i 0
at_longer x n i le = elim (cases_lt i n) [
  | inl lt ↦
      let zero : 0 + i ≡ i = omega arith in
      ap (λ (l : List ℕ). get_or l i 0) (resized_is x n) ∙ at_padded x 0 n i lt ∙ ap (λ (j : ℕ). get_or x j 0) zero
  | inr past ↦ get_or_past (resized x n) i 0 (omega (arith, past, length-resized x n)) ∙ sym (get_or_past x i 0 (omega (arith, past, le)))
]

-- ---- bytes that are written over others

module _ (x : List ℕ) (offset : ℕ) (bytes : List ℕ) (room : offset + length bytes ≤ length x) where
  front : length (take offset x) ≡ offset
  front = length-take-le offset x (omega (arith, room))

  pub at_written : (c : ℕ) → c < length bytes → get_or (overwritten x offset bytes) (offset + c) 0 ≡ get_or bytes c 0
  at_written c l =
      let e : offset + c - offset ≡ c = omega arith in
      get_or-append_right (take offset x) (bytes ++ drop (offset + length bytes) x) offset (offset + c) 0 front (omega arith)
      ∙ ap (λ (i : ℕ). get_or (bytes ++ drop (offset + length bytes) x) i 0) e
      ∙ get_or_append_left bytes (drop (offset + length bytes) x) 0 c l

  pub at_before : (i : ℕ) → i < offset → get_or (overwritten x offset bytes) i 0 ≡ get_or x i 0
  at_before i l =
      get_or_append_left (take offset x) (bytes ++ drop (offset + length bytes) x) 0 i (omega (arith, l, front)) ∙ get_or-take offset x i 0 l

  pub at_behind : (i : ℕ) → offset + length bytes ≤ i → get_or (overwritten x offset bytes) i 0 ≡ get_or x i 0
  at_behind i le =
      let e : offset + length bytes + (i - offset - length bytes) ≡ i = omega (arith, le) in
      get_or-append_right (take offset x) (bytes ++ drop (offset + length bytes) x) offset i 0 front (omega (arith, le))
      ∙ get_or-append_right bytes (drop (offset + length bytes) x) (length bytes) (i - offset) 0 refl (omega (arith, le))
      ∙ get_or-drop (offset + length bytes) x (i - offset - length bytes) 0 ∙ ap (λ (j : ℕ). get_or x j 0) e

  -- what is apart from them stays
  pub padded_apart : (from count : ℕ) → (from + count ≤ offset) ⊎ (offset + length bytes ≤ from) → padded_from (overwritten x offset bytes) from count ≡ padded_from x from count
  padded_apart from count (inl before) = same_padded (overwritten x offset bytes) x from count (λ c l. at_before (from + c) (omega (arith, before, l)))
  padded_apart from count (inr behind) = same_padded (overwritten x offset bytes) x from count (λ c l. at_behind (from + c) (omega (arith, behind, l)))

-- they stand behind what was there up to their place
pub put_in : (x : List ℕ) (begin count from : ℕ) (bytes : List ℕ) → begin + count ≤ length x → from + length bytes ≤ count
    → take (from + length bytes) (padded_from (overwritten x (begin + from) bytes) begin count) ≡ take from (padded_from x begin count) ++ bytes
put_in x begin count from bytes room inside =
    let y : List ℕ = overwritten x (begin + from) bytes in
    let fits : begin + from + length bytes ≤ length x = omega (arith, room, inside) in
    let was : take from (padded_from x begin count) ≡ padded_from x begin from = take-padded x begin count from (omega (arith, inside)) in
    let long : length (padded_from x begin from ++ bytes) ≡ from + length bytes = omega (arith, length-append (padded_from x begin from) bytes, length-padded x begin from) in
    take-padded y begin count (from + length bytes) inside
    ∙ ext_get_or 0 (padded_from y begin (from + length bytes)) (padded_from x begin from ++ bytes) (length-padded y begin (from + length bytes) ∙ sym long)
    (λ c lt.
    let l : c < from + length bytes = omega (arith, lt, length-padded y begin (from + length bytes)) in
    at_padded y begin (from + length bytes) c l ∙ elim (cases_lt c from) [
      | inl before ↦
          at_before x (begin + from) bytes fits (begin + c) (omega (arith, before)) ∙ sym (at_padded x begin from c before)
          ∙ sym (get_or_append_left (padded_from x begin from) bytes 0 c (omega (arith, before, length-padded x begin from)))
      | inr behind ↦
          let e : begin + c ≡ begin + from + (c - from) = omega (arith, behind) in
          ap (λ (i : ℕ). get_or y i 0) e ∙ at_written x (begin + from) bytes fits (c - from) (omega (arith, l, behind))
          ∙ sym (get_or-append_right (padded_from x begin from) bytes from c 0 (length-padded x begin from) behind)
    ])
    ∙ ap (λ (l : List ℕ). l ++ bytes) (sym was)

-- what stands in the file at a place of a block
pub read_in : (x : List ℕ) (begin count from n : ℕ) → begin + count ≤ length x → from + n ≤ count
    → take n (drop (begin + from) x) ≡ take n (drop from (padded_from x begin count))
read_in x begin count from n room inside =
    let left : length (take n (drop (begin + from) x)) ≡ n = length-take-le n (drop (begin + from) x) (omega (arith, room, inside, length-drop (begin + from) x)) in
    let right : length (take n (drop from (padded_from x begin count))) ≡ n =
    length-take-le n (drop from (padded_from x begin count)) (omega (arith, inside, length-drop from (padded_from x begin count), length-padded x begin count)) in
    ext_get_or 0 (take n (drop (begin + from) x)) (take n (drop from (padded_from x begin count))) (left ∙ sym right)
    (λ c lt.
    let l : c < n = omega (arith, lt, left) in
    let e : begin + from + c ≡ begin + (from + c) = omega arith in
    get_or-take n (drop (begin + from) x) c 0 l ∙ get_or-drop (begin + from) x c 0 ∙ ap (λ (i : ℕ). get_or x i 0) e
    ∙ sym (at_padded x begin count (from + c) (omega (arith, l, inside))) ∙ sym (get_or-drop from (padded_from x begin count) c 0)
    ∙ sym (get_or-take n (drop from (padded_from x begin count)) c 0 l))
