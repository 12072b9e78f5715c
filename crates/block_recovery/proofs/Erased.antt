-- A byte column of a block of which source symbols are missing: the bytes that its repair symbols
-- give back. `held` has the others and zeros, and `lacks` is what the missing ones add to the
-- repair symbols.
use Rattle.std.proofs.Common.{◌≡◌, ◌≢◌, ℕ, ◌<◌, ◌≤◌, List, length, get_or, ap, ◌∙◌, sym}
use Rattle.std.specs.Int.Bits.{xor_assoc, xor_self, xor_zero_r}
use Rattle.std.proofs.lemmas.Nat.{xor_comm}
use Rattle.lists.specs.Bytes.{IsByte}
use Rattle.gf256.specs.Arithmetic.{sum_of, product}
use Rattle.gf256.specs.ByteField.{byte_field}
use Rattle.gf256.specs.Sums.{row_times}
use Rattle.elim.specs.Matrices.{AreElements}
use Rattle.elim.specs.Grid.{Grid, entry, HasElements}
use Rattle.elim.specs.Generator.{Encodes}
use Rattle.elim.specs.Erasures.{AreErasures, Recovers, part_entry}
use Rattle.elim.proofs.Sums.{sum_same}
use Rattle.elim.proofs.RowTimes.{dot_swapped, dot_of_sums}
use Rattle.elim.proofs.Entries.{elements_by_row}
use Rattle.elim.proofs.Recovering.{spread_sum}

-- equal bytes are taken away from equal sums
sums_less : (a b c : ℕ) → sum_of a c ≡ sum_of b c → a ≡ b
sums_less a b c e =
    let left : sum_of (sum_of a c) c ≡ a = xor_assoc a c c ∙ ap (sum_of a) (xor_self c) ∙ xor_zero_r a in
    let right : sum_of (sum_of b c) c ≡ b = xor_assoc b c c ∙ ap (sum_of b) (xor_self c) ∙ xor_zero_r b in
    sym left ∙ ap (λ (v : ℕ). sum_of v c) e ∙ right

pub sum_itself : (a : ℕ) → sum_of a a ≡ 0
sum_itself a = xor_self a

pub sum_with_none : (a : ℕ) → sum_of 0 a ≡ a
sum_with_none a = xor_comm 0 a ∙ xor_zero_r a

-- numbers whose sum is zero are one
pub sum_none_same : (a b : ℕ) → sum_of a b ≡ 0 → b ≡ a
sum_none_same a b e = sym (sums_less a b b (e ∙ sym (xor_self b)))

-- two rows with the same values have the same products
pub row_same : (x y : ℕ → ℕ) (m : ℕ → ℕ → ℕ) (n j : ℕ) → ((i : ℕ) → i < n → x i ≡ y i) → row_times sum_of product 0 x m n j ≡ row_times sum_of product 0 y m n j
row_same x y m n j h =
    sum_same IsByte sum_of product 0 1 byte_field (λ i. product (x i) (m i j)) (λ i. product (y i) (m i j)) n (λ i li. ap (λ (v : ℕ). product v (m i j)) (h i li))

-- the sum of two rows, times a matrix
row_of_sums : (x y : ℕ → ℕ) (m : ℕ → ℕ → ℕ) (n j : ℕ) → AreElements IsByte x → AreElements IsByte y → ((i : ℕ) → AreElements IsByte (m i))
    → row_times sum_of product 0 (λ i. sum_of (x i) (y i)) m n j ≡ sum_of (row_times sum_of product 0 x m n j) (row_times sum_of product 0 y m n j)
row_of_sums x y m n j ex ey em =
    let es : AreElements IsByte (λ i. sum_of (x i) (y i)) = λ i. byte_field.add_element (x i) (y i) (ex i) (ey i) in
    let e = dot_swapped IsByte sum_of product 0 1 byte_field (λ i. sum_of (x i) (y i)) (λ i. m i j) n es (λ i. em i j) in
    let f = dot_of_sums IsByte sum_of product 0 1 byte_field (λ i. m i j) x y n (λ i. em i j) ex ey in
    let g = dot_swapped IsByte sum_of product 0 1 byte_field x (λ i. m i j) n ex (λ i. em i j) in
    let h = dot_swapped IsByte sum_of product 0 1 byte_field y (λ i. m i j) n ey (λ i. em i j) in
    e ∙ f ∙ ap (λ (v : ℕ). sum_of v (row_times sum_of product 0 (λ i. m i j) (λ i _. y i) n 0)) (sym g) ∙ ap (sum_of (row_times sum_of product 0 x m n j)) (sym h)

module _ (g : Grid ℕ) (bytes : HasElements IsByte 0 g) (few : g.cols ≤ 255) (code : Encodes g.rows g.cols g) (missing repair : List ℕ) (h : AreErasures g.rows g.cols missing repair)
    (w : Grid ℕ) (back : Recovers g missing repair w) (arrived_esis y lacks : ℕ → ℕ) (eh : AreElements IsByte arrived_esis) (el : AreElements IsByte lacks)
    (lack : (m : ℕ) → m < length missing → lacks m ≡ sum_of (y m) (row_times sum_of product 0 arrived_esis (entry 0 g) g.rows (get_or repair m 0)))
    (none : (a : ℕ) → a < length missing → arrived_esis (get_or missing a 0) ≡ 0) where
  gen_bytes : (i : ℕ) → AreElements IsByte (entry 0 g i)
  gen_bytes = elements_by_row IsByte 0 g bytes

  module _ (x : ℕ → ℕ) (ex : AreElements IsByte x) (kept : (i : ℕ) → i < g.rows → ((a : ℕ) → a < length missing → get_or missing a 0 ≢ i) → x i ≡ arrived_esis i) where
    abbrev more : ℕ → ℕ
    more i = sum_of (x i) (arrived_esis i)

    more_bytes : AreElements IsByte more
    more_bytes i = byte_field.add_element (x i) (arrived_esis i) (ex i) (eh i)

    more_none : (i : ℕ) → i < g.rows → ((a : ℕ) → a < length missing → get_or missing a 0 ≢ i) → more i ≡ 0
    more_none i li apart = ap (λ (v : ℕ). sum_of v (arrived_esis i)) (kept i li apart) ∙ xor_self (arrived_esis i)

    more_here : (a : ℕ) → a < length missing → more (get_or missing a 0) ≡ x (get_or missing a 0)
    more_here a la = ap (sum_of (x (get_or missing a 0))) (none a la) ∙ xor_zero_r (x (get_or missing a 0))

    -- a row's products, by its missing symbols
    by_missing : (m : ℕ) → sum_of (row_times sum_of product 0 x (entry 0 g) g.rows (get_or repair m 0)) (row_times sum_of product 0 arrived_esis (entry 0 g) g.rows (get_or repair m 0))
        ≡ row_times sum_of product 0 (λ a. x (get_or missing a 0)) (part_entry g missing repair) (length missing) m
    by_missing m =
        sym (row_of_sums x arrived_esis (entry 0 g) g.rows (get_or repair m 0) ex eh gen_bytes)
        ∙ spread_sum g bytes few code missing repair h more more_bytes more_none (get_or repair m 0)
        ∙ row_same (λ a. more (get_or missing a 0)) (λ a. x (get_or missing a 0)) (part_entry g missing repair) (length missing) m more_here

    -- a row that gives the repair symbols has the missing bytes that are worked out
    pub worked_out : ((m : ℕ) → m < length missing → y m ≡ row_times sum_of product 0 x (entry 0 g) g.rows (get_or repair m 0)) → (a : ℕ) → a < length missing
        → row_times sum_of product 0 lacks (entry 0 w) (length missing) a ≡ x (get_or missing a 0)
    worked_out gives a la =
        row_same lacks (row_times sum_of product 0 (λ a. x (get_or missing a 0)) (part_entry g missing repair) (length missing)) (entry 0 w) (length missing) a
        (λ m lm. lack m lm ∙ ap (λ (v : ℕ). sum_of v (row_times sum_of product 0 arrived_esis (entry 0 g) g.rows (get_or repair m 0))) (gives m lm) ∙ by_missing m)
        ∙ back.back (λ a. x (get_or missing a 0)) (λ a. ex (get_or missing a 0)) a la

    -- a row with the missing bytes that are worked out gives the repair symbols
    pub gives_repair : ((a : ℕ) → a < length missing → x (get_or missing a 0) ≡ row_times sum_of product 0 lacks (entry 0 w) (length missing) a) → (m : ℕ) → m < length missing
        → row_times sum_of product 0 x (entry 0 g) g.rows (get_or repair m 0) ≡ y m
    gives_repair solved m lm =
        sums_less _ _ (row_times sum_of product 0 arrived_esis (entry 0 g) g.rows (get_or repair m 0))
        (by_missing m
        ∙ row_same (λ a. x (get_or missing a 0)) (row_times sum_of product 0 lacks (entry 0 w) (length missing)) (part_entry g missing repair) (length missing) m solved
        ∙ back.forth lacks el m lm ∙ lack m lm)
