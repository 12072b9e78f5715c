-- What passes send, and that all passes together send every encoding symbol in the order.
use Rattle.std.proofs.Common.{◌≡◌, ℕ, ◌+◌, ◌-◌, ◌*◌, ◌/◌, ◌<◌, ◌≤◌, Bool, true, false, Some, None, List, [], ◌∷◌, ◌++◌, Option, length, take, drop, refl, ap, sym, subst, ◌∙◌, inl, inr, arith}
use Rattle.std.specs.Prelude.{map, flat_map, if◌then◌else◌}
use Rattle.std.proofs.lemmas.Bool.{cases_lt}
use Rattle.std.proofs.lemmas.List.{append-nil, take_at}
use Rattle.std.proofs.Math.Nat.{mul-le-mul_right, div-mul-le_self, le-div_iff_mul-le}
use Rattle.lists.specs.Below.{below}
use Rattle.partition.specs.Fti.{Fti, IsValidFti, block_count, source_count, encoding_count, large_blocks}
use Rattle.partition.proofs.Laws.{large_count, other_count}
use Rattle.partition.specs.declared.order.Order.{Order}
use Rattle.partition.specs.declared.order.Order.TheVariants.{Blocks, Rounds}
use Rattle.alc.specs.Packet.{written}
use Rattle.alc.specs.Written.{header_size, packet_from, IsWritable}
use Rattle.alc.proofs.Writes.{length-written}
use Rattle.reception.specs.Symbols.{Agrees}
use Rattle.encoder.specs.Rows.{row_at}
use Rattle.encoder.specs.Sending.{pairs, pairs_of_block, is_carrier_at, fti_at, IsSent}
use Rattle.encoder.specs.Passes.{run_of, pairs_of_pass, passes}
use Rattle.encoder.proofs.EncodedRows.{row_between}
use Rattle.encoder.proofs.Sent.{length_of_map}

pub one_run : (b j : ℕ) → run_of b j 1 ≡ (b, j) ∷ []
unfolding below
one_run b j = let e : j + 0 ≡ j = omega arith in ap (λ (v : ℕ). (b, v) ∷ []) e

pub no_run : (b j : ℕ) → run_of b j 0 ≡ []
unfolding below
no_run b j = refl

pub length-run_of : (b j n : ℕ) → length (run_of b j n) ≡ n
length-run_of b j n = length_of_map (λ i. (b, j + i)) n

-- no block has more source symbols than the first
pub first_source : (f : Fti) → IsValidFti f → (b : ℕ) → source_count f b ≤ source_count f 0
first_source f valid b = elim (cases_lt 0 (large_blocks f)) [
  | inl some ↦ elim (cases_lt b (large_blocks f)) [
    | inl lt ↦ omega (arith, large_count f valid b lt, large_count f valid 0 some)
    | inr past ↦ omega (arith, other_count f valid b past, large_count f valid 0 some)
  ]
  | inr none ↦ omega (arith, other_count f valid b (omega arith), other_count f valid 0 none)
]

pub first_most : (f : Fti) → IsValidFti f → (b : ℕ) → encoding_count f b ≤ encoding_count f 0
unfolding encoding_count
first_most f valid b =
    let whole = div-mul-le_self (source_count f b * f.max_symbols) f.block_length in
    let more = mul-le-mul_right f.max_symbols (first_source f valid b) in
    (le-div_iff_mul-le {k = f.block_length} {x = source_count f b * f.max_symbols / f.block_length} {y = source_count f 0 * f.max_symbols} valid.some_block).1 (omega (arith, whole, more))

pub by_passes : (order : Order) (f : Fti) → flat_map (pairs_of_pass order f) (below (passes order f)) ≡ pairs order f
unfolding below
by_passes Blocks f = append-nil (pairs_of_pass Blocks f 0)
by_passes Rounds f = refl

-- all encoding symbols of a block
from_zero : (b : ℕ) (is : List ℕ) → map {B = ℕ × ℕ} (λ i. (b, 0 + i)) is ≡ map {B = ℕ × ℕ} (λ i. (b, i)) is
from_zero b [] = refl
from_zero b (i ∷ is) =
    let e : 0 + i ≡ i = omega arith in
    let first : List (ℕ × ℕ) = map {B = ℕ × ℕ} (λ n. (b, 0 + n)) is in
    ap (λ (v : ℕ). let p : ℕ × ℕ = (b, v) in p ∷ first) e ∙ ap (λ (l : List (ℕ × ℕ)). let p : ℕ × ℕ = (b, i) in p ∷ l) (from_zero b is)

pub whole_run : (f : Fti) (b n : ℕ) → n ≡ encoding_count f b → run_of b 0 n ≡ pairs_of_block f b
whole_run f b n e = ap (run_of b 0) e ∙ from_zero b (below (encoding_count f b))

-- ---- one datagram

-- the FTI that a datagram carries, if any
carried : (f : Fti) (carrier : Bool) (g : Fti) → Some g ≡ (if carrier then Some f else None) → g ≡ f
carried f true g e = cc
carried f false g e = absurd (cc)

-- a symbol that lies in rows
pub row_agrees : (object : List ℕ) (f : Fti) (b j size i : ℕ) (rows : List ℕ) → size ≡ f.symbol_length → Agrees f object (record { block = b; esi = j; bytes = row_at f.symbol_length rows i })
    → Agrees f object (record { block = b; esi = j; bytes = take ((i + 1) * size - i * size) (drop (i * size) rows) })
row_agrees object f b j size i rows e agrees =
    let row : row_at f.symbol_length rows i ≡ take ((i + 1) * size - i * size) (drop (i * size) rows) = ap (λ (v : ℕ). row_at v rows i) (sym e) ∙ sym (row_between size rows i) in
    subst (λ (y : List ℕ). Agrees f object (record { block = b; esi = j; bytes = y })) row agrees

-- it can be written
pub can_be_written : (f : Fti) (every place : ℕ) (fti : Option Fti) (b j size : ℕ) → fti ≡ fti_at f every place → IsValidFti f → b < block_count f → j < encoding_count f b
    → size ≡ f.symbol_length → IsWritable fti b j size
can_be_written f every place None b j size carries valid hb hj same = (omega (arith, valid.blocks, hb), omega (arith, same, valid.some_symbol))
can_be_written f every place (Some g) b j size carries valid hb hj same =
    let is : g ≡ f = carried f (is_carrier_at every place) g carries in
    rw is (hb, hj, same)

-- what was written at the front of a buffer is the datagram
pub sent_at : (object : List ℕ) (f : Fti) (t u every place b j size : ℕ) (fti : Option Fti) (y new rest : List ℕ) → Agrees f object (record { block = b; esi = j; bytes = y })
    → fti ≡ fti_at f every place → size ≡ header_size fti + length y → new ≡ written (packet_from t u fti b j y) ++ rest
    → IsSent object f t u every (record { place = place; block = b; esi = j }) (take size new)
sent_at object f t u every place b j size fti y new rest agrees carries long is =
    let whole : length (written (packet_from t u fti b j y)) ≡ size = length-written t u fti b j y ∙ sym long in
    record {
      symbol = y;
      agrees = agrees;
      spelling = ap (take size) is ∙ take_at (written (packet_from t u fti b j y)) rest size whole ∙ ap (λ (o : Option Fti). written (packet_from t u o b j y)) carries;
    }
