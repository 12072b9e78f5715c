use Rattle.std.proofs.Common.{◌≡◌, ◌∙◌, ◌+◌, ◌*◌, ◌++◌, ◌∷◌, [], ◌<◌, ◌≤◌, Err, ◌==◌, ◌||◌, ℕ, List, Option, length, take, refl, sym, ap, subst, arith, inl}
use Rattle.std.specs.Prelude.{is_some}
use Rattle.partition.specs.Fti.{Fti, encoding_count}
use Rattle.alc.specs.declared.reading.Packet.{Packet}
use Rattle.block_code.specs.Codes.{EachBlockHas}
use Rattle.block_code.specs.CodesOf.{IsCodeOf}
use Rattle.block_recovery.specs.Recoveries.{IsKeptOf}
use Rattle.block_recovery.specs.Arrivals.{with_esi}
use Rattle.block_recovery.specs.Blocks.{bytes_of_esi}
use Rattle.block_recovery.specs.Decoded.{IsUnexplained, AreRows}
use Rattle.receiver.specs.Esis.{esis_of}
use Rattle.receiver.specs.Stored.{is_among, AreSymbols, IsPending, IsSolved}
use Rattle.receiver.specs.Putting.{MayPut}
use Rattle.receiver.specs.declared.solver.Solver.{Solver}
use Rattle.receiver.proofs.Solving.{enough_of, read_symbols, no_code, solved_now, put_rows}
use Rattle.receiver.proofs.Told.{told_bytes, puts_at, becomes_same, becomes_then, all_of, out_of_memory, out_of_order, unwritten, err_same}
use Rattle.receiver.proofs.esis.Esis.solve.Goals as goal

from_start : (n k m : ℕ) → n ≡ k → k ≤ m → 0 + n ≤ m
from_start n k m is le = omega arith

-- what recovers a block is of one of the codes still
kept_still : {f : Fti} {p : Packet} {old new : Solver} → MayPut f p old → new.codes ≡ old.codes → IsKeptOf new.codes new.recovery → MayPut f p new
kept_still {f = f} may same kept = record { number = may.number; esi = may.esi; symbol = may.symbol; codes_are = subst (EachBlockHas (IsCodeOf f) f) (sym same) may.codes_are; recovery = kept }

pub block_rows-requires-clause-enough : goal.block_rows-requires-clause-enough
block_rows-requires-clause-enough g c =
    let esis = esis_of c.args.self.now c.args.packet.now.sbn in
    let k = c.args.packet.now in
    let f = c.args.fti.now in
    let some : (j : ℕ) → j < encoding_count f k.sbn → is_some (bytes_of_esi c.in_ok-symbols.symbols.items j) ≡ (k.esi == j || is_among esis j) =
    λ j lj. c.in_ok-symbols.ensures.some j (omega (arith, lj, c.n-n.ensures.value)) ∙ ap (λ (l : List ℕ). k.esi == j || is_among l j) c.get-esis.ensures in
    rw c.deref-2.ensures.value (enough_of f k.sbn esis c.requires.of k.esi c.requires.given.esi c.requires.free c.requires.last c.in_ok-symbols.symbols.items some)

pub returns-in_default-clause-outcome : goal.returns-in_default-clause-outcome
returns-in_default-clause-outcome g c = λ place x at told h.
    let esis = esis_of c.args.self.now c.args.packet.now.sbn in
    let k = c.args.packet.now in
    let f = c.args.fti.now in
    let arr = c.in_ok-symbols.symbols.items in
    let some : (j : ℕ) → j < encoding_count f k.sbn → is_some (bytes_of_esi c.in_ok-symbols.symbols.items j) ≡ (k.esi == j || is_among esis j) =
    λ j lj. c.in_ok-symbols.ensures.some j (omega (arith, lj, c.n-n.ensures.value)) ∙ ap (λ (l : List ℕ). k.esi == j || is_among l j) c.get-esis.ensures in
    let enough = enough_of f k.sbn esis c.requires.of k.esi c.requires.given.esi c.requires.free c.requires.last arr some in
    let all : length c.get-esis.result.now * c.from-size.result ≡ length esis * f.symbol_length =
    ap (λ (l : List ℕ). length l * c.from-size.result) c.get-esis.ensures ∙ ap (λ (n : ℕ). length esis * n) (c.from-size.ensures ∙ c.symbol_length.ensures.value) in
    let read : length c.read.new.into ≡ length c.get-esis.result.now * c.from-size.result = c.in_ok-read.ensures.len ∙ c.deref_mut.ensures.len ∙ c.in_ok-came.ensures.len in
    let whole : c.deref.result.now ≡ c.read.new.into = c.deref.ensures.value ∙ all_of c.read.new.into _ _ (read ∙ sym c.in_ok-came.ensures.len) in
    let bytes = told_bytes _ x k.sbn 0 c.read.new.into told c.in_ok-read.ensures.bytes in
    let stand : AreSymbols f.symbol_length esis c.read.new.into at = read_symbols f k.sbn esis (x k.sbn) at h c.read.new.into (length c.get-esis.result.now * c.from-size.result) all read bytes in
    let own : AreSymbols (length k.symbol.now) c.get-esis.result.now c.deref.result.now at = rw (c.requires.given.symbol, c.get-esis.ensures, whole) stand in
    let count : length arr ≡ encoding_count f k.sbn = c.in_ok-symbols.ensures.len ∙ c.n-n.ensures.value in
    let unexplained : IsUnexplained f k.sbn (bytes_of_esi c.in_ok-symbols.symbols.items) = (rw c.deref-2.ensures.value at (c.in_ok-rows.ensures.none (rw c.in_default.is refl))) in (
      tt,
      (
        (
          refl,
          no_code f k.sbn esis (x k.sbn) at h k.esi k.symbol.now c.requires.given.esi c.requires.free c.requires.last arr count
              (λ j lj. c.in_ok-symbols.ensures.at at own j (omega (arith, lj, c.n-n.ensures.value))) enough unexplained,
        ),
        becomes_same x _ k.sbn _ (ap (λ (t : Fti → Option (ℕ → List ℕ)). t f) c.in_ok-read.ensures.stays ∙ told) h,
      ),
    )

pub returns-clause-outcome : goal.returns-clause-outcome
returns-clause-outcome g c = λ place x at told h.
    let esis = esis_of c.args.self.now c.args.packet.now.sbn in
    let k = c.args.packet.now in
    let f = c.args.fti.now in
    let arr = c.in_ok-symbols.symbols.items in
    let all : length c.get-esis.result.now * c.from-size.result ≡ length esis * f.symbol_length =
    ap (λ (l : List ℕ). length l * c.from-size.result) c.get-esis.ensures ∙ ap (λ (n : ℕ). length esis * n) (c.from-size.ensures ∙ c.symbol_length.ensures.value) in
    let read : length c.read.new.into ≡ length c.get-esis.result.now * c.from-size.result = c.in_ok-read.ensures.len ∙ c.deref_mut.ensures.len ∙ c.in_ok-came.ensures.len in
    let whole : c.deref.result.now ≡ c.read.new.into = c.deref.ensures.value ∙ all_of c.read.new.into _ _ (read ∙ sym c.in_ok-came.ensures.len) in
    let bytes = told_bytes _ x k.sbn 0 c.read.new.into told c.in_ok-read.ensures.bytes in
    let stand : AreSymbols f.symbol_length esis c.read.new.into at = read_symbols f k.sbn esis (x k.sbn) at h c.read.new.into (length c.get-esis.result.now * c.from-size.result) all read bytes in
    let own : AreSymbols (length k.symbol.now) c.get-esis.result.now c.deref.result.now at = rw (c.requires.given.symbol, c.get-esis.ensures, whole) stand in
    let count : length arr ≡ encoding_count f k.sbn = c.in_ok-symbols.ensures.len ∙ c.n-n.ensures.value in
    let rows : AreRows f k.sbn (bytes_of_esi c.in_ok-symbols.symbols.items) c.in-Some.rows.bytes.items = (rw c.deref-2.ensures.value at (rw c.in-Some.is at c.in_ok-rows.ensures.rows)) in
    let puts = puts_at _ _ x k.sbn 0 c.deref-3.result.now (ap (λ (t : Fti → Option (ℕ → List ℕ)). t f) c.in_ok-read.ensures.stays ∙ told) c.in_ok-write.ensures.put in
    let now : esis_of c.push.new.self k.sbn ≡ esis ++ k.esi ∷ [] = c.push.ensures.pushed ∙ ap (λ (l : List ℕ). l ++ k.esi ∷ []) (c.in_ok-reserve.ensures.same k.sbn) in (
      (
        inl (h.symbols.others k.esi c.requires.free),
        becomes_then x _ k.sbn (λ z. take (0 + length c.deref-3.result.now) z ≡ c.deref-3.result.now) _
            (λ z put. subst (λ (l : List ℕ). IsSolved f k.sbn z l (with_esi at k.esi k.symbol.now)) (sym now)
            (solved_now f k.sbn esis (x k.sbn) at h k.esi k.symbol.now c.requires.given.esi c.requires.free c.requires.last arr count
            (λ j lj. c.in_ok-symbols.ensures.at at own j (omega (arith, lj, c.n-n.ensures.value)))
            c.in-Some.rows.bytes.items z rows (put_rows c.deref-3.result.now c.in-Some.rows.bytes.items z c.deref-3.ensures.value put))) puts,
      ),
      tt,
    )

pub returns-in_err-came-clause-outcome : goal.returns-in_err-came-clause-outcome
returns-in_err-came-clause-outcome g c = λ place x at told h. out_of_memory c.from_residual.result _ _ _ c.from_residual.ensures.1 (tt, becomes_same x _ c.args.packet.now.sbn _ told h)

pub returns-in_err-read-clause-outcome : goal.returns-in_err-read-clause-outcome
returns-in_err-read-clause-outcome g c = λ place x at told h.
    let esis = esis_of c.args.self.now c.args.packet.now.sbn in
    let all : length c.get-esis.result.now * c.from-size.result ≡ length esis * c.args.fti.now.symbol_length =
    ap (λ (l : List ℕ). length l * c.from-size.result) c.get-esis.ensures ∙ ap (λ (n : ℕ). length esis * n) (c.from-size.ensures ∙ c.symbol_length.ensures.value) in
    let len : length c.deref_mut.result.now ≡ length c.get-esis.result.now * c.from-size.result = c.deref_mut.ensures.len ∙ c.in_ok-came.ensures.len in
    out_of_order c.from_residual-in_err-read.result _ _ _ c.from_residual-in_err-read.ensures.1
    (c.in_err-read.ensures.fails (x, told, from_start _ _ _ (len ∙ all) h.symbols.whole))

pub returns-in_err-symbols-clause-outcome : goal.returns-in_err-symbols-clause-outcome
returns-in_err-symbols-clause-outcome g c = λ place x at told h.
    out_of_memory c.from_residual-in_err-symbols.result _ _ _ c.from_residual-in_err-symbols.ensures.1
    (tt, becomes_same x _ c.args.packet.now.sbn _ (ap (λ (t : Fti → Option (ℕ → List ℕ)). t c.args.fti.now) c.in_ok-read.ensures.stays ∙ told) h)

pub returns-in_err-rows-clause-outcome : goal.returns-in_err-rows-clause-outcome
returns-in_err-rows-clause-outcome g c = λ place x at told h.
    out_of_memory c.from_residual-in_err-rows.result _ _ _ c.from_residual-in_err-rows.ensures.1
    (tt, becomes_same x _ c.args.packet.now.sbn _ (ap (λ (t : Fti → Option (ℕ → List ℕ)). t c.args.fti.now) c.in_ok-read.ensures.stays ∙ told) h)

pub returns-in_err-reserve-clause-outcome : goal.returns-in_err-reserve-clause-outcome
returns-in_err-reserve-clause-outcome g c = λ place x at told h.
    let k = c.args.packet.now in
    let f = c.args.fti.now in
    out_of_memory c.from_residual-in_err-reserve.result _ _ _ c.from_residual-in_err-reserve.ensures.1 (
      tt,
      becomes_same x _ k.sbn _ (ap (λ (t : Fti → Option (ℕ → List ℕ)). t f) c.in_ok-read.ensures.stays ∙ told)
          (subst (λ (l : List ℕ). IsPending f k.sbn (x k.sbn) l at) (sym (c.in_err-reserve.ensures.same k.sbn)) h),
    )

pub returns-in_err-write-clause-outcome : goal.returns-in_err-write-clause-outcome
returns-in_err-write-clause-outcome g c = λ place x at told h.
    let k = c.args.packet.now in
    let f = c.args.fti.now in
    let is = ap (λ (t : Fti → Option (ℕ → List ℕ)). t f) c.in_ok-read.ensures.stays ∙ told in
    unwritten c.in_err-write.field-0.0 c.from_residual-in_err-write.result _ _ _ c.from_residual-in_err-write.ensures.1
    (λ none. (
      tt,
      becomes_same x _ k.sbn _ (ap (λ (t : Fti → Option (ℕ → List ℕ)). t f) (c.in_err-write.ensures.stays (ap Err none)) ∙ is)
          (subst (λ (l : List ℕ). IsPending f k.sbn (x k.sbn) l at) (sym (c.in_ok-reserve.ensures.same k.sbn)) h),
    ))
    (λ failed. c.in_err-write.ensures.fails (x, is, omega arith) (ap Err failed))

pub returns-in_default-clause-keeps : goal.returns-in_default-clause-keeps
returns-in_default-clause-keeps g c = kept_still c.requires.given refl c.block_rows.ensures.keeps

pub returns-in_err-rows-clause-keeps : goal.returns-in_err-rows-clause-keeps
returns-in_err-rows-clause-keeps g c = kept_still c.requires.given refl c.block_rows.ensures.keeps

pub returns-in_err-reserve-clause-keeps : goal.returns-in_err-reserve-clause-keeps
returns-in_err-reserve-clause-keeps g c = kept_still c.requires.given refl c.block_rows.ensures.keeps

pub returns-in_err-write-clause-keeps : goal.returns-in_err-write-clause-keeps
returns-in_err-write-clause-keeps g c = kept_still c.requires.given refl c.block_rows.ensures.keeps

pub returns-clause-keeps : goal.returns-clause-keeps
returns-clause-keeps g c = kept_still c.requires.given refl c.block_rows.ensures.keeps

pub returns-clause-kept : goal.returns-clause-kept
returns-clause-kept g c = c.push.ensures.pushed ∙ ap (λ (l : List ℕ). l ++ c.args.packet.now.esi ∷ []) (c.in_ok-reserve.ensures.same c.args.packet.now.sbn)

pub returns-clause-others : goal.returns-clause-others
returns-clause-others g c = λ a ne. c.push.ensures.others a ne ∙ c.in_ok-reserve.ensures.same a

pub returns-in_err-reserve-clause-same : goal.returns-in_err-reserve-clause-same
returns-in_err-reserve-clause-same g c = err_same c.from_residual-in_err-reserve.result _ _ c.from_residual-in_err-reserve.ensures.1 (c.in_err-reserve.ensures.same c.args.packet.now.sbn)

pub returns-in_err-reserve-clause-others : goal.returns-in_err-reserve-clause-others
returns-in_err-reserve-clause-others g c = λ a ne. c.in_err-reserve.ensures.same a

pub returns-in_err-write-clause-same : goal.returns-in_err-write-clause-same
returns-in_err-write-clause-same g c = err_same c.from_residual-in_err-write.result _ _ c.from_residual-in_err-write.ensures.1 (c.in_ok-reserve.ensures.same c.args.packet.now.sbn)

pub returns-in_err-write-clause-others : goal.returns-in_err-write-clause-others
returns-in_err-write-clause-others g c = λ a ne. c.in_ok-reserve.ensures.same a
