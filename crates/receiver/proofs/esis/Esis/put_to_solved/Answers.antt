use Rattle.std.specs.Prelude.{IsTrue, Bool}
use Rattle.std.proofs.Common.{◌≡◌, ◌∙◌, ◌+◌, ◌*◌, ◌≤◌, ◌++◌, ◌∷◌, [], ℕ, List, Option, length, take, true, false, refl, sym, ap, subst, rules, arith, vec_len, length-append, length-take}
use Rattle.partition.specs.Fti.{Fti, source_count}
use Rattle.partition.proofs.Laws.{counts}
use Rattle.alc.specs.declared.reading.Packet.{Packet}
use Rattle.block_code.specs.Codes.{EachBlockHas}
use Rattle.block_code.specs.declared.codes.BlockCodes.{BlockCodes}
use Rattle.block_code.specs.CodesOf.{IsCodeOf}
use Rattle.block_recovery.specs.Recoveries.{IsKeptOf}
use Rattle.block_recovery.specs.Arrivals.{with_esi}
use Rattle.block_recovery.specs.Giving.{GivesSymbol}
use Rattle.receiver.specs.Esis.{esis_of}
use Rattle.receiver.specs.Stored.{IsOf, IsSolved, is_among}
use Rattle.receiver.specs.Putting.{MayPut}
use Rattle.receiver.specs.declared.solver.Solver.{Solver}
use Rattle.receiver.proofs.Among.{of_more}
use Rattle.receiver.proofs.Seen.{given_may, given_same, given_now, seen_clash, unseen_no_code}
use Rattle.receiver.proofs.Told.{told_bytes, becomes_same, all_of, out_of_memory, out_of_order}
use Rattle.receiver.proofs.esis.Esis.put_to_solved.Goals as goal

-- what recovers a block is of one of the codes still
kept_still : {f : Fti} {p : Packet} {old new : Solver} → MayPut f p old → new.codes ≡ old.codes → new.recovery ≡ old.recovery → MayPut f p new
kept_still {f = f} {old = old} {new = new} may codes same =
    record {
      number = may.number;
      esi = may.esi;
      symbol = may.symbol;
      codes_are = subst (EachBlockHas (IsCodeOf f) f) (sym codes) may.codes_are;
      recovery = subst (λ (c : BlockCodes). IsKeptOf c new.recovery) (sym codes) (subst (IsKeptOf old.codes) (sym same) may.recovery);
    }

-- as many bytes as the rows have are there
from_start : (n k : ℕ) (x : List ℕ) → n ≡ k → length (take k x) ≡ k → 0 + n ≤ length x
from_start n k x is count = omega (arith, length-take {A = ℕ})

one_more : (n : ℕ) (esis : List ℕ) (e : ℕ) → n ≤ length esis → n ≤ length (esis ++ e ∷ [])
one_more n esis e enough = omega (arith, length-append esis (e ∷ []))

not_given : (v : Bool) → v ≡ false → IsTrue v → ⊥
not_given v is given = absurd (cc)

pub returns-then-came-clause-outcome : goal.returns-then-came-clause-outcome
returns-then-came-clause-outcome g c = λ x at told h lengths.
    let f = c.args.fti.now in
    let k = c.args.packet.now in
    let esis = esis_of c.args.self.now k.sbn in
    let rows = c.read.new.into in
    let few = counts f c.is_valid.ensures k.sbn c.requires.given.number in
    let size : c.from-size.result ≡ f.symbol_length = c.from-size.ensures ∙ c.symbol_length.ensures.value in
    let all : length c.in_ok-rows.rows.bytes.items ≡ source_count f k.sbn * f.symbol_length =
    c.in_ok-rows.rows.whole ∙ ap (λ (n : ℕ). n * c.in_ok-rows.rows.size) (c.in_ok-rows.ensures.sizes.rows_are ∙ c.k.ensures.value) ∙ ap (λ (n : ℕ). source_count f k.sbn * n) (c.in_ok-rows.ensures.sizes.bytes_are ∙ size) in
    let same : length rows ≡ vec_len c.in_ok-rows.rows.bytes = c.in_ok-read.ensures.len ∙ c.deref_mut.ensures.len in
    let many : vec_len c.in_ok-rows.rows.bytes ≡ length c.in_ok-rows.rows.bytes.items = search rules in
    let bytes = told_bytes _ x k.sbn 0 rows told c.in_ok-read.ensures.bytes in
    let other : GivesSymbol f k.sbn rows k.esi k.symbol.now → ⊥ =
    λ gives. not_given c.in_ok-given.given c.if-not-given.true (c.in_ok-given.ensures.1 (subst (λ (l : List ℕ). GivesSymbol f k.sbn l k.esi k.symbol.now) (sym (all_of rows _ _ same)) gives)) in
    let seen : is_among esis k.esi ≡ true = ap (λ (l : List ℕ). is_among l k.esi) (sym c.get.ensures) ∙ sym c.place_of.ensures.among ∙ sym c.is_some-came.ensures ∙ c.if-came.true in (
      tt,
      (
        (refl, seen_clash f k.sbn (x k.sbn) esis at h rows (same ∙ many ∙ all) bytes few.1 k.esi k.symbol.now seen other),
        becomes_same x _ k.sbn _ (ap (λ (t : Fti → Option (ℕ → List ℕ)). t f) c.in_ok-read.ensures.stays ∙ told) h,
      ),
    )

pub returns-else-came-clause-outcome : goal.returns-else-came-clause-outcome
returns-else-came-clause-outcome g c = λ x at told h lengths.
    let f = c.args.fti.now in
    let k = c.args.packet.now in
    let esis = esis_of c.args.self.now k.sbn in
    let rows = c.read.new.into in
    let few = counts f c.is_valid.ensures k.sbn c.requires.given.number in
    let size : c.from-size.result ≡ f.symbol_length = c.from-size.ensures ∙ c.symbol_length.ensures.value in
    let all : length c.in_ok-rows.rows.bytes.items ≡ source_count f k.sbn * f.symbol_length =
    c.in_ok-rows.rows.whole ∙ ap (λ (n : ℕ). n * c.in_ok-rows.rows.size) (c.in_ok-rows.ensures.sizes.rows_are ∙ c.k.ensures.value) ∙ ap (λ (n : ℕ). source_count f k.sbn * n) (c.in_ok-rows.ensures.sizes.bytes_are ∙ size) in
    let same : length rows ≡ vec_len c.in_ok-rows.rows.bytes = c.in_ok-read.ensures.len ∙ c.deref_mut.ensures.len in
    let many : vec_len c.in_ok-rows.rows.bytes ≡ length c.in_ok-rows.rows.bytes.items = search rules in
    let bytes = told_bytes _ x k.sbn 0 rows told c.in_ok-read.ensures.bytes in
    let other : GivesSymbol f k.sbn rows k.esi k.symbol.now → ⊥ =
    λ gives. not_given c.in_ok-given.given c.if-not-given.true (c.in_ok-given.ensures.1 (subst (λ (l : List ℕ). GivesSymbol f k.sbn l k.esi k.symbol.now) (sym (all_of rows _ _ same)) gives)) in
    let unseen : is_among esis k.esi ≡ false = ap (λ (l : List ℕ). is_among l k.esi) (sym c.get.ensures) ∙ sym c.place_of.ensures.among ∙ sym c.is_some-came.ensures ∙ c.if-came.false in (
      tt,
      (
        (refl, unseen_no_code f k.sbn (x k.sbn) esis at h rows (same ∙ many ∙ all) bytes few.1 k.esi k.symbol.now few.2 c.requires.given.esi unseen other),
        becomes_same x _ k.sbn _ (ap (λ (t : Fti → Option (ℕ → List ℕ)). t f) c.in_ok-read.ensures.stays ∙ told) h,
      ),
    )

-- the symbol came before
pub returns-then-came-2-clause-outcome : goal.returns-then-came-2-clause-outcome
returns-then-came-2-clause-outcome g c = λ x at told h lengths.
    let f = c.args.fti.now in
    let k = c.args.packet.now in
    let esis = esis_of c.args.self.now k.sbn in
    let rows = c.read.new.into in
    let few = counts f c.is_valid.ensures k.sbn c.requires.given.number in
    let size : c.from-size.result ≡ f.symbol_length = c.from-size.ensures ∙ c.symbol_length.ensures.value in
    let all : length c.in_ok-rows.rows.bytes.items ≡ source_count f k.sbn * f.symbol_length =
    c.in_ok-rows.rows.whole ∙ ap (λ (n : ℕ). n * c.in_ok-rows.rows.size) (c.in_ok-rows.ensures.sizes.rows_are ∙ c.k.ensures.value) ∙ ap (λ (n : ℕ). source_count f k.sbn * n) (c.in_ok-rows.ensures.sizes.bytes_are ∙ size) in
    let same : length rows ≡ vec_len c.in_ok-rows.rows.bytes = c.in_ok-read.ensures.len ∙ c.deref_mut.ensures.len in
    let many : vec_len c.in_ok-rows.rows.bytes ≡ length c.in_ok-rows.rows.bytes.items = search rules in
    let bytes = told_bytes _ x k.sbn 0 rows told c.in_ok-read.ensures.bytes in
    let gives : GivesSymbol f k.sbn rows k.esi k.symbol.now = subst (λ (l : List ℕ). GivesSymbol f k.sbn l k.esi k.symbol.now) (all_of rows _ _ same) (c.in_ok-given.ensures.0 c.if-not-given.false) in
    let seen : is_among esis k.esi ≡ true = ap (λ (l : List ℕ). is_among l k.esi) (sym c.get.ensures) ∙ sym c.place_of.ensures.among ∙ sym c.is_some-came.ensures ∙ c.if-came-2.true in (
      (
        given_may f k.sbn (x k.sbn) esis at h rows (same ∙ many ∙ all) bytes few.1 k.esi k.symbol.now lengths c.requires.given.symbol gives,
        becomes_same x _ k.sbn _ (ap (λ (t : Fti → Option (ℕ → List ℕ)). t f) c.in_ok-read.ensures.stays ∙ told)
            (given_same f k.sbn (x k.sbn) esis at h rows (same ∙ many ∙ all) bytes few.1 k.esi k.symbol.now lengths c.requires.given.symbol gives seen),
      ),
      tt,
    )

pub returns-clause-of : goal.returns-clause-of
returns-clause-of g c =
    let k = c.args.packet.now in
    let esis = esis_of c.args.self.now k.sbn in
    let free : is_among esis k.esi ≡ false = ap (λ (l : List ℕ). is_among l k.esi) (sym c.get.ensures) ∙ sym c.place_of.ensures.among ∙ sym c.is_some-came.ensures ∙ c.if-came-2.false in
    let now : esis_of c.push.new.self k.sbn ≡ esis ++ k.esi ∷ [] = c.push.ensures.pushed ∙ ap (λ (l : List ℕ). l ++ k.esi ∷ []) (c.in_ok-reserve.ensures.same k.sbn) in
    subst (λ (l : List ℕ). IsOf c.args.fti.now k.sbn l) (sym now) (of_more c.args.fti.now k.sbn esis k.esi c.requires.of c.requires.given.esi free)

-- it is noted now
pub returns-clause-outcome : goal.returns-clause-outcome
returns-clause-outcome g c = λ x at told h lengths.
    let f = c.args.fti.now in
    let k = c.args.packet.now in
    let esis = esis_of c.args.self.now k.sbn in
    let rows = c.read.new.into in
    let few = counts f c.is_valid.ensures k.sbn c.requires.given.number in
    let size : c.from-size.result ≡ f.symbol_length = c.from-size.ensures ∙ c.symbol_length.ensures.value in
    let all : length c.in_ok-rows.rows.bytes.items ≡ source_count f k.sbn * f.symbol_length =
    c.in_ok-rows.rows.whole ∙ ap (λ (n : ℕ). n * c.in_ok-rows.rows.size) (c.in_ok-rows.ensures.sizes.rows_are ∙ c.k.ensures.value) ∙ ap (λ (n : ℕ). source_count f k.sbn * n) (c.in_ok-rows.ensures.sizes.bytes_are ∙ size) in
    let same : length rows ≡ vec_len c.in_ok-rows.rows.bytes = c.in_ok-read.ensures.len ∙ c.deref_mut.ensures.len in
    let many : vec_len c.in_ok-rows.rows.bytes ≡ length c.in_ok-rows.rows.bytes.items = search rules in
    let bytes = told_bytes _ x k.sbn 0 rows told c.in_ok-read.ensures.bytes in
    let gives : GivesSymbol f k.sbn rows k.esi k.symbol.now = subst (λ (l : List ℕ). GivesSymbol f k.sbn l k.esi k.symbol.now) (all_of rows _ _ same) (c.in_ok-given.ensures.0 c.if-not-given.false) in
    let free : is_among esis k.esi ≡ false = ap (λ (l : List ℕ). is_among l k.esi) (sym c.get.ensures) ∙ sym c.place_of.ensures.among ∙ sym c.is_some-came.ensures ∙ c.if-came-2.false in
    let now : esis_of c.push.new.self k.sbn ≡ esis ++ k.esi ∷ [] = c.push.ensures.pushed ∙ ap (λ (l : List ℕ). l ++ k.esi ∷ []) (c.in_ok-reserve.ensures.same k.sbn) in (
      (
        given_may f k.sbn (x k.sbn) esis at h rows (same ∙ many ∙ all) bytes few.1 k.esi k.symbol.now lengths c.requires.given.symbol gives,
        becomes_same x _ k.sbn _ (ap (λ (t : Fti → Option (ℕ → List ℕ)). t f) c.in_ok-read.ensures.stays ∙ told)
            (subst (λ (l : List ℕ). IsSolved f k.sbn (x k.sbn) l (with_esi at k.esi k.symbol.now)) (sym now)
            (given_now f k.sbn (x k.sbn) esis at h rows (same ∙ many ∙ all) bytes few.1 k.esi k.symbol.now free c.requires.given.esi gives)),
      ),
      tt,
    )

pub returns-in_err-rows-clause-keeps : goal.returns-in_err-rows-clause-keeps
returns-in_err-rows-clause-keeps g c = kept_still c.requires.given c.room.ensures.codes c.room.ensures.recovery

pub returns-in_err-read-clause-keeps : goal.returns-in_err-read-clause-keeps
returns-in_err-read-clause-keeps g c = kept_still c.requires.given c.room.ensures.codes c.room.ensures.recovery

pub returns-in_err-given-clause-keeps : goal.returns-in_err-given-clause-keeps
returns-in_err-given-clause-keeps g c = kept_still c.requires.given c.room.ensures.codes c.room.ensures.recovery

pub returns-then-came-clause-keeps : goal.returns-then-came-clause-keeps
returns-then-came-clause-keeps g c = kept_still c.requires.given c.room.ensures.codes c.room.ensures.recovery

pub returns-else-came-clause-keeps : goal.returns-else-came-clause-keeps
returns-else-came-clause-keeps g c = kept_still c.requires.given c.room.ensures.codes c.room.ensures.recovery

pub returns-then-came-2-clause-keeps : goal.returns-then-came-2-clause-keeps
returns-then-came-2-clause-keeps g c = kept_still c.requires.given c.room.ensures.codes c.room.ensures.recovery

pub returns-in_err-reserve-clause-keeps : goal.returns-in_err-reserve-clause-keeps
returns-in_err-reserve-clause-keeps g c = kept_still c.requires.given c.room.ensures.codes c.room.ensures.recovery

pub returns-clause-keeps : goal.returns-clause-keeps
returns-clause-keeps g c = kept_still c.requires.given c.room.ensures.codes c.room.ensures.recovery

pub returns-in_err-rows-clause-outcome : goal.returns-in_err-rows-clause-outcome
returns-in_err-rows-clause-outcome g c = λ x at told h lengths. out_of_memory c.from_residual.result _ _ _ c.from_residual.ensures.1 (tt, becomes_same x _ c.args.packet.now.sbn _ told h)

pub returns-in_err-read-clause-outcome : goal.returns-in_err-read-clause-outcome
returns-in_err-read-clause-outcome g c = λ x at told h lengths.
    let f = c.args.fti.now in
    let k = c.args.packet.now in
    let size : c.from-size.result ≡ f.symbol_length = c.from-size.ensures ∙ c.symbol_length.ensures.value in
    let all : length c.in_ok-rows.rows.bytes.items ≡ source_count f k.sbn * f.symbol_length =
    c.in_ok-rows.rows.whole ∙ ap (λ (n : ℕ). n * c.in_ok-rows.rows.size) (c.in_ok-rows.ensures.sizes.rows_are ∙ c.k.ensures.value) ∙ ap (λ (n : ℕ). source_count f k.sbn * n) (c.in_ok-rows.ensures.sizes.bytes_are ∙ size) in
    let many : vec_len c.in_ok-rows.rows.bytes ≡ length c.in_ok-rows.rows.bytes.items = search rules in
    out_of_order c.from_residual-in_err-read.result _ _ _ c.from_residual-in_err-read.ensures.1
    (c.in_err-read.ensures.fails (x, told, from_start _ _ (x k.sbn) (c.deref_mut.ensures.len ∙ many ∙ all) h.rows.count))

pub returns-in_err-given-clause-outcome : goal.returns-in_err-given-clause-outcome
returns-in_err-given-clause-outcome g c = λ x at told h lengths.
    out_of_memory c.from_residual-in_err-given.result _ _ _ c.from_residual-in_err-given.ensures.1
    (tt, becomes_same x _ c.args.packet.now.sbn _ (ap (λ (t : Fti → Option (ℕ → List ℕ)). t c.args.fti.now) c.in_ok-read.ensures.stays ∙ told) h)

pub returns-in_err-reserve-clause-outcome : goal.returns-in_err-reserve-clause-outcome
returns-in_err-reserve-clause-outcome g c = λ x at told h lengths.
    let f = c.args.fti.now in
    let k = c.args.packet.now in
    out_of_memory c.from_residual-in_err-reserve.result _ _ _ c.from_residual-in_err-reserve.ensures.1 (
      tt,
      becomes_same x _ k.sbn _ (ap (λ (t : Fti → Option (ℕ → List ℕ)). t f) c.in_ok-read.ensures.stays ∙ told)
          (subst (λ (l : List ℕ). IsSolved f k.sbn (x k.sbn) l at) (sym (c.in_err-reserve.ensures.same k.sbn)) h),
    )

pub returns-in_err-reserve-clause-of : goal.returns-in_err-reserve-clause-of
returns-in_err-reserve-clause-of g c =
    subst (λ (l : List ℕ). IsOf c.args.fti.now c.args.packet.now.sbn l) (sym (c.in_err-reserve.ensures.same c.args.packet.now.sbn)) c.requires.of

pub returns-in_err-reserve-clause-enough : goal.returns-in_err-reserve-clause-enough
returns-in_err-reserve-clause-enough g c =
    subst (λ (l : List ℕ). source_count c.args.fti.now c.args.packet.now.sbn ≤ length l) (sym (c.in_err-reserve.ensures.same c.args.packet.now.sbn)) c.requires.enough

pub returns-in_err-reserve-clause-others : goal.returns-in_err-reserve-clause-others
returns-in_err-reserve-clause-others g c = λ a ne. c.in_err-reserve.ensures.same a

pub returns-clause-enough : goal.returns-clause-enough
returns-clause-enough g c =
    let k = c.args.packet.now in
    let esis = esis_of c.args.self.now k.sbn in
    let now : esis_of c.push.new.self k.sbn ≡ esis ++ k.esi ∷ [] = c.push.ensures.pushed ∙ ap (λ (l : List ℕ). l ++ k.esi ∷ []) (c.in_ok-reserve.ensures.same k.sbn) in
    subst (λ (l : List ℕ). source_count c.args.fti.now k.sbn ≤ length l) (sym now) (one_more _ esis k.esi c.requires.enough)

pub returns-clause-others : goal.returns-clause-others
returns-clause-others g c = λ a ne. c.push.ensures.others a ne ∙ c.in_ok-reserve.ensures.same a
