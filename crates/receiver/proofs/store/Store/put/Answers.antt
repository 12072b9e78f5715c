use Rattle.std.proofs.Common.{◌≡◌, ◌∙◌, ◌+◌, ◌∷◌, [], ◌≤◌, ◌<◌, Some, List, ℕ, Option, length, refl, ap, sym, subst, arith, inr, le-leb, length-append, nat_le, Ok, Err}
use Rattle.std.proofs.lemmas.Bool.{lt-leb}
use Rattle.partition.specs.Fti.{Fti, source_count}
use Rattle.block_recovery.proofs.Kept.{with_same}
use Rattle.receiver.specs.Esis.{esis_of}
use Rattle.receiver.specs.Putting.{BytesNow, bytes_now}
use Rattle.receiver.specs.Stored.{IsOf, IsPending, is_among}
use Rattle.receiver.specs.declared.store.Store.{Store}
use Rattle.receiver.proofs.Among.{of_more, of_kept, too_few_kept}
use Rattle.receiver.proofs.Holding.{each_still, count_stays, one_more_solved, counts_few, stored_then, solved_then, pending_then, solves_then}
use Rattle.receiver.proofs.Pending.{pending_of, solved_of}
use Rattle.receiver.proofs.Told.{becomes_same, outcome_then, passed}
use Rattle.receiver.proofs.store.Store.put.Goals as goal

-- ---- a block that is solved

pub returns-then-need-have-clause-sound : goal.returns-then-need-have-clause-sound
returns-then-need-have-clause-sound g c =
    let s = c.args.self.now in
    let b = c.args.packet.now.sbn in
    let e = c.put_to_solved.ensures in
    let store : Store = record { fti = s.fti; esis = c.put_to_solved.new.self; solved = s.solved; solver = c.put_to_solved.new.solver } in
    let before : source_count s.fti b ≤ length (esis_of s.esis b) = omega (arith, c.if-need-have.true, c.k-need.ensures.value, ap length c.get-esis.ensures) in
    record {
      parts = record { codes = e.keeps.codes_are; recovery = e.keeps.recovery; each = each_still s store b e.others e.of c.requires.sound.parts.each };
      solved = count_stays s store c.requires.sound refl b e.others refl (le-leb _ _ e.enough ∙ sym (le-leb _ _ before));
    }

pub returns-then-need-have-clause-outcome : goal.returns-then-need-have-clause-outcome
returns-then-need-have-clause-outcome g c = λ at hold.
    let s = c.args.self.now in
    let f = s.fti in
    let k = c.args.packet.now in
    let held = hold.2 in
    let store : Store = record { fti = f; esis = c.put_to_solved.new.self; solved = s.solved; solver = c.put_to_solved.new.solver } in
    let enough : source_count f k.sbn ≤ length (esis_of s.esis k.sbn) = omega (arith, c.if-need-have.true, c.k-need.ensures.value, ap length c.get-esis.ensures) in
    let now : BytesNow = bytes_now g.B.BlockBytes c.put_to_solved.new.bytes in
    solved_then s store refl k c.requires.number c.requires.esi c.requires.symbol c.put_to_solved.ensures.others c.args.place now c.put_to_solved.result hold.0 at held
    (c.put_to_solved.ensures.outcome hold.0 (at k.sbn) hold.1 (solved_of f k.sbn (hold.0 k.sbn) (esis_of s.esis k.sbn) (at k.sbn) enough (held.blocks k.sbn)) (held.within.count k.sbn))

-- ---- a symbol that came before

pub returns-in-Some-clause-outcome : goal.returns-in-Some-clause-outcome
returns-in-Some-clause-outcome g c = λ at hold.
    let s = c.args.self.now in
    let f = s.fti in
    let k = c.args.packet.now in
    let held = hold.2 in
    let few : length (esis_of s.esis k.sbn) < source_count f k.sbn = omega (arith, c.if-need-have.false, c.k-need.ensures.value, ap length c.get-esis.ensures) in
    let own : IsPending f k.sbn (hold.0 k.sbn) c.get-esis.result.now (at k.sbn) =
    subst (λ (l : List ℕ). IsPending f k.sbn (hold.0 k.sbn) l (at k.sbn)) (sym c.get-esis.ensures) (pending_of f k.sbn (hold.0 k.sbn) (esis_of s.esis k.sbn) (at k.sbn) few (held.blocks k.sbn)) in
    let now : BytesNow = bytes_now g.B.BlockBytes c.compare.new.bytes in
    let same : now.told f ≡ Some hold.0 = ap (λ (t : Fti → Option (ℕ → List ℕ)). t f) c.compare.ensures.stays ∙ hold.1 in
    stored_then s s refl k c.requires.number c.requires.esi c.requires.symbol (λ a ne. refl) c.args.place now c.compare.result hold.0 at held
    (outcome_then c.compare.result _ _ _ _ now.failed
    (λ stands. (inr stands, becomes_same hold.0 _ k.sbn _ same (rw (with_same (at k.sbn) k.esi k.symbol.now stands) (held.blocks k.sbn))))
    (λ e why. (why, becomes_same hold.0 _ k.sbn _ same (held.blocks k.sbn)))
    (c.compare.ensures.outcome hold.0 (at k.sbn) hold.1 own))

-- ---- one more, and too few still

pub returns-then-have-need-clause-sound : goal.returns-then-have-need-clause-sound
returns-then-have-need-clause-sound g c =
    let s = c.args.self.now in
    let k = c.args.packet.now in
    let e = c.keep.ensures in
    let store : Store = record { fti = s.fti; esis = c.keep.new.self; solved = s.solved; solver = s.solver } in
    let free = sym (c.in_default.ensures.among ∙ ap (λ (l : List ℕ). is_among l k.esi) c.get-esis.ensures) in
    let few : length (esis_of s.esis k.sbn) + 1 < source_count s.fti k.sbn = omega (arith, c.if-have-need.true, c.k-need.ensures.value, ap length c.get-esis.ensures) in
    let own = of_kept s.fti k.sbn (esis_of s.esis k.sbn) (esis_of c.keep.new.self k.sbn) k.esi c.keep.result e.kept e.same (c.requires.sound.parts.each k.sbn) c.requires.esi free in
    record {
      parts = record { codes = c.requires.sound.parts.codes; recovery = c.requires.sound.parts.recovery; each = each_still s store k.sbn e.others own c.requires.sound.parts.each };
      solved = count_stays s store c.requires.sound refl k.sbn e.others refl (too_few_kept s.fti k.sbn (esis_of s.esis k.sbn) (esis_of c.keep.new.self k.sbn) k.esi c.keep.result e.kept e.same few);
    }

pub returns-then-have-need-clause-outcome : goal.returns-then-have-need-clause-outcome
returns-then-have-need-clause-outcome g c = λ at hold.
    let s = c.args.self.now in
    let f = s.fti in
    let k = c.args.packet.now in
    let held = hold.2 in
    let store : Store = record { fti = f; esis = c.keep.new.self; solved = s.solved; solver = s.solver } in
    let few : length (esis_of s.esis k.sbn) < source_count f k.sbn = omega (arith, c.if-need-have.false, c.k-need.ensures.value, ap length c.get-esis.ensures) in
    let now : BytesNow = bytes_now g.B.BlockBytes c.keep.new.bytes in
    pending_then s store refl k c.requires.number c.requires.esi c.requires.symbol c.keep.ensures.others c.args.place now c.keep.result hold.0 at held
    (c.keep.ensures.outcome c.args.place hold.0 (at k.sbn) hold.1 (pending_of f k.sbn (hold.0 k.sbn) (esis_of s.esis k.sbn) (at k.sbn) few (held.blocks k.sbn)))

-- ---- the last that is needed

pub returns-in_err-solve-clause-sound : goal.returns-in_err-solve-clause-sound
returns-in_err-solve-clause-sound g c =
    let s = c.args.self.now in
    let b = c.args.packet.now.sbn in
    let e = c.in_err-solve.ensures in
    let store : Store = record { fti = s.fti; esis = c.solve.new.self; solved = s.solved; solver = c.solve.new.solver } in
    let own = subst (λ (l : List ℕ). IsOf s.fti b l) (sym e.same) (c.requires.sound.parts.each b) in
    record {
      parts = record { codes = e.keeps.codes_are; recovery = e.keeps.recovery; each = each_still s store b e.others own c.requires.sound.parts.each };
      solved = count_stays s store c.requires.sound refl b e.others refl (ap (λ (l : List ℕ). nat_le (source_count s.fti b) (length l)) e.same);
    }

pub returns-in_err-solve-clause-outcome : goal.returns-in_err-solve-clause-outcome
returns-in_err-solve-clause-outcome g c = λ at hold.
    let s = c.args.self.now in
    let f = s.fti in
    let k = c.args.packet.now in
    let held = hold.2 in
    let store : Store = record { fti = f; esis = c.solve.new.self; solved = s.solved; solver = c.solve.new.solver } in
    let few : length (esis_of s.esis k.sbn) < source_count f k.sbn = omega (arith, c.if-need-have.false, c.k-need.ensures.value, ap length c.get-esis.ensures) in
    let now : BytesNow = bytes_now g.B.BlockBytes c.solve.new.bytes in
    passed c.from_residual.result c.in_err-solve.field-0.0 now.failed _ _ c.from_residual.ensures.1
    (solves_then s store refl k c.requires.number c.requires.esi c.requires.symbol c.in_err-solve.ensures.others c.args.place now (Err c.in_err-solve.field-0.0) hold.0 at held
    (c.in_err-solve.ensures.outcome c.args.place hold.0 (at k.sbn) hold.1 (pending_of f k.sbn (hold.0 k.sbn) (esis_of s.esis k.sbn) (at k.sbn) few (held.blocks k.sbn))))

pub overflow_add-self : goal.overflow_add-self
overflow_add-self g c = omega (arith, counts_few c.args.self.now c.requires.sound, c.is_valid.ensures.blocks)

pub returns-clause-sound : goal.returns-clause-sound
returns-clause-sound g c =
    let s = c.args.self.now in
    let k = c.args.packet.now in
    let e = c.in_ok-solve.ensures in
    let esis = esis_of s.esis k.sbn in
    let store : Store = record { fti = s.fti; esis = c.solve.new.self; solved = s.solved + 1; solver = c.solve.new.solver } in
    let free = sym (c.in_default.ensures.among ∙ ap (λ (l : List ℕ). is_among l k.esi) c.get-esis.ensures) in
    let own = subst (λ (l : List ℕ). IsOf s.fti k.sbn l) (sym e.kept) (of_more s.fti k.sbn esis k.esi (c.requires.sound.parts.each k.sbn) c.requires.esi free) in
    let more : length (esis_of c.solve.new.self k.sbn) ≡ length esis + 1 = ap length e.kept ∙ length-append esis (k.esi ∷ []) in
    let had = ap length c.get-esis.ensures in
    let before = lt-leb (source_count s.fti k.sbn) (length esis) (omega (arith, had, c.if-need-have.false, c.k-need.ensures.value)) in
    let after = le-leb (source_count s.fti k.sbn) (length (esis_of c.solve.new.self k.sbn)) (omega (arith, more, had, c.if-have-need.false, c.k-need.ensures.value)) in
    record {
      parts = record { codes = e.keeps.codes_are; recovery = e.keeps.recovery; each = each_still s store k.sbn e.others own c.requires.sound.parts.each };
      solved = sym (one_more_solved s store c.requires.sound refl k.sbn e.others c.requires.number (before, after));
    }

pub returns-clause-outcome : goal.returns-clause-outcome
returns-clause-outcome g c = λ at hold.
    let s = c.args.self.now in
    let f = s.fti in
    let k = c.args.packet.now in
    let held = hold.2 in
    let store : Store = record { fti = f; esis = c.solve.new.self; solved = s.solved + 1; solver = c.solve.new.solver } in
    let few : length (esis_of s.esis k.sbn) < source_count f k.sbn = omega (arith, c.if-need-have.false, c.k-need.ensures.value, ap length c.get-esis.ensures) in
    let now : BytesNow = bytes_now g.B.BlockBytes c.solve.new.bytes in
    solves_then s store refl k c.requires.number c.requires.esi c.requires.symbol c.in_ok-solve.ensures.others c.args.place now (Ok tt) hold.0 at held
    (c.in_ok-solve.ensures.outcome c.args.place hold.0 (at k.sbn) hold.1 (pending_of f k.sbn (hold.0 k.sbn) (esis_of s.esis k.sbn) (at k.sbn) few (held.blocks k.sbn)))
