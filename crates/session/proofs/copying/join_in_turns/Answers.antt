use Rattle.std.proofs.Common.{◌≡◌, ◌<◌, ◌≤◌, ◌+◌, ◌++◌, ◌∷◌, [], ℕ, true, false, List, length, map, get_or, set, replicate, sym, ◌∙◌, refl, arith, rules, subst}
use Rattle.std.proofs.lemmas.List.{length-set, length-map, map-set, get_or_default}
use Rattle.session.specs.Copying.{HasJoined, IsInRound, IsWritten}
use Rattle.session.proofs.Copies.{all_joined, no_memory}
use Rattle.session.proofs.Steps.{blank, start, step_copied, step_over, step_sound, step_told, turn_next, turn_copied, turn_over, all_over, first_round, next_round, ended_more, in_lists, read_here}
use Rattle.session.proofs.copying.join_in_turns.Goals as goal
use Rattle.session.proofs.copying.join_in_turns.Goals.{then-some+in-Some, else-some}

pub returns-in_default-clause-fault : goal.returns-in_default-clause-fault
returns-in_default-clause-fault g c =
    no_memory true _ _ _ _ _ _ _ _ (start g.R.Read.remaining true c.args.readers.now (g.W.Write.contents c.args.writer.now) (g.W.Write.room c.args.writer.now)) _ _ _

pub loop-round-init : goal.loop-round-init
loop-round-init g c =
    let readers = c.args.readers.now in
    let all : c.in-Ok.ended.items ≡ replicate (length c.args.readers.now) false = search rules in
    record {
      joined = (
        blank readers,
        start g.R.Read.remaining true readers (g.W.Write.contents c.args.writer.now) (g.W.Write.room c.args.writer.now),
        first_round g.R.Read.remaining readers c.in-Ok.ended.items all,
      );
      sound = refl;
      size = refl;
      flags = search rules;
    }

pub returns-in-Err-clause-fault : goal.returns-in-Err-clause-fault
returns-in-Err-clause-fault g c =
    let state = c.loop-place.invariant.joined in
    let old = c.args.readers.now in
    let now = c.loop-place.readers in
    let before = g.W.Write.contents c.args.writer.now in
    let mid = g.W.Write.contents c.loop-place.writer in
    let room = g.W.Write.room c.args.writer.now in
    let room_now = g.W.Write.room c.loop-place.writer in
    let count = c.loop-place.count in
    let p = c.loop-place.place in
    let flags = c.loop-place.invariant.flags in
    let size = c.loop-place.invariant.size in
    let sound = c.loop-place.invariant.sound in
    let l = subst (λ (n : ℕ). p < n) (sym c.loop-place.auto.readers) c.loop-place-test.true in
    let le = subst (λ (n : ℕ). p < n) (sym flags) l in
    let x = get_or now p c.index-readers-place.result in
    let at = read_here now p c.index-readers-place.result l in
    let y = c.copy_one.new.reader in
    let read : false ≡ get_or c.loop-place.ended.items p false = rw c.if-index.false at c.index.ensures in
    let going : get_or c.loop-place.ended.items p true ≡ false = get_or_default c.loop-place.ended.items p true false le ∙ sym read in
    let inside = in_lists g.R.Read.remaining g.R.Read.sound g.R.Read.failed true old now before mid room room_now count state.0 state.1 size sound p l x at in
    let next = turn_next c.loop-round._round p c.loop-place.ended.items (map g.R.Read.remaining now) state.0 state.2 going inside in
    step_told g.R.Read.remaining g.R.Read.sound g.R.Read.failed true old now before mid room room_now count state.0 state.1 size sound p l x at
    y c.first_fault.new.readers c.first_fault.auto.readers c.in-Err.fault c.first_fault.result _ _ next c.in-Err.ensures.fault c.first_fault.ensures

pub returns-in_default-checked_add-clause-fault : goal.returns-in_default-checked_add-clause-fault
returns-in_default-checked_add-clause-fault g c =
    let state = c.loop-place.invariant.joined in
    let old = c.args.readers.now in
    let now = c.loop-place.readers in
    let before = g.W.Write.contents c.args.writer.now in
    let mid = g.W.Write.contents c.loop-place.writer in
    let room = g.W.Write.room c.args.writer.now in
    let room_now = g.W.Write.room c.loop-place.writer in
    let count = c.loop-place.count in
    let p = c.loop-place.place in
    let flags = c.loop-place.invariant.flags in
    let size = c.loop-place.invariant.size in
    let sound = c.loop-place.invariant.sound in
    let l = subst (λ (n : ℕ). p < n) (sym c.loop-place.auto.readers) c.loop-place-test.true in
    let le = subst (λ (n : ℕ). p < n) (sym flags) l in
    let x = get_or now p c.index-readers-place.result in
    let at = read_here now p c.index-readers-place.result l in
    let y = c.copy_one.new.reader in
    let read : false ≡ get_or c.loop-place.ended.items p false = rw c.if-index.false at c.index.ensures in
    let going : get_or c.loop-place.ended.items p true ≡ false = get_or_default c.loop-place.ended.items p true false le ∙ sym read in
    let inside = in_lists g.R.Read.remaining g.R.Read.sound g.R.Read.failed true old now before mid room room_now count state.0 state.1 size sound p l x at in
    let next = turn_next c.loop-round._round p c.loop-place.ended.items (map g.R.Read.remaining now) state.0 state.2 going inside in
    let one = rw c.if-some.true at c.in-Ok-copy_one.ensures.ok in
    let has = step_copied g.R.Read.remaining g.R.Read.sound g.R.Read.failed true old now before mid room room_now count state.0 state.1 size sound p l x at y (g.W.Write.contents c.copy_one.new.writer) (g.W.Write.room c.copy_one.new.writer) one next in
    no_memory true _ _ _ _ _ _ _ _ has (map g.R.Read.sound old) (map g.R.Read.failed (set now p y)) (g.W.Write.failed c.copy_one.new.writer)

pub loop-place-preserved : goal.loop-place-preserved
loop-place-preserved g c =
    let state = c.loop-place.invariant.joined in
    let old = c.args.readers.now in
    let now = c.loop-place.readers in
    let before = g.W.Write.contents c.args.writer.now in
    let mid = g.W.Write.contents c.loop-place.writer in
    let room = g.W.Write.room c.args.writer.now in
    let room_now = g.W.Write.room c.loop-place.writer in
    let count = c.loop-place.count in
    let p = c.loop-place.place in
    let flags = c.loop-place.invariant.flags in
    let size = c.loop-place.invariant.size in
    let sound = c.loop-place.invariant.sound in
    let l = subst (λ (n : ℕ). p < n) (sym c.loop-place.auto.readers) c.loop-place-test.true in
    let le = subst (λ (n : ℕ). p < n) (sym flags) l in
    let x = get_or now p c.index-readers-place.result in
    let at = read_here now p c.index-readers-place.result l in
    let y = c.copy_one.new.reader in
    let read : false ≡ get_or c.loop-place.ended.items p false = rw c.if-index.false at c.index.ensures in
    let going : get_or c.loop-place.ended.items p true ≡ false = get_or_default c.loop-place.ended.items p true false le ∙ sym read in
    let inside = in_lists g.R.Read.remaining g.R.Read.sound g.R.Read.failed true old now before mid room room_now count state.0 state.1 size sound p l x at in
    let next = turn_next c.loop-round._round p c.loop-place.ended.items (map g.R.Read.remaining now) state.0 state.2 going inside in
    let same = length-set now p y in
    let many = length-map now g.R.Read.remaining in
    let sound_then = step_sound g.R.Read.remaining g.R.Read.sound g.R.Read.failed true old now before mid room room_now count state.0 state.1 size sound p l x at y c.copy_one.ensures.stays in
    elim c.if-some.branch [
      | then-some+in-Some w ↦
          (let one = rw w.if-some.true at c.in-Ok-copy_one.ensures.ok in
          let d : List ℕ = one.datagram in
          let lists = set state.0 p (get_or state.0 p [] ++ one.datagram ∷ []) in
          let more : w.in-Some.next ≡ c.loop-place.count + 1 = (let e = w.in-Some.ensures in omega (arith, e)) in
          let has = step_copied g.R.Read.remaining g.R.Read.sound g.R.Read.failed true old now before mid room room_now count state.0 state.1 size sound p l x at y (g.W.Write.contents c.copy_one.new.writer) (g.W.Write.room c.copy_one.new.writer) one next in
          rw (w.ended-is, w.count-is, w.over-is) (record {
            joined = (
              lists,
              subst (λ n. HasJoined true (map g.R.Read.remaining old) (map g.R.Read.remaining (set now p y)) (IsWritten (g.W.Write.contents c.args.writer.now) (g.W.Write.contents c.copy_one.new.writer) (g.W.Write.room c.args.writer.now) (g.W.Write.room c.copy_one.new.writer)) n lists) (sym more) has,
              subst (λ new. IsInRound c.loop-round._round (p + 1) c.loop-place.ended.items new lists) (sym (map-set g.R.Read.remaining now p y))
                  (turn_copied c.loop-round._round p c.loop-place.ended.items (map g.R.Read.remaining now) state.0 state.2 going (g.R.Read.remaining y) d inside),
            );
            sound = sound_then;
            size = same ∙ size;
            flags = flags ∙ sym same;
            over = λ e. absurd (cc);
          }))
      | else-some w ↦
          (let one = rw w.if-some.false at c.in-Ok-copy_one.ensures.ok in
          let has = step_over g.R.Read.remaining g.R.Read.sound g.R.Read.failed true old now before mid room room_now count state.0 state.1 size sound p l x at y (g.W.Write.contents c.copy_one.new.writer) (g.W.Write.room c.copy_one.new.writer) one in
          rw (w.ended-is, w.count-is, w.over-is) (record {
            joined = (
              state.0,
              has,
              subst (λ new. IsInRound c.loop-round._round (p + 1) (set c.loop-place.ended.items p true) new state.0) (sym (map-set g.R.Read.remaining now p y))
                  (turn_over c.loop-round._round p c.loop-place.ended.items (map g.R.Read.remaining now) state.0 state.2 going (g.R.Read.remaining y) le (subst (λ (n : ℕ). p < n) (sym many) l) one.end),
            );
            sound = sound_then;
            size = same ∙ size;
            flags = length-set c.loop-place.ended.items p true ∙ flags ∙ sym same;
            over = λ e. ended_more c.loop-place.ended.items p le (c.loop-place.invariant.over e);
          }))
    ]

pub returns-clause-fault : goal.returns-clause-fault
returns-clause-fault g c =
    let state = c.loop-round.invariant.joined in
    no_memory true _ _ _ _ _ _ _ state.0 state.1 _ _ _

pub returns-then-over-clause-ok : goal.returns-then-over-clause-ok
returns-then-over-clause-ok g c =
    let state = c.loop-place.invariant.joined in
    let flags = c.loop-place.invariant.flags in
    let size = c.loop-place.invariant.size in
    all_joined true _ _ _ _ _ _ _ state.0 state.1
    (all_over c.loop-round._round c.loop-place.place c.loop-place.ended.items (map g.R.Read.remaining c.loop-place.readers) state.0 state.2
    (subst (λ (n : ℕ). n ≤ c.loop-place.place) (sym (flags ∙ c.loop-place.auto.readers)) c.loop-place-test.false) (c.loop-place.invariant.over c.if-over.true))

pub loop-round-preserved : goal.loop-round-preserved
loop-round-preserved g c =
    let state = c.loop-place.invariant.joined in
    let now = c.loop-place.readers in
    let flags = c.loop-place.invariant.flags in
    let size = c.loop-place.auto.readers in
    record {
      joined = (
        state.0,
        state.1,
        next_round c.loop-round._round c.loop-place.place c.loop-place.ended.items (map g.R.Read.remaining now) state.0 state.2
            (subst (λ (n : ℕ). n ≤ c.loop-place.place) (sym (flags ∙ size)) c.loop-place-test.false),
      );
      sound = c.loop-place.invariant.sound;
      size = c.loop-place.invariant.size;
      flags = flags;
    }
