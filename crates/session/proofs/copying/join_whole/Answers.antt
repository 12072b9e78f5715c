use Rattle.std.proofs.Common.{◌≡◌, ◌+◌, ◌++◌, ◌∷◌, [], false, map, get_or, set, sym, ◌∙◌, refl, arith, subst}
use Rattle.std.proofs.lemmas.List.{length-set, length-map, map-set}
use Rattle.session.specs.Joining.{IsUnjoined}
use Rattle.session.specs.Copying.{HasJoined, IsAtReader, IsWritten}
use Rattle.session.proofs.Copies.{all_joined, no_memory}
use Rattle.session.proofs.Steps.{blank, is_blank, start, told, step_copied, step_over, step_sound, step_fault, whole_next, whole_copied, whole_over, whole_ends, whole_first, fewer_left, one_over, in_lists, read_here}
use Rattle.session.proofs.copying.join_whole.Goals as goal

pub loop-place-init : goal.loop-place-init
loop-place-init g c =
    let readers = c.args.readers.now in
    record {
      joined = (
        blank readers,
        start g.R.Read.remaining false readers (g.W.Write.contents c.args.writer.now) (g.W.Write.room c.args.writer.now),
        record { before = λ i m. absurd (omega (arith, m)); behind = λ i m. is_blank readers i },
      );
      sound = refl;
      size = refl;
      within = omega arith;
    }

pub returns-in_err-copy_one-clause-fault : goal.returns-in_err-copy_one-clause-fault
returns-in_err-copy_one-clause-fault g c =
    let state = c.loop-place.invariant.joined in
    let old = c.args.readers.now in
    let now = c.loop-place.readers in
    let p = c.loop-place.place in
    let l = c.loop-place-test.true in
    let x = get_or now p c.index-readers-place.result in
    let at = read_here now p c.index-readers-place.result l in
    let y = c.copy_one.new.reader in
    let size = c.loop-place.invariant.size in
    let sound = c.loop-place.invariant.sound in
    let inside = in_lists g.R.Read.remaining g.R.Read.sound g.R.Read.failed false old now _ _ _ _ _ state.0 state.1 size sound p l x at in
    told c.from_residual.result c.in_err-copy_one.field-0.0
    (λ e. IsUnjoined false e (map g.R.Read.remaining old) (map g.R.Read.sound old) (map g.R.Read.failed (set now p y)) (record { before = (g.W.Write.contents c.args.writer.now); after = (g.W.Write.contents c.copy_one.new.writer); room = (g.W.Write.room c.args.writer.now); failed = (g.W.Write.failed c.copy_one.new.writer) }))
    c.from_residual.ensures.1
    (step_fault g.R.Read.remaining g.R.Read.sound g.R.Read.failed false old now _ _ _ _ _ state.0 state.1 size sound p l x at
    c.in_err-copy_one.field-0.0 y _ _ (whole_next _ state.0 p state.2 inside)
    (λ _. whole_first false _ _ _ _ _ _ _ state.0 state.1 p state.2) c.in_err-copy_one.ensures.fault)

pub returns-in_default-clause-fault : goal.returns-in_default-clause-fault
returns-in_default-clause-fault g c =
    let state = c.loop-place.invariant.joined in
    let old = c.args.readers.now in
    let now = c.loop-place.readers in
    let p = c.loop-place.place in
    let l = c.loop-place-test.true in
    let x = get_or now p c.index-readers-place.result in
    let at = read_here now p c.index-readers-place.result l in
    let y = c.copy_one.new.reader in
    let size = c.loop-place.invariant.size in
    let sound = c.loop-place.invariant.sound in
    let inside = in_lists g.R.Read.remaining g.R.Read.sound g.R.Read.failed false old now _ _ _ _ _ state.0 state.1 size sound p l x at in
    let one = rw c.if-branch.true at c.in_ok-copy_one.ensures.ok in
    no_memory false _ _ _ _ _ _ _ _ (step_copied g.R.Read.remaining g.R.Read.sound g.R.Read.failed false old now _ _ _ _ _ state.0 state.1 size sound p l x at y _ _ one (whole_next _ state.0 p state.2 inside)) _ _ _

pub loop-place-smaller-then-branch : goal.loop-place-smaller-then-branch
loop-place-smaller-then-branch g c =
    let now = c.loop-place.readers in
    let p = c.loop-place.place in
    let l = c.loop-place-test.true in
    fewer_left g.R.Read.left now p l (get_or now p c.index-readers-place.result) c.copy_one.new.reader (read_here now p c.index-readers-place.result l)
    (c.in_ok-copy_one.ensures.falls c.if-branch.true)

pub loop-place-preserved-then-branch : goal.loop-place-preserved-then-branch
loop-place-preserved-then-branch g c =
    let state = c.loop-place.invariant.joined in
    let old = c.args.readers.now in
    let now = c.loop-place.readers in
    let p = c.loop-place.place in
    let l = c.loop-place-test.true in
    let x = get_or now p c.index-readers-place.result in
    let at = read_here now p c.index-readers-place.result l in
    let y = c.copy_one.new.reader in
    let size = c.loop-place.invariant.size in
    let sound = c.loop-place.invariant.sound in
    let inside = in_lists g.R.Read.remaining g.R.Read.sound g.R.Read.failed false old now _ _ _ _ _ state.0 state.1 size sound p l x at in
    let one = rw c.if-branch.true at c.in_ok-copy_one.ensures.ok in
    let next : c.in-Some.next ≡ c.loop-place.count + 1 = (let e = c.in-Some.ensures in omega (arith, e)) in
    let has = step_copied g.R.Read.remaining g.R.Read.sound g.R.Read.failed false old now _ _ _ _ _ state.0 state.1 size sound p l x at y _ _ one (whole_next _ state.0 p state.2 inside) in
    let same = length-set now p y in
    let within = c.loop-place.invariant.within in
    record {
      joined = (
        set state.0 p (get_or state.0 p [] ++ one.datagram ∷ []),
        subst (λ n. HasJoined false (map g.R.Read.remaining old) (map g.R.Read.remaining (set now p y)) (IsWritten (g.W.Write.contents c.args.writer.now) (g.W.Write.contents c.copy_one.new.writer) (g.W.Write.room c.args.writer.now) (g.W.Write.room c.copy_one.new.writer)) n (set state.0 p (get_or state.0 p [] ++ one.datagram ∷ []))) (sym next) has,
        subst (λ new. IsAtReader p new (set state.0 p (get_or state.0 p [] ++ one.datagram ∷ []))) (sym (map-set g.R.Read.remaining now p y)) (whole_copied _ state.0 p state.2 (g.R.Read.remaining y) (get_or state.0 p [] ++ one.datagram ∷ [])),
      );
      sound = step_sound g.R.Read.remaining g.R.Read.sound g.R.Read.failed false old now _ _ _ _ _ state.0 state.1 size sound p l x at y c.copy_one.ensures.stays;
      size = same ∙ size;
      within = omega (arith, same, within);
    }

pub loop-place-smaller : goal.loop-place-smaller
loop-place-smaller g c =
    let now = c.loop-place.readers in
    let p = c.loop-place.place in
    let l = c.loop-place-test.true in
    one_over g.R.Read.left now p l (get_or now p c.index-readers-place.result) c.copy_one.new.reader (read_here now p c.index-readers-place.result l)

pub loop-place-preserved : goal.loop-place-preserved
loop-place-preserved g c =
    let state = c.loop-place.invariant.joined in
    let old = c.args.readers.now in
    let now = c.loop-place.readers in
    let p = c.loop-place.place in
    let l = c.loop-place-test.true in
    let x = get_or now p c.index-readers-place.result in
    let at = read_here now p c.index-readers-place.result l in
    let y = c.copy_one.new.reader in
    let size = c.loop-place.invariant.size in
    let sound = c.loop-place.invariant.sound in
    let inside = in_lists g.R.Read.remaining g.R.Read.sound g.R.Read.failed false old now _ _ _ _ _ state.0 state.1 size sound p l x at in
    let one = rw c.if-branch.false at c.in_ok-copy_one.ensures.ok in
    let same = length-set now p y in
    let many = length-map now g.R.Read.remaining in
    record {
      joined = (
        state.0,
        step_over g.R.Read.remaining g.R.Read.sound g.R.Read.failed false old now _ _ _ _ _ state.0 state.1 size sound p l x at y _ _ one,
        subst (λ new. IsAtReader (p + 1) new state.0) (sym (map-set g.R.Read.remaining now p y)) (whole_over _ state.0 p state.2 (g.R.Read.remaining y) (omega (arith, many, l)) one.end),
      );
      sound = step_sound g.R.Read.remaining g.R.Read.sound g.R.Read.failed false old now _ _ _ _ _ state.0 state.1 size sound p l x at y c.copy_one.ensures.stays;
      size = same ∙ size;
      within = omega (arith, same, l);
    }

pub returns-clause-ok : goal.returns-clause-ok
returns-clause-ok g c =
    let state = c.loop-place.invariant.joined in
    let many = length-map c.loop-place.readers g.R.Read.remaining in
    all_joined false _ _ _ _ _ _ _ state.0 state.1
    (whole_ends (map g.R.Read.remaining c.loop-place.readers) state.0 c.loop-place.place state.2 (let over = c.loop-place-test.false in omega (arith, many, over)))
