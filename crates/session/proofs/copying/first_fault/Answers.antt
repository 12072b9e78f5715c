use Rattle.std.proofs.Common.{◌≡◌, ◌<◌, ℕ, Bool, false, List, Option, map, length, get_or, set, sym, ap, ◌∙◌, arith, inl, inr, subst}
use Rattle.std.specs.Prelude.{None}
use Rattle.std.proofs.lemmas.List.{length-map, length-set, map-set, get_or-map, get_or-set_same, get_or-set_other, set-get_or}
use Rattle.session.specs.Frames.{IsSessionFault}
use Rattle.session.specs.Joining.{IsWhole}
use Rattle.session.proofs.Joins.{same_or_not}
use Rattle.session.proofs.Steps.{told_as}
use Rattle.session.proofs.copying.first_fault.Goals as goal

pub returns-in-Err : goal.returns-in-Err
returns-in-Err g c =
    let old = c.args.readers.now in
    let now = c.loop-place.readers in
    let p : ℕ = c.loop-place.place in
    let x = c.index-readers-place.result in
    let y = c.read_on.new.reader in
    let i = c.loop-place.invariant in
    let l : c.loop-place.place < length c.loop-place.readers = (let t = c.loop-place-test.true in let s = i.size in omega (arith, t, s)) in
    let here = get_or-map g.R.Read.remaining now p x None l in
    let was = i.later p (omega arith) in
    let many = length-map old g.R.Read.remaining in
    let flags = length-map now g.R.Read.failed in
    let failed : get_or (map g.R.Read.failed (set now p y)) p false ≡ g.R.Read.failed y =
    ap (λ (bs : List Bool). get_or bs p false) (map-set g.R.Read.failed now p y) ∙ get_or-set_same (map g.R.Read.failed now) p (g.R.Read.failed y) false (omega (arith, flags, l)) in
    let sound = ap (λ (bs : List Bool). get_or bs p false) (sym i.sound) ∙ get_or-map g.R.Read.sound now p x false l in
    told_as c.args.other c.in-Err.fault (map g.R.Read.remaining old) (map g.R.Read.sound old) (map g.R.Read.failed (set now p y)) c.in_default.not-NoMemory
    (inr (
      p,
      (let t = c.loop-place-test.true in omega (arith, many, t)),
      subst (λ (b : Bool). IsSessionFault c.in-Err.fault (get_or (map g.R.Read.remaining old) p None) b) (sym failed)
          (subst (λ (o : Option (List ℕ)). IsSessionFault c.in-Err.fault o (g.R.Read.failed y)) (sym here ∙ was) c.in-Err.ensures.fault),
      λ e. sound ∙ c.in-Err.ensures.unsound e,
      i.whole,
    ))

pub loop-place-preserved : goal.loop-place-preserved
loop-place-preserved g c =
    let old = c.args.readers.now in
    let now = c.loop-place.readers in
    let p : ℕ = c.loop-place.place in
    let x = c.index-readers-place.result in
    let y = c.read_on.new.reader in
    let inv = c.loop-place.invariant in
    let l : c.loop-place.place < length c.loop-place.readers = (let t = c.loop-place-test.true in let s = inv.size in omega (arith, t, s)) in
    let here = get_or-map g.R.Read.remaining now p x None l in
    let was = inv.later p (omega arith) in
    record {
      whole = λ i li. elim (same_or_not i p) [
        | inl e ↦ subst (λ (n : ℕ). IsWhole (get_or (map g.R.Read.remaining old) n None)) (sym e)
            (subst (λ (o : Option (List ℕ)). IsWhole o) (sym here ∙ was) c.in_default-read_on.ensures.whole)
        | inr n ↦ inv.whole i (omega (arith, li, n))
      ];
      later = λ i li.
          ap (λ (zs : List (Option (List ℕ))). get_or zs i None) (map-set g.R.Read.remaining now p y)
          ∙ get_or-set_other (map g.R.Read.remaining now) p i (g.R.Read.remaining y) None (λ e. omega (arith, e, li))
          ∙ inv.later i (omega (arith, li));
      sound = map-set g.R.Read.sound now p y
          ∙ ap (set (map g.R.Read.sound now) p) (c.read_on.ensures.stays ∙ sym (get_or-map g.R.Read.sound now p x false l))
          ∙ set-get_or (map g.R.Read.sound now) p false ∙ inv.sound;
      size = length-set now p y ∙ inv.size;
    }
