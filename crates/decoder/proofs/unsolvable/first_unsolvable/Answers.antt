use Rattle.std.proofs.Common.{◌≡◌, ◌∙◌, ℕ, List, true, is_some, refl, ap, subst, arith, length, get_or}
use Rattle.std.specs.Prelude.{not}
use Rattle.partition.specs.Fti.{IsValidFti}
use Rattle.decoder.proofs.Answering.{within_of}
use Rattle.block_recovery.specs.Listed.{Stands}
use Rattle.decoder.proofs.OneCode.{code_of}
use Rattle.decoder.proofs.Unsound.{LeastSoFar, least_stays, least_falls, sound_short, enough_counted, some_explain, none_gives, some_gives}
use Rattle.decoder.proofs.unsolvable.first_unsolvable.Goals as goal
use Rattle.decoder.proofs.unsolvable.first_unsolvable.Goals.{then-is_none, else-is_none}

pub n-requires : goal.n-requires
n-requires g c =
    let e = ap (λ (l : List ℕ). get_or l c.loop-b.b-index 0) c.deref-b-items.ensures.value in
    let w = c.in_ok-blocks.ensures.some c.loop-b.b-index (omega (arith, c.loop-b-test.true, ap length c.deref-b-items.ensures.value)) in
    let h = c.args.coded.now.range.block (get_or c.in_ok-blocks.blocks.items c.loop-b.b-index 0) w.0 w.1 in
    rw c.fti-fti.ensures (omega (arith, e, h))

pub k-requires : goal.k-requires
k-requires g c =
    let e = ap (λ (l : List ℕ). get_or l c.loop-b.b-index 0) c.deref-b-items.ensures.value in
    let w = c.in_ok-blocks.ensures.some c.loop-b.b-index (omega (arith, c.loop-b-test.true, ap length c.deref-b-items.ensures.value)) in
    let h = c.args.coded.now.range.block (get_or c.in_ok-blocks.blocks.items c.loop-b.b-index 0) w.0 w.1 in
    rw c.fti-fti.ensures (omega (arith, e, h))

pub rows-requires-clause-number : goal.rows-requires-clause-number
rows-requires-clause-number g c =
    let e = ap (λ (l : List ℕ). get_or l c.loop-b.b-index 0) c.deref-b-items.ensures.value in
    let w = c.in_ok-blocks.ensures.some c.loop-b.b-index (omega (arith, c.loop-b-test.true, ap length c.deref-b-items.ensures.value)) in
    let h = c.args.coded.now.range.block (get_or c.in_ok-blocks.blocks.items c.loop-b.b-index 0) w.0 w.1 in
    omega (arith, e, h)

pub rows-requires-clause-enough : goal.rows-requires-clause-enough
rows-requires-clause-enough g c =
    enough_counted (g.S.Source.known c.args.coded.now.source.now) (g.S.Source.at c.args.coded.now.source.now) (get_or c.deref-b-items.result.now c.loop-b.b-index 0) c.n.result c.count.result
    (rw c.fti-fti.ensures at c.n.ensures.value) c.count.ensures
    (let need = rw c.fti-fti.ensures at c.k.ensures.value in omega (arith, c.if-count-k.false, need))

pub rows-requires-clause-codes : goal.rows-requires-clause-codes
rows-requires-clause-codes g c =
    code_of (g.S.Source.known c.args.coded.now.source.now) (subst IsValidFti c.fti-fti.ensures c.is_valid.ensures) c.args.coded.now.codes.now c.args.coded.now.code

pub rows-requires-clause-within : goal.rows-requires-clause-within
rows-requires-clause-within g c = λ told.
    within_of (g.S.Source.known c.args.coded.now.source.now) (g.S.Source.at c.args.coded.now.source.now) (c.args.coded.now.stand told)

pub loop-b-init : goal.loop-b-init
loop-b-init g c = record { least = λ told. record { unsound = tt; sound = λ i l. absurd (omega (arith, l)) }; fits = c.in_ok-workspace.ensures c.args.coded.now.codes.now }

pub loop-b-preserved-then-not-is_before : goal.loop-b-preserved-then-not-is_before
loop-b-preserved-then-not-is_before g c = record {
  least = λ told.
      least_stays (g.S.Source.known c.args.coded.now.source.now) (g.S.Source.at c.args.coded.now.source.now) c.deref-b-items.result.now c.loop-b.b-index c.loop-b.least (c.loop-b.invariant.least told)
      (λ before. let no = rw c.if-not-is_before.true at (c.is_before.ensures.1 before) in absurd (cc));
  fits = c.loop-b.invariant.fits;
}

pub loop-b-preserved-then-count-k : goal.loop-b-preserved-then-count-k
loop-b-preserved-then-count-k g c = record {
  least = λ told.
      let f = g.S.Source.known c.args.coded.now.source.now in
      let at = g.S.Source.at c.args.coded.now.source.now in
      let b : ℕ = get_or c.deref-b-items.result.now c.loop-b.b-index 0 in
      least_stays f at c.deref-b-items.result.now c.loop-b.b-index c.loop-b.least (c.loop-b.invariant.least told)
      (λ before. sound_short f at b c.n.result c.count.result (rw c.fti-fti.ensures at c.n.ensures.value) c.count.ensures
      (let need = rw c.fti-fti.ensures at c.k.ensures.value in omega (arith, c.if-count-k.true, need)));
  fits = c.loop-b.invariant.fits;
}

pub loop-b-preserved : goal.loop-b-preserved
loop-b-preserved g c = record {
  least = λ told.
      let f = g.S.Source.known c.args.coded.now.source.now in
      let at = g.S.Source.at c.args.coded.now.source.now in
      let b : ℕ = get_or c.deref-b-items.result.now c.loop-b.b-index 0 in
      let e = ap (λ (l : List ℕ). get_or l c.loop-b.b-index 0) c.deref-b-items.ensures.value in
      let s = c.in_ok-blocks.ensures.some c.loop-b.b-index (omega (arith, c.loop-b-test.true, ap length c.deref-b-items.ensures.value)) in
      let h = c.args.coded.now.range.block (get_or c.in_ok-blocks.blocks.items c.loop-b.b-index 0) s.0 s.1 in
      elim c.if-is_none.branch [
        | then-is_none w ↦ rw w.least-is
            (least_falls f at c.deref-b-items.result.now c.loop-b.b-index c.loop-b.least (c.loop-b.invariant.least told) (c.is_before.ensures.0 (rw c.if-not-is_before.false refl))
            (record {
              in_range = omega (arith, e, h);
              enough = enough_counted f at b c.n.result c.count.result (rw c.fti-fti.ensures at c.n.ensures.value) c.count.ensures
                  (let need = rw c.fti-fti.ensures at c.k.ensures.value in omega (arith, c.if-count-k.false, need));
              unexplained = c.in_ok-rows.ensures.none told (c.is_none.ensures ∙ ap not w.if-is_none.true);
            }))
        | else-is_none w ↦ rw w.least-is
            (least_stays f at c.deref-b-items.result.now c.loop-b.b-index c.loop-b.least (c.loop-b.invariant.least told)
            (λ before enough. some_explain (λ v. v.bytes.items) f b (at b) c.in_ok-rows.field-0 (c.in_ok-rows.ensures.rows told) (c.is_none.ensures ∙ ap not w.if-is_none.false)))
      ];
  fits = c.rows.ensures.fits;
}

pub returns-clause-none : goal.returns-clause-none
returns-clause-none g c = λ told.
    let at = g.S.Source.at c.args.coded.now.source.now in
    let all : (b j : ℕ) → is_some (at b j) ≡ true → Stands c.deref-b-items.result.now b = λ b j h.
    let few = (subst IsValidFti c.fti-fti.ensures c.is_valid.ensures).blocks in
    let below = c.args.coded.now.range.block b j h in
    rw c.deref-b-items.ensures.value (c.in_ok-blocks.ensures.all b j (omega (arith, few, below)) h) in
    let end : c.loop-b.b-index ≡ length c.deref-b-items.result.now = omega (arith, c.loop-b-test.false, c.loop-b.auto.b-index-end) in
    none_gives (g.S.Source.known c.args.coded.now.source.now) (subst IsValidFti c.fti-fti.ensures c.is_valid.ensures) at c.deref-b-items.result.now all c.loop-b.least
    (subst (λ (n : ℕ). LeastSoFar (g.S.Source.known c.args.coded.now.source.now) (g.S.Source.at c.args.coded.now.source.now) c.deref-b-items.result.now n c.loop-b.least) end (c.loop-b.invariant.least told))

pub returns-clause-some : goal.returns-clause-some
returns-clause-some g c = λ told.
    let at = g.S.Source.at c.args.coded.now.source.now in
    let all : (b j : ℕ) → is_some (at b j) ≡ true → Stands c.deref-b-items.result.now b = λ b j h.
    let few = (subst IsValidFti c.fti-fti.ensures c.is_valid.ensures).blocks in
    let below = c.args.coded.now.range.block b j h in
    rw c.deref-b-items.ensures.value (c.in_ok-blocks.ensures.all b j (omega (arith, few, below)) h) in
    let end : c.loop-b.b-index ≡ length c.deref-b-items.result.now = omega (arith, c.loop-b-test.false, c.loop-b.auto.b-index-end) in
    some_gives (g.S.Source.known c.args.coded.now.source.now) (subst IsValidFti c.fti-fti.ensures c.is_valid.ensures) at c.deref-b-items.result.now all c.loop-b.least
    (subst (λ (n : ℕ). LeastSoFar (g.S.Source.known c.args.coded.now.source.now) (g.S.Source.at c.args.coded.now.source.now) c.deref-b-items.result.now n c.loop-b.least) end (c.loop-b.invariant.least told))
