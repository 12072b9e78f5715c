use Rattle.std.proofs.Common.{◌≡◌, ◌≤◌, ◌<◌, ◌+◌, ◌*◌, ◌++◌, ◌∙◌, ℕ, suc, List, [], length, take, length-append, length-take-le, ap, sym, subst, refl, arith}
use Rattle.std.specs.Option.{is_some}
use Rattle.partition.specs.Fti.{IsValidFti, block_count, source_count, start_of, block_bytes}
use Rattle.partition.proofs.Laws.{some_block, some_source, start_step, in_object}
use Rattle.session.proofs.Writes.{then_appends, then_some}
use Rattle.decoder.proofs.Answering.{within_of}
use Rattle.decoder.proofs.Beginnings.{begins, begins_whole}
use Rattle.decoder.proofs.OneCode.{code_of}
use Rattle.decoder.proofs.ObjectSoFar.{nothing_yet, has_bytes, one_more_block, object_answers}
use Rattle.decoder.proofs.Beginnings.{appends_nothing, on_err}
use Rattle.decoder.proofs.writing.write_blocks.Goals as goal

pub loop-b-init : goal.loop-b-init
loop-b-init g c =
    let many = rw c.fti-fti.ensures at c.block_count-count.ensures.value in
    record {
      object = [];
      so_far = λ told. nothing_yet (g.S.Source.known c.args.coded.now.source.now) (g.S.Source.at c.args.coded.now.source.now) (omega (arith, c.block_count-count.ensures.some, many));
      written = appends_nothing _;
      few = omega arith;
      room = omega arith;
      fits = c.in_ok-workspace.ensures c.args.coded.now.codes.now;
    }

pub returns-in_err-workspace-clause-front : goal.returns-in_err-workspace-clause-front
returns-in_err-workspace-clause-front g c = λ told.
    let f = g.S.Source.known c.args.coded.now.source.now in
    let at = g.S.Source.at c.args.coded.now.source.now in
    let valid = subst IsValidFti c.fti-fti.ensures c.block_count-count.ensures.valid in
    let some = some_block f valid in
    on_err _ _ (begins_whole f valid at 0 [] (nothing_yet f at some) (omega (arith, some)) _ _ (appends_nothing _))

pub rows-requires-clause-number : goal.rows-requires-clause-number
rows-requires-clause-number g c =
    let many = rw c.fti-fti.ensures at c.block_count-count.ensures.value in
    omega (arith, many, c.loop-b-test.true)

pub rows-requires-clause-codes : goal.rows-requires-clause-codes
rows-requires-clause-codes g c =
    code_of (g.S.Source.known c.args.coded.now.source.now) (subst IsValidFti c.fti-fti.ensures c.block_count-count.ensures.valid) c.args.coded.now.codes.now c.args.coded.now.code

pub rows-requires-clause-within : goal.rows-requires-clause-within
rows-requires-clause-within g c = λ told.
    within_of (g.S.Source.known c.args.coded.now.source.now) (g.S.Source.at c.args.coded.now.source.now) (c.args.coded.now.stand told)

pub rows-requires-clause-enough : goal.rows-requires-clause-enough
rows-requires-clause-enough g c =
    let many = rw c.fti-fti.ensures at c.block_count-count.ensures.value in
    c.requires.enough c.loop-b.b (omega (arith, many, c.loop-b-test.true))

pub returns-in_err-rows-clause-front : goal.returns-in_err-rows-clause-front
returns-in_err-rows-clause-front g c = λ told.
    let i = c.loop-b.invariant in
    let many = rw c.fti-fti.ensures at c.block_count-count.ensures.value in
    on_err _ _ (begins_whole (g.S.Source.known c.args.coded.now.source.now) (subst IsValidFti c.fti-fti.ensures c.block_count-count.ensures.valid) (g.S.Source.at c.args.coded.now.source.now) c.loop-b.b i.object (i.so_far told)
    (omega (arith, many)) _ _ i.written)

pub returns-in_default-write_all-clause-front : goal.returns-in_default-write_all-clause-front
returns-in_default-write_all-clause-front g c = λ told.
    let i = c.loop-b.invariant in
    let f = g.S.Source.known c.args.coded.now.source.now in
    let at = g.S.Source.at c.args.coded.now.source.now in
    let many = rw c.fti-fti.ensures at c.block_count-count.ensures.value in
    let valid = subst IsValidFti c.fti-fti.ensures c.block_count-count.ensures.valid in
    let front : List ℕ = take c.min-used.result c.deref.result.now in
    let hb : c.loop-b.b < block_count (g.S.Source.known c.args.coded.now.source.now) = omega (arith, many) in
    let made = rw c.in-Some.is at (c.in_ok-rows.ensures.rows told) in
    let more : c.len.result ≡ length c.in-Some.rows.bytes.items = c.len.ensures ∙ sym c.deref.ensures.len ∙ ap length c.deref.ensures.value in
    let bytes : c.block_bytes.result ≡ block_bytes f c.loop-b.b = rw c.fti-fti.ensures at c.block_bytes.ensures.value in
    let used_is : c.min-used.result ≡ block_bytes f c.loop-b.b = omega (arith, c.min-used.ensures, bytes, more, has_bytes f (at c.loop-b.b) c.loop-b.b _ made) in
    begins f valid at (c.loop-b.b + 1) (i.object ++ front)
    (one_more_block f valid at c.loop-b.b i.object c.in-Some.rows.bytes.items front (i.so_far told) hb made (rw (c.deref.ensures.value, used_is) refl))
    (omega (arith, hb)) _ _ (then_some _ _ _ i.object front i.written c.in_default-write_all.ensures.err)

pub loop-b-preserved : goal.loop-b-preserved
loop-b-preserved g c =
    let i = c.loop-b.invariant in
    let f = g.S.Source.known c.args.coded.now.source.now in
    let at = g.S.Source.at c.args.coded.now.source.now in
    let many = rw c.fti-fti.ensures at c.block_count-count.ensures.value in
    let valid = subst IsValidFti c.fti-fti.ensures c.block_count-count.ensures.valid in
    let front : List ℕ = take c.min-used.result c.deref.result.now in
    let hb : c.loop-b.b < block_count (g.S.Source.known c.args.coded.now.source.now) = omega (arith, many) in
    let more : c.len.result ≡ length c.in-Some.rows.bytes.items = c.len.ensures ∙ sym c.deref.ensures.len ∙ ap length c.deref.ensures.value in
    let bytes : c.block_bytes.result ≡ block_bytes f c.loop-b.b = rw c.fti-fti.ensures at c.block_bytes.ensures.value in
    let within : c.min-used.result ≤ length c.deref.result.now = omega (arith, c.min-used.ensures, more, ap length c.deref.ensures.value) in
    let count : length (take c.min-used.result c.deref.result.now) ≡ c.min-used.result = length-take-le c.min-used.result c.deref.result.now within in
    let all = length-append i.object front in
    let one : c.loop-b.b + 1 ≡ suc c.loop-b.b = omega arith in
    let next : start_of f (c.loop-b.b + 1) * f.symbol_length ≡ (start_of f c.loop-b.b + source_count f c.loop-b.b) * f.symbol_length =
    ap (λ (n : ℕ). start_of f n * f.symbol_length) one ∙ ap (λ (n : ℕ). n * f.symbol_length) (start_step f valid c.loop-b.b) in
    record {
      object = i.object ++ front;
      so_far = λ told.
          let made = rw c.in-Some.is at (c.in_ok-rows.ensures.rows told) in
          let used_is : c.min-used.result ≡ block_bytes f c.loop-b.b = omega (arith, c.min-used.ensures, bytes, more, has_bytes f (at c.loop-b.b) c.loop-b.b _ made) in
          one_more_block f valid at c.loop-b.b i.object c.in-Some.rows.bytes.items front (i.so_far told) hb made (rw (c.deref.ensures.value, used_is) refl);
      written = then_appends _ _ _ i.object front i.written c.in-Ok.ensures.ok;
      few = omega (arith, i.few, all, count, c.min-used.ensures, bytes, next);
      room = omega (arith, i.room, all, c.in-Ok.ensures.fills);
      fits = c.rows.ensures.fits;
    }

pub returns-in_default-write_all-clause-full : goal.returns-in_default-write_all-clause-full
returns-in_default-write_all-clause-full g c = λ _.
    let i = c.loop-b.invariant in
    let f = g.S.Source.known c.args.coded.now.source.now in
    let many = rw c.fti-fti.ensures at c.block_count-count.ensures.value in
    let valid = subst IsValidFti c.fti-fti.ensures c.block_count-count.ensures.valid in
    let hb : c.loop-b.b < block_count (g.S.Source.known c.args.coded.now.source.now) = omega (arith, many) in
    let more : c.len.result ≡ length c.in-Some.rows.bytes.items = c.len.ensures ∙ sym c.deref.ensures.len ∙ ap length c.deref.ensures.value in
    let bytes : c.block_bytes.result ≡ block_bytes f c.loop-b.b = rw c.fti-fti.ensures at c.block_bytes.ensures.value in
    let within : c.min-used.result ≤ length c.deref.result.now = omega (arith, c.min-used.ensures, more, ap length c.deref.ensures.value) in
    let count : length (take c.min-used.result c.deref.result.now) ≡ c.min-used.result = length-take-le c.min-used.result c.deref.result.now within in
    let first = in_object f valid c.loop-b.b 0 hb (omega (arith, some_source f valid c.loop-b.b)) in
    omega (arith, i.few, i.room, count, c.min-used.ensures, bytes, first, c.in_default-write_all.ensures.full)

pub returns-clause-whole : goal.returns-clause-whole
returns-clause-whole g c = λ told _.
    let i = c.loop-b.invariant in
    let many = rw c.fti-fti.ensures at c.block_count-count.ensures.value in
    let valid = subst IsValidFti c.fti-fti.ensures c.block_count-count.ensures.valid in
    let end : c.loop-b.b ≡ block_count (g.S.Source.known c.args.coded.now.source.now) = omega (arith, c.loop-b-test.false, c.loop-b.auto.b-end, many) in
    record {
      object = i.object;
      count = (i.so_far told).whole end;
      answers = object_answers (g.S.Source.known c.args.coded.now.source.now) valid (g.S.Source.at c.args.coded.now.source.now) c.loop-b.b i.object (i.so_far told) end c.requires.enough;
      gained = i.written;
    }

pub returns-in_default-clause-other : goal.returns-in_default-clause-other
returns-in_default-clause-other g c = λ told _.
    let many = rw c.fti-fti.ensures at c.block_count-count.ensures.value in
    let hb : c.loop-b.b < block_count (g.S.Source.known c.args.coded.now.source.now) = omega (arith, many, c.loop-b-test.true) in (
      c.loop-b.b,
      record {
        in_range = hb;
        enough = c.requires.enough c.loop-b.b hb;
        unexplained = c.in_ok-rows.ensures.none told (ap is_some c.in_default.is);
      },
    )
