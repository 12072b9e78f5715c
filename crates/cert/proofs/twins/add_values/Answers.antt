use Rattle.std.proofs.Common.{◌≡◌, ◌+◌, ◌-◌, ◌*◌, ◌/◌, ℕ, cond, get_or, set, length-set, ap, sym, ◌∙◌, refl, arith}
use Rattle.partition.specs.Fti.{source_count}
use Rattle.gf256.specs.Arithmetic.{point, sum_of}
use Rattle.poly.specs.Polynomial.{value}
use Rattle.cert.specs.TwinBytes.{is_first_of}
use Rattle.cert.proofs.Adding.{added, added_more, added_none}
use Rattle.cert.proofs.TwinParts.{first_inside, within}
use Rattle.cert.proofs.twins.add_values.Goals as goal

pub loop-i-init : goal.loop-i-init
loop-i-init c = record {
  long = refl;
  bytes = added_none c.args.fti.now.symbol_length c.symbol_length.ensures.valid.some_symbol 0 (λ j. value c.args.polynomial.now (point j)) c.args.bytes.now;
}

pub overflow_mul-place : goal.overflow_mul-place
overflow_mul-place c =
    let f = c.args.fti.now in
    let valid = c.symbol_length.ensures.valid in
    let p = first_inside f valid c.args.block c.requires.block c.loop-i.i (omega (arith, c.k-i-end.ensures.value)) in
    let w = within f valid c.args.block c.requires.block in
    rw (c.from-length.ensures, c.symbol_length.ensures.value) (omega (arith, p, w.1, valid.length_below))

pub bounds-bytes-place : goal.bounds-bytes-place
bounds-bytes-place c =
    let p = first_inside c.args.fti.now c.symbol_length.ensures.valid c.args.block c.requires.block c.loop-i.i (omega (arith, c.k-i-end.ensures.value)) in
    rw (c.from-length.ensures, c.symbol_length.ensures.value) (omega (arith, p, c.requires.bytes, c.loop-i.invariant.long))

pub bounds-bytes-place-in-loop-i : goal.bounds-bytes-place-in-loop-i
bounds-bytes-place-in-loop-i c =
    let p = first_inside c.args.fti.now c.symbol_length.ensures.valid c.args.block c.requires.block c.loop-i.i (omega (arith, c.k-i-end.ensures.value)) in
    rw (c.from-length.ensures, c.symbol_length.ensures.value) (omega (arith, p, c.requires.bytes, c.loop-i.invariant.long))

pub loop-i-preserved : goal.loop-i-preserved
loop-i-preserved c =
    let f = c.args.fti.now in
    let i = c.loop-i.invariant in
    let p = first_inside f c.symbol_length.ensures.valid c.args.block c.requires.block c.loop-i.i (omega (arith, c.k-i-end.ensures.value)) in
    let width : c.from-length.result ≡ c.args.fti.now.symbol_length = c.from-length.ensures ∙ c.symbol_length.ensures.value in
    let none : 0 + c.loop-i.i ≡ c.loop-i.i = omega arith in
    let place : (0 + c.loop-i.i) * c.args.fti.now.symbol_length ≡ c.loop-i.i * c.from-length.result =
    ap (λ (n : ℕ). n * c.args.fti.now.symbol_length) none ∙ ap (λ (n : ℕ). c.loop-i.i * n) (sym width) in
    record {
      long = length-set c.loop-i.bytes (c.loop-i.i * c.from-length.result) c.bytes.inside.0 ∙ i.long;
      bytes =
          added_more f.symbol_length c.symbol_length.ensures.valid.some_symbol 0 c.loop-i.i (λ j. value c.args.polynomial.now (point j)) c.args.bytes.now c.loop-i.bytes
          (set c.loop-i.bytes (c.loop-i.i * c.from-length.result) c.bytes.inside.0) c.bytes.inside.0
          (omega (arith, p, c.requires.bytes, i.long))
          (ap (λ (x : ℕ). set c.loop-i.bytes x c.bytes.inside.0) (sym place))
          (c.bytes.view_is ∙ c.add.ensures.value
          ∙ ap (λ (x : ℕ). sum_of (get_or c.loop-i.bytes x 0) c.eval-added.result) (sym place)
          ∙ ap (λ (y : ℕ). sum_of (get_or c.loop-i.bytes ((0 + c.loop-i.i) * c.args.fti.now.symbol_length) 0) y)
          (c.eval-added.ensures.value ∙ ap (λ (z : ℕ). value c.args.polynomial.now z) c.point.ensures.value))
          i.bytes;
    }

pub returns-clause-bytes : goal.returns-clause-bytes
returns-clause-bytes c =
    let f = c.args.fti.now in
    let n : c.loop-i.i ≡ source_count c.args.fti.now c.args.block = omega (arith, c.k-i-end.ensures.value) in
    λ x.
    (let none : x / c.args.fti.now.symbol_length - 0 ≡ x / c.args.fti.now.symbol_length = omega arith in
    c.loop-i.invariant.bytes x
    ∙ ap (λ (m : ℕ). added c.args.fti.now.symbol_length 0 m (λ j. value c.args.polynomial.now (point j)) c.args.bytes.now x) n
    ∙ ap (λ (m : ℕ). cond (is_first_of c.args.fti.now.symbol_length 0 (source_count c.args.fti.now c.args.block) x) (sum_of (get_or c.args.bytes.now x 0) (value c.args.polynomial.now (point m))) (get_or c.args.bytes.now x 0)) none)
