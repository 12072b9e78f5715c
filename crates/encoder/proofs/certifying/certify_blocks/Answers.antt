use Rattle.std.proofs.Common.{◌<◌, ◌∙◌, ℕ, List, ap, sym, inl, inr, subst, arith}
use Rattle.std.proofs.lemmas.Bool.{cases_eq}
use Rattle.gf256.specs.Arithmetic.{point}
use Rattle.poly.specs.Polynomial.{value}
use Rattle.partition.specs.Fti.{source_count, block_count}
use Rattle.certificate.specs.Certificate.{unnamed}
use Rattle.cert.specs.Verdict.{GivesAt}
use Rattle.encoder.proofs.Places.{same_polynomial_at}
use Rattle.encoder.proofs.certifying.certify_blocks.Goals as goal

pub loop-b-preserved : goal.loop-b-preserved
loop-b-preserved c =
    let f = c.args.fti.now in
    let b = c.loop-b.b in
    let hb : b < block_count f = rw c.block_count-b-end.ensures.value at c.loop-b-test.true in
    record {
      len = c.put_block.ensures.len ∙ c.loop-b.invariant.len;
      gives = λ x y i lx ly li.
          elim (cases_eq x b) [
            | inl e ↦
                (let here : i < source_count f b = subst (λ (v : ℕ). i < source_count f v) e li in
                subst (λ (v : ℕ). GivesAt c.args.object.now (unnamed f c.put_block.new.coefficients) v y i) (sym e) (c.put_block.ensures.gives y i ly here))
            | inr ne ↦
                (let lt : x < b = omega arith in
                ap (λ (p : List ℕ). value p (point i)) (same_polynomial_at f c.block_count-b-end.ensures.valid c.loop-b.coefficients c.put_block.new.coefficients b c.put_block.ensures.before x y lt ly)
                ∙ c.loop-b.invariant.gives x y i lt ly li)
          ];
    }
