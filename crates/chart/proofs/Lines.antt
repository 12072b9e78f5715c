-- The texts of horizontal lines, put one behind the other.
use Rattle.std.proofs.Common.{◌≡◌, ◌++◌, ◌∷◌, ◌∙◌, ℕ, suc, ◌+◌, ◌-◌, ◌*◌, ◌<◌, ◌≤◌, List, Bool, true, false, cond, map, filter, flat_map, refl, ap, subst, arith, append_assoc}
use Rattle.std.specs.Prelude.{nat_le}
use Rattle.std.specs.List.{range_with_len}
use Rattle.std.proofs.lemmas.Bool.Decides.{nat_tests}
use Rattle.chart.specs.declared.canvas.Canvas.{Canvas}
use Rattle.chart.specs.declared.panel.Axis.{Axis}
use Rattle.chart.specs.Texts.{Puts}
use Rattle.chart.proofs.Putting.{Leaves, leaves_less}

-- the texts of the lines from this one on
unfoldable pub texts_from : Axis → (ℕ → List ℕ) → ℕ → List ℕ
texts_from axis text line =
    flat_map text (filter (λ value. nat_le value axis.top) (map (λ place. axis.unit * place) (range_with_len line (6 - line))))

kept : (text : ℕ → List ℕ) (test : Bool) (value : ℕ) (values : List ℕ) → test ≡ true → flat_map text (cond test (value ∷ values) values) ≡ text value ++ flat_map text values
kept text true value values is = refl
kept text false value values is = absurd (cc)

left_out : (text : ℕ → List ℕ) (test : Bool) (value : ℕ) (values : List ℕ) → test ≡ false → flat_map text (cond test (value ∷ values) values) ≡ flat_map text values
left_out text true value values is = absurd (cc)
left_out text false value values is = refl

within : (axis : Axis) (text : ℕ → List ℕ) (line : ℕ) → line < 6 → axis.unit * line ≤ axis.top → texts_from axis text line ≡ text (axis.unit * line) ++ texts_from axis text (line + 1)
unfolding texts_from
within axis text line in_range fits =
    let more : 6 - line ≡ suc (6 - (line + 1)) = omega arith in
    rw more (kept text (nat_le (axis.unit * line) axis.top) _ _ (grind (arith, nat_tests)))

above : (axis : Axis) (text : ℕ → List ℕ) (line : ℕ) → line < 6 → axis.top < axis.unit * line → texts_from axis text line ≡ texts_from axis text (line + 1)
unfolding texts_from
above axis text line in_range higher =
    let more : 6 - line ≡ suc (6 - (line + 1)) = omega arith in
    rw more (left_out text (nat_le (axis.unit * line) axis.top) (axis.unit * line) _ (grind (arith, nat_tests)))

pub puts_line : (old before after : Canvas) (axis : Axis) (text : ℕ → List ℕ) (line : ℕ) (whole rest : List ℕ) → line < 6 → axis.unit * line ≤ axis.top → Leaves old before whole (texts_from axis text line ++ rest) → Puts before after (text (axis.unit * line)) → Leaves old after whole (texts_from axis text (line + 1) ++ rest)
puts_line old before after axis text line whole rest in_range fits leaves puts =
    let regrouped = ap (λ (l : List ℕ). l ++ rest) (within axis text line in_range fits) ∙ append_assoc (text (axis.unit * line)) (texts_from axis text (line + 1)) rest in
    leaves_less old before after whole (text (axis.unit * line)) _ (subst (λ (l : List ℕ). Leaves old before whole l) regrouped leaves) puts

pub skips_line : (old before : Canvas) (axis : Axis) (text : ℕ → List ℕ) (line : ℕ) (whole rest : List ℕ) → line < 6 → axis.top < axis.unit * line → Leaves old before whole (texts_from axis text line ++ rest) → Leaves old before whole (texts_from axis text (line + 1) ++ rest)
skips_line old before axis text line whole rest in_range higher leaves =
    subst (λ (l : List ℕ). Leaves old before whole (l ++ rest)) (above axis text line in_range higher) leaves
