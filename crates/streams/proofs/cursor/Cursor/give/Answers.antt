use Rattle.std.proofs.Common.{◌≡◌, ◌≤◌, ◌+◌, ◌-◌, ℕ, List, ◌++◌, take, drop, length, arith, ap, sym, subst, ◌∙◌, length-drop}
use Rattle.std.specs.Prelude.{Option}
use Rattle.std.proofs.lemmas.List.{drop-drop, drop-take, take-take, length-take-le}
use Rattle.std.proofs.Math.Seq.{take-append_seam}
use Rattle.streams.specs.Offsets.{StandsAt}
use Rattle.streams.proofs.AtOffsets.{front_stands, rest_stands}
use Rattle.streams.proofs.cursor.Cursor.give.Goals as goal

-- what is left of the buffer, once n bytes of it were given
still_held : (content : Option (List ℕ)) (buffer : List ℕ) (at end next n : ℕ) → at ≤ end → end ≤ length buffer → end - at ≤ next → n ≤ end - at
    → StandsAt content (next - (end - at)) (take (end - at) (drop at buffer)) → StandsAt content (next - (end - (at + n))) (take (end - (at + n)) (drop (at + n) buffer))
still_held content buffer at end next n order within behind few p =
    let k : ℕ = end - (at + n) in
    let held : List ℕ = take (end - at) (drop at buffer) in
    let count : length held ≡ end - at = length-take-le (end - at) (drop at buffer) (omega (arith, length-drop at buffer)) in
    let rest : drop n held ≡ take k (drop (at + n) buffer) =
    (let e : end - at ≡ n + k = omega arith in ap (λ (m : ℕ). drop n (take m (drop at buffer))) e ∙ drop-take n k (drop at buffer) ∙ ap (take k) (drop-drop n at buffer)) in
    let place : next - (end - at) + n ≡ next - k = omega arith in
    subst (λ (m : ℕ). StandsAt content m (take k (drop (at + n) buffer))) place
    (subst (StandsAt content (next - (end - at) + n)) rest (rest_stands content (next - (end - at)) n held (omega arith) p))

given : (content : Option (List ℕ)) (buffer piece behind : List ℕ) (at end place n : ℕ) → end ≤ length buffer → n ≤ end - at → piece ≡ take n (drop at buffer)
    → StandsAt content place (take (end - at) (drop at buffer)) → StandsAt content place (take n (piece ++ behind))
given content buffer piece behind at end place n within few is p =
    let held : List ℕ = take (end - at) (drop at buffer) in
    let count : length held ≡ end - at = length-take-le (end - at) (drop at buffer) (omega (arith, length-drop at buffer)) in
    let long : length piece ≡ n = ap length is ∙ length-take-le n (drop at buffer) (omega (arith, length-drop at buffer)) in
    let front : take n (piece ++ behind) ≡ take n held =
    ap (λ (m : ℕ). take m (piece ++ behind)) (sym long) ∙ take-append_seam piece behind ∙ is ∙ sym (take-take n (end - at) (drop at buffer) few) in
    subst (StandsAt content place) (sym front) (front_stands content place n held (omega arith) p)

pub invariant_of-self : goal.invariant_of-self
invariant_of-self g c =
    let s = c.args.self.now in
    let few : c.min-count.result ≤ s.end - s.at = omega (arith, c.min-count.ensures) in
    record {
      order = omega (arith, few, s.order);
      within = s.within;
      behind = omega (arith, s.behind);
      held = still_held (g.F.ReadAt.content s.file.now) s.buffer s.at s.end s.next c.min-count.result s.order s.within s.behind few s.held;
      most = s.most;
      fails = s.fails;
    }

pub returns-clause-bytes : goal.returns-clause-bytes
returns-clause-bytes g c =
    let s = c.args.self.now in
    let few : c.min-count.result ≤ s.end - s.at = omega (arith, c.min-count.ensures) in
    given (g.F.ReadAt.content s.file.now) s.buffer c.copy_from_slice.new.self (drop c.min-count.result c.args.buf.now) s.at s.end (s.next - (s.end - s.at)) c.min-count.result s.within few
    (c.copy_from_slice.ensures.after ∙ (let e : s.at + c.min-count.result - s.at ≡ c.min-count.result = omega arith in ap (λ (m : ℕ). take m (drop s.at s.buffer)) e)) s.held
