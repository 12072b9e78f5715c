use Rattle.std.proofs.Common.{◌≡◌, ◌≤◌, ◌+◌, ◌-◌, ℕ, List, take, drop, length, arith, ap, sym, subst, ◌∙◌, length-drop}
use Rattle.std.specs.Prelude.{Option}
use Rattle.std.proofs.lemmas.List.{drop-take, take-take, length-take-le}
use Rattle.streams.specs.Offsets.{StandsAt}
use Rattle.streams.proofs.AtOffsets.{front_stands, rest_stands}
use Rattle.streams.proofs.ahead.Ahead.give.Goals as goal

-- a part of what is held
part_stands : (content : Option (List ℕ)) (buffer piece : List ℕ) (offset count at n : ℕ) → count ≤ length buffer → at + n ≤ count → piece ≡ take n (drop at buffer)
    → StandsAt content offset (take count buffer) → StandsAt content (offset + at) piece
part_stands content buffer piece offset count at n within few is p =
    let held : List ℕ = take count buffer in
    let long : length held ≡ count = length-take-le count buffer within in
    let apart : at + (count - at) ≡ count = omega arith in
    let rest : drop at held ≡ take (count - at) (drop at buffer) = ap (λ (m : ℕ). drop at (take m buffer)) (sym apart) ∙ drop-take at (count - at) buffer in
    let front : take n (drop at held) ≡ piece = ap (take n) rest ∙ take-take n (count - at) (drop at buffer) (omega arith) ∙ sym is in
    subst (StandsAt content (offset + at)) front
    (front_stands content (offset + at) n (drop at held) (omega (arith, length-drop at held, long)) (rest_stands content offset at held (omega (arith, long)) p))

pub returns-clause-bytes : goal.returns-clause-bytes
returns-clause-bytes g c = λ yes.
    let s = c.args.self.now in
    let n : ℕ = length c.args.buf.now in
    let at : ℕ = c.in-Some.before in
    let before : s.at + c.in-Some.before ≡ c.args.offset = omega (arith, c.in-Some.ensures) in
    let inside : c.in-Some.before + length c.args.buf.now ≤ s.len = omega (arith, c.if-before-self.false, c.if-buf-self.false) in
    subst (λ (m : ℕ). StandsAt (g.F.ReadAt.content s.file.now) m c.copy_from_slice.new.self) before
    (part_stands (g.F.ReadAt.content s.file.now) s.bytes.items c.copy_from_slice.new.self s.at s.len at n s.within inside
    (c.copy_from_slice.ensures.after ∙ ap (λ (xs : List ℕ). take (at + n - at) (drop at xs)) c.as_slice.ensures.value ∙ (let e : at + n - at ≡ n = omega arith in ap (λ (m : ℕ). take m (drop at s.bytes.items)) e)) s.has)
