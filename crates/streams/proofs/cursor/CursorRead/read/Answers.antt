use Rattle.std.proofs.Common.{◌≡◌, ◌≤◌, ◌+◌, ◌-◌, ℕ, List, Option, take, drop, length, arith, ap, sym, subst, ◌∙◌, length-take-le}
use Rattle.std.specs.Option.{option_map}
use Rattle.std.specs.Io.KnownBytes.{Consumes, IsAtEnd}
use Rattle.streams.specs.Offsets.{StandsAt, EndsBy}
use Rattle.streams.proofs.AtOffsets.{given_front, at_the_end}
use Rattle.streams.proofs.cursor.CursorRead.read.Goals as goal

-- bytes that a cursor gives of a file that stays the same
consumed : (old new : Option (List ℕ)) (from to n : ℕ) (buf : List ℕ) → new ≡ old → to ≡ from + n → n ≤ length buf → StandsAt old from (take n buf)
    → Consumes (option_map (λ xs. drop from xs) old) (option_map (λ xs. drop to xs) new) (take n buf)
consumed old new from to n buf same on few p =
    subst (λ (o : Option (List ℕ)). Consumes (option_map (λ xs. drop from xs) old) (option_map (λ xs. drop to xs) o) (take n buf)) (sym same)
    (given_front old from to n (take n buf) on (sym (length-take-le n buf few)) p)

ended : (old new : Option (List ℕ)) (from to : ℕ) → new ≡ old → from ≤ to → EndsBy old from → IsAtEnd (option_map (λ xs. drop to xs) new)
ended old new from to same le p = subst (λ (o : Option (List ℕ)). IsAtEnd (option_map (λ xs. drop to xs) o)) (sym same) (at_the_end old from to le p)

pub returns-clause-bytes : goal.returns-clause-bytes
returns-clause-bytes g c =
    let old = c.args.self.now in
    let loaded = c.load.new.self in
    let new = c.give.new.self in
    let content = g.F.ReadAt.content in
    let from : ℕ = old.next - (old.end - old.at) in
    let to : ℕ = new.next - (new.end - new.at) in
    let here : loaded.next - (loaded.end - loaded.at) ≡ from = c.load.ensures.same in
    let on : to ≡ from + c.give.result = c.give.ensures.on ∙ ap (λ (n : ℕ). n + c.give.result) here in
    let first : content loaded.file.now ≡ content old.file.now = ap content c.load.ensures.file in
    let same : content new.file.now ≡ content old.file.now = ap content c.give.ensures.file ∙ first in
    let few : c.give.result ≤ length c.give.new.buf = omega (arith, c.give.ensures.count, c.give.auto.buf) in (
      consumed (content old.file.now) (content new.file.now) from to c.give.result c.give.new.buf same on few
          (subst (λ (o : Option (List ℕ)). StandsAt o from (take c.give.result c.give.new.buf)) first
          (subst (λ (n : ℕ). StandsAt (content loaded.file.now) n (take c.give.result c.give.new.buf)) here c.give.ensures.bytes)),
      λ none some. ended (content old.file.now) (content new.file.now) from to same (omega arith)
          (c.in_ok-load.ensures.end (omega (arith, none, some, c.give.ensures.count, c.give.auto.buf, loaded.order))),
    )

pub returns-clause-falls : goal.returns-clause-falls
returns-clause-falls g c = omega (arith, c.give.ensures.on, c.load.ensures.same, c.give.new.self.most)
