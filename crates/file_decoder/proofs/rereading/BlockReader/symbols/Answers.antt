use Rattle.std.specs.Prelude.{is_some}
use Rattle.std.specs.Borrow.{Bor}
use Rattle.std.proofs.Common.{◌≡◌, ◌∙◌, ◌+◌, ◌-◌, ℕ, false, List, refl, ap, arith, get_or, length, take, drop, length-drop}
use Rattle.std.proofs.lemmas.List.{get_or_default, take_all, length-take-le}
use Rattle.block_recovery.specs.Arrivals.{arrived_at}
use Rattle.block_recovery.specs.declared.arrivals.Arrival.{Arrival}
use Rattle.file_decoder.specs.InFile.{held_in, symbol_in}
use Rattle.file_decoder.specs.declared.rereading.Place.{Place}
use Rattle.file_decoder.proofs.ReadAgain.{same_more, some_more, lengths_more}
use Rattle.file_decoder.proofs.rereading.BlockReader.symbols.Goals as goal

pub loop-i-preserved : goal.loop-i-preserved
loop-i-preserved g c =
    let i = c.loop-i.i in
    let came = c.args.came.now in
    let symbols = c.loop-i.symbols.items in
    let none : Arrival Place = record { esi = 0; symbol = record { offset = 0; length = 0; carrier = false } } in
    let b : Arrival Place = get_or came i none in
    let a : Arrival (Bor (List ℕ)) = record { esi = b.esi; symbol = c.in-Some.symbol } in
    let is = get_or_default came i none b c.loop-i-test.true in
    let start : ℕ = get_or c.args.self.now.starts.items i 0 in
    let read = c.requires.read.each i none c.loop-i-test.true in
    let bytes : c.in-Some.symbol.now ≡ symbol_in (take b.symbol.length (drop start c.args.self.now.room.items)) =
    (let from = c.index-from.result.now in
    let begins : from ≡ start = c.index-from.ensures ∙ get_or_default c.args.self.now.starts.items i from 0 (omega (arith, c.loop-i-test.true, c.requires.read.count)) in
    let count : from + c.from.result - from ≡ b.symbol.length = omega (arith, c.from.ensures) in
    c.in-Some.ensures.symbol
    ∙ ap (λ (n : ℕ). symbol_in (take n (drop from c.deref.result.now))) count
    ∙ ap (λ (n : ℕ). symbol_in (take b.symbol.length (drop n c.deref.result.now))) begins
    ∙ ap (λ (xs : List ℕ). symbol_in (take b.symbol.length (drop start xs))) c.deref.ensures.value) in
    rw c.in_ok-push_arrival.ensures.pushed (record {
      some = λ held j. some_more (λ s. s.now) held symbols came i a b c.loop-i-test.true is refl j (c.loop-i.invariant.some held j);
      size = λ f e. lengths_more (λ s. s.now) f.symbol_length symbols a (c.in-Some.ensures.size f e) (c.loop-i.invariant.size f e);
      symbols = λ x told all.
          let here = rw told at read.stands in
          let long : length (take b.symbol.length (drop start c.args.self.now.room.items)) ≡ b.symbol.length =
          length-take-le b.symbol.length (drop start c.args.self.now.room.items) (omega (arith, read.within, length-drop start c.args.self.now.room.items)) in
          same_more (λ s. s.now) (held_in x) symbols came i a b c.loop-i-test.true is refl
          (bytes ∙ ap symbol_in (here ∙ ap (λ (n : ℕ). take n (drop b.symbol.offset x)) long)) (c.loop-i.invariant.symbols x told all);
    })

pub returns-clause-some : goal.returns-clause-some
returns-clause-some g c = λ held j.
    c.loop-i.invariant.some held j
    ∙ ap (λ (l : List (Arrival Place)). is_some (arrived_at held l j)) (take_all c.loop-i.i c.args.came.now (omega (arith, c.loop-i-test.false)))

pub returns-clause-symbols : goal.returns-clause-symbols
returns-clause-symbols g c = λ x told all.
    c.loop-i.invariant.symbols x told all
    ∙ ap (λ (l : List (Arrival Place)). arrived_at (held_in x) l) (take_all c.loop-i.i c.args.came.now (omega (arith, c.loop-i-test.false)))
