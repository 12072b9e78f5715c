use Rattle.std.specs.Prelude.{slice_index, option_map}
use Rattle.std.specs.Borrow.{Bor}
use Rattle.std.specs.Vec.{vec_len}
use Rattle.std.proofs.Common.{◌≡◌, ◌∙◌, ◌+◌, ◌*◌, ◌-◌, ◌<◌, ◌++◌, ℕ, List, Option, Some, None, length, replicate, ap, sym, arith}
use Rattle.std.proofs.lemmas.List.{take_all, get_or-replicate, length-replicate}
use Rattle.block_recovery.specs.Blocks.{bytes_of_esi, byte_of}
use Rattle.block_recovery.proofs.RowPlaces.{row_count, row_more}
use Rattle.block_recovery.proofs.recovering.symbols_at.Goals as goal
use Rattle.block_recovery.proofs.recovering.symbols_at.Goals.{in-Some+in_ok-extend_from_slice-in-Some, in-None+in_ok-resize-in-None}

pub loop-m-preserved : goal.loop-m-preserved
loop-m-preserved c =
    let m = c.loop-m.m in
    let size = c.args.block.now.size in
    let old = c.loop-m.bytes.items in
    let given : ℕ → ℕ → ℕ = λ k p. byte_of (bytes_of_esi c.args.block.now.received.now (slice_index c.args.esis.now k)) p in
    let count = c.loop-m.invariant.count in
    elim c.match-block-from.branch [
      | in-Some+in_ok-extend_from_slice-in-Some w ↦
          (let row = w.in-Some.symbol.now in
          let came : bytes_of_esi c.args.block.now.received.now (slice_index c.args.esis.now m) ≡ Some row =
          ap (λ (n : ℕ). bytes_of_esi c.args.block.now.received.now n) (sym c.from.ensures) ∙ ap (option_map (λ (s : Bor (List ℕ)). s.now)) w.in-Some.is in
          let long : length row ≡ size = c.args.block.now.symbols (slice_index c.args.esis.now m) row came in
          let here : (p : ℕ) → p < size → slice_index row p ≡ given m p = λ p lp. ap (λ (o : Option (List ℕ)). byte_of o p) (sym came) in
          rw (w.bytes-is, w.in_ok-extend_from_slice-in-Some.ensures.items) (record {
            count = row_count old row m size given count long here c.loop-m.invariant.done;
            done = row_more old row m size given count long here c.loop-m.invariant.done;
          }))
      | in-None+in_ok-resize-in-None w ↦
          (let none : bytes_of_esi c.args.block.now.received.now (slice_index c.args.esis.now m) ≡ None =
          ap (λ (n : ℕ). bytes_of_esi c.args.block.now.received.now n) (sym c.from.ensures) ∙ ap (option_map (λ (s : Bor (List ℕ)). s.now)) w.in-None.is in
          let row : List ℕ = replicate size 0 in
          let here : (p : ℕ) → p < size → slice_index row p ≡ given m p = λ p lp. get_or-replicate size p 0 0 lp ∙ ap (λ (o : Option (List ℕ)). byte_of o p) (sym none) in
          let fresh : (m + 1) * size - vec_len c.loop-m.bytes ≡ size = omega (arith, count, c.loop-m.bytes.ok) in
          let items : w.resize.new.self.items ≡ old ++ row =
          w.in_ok-resize-in-None.ensures.items
          ∙ ap (λ (l : List ℕ). l ++ replicate ((m + 1) * size - vec_len c.loop-m.bytes) 0) (take_all ((m + 1) * size) old (omega (arith, count)))
          ∙ ap (λ (n : ℕ). old ++ replicate n 0) fresh in
          rw (w.bytes-is, items) (record {
            count = row_count old row m size given count (length-replicate size 0) here c.loop-m.invariant.done;
            done = row_more old row m size given count (length-replicate size 0) here c.loop-m.invariant.done;
          }))
    ]
