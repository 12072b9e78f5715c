use Rattle.std.specs.Prelude.{slice_index_or}
use Rattle.std.proofs.Common.{◌≡◌, ◌+◌, ◌∙◌, ◌∷◌, ◌++◌, [], ℕ, List, false, length, take, drop, arith, ap, sym, subst, get_or, length-append, inl, inr}
use Rattle.std.proofs.lemmas.Bool.{cases_lt}
use Rattle.std.proofs.lemmas.List.{get_or_default, get_or_append_left, get_or-append-add}
use Rattle.block_recovery.specs.declared.arrivals.Arrival.{Arrival}
use Rattle.streams.specs.Offsets.{StandsAt}
use Rattle.file_decoder.specs.declared.rereading.Place.{Place}
use Rattle.file_decoder.proofs.Rooms.{part_of_run, stays_in}
use Rattle.file_decoder.proofs.rereading.BlockReader.read.Goals as goal

pub loop-i-preserved : goal.loop-i-preserved
loop-i-preserved g c =
    let i = c.loop-i.i in
    let came = c.args.came.now in
    let content = g.F.ReadAt.content c.args.self.now.lanes.file.now in
    let old = c.loop-i.self in
    let new = c.ready.new.self in
    let end : ℕ = old.run.from + old.run.len in
    let start : ℕ = c.in_ok-start.start in
    let file = c.in_ok-start.ensures.file ∙ c.loop-i.invariant.file in
    let none : Arrival Place = record { esi = 0; symbol = record { offset = 0; length = 0; carrier = false } } in
    let among = c.in_ok-start.ensures.start in
    let pushed : c.push.new.self.items ≡ old.starts.items ++ start ∷ [] =
    c.in-Ok.ensures.items ∙ ap (λ (l : List ℕ). l ++ start ∷ []) c.in_ok-start.ensures.starts in
    record {
      file = file;
      count = ap length pushed ∙ length-append old.starts.items (start ∷ []) ∙ ap (λ (n : ℕ). n + 1) c.loop-i.invariant.count;
      each = λ k d l. elim (cases_lt k i) [
        | inl lt ↦
            (let w = c.loop-i.invariant.each k d lt in
            let e : get_or c.push.new.self.items k 0 ≡ get_or old.starts.items k 0 =
            ap (λ (xs : List ℕ). get_or xs k 0) pushed ∙ get_or_append_left old.starts.items (start ∷ []) 0 k (omega (arith, lt, c.loop-i.invariant.count)) in
            rw e (
              omega (arith, w.0, c.in_ok-start.ensures.more),
              subst (StandsAt content (slice_index_or came k d).symbol.offset)
                  (sym (stays_in end (slice_index_or came k d).symbol.length (get_or old.starts.items k 0) old.room.items new.room.items w.0 c.in_ok-start.ensures.before)) w.1,
            ))
        | inr past ↦
            (let is : i ≡ k = omega (arith, l, past) in
            let at : length old.starts.items + 0 ≡ k = omega (arith, is, c.loop-i.invariant.count) in
            let e : get_or c.push.new.self.items k 0 ≡ start =
            ap (λ (xs : List ℕ). get_or xs k 0) pushed ∙ ap (λ (n : ℕ). get_or (old.starts.items ++ start ∷ []) n 0) (sym at) ∙ get_or-append-add old.starts.items (start ∷ []) 0 0 in
            let place : slice_index_or came k d ≡ get_or came i none =
            ap (λ (n : ℕ). slice_index_or came n d) (sym is) ∙ get_or_default came i d none c.loop-i-test.true in
            rw (e, place) (
              omega (arith, among.begins, among.ends),
              part_of_run content new.room.items new.run.from new.run.offset new.run.len start (get_or came i none).symbol new.within
                  (subst (λ f. StandsAt (g.F.ReadAt.content f) new.run.offset (take new.run.len (drop new.run.from new.room.items))) file new.stands) among,
            ))
      ];
    }
