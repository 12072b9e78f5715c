-- The first block that is short, by counts.
use Rattle.std.specs.Prelude.{filter, is_some}
use Rattle.std.proofs.Common.{◌≡◌, ℕ, ◌<◌, List, Option, arith, length}
use Rattle.std.proofs.lemmas.Bool.{lt-leb, le-leb}
use Rattle.lists.specs.Below.{below}
use Rattle.partition.specs.Fti.{Fti, IsValidFti, block_count, source_count, encoding_count}
use Rattle.partition.proofs.Laws.{counts}
use Rattle.reception.specs.Symbols.{arrived_count}
use Rattle.block_recovery.specs.Decoded.{IsEnoughAt}
use Rattle.block_recovery.proofs.Counts.{held_is, counted_held}
use Rattle.decoder.specs.Answered.{IsShort}
use Rattle.decoder.specs.declared.answer.Short.{Short}

-- the least block that is short, by counts of it and of those below
pub counted_short : (f : Fti) → IsValidFti f → (at : ℕ → ℕ → Option (List ℕ)) (s : Short) (n : ℕ) → s.block < block_count f → n ≡ encoding_count f s.block
    → s.have ≡ length (filter (λ j. is_some (at s.block j)) (below n)) → s.need ≡ source_count f s.block → s.have < s.need
    → ((a : ℕ) → a < s.block → IsEnoughAt f a (at a)) → IsShort f at s
counted_short f valid at s n inside is have need few enough = λ arrivals index within.
    let most = λ (b : ℕ) (hb : b < block_count f). (counts f valid b hb).2 in
    let count : s.have ≡ arrived_count arrivals s.block =
    counted_held f arrivals at s.block n s.have index within is (rw is (most s.block inside)) have in (
      record {
        in_range = inside;
        short = lt-leb (source_count f s.block) (arrived_count arrivals s.block) (omega (arith, count, need, few));
        least = λ a la.
            let e = enough a la in
            le-leb (source_count f a) (arrived_count arrivals a) (omega (arith, e, held_is f arrivals at a index within (most a (omega (arith, la, inside)))));
      },
      count,
      need,
    )
