use Rattle.std.proofs.Common.{ℕ, ◌+◌, ◌*◌, ◌≤◌, List, Option, length, subst, arith, inl, inr}
use Rattle.partition.specs.Fti.{Fti, source_count, start_of}
use Rattle.streams.specs.Offsets.{StandsAt}
use Rattle.block_bytes.specs.Bytes.{StandIn}
use Rattle.block_bytes.proofs.BlocksInFile.{stands_in, untold_before, on_ok, on_err}
use Rattle.block_bytes.proofs.file_blocks.FileBlocksBlockBytes.read.Goals as goal

pub returns-clause-bytes : goal.returns-clause-bytes
returns-clause-bytes g c =
    let f : Fti = c.args.fti.now in
    let middle : Option (List ℕ) = g.W.Write.contents c.grow.new.self.output in
    let bytes : List ℕ = c.read_or_recall.new.into in
    let room : start_of f c.args.block * f.symbol_length + source_count f c.args.block * f.symbol_length ≤ c.grow.new.self.len = omega (arith, c.end_of.ensures.value, c.in_ok-grow.ensures.long) in
    let inside : c.args.from + length bytes ≤ source_count f c.args.block * f.symbol_length = omega (arith, c.requires.inside, c.read_or_recall.ensures.size) in
    on_ok c.read_or_recall.result _ _
    (λ is.
    let there = subst (λ (begin : ℕ). StandsAt middle (begin + c.args.from) bytes) {y = start_of f c.args.block * f.symbol_length} c.begin_of.ensures.value is in
    subst (λ (kept : Fti → Option (ℕ → List ℕ)). StandIn (kept f) c.args.block c.args.from bytes) c.in_ok-grow.ensures.stays
    (stands_in f middle c.grow.new.self.len c.args.block c.args.from bytes c.grow.new.self.long room inside there))
    c.read_or_recall.ensures.bytes

pub returns-clause-fails : goal.returns-clause-fails
returns-clause-fails g c =
    on_err c.read_or_recall.result _ _
    (λ why. elim why [ inl failed ↦ inl failed | inr untold ↦ inr (untold_before c.args.fti.now _ _ c.in_ok-grow.ensures.stays untold) ])
    c.read_or_recall.ensures.fails
