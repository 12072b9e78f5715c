use Rattle.std.proofs.Common.{ℕ, ◌+◌, ◌*◌, ◌≤◌, List, Option, subst, arith}
use Rattle.partition.specs.Fti.{Fti, source_count, start_of}
use Rattle.streams.specs.Offsets.{Overwrites}
use Rattle.block_bytes.specs.Bytes.{Puts}
use Rattle.block_bytes.specs.InFile.{kept_at}
use Rattle.block_bytes.proofs.BlocksInFile.{puts, on_ok}
use Rattle.block_bytes.proofs.file_blocks.FileBlocks.put.Goals as goal

pub returns-clause-put : goal.returns-clause-put
returns-clause-put g c =
    let f : Fti = c.args.fti.now in
    let middle : Option (List ℕ) = g.W.Write.contents c.grow.new.self.output in
    let new : Option (List ℕ) = g.W.Write.contents c.write_all_at.new.writer in
    let bytes : List ℕ = c.args.bytes.now in
    let room : start_of f c.args.block * f.symbol_length + source_count f c.args.block * f.symbol_length ≤ c.grow.new.self.len = omega (arith, c.end_of.ensures.value, c.in_ok-grow.ensures.long) in
    on_ok c.write_all_at.result _ _
    (λ is.
    let written = subst (λ (begin : ℕ). Overwrites middle new (begin + c.args.from) bytes) {y = start_of f c.args.block * f.symbol_length} c.begin_of.ensures.value is in
    subst (λ (kept : Fti → Option (ℕ → List ℕ)). Puts (kept f) (kept_at new f) c.args.block c.args.from bytes) c.in_ok-grow.ensures.stays
    (puts f c.begin_of.ensures.valid middle new c.grow.new.self.len c.args.block c.args.from bytes c.grow.new.self.long room c.requires.inside written))
    c.write_all_at.ensures.ok
