use Rattle.std.proofs.Common.{◌≡◌, ◌*◌, ◌∙◌, ℕ, ap, arith}
use Rattle.partition.specs.Fti.{source_count, start_of}
use Rattle.partition.proofs.Fti.block_bytes.Goals as goal

products : (a b x y : ℕ) → a ≡ x → b ≡ y → a * b ≡ x * y
products a b x y e g = ap (λ (v : ℕ). v * b) e ∙ ap (λ (v : ℕ). x * v) g

pub returns-clause-value : goal.returns-clause-value
returns-clause-value c =
    let f = c.args.self.now in
    let size = c.from-size.ensures ∙ c.symbol_length.ensures.value in
    let before = products c.start.result c.from-size.result (start_of f c.args.b) f.symbol_length c.start.ensures.value size in
    let rows = products c.k.result c.from-size.result (source_count f c.args.b) f.symbol_length c.k.ensures.value size in
    omega (arith, c.min.ensures, before, rows, c.transfer_length.ensures.value)
