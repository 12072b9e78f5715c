use Rattle.std.proofs.Common.{◌*◌, ◌∙◌, ℕ, sym, ap}
use Rattle.partition.specs.Fti.{Fti, encoding_count}
use Rattle.certificate.proofs.BlockSymbols.{symbols_behind, length_behind}
use Rattle.certified_symbols.proofs.block_symbols.BlockSymbols.symbols_from.Goals as goal

pub returns-clause-len : goal.returns-clause-len
returns-clause-len c =
    let m = c.self.invariant in
    let z = c.self.inside.certificate in
    let w = c.from-width.result in
    let le = rw (← c.self.view_is) at c.requires in
    let width_is = c.from-width.ensures ∙ c.symbol_length.ensures.value ∙ ap (λ (f : Fti). f.symbol_length) c.fti.ensures.value in
    rw (← c.self.view_is, ← width_is, c.deref.ensures.value)
    (length_behind c.self.inside.count c.args.place w (encoding_count z.fti 0) c.self.inside.bytes.items (m.room ∙ ap (λ (v : ℕ). encoding_count z.fti 0 * v) (sym width_is)) m.within le)

pub returns-clause-certified : goal.returns-clause-certified
returns-clause-certified c =
    let m = c.self.invariant in
    let z = c.self.inside.certificate in
    let le = rw (← c.self.view_is) at c.requires in
    let width_is = c.from-width.ensures ∙ c.symbol_length.ensures.value ∙ ap (λ (f : Fti). f.symbol_length) c.fti.ensures.value in
    rw (← c.self.view_is, c.deref.ensures.value)
    (symbols_behind z c.self.inside.block c.self.inside.first c.self.inside.count c.args.place c.from-width.result c.self.inside.bytes.items width_is le m.symbols)
