use Rattle.std.proofs.Common.{◌≤◌, ◌-◌, ◌<◌, ◌∙◌, ap, arith}
use Rattle.partition.specs.Fti.{Fti, source_count}
use Rattle.certified_symbols.proofs.RepairSymbols.{kept_symbol}
use Rattle.certified_symbols.proofs.repair_symbols.RepairSymbols.get.Goals as goal

pub returns-clause-some : goal.returns-clause-some
returns-clause-some c =
    let s = c.args.self.now in
    let kept : c.args.block < s.blocks = omega (arith, c.if-block-self.false) in
    let z = c.args.latest.now.certificate in
    let low : c.k-k.result ≤ c.args.esi = omega (arith, c.if-esi-k.false, c.from-esi.ensures) in
    let high : c.args.esi - c.k-k.result < s.count = omega (arith, c.if-esi-k-2.false, c.from-esi.ensures) in
    rw (c.from-esi.ensures, c.deref.ensures.value)
    (kept_symbol z s.count c.args.block c.args.esi c.from-width.result c.k-k.result s.bytes.items
    (c.from-width.ensures ∙ c.symbol_length.ensures.value ∙ ap (λ (f : Fti). f.symbol_length) c.fti-fti.ensures.value)
    (c.k-k.ensures.value ∙ ap (λ (f : Fti). source_count f c.args.block) c.fti-fti.ensures.value) low high (c.requires.kept.symbols c.args.block kept))
