use Rattle.std.proofs.Common.{◌<◌, [], ltb-true, ap, arith}
use Rattle.lists.proofs.Lists.{both}
use Rattle.partition.specs.Fti.{Fti, block_count, source_count}
use Rattle.alc.specs.Views.{packet_of}
use Rattle.reception.specs.Reception.{symbol_of}
use Rattle.certificate.specs.CoefficientRows.{IsSourceSymbol}
use Rattle.cert.proofs.Columns.{is_uncertified, none_from_part, some_from_part}
use Rattle.cert.proofs.Scanning.{in_range_small}
use Rattle.cert.proofs.datagrams.first_wrong_column_of.Goals as goal

pub returns-then-esi-k-clause-column : goal.returns-then-esi-k-clause-column
returns-then-esi-k-clause-column c =
    let z = c.args.symbols.now in
    let p = packet_of c.args.packet.now in
    let block = ltb-true p.block (block_count z.fti) (both _ _ c.requires.range).0 in
    let same = ap (λ (f : Fti). source_count f p.block) c.fti-fti.ensures.value in
    let source : p.esi < source_count z.fti p.block = omega (arith, c.if-esi-k.true, c.from-esi.ensures, c.k.ensures.value, same) in
    let part : IsSourceSymbol z.fti c.args.object.now p.block p.esi c.source_symbol.result.now =
    rw (c.fti-fti.ensures.value, c.from-esi.ensures) at c.source_symbol.ensures in
    is_uncertified z [] (symbol_of p) c.first_difference.result
    (λ n. none_from_part z c.args.object.now c.requires.gives p.block p.esi block source p.bytes c.source_symbol.result.now c.requires.symbol part (c.first_difference.ensures.none n))
    (some_from_part z c.args.object.now c.requires.gives p.block p.esi block source p.bytes c.source_symbol.result.now c.requires.symbol part c.first_difference.result c.first_difference.ensures.some)

pub first_wrong_column-requires-clause-esi : goal.first_wrong_column-requires-clause-esi
first_wrong_column-requires-clause-esi c = in_range_small c.args.symbols.now.fti (packet_of c.args.packet.now) c.fti-fti.ensures.certificate.fti c.requires.range

pub returns-clause-column : goal.returns-clause-column
returns-clause-column c =
    is_uncertified c.args.symbols.now [] (symbol_of (packet_of c.args.packet.now)) c.first_wrong_column.result c.first_wrong_column.ensures.none c.first_wrong_column.ensures.some
