-- Where a report can be summed up.
use Rattle.std.specs.Prelude.{◌<◌, length}
use Rattle.cert.specs.declared.verdict.Report.{Report}

-- there is a block, of which the weakest is told
abbrev pub CanBeSummed : Report → Type 0
CanBeSummed report = 0 < length report.blocks.items
