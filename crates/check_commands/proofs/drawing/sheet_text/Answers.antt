use Rattle.std.proofs.Common.{ℕ, List, String, IfOk, length, string_bytes, subst}
use Rattle.std.specs.declared.alloc.Global.{Global}
use Rattle.picture.specs.Sheets.{IsPicture}
use Rattle.check_commands.proofs.drawing.sheet_text.Goals as goal

pub returns : goal.returns
returns c =
    let report = c.args.report.now in
    subst (λ (places : List ℕ). IfOk c.draw.result (λ (text : String Global). IsPicture report.margin report.burst (length places) report.kill_block (string_bytes text)))
    c.as_slice-3.ensures.value c.draw.ensures
