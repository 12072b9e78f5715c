use Rattle.std.proofs.Common.{◌∙◌, ◌++◌, ℕ, List, ap, String, length, string_bytes}
use Rattle.std.proofs.lemmas.Result.{IfOk-weaker}
use Rattle.std.specs.declared.alloc.Global.{Global}
use Rattle.picture.specs.Sheets.{sheet_text}
use Rattle.picture.proofs.sheet.draw.Goals as goal

pub returns : goal.returns
returns c =
    let sheet = c.args.sheet.now in
    let is = sheet_text sheet.margin sheet.burst (length sheet.kill.now) sheet.kill_block c.as_str.result.now c.as_str-2.result.now in
    IfOk-weaker c.finish.result _ _
    (λ (text : String Global) told. (
      c.as_str.result.now,
      c.as_str-2.result.now,
      ap (λ (t : String Global). string_bytes t) told.1 ∙ c.put_sheet.ensures.behind told.0 ∙ ap (λ (l : List ℕ). l ++ is) c.new-canvas.ensures.empty,
    ))
    c.finish.ensures
