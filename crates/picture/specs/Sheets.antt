-- What the text of a sheet says.
use Rattle.std.specs.Prelude.{◌≡◌, ◌++◌, ℕ, ◌==◌, List, Option, Some, None, codes, decimal}
use Rattle.std.specs.Prelude.{if◌then◌else◌}
use Rattle.chart.specs.Counts.{count_text, thousands_text}

-- how many datagrams may be missed, whichever they are, and how many neighbours
abbrev pub margin_text : ℕ → ℕ → List ℕ
margin_text margin burst =
    if margin == 0 then codes "there is a datagram that must not be missed"
    else codes "any " ++ count_text margin (codes "datagram") (codes "datagrams")
    ++ codes " may be missed; any " ++ count_text burst (codes "neighbour") (codes "neighbours")

-- what a loss does: it leaves this block short, or else no carrier
abbrev pub harm_text : Option ℕ → List ℕ
harm_text (Some block) = codes "leaves block " ++ thousands_text (decimal block) ++ codes " short"
harm_text None = codes "leaves no carrier"

-- how many datagrams must not be missed together, and what their loss does
abbrev pub kill_text : ℕ → Option ℕ → List ℕ
kill_text count block =
    (if count == 1 then codes "kill: to miss this datagram "
    else codes "kill: to miss these " ++ thousands_text (decimal count) ++ codes " datagrams ")
    ++ harm_text block

-- what the text begins with
abbrev pub head_text : List ℕ
head_text =
    codes "<?xml version=\"1.0\" encoding=\"UTF-8\"?>\n"
    ++ codes "<svg xmlns=\"http://www.w3.org/2000/svg\" width=\"1000\" height=\"700\" "
    ++ codes "viewBox=\"0 0 2000 1400\" role=\"img\" aria-labelledby=\"title desc\" "
    ++ codes "font-family=\"DejaVu Sans, Verdana, Arial, sans-serif\">\n"

-- the beginning of an SVG with its title, these numbers, the kill, these panels, and the last tag
abbrev pub sheet_text : ℕ → ℕ → ℕ → Option ℕ → List ℕ → List ℕ → List ℕ
sheet_text margin burst kill block numbers panels =
    head_text ++ codes "<title id=\"title\">yes: " ++ margin_text margin burst
    ++ codes "</title>\n<desc id=\"desc\">" ++ numbers ++ codes "; " ++ kill_text kill block
    ++ panels ++ codes "</svg>\n"

-- such a text, of this margin, this burst, and a kill of so many datagrams and this block
abbrev pub IsPicture : ℕ → ℕ → ℕ → Option ℕ → List ℕ → Type 0
IsPicture margin burst kill block text =
    (numbers : List ℕ) × (panels : List ℕ)
    × (text ≡ sheet_text margin burst kill block numbers panels)
