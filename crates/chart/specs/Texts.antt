-- What is put into the text of a chart.
use Rattle.std.specs.Prelude.{◌≡◌, ◌++◌, ℕ, List, true, is_ok, string_bytes, codes, decimal}
use Rattle.std.specs.Prelude.{[], ◌∷◌, ◌+◌, ◌-◌, ◌*◌, ◌==◌, ◌||◌, nat_lt, nat_le}
use Rattle.std.specs.Prelude.{map, filter, flat_map, encode_utf8, if◌then◌else◌}
use Rattle.std.specs.Char.{is_control}
use Rattle.std.specs.List.{range_with_len}
use Rattle.chart.specs.Counts.{thousands_text}
use Rattle.chart.specs.Scaled.{scaled}
use Rattle.chart.specs.declared.canvas.Canvas.{Canvas}
use Rattle.chart.specs.declared.panel.Axis.{Axis}
use Rattle.chart.specs.declared.panel.Bar.{Bar}
use Rattle.chart.specs.declared.panel.Panel.{Panel}

-- where memory hasn't lacked so far, it hadn't before, and this text was put last
pub record Puts (old new : Canvas) (text : List ℕ) : Type 0 where
  pub had : is_ok new.outcome ≡ true → is_ok old.outcome ≡ true
  pub behind : is_ok new.outcome ≡ true → string_bytes new.text ≡ string_bytes old.text ++ text

-- an attribute with a number
abbrev pub attribute_text : List ℕ → ℕ → List ℕ
attribute_text name number = codes " " ++ name ++ codes "=\"" ++ decimal number ++ codes "\""

-- the tag that begins a line of words at a place
abbrev pub words_tag : ℕ → ℕ → List ℕ → List ℕ
words_tag x y look =
    codes "<text" ++ attribute_text (codes "x") x ++ attribute_text (codes "y") y ++ codes " "
    ++ look ++ codes ">"

-- a letter of a name: what XML keeps for itself is escaped, and what it doesn't take, or can't be
-- seen, is the replacement character; '&' is 38, '<' 60, '>' 62, '"' 34 and the apostrophe 39
abbrev pub escaped : ℕ → List ℕ
escaped letter =
    if letter == 38 then codes "&amp;" else (
    if letter == 60 then codes "&lt;" else (
    if letter == 62 then codes "&gt;" else (
    if letter == 34 then codes "&quot;" else (
    if letter == 39 then codes "&apos;" else (
    if is_control letter || (letter == 65534) || (letter == 65535) then encode_utf8 65533
    else encode_utf8 letter)))))

-- how wide a letter may be
abbrev pub width_of : ℕ → ℕ
width_of letter = if nat_lt letter 128 then 1 else 2

-- how wide letters in a row may be
abbrev pub width : List ℕ → ℕ
width [] = 0
width (letter ∷ letters) = width_of letter + width letters

-- the beginning of a text, as much as there is room for
abbrev pub beginning : ℕ → List ℕ → List ℕ
beginning room [] = []
beginning room (letter ∷ letters) =
    if nat_le (width_of letter) room then letter ∷ beginning (room - width_of letter) letters
    else []

-- the end of a text, as much as there is room for
abbrev pub ending : ℕ → List ℕ → List ℕ
ending room [] = []
ending room (letter ∷ letters) =
    if nat_le (width (letter ∷ letters)) room then letter ∷ letters else ending room letters

-- a name: of one that is wider than 70 its beginning and its end, with … between
abbrev pub name_text : List ℕ → List ℕ
name_text letters =
    if nat_le (width letters) 70 then flat_map escaped letters
    else flat_map escaped (beginning 35 letters) ++ encode_utf8 8230
    ++ flat_map escaped (ending 33 letters)

-- what begins a path of this look
abbrev pub path_tag : List ℕ → List ℕ
path_tag look = codes "<path " ++ look ++ codes " d=\""

-- a bar in a path, from its upper left corner
abbrev pub bar_text : Bar → List ℕ
bar_text bar =
    codes "M" ++ decimal bar.x ++ codes " " ++ decimal bar.y ++ codes "h" ++ decimal bar.width
    ++ codes "v" ++ decimal bar.height ++ codes "h-" ++ decimal bar.width ++ codes "z"

-- the values that have a horizontal line: of the first six multiples of the unit, those that aren't
-- above the top
abbrev pub line_values : Axis → List ℕ
line_values axis =
    filter (λ value. nat_le value axis.top) (map (λ line. axis.unit * line) (range_with_len 0 6))

-- where a value stands in a panel
abbrev pub y_of : Panel → Axis → ℕ → ℕ
y_of panel axis value = panel.top + panel.height - scaled 0 panel.height axis.top value

-- a value's horizontal line, in a path
abbrev pub line_text : Panel → Axis → ℕ → List ℕ
line_text panel axis value =
    codes "M" ++ decimal panel.left ++ codes " " ++ decimal (y_of panel axis value)
    ++ codes "h" ++ decimal panel.width

-- a panel's horizontal lines
abbrev pub lines_text : Panel → Axis → List ℕ
lines_text panel axis =
    codes "<path stroke=\"#ccc\" stroke-width=\"2\" d=\""
    ++ flat_map (line_text panel axis) (line_values axis) ++ codes "\"/>\n"

-- a value, beside its horizontal line
abbrev pub value_text : Panel → Axis → ℕ → List ℕ
value_text panel axis value =
    words_tag (panel.left - 14) (y_of panel axis value + 8)
    (codes "font-size=\"22\" fill=\"#444\" text-anchor=\"end\"")
    ++ thousands_text (decimal value) ++ codes "</text>\n"

-- the values of a panel's horizontal lines
abbrev pub values_text : Panel → Axis → List ℕ
values_text panel axis = flat_map (value_text panel axis) (line_values axis)
