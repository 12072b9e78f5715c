-- Numbers as they are shown.
use Rattle.std.specs.Prelude.{ℕ, ◌%◌, ◌==◌, ◌&&◌, nat_lt, List, [], ◌∷◌, ◌++◌, length, codes}
use Rattle.std.specs.Prelude.{decimal, if◌then◌else◌}

-- what stands before so many digits that are left of a number: between thousands a comma
abbrev pub comma_before : ℕ → List ℕ
comma_before left = if nat_lt 0 left && (left % 3 == 0) then codes "," else []

-- a number's digits with a comma between thousands
abbrev pub thousands_text : List ℕ → List ℕ
thousands_text [] = []
thousands_text (digit ∷ digits) = digit ∷ comma_before (length digits) ++ thousands_text digits

-- a number of things, by the name of one and of several
abbrev pub count_text : ℕ → List ℕ → List ℕ → List ℕ
count_text number one several =
    thousands_text (decimal number) ++ codes " " ++ (if number == 1 then one else several)
