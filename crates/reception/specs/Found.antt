-- What a walk through a whole list of datagrams finds.
use Rattle.std.specs.Prelude.{◌≡◌, ℕ, List}
use Rattle.alc.specs.Reading.{Reading}
use Rattle.reception.specs.declared.scope.Identity.{Identity}
use Rattle.reception.specs.declared.scope.Scope.{Scope}
use Rattle.reception.specs.Reception.{ReadAll, asked, counted, scope_from}

-- the scope of a list of datagrams: the identity, and the FTI of its first carrier, wherever it
-- stands
abbrev pub IsScopeOf : Identity → List (List ℕ) → Scope → Type 0
IsScopeOf who datagrams scope =
    (rs : List Reading) → ReadAll datagrams rs → scope ≡ scope_from (asked who) (counted who rs)
