-- Where datagrams stand whose frames stand one behind the other, by where each ends.
use Rattle.std.specs.Prelude.{ℕ, zero, suc, ◌+◌, ◌-◌, List, [], ◌∷◌}
use Rattle.session.specs.declared.extent.Extent.{Extent}

-- an extent that is no datagram's
abbrev pub no_extent : Extent
no_extent = record { offset = 0; length = 0 }

-- those behind an offset: each begins behind its length's two bytes
abbrev pub extents_from : ℕ → List ℕ → List Extent
extents_from begin [] = []
extents_from begin (end ∷ ends) =
    record { offset = begin + 2; length = end - (begin + 2) } ∷ extents_from end ends

-- where the last one ends
abbrev pub end_from : ℕ → List ℕ → ℕ
end_from begin [] = begin
end_from begin (end ∷ ends) = end_from end ends

-- where the frame of the one at a place begins
abbrev pub begin_from : ℕ → List ℕ → ℕ → ℕ
begin_from begin ends zero = begin
begin_from begin [] (suc i) = begin
begin_from begin (end ∷ ends) (suc i) = begin_from end ends i
