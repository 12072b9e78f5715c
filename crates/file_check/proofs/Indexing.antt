-- A pass over a session file's frames, of which each datagram's extent is kept.
use Rattle.std.proofs.Common.{◌≡◌, ℕ, ◌+◌, ◌≤◌, List, [], ◌∷◌, ◌++◌, Option, Some, length, get_or, length-append, ap, ◌∙◌, inl, inr, arith}
use Rattle.std.proofs.Math.Seq.{get_or-append_seam}
use Rattle.std.proofs.lemmas.Bool.{cases_lt}
use Rattle.std.proofs.lemmas.List.{get_or_append_left}
use Rattle.session.specs.Extents.{datagram_in}
use Rattle.session.specs.declared.extent.Extent.{Extent}
use Rattle.file_check.specs.Indexed.{StandAt}
use Rattle.file_check.specs.Standing.{no_extent}

pub none_stands : (content : Option (List ℕ)) → StandAt content [] []
none_stands content = λ x told i l. absurd (omega (arith, l))

-- one datagram more
pub one_stands : (content : Option (List ℕ)) (es : List Extent) (ds : List (List ℕ)) (e : Extent) (d : List ℕ) → length es ≡ length ds → StandAt content es ds
    → ((x : List ℕ) → content ≡ Some x → (datagram_in x e ≡ d) × (e.offset + e.length ≤ length x)) → StandAt content (es ++ e ∷ []) (ds ++ d ∷ [])
one_stands content es ds e d same h here = λ x told i l. elim (cases_lt i (length ds)) [
  | inl lt ↦
      rw (get_or_append_left es (e ∷ []) no_extent i (omega (arith, lt, same)), get_or_append_left ds (d ∷ []) [] i lt) (h x told i lt)
  | inr ge ↦
      (let at : i ≡ length ds = omega (arith, l, ge, length-append ds (d ∷ [])) in
      let at_e : i ≡ length es = omega (arith, at, same) in
      let extent : get_or (es ++ e ∷ []) i no_extent ≡ e = ap (λ (k : ℕ). get_or (es ++ e ∷ []) k no_extent) at_e ∙ get_or-append_seam es e [] no_extent in
      let datagram : get_or (ds ++ d ∷ []) i [] ≡ d = ap (λ (k : ℕ). get_or (ds ++ d ∷ []) k []) at ∙ get_or-append_seam ds d [] [] in
      rw (extent, datagram) (here x told))
]
