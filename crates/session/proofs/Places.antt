-- Datagrams one behind the other in one buffer: where each stands, and one more.
use Rattle.std.proofs.Common.{◌≡◌, ◌∙◌, ℕ, zero, suc, ◌<◌, ◌≤◌, ◌+◌, ◌-◌, List, [], ◌∷◌, ◌++◌, length, get_or, take, drop, refl, ap, length-drop, arith}
use Rattle.std.proofs.Math.Seq.{drop-append_seam, take-length}
use Rattle.std.proofs.lemmas.List.{drop-append-le, take-append-le, get_or_default}
use Rattle.session.specs.Bounds.{begin}
use Rattle.session.specs.Buffer.{pieces, AreEnds}

pub length_pieces : (from : ℕ) (ends bytes : List ℕ) → length (pieces from ends bytes) ≡ length ends
length_pieces from [] bytes = refl
length_pieces from (e ∷ ends) bytes = ap suc (length_pieces e ends bytes)

-- the first begins within the bytes
pub first_within : (from : ℕ) (ends : List ℕ) (size : ℕ) → AreEnds from ends size → from ≤ size
first_within from [] size is = omega (arith, is)
first_within from (e ∷ ends) size are = omega (arith, are.0, first_within e ends size are.1)

pub begin_first : (from : ℕ) (ends : List ℕ) (i : ℕ) → i ≡ 0 → begin from ends i ≡ from
begin_first from ends zero e = refl
begin_first from ends (suc i) e = absurd (omega (arith, e))

pub begin_later : (from : ℕ) (ends : List ℕ) (i d : ℕ) → 0 < i → i < length ends → begin from ends i ≡ get_or ends (i - 1) d
begin_later from ends zero d some l = absurd (omega (arith, some))
begin_later from ends (suc i) d some l =
    let back : i ≡ suc i - 1 = omega arith in
    get_or_default ends i 0 d (omega (arith, l)) ∙ ap (λ (n : ℕ). get_or ends n d) back

pub piece_at : (i from : ℕ) (ends bytes : List ℕ) → i < length ends → get_or (pieces from ends bytes) i [] ≡ take (get_or ends i 0 - begin from ends i) (drop (begin from ends i) bytes)
piece_at i from [] bytes l = absurd (omega (arith, l))
piece_at zero from (e ∷ ends) bytes l = refl
piece_at (suc zero) from (e ∷ ends) bytes l = piece_at zero e ends bytes (omega (arith, l))
piece_at (suc (suc i)) from (e ∷ ends) bytes l = piece_at (suc i) e ends bytes (omega (arith, l))

-- a piece lies within the bytes
pub piece_within : (i from : ℕ) (ends : List ℕ) (size : ℕ) → AreEnds from ends size → i < length ends → (begin from ends i ≤ get_or ends i 0) × (get_or ends i 0 ≤ size)
piece_within i from [] size are l = absurd (omega (arith, l))
piece_within zero from (e ∷ ends) size are l = (are.0, first_within e ends size are.1)
piece_within (suc zero) from (e ∷ ends) size are l = piece_within zero e ends size are.1 (omega (arith, l))
piece_within (suc (suc i)) from (e ∷ ends) size are l = piece_within (suc i) e ends size are.1 (omega (arith, l))

-- one more, of so many bytes
pub ends_more : (from : ℕ) (ends : List ℕ) (size n : ℕ) → AreEnds from ends size → AreEnds from (ends ++ (size + n) ∷ []) (size + n)
ends_more from [] size n is = (omega (arith, is), refl)
ends_more from (e ∷ ends) size n are = (are.0, ends_more e ends size n are.1)

pub pieces_more : (from : ℕ) (ends bytes d : List ℕ) → AreEnds from ends (length bytes) → pieces from (ends ++ (length bytes + length d) ∷ []) (bytes ++ d) ≡ pieces from ends bytes ++ d ∷ []
pieces_more from [] bytes d is =
    let size : length bytes + length d - from ≡ length d = omega (arith, is) in
    let rest : drop from (bytes ++ d) ≡ d = ap (λ (n : ℕ). drop n (bytes ++ d)) is ∙ drop-append_seam bytes d in
    ap (λ (l : List ℕ). l ∷ []) (ap (λ (n : ℕ). take n (drop from (bytes ++ d))) size ∙ ap (take (length d)) rest ∙ take-length d)
pieces_more from (e ∷ ends) bytes d are =
    let within = first_within e ends (length bytes) are.1 in
    let low : from ≤ length bytes = omega (arith, within, are.0) in
    let left : e - from ≤ length (drop from bytes) = omega (arith, within, length-drop from bytes) in
    let here : take (e - from) (drop from (bytes ++ d)) ≡ take (e - from) (drop from bytes) =
    ap (take (e - from)) (drop-append-le from bytes d low) ∙ take-append-le (e - from) (drop from bytes) d left in
    ap (λ (l : List ℕ). l ∷ pieces e (ends ++ (length bytes + length d) ∷ []) (bytes ++ d)) here
    ∙ ap (λ (l : List (List ℕ)). take (e - from) (drop from bytes) ∷ l) (pieces_more e ends bytes d are.1)
