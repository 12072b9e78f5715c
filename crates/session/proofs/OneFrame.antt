-- The frame that some bytes begin with.
use Rattle.std.proofs.Common.{◌≡◌, ℕ, ◌≤◌, ◌+◌, List, ◌++◌, length, take, drop, append_assoc, sym, ap, ◌∙◌, arith}
use Rattle.std.proofs.Math.Seq.{take-append_seam, drop-append_seam}
use Rattle.std.proofs.lemmas.List.{append_cancel_left}
use Rattle.byteorder.specs.Endian.{big_bytes}
use Rattle.byteorder.specs.Numbers.{big_number-reads_back}
use Rattle.session.specs.Frames.{frame, most_bytes, told_length}

-- what a frame's first two bytes tell, whatever follows
told_again : (d rest : List ℕ) → length d ≤ most_bytes → told_length (frame d ++ rest) ≡ length d
told_again d rest short =
    ap (λ (x : List ℕ). told_length x) (append_assoc (big_bytes 2 (length d)) d rest)
    ∙ big_number-reads_back 2 (length d) (d ++ rest) (omega (arith, short))

pub length_frame : (d : List ℕ) → length (frame d) ≡ 2 + length d
length_frame d = omega arith

-- a datagram stands behind the two bytes of its length
pub behind_length : (d rest : List ℕ) → drop 2 (frame d ++ rest) ≡ d ++ rest
behind_length d rest = ap (drop 2) (append_assoc (big_bytes 2 (length d)) d rest) ∙ drop-append_seam (big_bytes 2 (length d)) (d ++ rest)

-- two frames with which the same bytes begin are one
pub one_frame : (d e xs ys : List ℕ) → length d ≤ most_bytes → length e ≤ most_bytes → frame d ++ xs ≡ frame e ++ ys → (d ≡ e) × (xs ≡ ys)
one_frame d e xs ys short_d short_e same =
    let sizes : length d ≡ length e =
    sym (told_again d xs short_d) ∙ ap (λ (x : List ℕ). told_length x) same ∙ told_again e ys short_e in
    let head : big_bytes 2 (length d) ≡ big_bytes 2 (length e) = ap (big_bytes 2) sizes in
    let moved : big_bytes 2 (length e) ++ (d ++ xs) ≡ big_bytes 2 (length e) ++ (e ++ ys) =
    ap (λ (x : List ℕ). x ++ (d ++ xs)) (sym head) ∙ sym (append_assoc (big_bytes 2 (length d)) d xs) ∙ same
    ∙ append_assoc (big_bytes 2 (length e)) e ys in
    let rests : d ++ xs ≡ e ++ ys = append_cancel_left (big_bytes 2 (length e)) (d ++ xs) (e ++ ys) moved in
    let first : d ≡ e =
    sym (take-append_seam d xs) ∙ ap (λ (n : ℕ). take n (d ++ xs)) sizes ∙ ap (take (length e)) rests ∙ take-append_seam e ys in
    let second : xs ≡ ys =
    sym (drop-append_seam d xs) ∙ ap (λ (n : ℕ). drop n (d ++ xs)) sizes ∙ ap (drop (length e)) rests ∙ drop-append_seam e ys in
    (first, second)
