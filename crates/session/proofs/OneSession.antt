-- The bytes of a session file are the frames of one list of datagrams.
use Rattle.std.proofs.Common.{◌≡◌, ℕ, suc, ◌≤◌, ◌+◌, List, [], ◌∷◌, ◌++◌, length, take, drop, length-append, append_assoc, refl, sym, ap, subst, ◌∙◌, arith}
use Rattle.std.proofs.Math.Seq.{take-append_seam, drop-append_seam}
use Rattle.std.proofs.lemmas.List.{append_cancel_left}
use Rattle.byteorder.specs.Endian.{big_bytes}
use Rattle.byteorder.specs.Numbers.{big_number-reads_back}
use Rattle.session.specs.Frames.{frame, frames, most_bytes, AreShort, IsFramed, told_length, IsNoFrame, StopsAt}
use Rattle.session.specs.declared.frame.FrameFault.{FrameFault}
use Rattle.session.specs.declared.frame.FrameFault.TheVariants.{CutLength, CutDatagram, TooLong}

-- what a frame's first two bytes tell, whatever follows
told_again : (d rest : List ℕ) → length d ≤ most_bytes → told_length (frame d ++ rest) ≡ length d
told_again d rest short =
    ap (λ (x : List ℕ). told_length x) (append_assoc (big_bytes 2 (length d)) d rest)
    ∙ big_number-reads_back 2 (length d) (d ++ rest) (omega (arith, short))

length_frame : (d : List ℕ) → length (frame d) ≡ 2 + length d
length_frame d = omega arith

-- two frames with which the same bytes begin are one
one_frame : (d e xs ys : List ℕ) → length d ≤ most_bytes → length e ≤ most_bytes → frame d ++ xs ≡ frame e ++ ys → (d ≡ e) × (xs ≡ ys)
one_frame d e xs ys short_d short_e same =
    let sizes : length d ≡ length e =
    sym (told_again d xs short_d) ∙ ap (λ (x : List ℕ). told_length x) same ∙ told_again e ys short_e in
    let head : big_bytes 2 (length d) ≡ big_bytes 2 (length e) = ap (big_bytes 2) sizes in
    let moved : big_bytes 2 (length e) ++ (d ++ xs) ≡ big_bytes 2 (length e) ++ (e ++ ys) =
    ap (λ (x : List ℕ). x ++ (d ++ xs)) (sym head) ∙ sym (append_assoc (big_bytes 2 (length d)) d xs) ∙ same
    ∙ append_assoc (big_bytes 2 (length e)) e ys in
    let rests : d ++ xs ≡ e ++ ys = append_cancel_left (big_bytes 2 (length e)) (d ++ xs) (e ++ ys) moved in
    let first : d ≡ e =
    sym (take-append_seam d xs) ∙ ap (λ (n : ℕ). take n (d ++ xs)) sizes ∙ ap (take (length e)) rests ∙ take-append_seam e ys in
    let second : xs ≡ ys =
    sym (drop-append_seam d xs) ∙ ap (λ (n : ℕ). drop n (d ++ xs)) sizes ∙ ap (drop (length e)) rests ∙ drop-append_seam e ys in
    (first, second)

-- frames in front of bytes that are frames: what follows is the frames of the other datagrams
others : (ds s : List (List ℕ)) (rest : List ℕ) → AreShort ds → AreShort s → frames s ≡ frames ds ++ rest
    → (t : List (List ℕ)) × (rest ≡ frames t) × AreShort t
others [] s rest short_ds short_s whole = (s, sym whole, short_s)
others (d ∷ ds) [] rest short_ds short_s whole =
    let size = ap length whole in
    absurd (omega (arith, size, length-append (frame d ++ frames ds) rest, length-append (frame d) (frames ds), length_frame d))
others (d ∷ ds) (e ∷ s) rest short_ds short_s whole =
    let w = one_frame e d (frames s) (frames ds ++ rest) (short_s 0) (short_ds 0) (whole ∙ append_assoc (frame d) (frames ds) rest) in
    others ds s rest (λ i. short_ds (suc i)) (λ i. short_s (suc i)) w.1

pub only : (x : List ℕ) (s t : List (List ℕ)) → IsFramed s x → IsFramed t x → s ≡ t
only x s t is of = by s t is.each of.each (sym is.whole ∙ of.whole)
  where
    by : (s t : List (List ℕ)) → AreShort s → AreShort t → frames s ≡ frames t → s ≡ t
    by [] [] a b e = refl
    by [] (d ∷ t) a b e = let size = ap length e in absurd (omega (arith, size, length-append (frame d) (frames t), length_frame d))
    by (d ∷ s) [] a b e = let size = ap length e in absurd (omega (arith, size, length-append (frame d) (frames s), length_frame d))
    by (d ∷ s) (e ∷ t) a b same =
        let w = one_frame d e (frames s) (frames t) (a 0) (b 0) same in
        ap (λ (y : List ℕ). y ∷ s) w.0 ∙ ap (λ (ys : List (List ℕ)). e ∷ ys) (by s t (λ i. a (suc i)) (λ i. b (suc i)) w.1)

-- frames are no bytes in front of which none stands
framed : (fault : FrameFault) (t : List (List ℕ)) → AreShort t → IsNoFrame fault (frames t) → ⊥
framed CutLength [] short h = omega (arith, h)
framed TooLong [] short h = omega (arith, h.0)
framed CutDatagram [] short h = omega (arith, h.0)
framed CutLength (d ∷ t) short h = omega (arith, h, length-append (frame d) (frames t), length_frame d)
framed TooLong (d ∷ t) short h = let s : length d ≤ most_bytes = short 0 in let e = told_again d (frames t) s in omega (arith, h.1, e, s)
framed CutDatagram (d ∷ t) short h =
    let s : length d ≤ most_bytes = short 0 in
    let e = told_again d (frames t) s in omega (arith, h.2, e, length-append (frame d) (frames t), length_frame d)
framed _ t short h = h

pub whole : (x : List ℕ) (s : List (List ℕ)) (fault : FrameFault) → IsFramed s x → ¬ StopsAt fault x
whole x s fault is stops =
    let w = others stops.datagrams s stops.rest stops.framed.each is.each (sym is.whole ∙ stops.whole ∙ ap (λ (y : List ℕ). y ++ stops.rest) stops.framed.whole) in
    framed fault w.0 w.2 (subst (λ (y : List ℕ). IsNoFrame fault y) w.1 stops.stops)
