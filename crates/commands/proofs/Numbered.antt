-- Numbered lines, and readings, one more.
use Rattle.std.proofs.Common.{◌≡◌, ◌≢◌, ◌<◌, ◌∙◌, ◌+◌, ℕ, suc, List, [], ◌∷◌, ◌++◌, length, length-take, take, get_or, Ok, Err, refl, sym, ap, arith, append_assoc}
use Rattle.std.proofs.lemmas.List.{append-nil, take_more}
use Rattle.alc.specs.Reading.{Reading, Reads}
use Rattle.reception.specs.Reception.{ReadAll}
use Rattle.commands.specs.Lines.{line_of, numbered}
use Rattle.commands.specs.Commands.{shown_status}

pub numbered_more : {X : Type 0} (text : ℕ → X → List ℕ) (place : ℕ) (xs : List X) (x : X)
    → numbered text place (xs ++ x ∷ []) ≡ numbered text place xs ++ line_of (text (place + length xs) x)
numbered_more text place [] x =
    let at : place + 0 ≡ place = omega arith in
    append-nil (line_of (text place x)) ∙ ap (λ (n : ℕ). line_of (text n x)) (sym at)
numbered_more text place (y ∷ ys) x =
    let at : (place + 1) + length ys ≡ place + suc (length ys) = omega arith in
    ap (λ (t : List ℕ). line_of (text place y) ++ t) (numbered_more text (place + 1) ys x ∙ ap (λ (n : ℕ). numbered text (place + 1) ys ++ line_of (text n x)) at)
    ∙ sym (append_assoc (line_of (text place y)) (numbered text (place + 1) ys) (line_of (text (place + suc (length ys)) x)))

pub read_more : (ds : List (List ℕ)) (rs : List Reading) (d : List ℕ) (r : Reading) → ReadAll ds rs → Reads d r → ReadAll (ds ++ d ∷ []) (rs ++ r ∷ [])
read_more [] [] d r all one = (one, tt)
read_more [] (x ∷ rs) d r all one = absurd all
read_more (y ∷ ds) [] d r all one = absurd all
read_more (y ∷ ds) (x ∷ rs) d r all one = (all.0, read_more ds rs d r all.1 one)

pub read_length : (ds : List (List ℕ)) (rs : List Reading) → ReadAll ds rs → length rs ≡ length ds
read_length [] [] all = refl
read_length [] (x ∷ rs) all = absurd all
read_length (y ∷ ds) [] all = absurd all
read_length (y ∷ ds) (x ∷ rs) all = ap suc (read_length ds rs all.1)

pub numbered_take : {X : Type 0} (text : ℕ → X → List ℕ) (xs : List X) (n : ℕ) (d : X) → n < length xs
    → numbered text 0 (take (n + 1) xs) ≡ numbered text 0 (take n xs) ++ line_of (text n (get_or xs n d))
numbered_take text xs n d l =
    let many : 0 + length (take n xs) ≡ n = omega (arith, length-take n xs, l) in
    ap (numbered text 0) (take_more xs n d l) ∙ numbered_more text 0 (take n xs) (get_or xs n d)
    ∙ ap (λ (k : ℕ). numbered text 0 (take n xs) ++ line_of (text k (get_or xs n d))) many

-- 1 once a reading is no packet
abbrev pub worse : ℕ → Reading → ℕ
worse status (Ok p) = status
worse status (Err e) = 1

pub status_more : (rs : List Reading) (r : Reading) → shown_status (rs ++ r ∷ []) ≡ worse (shown_status rs) r
status_more [] (Ok p) = refl
status_more [] (Err e) = refl
status_more (Ok p ∷ rs) r = status_more rs r
status_more (Err e ∷ rs) (Ok p) = refl
status_more (Err e ∷ rs) (Err f) = refl

-- the status with one reading more, by the one reading's
pub status_bad : (rs : List Reading) (r : Reading) (one : ℕ) → one ≡ shown_status (r ∷ []) → one ≡ 1 → 1 ≡ shown_status (rs ++ r ∷ [])
status_bad rs (Ok p) one is bad = absurd (omega (arith, is, bad))
status_bad rs (Err e) one is bad = sym (status_more rs (Err e))

pub status_same : (rs : List Reading) (r : Reading) (status one : ℕ) → status ≡ shown_status rs → one ≡ shown_status (r ∷ []) → one ≢ 1 → status ≡ shown_status (rs ++ r ∷ [])
status_same rs (Ok p) status one before is good = before ∙ sym (status_more rs (Ok p))
status_same rs (Err e) status one before is good = absurd (good is)
