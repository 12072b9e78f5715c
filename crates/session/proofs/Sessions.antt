-- Frames of a growing list of datagrams.
use Rattle.std.proofs.Common.{◌≡◌, ℕ, zero, suc, ◌<◌, ◌≤◌, ◌+◌, length-append, List, [], ◌∷◌, ◌++◌, Option, drop, take, length, sym, ap, ◌∙◌, arith, get_or}
use Rattle.std.proofs.lemmas.Grind.{flat_map-append}
use Rattle.std.proofs.lemmas.List.{append-nil, take-append-drop, take_more}
use Rattle.std.proofs.Math.Seq.{drop-cons}
use Rattle.std.specs.Io.KnownBytes.{Appends}
use Rattle.streams.proofs.Writes.{then_some, front_some}
use Rattle.streams.specs.Pieces.{AppendsSome}
use Rattle.session.specs.Frames.{frame, frames, most_bytes, AreShort, IsDatagram, AreDatagrams}

-- one datagram more
pub datagrams_push : (ds : List (List ℕ)) (d : List ℕ) → AreDatagrams ds → IsDatagram d → AreDatagrams (ds ++ d ∷ [])
datagrams_push [] d h l zero = l
datagrams_push [] d h l (suc i) = record { short = omega arith; bytes = λ j. omega arith }
datagrams_push (x ∷ xs) d h l zero = h 0
datagrams_push (x ∷ xs) d h l (suc i) = datagrams_push xs d (λ j. h (suc j)) l i

pub short_push : (ds : List (List ℕ)) (d : List ℕ) → AreShort ds → length d ≤ most_bytes → AreShort (ds ++ d ∷ [])
short_push [] d h l zero = l
short_push [] d h l (suc i) = omega arith
short_push (x ∷ xs) d h l zero = h 0
short_push (x ∷ xs) d h l (suc i) = short_push xs d (λ j. h (suc j)) l i

pub frames_push : (ds : List (List ℕ)) (d : List ℕ) → frames (ds ++ d ∷ []) ≡ frames ds ++ frame d
frames_push ds d = flat_map-append frame ds (d ∷ []) ∙ ap (λ (l : List ℕ). frames ds ++ l) (append-nil (frame d))

-- the frames of a list, split at a member
frames_split : (ds : List (List ℕ)) (i : ℕ) (d : List ℕ) → i < length ds → d ≡ get_or ds i [] → frames ds ≡ frames (take i ds) ++ (frame d ++ frames (drop (suc i) ds))
frames_split ds i d l is =
    let back : drop i ds ≡ d ∷ drop (suc i) ds = drop-cons ds i [] l ∙ ap (λ y. y ∷ drop (suc i) ds) (sym is) in
    let whole : ds ≡ take i ds ++ (d ∷ drop (suc i) ds) = sym (take-append-drop i ds) ∙ ap (λ ys. take i ds ++ ys) back in
    ap frames whole ∙ flat_map-append frame (take i ds) (d ∷ drop (suc i) ds)

-- a beginning of a frame behind the frames before it
pub some_behind : (a b c : Option (List ℕ)) (ds : List (List ℕ)) (i : ℕ) (d : List ℕ) → i < length ds → d ≡ get_or ds i []
    → Appends a b (frames (take i ds)) → AppendsSome b c (frame d) → AppendsSome a c (frames ds)
some_behind a b c ds i d l is p q =
    rw (frames_split ds i d l is) (then_some a b c (frames (take i ds)) _ p (front_some b c (frame d) (frames (drop (suc i) ds)) q))

-- how many bytes the frames have up to a member, and with it
pub front_size : (ds : List (List ℕ)) (i : ℕ) (d : List ℕ) → i < length ds → d ≡ get_or ds i [] → length (frames (take i ds)) + length (frame d) ≤ length (frames ds)
front_size ds i d l is =
    let before : List ℕ = frames (take i ds) in
    let behind : List ℕ = frames (drop (suc i) ds) in
    let whole : length (frames ds) ≡ length (before ++ (frame d ++ behind)) = ap length (frames_split ds i d l is) in
    let outer : length (before ++ (frame d ++ behind)) ≡ length before + length (frame d ++ behind) = length-append before (frame d ++ behind) in
    let inner : length (frame d ++ behind) ≡ length (frame d) + length behind = length-append (frame d) behind in
    omega (arith, whole, outer, inner)

-- the frames before a member, and its own
pub frames_more : (ds : List (List ℕ)) (i : ℕ) (d : List ℕ) → i < length ds → d ≡ get_or ds i [] → frames (take (i + 1) ds) ≡ frames (take i ds) ++ frame d
frames_more ds i d l is = ap frames (take_more ds i [] l ∙ ap (λ (y : List ℕ). take i ds ++ y ∷ []) (sym is)) ∙ frames_push (take i ds) d
