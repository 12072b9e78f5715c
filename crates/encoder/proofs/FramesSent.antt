-- Frames of sent datagrams at their places: a run of them is written, and in the end all were sent.
use Rattle.std.proofs.Common.{◌≡◌, ℕ, zero, suc, ◌+◌, ◌-◌, ◌<◌, ◌≤◌, ◌⊎◌, List, [], ◌∷◌, ◌++◌, Option, Some, None, Result, Ok, Err, length, map, get_or, take, refl, ap, sym, subst, ◌∙◌, inl, inr, arith, length-append, length-take, length-take-le}
use Rattle.std.specs.Prelude.{flat_map, is_some, IfSome, OnOk, replicate}
use Rattle.std.specs.Io.KnownBytes.{Appends}
use Rattle.std.proofs.lemmas.Bool.{cases_lt, cases_eq}
use Rattle.std.proofs.lemmas.List.{append-nil, take_all, take_more, length-map, length-replicate}
use Rattle.std.proofs.lemmas.Grind.{flat_map-append}
use Rattle.std.proofs.lemmas.List.Folds.{flat_map-map}
use Rattle.lists.specs.Below.{below}
use Rattle.partition.specs.Fti.{Fti, IsValidFti, block_count, encoding_count}
use Rattle.partition.proofs.Laws.{encoding_most}
use Rattle.partition.specs.declared.order.Order.TheVariants.{Rounds}
use Rattle.alc.specs.Written.{header_size}
use Rattle.alc.proofs.Writes.{length-written}
use Rattle.byteorder.specs.Endian.{big_bytes}
use Rattle.session.specs.Frames.{frame, frames}
use Rattle.streams.specs.Offsets.{overwritten, Overwrites, Resizes, HasRoomAt}
use Rattle.streams.proofs.AtOffsets.{length-overwritten}
use Rattle.encoder.specs.Sending.{Item, IsSent, AreSent, Sends, items_from, items, pairs, pair_with, pairs_of_round, fti_at, frame_bytes}
use Rattle.encoder.specs.RoundPlaces.{place_of, offset_of, run_of_round, Progress, progress, IsWritten, IsFrameOf, HasFrames, IsAsLong}
use Rattle.encoder.specs.SentInRounds.{emptied}
use Rattle.encoder.proofs.Sent.{nothing_sent, one_sent, behind_sends, flat_next, with_pair, without_pair}
use Rattle.encoder.proofs.RoundPlaces.{place_here, place_none, place_rising, round_start, round_end, round_before, last_place, place_within, place_inside, run_place, run_at}
use Rattle.encoder.proofs.Replaced.{replaced, joined, HaveSizes, length_replaced, before, within, behind, sizes_replaced, joined_replaced, pieces_of}

gains : (old new : Option (List ℕ)) (pieces ds : List (List ℕ)) → is_some new ≡ is_some old → IfSome new (λ xs. xs ≡ joined pieces) → joined pieces ≡ frames ds → Appends (emptied old) new (frames ds)
gains None new pieces ds told is whole = tt
gains (Some xs) None pieces ds told is whole = absurd (cc)
gains (Some xs) (Some ys) pieces ds told is whole = is ∙ whole

-- a length before a datagram makes its frame
pub framed_at : (head out datagram rest : List ℕ) (size : ℕ) → out ≡ datagram ++ rest → length datagram ≡ size → head ≡ big_bytes 2 size → take (2 + size) (head ++ out) ≡ frame (take size out)
framed_at head out datagram rest size is long told =
    let within_out : size ≤ length out = omega (arith, ap length is, length-append datagram rest, long) in
    let same : length (take size out) ≡ size = length-take-le size out within_out in
    let two : 2 + size ≡ suc (suc size) = omega arith in
    ap (λ (l : List ℕ). take (2 + size) (l ++ out)) told
    ∙ ap (λ (n : ℕ). take n (big_bytes 2 size ++ out)) two
    ∙ ap (λ (n : ℕ). big_bytes 2 n ++ take size out) (sym same)

-- what is written has room for a part of the session, and stays as long
pub has_room : (f : Fti) (every from count : ℕ) (contents : Option (List ℕ)) → from + count ≤ offset_of f every (length (pairs Rounds f)) → IsAsLong f every contents → HasRoomAt contents from count
has_room f every from count None le is = tt
has_room f every from count (Some xs) le is = omega (arith, le, is)

pub as_long : (f : Fti) (every from : ℕ) (bytes : List ℕ) (old new : Option (List ℕ)) → HasRoomAt old from (length bytes) → Overwrites old new from bytes → IsAsLong f every old → IsAsLong f every new
as_long f every from bytes None new room put is = rw put tt
as_long f every from bytes (Some xs) new room put is = rw put (length-overwritten xs from bytes room ∙ is)

pub resized_told : (n : ℕ) (old new : Option (List ℕ)) → Resizes old new n → is_some new ≡ is_some old
resized_told n None new put = rw put refl
resized_told n (Some xs) new put = rw put refl

pub resized_long : (f : Fti) (every n : ℕ) (old new : Option (List ℕ)) → Resizes old new n → n ≡ offset_of f every (length (pairs Rounds f)) → IsAsLong f every new
resized_long f every n None new put is = rw put tt
resized_long f every n (Some xs) new put is =
    let long : length (take n xs ++ replicate (n - length xs) 0) ≡ n =
    omega (arith, length-append (take n xs) (replicate (n - length xs) 0), length-take n xs, length-replicate {A = ℕ} (n - length xs) 0) in
    rw put (long ∙ is)

-- from what holds where a call succeeded
pub then_ok : {T E : Type 0} (r : Result T E) (A B : Type 0) → (A → B) → OnOk r A → OnOk r B
then_ok (Ok x) A B more h = more h
then_ok (Err e) A B more h = tt

module _ (object : List ℕ) (f : Fti) (t u every : ℕ) where
  -- a frame is as long as its place says
  frame_size : (x : Item) (d : List ℕ) → IsSent object f t u every x d → length (frame d) ≡ frame_bytes f every x.place
  frame_size x d sent =
      let long : length d ≡ header_size (fti_at f every x.place) + length sent.symbol =
      ap length sent.spelling ∙ length-written t u (fti_at f every x.place) x.block x.esi sent.symbol in
      let whole : length (frame d) ≡ 2 + length d = omega arith in
      omega (arith, whole, long, sent.agrees.count)

  -- datagrams one by one
  as_many : (p : ℕ) (ps : List (ℕ × ℕ)) (ds : List (List ℕ)) → AreSent object f t u every (items_from p ps) ds → length ds ≡ length ps
  as_many p [] [] h = refl
  as_many p [] (d ∷ ds) h = absurd h
  as_many p (x ∷ ps) [] h = absurd h
  as_many p (x ∷ ps) (d ∷ ds) h = ap suc (as_many (p + 1) ps ds h.1)

  abbrev item_at : ℕ → ℕ × ℕ → Item
  item_at p x = record { place = p; block = x.0; esi = x.1 }

  each_sent : (p : ℕ) (ps : List (ℕ × ℕ)) (ds : List (List ℕ)) → AreSent object f t u every (items_from p ps) ds → (i : ℕ) → i < length ds
      → IsSent object f t u every (item_at (p + i) (get_or ps i (0, 0))) (get_or ds i [])
  each_sent p [] [] h i lt = absurd (omega arith)
  each_sent p [] (d ∷ ds) h i lt = absurd h
  each_sent p (x ∷ ps) [] h i lt = absurd h
  each_sent p (x ∷ ps) (d ∷ ds) h zero lt =
      let e : p ≡ p + 0 = omega arith in
      subst (λ (q : ℕ). IsSent object f t u every (item_at q x) d) e h.0
  each_sent p (x ∷ ps) (d ∷ ds) h (suc i) lt =
      let e : p + 1 + i ≡ p + suc i = omega arith in
      subst (λ (q : ℕ). IsSent object f t u every (item_at q (get_or ps i (0, 0))) (get_or ds i [])) e (each_sent (p + 1) ps ds h.1 i (omega arith))

  -- their frames, as pieces
  get_frame : (ds : List (List ℕ)) (i : ℕ) → i < length ds → get_or (map frame ds) i [] ≡ frame (get_or ds i [])
  get_frame [] i lt = absurd (omega arith)
  get_frame (d ∷ ds) zero lt = refl
  get_frame (d ∷ ds) (suc i) lt = get_frame ds i (omega arith)

  frame_sizes : (p : ℕ) (ps : List (ℕ × ℕ)) (ds : List (List ℕ)) → AreSent object f t u every (items_from p ps) ds → (i : ℕ) → i < length (map frame ds)
      → length (get_or (map frame ds) i []) ≡ frame_bytes f every (p + i)
  frame_sizes p ps ds h i lt =
      let inside : i < length ds = omega (arith, lt, length-map ds frame) in
      ap length (get_frame ds i inside) ∙ frame_size (item_at (p + i) (get_or ps i (0, 0))) (get_or ds i []) (each_sent p ps ds h i inside)

  joined_frames : (ds : List (List ℕ)) → joined (map frame ds) ≡ frames ds
  joined_frames ds = flat_map-map (λ (x : List ℕ). x) frame ds

  -- ---- a run is written

  module _ (valid : IsValidFti f) (j first count : ℕ) (few : j < f.max_symbols) (inside : first + count ≤ block_count f) (bytes : List ℕ)
      (run : Sends (AreSent object f t u every) (items_from (place_of f j first) (run_of_round f j first count)) (Some []) (Some bytes)) where
    abbrev p : ℕ
    p = place_of f j first

    abbrev own : List (List ℕ)
    own = map frame run.datagrams

    own_many : length own ≡ length (run_of_round f j first count)
    own_many = length-map run.datagrams frame ∙ as_many p (run_of_round f j first count) run.datagrams run.sent

    own_end : p + length own ≡ place_of f j (first + count)
    own_end = omega (arith, own_many, run_place f j first count)

    own_bytes : joined own ≡ bytes
    own_bytes = joined_frames run.datagrams ∙ sym run.gained

    module _ (pieces : List (List ℕ)) (many : length pieces ≡ length (pairs Rounds f)) (sizes : HaveSizes f every pieces) where
      fits : p + length own ≤ length pieces
      fits = omega (arith, own_end, many, place_within f valid j (first + count) few inside)

      -- the frame of one of the run
      here : (i : ℕ) → i < count → j < encoding_count f (first + i)
          → IsFrameOf object f t u every (item_at (place_of f j (first + i)) (first + i, j)) (get_or (replaced pieces p own) (place_of f j (first + i)) [])
      here i lt has =
          let n : ℕ = length (run_of_round f j first i) in
          let at : p + n ≡ place_of f j (first + i) = run_place f j first i in
          let next : place_of f j (first + i + 1) ≤ place_of f j (first + count) = place_rising f j (first + i + 1) (first + count) (omega arith) in
          let within_run : n < length own = omega (arith, at, next, place_here f j (first + i) has, own_end) in
          let within_sent : n < length run.datagrams = omega (arith, within_run, length-map run.datagrams frame) in
          let which = run_at f j first count i lt has in
          let sent = each_sent p (run_of_round f j first count) run.datagrams run.sent n within_sent in
          let sent_here : IsSent object f t u every (item_at (p + n) (first + i, j)) (get_or run.datagrams n []) =
          subst (λ (x : ℕ × ℕ). IsSent object f t u every (item_at (p + n) x) (get_or run.datagrams n [])) which sent in
          subst (λ (q : ℕ). IsFrameOf object f t u every (item_at q (first + i, j)) (get_or (replaced pieces p own) q [])) at (record {
            datagram = get_or run.datagrams n [];
            sent = sent_here;
            framed = within pieces p own fits n [] within_run ∙ get_frame run.datagrams n within_sent;
          })

      -- the others stay
      stays : (l b : ℕ) → (place_of f l b < p) ⊎ (place_of f j (first + count) ≤ place_of f l b)
          → get_or (replaced pieces p own) (place_of f l b) [] ≡ get_or pieces (place_of f l b) []
      stays l b (inl lt) = before pieces p own fits (place_of f l b) [] lt
      stays l b (inr ge) = behind pieces p own fits (place_of f l b) [] (omega (arith, ge, own_end))

      joined_then : (old new : Option (List ℕ)) → Overwrites old new (offset_of f every p) bytes → IfSome old (λ xs. xs ≡ joined pieces) → IfSome new (λ xs. xs ≡ joined (replaced pieces p own))
      joined_then None new put is = rw put tt
      joined_then (Some xs) new put is =
          let whole : overwritten xs (offset_of f every p) bytes ≡ joined (replaced pieces p own) =
          ap (λ (l : List ℕ). overwritten l (offset_of f every p) bytes) is
          ∙ ap (λ (l : List ℕ). overwritten (joined pieces) (offset_of f every p) l) (sym own_bytes)
          ∙ joined_replaced f every pieces p own fits sizes (frame_sizes p (run_of_round f j first count) run.datagrams run.sent) in
          rw put whole

      abbrev IsHere : ℕ → ℕ → List (List ℕ) → Type 0
      IsHere l b ps = IsFrameOf object f t u every (item_at (place_of f l b) (b, l)) (get_or ps (place_of f l b) [])

      kept : (l b : ℕ) → (place_of f l b < p) ⊎ (place_of f j (first + count) ≤ place_of f l b) → IsHere l b pieces → IsHere l b (replaced pieces p own)
      kept l b apart h = subst (λ (x : List ℕ). IsFrameOf object f t u every (item_at (place_of f l b) (b, l)) x) (sym (stays l b apart)) h

      abbrev AreHere : ℕ → List (List ℕ) → Type 0
      AreHere rounds ps = (l b : ℕ) → b < block_count f → l < encoding_count f b → IsWritten (progress first count rounds) l b → IsHere l b ps

      -- those of the blocks before
      front_then : AreHere j pieces → (l b : ℕ) → b < block_count f → l < encoding_count f b → b < first → IsHere l b (replaced pieces p own)
      front_then done l b hb hl lt = elim (cases_lt l j) [
        | inl earlier ↦ kept l b (inl (omega (arith, place_here f l b hl, round_before f l j (b + 1) first earlier (omega arith)))) (done l b hb hl (inl lt))
        | inr ge ↦ elim (cases_eq l j) [
          | inl e ↦
              (let has : j < encoding_count f b = omega (arith, e, hl) in
              let same = ap (λ (k : ℕ). place_of f k b) e in
              kept l b (inl (omega (arith, same, place_here f j b has, place_rising f j (b + 1) first (omega (arith, lt))))) (done l b hb hl (inl lt)))
          | inr ne ↦ kept l b (inr (round_before f j l (first + count) b (omega (arith, ge, ne)) inside)) (done l b hb hl (inl lt))
        ]
      ]

      -- those of the group
      group_then : AreHere j pieces → (l b : ℕ) → b < block_count f → l < encoding_count f b → first ≤ b → b < first + count → l < j + 1 → IsHere l b (replaced pieces p own)
      group_then done l b hb hl from_first lt round = elim (cases_lt l j) [
        | inl earlier ↦ kept l b (inl (omega (arith, place_here f l b hl, round_before f l j (b + 1) first earlier (omega arith)))) (done l b hb hl (inr (lt, earlier)))
        | inr ge ↦
            (let e : j ≡ l = omega (arith, ge, round) in
            let back : first + (b - first) ≡ b = omega (arith, from_first) in
            let has : j < encoding_count f (first + (b - first)) = omega (arith, ap (encoding_count f) back, e, hl) in
            let one = here (b - first) (omega (arith, lt, from_first)) has in
            subst (λ (k : ℕ). IsHere k b (replaced pieces p own)) e (subst (λ (d : ℕ). IsHere j d (replaced pieces p own)) back one))
      ]

      frames_then : AreHere j pieces → AreHere (j + 1) (replaced pieces p own)
      frames_then done l b hb hl w = elim w [
        | inl lt ↦ front_then done l b hb hl lt
        | inr more ↦ elim (cases_lt b first) [
          | inl lt ↦ front_then done l b hb hl lt
          | inr ge ↦ group_then done l b hb hl ge more.0 more.1
        ]
      ]

    pub run_written : (old new : Option (List ℕ)) → Overwrites old new (offset_of f every p) bytes → HasFrames object f t u every (progress first count j) old
        → HasFrames object f t u every (progress first count (j + 1)) new
    run_written old new put h = record {
      pieces = replaced h.pieces p own;
      count = length_replaced h.pieces p own (fits h.pieces h.count h.sizes) ∙ h.count;
      sizes = sizes_replaced f every h.pieces p own (fits h.pieces h.count h.sizes) h.sizes (frame_sizes p (run_of_round f j first count) run.datagrams run.sent);
      joined = joined_then h.pieces h.count h.sizes old new put h.joined;
      frames = frames_then h.pieces h.count h.sizes h.frames;
    }

  -- what is written, put in other words
  pub as_written : (a b : Progress) (contents : Option (List ℕ)) → ((j d : ℕ) → d < block_count f → j < encoding_count f d → IsWritten b j d → IsWritten a j d)
      → HasFrames object f t u every a contents → HasFrames object f t u every b contents
  as_written a b contents less h = record {
    pieces = h.pieces;
    count = h.count;
    sizes = h.sizes;
    joined = h.joined;
    frames = λ j d hd hj w. h.frames j d hd hj (less j d hd hj w);
  }

  -- no round of a group yet, and all rounds of it
  pub group_begins : (first count : ℕ) (contents : Option (List ℕ)) → HasFrames object f t u every (progress first 0 0) contents → HasFrames object f t u every (progress first count 0) contents
  group_begins first count contents h = as_written (progress first 0 0) (progress first count 0) contents (λ j d hd hj w. elim w [
    | inl lt ↦ inl lt
    | inr more ↦ absurd (let l : j < 0 = more.1 in omega (arith, l))
  ]) h

  pub group_ends : IsValidFti f → (first count : ℕ) (contents : Option (List ℕ)) → HasFrames object f t u every (progress first count f.max_symbols) contents
      → HasFrames object f t u every (progress (first + count) 0 0) contents
  group_ends valid first count contents h = as_written (progress first count f.max_symbols) (progress (first + count) 0 0) contents (λ j d hd hj w. elim w [
    | inl lt ↦ inr (lt, omega (arith, hj, encoding_most f valid d))
    | inr more ↦ absurd (let l : j < 0 = more.1 in omega (arith, l))
  ]) h

  -- nothing is written yet
  pub none_written : (contents : Option (List ℕ)) → IsAsLong f every contents → HasFrames object f t u every (progress 0 0 0) contents
  none_written None is =
      let zeros : List ℕ = replicate (offset_of f every (length (pairs Rounds f))) 0 in
      let r = pieces_of f every (length (pairs Rounds f)) zeros (length-replicate (offset_of f every (length (pairs Rounds f))) 0) in
      record { pieces = r.0; count = r.1; sizes = r.2; joined = tt; frames = λ j d hd hj w. absurd (elim w [ inl lt ↦ (let l : d < 0 = lt in omega (arith, l)) | inr more ↦ (let l : j < 0 = more.1 in omega (arith, l)) ]) }
  none_written (Some xs) is =
      let r = pieces_of f every (length (pairs Rounds f)) xs is in
      record { pieces = r.0; count = r.1; sizes = r.2; joined = r.3; frames = λ j d hd hj w. absurd (elim w [ inl lt ↦ (let l : d < 0 = lt in omega (arith, l)) | inr more ↦ (let l : j < 0 = more.1 in omega (arith, l)) ]) }

  -- ---- all is written

  module _ (contents : Option (List ℕ)) (h : HasFrames object f t u every (progress (block_count f) 0 0) contents) where
    abbrev upto : ℕ → Option (List ℕ)
    upto n = Some (joined (take n h.pieces))

    step : IsValidFti f → (j b : ℕ) → b < block_count f → Sends (AreSent object f t u every) (items_from (place_of f j b) (pair_with f j b)) (upto (place_of f j b)) (upto (place_of f j (b + 1)))
    step valid j b hb = elim (cases_lt j (encoding_count f b)) [
      | inl has ↦
          (let n : ℕ = place_of f j b in
          let is = h.frames j b hb has (inl hb) in
          let lt : n < length h.pieces = omega (arith, h.count, place_inside f valid j b hb has) in
          let piece : List ℕ = get_or h.pieces n [] in
          let more : joined (take (n + 1) h.pieces) ≡ joined (take n h.pieces) ++ frame is.datagram =
          ap joined (take_more h.pieces n [] lt) ∙ flat_map-append (λ (x : List ℕ). x) (take n h.pieces) (piece ∷ [])
          ∙ ap (λ (l : List ℕ). joined (take n h.pieces) ++ l) (append-nil piece ∙ is.framed) in
          let sent = one_sent object f t u every (item_at n (b, j)) is.datagram (upto n) (upto (n + 1)) is.sent more in
          subst (λ (m : ℕ). Sends (AreSent object f t u every) (items_from n (pair_with f j b)) (upto n) (upto m)) (sym (place_here f j b has))
          (subst (λ (ps : List (ℕ × ℕ)). Sends (AreSent object f t u every) (items_from n ps) (upto n) (upto (n + 1))) (sym (with_pair f j b has)) sent))
      | inr none ↦
          (let n : ℕ = place_of f j b in
          subst (λ (m : ℕ). Sends (AreSent object f t u every) (items_from n (pair_with f j b)) (upto n) (upto m)) (sym (place_none f j b none))
          (subst (λ (ps : List (ℕ × ℕ)). Sends (AreSent object f t u every) (items_from n ps) (upto n) (upto n)) (sym (without_pair f j b none)) (nothing_sent object f t u every (upto n))))
    ]

    round_sent : IsValidFti f → (j b : ℕ) → b ≤ block_count f
        → Sends (AreSent object f t u every) (items_from (place_of f j 0) (flat_map (pair_with f j) (below b))) (upto (place_of f j 0)) (upto (place_of f j b))
    unfolding below
    round_sent valid j zero le = nothing_sent object f t u every (upto (place_of f j 0))
    round_sent valid j (suc b) le =
        let e : b + 1 ≡ suc b = omega arith in
        let at : place_of f j b ≡ place_of f j 0 + length (flat_map (pair_with f j) (below b)) = omega (arith, round_start f j) in
        let g : Sends (AreSent object f t u every) (items_from (place_of f j 0) (flat_map (pair_with f j) (below (b + 1)))) (upto (place_of f j 0)) (upto (place_of f j (b + 1))) =
        behind_sends object f t u every (place_of f j 0) (place_of f j b) (flat_map (pair_with f j) (below b)) (pair_with f j b) at _ _ _ _ (flat_next (pair_with f j) b)
        (round_sent valid j b (omega arith)) (step valid j b (omega arith)) in
        rw e at g

    rounds_sent : IsValidFti f → (j : ℕ) → Sends (AreSent object f t u every) (items_from 0 (flat_map (pairs_of_round f) (below j))) (upto 0) (upto (place_of f j 0))
    unfolding below
    rounds_sent valid zero = nothing_sent object f t u every (upto 0)
    rounds_sent valid (suc j) =
        let e : j + 1 ≡ suc j = omega arith in
        let at : place_of f j 0 ≡ 0 + length (flat_map (pairs_of_round f) (below j)) = omega (arith, round_start f j) in
        let last = subst (λ (m : ℕ). Sends (AreSent object f t u every) (items_from (place_of f j 0) (pairs_of_round f j)) (upto (place_of f j 0)) (upto m)) (round_end f j) (round_sent valid j (block_count f) (omega arith)) in
        let g : Sends (AreSent object f t u every) (items_from 0 (flat_map (pairs_of_round f) (below (j + 1)))) (upto 0) (upto (place_of f (j + 1) 0)) =
        behind_sends object f t u every 0 (place_of f j 0) (flat_map (pairs_of_round f) (below j)) (pairs_of_round f j) at _ _ _ _ (flat_next (pairs_of_round f) j)
        (rounds_sent valid j) last in
        rw e at g

    pub all_sent : IsValidFti f → (old : Option (List ℕ)) → is_some contents ≡ is_some old → Sends (AreSent object f t u every) (items Rounds f) (emptied old) contents
    all_sent valid old told =
        let r = rounds_sent valid f.max_symbols in
        let whole : joined h.pieces ≡ frames r.datagrams =
        ap joined (sym (take_all (place_of f f.max_symbols 0) h.pieces (omega (arith, h.count, last_place f)))) ∙ r.gained in
        record { datagrams = r.datagrams; sent = r.sent; gained = gains old contents h.pieces r.datagrams told h.joined whole }
