-- A pass over the frames of a file whose bytes are told.
use Rattle.std.proofs.Common.{◌≡◌, ℕ, suc, ◌<◌, ◌≤◌, ◌+◌, List, [], ◌∷◌, ◌++◌, Option, Some, None, length, get_or, take, drop, length-append, append_assoc, refl, sym, ap, subst, ◌∙◌, inl, inr, arith}
use Rattle.std.specs.Prelude.{◌-◌}
use Rattle.std.proofs.lemmas.Bool.{cases_lt}
use Rattle.std.proofs.lemmas.Grind.{flat_map-append}
use Rattle.std.proofs.Math.Seq.{take-append_seam, drop-append-add}
use Rattle.std.proofs.lemmas.List.{append-nil, get_or_append_left, get_or-append_right}
use Rattle.std.specs.Io.KnownBytes.{Consumes, IsAtEnd}
use Rattle.lists.specs.Bytes.{AreBytes}
use Rattle.session.specs.Extents.{datagram_in, AreFrames}
use Rattle.session.specs.Frames.{frame, frames, most_bytes, AreShort, AreDatagrams, IsFramed}
use Rattle.session.specs.Joining.{IsWhole}
use Rattle.session.specs.declared.extent.Extent.{Extent}
use Rattle.session.proofs.OneFrame.{one_frame, length_frame, behind_length}
use Rattle.session.proofs.OneSession.{only}
use Rattle.session.proofs.Sessions.{frames_push, short_push, datagrams_push}
use Rattle.session.proofs.WholeFrames.{whole_end}

-- the frame behind those of some datagrams is that of the next one
pub next_at : (s ds : List (List ℕ)) (d rest : List ℕ) → AreShort s → AreShort ds → length d ≤ most_bytes → frames ds ≡ frames s ++ (frame d ++ rest)
    → (length s < length ds) × (d ≡ get_or ds (length s) [])
next_at [] [] d rest short_s short_ds short whole =
    let size = ap length whole in absurd (omega (arith, size, length-append (frame d) rest, length_frame d))
next_at [] (e ∷ ds) d rest short_s short_ds short whole =
    let w = one_frame e d (frames ds) rest (short_ds 0) short whole in
    (omega arith, sym w.0)
next_at (c ∷ s) [] d rest short_s short_ds short whole =
    let size = ap length whole in
    absurd (omega (arith, size, length-append (frame c ++ frames s) (frame d ++ rest), length-append (frame c) (frames s), length_frame c))
next_at (c ∷ s) (e ∷ ds) d rest short_s short_ds short whole =
    let w = one_frame e c (frames ds) (frames s ++ (frame d ++ rest)) (short_ds 0) (short_s 0) (whole ∙ append_assoc (frame c) (frames s) (frame d ++ rest)) in
    let h = next_at s ds d rest (λ i. short_s (suc i)) (λ i. short_ds (suc i)) short w.1 in
    (omega (arith, h.0), h.1)

-- ---- frames of datagrams of bytes

each_of : (xs ys : List (List ℕ)) → AreDatagrams xs → AreDatagrams ys → AreDatagrams (xs ++ ys)
each_of xs ys p q i = elim (cases_lt i (length xs)) [
  | inl lt ↦ rw (get_or_append_left xs ys [] i lt) (p i)
  | inr ge ↦ rw (get_or-append_right xs ys (length xs) i [] refl ge) (q (i - length xs))
]

pub frames_behind : (a b : Option (List ℕ)) (ds : List (List ℕ)) → Consumes a b (frames ds) → AreShort ds → AreDatagrams ds → AreFrames b → AreFrames a
frames_behind None b ds p short each whole = tt
frames_behind (Some a) None ds p short each whole = absurd p
frames_behind (Some a) (Some b) ds p short each whole = (
  ds ++ whole.0,
  record {
    whole = p ∙ ap (λ (l : List ℕ). frames ds ++ l) whole.1.whole ∙ sym (flat_map-append frame ds whole.0);
    each = λ i. (each_of ds whole.0 each whole.2 i).short;
  },
  each_of ds whole.0 each whole.2,
)

pub frames_end : (a b : Option (List ℕ)) (ds : List (List ℕ)) → Consumes a b (frames ds) → AreShort ds → AreDatagrams ds → IsAtEnd b → AreFrames a
frames_end None b ds p short each end = tt
frames_end (Some a) None ds p short each end = absurd p
frames_end (Some a) (Some b) ds p short each end =
    (ds, record { whole = p ∙ ap (λ (l : List ℕ). frames ds ++ l) end ∙ append-nil (frames ds); each = short }, each)

-- ---- how far a pass has come

-- these datagrams' frames were read
pub record Behind (content left : Option (List ℕ)) (offset place : ℕ) : Type 0 where
  pub read : List (List ℕ)
  pub bytes : Consumes content left (frames read)
  pub short : AreShort read
  pub each : AreDatagrams read
  pub size : length (frames read) ≡ offset
  pub count : length read ≡ place

no_datagram : AreDatagrams []
no_datagram i = record { short = omega arith; bytes = λ j. omega arith }

pub at_start : (content : Option (List ℕ)) → Behind content content 0 0
at_start None = record { read = []; bytes = tt; short = λ i. omega arith; each = no_datagram; size = refl; count = refl }
at_start (Some x) = record { read = []; bytes = refl; short = λ i. omega arith; each = no_datagram; size = refl; count = refl }

pub none_read : (content : Option (List ℕ)) → (at_start content).read ≡ []
unfolding at_start
none_read None = refl
none_read (Some x) = refl

consumed_both : (a b c : Option (List ℕ)) (xs ys : List ℕ) → Consumes a b xs → Consumes b c ys → Consumes a c (xs ++ ys)
consumed_both None b c xs ys p q = tt
consumed_both (Some a) None c xs ys p q = absurd p
consumed_both (Some a) (Some b) None xs ys p q = absurd q
consumed_both (Some a) (Some b) (Some c) xs ys p q = p ∙ ap (λ (l : List ℕ). xs ++ l) q ∙ sym (append_assoc xs ys c)

-- where what was left is told, so was what the frames behind it leave
all_told : (x : List ℕ) (left new : Option (List ℕ)) (xs ys : List ℕ) → Consumes (Some x) left xs → Consumes left new ys → (z : List ℕ) × (x ≡ xs ++ (ys ++ z))
all_told x None new xs ys p q = absurd p
all_told x (Some y) None xs ys p q = absurd q
all_told x (Some y) (Some z) xs ys p q = (z, p ∙ ap (λ (l : List ℕ). xs ++ l) q)

module _ (content left : Option (List ℕ)) (offset place : ℕ) (b : Behind content left offset place) where
  module _ (new : Option (List ℕ)) (d : List ℕ) (reads : Consumes left new (frame d)) (short : length d ≤ most_bytes) where
    -- one frame more
    pub read_more : AreBytes d → (next : ℕ) → next ≡ offset + 2 + length d → Behind content new next (place + 1)
    read_more bytes next is = record {
      read = b.read ++ d ∷ [];
      bytes = subst (λ (l : List ℕ). Consumes content new l) (sym (frames_push b.read d)) (consumed_both content left new (frames b.read) (frame d) b.bytes reads);
      short = short_push b.read d b.short short;
      each = datagrams_push b.read d b.each (record { short = short; bytes = bytes });
      size = ap length (frames_push b.read d) ∙ omega (arith, length-append (frames b.read) (frame d), length_frame d, b.size, is);
      count = omega (arith, length-append b.read (d ∷ []), b.count);
    }

    pub one_read : (bytes : AreBytes d) (next : ℕ) (is : next ≡ offset + 2 + length d) → (read_more bytes next is).read ≡ b.read ++ d ∷ []
    unfolding read_more
    one_read bytes next is = refl

    module _ (x : List ℕ) (told : content ≡ Some x) where
      -- it is that of the datagram at the place
      pub is_next : (ds : List (List ℕ)) → IsFramed ds x → (place < length ds) × (d ≡ get_or ds place [])
      is_next ds framed =
          let w = all_told x left new (frames b.read) (frame d) (subst (λ (o : Option (List ℕ)). Consumes o left (frames b.read)) told b.bytes) reads in
          let h = next_at b.read ds d w.0 b.short framed.each short (sym framed.whole ∙ w.1) in
          (omega (arith, h.0, b.count), h.1 ∙ ap (λ (n : ℕ). get_or ds n []) b.count)

      -- the datagram stands behind its length
      pub stands : (e : Extent) → e.offset ≡ offset + 2 → e.length ≡ length d → (datagram_in x e ≡ d) × (e.offset + e.length ≤ length x)
      stands e begin len =
          let w = all_told x left new (frames b.read) (frame d) (subst (λ (o : Option (List ℕ)). Consumes o left (frames b.read)) told b.bytes) reads in
          let at : e.offset ≡ length (frames b.read) + 2 = omega (arith, begin, b.size) in
          let behind : drop e.offset x ≡ d ++ w.0 =
          ap (λ (n : ℕ). drop n x) at ∙ ap (drop (length (frames b.read) + 2)) w.1
          ∙ drop-append-add (frames b.read) (frame d ++ w.0) 2
          ∙ behind_length d w.0 in
          let here : take e.length (drop e.offset x) ≡ d =
          ap (take e.length) behind ∙ ap (λ (n : ℕ). take n (d ++ w.0)) len ∙ take-append_seam d w.0 in
          let size : length x ≡ length (frames b.read) + (length (frame d) + length w.0) =
          ap length w.1 ∙ omega (arith, length-append (frames b.read) (frame d ++ w.0), length-append (frame d) w.0) in
          (here, omega (arith, at, len, size, length_frame d))

  -- all were read
  pub read_whole : IsAtEnd left → IsWhole content
  read_whole end = whole_end content left b.read b.bytes b.short end

  pub all_read : IsAtEnd left → (x : List ℕ) → content ≡ Some x → (ds : List (List ℕ)) → IsFramed ds x → length ds ≤ place
  all_read end x told ds framed =
      let w = subst (λ (o : Option (List ℕ)). IsWhole o) told (read_whole end) in
      let mine : IsFramed b.read x = by x left (subst (λ (o : Option (List ℕ)). Consumes o left (frames b.read)) told b.bytes) end in
      omega (arith, ap length (only x ds b.read framed mine), b.count)
    where
      by : (x : List ℕ) (left : Option (List ℕ)) → Consumes (Some x) left (frames b.read) → IsAtEnd left → IsFramed b.read x
      by x None p end = absurd p
      by x (Some y) p end = record { whole = p ∙ ap (λ (l : List ℕ). frames b.read ++ l) end ∙ append-nil (frames b.read); each = b.short }

  pub read_frames : IsAtEnd left → AreFrames content
  read_frames end = frames_end content left b.read b.bytes b.short b.each end

  -- what is left is frames, too
  pub rest_frames : AreFrames left → AreFrames content
  rest_frames whole = frames_behind content left b.read b.bytes b.short b.each whole
