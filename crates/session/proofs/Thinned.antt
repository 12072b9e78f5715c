-- Frames that are copied but for those at the places of some ranges, one more each.
use Rattle.std.specs.Prelude.{Bool, true, false, cond, Option, Some, None}
use Rattle.std.proofs.Common.{◌≡◌, ◌<◌, ◌≤◌, ◌+◌, ℕ, suc, List, [], ◌∷◌, ◌++◌, length, length-append, refl, sym, ap, subst, ◌∙◌, inl, arith}
use Rattle.std.proofs.lemmas.List.{take_all, append-nil}
use Rattle.std.specs.Io.KnownBytes.{Appends, Consumes, IsAtEnd}
use Rattle.streams.specs.Pieces.{AppendsSome}
use Rattle.streams.proofs.Fills.{then_consumes}
use Rattle.streams.proofs.Writes.{then_appends, then_some}
use Rattle.lists.specs.Selection.{rest, rest_from}
use Rattle.session.specs.Frames.{frame, frames, most_bytes, HasRead, IsReadFault}
use Rattle.session.specs.declared.frame.FrameFault.{FrameFault}
use Rattle.session.specs.declared.frame.FrameFault.TheVariants as fault
use Rattle.session.specs.Thinning.{frames_left, ReadsSome, IsThinned, WritesSome, IsUnthinned}
use Rattle.session.specs.Copying.{IsWritten}
use Rattle.session.specs.ThinningSteps.{HasCopied}
use Rattle.session.specs.Ranges.{is_in_some, first_unhad}
use Rattle.session.specs.declared.range.PlaceRange.{PlaceRange}
use Rattle.session.proofs.Sessions.{frames_push, short_push}

left_suc : {X : Type 0} (lost : ℕ → Bool) (j : ℕ) (xs : List X) (x : X) → rest_from j lost (xs ++ x ∷ []) ≡ rest_from j lost xs ++ cond (lost (j + length xs)) [] (x ∷ [])
left_suc lost j [] x =
    let e : j ≡ j + 0 = omega arith in
    ap (λ (n : ℕ). cond (lost n) [] (x ∷ [])) e
left_suc {X = X} lost j (y ∷ ys) x =
    let e : (j + 1) + length ys ≡ j + suc (length ys) = omega arith in
    let more = left_suc lost (j + 1) ys x ∙ ap (λ (n : ℕ). rest_from (j + 1) lost ys ++ cond (lost n) [] (x ∷ [])) e in
    elim (lost j) as (λ v. cond v (rest_from (j + 1) lost (ys ++ x ∷ [])) (y ∷ rest_from (j + 1) lost (ys ++ x ∷ []))
    ≡ cond v (rest_from (j + 1) lost ys) (y ∷ rest_from (j + 1) lost ys) ++ cond (lost (j + suc (length ys))) [] (x ∷ [])) [
      | true ↦ more
      | false ↦ ap (λ (zs : List X). y ∷ zs) more
    ]

-- one more member, which is lost or not
pub rest_push : {X : Type 0} (lost : ℕ → Bool) (xs : List X) (x : X) (n : ℕ) (v : Bool) → length xs ≡ n → lost n ≡ v → rest lost (xs ++ x ∷ []) ≡ rest lost xs ++ cond v [] (x ∷ [])
rest_push {X = X} lost xs x n v many e =
    let z : 0 + length xs ≡ n = omega (arith, many) in
    left_suc lost 0 xs x ∙ ap (λ (k : ℕ). rest lost xs ++ cond {A = List X} (lost k) [] (x ∷ [])) z ∙ ap (λ (w : Bool). rest lost xs ++ cond {A = List X} w [] (x ∷ [])) e

nothing_consumed : (a : Option (List ℕ)) → Consumes a a []
nothing_consumed None = tt
nothing_consumed (Some x) = refl

nothing_appended : (b : Option (List ℕ)) → Appends b b []
nothing_appended None = tt
nothing_appended (Some x) = sym (append-nil x)

-- before the first
pub begins : (ranges : List PlaceRange) (a b : Option (List ℕ)) (room : ℕ) → HasCopied ranges a a (IsWritten b b room room) 0 0
begins ranges a b room = record {
  datagrams = [];
  consumed = nothing_consumed a;
  each = λ i. omega arith;
  many = refl;
  writes = record { gained = nothing_appended b; fits = omega arith };
  left = refl;
}

module _ (ranges : List PlaceRange) (a mid b m : Option (List ℕ)) (room room_now n k : ℕ) (h : HasCopied ranges a mid (IsWritten b m room room_now) n k) where
  was_read : HasRead a mid h.datagrams
  was_read = record { consumed = h.consumed; each = h.each }

  -- no more was read
  pub unread : (e : FrameFault) (sound : Bool) (new : Option (List ℕ)) (failed writer_failed : Bool) → IsReadFault e mid new failed → (e ≡ fault.Io → sound ≡ false)
      → IsUnthinned e ranges (record { before = a; after = new; sound = sound; failed = failed }) room writer_failed
  unread fault.CutLength sound new failed writer_failed r io = (h.datagrams, mid, was_read, r)
  unread fault.CutDatagram sound new failed writer_failed r io = (h.datagrams, mid, was_read, r)
  unread fault.TooLong sound new failed writer_failed r io = (h.datagrams, mid, was_read, r)
  unread fault.Io sound new failed writer_failed r io = inl (io refl, r)
  unread fault.NoMemory sound new failed writer_failed r io = tt
  unread (fault.NoSuchPlace p) sound new failed writer_failed r io = absurd r

  -- what was written until then
  pub some : WritesSome ranges a b m
  some =
      let left = frames_left ranges h.datagrams in
      (h.datagrams, mid, was_read, (length left, subst (λ (x : List ℕ). Appends b m x) (sym (take_all (length left) left (omega arith))) h.writes.gained))

  -- the reader has ended
  pub thinned : IsAtEnd mid → first_unhad n ranges ≡ None → IsThinned ranges a mid b m k
  thinned over inside = record {
    datagrams = h.datagrams;
    read = was_read;
    end = over;
    inside = ap (λ (l : ℕ). first_unhad l ranges) h.many ∙ inside;
    written = h.writes.gained;
    counted = sym h.left;
  }

  pub without : (place : ℕ) (sound failed : Bool) (writer_room : ℕ) (writer_failed : Bool) → IsAtEnd mid → first_unhad n ranges ≡ Some place
      → IsUnthinned (fault.NoSuchPlace place) ranges (record { before = a; after = mid; sound = sound; failed = failed }) writer_room writer_failed
  without place sound failed writer_room writer_failed over outside = (over, h.datagrams, was_read, ap (λ (l : ℕ). first_unhad l ranges) h.many ∙ outside)

  -- nothing more was there
  pub at_end : (next : Option (List ℕ)) → Consumes mid next [] → HasCopied ranges a next (IsWritten b m room room_now) n k
  at_end next none = record {
    datagrams = h.datagrams;
    consumed = subst (λ (x : List ℕ). Consumes a next x) (append-nil (frames h.datagrams)) (then_consumes a mid next (frames h.datagrams) [] h.consumed none);
    each = h.each;
    many = h.many;
    writes = h.writes;
    left = h.left;
  }

  -- one more was read
  module _ (next : Option (List ℕ)) (d : List ℕ) (one : Consumes mid next (frame d)) where
    abbrev more : List (List ℕ)
    more = h.datagrams ++ d ∷ []

    read_on : Consumes a next (frames more)
    read_on = subst (λ (x : List ℕ). Consumes a next x) (sym (frames_push h.datagrams d)) (then_consumes a mid next (frames h.datagrams) (frame d) h.consumed one)

    read_to : length d ≤ most_bytes → HasRead a next more
    read_to short = record { consumed = read_on; each = short_push h.datagrams d h.each short }

    counted : length more ≡ n + 1
    counted = let l = length-append h.datagrams (d ∷ []) in omega (arith, l, h.many)

    -- and passed over
    module _ (lost : is_in_some ranges n ≡ true) where
      same_left : rest (is_in_some ranges) more ≡ rest (is_in_some ranges) h.datagrams
      same_left = rest_push (is_in_some ranges) h.datagrams d n true h.many lost ∙ append-nil (rest (is_in_some ranges) h.datagrams)

      pub passed_over : (up : ℕ) → n + 1 ≡ up → length d ≤ most_bytes → HasCopied ranges a next (IsWritten b m room room_now) up k
      passed_over up is short = record {
        datagrams = more;
        consumed = read_on;
        each = short_push h.datagrams d h.each short;
        many = counted ∙ is;
        writes = subst (λ (xs : List (List ℕ)). IsWritten b m room room_now (frames xs)) (sym same_left) h.writes;
        left = ap (λ (xs : List (List ℕ)). length xs) same_left ∙ h.left;
      }

    -- and is to be written
    module _ (stays : is_in_some ranges n ≡ false) where
      one_left : rest (is_in_some ranges) more ≡ rest (is_in_some ranges) h.datagrams ++ d ∷ []
      one_left = rest_push (is_in_some ranges) h.datagrams d n false h.many stays

      bytes_left : frames_left ranges more ≡ frames_left ranges h.datagrams ++ frame d
      bytes_left = ap frames one_left ∙ frames_push (rest (is_in_some ranges) h.datagrams) d

      size_left : length (frames_left ranges more) ≡ length (frames_left ranges h.datagrams) + length (frame d)
      size_left = ap (λ (x : List ℕ). length x) bytes_left ∙ length-append (frames_left ranges h.datagrams) (frame d)

      pub written : (m2 : Option (List ℕ)) (room2 up : ℕ) → n + 1 ≡ up → length d ≤ most_bytes → Appends m m2 (frame d) → room_now ≤ room2 + length (frame d)
          → HasCopied ranges a next (IsWritten b m2 room room2) up (k + 1)
      written m2 room2 up is short gains fills = record {
        datagrams = more;
        consumed = read_on;
        each = short_push h.datagrams d h.each short;
        many = counted ∙ is;
        writes = record {
          gained = subst (λ (x : List ℕ). Appends b m2 x) (sym bytes_left) (then_appends b m m2 (frames_left ranges h.datagrams) (frame d) h.writes.gained gains);
          fits = omega (arith, size_left, fills, h.writes.fits);
        };
        left = ap (λ (xs : List (List ℕ)). length xs) one_left ∙ (let l = length-append (rest (is_in_some ranges) h.datagrams) (d ∷ []) in omega (arith, l, h.left));
      }

      -- a beginning of it was
      pub unwritten : (m2 : Option (List ℕ)) → length d ≤ most_bytes → AppendsSome m m2 (frame d) → WritesSome ranges a b m2
      unwritten m2 short begun =
          (more, next, read_to short, subst (λ (x : List ℕ). AppendsSome b m2 x) (sym bytes_left) (then_some b m m2 (frames_left ranges h.datagrams) (frame d) h.writes.gained begun))

      pub no_room : length d ≤ most_bytes → room_now < length (frame d) → ReadsSome a (λ ds left. room < length (frames_left ranges ds))
      no_room short full = (more, next, read_to short, omega (arith, size_left, full, h.writes.fits))
