-- Frames that are copied, one more.
use Rattle.std.proofs.Common.{◌≡◌, ◌≢◌, ◌<◌, ◌≤◌, ◌+◌, ℕ, Bool, false, List, [], ◌∷◌, ◌++◌, Option, length, get_or, set, refl, sym, ap, ◌∙◌, arith, append_assoc, inl, inr, subst}
use Rattle.std.specs.Prelude.{Some, None, IfSome}
use Rattle.std.proofs.lemmas.List.{append-nil, length-append, length-set, length_push, take_all, get_or-set_same, get_or-set_other}
use Rattle.std.specs.Io.KnownBytes.{Appends, Consumes, IsAtEnd}
use Rattle.streams.proofs.Writes.{then_appends, then_some}
use Rattle.streams.specs.Pieces.{AppendsSome}
use Rattle.session.specs.Frames.{frame, frames, AreShort, HasRead, IsNoFrame, IsReadFault, IsSessionFault, StopsAt}
use Rattle.session.specs.Joined.{joined}
use Rattle.session.specs.Turns.{taken}
use Rattle.session.specs.Joining.{BlamesReader, IsJoined, IsUnjoined, IsWhole}
use Rattle.session.specs.Copying.{HasJoined, IsCopied, IsEarlier, IsOver, IsUnread, IsUnwritten, IsWritten}
use Rattle.session.specs.declared.frame.FrameFault.{FrameFault}
use Rattle.session.specs.declared.frame.FrameFault.TheVariants.{CutLength, CutDatagram, TooLong, Io, NoMemory, NoSuchPlace}
use Rattle.session.proofs.Joins.{each_set, same_or_not, same_joined}
use Rattle.session.proofs.Sessions.{frames_push, short_push}
use Rattle.session.proofs.WholeFrames.{fault_behind, whole_behind}

nothing_more : (a : Option (List ℕ)) → Appends a a []
nothing_more None = tt
nothing_more (Some xs) = sym (append-nil xs)

pub nothing_read : (a : Option (List ℕ)) → Consumes a a []
nothing_read None = tt
nothing_read (Some xs) = refl

pub consumes_more : (a b c : Option (List ℕ)) (ds : List (List ℕ)) (d : List ℕ) → Consumes a b (frames ds) → Consumes b c (frame d)
    → Consumes a c (frames (ds ++ d ∷ []))
consumes_more None b c ds d p q = tt
consumes_more (Some a) None c ds d p q = absurd p
consumes_more (Some a) (Some b) None ds d p q = absurd q
consumes_more (Some a) (Some b) (Some c) ds d p q =
    p ∙ ap (λ (l : List ℕ). frames ds ++ l) q ∙ sym (append_assoc (frames ds) (frame d) c) ∙ ap (λ (l : List ℕ). l ++ c) (sym (frames_push ds d))

-- all that was written is a beginning of it
all_some : (a b : Option (List ℕ)) (xs : List ℕ) → Appends a b xs → AppendsSome a b xs
all_some a b xs p = (length xs, subst (λ (l : List ℕ). Appends a b l) (sym (take_all (length xs) xs (omega arith))) p)

-- a fault of a reader behind the frames that it gave
stops_at : (fault : FrameFault) (a b : Option (List ℕ)) (ds : List (List ℕ)) → Consumes a b (frames ds) → AreShort ds
    → IfSome b (IsNoFrame fault) → IfSome a (StopsAt fault)
stops_at fault None b ds p short why = tt
stops_at fault (Some a) None ds p short why = absurd p
stops_at fault (Some a) (Some b) ds p short why = record {
  datagrams = ds;
  front = frames ds;
  rest = b;
  framed = record { whole = refl; each = short };
  whole = p;
  stops = why;
}

pub session_fault : (fault : FrameFault) (a b c : Option (List ℕ)) (failed : Bool) (ds : List (List ℕ)) → Consumes a b (frames ds) → AreShort ds
    → IsReadFault fault b c failed → IsSessionFault fault a failed
session_fault CutLength a b c failed ds p short why = stops_at CutLength a b ds p short why.0
session_fault CutDatagram a b c failed ds p short why = stops_at CutDatagram a b ds p short why.0
session_fault TooLong a b c failed ds p short why = stops_at TooLong a b ds p short why.0
session_fault Io a b c failed ds p short why = why
session_fault NoMemory a b c failed ds p short why = tt
session_fault (NoSuchPlace place) a b c failed ds p short why = why

-- nothing was read or written
pub none_joined : (turns : Bool) (old : List (Option (List ℕ))) (before : Option (List ℕ)) (room : ℕ) (lists : List (List (List ℕ)))
    → length lists ≡ length old → ((i : ℕ) → get_or lists i [] ≡ []) → taken turns lists ≡ []
    → HasJoined turns old old (IsWritten before before room room) 0 lists
none_joined turns old before room lists many empty nothing = record {
  many = many;
  consumed = λ i. subst (λ ds. Consumes (get_or old i None) (get_or old i None) (frames ds)) (sym (empty i)) (nothing_read (get_or old i None));
  each = λ i. subst (λ ds. AreShort ds) (sym (empty i)) (λ j. omega arith);
  written = subst (λ ds. IsWritten before before room room (frames ds)) (sym nothing) (record { gained = nothing_more before; fits = omega arith });
  counted = ap length (sym nothing);
}

module _ (turns : Bool) (old new : List (Option (List ℕ))) (before now : Option (List ℕ)) (room room_now count : ℕ) (lists : List (List (List ℕ)))
    (has : HasJoined turns old new (IsWritten before now room room_now) count lists) where
  abbrev pub gaining : ℕ → List ℕ → List (List (List ℕ))
  gaining p d = set lists p (get_or lists p [] ++ d ∷ [])

  -- where another reader's frame is the next of what is joined
  abbrev pub IsNext : ℕ → Type 0
  IsNext p = (d : List ℕ) → taken turns (gaining p d) ≡ taken turns lists ++ d ∷ []

  consumed_set : (p : ℕ) (left : Option (List ℕ)) (ds : List (List ℕ)) → p < length lists → p < length new → Consumes (get_or old p None) left (frames ds)
      → (i : ℕ) → Consumes (get_or old i None) (get_or (set new p left) i None) (frames (get_or (set lists p ds) i []))
  consumed_set p left ds l m one i = elim (same_or_not i p) [
    | inl e ↦ subst (λ n. Consumes (get_or old n None) (get_or (set new p left) n None) (frames (get_or (set lists p ds) n []))) (sym e)
        (rw (get_or-set_same new p left None m, get_or-set_same lists p ds [] l) one)
    | inr n ↦ rw (get_or-set_other new p i left None n, get_or-set_other lists p i ds [] n) (has.consumed i)
  ]

  begun : (i : ℕ) → (left : Option (List ℕ)) × HasRead (get_or old i None) left (get_or lists i [])
  begun i = (get_or new i None, record { consumed = has.consumed i; each = has.each i })

  some_joined : (after : Option (List ℕ)) → AppendsSome before after (frames (taken turns lists)) → AppendsSome before after (frames (joined turns lists))
  some_joined after some = subst (λ ds. AppendsSome before after (frames ds)) (sym (same_joined turns lists)) some

  -- all was read and written
  pub all_joined : ((i : ℕ) → IsAtEnd (get_or new i None)) → IsJoined turns old new before now count
  all_joined ends = record {
    lists = lists;
    many = has.many;
    read = λ i. record { consumed = has.consumed i; each = has.each i };
    ends = ends;
    written = subst (λ ds. Appends before now (frames ds)) (sym (same_joined turns lists)) has.written.gained;
    counted = has.counted ∙ ap length (sym (same_joined turns lists));
  }

  -- one frame more
  pub copied : (p : ℕ) (left after : Option (List ℕ)) (room_then : ℕ) (one : IsCopied (get_or new p None) left now after room_now room_then)
      → p < length lists → p < length new → IsNext p
      → HasJoined turns old (set new p left) (IsWritten before after room room_then) (count + 1) (gaining p one.datagram)
  copied p left after room_then one l m next =
      let d : List ℕ = one.datagram in
      let whole : frames (taken turns (gaining p d)) ≡ frames (taken turns lists) ++ frame d = ap frames (next d) ∙ frames_push (taken turns lists) d in
      let size : length (frames (taken turns lists) ++ frame d) ≡ length (frames (taken turns lists)) + length (frame d) = length-append (frames (taken turns lists)) (frame d) in
      let fits_before = has.written.fits in
      let fits_one = one.written.fits in
      let more : length (taken turns lists ++ d ∷ []) ≡ length (taken turns lists) + 1 = length_push (taken turns lists) d in
      let counted = has.counted in
      let counted_then : count + 1 ≡ length (taken turns lists ++ d ∷ []) = omega (arith, more, counted) in
      record {
        many = length-set lists p (get_or lists p [] ++ d ∷ []) ∙ has.many;
        consumed = consumed_set p left (get_or lists p [] ++ d ∷ []) l m
            (consumes_more (get_or old p None) (get_or new p None) left (get_or lists p []) d (has.consumed p) one.consumed);
        each = each_set (λ i ds. AreShort ds) lists p (get_or lists p [] ++ d ∷ []) [] l (short_push (get_or lists p []) d (has.each p) one.short) (λ i n. has.each i);
        written = subst (λ bytes. IsWritten before after room room_then bytes) (sym whole) (record {
          gained = then_appends before now after (frames (taken turns lists)) (frame d) has.written.gained one.written.gained;
          fits = omega (arith, size, fits_before, fits_one);
        });
        counted = counted_then ∙ ap length (sym (next d));
      }

  -- a reader that was at its end
  pub over : (p : ℕ) (left after : Option (List ℕ)) (room_then : ℕ) → IsOver (get_or new p None) left now after room_now room_then
      → p < length lists → p < length new → HasJoined turns old (set new p left) (IsWritten before after room room_then) count lists
  over p left after room_then one l m = record {
    many = has.many;
    consumed = λ i. elim (same_or_not i p) [
      | inl e ↦ subst (λ n. Consumes (get_or old n None) (get_or (set new p left) n None) (frames (get_or lists n []))) (sym e)
          (rw (get_or-set_same new p left None m) (still (get_or old p None) (get_or new p None) left (frames (get_or lists p [])) (has.consumed p) one.nothing))
      | inr n ↦ rw (get_or-set_other new p i left None n) (has.consumed i)
    ];
    each = has.each;
    written = subst (λ (a : Option (List ℕ)). IsWritten before a room room_then (frames (taken turns lists))) (sym one.same)
        (subst (λ (n : ℕ). IsWritten before now room n (frames (taken turns lists))) (sym one.room) has.written);
    counted = has.counted;
  }
    where
      still : (a b c : Option (List ℕ)) (xs : List ℕ) → Consumes a b xs → Consumes b c [] → Consumes a c xs
      still None b c xs q r = tt
      still (Some a) None c xs q r = absurd q
      still (Some a) (Some b) None xs q r = absurd r
      still (Some a) (Some b) (Some c) xs q r = q ∙ ap (λ (l : List ℕ). xs ++ l) r

  -- ---- why not all was joined

  pub no_memory : (sound failed : List Bool) (writer_failed : Bool) → IsUnjoined turns NoMemory old sound failed (record { before = before; after = now; room = room; failed = writer_failed })
  no_memory sound failed writer_failed = record {
    lists = lists;
    many = has.many;
    read = begun;
    some = some_joined now (all_some before now (frames (taken turns lists)) has.written.gained);
    because = inr (inr refl);
  }

  -- nothing more was written, and a reader has a fault
  pub blamed : (fault : FrameFault) (sound failed : List Bool) (after : Option (List ℕ)) (writer_failed : Bool) → after ≡ now → BlamesReader fault old sound failed
      → IsUnjoined turns fault old sound failed (record { before = before; after = after; room = room; failed = writer_failed })
  blamed fault sound failed after writer_failed same blames = record {
    lists = lists;
    many = has.many;
    read = begun;
    some = subst (λ (a : Option (List ℕ)). AppendsSome before a (frames (joined turns lists))) (sym same)
        (some_joined now (all_some before now (frames (taken turns lists)) has.written.gained));
    because = inl blames;
  }

  pub unread : (fault : FrameFault) (p : ℕ) (sound failed : List Bool) (left after : Option (List ℕ)) (writer_failed : Bool)
      → IsUnread fault (get_or sound p false) (get_or new p None) left (get_or failed p false) now after → p < length old
      → (fault ≢ NoMemory → (i : ℕ) → i < p → IsWhole (get_or old i None))
      → IsUnjoined turns fault old sound failed (record { before = before; after = after; room = room; failed = writer_failed })
  unread fault p sound failed left after writer_failed why l first = blamed fault sound failed after writer_failed why.same (record {
    place = p;
    inside = l;
    because = session_fault fault (get_or old p None) (get_or new p None) left (get_or failed p false) (get_or lists p []) (has.consumed p) (has.each p) why.because;
    unsound = why.unsound;
    first = first;
  })

  -- the readers before this one were read on to their ends, up to one that has a fault
  module _ (p : ℕ) (sound failed : List Bool) (l : p < length old) (front : List (Option (List ℕ))) (long : length front ≡ p) (same : (i : ℕ) → i < p → get_or front i None ≡ get_or new i None)
      (front_sound front_failed : List Bool) (same_sound : (i : ℕ) → i < p → get_or front_sound i false ≡ get_or sound i false)
      (same_failed : (i : ℕ) → i < p → get_or front_failed i false ≡ get_or failed i false) where
    pub whole_before : (n : ℕ) → n ≤ p → ((i : ℕ) → i < n → IsWhole (get_or front i None)) → (i : ℕ) → i < n → IsWhole (get_or old i None)
    whole_before n le wholes i li =
        let lp : i < p = omega (arith, li, le) in
        whole_behind (get_or old i None) (get_or new i None) (get_or lists i []) (has.consumed i) (has.each i) (subst (λ (o : Option (List ℕ)). IsWhole o) (same i lp) (wholes i li))

    pub earlier_blamed : (fault : FrameFault) → IsEarlier fault front front_sound front_failed → BlamesReader fault old sound failed
    earlier_blamed fault earlier =
        let q : ℕ = earlier.0 in
        let lq : q < p = omega (arith, earlier.1, long) in
        record {
          place = q;
          inside = omega (arith, lq, l);
          because = fault_behind fault (get_or old q None) (get_or new q None) (get_or failed q false) (get_or lists q []) (has.consumed q) (has.each q)
              (subst (λ (o : Option (List ℕ)). IsSessionFault fault o (get_or failed q false)) (same q lq)
              (subst (λ (b : Bool). IsSessionFault fault (get_or front q None) b) (same_failed q lq) earlier.2));
          unsound = λ e. sym (same_sound q lq) ∙ earlier.3 e;
          first = λ _ i li. whole_before q (omega (arith, lq)) earlier.4 i li;
        }

  pub unwritten : (fault : FrameFault) (p : ℕ) (sound failed : List Bool) (left after : Option (List ℕ)) (writer_failed : Bool)
      → IsUnwritten fault (get_or new p None) left now after room_now writer_failed → p < length lists → p < length new → IsNext p
      → IsUnjoined turns fault old sound failed (record { before = before; after = after; room = room; failed = writer_failed })
  unwritten fault p sound failed left after writer_failed why l m next =
      let d : List ℕ = why.datagram in
      let ds : List (List ℕ) = get_or lists p [] ++ d ∷ [] in
      let whole : frames (taken turns (gaining p d)) ≡ frames (taken turns lists) ++ frame d = ap frames (next d) ∙ frames_push (taken turns lists) d in
      let size : length (frames (taken turns lists) ++ frame d) ≡ length (frames (taken turns lists)) + length (frame d) = length-append (frames (taken turns lists)) (frame d) in
      let one = consumes_more (get_or old p None) (get_or new p None) left (get_or lists p []) d (has.consumed p) why.consumed in
      let fits = has.written.fits in
      let full = why.full in
      let beyond : room < length (frames (taken turns lists) ++ frame d) = omega (arith, size, fits, full) in
      let joined_then : frames (joined turns (gaining p d)) ≡ frames (taken turns lists) ++ frame d = ap frames (same_joined turns (gaining p d)) ∙ whole in
      record {
        lists = gaining p d;
        many = length-set lists p ds ∙ has.many;
        read = λ i. (
          get_or (set new p left) i None,
          record {
            consumed = consumed_set p left ds l m one i;
            each = each_set (λ j xs. AreShort xs) lists p ds [] l (short_push (get_or lists p []) d (has.each p) why.short) (λ j n. has.each j) i;
          },
        );
        some = subst (λ bytes. AppendsSome before after bytes) (sym joined_then) (then_some before now after (frames (taken turns lists)) (frame d) has.written.gained why.some);
        because = inr (inl (why.io, why.fails, subst (λ bytes. room < length bytes) (sym joined_then) beyond));
      }
