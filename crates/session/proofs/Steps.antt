-- Loops that copy frames of several readers, one step more.
use Rattle.std.proofs.Common.{◌≡◌, ◌≢◌, ◌<◌, ◌≤◌, ◌+◌, ◌-◌, ◌⊎◌, ℕ, zero, suc, Bool, true, false, List, [], ◌∷◌, ◌++◌, Option, map, drop, length, get_or, set, replicate, refl, sym, ap, ◌∙◌, arith, inl, inr, subst, take, length-take-le, get_or-take}
use Rattle.std.specs.Prelude.{None, Result, Ok, Err, IfErr, IsErrAnd}
use Rattle.std.proofs.lemmas.List.{take-map, drop-map, map-append, get_or_append_left, get_or-append_right, get_or-drop, length-map, length_push, map-set, get_or-map, get_or-set_same, get_or-set_other, get_or_past, set-get_or, drop_more, drop-set-lt, length-set, get_or_default}
use Rattle.std.specs.Io.KnownBytes.{IsAtEnd}
use Rattle.session.specs.Turns.{taken, longest, one_after_other, rounds}
use Rattle.streams.specs.Changes.{WriterChange}
use Rattle.session.specs.Joining.{BlamesReader, IsUnjoined, IsWhole}
use Rattle.session.specs.Copying.{HasJoined, IsEarlier, IsFirstFault, IsToldFirst, IsAfterRounds, IsAtReader, IsCopied, IsInRound, IsOver, IsUnread, IsUnwritten, steps_left, IsWritten}
use Rattle.session.specs.declared.frame.FrameFault.{FrameFault}
use Rattle.session.specs.declared.frame.FrameFault.TheVariants.{CutLength, CutDatagram, TooLong, Io, NoMemory, NoSuchPlace}
use Rattle.session.proofs.WholeFrames.{whole_end}
use Rattle.session.proofs.Joins.{next_turn, next_whole, same_or_not}
use Rattle.session.proofs.Copies.{IsNext, blamed, copied, earlier_blamed, none_joined, over, unread, unwritten, whole_before}

module _ {X : Type 0} (remaining : X → Option (List ℕ)) (sound failed : X → Bool) (turns : Bool) (old now : List X) (before mid : Option (List ℕ)) (room room_now count : ℕ)
    (lists : List (List (List ℕ))) (has : HasJoined turns (map remaining old) (map remaining now) (IsWritten before mid room room_now) count lists)
    (size : length now ≡ length old) (sounds : map sound now ≡ map sound old) (p : ℕ) (l : p < length now) (x : X) (at : x ≡ get_or now p x) where
  here : get_or (map remaining now) p None ≡ remaining x
  here = get_or-map remaining now p x None l ∙ ap remaining (sym at)

  in_now : p < length (map remaining now)
  in_now = let e = length-map now remaining in omega (arith, e, l)

  pub in_lists : p < length lists
  in_lists = let e = length-map old remaining in let m = has.many in omega (arith, e, m, l, size)

  in_old : p < length (map remaining old)
  in_old = let e = length-map old remaining in omega (arith, e, l, size)

  pub step_copied : (y : X) (after : Option (List ℕ)) (room_then : ℕ) (one : IsCopied (remaining x) (remaining y) mid after room_now room_then)
      → IsNext turns (map remaining old) (map remaining now) before mid room room_now count lists has p
      → HasJoined turns (map remaining old) (map remaining (set now p y)) (IsWritten before after room room_then) (count + 1) (set lists p (get_or lists p [] ++ one.datagram ∷ []))
  step_copied y after room_then one next =
      rw (map-set remaining now p y)
      (copied turns (map remaining old) (map remaining now) before mid room room_now count lists has p (remaining y) after room_then
      (record { datagram = one.datagram; short = one.short; consumed = rw here one.consumed; written = one.written }) in_lists in_now next)

  pub step_over : (y : X) (after : Option (List ℕ)) (room_then : ℕ) → IsOver (remaining x) (remaining y) mid after room_now room_then
      → HasJoined turns (map remaining old) (map remaining (set now p y)) (IsWritten before after room room_then) count lists
  step_over y after room_then one =
      rw (map-set remaining now p y)
      (over turns (map remaining old) (map remaining now) before mid room room_now count lists has p (remaining y) after room_then (rw here one) in_lists in_now)

  pub step_sound : (y : X) → sound y ≡ sound x → map sound (set now p y) ≡ map sound old
  step_sound y same =
      map-set sound now p y ∙ ap (set (map sound now) p) (same ∙ ap sound at ∙ sym (get_or-map sound now p x false l)) ∙ set-get_or (map sound now) p false ∙ sounds

  sound_here : get_or (map sound old) p false ≡ sound x
  sound_here = ap (λ (bs : List Bool). get_or bs p false) (sym sounds) ∙ get_or-map sound now p x false l ∙ ap sound (sym at)

  failed_here : (y : X) → get_or (map failed (set now p y)) p false ≡ failed y
  failed_here y =
      ap (λ (bs : List Bool). get_or bs p false) (map-set failed now p y)
      ∙ get_or-set_same (map failed now) p (failed y) false (let e = length-map now failed in omega (arith, e, l))

  -- whatever became of the other readers then
  step_fault_then : (fault : FrameFault) (y : X) (after : Option (List ℕ)) (writer_failed : Bool) (all : List X) → get_or (map failed all) p false ≡ failed y
      → IsNext turns (map remaining old) (map remaining now) before mid room room_now count lists has p
      → (fault ≢ NoMemory → (i : ℕ) → i < p → IsWhole (get_or (map remaining old) i None))
      → IsUnread fault (sound x) (remaining x) (remaining y) (failed y) mid after ⊎ IsUnwritten fault (remaining x) (remaining y) mid after room_now writer_failed
      → IsUnjoined turns fault (map remaining old) (map sound old) (map failed all) (record { before = before; after = after; room = room; failed = writer_failed })
  step_fault_then fault y after writer_failed all failed_there next first (inl why) =
      unread turns (map remaining old) (map remaining now) before mid room room_now count lists has fault p (map sound old) (map failed all) (remaining y) after writer_failed
      (rw (sound_here, here, failed_there) why) in_old first
  step_fault_then fault y after writer_failed all failed_there next first (inr why) =
      unwritten turns (map remaining old) (map remaining now) before mid room room_now count lists has fault p (map sound old) (map failed all) (remaining y) after writer_failed
      (rw here why) in_lists in_now next

  pub step_fault : (fault : FrameFault) (y : X) (after : Option (List ℕ)) (writer_failed : Bool)
      → IsNext turns (map remaining old) (map remaining now) before mid room room_now count lists has p
      → (fault ≢ NoMemory → (i : ℕ) → i < p → IsWhole (get_or (map remaining old) i None))
      → IsUnread fault (sound x) (remaining x) (remaining y) (failed y) mid after ⊎ IsUnwritten fault (remaining x) (remaining y) mid after room_now writer_failed
      → IsUnjoined turns fault (map remaining old) (map sound old) (map failed (set now p y)) (record { before = before; after = after; room = room; failed = writer_failed })
  step_fault fault y after writer_failed next first why = step_fault_then fault y after writer_failed (set now p y) (failed_here y) next first why

  -- the readers before this place were read to their ends, up to one that has a fault, behind a fault there: the first is told
  step_first : (other fault : FrameFault) (y : X) (after : Option (List ℕ)) (writer_failed : Bool) (front all : List X)
      → IsNext turns (map remaining old) (map remaining now) before mid room room_now count lists has p
      → IsUnread other (sound x) (remaining x) (remaining y) (failed y) mid after ⊎ IsUnwritten other (remaining x) (remaining y) mid after room_now writer_failed
      → get_or (map failed all) p false ≡ failed y → ((i : ℕ) → i < p → get_or (map failed all) i false ≡ get_or (map failed front) i false)
      → IsFirstFault other fault (map remaining (take p (set now p y))) (map sound (take p (set now p y))) (map failed front)
      → IsUnjoined turns fault (map remaining old) (map sound old) (map failed all) (record { before = before; after = after; room = room; failed = writer_failed })
  step_first other fault y after writer_failed front all next why last kept first = go first
    where
      long : length (map remaining (take p (set now p y))) ≡ p
      long = length-map (take p (set now p y)) remaining ∙ length-take-le p (set now p y) (let e = length-set now p y in omega (arith, e, l))

      front_same : {A : Type 0} (f : X → A) (d : A) (i : ℕ) → i < p → get_or (map f (take p (set now p y))) i d ≡ get_or (map f now) i d
      front_same {A = A} f d i li =
          ap (λ (zs : List A). get_or zs i d) (sym (take-map f p (set now p y)))
          ∙ get_or-take p (map f (set now p y)) i d li
          ∙ ap (λ (zs : List A). get_or zs i d) (map-set f now p y)
          ∙ get_or-set_other (map f now) p i (f y) d (λ e. omega (arith, e, li))

      sounds_same : (i : ℕ) → i < p → get_or (map sound (take p (set now p y))) i false ≡ get_or (map sound old) i false
      sounds_same i li = front_same sound false i li ∙ ap (λ (bs : List Bool). get_or bs i false) sounds

      writer : WriterChange
      writer = record { before = before; after = after; room = room; failed = writer_failed }

      told : ((i : ℕ) → i < p → IsWhole (get_or (map remaining (take p (set now p y))) i None)) → IsUnjoined turns other (map remaining old) (map sound old) (map failed all) writer
      told wholes = step_fault_then other y after writer_failed all last next
          (λ _ i li. whole_before turns (map remaining old) (map remaining now) before mid room room_now count lists has p (map sound old) (map failed all) in_old
          (map remaining (take p (set now p y))) long (λ j lj. front_same remaining None j lj) (map sound (take p (set now p y))) (map failed front) sounds_same
          (λ j lj. sym (kept j lj)) p (omega arith) wholes i li) why

      go : IsFirstFault other fault (map remaining (take p (set now p y))) (map sound (take p (set now p y))) (map failed front)
          → IsUnjoined turns fault (map remaining old) (map sound old) (map failed all) writer
      go (inl none) =
          subst (λ (e : FrameFault). IsUnjoined turns e (map remaining old) (map sound old) (map failed all) writer) (sym none.0)
          (told (λ i li. none.1 i (omega (arith, li, long))))
      go (inr earlier) = elim why [
        | inl none ↦
            blamed turns (map remaining old) (map remaining now) before mid room room_now count lists has fault (map sound old) (map failed all) after writer_failed none.same (blames earlier)
        | inr one ↦
            (let u = unwritten turns (map remaining old) (map remaining now) before mid room room_now count lists has other p (map sound old) (map failed all) (remaining y) after writer_failed
            (rw here one) in_lists in_now next in
            record { lists = u.lists; many = u.many; read = u.read; some = u.some; because = inl (blames earlier) })
      ]
        where
          blames : IsEarlier fault (map remaining (take p (set now p y))) (map sound (take p (set now p y))) (map failed front) → BlamesReader fault (map remaining old) (map sound old) (map failed all)
          blames = earlier_blamed turns (map remaining old) (map remaining now) before mid room room_now count lists has p (map sound old) (map failed all) in_old
              (map remaining (take p (set now p y))) long (λ j lj. front_same remaining None j lj) (map sound (take p (set now p y))) (map failed front) sounds_same
              (λ j lj. sym (kept j lj)) fault

  module _ (y : X) (front : List X) (many : length front ≡ length (take p (set now p y))) where
    ends : length front ≡ p
    ends = many ∙ length-take-le p (set now p y) (let e = length-set now p y in omega (arith, e, l))

    abbrev all : List X
    all = front ++ drop p (set now p y)

    failed_front : (i : ℕ) → i < p → get_or (map failed all) i false ≡ get_or (map failed front) i false
    failed_front i li =
        ap (λ (bs : List Bool). get_or bs i false) (map-append failed front (drop p (set now p y)))
        ∙ get_or_append_left (map failed front) (map failed (drop p (set now p y))) false i (let e = length-map front failed in omega (arith, e, ends, li))

    failed_last : get_or (map failed all) p false ≡ failed y
    failed_last =
        let e : length (map failed front) ≡ p = length-map front failed ∙ ends in
        let z : p - p ≡ 0 = omega arith in
        let n : p + 0 ≡ p = omega arith in
        ap (λ (bs : List Bool). get_or bs p false) (map-append failed front (drop p (set now p y)))
        ∙ get_or-append_right (map failed front) (map failed (drop p (set now p y))) p p false e (omega arith)
        ∙ ap (λ (k : ℕ). get_or (map failed (drop p (set now p y))) k false) z
        ∙ ap (λ (bs : List Bool). get_or bs 0 false) (sym (drop-map failed p (set now p y)))
        ∙ get_or-drop p (map failed (set now p y)) 0 false
        ∙ ap (λ (k : ℕ). get_or (map failed (set now p y)) k false) n
        ∙ failed_here y

    -- the first fault of the readers up to this place is told
    pub step_told : (other fault : FrameFault) (after : Option (List ℕ)) (writer_failed : Bool)
        → IsNext turns (map remaining old) (map remaining now) before mid room room_now count lists has p
        → IsUnread other (sound x) (remaining x) (remaining y) (failed y) mid after ⊎ IsUnwritten other (remaining x) (remaining y) mid after room_now writer_failed
        → IsToldFirst other fault (map remaining (take p (set now p y))) (map sound (take p (set now p y))) (map failed front)
        → IsUnjoined turns fault (map remaining old) (map sound old) (map failed (front ++ drop p (set now p y))) (record { before = before; after = after; room = room; failed = writer_failed })
    step_told NoMemory fault after writer_failed next why first =
        subst (λ (e : FrameFault). IsUnjoined turns e (map remaining old) (map sound old) (map failed all) (record { before = before; after = after; room = room; failed = writer_failed })) (sym first)
        (step_fault_then NoMemory y after writer_failed all failed_last next (λ no. absurd (no refl)) why)
    step_told Io fault after writer_failed next why first = step_first Io fault y after writer_failed front all next why failed_last failed_front first
    step_told CutLength fault after writer_failed next why first = step_first CutLength fault y after writer_failed front all next why failed_last failed_front first
    step_told CutDatagram fault after writer_failed next why first = step_first CutDatagram fault y after writer_failed front all next why failed_last failed_front first
    step_told TooLong fault after writer_failed next why first = step_first TooLong fault y after writer_failed front all next why failed_last failed_front first
    step_told (NoSuchPlace n) fault after writer_failed next why first = step_first (NoSuchPlace n) fault y after writer_failed front all next why failed_last failed_front first

-- the first fault is told unless memory is wanting
pub told_as : (other fault : FrameFault) (old : List (Option (List ℕ))) (sound failed : List Bool) → other ≢ NoMemory
    → IsFirstFault other fault old sound failed → IsToldFirst other fault old sound failed
told_as NoMemory fault old sound failed other_than first = absurd (other_than refl)
told_as Io fault old sound failed _ first = first
told_as CutLength fault old sound failed _ first = first
told_as CutDatagram fault old sound failed _ first = first
told_as TooLong fault old sound failed _ first = first
told_as (NoSuchPlace n) fault old sound failed _ first = first

-- a place is before another or not
before_or_behind : (i n : ℕ) → (i < n) ⊎ (n ≤ i)
before_or_behind i zero = inr (omega arith)
before_or_behind zero (suc n) = inl (omega arith)
before_or_behind (suc i) (suc n) = elim (before_or_behind i n) [
  | inl m ↦ inl (omega (arith, m))
  | inr m ↦ inr (omega (arith, m))
]

-- ---- one reader after the other

-- the readers before this one have ended
pub whole_first : (turns : Bool) (old new : List (Option (List ℕ))) (before now : Option (List ℕ)) (room room_now count : ℕ) (lists : List (List (List ℕ)))
    → HasJoined turns old new (IsWritten before now room room_now) count lists → (p : ℕ) → IsAtReader p new lists → (i : ℕ) → i < p → IsWhole (get_or old i None)
whole_first turns old new before now room room_now count lists has p at i li =
    whole_end (get_or old i None) (get_or new i None) (get_or lists i []) (has.consumed i) (has.each i) (at.before i li)

module _ (new : List (Option (List ℕ))) (lists : List (List (List ℕ))) (p : ℕ) (at : IsAtReader p new lists) where
  pub whole_next : p < length lists → (d : List ℕ) → taken false (set lists p (get_or lists p [] ++ d ∷ [])) ≡ taken false lists ++ d ∷ []
  whole_next l d = next_whole lists p d l at.behind

  pub whole_ends : length new ≤ p → (i : ℕ) → IsAtEnd (get_or new i None)
  whole_ends l i = elim (before_or_behind i p) [
    | inl m ↦ at.before i m
    | inr m ↦ subst (λ o. IsAtEnd o) (sym (get_or_past new i None (omega (arith, l, m)))) tt
  ]

  pub whole_copied : (left : Option (List ℕ)) (ds : List (List ℕ)) → IsAtReader p (set new p left) (set lists p ds)
  whole_copied left ds = record {
    before = λ i m. subst (λ o. IsAtEnd o) (sym (get_or-set_other new p i left None (λ e. omega (arith, e, m)))) (at.before i m);
    behind = λ i m. get_or-set_other lists p i ds [] (λ e. omega (arith, e, m)) ∙ at.behind i m;
  }

  pub whole_over : (left : Option (List ℕ)) → p < length new → IsAtEnd left → IsAtReader (p + 1) (set new p left) lists
  whole_over left l end = record {
    before = λ i m. elim (same_or_not i p) [
      | inl e ↦ subst (λ n. IsAtEnd (get_or (set new p left) n None)) (sym e) (subst (λ o. IsAtEnd o) (sym (get_or-set_same new p left None l)) end)
      | inr n ↦ subst (λ o. IsAtEnd o) (sym (get_or-set_other new p i left None n)) (at.before i (omega (arith, m, n)))
    ];
    behind = λ i m. at.behind i (omega (arith, m));
  }

module _ {X : Type 0} (left : X → ℕ) (now : List X) (p : ℕ) (l : p < length now) (x y : X) (at : x ≡ get_or now p x) where
  first_now : drop p (map left now) ≡ left x ∷ drop (p + 1) (map left now)
  first_now =
      drop_more (map left now) p 0 (let e = length-map now left in omega (arith, e, l))
      ∙ ap (λ (n : ℕ). n ∷ drop (p + 1) (map left now)) (get_or-map left now p x 0 l ∙ ap left (sym at))

  others : drop (p + 1) (map left (set now p y)) ≡ drop (p + 1) (map left now)
  others = ap (drop (p + 1)) (map-set left now p y) ∙ drop-set-lt (p + 1) (map left now) p (left y) (omega arith)

  first_then : drop p (map left (set now p y)) ≡ left y ∷ drop (p + 1) (map left now)
  first_then =
      let size = length-map (set now p y) left in
      let same = length-set now p y in
      drop_more (map left (set now p y)) p 0 (omega (arith, size, same, l))
      ∙ ap (λ (n : ℕ). n ∷ drop (p + 1) (map left (set now p y)))
      (ap (λ (ns : List ℕ). get_or ns p 0) (map-set left now p y) ∙ get_or-set_same (map left now) p (left y) 0 (let e = length-map now left in omega (arith, e, l)))
      ∙ ap (λ (ns : List ℕ). left y ∷ ns) others

  pub fewer_left : left y < left x → steps_left (drop p (map left (set now p y))) < steps_left (drop p (map left now))
  fewer_left less = rw (first_now, first_then) (omega (arith, less))

  pub one_over : steps_left (drop (p + 1) (map left (set now p y))) < steps_left (drop p (map left now))
  one_over = rw (first_now, others) (omega arith)

-- ---- round after round

at_most : (n : ℕ) (b : Bool) (new : Option (List ℕ)) (ds : List (List ℕ)) → IsAfterRounds n b new ds → length ds ≤ n
at_most n true new ds after = after.0
at_most n false new ds after = omega (arith, after)

ended_later : (n m : ℕ) (b : Bool) (new : Option (List ℕ)) (ds : List (List ℕ)) → b ≡ true → n ≤ m → IsAfterRounds n b new ds → IsAfterRounds m b new ds
ended_later n m true new ds e le after = (let a = after.0 in omega (arith, a, le), after.1)
ended_later n m false new ds e le after = let bad : false ≡ true = e in cc

ended_end : (n : ℕ) (b : Bool) (new : Option (List ℕ)) (ds : List (List ℕ)) → b ≡ true → IsAfterRounds n b new ds → IsAtEnd new
ended_end n true new ds e after = after.1
ended_end n false new ds e after = let bad : false ≡ true = e in cc

module _ (r p : ℕ) (ended : List Bool) (new : List (Option (List ℕ))) (lists : List (List (List ℕ))) (in_round : IsInRound r p ended new lists) where
  -- the reader at this place goes on
  module _ (going : get_or ended p true ≡ false) where
    size_here : length (get_or lists p []) ≡ r
    size_here = subst (λ (b : Bool). IsAfterRounds r b (get_or new p None) (get_or lists p [])) going (in_round.behind p (omega arith))

    pub turn_next : p < length lists → (d : List ℕ) → taken true (set lists p (get_or lists p [] ++ d ∷ [])) ≡ taken true lists ++ d ∷ []
    turn_next l d =
        next_turn lists p d r l size_here (λ i m. at_most (r + 1) (get_or ended i true) (get_or new i None) (get_or lists i []) (in_round.before i m))
        (λ i m. at_most r (get_or ended i true) (get_or new i None) (get_or lists i []) (in_round.behind i (omega (arith, m))))

    pub turn_copied : (left : Option (List ℕ)) (d : List ℕ) → p < length lists
        → IsInRound r (p + 1) ended (set new p left) (set lists p (get_or lists p [] ++ d ∷ []))
    turn_copied left d l =
        let ds : List (List ℕ) = get_or lists p [] ++ d ∷ [] in
        let long : length ds ≡ r + 1 = (let e = length_push (get_or lists p []) d in let s = size_here in omega (arith, e, s)) in
        record {
          before = λ i m. elim (same_or_not i p) [
            | inl e ↦ subst (λ n. IsAfterRounds (r + 1) (get_or ended n true) (get_or (set new p left) n None) (get_or (set lists p ds) n [])) (sym e)
                (rw (going, get_or-set_same lists p ds [] l) long)
            | inr n ↦ rw (get_or-set_other new p i left None n, get_or-set_other lists p i ds [] n) (in_round.before i (omega (arith, m, n)))
          ];
          behind = λ i m. (let n : i ≢ p = λ e. omega (arith, e, m) in
              rw (get_or-set_other new p i left None n, get_or-set_other lists p i ds [] n) (in_round.behind i (omega (arith, m))));
        }

    pub turn_over : (left : Option (List ℕ)) → p < length ended → p < length new → IsAtEnd left → IsInRound r (p + 1) (set ended p true) (set new p left) lists
    turn_over left l m end = record {
      before = λ i k. elim (same_or_not i p) [
        | inl e ↦ subst (λ n. IsAfterRounds (r + 1) (get_or (set ended p true) n true) (get_or (set new p left) n None) (get_or lists n [])) (sym e)
            (rw (get_or-set_same ended p true true l, get_or-set_same new p left None m) (let s = size_here in omega (arith, s), end))
        | inr n ↦ rw (get_or-set_other ended p i true true n, get_or-set_other new p i left None n) (in_round.before i (omega (arith, k, n)))
      ];
      behind = λ i k. (let n : i ≢ p = λ e. omega (arith, e, k) in
          rw (get_or-set_other ended p i true true n, get_or-set_other new p i left None n) (in_round.behind i (omega (arith, k))));
    }

  -- the round is over
  pub next_round : length ended ≤ p → IsInRound (r + 1) 0 ended new lists
  next_round l = record {
    before = λ i k. absurd (omega (arith, k));
    behind = λ i k. elim (before_or_behind i p) [
      | inl m ↦ in_round.before i m
      | inr m ↦ ended_later r (r + 1) (get_or ended i true) (get_or new i None) (get_or lists i []) (get_or_past ended i true (omega (arith, l, m))) (omega arith) (in_round.behind i m)
    ];
  }

  -- all have ended
  pub all_over : length ended ≤ p → ((i : ℕ) → i < p → get_or ended i true ≡ true) → (i : ℕ) → IsAtEnd (get_or new i None)
  all_over l all i = elim (before_or_behind i p) [
    | inl m ↦ ended_end (r + 1) (get_or ended i true) (get_or new i None) (get_or lists i []) (all i m) (in_round.before i m)
    | inr m ↦ ended_end r (get_or ended i true) (get_or new i None) (get_or lists i []) (get_or_past ended i true (omega (arith, l, m))) (in_round.behind i m)
  ]

-- ---- before the first step

abbrev pub blank : {X : Type 0} → List X → List (List (List ℕ))
blank xs = map (λ _. []) xs

pub is_blank : {X : Type 0} (xs : List X) (i : ℕ) → get_or (blank xs) i [] ≡ []
is_blank [] i = refl
is_blank (x ∷ xs) zero = refl
is_blank (x ∷ xs) (suc i) = is_blank xs i

none_whole : {X : Type 0} (xs : List X) → one_after_other (blank xs) ≡ []
none_whole [] = refl
none_whole (x ∷ xs) = none_whole xs

none_longest : {X : Type 0} (xs : List X) → longest (blank xs) ≡ 0
none_longest [] = refl
none_longest (x ∷ xs) = let e = none_longest xs in rw e refl

none_yet : {X : Type 0} (turns : Bool) (xs : List X) → taken turns (blank xs) ≡ []
none_yet true xs = ap (rounds (blank xs)) (none_longest xs)
none_yet false xs = none_whole xs

pub start : {X : Type 0} (remaining : X → Option (List ℕ)) (turns : Bool) (old : List X) (before : Option (List ℕ)) (room : ℕ)
    → HasJoined turns (map remaining old) (map remaining old) (IsWritten before before room room) 0 (blank old)
start remaining turns old before room =
    none_joined turns (map remaining old) before room (blank old) (length-map old (λ _. []) ∙ sym (length-map old remaining)) (is_blank old) (none_yet turns old)

-- what a `?` hands on
pub told : {T : Type 0} (r : Result T FrameFault) (e : FrameFault) (P : FrameFault → Type 0) → IsErrAnd r (λ x. x ≡ e) → P e → IfErr r P
told (Ok x) e P is h = tt
told (Err y) e P is h = subst P (sym is) h

-- what an index gives, at itself
pub read_here : {X : Type 0} (xs : List X) (p : ℕ) (x : X) → p < length xs → get_or xs p x ≡ get_or xs p (get_or xs p x)
read_here xs p x l = get_or_default xs p x (get_or xs p x) l

-- no reader has ended yet
fresh : {X : Type 0} (remaining : X → Option (List ℕ)) (xs : List X) (i : ℕ)
    → IsAfterRounds 0 (get_or (replicate (length xs) false) i true) (get_or (map remaining xs) i None) (get_or (blank xs) i [])
fresh remaining [] i = (omega arith, tt)
fresh remaining (x ∷ xs) zero = refl
fresh remaining (x ∷ xs) (suc i) = fresh remaining xs i

pub first_round : {X : Type 0} (remaining : X → Option (List ℕ)) (old : List X) (ended : List Bool) → ended ≡ replicate (length old) false
    → IsInRound 0 0 ended (map remaining old) (blank old)
first_round remaining old ended e = record {
  before = λ i k. absurd (omega (arith, k));
  behind = λ i k. subst (λ es. IsAfterRounds 0 (get_or es i true) (get_or (map remaining old) i None) (get_or (blank old) i [])) (sym e) (fresh remaining old i);
}

-- one more has ended
pub ended_more : (ended : List Bool) (p : ℕ) → p < length ended → ((i : ℕ) → i < p → get_or ended i true ≡ true)
    → (i : ℕ) → i < p + 1 → get_or (set ended p true) i true ≡ true
ended_more ended p l all i k = elim (same_or_not i p) [
  | inl e ↦ subst (λ n. get_or (set ended p true) n true ≡ true) (sym e) (get_or-set_same ended p true true l)
  | inr n ↦ get_or-set_other ended p i true true n ∙ all i (omega (arith, k, n))
]
