-- Sessions of several files, joined; and one that is read frame by frame.
use Rattle.std.proofs.Common.{◌≡◌, ◌≢◌, ◌⊎◌, ◌<◌, ◌≤◌, ◌+◌, ◌∙◌, ◌++◌, ◌∷◌, [], ℕ, zero, suc, Bool, List, Option, length, map, take, get_or, inl, inr, refl, ap, arith, subst}
use Rattle.std.specs.Prelude.{Some, None, Result, Err, IfSome, IfErr}
use Rattle.session.specs.Ranges.{first_unhad}
use Rattle.session.specs.declared.range.PlaceRange.{PlaceRange}
use Rattle.std.specs.Io.KnownBytes.{IsAtEnd}
use Rattle.std.specs.Borrow.{Bor}
use Rattle.std.proofs.lemmas.List.{map-append, take_more}
use Rattle.session.specs.Frames.{frames, HasRead, IsFramed, IsSessionFault, IsNoFrame, StopsAt}
use Rattle.streams.specs.Changes.{ReaderChange, WriterChange}
use Rattle.session.specs.Joining.{IsUnjoined, IsWhole}
use Rattle.session.specs.Thinning.{IsUnthinned}
use Rattle.session.specs.declared.frame.FrameFault.{FrameFault}
use Rattle.session.specs.declared.frame.FrameFault.TheVariants.{CutLength, CutDatagram, TooLong, Io, NoMemory, NoSuchPlace}
use Rattle.commands.specs.declared.fault.Fault.{Fault}
use Rattle.commands.specs.declared.fault.Fault.TheVariants.{Open, File, Memory, Frame, Certificate, Fti, Send, NoPlace}
use Rattle.host.specs.World.{Files, World, Holds, IsSilent}
use Rattle.commands.specs.Inputs.{Input, Value, ASession, AStream, Datagrams, Opened, HasValue, HaveValues, AreThere, IsUnopened, IsUnread, IsFirstUnread}
use Rattle.request.specs.declared.requests.JoinRequest.{JoinRequest}
use Rattle.request.specs.declared.requests.Request.TheVariants.{Join}
use Rattle.send_commands.specs.Opening.{sessions, AreOpen, AreOpened, IsAppended, AreAppended, IsUnappendedOne, IsUnappended}
use Rattle.send_commands.proofs.Given.{line}
use Rattle.commands.proofs.Stopping.{WritesGiven, may_fail}
use Rattle.host.specs.World.{Opening, Reading as ReadingFile}
use Rattle.session.specs.Frames.{frame}
use Rattle.session.specs.Joined.{joined}
use Rattle.session.specs.Joining.{IsJoined}
use Rattle.session.proofs.Writes.{then_appends}
use Rattle.std.specs.Io.KnownBytes.{Appends}
use Rattle.std.proofs.lemmas.Grind.{flat_map-append}
use Rattle.std.proofs.lemmas.List.{append-nil, drop_more, length-map, nil_from_length, take_all}
use Rattle.std.proofs.Math.Seq.{take-append_seam}
use Rattle.std.proofs.Common.{Ok, false, drop, sym, codes, length-append, length-take-le, take-append-drop}
use Rattle.std.specs.Prelude.{IfOk}
use Rattle.send_commands.specs.Copying.{IsCutShort}
use Rattle.commands.specs.Outcomes.{IsBecause, MayCreate}
use Rattle.commands.specs.declared.output.Unwritten.{Unwritten}
use Rattle.commands.specs.declared.output.Unwritten.TheVariants as unwritten
use Rattle.commands.proofs.Stopping.{by_unread}
use Rattle.commands.proofs.Holding.{committed, holds_session, is_there}

abbrev pub texts : List (Bor (List ℕ)) → List (List ℕ)
texts names = map (λ name. name.now) names

-- one file more
open_more : (files : Option Files) (names : List (List ℕ)) (opened : List (Option (List ℕ))) (name : List ℕ) (input : Option (List ℕ))
    → AreOpen files names opened → HasValue files (AStream name) (Opened input) → AreOpen files (names ++ name ∷ []) (opened ++ input ∷ [])
open_more files [] [] name input are holds = (holds, tt)
open_more files [] (o ∷ os) name input are holds = absurd are
open_more files (n ∷ ns) [] name input are holds = absurd are
open_more files (n ∷ ns) (o ∷ os) name input are holds = (are.0, open_more files ns os name input are.1 holds)

pub name_opened : {X : Type 0} (remaining : X → Option (List ℕ)) (files : Option Files) (names : List (Bor (List ℕ))) (i : ℕ) (d : Bor (List ℕ)) (inputs : List X) (input : X) → i < length names
    → AreOpen files (texts (take i names)) (map remaining inputs) → HasValue files (AStream (get_or names i d).now) (Opened (remaining input))
    → AreOpen files (texts (take (i + 1) names)) (map remaining (inputs ++ input ∷ []))
name_opened remaining files names i d inputs input l are holds =
    let more : texts (take (i + 1) names) ≡ texts (take i names) ++ (get_or names i d).now ∷ [] =
    ap (λ (ns : List (Bor (List ℕ))). map (λ name. name.now) ns) (take_more names i d l) ∙ map-append (λ name. name.now) (take i names) (get_or names i d ∷ []) in
    rw (more, map-append remaining inputs (input ∷ []))
    (open_more files (texts (take i names)) (map remaining inputs) (get_or names i d).now (remaining input) are holds)

pub hold_sessions : (files : Option Files) (names : List (Bor (List ℕ))) (opened left : List (Option (List ℕ))) (lists : List (List (List ℕ))) → AreOpen files (texts names) opened
    → length lists ≡ length opened → ((i : ℕ) → HasRead (get_or opened i None) (get_or left i None) (get_or lists i [])) → ((i : ℕ) → IsAtEnd (get_or left i None))
    → HaveValues files (sessions names) (map Datagrams lists)
hold_sessions files [] [] left [] are many read ends = tt
hold_sessions files [] [] left (ds ∷ lists) are many read ends = absurd (omega (arith, many))
hold_sessions files [] (o ∷ os) left lists are many read ends = absurd are
hold_sessions files (n ∷ ns) [] left lists are many read ends = absurd are
hold_sessions files (n ∷ ns) (o ∷ os) left [] are many read ends = absurd (omega (arith, many))
hold_sessions files (n ∷ ns) (o ∷ os) [] (ds ∷ lists) are many read ends =
    (holds_session files n.now o None ds are.0 (read 0) (ends 0), hold_sessions files ns os [] lists are.1 (omega (arith, many)) (λ i. read (suc i)) (λ i. ends (suc i)))
hold_sessions files (n ∷ ns) (o ∷ os) (l ∷ ls) (ds ∷ lists) are many read ends =
    (holds_session files n.now o l ds are.0 (read 0) (ends 0), hold_sessions files ns os ls lists are.1 (omega (arith, many)) (λ i. read (suc i)) (λ i. ends (suc i)))

-- ---- faults

-- the fault of one file's frames
stops_at : (files : Option Files) (name : List ℕ) (opened : Option (List ℕ)) (fault : FrameFault) → HasValue files (AStream name) (Opened opened)
    → IfSome opened (StopsAt fault) → Holds files name (StopsAt fault)
stops_at None name opened fault opens why = tt
stops_at (Some held) name None fault opens why = let bad = opens.2 in absurd (cc)
stops_at (Some held) name (Some x) fault (bytes, there, is) why = (bytes, there, subst (λ (o : Option (List ℕ)). IfSome o (StopsAt fault)) is why)

frame_unread : (w : World) (name : List ℕ) (opened : Option (List ℕ)) (failed : Bool) (fault : FrameFault) → HasValue w.files (AStream name) (Opened opened)
    → fault ≢ Io → fault ≢ NoMemory → IsSessionFault fault opened failed → IsUnread w (ASession name) (Frame fault)
frame_unread w name opened failed CutLength opens io memory why = stops_at w.files name opened CutLength opens why
frame_unread w name opened failed CutDatagram opens io memory why = stops_at w.files name opened CutDatagram opens why
frame_unread w name opened failed TooLong opens io memory why = stops_at w.files name opened TooLong opens why
frame_unread w name opened failed Io opens io memory why = absurd (io refl)
frame_unread w name opened failed NoMemory opens io memory why = absurd (memory refl)
frame_unread w name opened failed (NoSuchPlace place) opens io memory why = absurd why

-- a file of frames is a session
whole_session : (files : Option Files) (name : List ℕ) (opened : Option (List ℕ)) → HasValue files (AStream name) (Opened opened) → IsWhole opened
    → (value : Value) × HasValue files (ASession name) value
whole_session None name opened opens whole = (Datagrams [], tt)
whole_session (Some held) name None opens whole = let bad = opens.2 in absurd (cc)
whole_session (Some held) name (Some x) (bytes, there, is) whole =
    let e : x ≡ bytes = cc in
    (Datagrams whole.0, (bytes, there, subst (λ (b : List ℕ). IsFramed whole.0 b) e whole.1))

unread_at : (w : World) (names : List (Bor (List ℕ))) (opened : List (Option (List ℕ))) (i : ℕ) (failed : Bool) (fault : FrameFault) → AreOpen w.files (texts names) opened
    → i < length opened → fault ≢ Io → fault ≢ NoMemory → IsSessionFault fault (get_or opened i None) failed → ((j : ℕ) → j < i → IsWhole (get_or opened j None))
    → IsFirstUnread w (sessions names) (Frame fault)
unread_at w [] [] i failed fault are l io memory why first = absurd (omega (arith, l))
unread_at w [] (o ∷ os) i failed fault are l io memory why first = absurd are
unread_at w (n ∷ ns) [] i failed fault are l io memory why first = absurd are
unread_at w (n ∷ ns) (o ∷ os) zero failed fault are l io memory why first = inl (frame_unread w n.now o failed fault are.0 io memory why)
unread_at w (n ∷ ns) (o ∷ os) (suc i) failed fault are l io memory why first =
    let here = whole_session w.files n.now o are.0 (first 0 (omega arith)) in
    inr (here.0, here.1, unread_at w ns os i failed fault are.1 (omega (arith, l)) io memory why (λ j lj. first (suc j) (omega (arith, lj))))

pub unjoined : (w : World) (names : List (Bor (List ℕ))) (opened : List (Option (List ℕ))) (turns : Bool) (fault : FrameFault) (sound failed : List Bool)
    (writer : WriterChange) → AreOpen w.files (texts names) opened
    → IsUnjoined turns fault opened sound failed writer → fault ≢ Io → fault ≢ NoMemory → IsFirstUnread w (sessions names) (Frame fault)
unjoined w names opened turns fault sound failed writer are why io memory = elim why.because [
  | inl blamed ↦ unread_at w names opened blamed.place _ fault are blamed.inside io memory blamed.because (blamed.first memory)
  | inr others ↦ elim others [
    | inl full ↦ absurd (io full.0)
    | inr none ↦ absurd (memory none)
  ]
]

-- a session that was thinned: its frames stop, or it hasn't a place
stops : (fault : FrameFault) (x : List ℕ) (ds : List (List ℕ)) (left : Option (List ℕ)) → HasRead (Some x) left ds → IfSome left (IsNoFrame fault) → StopsAt fault x
stops fault x ds None read none = absurd read.consumed
stops fault x ds (Some rest) read none =
    record { datagrams = ds; front = frames ds; rest = rest; framed = record { whole = refl; each = read.each }; whole = read.consumed; stops = none }

stopped_at : (fault : FrameFault) (opened left : Option (List ℕ)) (ds : List (List ℕ)) → HasRead opened left ds → IfSome left (IsNoFrame fault) → IfSome opened (StopsAt fault)
stopped_at fault None left ds read none = tt
stopped_at fault (Some x) left ds read none = stops fault x ds left read none

abbrev pub LacksPlace : Option Files → List ℕ → List PlaceRange → FrameFault → Type 0
LacksPlace files name ranges (NoSuchPlace place) =
    (datagrams : List (List ℕ)) × HasValue files (ASession name) (Datagrams datagrams) × (first_unhad (length datagrams) ranges ≡ Some place)
LacksPlace files name ranges fault = ⊥

pub unthinned : (w : World) (name : List ℕ) (fault : FrameFault) (ranges : List PlaceRange) (reader : ReaderChange) (room : ℕ)
    (writer_failed : Bool) → HasValue w.files (AStream name) (Opened reader.before) → fault ≢ Io → fault ≢ NoMemory → IsUnthinned fault ranges reader room writer_failed
    → IsUnread w (ASession name) (Frame fault) ⊎ LacksPlace w.files name ranges fault
unthinned w name Io ranges reader room writer_failed opens io memory why = absurd (io refl)
unthinned w name NoMemory ranges reader room writer_failed opens io memory why = absurd (memory refl)
unthinned w name (NoSuchPlace p) ranges reader room writer_failed opens io memory (ends, ds, read, outside) =
    inr (ds, holds_session w.files name reader.before reader.after ds opens read ends, outside)
unthinned w name CutLength ranges reader room writer_failed opens io memory (ds, left, read, none) =
    inl (stops_at w.files name reader.before CutLength opens (stopped_at CutLength reader.before left ds read none.0))
unthinned w name CutDatagram ranges reader room writer_failed opens io memory (ds, left, read, none) =
    inl (stops_at w.files name reader.before CutDatagram opens (stopped_at CutDatagram reader.before left ds read none.0))
unthinned w name TooLong ranges reader room writer_failed opens io memory (ds, left, read, none) =
    inl (stops_at w.files name reader.before TooLong opens (stopped_at TooLong reader.before left ds read none.0))

-- a list at one of its places
pub split_at : (names : List (Bor (List ℕ))) (i : ℕ) (d : Bor (List ℕ)) → i < length names → take i names ++ get_or names i d ∷ drop (i + 1) names ≡ names
split_at names i d l = sym (sym (take-append-drop i names) ∙ ap (λ (ns : List (Bor (List ℕ))). take i names ++ ns) (drop_more names i d l))

-- ---- one session after the other

-- those before the first that isn't opened are there
unopened_here : (w : World) (name : List ℕ) (fault : Fault) → IsUnopened w name fault → IsUnread w (ASession name) fault
unopened_here w name (Open n) why = why
unopened_here w name (File n) why = absurd why
unopened_here w name Memory why = tt
unopened_here w name (Frame e) why = absurd why
unopened_here w name (Certificate e) why = absurd why
unopened_here w name (Fti e) why = absurd why
unopened_here w name (Send e) why = absurd why
unopened_here w name (NoPlace n) why = absurd why

pub unread_behind : (w : World) (inputs behind : List Input) (name : List ℕ) (lists : List (List (List ℕ))) (fault : Fault) → HaveValues w.files inputs (map Datagrams lists)
    → IsUnread w (ASession name) fault → IsFirstUnread w (inputs ++ ASession name ∷ behind) fault
unread_behind w [] behind name lists fault have why = inl why
unread_behind w (n ∷ ns) behind name [] fault have why = absurd have
unread_behind w (n ∷ ns) behind name (ds ∷ lists) fault have why = inr (Datagrams ds, have.0, unread_behind w ns behind name lists fault have.1 why)

-- a fault of the first is one of all
unread_before : (w : World) (names behind : List (Bor (List ℕ))) (fault : Fault) → IsFirstUnread w (sessions names) fault → IsFirstUnread w (sessions (names ++ behind)) fault
unread_before w [] behind fault why = absurd why
unread_before w (n ∷ ns) behind fault (inl here) = inl here
unread_before w (n ∷ ns) behind fault (inr (value, has, later)) = inr (value, has, unread_before w ns behind fault later)

joined_more : (lists : List (List (List ℕ))) (ds : List (List ℕ)) → joined false (lists ++ ds ∷ []) ≡ joined false lists ++ ds
joined_more lists ds = flat_map-append (λ (xs : List (List ℕ)). xs) lists (ds ∷ []) ∙ ap (λ (xs : List (List ℕ)). joined false lists ++ xs) (append-nil ds)

frames_joined : (xs ys : List (List ℕ)) → frames (xs ++ ys) ≡ frames xs ++ frames ys
frames_joined xs ys = flat_map-append frame xs ys

-- the first alone
pub first_appended : (files : Option Files) (name : List ℕ) (opened before after : Option (List ℕ)) (count : ℕ) → HasValue files (AStream name) (Opened opened)
    → IsAppended opened before after count → AreAppended files (ASession name ∷ []) before after count
first_appended files name opened before after count held one = record {
  lists = one.datagrams ∷ [];
  have = (holds_session files name opened one.rest one.datagrams held one.read one.end, tt);
  written = subst (λ (ds : List (List ℕ)). Appends before after (frames ds)) (sym (append-nil one.datagrams)) one.written;
  counted = one.counted ∙ ap length (sym (append-nil one.datagrams));
}

have_more : (files : Option Files) (inputs : List Input) (lists : List (List (List ℕ))) (name : List ℕ) (ds : List (List ℕ)) → HaveValues files inputs (map Datagrams lists)
    → HasValue files (ASession name) (Datagrams ds) → HaveValues files (inputs ++ ASession name ∷ []) (map Datagrams (lists ++ ds ∷ []))
have_more files [] [] name ds have has = (has, tt)
have_more files [] (l ∷ lists) name ds have has = absurd have
have_more files (n ∷ ns) [] name ds have has = absurd have
have_more files (n ∷ ns) (l ∷ lists) name ds have has = (have.0, have_more files ns lists name ds have.1 has)

-- one more
pub appended_more : (files : Option Files) (inputs : List Input) (name : List ℕ) (opened before middle after : Option (List ℕ)) (count more : ℕ)
    → AreAppended files inputs before middle count → HasValue files (AStream name) (Opened opened) → IsAppended opened middle after more
    → AreAppended files (inputs ++ ASession name ∷ []) before after (count + more)
appended_more files inputs name opened before middle after count more all held one =
    let e : joined false (all.lists ++ one.datagrams ∷ []) ≡ joined false all.lists ++ one.datagrams = joined_more all.lists one.datagrams in
    let size = length-append (joined false all.lists) one.datagrams in
    record {
      lists = all.lists ++ one.datagrams ∷ [];
      have = have_more files inputs all.lists name one.datagrams all.have (holds_session files name opened one.rest one.datagrams held one.read one.end);
      written = subst (λ (x : List ℕ). Appends before after x) (sym (ap frames e ∙ frames_joined (joined false all.lists) one.datagrams))
          (then_appends before middle after (frames (joined false all.lists)) (frames one.datagrams) all.written one.written);
      counted = ap (λ (n : ℕ). n + more) all.counted ∙ ap (λ (n : ℕ). length (joined false all.lists) + n) one.counted ∙ sym size ∙ ap length (sym e);
    }

-- one more of the others
pub other_appended : (files : Option Files) (first : List ℕ) (others : List (Bor (List ℕ))) (i : ℕ) (d : Bor (List ℕ)) (opened before middle after : Option (List ℕ)) (count more sum : ℕ) → i < length others
    → AreAppended files (ASession first ∷ sessions (take i others)) before middle count → HasValue files (AStream (get_or others i d).now) (Opened opened) → IsAppended opened middle after more
    → sum ≡ count + more → AreAppended files (ASession first ∷ sessions (take (i + 1) others)) before after sum
other_appended files first others i d opened before middle after count more sum l all held one is =
    let these : ASession first ∷ sessions (take (i + 1) others) ≡ (ASession first ∷ sessions (take i others)) ++ ASession (get_or others i d).now ∷ [] =
    ap (λ (ns : List (Bor (List ℕ))). ASession first ∷ sessions ns) (take_more others i d l)
    ∙ ap (λ (inputs : List Input). ASession first ∷ inputs) (map-append (λ (name : Bor (List ℕ)). ASession name.now) (take i others) (get_or others i d ∷ [])) in
    subst (λ (inputs : List Input). AreAppended files inputs before after sum) (sym these)
    (subst (λ (n : ℕ). AreAppended files ((ASession first ∷ sessions (take i others)) ++ ASession (get_or others i d).now ∷ []) before after n) (sym is)
    (appended_more files (ASession first ∷ sessions (take i others)) (get_or others i d).now opened before middle after count more all held one))

-- a session that was joined alone
one_appended : (opened : Option (List ℕ)) (new : List (Option (List ℕ))) (before after : Option (List ℕ)) (count : ℕ) → IsJoined false (opened ∷ []) new before after count → IsAppended opened before after count
one_appended opened new before after count all = go all.lists all.many all.read all.written all.counted
  where
    go : (lists : List (List (List ℕ))) → length lists ≡ 1 → ((i : ℕ) → HasRead (get_or (opened ∷ []) i None) (get_or new i None) (get_or lists i []))
        → Appends before after (frames (joined false lists)) → count ≡ length (joined false lists) → IsAppended opened before after count
    go [] many read written counted = absurd (omega (arith, many))
    go (ds ∷ []) many read written counted = record {
      datagrams = ds;
      rest = get_or new 0 None;
      read = read 0;
      end = all.ends 0;
      written = subst (λ (xs : List (List ℕ)). Appends before after (frames xs)) (append-nil ds) written;
      counted = counted ∙ ap length (append-nil ds);
    }
    go (ds ∷ other ∷ lists) many read written counted = absurd (omega (arith, many))

pub ok_appended : (w : Result ℕ Unwritten) (opened : Option (List ℕ)) (readers new : List (Option (List ℕ))) (before after : Option (List ℕ)) → readers ≡ opened ∷ []
    → IfOk w (IsJoined false readers new before after) → IfOk w (IsAppended opened before after)
ok_appended (Ok n) opened readers new before after alone h = one_appended opened new before after n (subst (λ (rs : List (Option (List ℕ))). IsJoined false rs new before after n) alone h)
ok_appended (Err e) opened readers new before after alone h = tt

one_unappended : (opened : Option (List ℕ)) (sound failed : List Bool) (writer : WriterChange) (u : Unwritten)
    → IsCutShort (λ e. IsUnjoined false e (opened ∷ []) sound failed writer) u → IsUnappendedOne opened u
one_unappended opened sound failed writer unwritten.Writing why = tt
one_unappended opened sound failed writer (unwritten.Fault (Open n)) why = absurd why
one_unappended opened sound failed writer (unwritten.Fault (File n)) why = absurd why
one_unappended opened sound failed writer (unwritten.Fault Memory) why = tt
one_unappended opened sound failed writer (unwritten.Fault (Frame e)) why = elim why.2.because [
  | inl blamed ↦ (why.0, why.1, get_or failed blamed.place false, at blamed.place blamed.inside _ blamed.because)
  | inr others ↦ elim others [
    | inl full ↦ absurd (why.0 full.0)
    | inr none ↦ absurd (why.1 none)
  ]
]
  where
    at : (i : ℕ) → i < 1 → (f : Bool) → IsSessionFault e (get_or (opened ∷ []) i None) f → IsSessionFault e opened f
    at zero l f why = why
    at (suc i) l f why = absurd (omega (arith, l))
one_unappended opened sound failed writer (unwritten.Fault (Certificate e)) why = absurd why
one_unappended opened sound failed writer (unwritten.Fault (Fti e)) why = absurd why
one_unappended opened sound failed writer (unwritten.Fault (Send e)) why = absurd why
one_unappended opened sound failed writer (unwritten.Fault (NoPlace n)) why = absurd why

pub err_unappended : (w : Result ℕ Unwritten) (opened : Option (List ℕ)) (readers : List (Option (List ℕ))) (sound failed : List Bool) (writer : WriterChange) → readers ≡ opened ∷ []
    → IfErr w (IsCutShort (λ e. IsUnjoined false e readers sound failed writer)) → IfErr w (IsUnappendedOne opened)
err_unappended (Ok n) opened readers sound failed writer alone h = tt
err_unappended (Err u) opened readers sound failed writer alone h =
    one_unappended opened sound failed writer u (subst (λ (rs : List (Option (List ℕ))). IsCutShort (λ e. IsUnjoined false e rs sound failed writer) u) alone h)

-- why one of the files isn't copied is why all aren't
pub unappended_behind : (w : World) (inputs behind : List Input) (name : List ℕ) (lists : List (List (List ℕ))) (opened : Option (List ℕ)) (u : Unwritten)
    → HaveValues w.files inputs (map Datagrams lists) → HasValue w.files (AStream name) (Opened opened) → IsUnappendedOne opened u → IsUnappended w (inputs ++ ASession name ∷ behind) u
unappended_behind w inputs behind name lists opened unwritten.Writing have held why = tt
unappended_behind w inputs behind name lists opened (unwritten.Fault (Open n)) have held why = absurd why
unappended_behind w inputs behind name lists opened (unwritten.Fault (File n)) have held why = absurd why
unappended_behind w inputs behind name lists opened (unwritten.Fault Memory) have held why = tt
unappended_behind w inputs behind name lists opened (unwritten.Fault (Frame e)) have held why =
    unread_behind w inputs behind name lists (Frame e) have (frame_unread w name opened why.2 e held why.0 why.1 why.3)
unappended_behind w inputs behind name lists opened (unwritten.Fault (Certificate e)) have held why = absurd why
unappended_behind w inputs behind name lists opened (unwritten.Fault (Fti e)) have held why = absurd why
unappended_behind w inputs behind name lists opened (unwritten.Fault (Send e)) have held why = absurd why
unappended_behind w inputs behind name lists opened (unwritten.Fault (NoPlace n)) have held why = absurd why

unopened_appended : (w : World) (inputs behind : List Input) (name : List ℕ) (lists : List (List (List ℕ))) (fault : Fault)
    → HaveValues w.files inputs (map Datagrams lists) → IsUnopened w name fault → IsUnappended w (inputs ++ ASession name ∷ behind) (unwritten.Fault fault)
unopened_appended w inputs behind name lists (Open n) have why = unread_behind w inputs behind name lists (Open n) have why
unopened_appended w inputs behind name lists (File n) have why = absurd why
unopened_appended w inputs behind name lists Memory have why = tt
unopened_appended w inputs behind name lists (Frame e) have why = absurd why
unopened_appended w inputs behind name lists (Certificate e) have why = absurd why
unopened_appended w inputs behind name lists (Fti e) have why = absurd why
unopened_appended w inputs behind name lists (Send e) have why = absurd why
unopened_appended w inputs behind name lists (NoPlace n) have why = absurd why

module _ (w : World) (first : List ℕ) (others : List (Bor (List ℕ))) (i : ℕ) (d : Bor (List ℕ)) (l : i < length others) (before middle : Option (List ℕ)) (count : ℕ)
    (all : AreAppended w.files (ASession first ∷ sessions (take i others)) before middle count) where
  whole : ASession first ∷ sessions others ≡ (ASession first ∷ sessions (take i others)) ++ ASession (get_or others i d).now ∷ sessions (drop (i + 1) others)
  whole =
      ap (λ (ns : List (Bor (List ℕ))). ASession first ∷ sessions ns) (sym (split_at others i d l))
      ∙ ap (λ (inputs : List Input). ASession first ∷ inputs) (map-append (λ (name : Bor (List ℕ)). ASession name.now) (take i others) (get_or others i d ∷ drop (i + 1) others))

  pub other_unopened : (fault : Fault) → IsUnopened w (get_or others i d).now fault → IsUnappended w (ASession first ∷ sessions others) (unwritten.Fault fault)
  other_unopened fault why =
      subst (λ (inputs : List Input). IsUnappended w inputs (unwritten.Fault fault)) (sym whole)
      (unopened_appended w (ASession first ∷ sessions (take i others)) (sessions (drop (i + 1) others)) (get_or others i d).now all.lists fault all.have why)

  pub other_unappended : (opened : Option (List ℕ)) (u : Unwritten) → HasValue w.files (AStream (get_or others i d).now) (Opened opened) → IsUnappendedOne opened u
      → IsUnappended w (ASession first ∷ sessions others) u
  other_unappended opened u held why =
      subst (λ (inputs : List Input). IsUnappended w inputs u) (sym whole)
      (unappended_behind w (ASession first ∷ sessions (take i others)) (sessions (drop (i + 1) others)) (get_or others i d).now all.lists opened u all.have held why)

-- ---- the commands

module _ (old new : World) (r : JoinRequest) (inputs : List Input) (all : sessions r.sessions.items ≡ inputs) where
  appended_fault : (f : Fault) → IsUnappended old inputs (unwritten.Fault f) → IsBecause old new (Join r) [] f
  appended_fault (Open n) why = by_unread old new (Join r) [] (Open n) (rw all why)
  appended_fault (File n) why = by_unread old new (Join r) [] (File n) (rw all why)
  appended_fault Memory why = tt
  appended_fault (Frame e) why = by_unread old new (Join r) [] (Frame e) (rw all why)
  appended_fault (Certificate e) why = by_unread old new (Join r) [] (Certificate e) (rw all why)
  appended_fault (Fti e) why = by_unread old new (Join r) [] (Fti e) (rw all why)
  appended_fault (Send e) why = by_unread old new (Join r) [] (Send e) (rw all why)
  appended_fault (NoPlace n) why = by_unread old new (Join r) [] (NoPlace n) (rw all why)

  pub because_unappended : (w : Result ℕ Unwritten) → IfErr w (IsUnappended old inputs) → (f : Fault) → w ≡ Err (unwritten.Fault f) → IsBecause old new (Join r) [] f
  because_unappended w why f is = appended_fault f (subst (λ (x : Result ℕ Unwritten). IfErr x (IsUnappended old inputs)) is why)

-- what was written of them
pub joined_in_order : (files : Option Files) (r : JoinRequest) (inputs : List Input) (blank contents : Option (List ℕ)) (count : ℕ) → sessions r.sessions.items ≡ inputs → r.turns ≡ false
    → AreAppended files inputs blank contents count → WritesGiven files (Join r) (line (codes "joined") (codes " datagrams") count) 0 blank contents
joined_in_order files r inputs blank contents count all order h = record {
  bytes = frames (joined r.turns h.lists);
  values = map Datagrams h.lists;
  read = rw all h.have;
  gives = (h.lists, refl, (rw order (ap (line (codes "joined") (codes " datagrams")) h.counted), refl, refl));
  gained = rw order h.written;
}

-- what was read while an output was asked for
module _ (old mid : World) (files : mid.files ≡ old.files) (silent : IsSilent old mid) where
  stops_still : (name : List ℕ) (fault : FrameFault) → Holds mid.files name (StopsAt fault) → Holds old.files name (StopsAt fault)
  stops_still name fault h = subst (λ (f : Option Files). Holds f name (StopsAt fault)) files h

  unread_still : (name : List ℕ) (fault : Fault) → IsUnread mid (ASession name) fault → IsUnread old (ASession name) fault
  unread_still name (Open n) (is, inl fails) = (is, inl (may_fail old mid (Opening name) files silent.refused fails))
  unread_still name (Open n) (is, inr none) = (is, inr (subst (λ (f : Option Files). IfSome f (λ held. held name ≡ None)) files none))
  unread_still name (File n) (is, fails) = (is, may_fail old mid (ReadingFile name) files silent.refused fails)
  unread_still name Memory why = tt
  unread_still name (Frame CutLength) why = stops_still name CutLength why
  unread_still name (Frame CutDatagram) why = stops_still name CutDatagram why
  unread_still name (Frame TooLong) why = stops_still name TooLong why
  unread_still name (Frame Io) why = may_fail old mid (ReadingFile name) files silent.refused why
  unread_still name (Frame NoMemory) why = tt
  unread_still name (Frame (NoSuchPlace place)) why = absurd why
  unread_still name (Certificate e) why = absurd why
  unread_still name (Fti e) why = absurd why
  unread_still name (Send e) why = absurd why
  unread_still name (NoPlace n) why = absurd why

  first_still : (names : List (Bor (List ℕ))) (fault : Fault) → IsFirstUnread mid (sessions names) fault → IsFirstUnread old (sessions names) fault
  first_still [] fault why = absurd why
  first_still (n ∷ ns) fault (inl here) = inl (unread_still n.now fault here)
  first_still (n ∷ ns) fault (inr (value, has, later)) = inr (value, subst (λ (f : Option Files). HasValue f (ASession n.now) value) files has, first_still ns fault later)

  unappended_still : (names : List (Bor (List ℕ))) (u : Unwritten) → IsUnappended mid (sessions names) u → IsUnappended old (sessions names) u
  unappended_still names unwritten.Writing why = tt
  unappended_still names (unwritten.Fault (Open n)) why = first_still names (Open n) why
  unappended_still names (unwritten.Fault (File n)) why = first_still names (File n) why
  unappended_still names (unwritten.Fault Memory) why = tt
  unappended_still names (unwritten.Fault (Frame e)) why = first_still names (Frame e) why
  unappended_still names (unwritten.Fault (Certificate e)) why = first_still names (Certificate e) why
  unappended_still names (unwritten.Fault (Fti e)) why = first_still names (Fti e) why
  unappended_still names (unwritten.Fault (Send e)) why = first_still names (Send e) why
  unappended_still names (unwritten.Fault (NoPlace n)) why = first_still names (NoPlace n) why

  pub err_still : (names : List (Bor (List ℕ))) (w : Result ℕ Unwritten) → IfErr w (IsUnappended mid (sessions names)) → IfErr w (IsUnappended old (sessions names))
  err_still names (Ok n) why = tt
  err_still names (Err u) why = unappended_still names u why

-- ---- all at once

front : ℕ → List (Bor (List ℕ)) → List (Bor (List ℕ))
front n names = take n names

take_front : (before behind : List (Bor (List ℕ))) → take (length before) (before ++ behind) ≡ before
take_front before behind = take-append_seam before behind

module _ (w : World) (names : List (Bor (List ℕ))) (opened : List (Option (List ℕ))) where
  -- those that were opened were read to their ends, and the next isn't there
  pub next_unread : (fault : Fault) → AreOpened w names opened (Some fault) → (left : List (Option (List ℕ))) (lists : List (List (List ℕ))) → length lists ≡ length opened
      → ((i : ℕ) → HasRead (get_or opened i None) (get_or left i None) (get_or lists i [])) → ((i : ℕ) → IsAtEnd (get_or left i None))
      → IsFirstUnread w (sessions names) fault
  next_unread fault are left lists many read ends =
      let n = are.next in
      let before : List (Bor (List ℕ)) = n.0 in
      let is : names ≡ before ++ n.1 ∷ n.2 = n.3 in
      let size : length before ≡ length opened = n.4 in
      let these : take (length opened) names ≡ before = ap (λ (ns : List (Bor (List ℕ))). take (length opened) ns) is ∙ ap (λ (k : ℕ). take k (before ++ n.1 ∷ n.2)) (sym size) ∙ take_front before (n.1 ∷ n.2) in
      let those = subst (λ (ns : List (Bor (List ℕ))). AreOpen w.files (texts ns) opened) these are.those in
      let have = hold_sessions w.files before opened left lists those many read ends in
      subst (λ (ns : List (Bor (List ℕ))). IsFirstUnread w (sessions ns) fault) (sym is) (subst (λ (inputs : List Input). IsFirstUnread w inputs fault) (sym (map-append (λ (name : Bor (List ℕ)). ASession name.now) before (n.1 ∷ n.2)))
      (unread_behind w (sessions before) (sessions n.2) n.1.now lists fault have (unopened_here w n.1.now fault n.5)))

  -- one of those that were opened has a fault
  pub opened_unread : (unopened : Option Fault) → AreOpened w names opened unopened → (turns : Bool) (fault : FrameFault) (sound failed : List Bool) (writer : WriterChange)
      → IsUnjoined turns fault opened sound failed writer → fault ≢ Io → fault ≢ NoMemory → IsFirstUnread w (sessions names) (Frame fault)
  opened_unread unopened are turns fault sound failed writer why io memory =
      subst (λ (ns : List (Bor (List ℕ))). IsFirstUnread w (sessions ns) (Frame fault)) (take-append-drop (length opened) names)
      (unread_before w (take (length opened) names) (drop (length opened) names) (Frame fault)
      (unjoined w (take (length opened) names) opened turns fault sound failed writer are.those why io memory))

module _ (old new : World) (r : JoinRequest) (opened : List (Option (List ℕ))) (unopened : Option Fault) (are : AreOpened old r.sessions.items opened unopened) (turns : Bool) (sound failed : List Bool)
    (writer : WriterChange) where
  join_fault : (f : Fault) → IsCutShort (λ e. IsUnjoined turns e opened sound failed writer) (unwritten.Fault f) → IsBecause old new (Join r) [] f
  join_fault (Open n) why = absurd why
  join_fault (File n) why = absurd why
  join_fault Memory why = tt
  join_fault (Frame e) why =
      by_unread old new (Join r) [] (Frame e) (opened_unread old r.sessions.items opened unopened are turns e sound failed writer why.2 why.0 why.1)
  join_fault (Certificate e) why = absurd why
  join_fault (Fti e) why = absurd why
  join_fault (Send e) why = absurd why
  join_fault (NoPlace n) why = absurd why

  pub because_unjoined : (w : Result ℕ Unwritten) → IfErr w (IsCutShort (λ e. IsUnjoined turns e opened sound failed writer))
      → (f : Fault) → w ≡ Err (unwritten.Fault f) → IsBecause old new (Join r) [] f
  because_unjoined w why f is =
      join_fault f (subst (λ (x : Result ℕ Unwritten). IfErr x (IsCutShort (λ e. IsUnjoined turns e opened sound failed writer))) is why)

-- those that were opened are as many
many_open : (files : Option Files) (names : List (Bor (List ℕ))) (opened : List (Option (List ℕ))) → AreOpen files (texts names) opened → length names ≡ length opened
many_open files [] [] are = refl
many_open files [] (o ∷ os) are = absurd are
many_open files (n ∷ ns) [] are = absurd are
many_open files (n ∷ ns) (o ∷ os) are = ap suc (many_open files ns os are.1)

-- the first is there, if there is one
pub first_there : (w : World) (names : List (Bor (List ℕ))) (opened : List (Option (List ℕ))) (unopened : Option Fault) → AreOpened w names opened unopened → AreThere w.files (take 1 (sessions names))
first_there w [] opened unopened are = tt
first_there w (n ∷ ns) [] unopened are = absurd (let e = are.first refl in cc)
first_there w (n ∷ ns) (o ∷ os) unopened are = (is_there w.files n.now o are.those.0, tt)

-- up to one that isn't opened
module _ (w : World) (names : List (Bor (List ℕ))) (i : ℕ) (d : Bor (List ℕ)) (opened : List (Option (List ℕ))) (fault : Fault) (l : i < length names)
    (are : AreOpen w.files (texts (take i names)) opened) (why : IsUnopened w (get_or names i d).now fault) where
  many : length opened ≡ i
  many = sym (many_open w.files (take i names) opened are) ∙ length-take-le i names (omega (arith, l))

  split : names ≡ take i names ++ get_or names i d ∷ drop (i + 1) names
  split = sym (split_at names i d l)

  pub opened_before : 0 < length opened → AreOpened w names opened (Some fault)
  opened_before some = record {
    those = subst (λ (n : ℕ). AreOpen w.files (texts (take n names)) opened) (sym many) are;
    next = (take i names, get_or names i d, drop (i + 1) names, split, length-take-le i names (omega (arith, l)) ∙ sym many, why);
    first = λ none. absurd (let e = ap length none in omega (arith, e, some));
  }

  pub stopped_first : length opened ≡ 0 → IsFirstUnread w (sessions names) fault
  stopped_first none =
      let at : i ≡ 0 = sym many ∙ none in
      let front : take i names ≡ [] = ap (λ (n : ℕ). take n names) at in
      subst (λ (ns : List (Bor (List ℕ))). IsFirstUnread w (sessions ns) fault) (sym (split ∙ ap (λ (ns : List (Bor (List ℕ))). ns ++ get_or names i d ∷ drop (i + 1) names) front))
      (inl (unopened_here w (get_or names i d).now fault why))

pub all_opened : (w : World) (names : List (Bor (List ℕ))) (opened : List (Option (List ℕ))) → AreOpen w.files (texts (take (length names) names)) opened → AreOpened w names opened None
all_opened w names opened are =
    let whole : take (length names) names ≡ names = take_all (length names) names (omega arith) in
    let those = subst (λ (ns : List (Bor (List ℕ))). AreOpen w.files (texts ns) opened) whole are in
    let size = many_open w.files names opened those in
    record {
      those = subst (λ (n : ℕ). AreOpen w.files (texts (take n names)) opened) size are;
      next = sym size;
      first = λ none. nil_from_length names (size ∙ ap length none);
    }

pub all_opened_by : (w : World) (names : List (Bor (List ℕ))) (i : ℕ) (opened : List (Option (List ℕ))) → length names ≤ i → i ≤ length names → AreOpen w.files (texts (take i names)) opened
    → AreOpened w names opened None
all_opened_by w names i opened most least are =
    let e : i ≡ length names = omega (arith, most, least) in
    all_opened w names opened (subst (λ (n : ℕ). AreOpen w.files (texts (take n names)) opened) e are)

-- what `up_to` answers of those before one that isn't opened
module _ {X : Type 0} (w : World) (names : List (Bor (List ℕ))) (i : ℕ) (d : Bor (List ℕ)) (remaining : X → Option (List ℕ)) (inputs : List X) (fault : Fault) (l : i < length names)
    (are : AreOpen w.files (texts (take i names)) (map remaining inputs)) (why : IsUnopened w (get_or names i d).now fault) where
  pub ok_up_to : (got : List X) (unopened : Option Fault) → (got ≡ inputs) × (unopened ≡ Some fault) × (0 < length inputs) → AreOpened w names (map remaining got) unopened
  ok_up_to got unopened (same, is, some) =
      subst (λ (xs : List X). AreOpened w names (map remaining xs) unopened) (sym same)
      (subst (λ (o : Option Fault). AreOpened w names (map remaining inputs) o) (sym is)
      (opened_before w names i d (map remaining inputs) fault l are why (let e = length-map inputs remaining in omega (arith, e, some))))

  pub err_up_to : (e : Fault) → (e ≡ fault) × (length inputs ≡ 0) → IsFirstUnread w (sessions names) e
  err_up_to e (is, none) =
      subst (λ (f : Fault). IsFirstUnread w (sessions names) f) (sym is) (stopped_first w names i d (map remaining inputs) fault l are why (length-map inputs remaining ∙ none))

-- why all that were opened aren't joined, or that the next one wasn't opened
pub because_unjoined_next : (old new : World) (r : JoinRequest) (opened : List (Option (List ℕ))) (unopened : Option Fault) (are : AreOpened old r.sessions.items opened unopened) (turns : Bool)
    (sound failed : List Bool) (left : List (Option (List ℕ))) (before after : Option (List ℕ)) (writer : WriterChange) (one : Result ℕ Unwritten)
    → IfErr one (IsCutShort (λ e. IsUnjoined turns e opened sound failed writer)) → IfOk one (IsJoined turns opened left before after) → (all : Result ℕ Unwritten)
    → IfErr all (λ e. (one ≡ Err e) ⊎ ((n : ℕ) × (fault : Fault) × (one ≡ Ok n) × (unopened ≡ Some fault) × (e ≡ unwritten.Fault fault)))
    → (f : Fault) → all ≡ Err (unwritten.Fault f) → IsBecause old new (Join r) [] f
because_unjoined_next old new r opened unopened are turns sound failed left before after writer one why ok (Ok n) or f is = absurd (cc)
because_unjoined_next old new r opened unopened are turns sound failed left before after writer one why ok (Err e) (inl same) f is =
    because_unjoined old new r opened unopened are turns sound failed writer one why f (same ∙ is)
because_unjoined_next old new r opened unopened are turns sound failed left before after writer one why ok (Err e) (inr (n, fault, done, next, told)) f is =
    let all = committed one n (IsJoined turns opened left before after) done ok in
    let same : f ≡ fault = same_fault e f fault is told in
    subst (λ (x : Fault). IsBecause old new (Join r) [] x) (sym same)
    (by_unread old new (Join r) [] fault
    (next_unread old r.sessions.items opened fault (subst (λ (o : Option Fault). AreOpened old r.sessions.items opened o) next are) left all.lists all.many all.read all.ends))
  where
    equal : Result ℕ Unwritten → Result ℕ Unwritten → Type 0
    equal a b = a ≡ b

    Is : Unwritten → Fault → Type 0
    Is e f = equal (Err e) (Err (unwritten.Fault f))

    same_fault : (e : Unwritten) (f fault : Fault) → Is e f → e ≡ unwritten.Fault fault → f ≡ fault
    same_fault e f fault p q = cc

-- what was written of them
pub joined_at_once : (w : World) (r : JoinRequest) (opened left : List (Option (List ℕ))) (blank contents : Option (List ℕ)) (count : ℕ) → AreOpened w r.sessions.items opened None
    → IsJoined r.turns opened left blank contents count → WritesGiven w.files (Join r) (line (codes "joined") (codes " datagrams") count) 0 blank contents
joined_at_once w r opened left blank contents count are all =
    let whole : take (length opened) r.sessions.items ≡ r.sessions.items = take_all (length opened) r.sessions.items (let e = are.next in omega (arith, e)) in
    let those = subst (λ (ns : List (Bor (List ℕ))). AreOpen w.files (texts ns) opened) whole are.those in
    record {
      bytes = frames (joined r.turns all.lists);
      values = map Datagrams all.lists;
      read = hold_sessions w.files r.sessions.items opened left all.lists those all.many all.read all.ends;
      gives = (all.lists, refl, (ap (line (codes "joined") (codes " datagrams")) all.counted, refl, refl));
      gained = all.written;
    }

pub joined_unless : (w : World) (r : JoinRequest) (opened left : List (Option (List ℕ))) (unopened : Option Fault) (blank contents : Option (List ℕ)) (count : ℕ) → AreOpened w r.sessions.items opened unopened
    → (one : Result ℕ Unwritten) → IfOk one (IsJoined r.turns opened left blank contents) → (one ≡ Ok count) × (unopened ≡ None)
    → WritesGiven w.files (Join r) (line (codes "joined") (codes " datagrams") count) 0 blank contents
joined_unless w r opened left unopened blank contents count are one joins (done, none) =
    joined_at_once w r opened left blank contents count (subst (λ (o : Option Fault). AreOpened w r.sessions.items opened o) none are)
    (committed one count (IsJoined r.turns opened left blank contents) done joins)

-- the first session is there
pub first_of_all : (files : Option Files) (r : JoinRequest) (first : Bor (List ℕ)) (others : List (Bor (List ℕ))) (opened : Option (List ℕ)) → r.sessions.items ≡ first ∷ others
    → HasValue files (AStream first.now) (Opened opened) → MayCreate files (Join r)
first_of_all files r first others opened all held =
    subst (λ (names : List (Bor (List ℕ))). AreThere files (take 1 (sessions names))) (sym all) (is_there files first.now opened held, tt)
