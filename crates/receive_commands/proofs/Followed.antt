-- Datagrams that come one by one, and one more.
use Rattle.std.proofs.Common.{◌≡◌, ◌≢◌, ◌⊎◌, ◌≤◌, ◌+◌, ◌-◌, ◌^◌, ◌∙◌, ℕ, suc, Bool, true, false, List, [], ◌∷◌, ◌++◌, length, Option, Some, None, Ok, Err, inl, inr, refl, sym, ap, subst, arith, append_assoc}
use Rattle.std.specs.Prelude.{IfSome, IsSome}
use Rattle.std.proofs.lemmas.List.{append-nil, length-append}
use Rattle.std.specs.Borrow.{Bor}
use Rattle.std.specs.Io.KnownBytes.{Consumes, Appends, IsAtEnd}
use Rattle.session.specs.Frames.{frame, most_bytes, IsReadFault}
use Rattle.session.specs.declared.frame.FrameFault.{FrameFault}
use Rattle.session.specs.declared.frame.FrameFault.TheVariants as frame_fault
use Rattle.session.proofs.Sessions.{short_push}
use Rattle.session.proofs.Writes.{then_appends}
use Rattle.cert.proofs.FromReader.{consumes_one}
use Rattle.reception.specs.declared.scope.Identity.{Identity}
use Rattle.partition.specs.Fti.{Fti as FtiValue}
use Rattle.alc.specs.Reading.{Reading}
use Rattle.reception.specs.Reception.{ReadAll}
use Rattle.reception.specs.Answer.{IsAnswer, reception_of}
use Rattle.streams.specs.declared.io.Write.{Ghosts}
use Rattle.decoder.specs.Answers.{answer_value}
use Rattle.decoder.specs.declared.answer.Answer.{Answer}
use Rattle.decoder.specs.declared.answer.Answer.TheVariants.{Empty, Fault as NoObject, Missing, Object}
use Rattle.block_recovery.specs.declared.fault.DecodeFault.{DecodeFault}
use Rattle.receiver.specs.Begun.{IsCarrierOf}
use Rattle.receiver.specs.Filed.{Stands, IsLack, has_output}
use Rattle.receiver.specs.Stands.{IsSoundIn}
use Rattle.receiver.specs.Receiving.{with_datagram, LeaveNoneShort, HasNoFault, ComesEarly, Tells}
use Rattle.receiver.specs.declared.receiver.Progress.{Progress}
use Rattle.receiver.specs.declared.receiver.Progress.TheVariants.{More, Complete}
use Rattle.receiver.specs.declared.receiver.FeedFault.{FeedFault}
use Rattle.receiver.specs.declared.receiver.FeedFault.TheVariants as feed
use Rattle.receiver.specs.declared.receiving.Receiving.{Receiving}
use Rattle.receiver.specs.declared.file_receiver.FileReceiver.{FileReceiver}
use Rattle.request.specs.declared.requests.FollowRequest.{FollowRequest}
use Rattle.request.specs.declared.requests.Request.TheVariants.{Follow}
use Rattle.host.specs.World.{Reading as ReadingFile, Writing, Files, World, Holds, IsBlank, IsSilent, KeepsFiles, MayFail, one_more}
use Rattle.commands.specs.Inputs.{AStream, Opened, HasValue}
use Rattle.commands.specs.Lines.{line_of, answer_text}
use Rattle.commands.specs.Commands.{Outcome, answer_status, object_of}
use Rattle.commands.specs.Following.{refusal_line, IsNotTaken, Comes, Come, IsHeard, IsHeardInPart, BringsCarrier, ends_text, Ends}
use Rattle.commands.specs.Outcomes.{HasAsked, MayHaveCreated, Makes, IsDone, IsMade, IsBecause, IsUnprinted, MayCreate, IsStopped}
use Rattle.commands.specs.Doing.{IsUncommitted, IsUndone}
use Rattle.receive_commands.specs.Listening.{AreSaid, stopped_by, IsCreatedFor, IsFollowed, IsShort, IsFull, HasHeardSome, IsLacking, IsUnread, IsUnheard, IsHearing}
use Rattle.commands.specs.ReadingInputs.{IsFrameUnread}
use Rattle.commands.specs.declared.fault.Fault.{Fault}
use Rattle.commands.specs.declared.fault.Fault.TheVariants.{Open, File, Memory, Frame, Certificate, Fti, Send, NoPlace}
use Rattle.receive_commands.specs.declared.follow.Followed.{Followed}
use Rattle.commands.specs.declared.output.Unwritten.{Unwritten}
use Rattle.commands.specs.declared.output.Unwritten.TheVariants as unwritten
use Rattle.receive_commands.proofs.Showed.{keeps}
use Rattle.commands.proofs.Stopping.{by_refused, by_unmade, may_fail}
use Rattle.commands.proofs.Holding.{nothing_consumed}

nothing_more : (a : Option (List ℕ)) → Appends a a []
nothing_more None = tt
nothing_more (Some xs) = sym (append-nil xs)

none_of : (who : Identity) (opened left : Option (List ℕ)) → Consumes opened left [] → IsHeard who opened left 0 [] []
none_of who opened left nothing = record { datagrams = []; consumed = nothing; each = λ i. omega arith; many = refl; come = (refl, refl) }

come_more : (who : Identity) (place : ℕ) (before ds taken : List (List ℕ)) (text d : List ℕ) (after : List (List ℕ)) (line : List ℕ) → Come who place before ds taken text
    → ¬ LeaveNoneShort who taken → Comes who (place + length ds) taken d after line → Come who place before (ds ++ d ∷ []) after (text ++ line)
come_more who place before [] taken text d after line come lacks comes =
    let at : place + 0 ≡ place = omega arith in
    let one : Comes who place before d after line = subst (λ (b : List (List ℕ)). Comes who place b d after line) come.0 (subst (λ (n : ℕ). Comes who n taken d after line) at comes) in
    (subst (λ (b : List (List ℕ)). ¬ LeaveNoneShort who b) come.0 lacks, after, line, [], one, (refl, refl), ap (λ (t : List ℕ). t ++ line) come.1 ∙ sym (append-nil line))
come_more who place before (x ∷ ds) taken text d after line (first, middle, front, rest, here, come, whole) lacks comes =
    let at : place + suc (length ds) ≡ (place + 1) + length ds = omega arith in
    let more = come_more who (place + 1) middle ds taken rest d after line come lacks (subst (λ (n : ℕ). Comes who n taken d after line) at comes) in
    (first, middle, front, rest ++ line, here, more, ap (λ (t : List ℕ). t ++ line) whole ∙ append_assoc front rest line)

-- nothing is against a datagram
pub nothing_against : (who : Identity) (taken : List (List ℕ)) (d : List ℕ) → HasNoFault who (with_datagram taken d) → length taken ≢ 2 ^ 64 - 1 → ¬ ComesEarly who taken d
    → (fault : FeedFault) → ¬ IsNotTaken who taken d fault
nothing_against who taken d sound counted timely (feed.Fault e) = sound e
nothing_against who taken d sound counted timely feed.Full = counted
nothing_against who taken d sound counted timely feed.Early = timely
nothing_against who taken d sound counted timely feed.NoMemory = λ none. none
nothing_against who taken d sound counted timely feed.Failed = λ none. none

module _ (who : Identity) (opened a b : Option (List ℕ)) (taken : List (List ℕ)) (text : List ℕ) (count n : ℕ) (d : List ℕ) (heard : IsHeard who opened a count taken text)
    (lacks : ¬ LeaveNoneShort who taken) (next : n ≡ count + 1) (one : Consumes a b (frame d)) (short : length d ≤ most_bytes) where
  heard_more : (after : List (List ℕ)) (line : List ℕ) → Comes who count taken d after line → IsHeard who opened b n after (text ++ line)
  heard_more after line comes = record {
    datagrams = with_datagram heard.datagrams d;
    consumed = consumes_one opened a b heard.datagrams d heard.consumed one;
    each = short_push heard.datagrams d heard.each short;
    many = let l = length-append heard.datagrams (d ∷ []) in let m = heard.many in omega (arith, m, next, l);
    come = come_more who 0 [] heard.datagrams taken text d after line heard.come lacks
        (let m = heard.many in let at : count ≡ 0 + length heard.datagrams = omega (arith, m) in subst (λ (k : ℕ). Comes who k taken d after line) at comes);
  }

  -- one more that was taken
  pub heard_taken : ((fault : FeedFault) → ¬ IsNotTaken who taken d fault) → IsHeard who opened b n (with_datagram taken d) text
  heard_taken may = subst (λ (t : List ℕ). IsHeard who opened b n (with_datagram taken d) t) (append-nil text) (heard_more (with_datagram taken d) [] (inl (refl, may, refl)))

  -- one more that was refused
  pub heard_refused : (fault : FeedFault) → IsNotTaken who taken d fault → IsHeard who opened b n taken (text ++ refusal_line count fault)
  heard_refused fault refused = heard_more taken (refusal_line count fault) (inr (refl, fault, refused, refl))

-- lines, and one more
pub then_said : (old mid new : World) (lines line : List ℕ) (p q : Bool) → AreSaid old mid lines p → AreSaid mid new line q → (q ≡ true → p ≡ true)
    → AreSaid old new (lines ++ line) q
then_said old mid new lines line p true first second all =
    then_appends old.printed mid.printed new.printed lines line (subst (AreSaid old mid lines) (all refl) first) second
then_said old mid new lines line p false first second all = second

-- a datagram that was refused, by what the receiver tells of each fault
pub refused_by : (who : Identity) (taken : List (List ℕ)) (d : List ℕ) (refusal : FeedFault) → refusal ≢ feed.NoMemory → refusal ≢ feed.Failed
    → (refusal ≡ feed.Full → IsNotTaken who taken d feed.Full) → (refusal ≡ feed.Early → IsNotTaken who taken d feed.Early)
    → ((fault : DecodeFault) → refusal ≡ feed.Fault fault → IsNotTaken who taken d (feed.Fault fault)) → IsNotTaken who taken d refusal
refused_by who taken d (feed.Fault fault) some kept full early faulty = faulty fault refl
refused_by who taken d feed.Full some kept full early faulty = full refl
refused_by who taken d feed.Early some kept full early faulty = early refl
refused_by who taken d feed.NoMemory some kept full early faulty = absurd (some refl)
refused_by who taken d feed.Failed some kept full early faulty = absurd (kept refl)

-- ---- no datagrams

no_carrier : (who : Identity) (rs : List Reading) (f : FtiValue) → ReadAll [] rs → (reception_of who rs).scope.fti ≡ Some f → ⊥
no_carrier who [] f all known = absurd (cc)
no_carrier who (x ∷ rs) f all known = absurd all

pub no_datagrams : (who : Identity) → ¬ LeaveNoneShort who []
no_datagrams who none = no_carrier who none.readings none.fti none.read none.known

-- ---- what the session's file holds, where files are told

pub holds_then : (files : Option Files) (name : List ℕ) (P Q : List ℕ → Type 0) → ((bytes : List ℕ) → P bytes → Q bytes) → Holds files name P → Holds files name Q
holds_then None name P Q f h = tt
holds_then (Some held) name P Q f (bytes, is, p) = (bytes, is, f bytes p)

-- what is so of a value that the bytes give, or of any where they aren't told
holds_some : (files : Option Files) (name : List ℕ) (A : Type 0) (any : A) (P : List ℕ → Type 0) (Q : List ℕ → A → Type 0) → Holds files name P
    → ((bytes : List ℕ) → P bytes → (a : A) × Q bytes a) → (a : A) × Holds files name (λ bytes. Q bytes a)
holds_some None name A any P Q h f = (any, tt)
holds_some (Some held) name A any P Q (bytes, is, p) f = let w = f bytes p in (w.0, (bytes, is, w.1))

abbrev pub opened_of : Option Files → List ℕ → Option (List ℕ)
opened_of None name = None
opened_of (Some held) name = held name

pub has_opened : (files : Option Files) (name : List ℕ) (P : List ℕ → Type 0) → Holds files name P → HasValue files (AStream name) (Opened (opened_of files name))
has_opened None name P h = tt
has_opened (Some held) name P (bytes, is, p) = (bytes, is, is)

pub of_opened : (files : Option Files) (name : List ℕ) (P : List ℕ → Type 0) → Holds files name P → IfSome (opened_of files name) P
of_opened None name P h = tt
of_opened (Some held) name P (bytes, is, p) = subst (λ (o : Option (List ℕ)). IfSome o P) (sym is) p

-- ---- how far a session was followed

-- so it is of the session's bytes, where they are told
abbrev Session : FollowRequest → World → (List ℕ → Type 0) → Type 0
Session r old P = Holds old.files r.session.now P

module _ (r : FollowRequest) (old : World) where
  created_still : (mid new : World) → new.created ≡ mid.created → (p q : Bool) → q ≡ p → IsCreatedFor r old mid p → IsCreatedFor r old new q
  created_still mid new same true q is h = subst (λ (b : Bool). IsCreatedFor r old new b) (sym is) (same ∙ h.0, h.1)
  created_still mid new same false q is h = subst (λ (b : Bool). IsCreatedFor r old new b) (sym is) (same ∙ h)

  said_still : (mid new : World) (lines : List ℕ) (p q : Bool) → IsSilent mid new → q ≡ p → AreSaid old mid lines p → AreSaid old new lines q
  said_still mid new lines true q silent same is = subst (λ (b : Bool). AreSaid old new lines b) (sym same) (subst (λ (o : Option (List ℕ)). Appends old.printed o lines) (sym silent.printed) is)
  said_still mid new lines false q silent same is = subst (λ (b : Bool). AreSaid old new lines b) (sym same) (silent.failed ∙ is)

  memory_because : (new : World) (text : List ℕ) (fault : Fault) → fault ≡ Memory → IsBecause old new (Follow r) text fault
  memory_because new text fault is = subst (λ (f : Fault). IsBecause old new (Follow r) text f) (sym is) tt

module _ {W : Type 0} {w : Ghosts W} (r : FollowRequest) (old : World) where
  module _ (mid : World) (before : Followed W w) (P : List ℕ → List ℕ → Type 0) (h : IsFollowed r old mid before P) where
    -- another receiver, while nothing is printed
    pub followed_as : (new : World) (after : Followed W w) (Q : List ℕ → List ℕ → Type 0) → new.files ≡ mid.files → IsSilent mid new → IsSoundIn after.receiver.receiving.store
        → after.receiver.receiving.identity ≡ before.receiver.receiving.identity → IsCreatedFor r old new (has_output after.receiver) → after.said ≡ before.said
        → Session r old (λ bytes. Q bytes h.lines) → IsFollowed r old new after Q
    followed_as new after Q files silent sound identity created said heard = record {
      sound = sound;
      identity = identity ∙ h.identity;
      files = files ∙ h.files;
      refused = silent.refused ∙ h.refused;
      created = created;
      lines = h.lines;
      said = said_still r old mid new h.lines before.said after.said silent said h.said;
      heard = heard;
    }

    -- what was heard told otherwise
    pub followed_then : (Q : List ℕ → List ℕ → Type 0) → ((bytes : List ℕ) → P bytes h.lines → Q bytes h.lines) → IsFollowed r old mid before Q
    followed_then Q f = record {
      sound = h.sound;
      identity = h.identity;
      files = h.files;
      refused = h.refused;
      created = h.created;
      lines = h.lines;
      said = h.said;
      heard = holds_then old.files r.session.now (λ bytes. P bytes h.lines) (λ bytes. Q bytes h.lines) f h.heard;
    }

  -- those that leave a block short are some
  pub some_heard : (mid : World) (left : Option (List ℕ)) (followed : Followed W w) → IsFollowed r old mid followed (IsShort r left followed) → IsFollowed r old mid followed (HasHeardSome r left)
  some_heard mid left followed h = followed_then mid followed (IsShort r left followed) h (HasHeardSome r left) (λ bytes s. (followed.count, s.0, s.3))

  -- ---- the beginning

  pub begun : (opened : Option (List ℕ)) → Session r old (λ bytes. opened ≡ Some bytes) → (receiver : FileReceiver W w) → Stands receiver [] → IsSoundIn receiver.receiving.store
      → receiver.receiving.identity ≡ r.identity → has_output receiver ≡ false
      → let start : Followed W w = record { receiver = receiver; count = 0; said = true; contradictions = 0 } in IsFollowed r old old start (IsShort r opened start)
  begun opened held receiver stands sound identity none = record {
    sound = sound;
    identity = identity;
    files = refl;
    refused = refl;
    created = subst (λ (b : Bool). IsCreatedFor r old old b) (sym none) refl;
    lines = [];
    said = nothing_more old.printed;
    heard = holds_then old.files r.session.now _ _ (λ bytes is. (
      [],
      stands,
      no_datagrams r.identity,
      none_of r.identity (Some bytes) opened (subst (λ (o : Option (List ℕ)). Consumes (Some bytes) o []) (sym is) (nothing_consumed (Some bytes))),
    )) held;
  }

  -- ---- the output

  module _ (mid : World) (before after : Option (List ℕ)) (d : List ℕ) (f : Followed W w) (is : IsFollowed r old mid f (IsShort r before f)) (one : Consumes before after (frame d))
      (short : length d ≤ most_bytes) where
    module _ (carrier : IsCarrierOf f.receiver.receiving.identity d) (none : has_output f.receiver ≡ false) where
      may : MayCreate old.files (Follow r)
      may = holds_then old.files r.session.now _ (λ bytes. BringsCarrier r.identity (Some bytes)) (λ bytes (taken, stands, lacks, heard). (
        after,
        heard.datagrams,
        d,
        record { consumed = consumes_one (Some bytes) before after heard.datagrams d heard.consumed one; each = short_push heard.datagrams d heard.each short },
        subst (λ (who : Identity). IsCarrierOf who d) is.identity carrier,
      )) is.heard

      none_created : mid.created ≡ old.created
      none_created = subst (λ (b : Bool). IsCreatedFor r old mid b) none is.created

      module _ (new : World) (files : new.files ≡ mid.files) (silent : IsSilent mid new) where
        pub unprepared : new.created ≡ mid.created → IsUnread r old new f Memory
        unprepared same = (
          before,
          followed_as mid f (HasHeardSome r before) (some_heard mid before f is) new f (HasHeardSome r before) files silent is.sound refl
              (created_still r old mid new same (has_output f.receiver) (has_output f.receiver) refl is.created) refl (some_heard mid before f is).heard,
        )

        pub prepared : (output : Option (List ℕ)) → IsBlank mid output → HasAsked mid new r.output
            → (receiver : FileReceiver W w) → receiver.receiving ≡ f.receiver.receiving → has_output receiver ≡ true
            → ((ds : List (List ℕ)) → Stands f.receiver ds → IsSome output → Stands receiver ds)
            → let next : Followed W w = record { receiver = receiver; count = f.count; said = f.said; contradictions = f.contradictions } in IsFollowed r old new next (IsShort r before next)
        prepared output blank created receiver same has stands =
            let next : Followed W w = record { receiver = receiver; count = f.count; said = f.said; contradictions = f.contradictions } in
            followed_as mid f (IsShort r before f) is new next (IsShort r before next) files silent (subst (λ (x : Receiving). IsSoundIn x.store) (sym same) is.sound) (ap (λ (x : Receiving). x.identity) same)
            (subst (λ (b : Bool). IsCreatedFor r old new b) (sym has)
            (created ∙ ap (one_more r.output.name.now r.output.no_clobber) none_created, may)) refl
            (told old.files (subst (λ (fs : Option Files). IfSome fs (λ held. output ≡ Some [])) is.files blank) is.heard)
          where
            told : (fs : Option Files) → IfSome fs (λ held. output ≡ Some []) → Holds fs r.session.now (λ bytes. IsShort r before f bytes is.lines)
                → Holds fs r.session.now (λ bytes. (taken : List (List ℕ)) × Stands receiver taken × (¬ LeaveNoneShort r.identity taken) × IsHeard r.identity (Some bytes) before f.count taken is.lines)
            told None empty h = tt
            told (Some held) empty (bytes, at, (taken, s, lacks, heard)) = (bytes, at, (taken, stands taken s (subst (λ (o : Option (List ℕ)). IsSome o) (sym empty) refl), lacks, heard))

    -- ---- one datagram more

    module _ (n : ℕ) (next : n ≡ f.count + 1) (receiver : FileReceiver W w) (sound : IsSoundIn receiver.receiving.store)
        (same : receiver.receiving.identity ≡ f.receiver.receiving.identity) (has : has_output receiver ≡ has_output f.receiver) where
      abbrev fed : Bool → ℕ → Followed W w
      fed said contradictions = record { receiver = receiver; count = n; said = said; contradictions = contradictions }

      silent_self : IsSilent mid mid
      silent_self = record { printed = refl; failed = refl; refused = refl }

      fed_as : (Q : List ℕ → List ℕ → Type 0) → ((bytes : List ℕ) → IsShort r before f bytes is.lines → Q bytes is.lines) → IsFollowed r old mid (fed f.said f.contradictions) Q
      fed_as Q g = followed_as mid f (IsShort r before f) is mid (fed f.said f.contradictions) Q refl silent_self sound same
          (created_still r old mid mid refl (has_output f.receiver) (has_output receiver) has is.created) refl (holds_then old.files r.session.now _ (λ bytes. Q bytes is.lines) g is.heard)

      pub stays_some : IsFollowed r old mid (fed f.said f.contradictions) (HasHeardSome r before)
      stays_some = fed_as (HasHeardSome r before) (λ bytes s. (f.count, s.0, s.3))

      module _ (accepted : (ds : List (List ℕ)) → Stands f.receiver ds → Stands receiver (with_datagram ds d)) (against : (ds : List (List ℕ)) → Stands f.receiver ds
          → (fault : FeedFault) → ¬ IsNotTaken f.receiver.receiving.identity ds d fault) where
        heard_now : (bytes : List ℕ) (taken : List (List ℕ)) → Stands f.receiver taken → ¬ LeaveNoneShort r.identity taken → IsHeard r.identity (Some bytes) before f.count taken is.lines
            → IsHeard r.identity (Some bytes) after n (with_datagram taken d) is.lines
        heard_now bytes taken stands lacks heard = heard_taken r.identity (Some bytes) before after taken is.lines f.count n d heard lacks next one short
            (subst (λ (who : Identity). (fault : FeedFault) → ¬ IsNotTaken who taken d fault) is.identity (against taken stands))

        more : ((ds : List (List ℕ)) → Stands f.receiver ds → ¬ LeaveNoneShort f.receiver.receiving.identity (with_datagram ds d))
            → IsFollowed r old mid (fed f.said f.contradictions) (IsShort r after (fed f.said f.contradictions))
        more short_still = fed_as (IsShort r after (fed f.said f.contradictions)) (λ bytes (taken, stands, lacks, heard). (
          with_datagram taken d,
          accepted taken stands,
          subst (λ (who : Identity). ¬ LeaveNoneShort who (with_datagram taken d)) is.identity (short_still taken stands),
          heard_now bytes taken stands lacks heard,
        ))

        full : ((ds : List (List ℕ)) → Stands f.receiver ds → LeaveNoneShort f.receiver.receiving.identity (with_datagram ds d))
            → IsFollowed r old mid (fed f.said f.contradictions) (IsFull r (fed f.said f.contradictions))
        full all = fed_as (IsFull r (fed f.said f.contradictions)) (λ bytes (taken, stands, lacks, heard). (
          after,
          with_datagram taken d,
          accepted taken stands,
          subst (λ (who : Identity). LeaveNoneShort who (with_datagram taken d)) is.identity (all taken stands),
          heard_now bytes taken stands lacks heard,
        ))

        pub heard_one : (progress : Progress) → (progress ≡ Complete → has_output receiver ≡ true)
            → ((ds : List (List ℕ)) → Stands f.receiver ds → Tells progress f.receiver.receiving.identity (with_datagram ds d)) → IsHearing r old mid after (fed f.said f.contradictions) (Ok progress)
        heard_one More output tells = more tells
        heard_one Complete output tells = (output refl, full tells)

      pub refused : (fault : FeedFault) → ((ds : List (List ℕ)) → Stands f.receiver ds → Stands receiver ds) → ((ds : List (List ℕ)) → Stands f.receiver ds
          → IsNotTaken f.receiver.receiving.identity ds d fault) → (new : World) (said : Bool) (contradictions : ℕ) → AreSaid mid new (refusal_line f.count fault) said → (said ≡ true → f.said ≡ true) → KeepsFiles mid new
          → IsFollowed r old new (fed said contradictions) (IsShort r after (fed said contradictions))
      refused fault stands why new said contradictions line first kept = record {
        sound = sound;
        identity = same ∙ is.identity;
        files = kept.files ∙ is.files;
        refused = kept.refused ∙ is.refused;
        created = created_still r old mid new kept.created (has_output f.receiver) (has_output receiver) has is.created;
        lines = is.lines ++ refusal_line f.count fault;
        said = then_said old mid new is.lines (refusal_line f.count fault) f.said said is.said line first;
        heard = holds_then old.files r.session.now _ _ (λ bytes (taken, here, lacks, heard). (
          taken,
          stands taken here,
          lacks,
          heard_refused r.identity (Some bytes) before after taken is.lines f.count n d heard lacks next one short fault
              (subst (λ (who : Identity). IsNotTaken who taken d fault) is.identity (why taken here)),
        )) is.heard;
      }

  -- ---- the end

  pub ended : (mid : World) (left : Option (List ℕ)) (f : Followed W w) → IsFollowed r old mid f (IsShort r left f) → IsAtEnd left → (answer : Answer) → IsLack answer
      → ((ds : List (List ℕ)) → Stands f.receiver ds → IsAnswer f.receiver.receiving.identity ds (answer_value answer)) → IsLacking r old mid f answer
  ended mid left f is end answer lack answers = (
    lack,
    followed_then mid f (IsShort r left f) is _ (λ bytes (taken, stands, lacks, heard).
        (left, f.count, taken, heard, end, subst (λ (who : Identity). IsAnswer who taken (answer_value answer)) is.identity (answers taken stands))),
  )

  -- no frame comes, or none can be read
  pub cut : (mid : World) (left rest : Option (List ℕ)) (failed : Bool) (f : Followed W w) → IsFollowed r old mid f (IsShort r left f) → (fault : Fault) → IsFrameUnread left rest failed fault
      → (fault ≡ Frame frame_fault.Io → MayFail old (ReadingFile r.session.now)) → IsUnread r old mid f fault
  cut mid left rest failed f is fault why fails = go fault why fails
    where
      here : IsFollowed r old mid f (HasHeardSome r left)
      here = some_heard mid left f is

      frame_cut : (e : FrameFault) → IsReadFault e left rest failed → (Frame e ≡ Frame frame_fault.Io → MayFail old (ReadingFile r.session.now)) → (e ≡ frame_fault.Io → MayFail old (ReadingFile r.session.now)) × (left : Option (List ℕ)) × (rest : Option (List ℕ))
          × (failed : Bool) × IsReadFault e left rest failed × IsFollowed r old mid f (HasHeardSome r left)
      frame_cut e why fails = (λ same. fails (ap Frame same), left, rest, failed, why, here)

      go : (fault : Fault) → IsFrameUnread left rest failed fault → (fault ≡ Frame frame_fault.Io → MayFail old (ReadingFile r.session.now)) → IsUnread r old mid f fault
      go Memory why fails = (left, here)
      go (Frame frame_fault.NoMemory) why fails = absurd why
      go (Frame frame_fault.Io) why fails = frame_cut frame_fault.Io why fails
      go (Frame frame_fault.CutLength) why fails = frame_cut frame_fault.CutLength why fails
      go (Frame frame_fault.CutDatagram) why fails = frame_cut frame_fault.CutDatagram why fails
      go (Frame frame_fault.TooLong) why fails = frame_cut frame_fault.TooLong why fails
      go (Frame (frame_fault.NoSuchPlace p)) why fails = frame_cut (frame_fault.NoSuchPlace p) why fails
      go (Open n) why fails = absurd why
      go (File n) why fails = absurd why
      go (Certificate e) why fails = absurd why
      go (Fti e) why fails = absurd why
      go (Send e) why fails = absurd why
      go (NoPlace n) why fails = absurd why

  -- ---- what is done behind it

  module _ (mid : World) (f : Followed W w) (P : List ℕ → List ℕ → Type 0) (is : IsFollowed r old mid f P) (new : World) (kept : KeepsFiles mid new) where
    files_still : new.files ≡ old.files
    files_still = kept.files ∙ is.files

    created_given_up : MayHaveCreated old new (Follow r)
    created_given_up = go (has_output f.receiver) is.created
      where
        go : (b : Bool) → IsCreatedFor r old mid b → MayHaveCreated old new (Follow r)
        go true h = inr ((r.output, refl, kept.created ∙ h.0), h.1)
        go false h = inl (kept.created ∙ h)

    pub given_up : IsMade old new (Follow r) None
    given_up = go (has_output f.receiver) is.created
      where
        go : (b : Bool) → IsCreatedFor r old mid b → IsMade old new (Follow r) None
        go true h = (files_still, inr ((r.output, refl, kept.created ∙ h.0), h.1))
        go false h = (files_still, inl (kept.created ∙ h))

    -- for this fault, behind this text
    pub stopped_behind : (text : List ℕ) → Session r old (λ bytes. IsHeardInPart r.identity (Some bytes) text) → (fault : Fault) → IsBecause old new (Follow r) text fault
        → IsStopped old new (Follow r) text fault
    stopped_behind text before fault why = record { because = why; before = inr before; files = files_still; created = created_given_up }

  module _ (mid : World) (f : Followed W w) (left : Option (List ℕ)) (is : IsFollowed r old mid f (HasHeardSome r left)) (new : World) (kept : KeepsFiles mid new) (silent : IsSilent mid new) where
    in_part : Session r old (λ bytes. IsHeardInPart r.identity (Some bytes) is.lines)
    in_part = holds_then old.files r.session.now _ _ (λ bytes (read, taken, heard). (left, read, taken, is.lines, heard, inl refl)) is.heard

    pub stopped_for : (fault : Fault) → IsBecause old new (Follow r) is.lines fault → IsUndone old new (Follow r) (stopped_by fault f.said)
    stopped_for fault why = go f.said is.said
      where
        go : (said : Bool) → AreSaid old mid is.lines said → IsUndone old new (Follow r) (stopped_by fault said)
        go true said = (is.lines, said_still r old mid new is.lines true true silent refl said, stopped_behind mid f (HasHeardSome r left) is new kept is.lines in_part fault why)
        go false said = record { failed = silent.failed ∙ said; done = inr (is.lines, fault, stopped_behind mid f (HasHeardSome r left) is new kept is.lines in_part fault why) }

  -- no more was read, and the output is given up
  module _ (mid : World) (f : Followed W w) (new : World) (kept : KeepsFiles mid new) (silent : IsSilent mid new) where
    by_frame : (e : FrameFault) → (e ≡ frame_fault.Io → MayFail old (ReadingFile r.session.now)) → (left rest : Option (List ℕ)) (failed : Bool) → IsReadFault e left rest failed → IsFollowed r old mid f (HasHeardSome r left)
        → IsUndone old new (Follow r) (stopped_by (Frame e) f.said)
    by_frame e fails left rest failed why is = stopped_for mid f left is new kept silent (Frame e)
        (by_refused old new (Follow r) is.lines (Frame e) (left, rest, failed, why, fails, is.heard))

    unread : (fault : Fault) → IsUnread r old mid f fault → IsUndone old new (Follow r) (stopped_by fault f.said)
    unread Memory (left, is) = stopped_for mid f left is new kept silent Memory tt
    unread (Frame frame_fault.NoMemory) why = absurd why
    unread (Frame frame_fault.Io) (fails, left, rest, failed, why, is) = by_frame frame_fault.Io fails left rest failed why is
    unread (Frame frame_fault.CutLength) (fails, left, rest, failed, why, is) = by_frame frame_fault.CutLength fails left rest failed why is
    unread (Frame frame_fault.CutDatagram) (fails, left, rest, failed, why, is) = by_frame frame_fault.CutDatagram fails left rest failed why is
    unread (Frame frame_fault.TooLong) (fails, left, rest, failed, why, is) = by_frame frame_fault.TooLong fails left rest failed why is
    unread (Frame (frame_fault.NoSuchPlace p)) (fails, left, rest, failed, why, is) = by_frame (frame_fault.NoSuchPlace p) fails left rest failed why is
    unread (Open n) why = absurd why
    unread (File n) why = absurd why
    unread (Certificate e) why = absurd why
    unread (Fti e) why = absurd why
    unread (Send e) why = absurd why
    unread (NoPlace n) why = absurd why

    pub gave_up : (unwritten : Unwritten) (name : Bor (List ℕ)) → name.now ≡ r.output.name.now → IsUnheard r old mid f unwritten → (fault : Fault) → IsUncommitted mid r.output (Err unwritten) (File name) fault
        → IsUndone old new (Follow r) (stopped_by fault f.said)
    gave_up unwritten.Writing name named (has, left, is) fault (inl none) = stopped_for mid f left is new kept silent fault (memory_because r old new is.lines fault none)
    gave_up unwritten.Writing name named (has, left, is) fault (inr (same, fails)) = stopped_for mid f left is new kept silent fault
        (subst (λ (x : Fault). IsBecause old new (Follow r) is.lines x) (sym same) (by_unmade old new (Follow r) is.lines (File name)
        (r.output, refl, may_fail old mid (Writing r.output.name.now) is.files is.refused fails, named, kept.created ∙ (subst (λ (b : Bool). IsCreatedFor r old mid b) has is.created).0)))
    gave_up (unwritten.Fault e) name named why fault same = subst (λ (x : Fault). IsUndone old new (Follow r) (stopped_by x f.said)) (sym same) (unread e why)

  -- ---- what lacks

  module _ (mid : World) (f : Followed W w) (answer : Answer) (lacking : IsLacking r old mid f answer) where
    how_many : (read : ℕ) × Session r old (λ bytes. (left : Option (List ℕ)) × (taken : List (List ℕ)) × IsHeard r.identity (Some bytes) left read taken lacking.1.lines
        × IsAnswer r.identity taken (answer_value answer) × Ends (answer_value answer) left)
    how_many = holds_some old.files r.session.now ℕ 0 _ (λ bytes read. (left : Option (List ℕ)) × (taken : List (List ℕ)) × IsHeard r.identity (Some bytes) left read taken lacking.1.lines
        × IsAnswer r.identity taken (answer_value answer) × Ends (answer_value answer) left) lacking.1.heard
        (λ bytes (left, read, taken, heard, end, is). (read, (left, taken, heard, is, ends answer lacking.0 left end)))
      where
        ends : (a : Answer) → IsLack a → (left : Option (List ℕ)) → IsAtEnd left → Ends (answer_value a) left
        ends Empty lack left end = end
        ends (Missing b have need) lack left end = end
        ends (Object object) lack left end = absurd lack
        ends (NoObject e) lack left end = absurd lack

    ends_with : (a : Answer) → IsLack a → (read : ℕ) → ends_text (answer_value a) read ≡ line_of (answer_text (answer_value a))
    ends_with Empty lack read = refl
    ends_with (Missing b have need) lack read = refl
    ends_with (Object object) lack read = absurd lack
    ends_with (NoObject e) lack read = absurd lack

    no_output : (a : Answer) → IsLack a → object_of (answer_value a) ≡ None
    no_output Empty lack = refl
    no_output (Missing b have need) lack = refl
    no_output (Object object) lack = absurd lack
    no_output (NoObject e) lack = absurd lack

    module _ (between : World) (kept : KeepsFiles mid between) (silent : IsSilent mid between) where
      abbrev outcome : Outcome
      outcome = record {
        text = lacking.1.lines ++ line_of (answer_text (answer_value answer));
        status = answer_status (answer_value answer);
        output = None;
      }

      makes : (new : World) → KeepsFiles between new → Makes old new (Follow r) outcome
      makes new then = record {
        values = Opened (opened_of old.files r.session.now) ∷ [];
        read = (has_opened old.files r.session.now _ how_many.1, tt);
        gives = (
          how_many.0,
          lacking.1.lines,
          answer_value answer,
          of_opened old.files r.session.now _ how_many.1,
          (ap (λ (t : List ℕ). lacking.1.lines ++ t) (sym (ends_with answer lacking.0 how_many.0)), refl, sym (no_output answer lacking.0)),
        );
        made = given_up mid f _ lacking.1 new (keeps mid between new kept then);
      }

      pub lack_unsaid : (new : World) → KeepsFiles between new → new.failed ≡ true → IsUnprinted old new (Follow r)
      lack_unsaid new then failed = record { failed = failed; done = inl (outcome, makes new then) }

      pub failed_before : f.said ≡ false → between.failed ≡ true
      failed_before unsaid = silent.failed ∙ subst (λ (b : Bool). AreSaid old mid lacking.1.lines b) unsaid lacking.1.said

      pub lack_told : (new : World) (status : ℕ) (text : List ℕ) → f.said ≡ true → KeepsFiles between new → Appends between.printed new.printed text
          → text ≡ line_of (answer_text (answer_value answer)) → status ≡ answer_status (answer_value answer) → IsDone old new (Follow r) status
      lack_told new status text said then printed is done = record {
        outcome = outcome;
        makes = makes new then;
        printed = subst (λ (t : List ℕ). Appends old.printed new.printed (lacking.1.lines ++ t)) is
            (then_appends old.printed between.printed new.printed lacking.1.lines text
            (said_still r old mid between lacking.1.lines true true silent refl (subst (λ (b : Bool). AreSaid old mid lacking.1.lines b) said lacking.1.said)) printed);
        is_status = done;
      }
