-- A session whose datagrams are dropped.
use Rattle.std.proofs.Common.{◌≡◌, ◌++◌, ◌∷◌, [], ℕ, Bool, List, Option, Some, None, Result, Err, IfErr, length, inl, inr, sym, subst}
use Rattle.std.specs.Borrow.{Bor}
use Rattle.streams.specs.Changes.{ReaderChange}
use Rattle.session.specs.Ranges.{first_unhad}
use Rattle.session.specs.Thinning.{IsUnthinned}
use Rattle.session.specs.declared.range.PlaceRange.{PlaceRange}
use Rattle.session.specs.declared.frame.FrameFault.{FrameFault}
use Rattle.session.specs.declared.frame.FrameFault.TheVariants.{CutLength, CutDatagram, TooLong, Io, NoMemory, NoSuchPlace}
use Rattle.request.specs.declared.requests.DropRequest.{DropRequest}
use Rattle.request.specs.declared.requests.Request.TheVariants.{Drop}
use Rattle.host.specs.World.{Files, World}
use Rattle.commands.specs.declared.fault.Fault.{Fault}
use Rattle.commands.specs.declared.fault.Fault.TheVariants.{Open, File, Memory, Frame, Certificate, Fti, Send, NoPlace}
use Rattle.commands.specs.declared.output.Unwritten.{Unwritten}
use Rattle.commands.specs.declared.output.Unwritten.TheVariants as unwritten
use Rattle.commands.specs.Inputs.{ASession, AStream, Value, Datagrams, Opened, Places, HasValue, HaveValues, IsUnread, IsFirstUnread}
use Rattle.commands.specs.Commands.{place_inputs, Outcome, Gives, GivesOthers, IsUnhadPlace}
use Rattle.send_commands.specs.Copying.{IsCutShort}
use Rattle.commands.specs.Doing.{HasStopped}
use Rattle.send_commands.specs.Dropping.{AreAll, IsUnplaced}
use Rattle.commands.specs.Outcomes.{IsBecause, MayCreate}
use Rattle.send_commands.proofs.Joins.{LacksPlace, unthinned}
use Rattle.commands.proofs.Stopping.{by_unread, by_refused, stopped}
use Rattle.commands.proofs.Holding.{holds_session, is_there}
use Rattle.commands.proofs.Stopping.{WritesGiven}
use Rattle.std.proofs.Common.{refl, ap, codes}
use Rattle.lists.specs.Selection.{rest}
use Rattle.session.specs.Frames.{frames}
use Rattle.session.specs.Ranges.{is_in_some}
use Rattle.session.specs.Thinning.{IsThinned}
use Rattle.send_commands.proofs.Given.{line}

-- ---- inputs, with the file of places or without one

pub places_there : (files : Option Files) (file : Option (Bor (List ℕ))) (given all : List PlaceRange) → AreAll files file given all
    → (values : List Value) × HaveValues files (place_inputs file) values
places_there files None given all are = ([], tt)
places_there files (Some name) given all (more, listed, is) = (Places more ∷ [], (listed, tt))

places_unread : (w : World) (file : Option (Bor (List ℕ))) (name : List ℕ) (fault : Fault) → IsFirstUnread w (place_inputs file) fault
    → IsFirstUnread w (place_inputs file ++ ASession name ∷ []) fault
places_unread w None name fault why = absurd why
places_unread w (Some file) name fault (inl unread) = inl unread
places_unread w (Some file) name fault (inr (value, has, none)) = absurd none

session_unread : (w : World) (file : Option (Bor (List ℕ))) (given all : List PlaceRange) (name : List ℕ) (fault : Fault) → AreAll w.files file given all → IsUnread w (ASession name) fault
    → IsFirstUnread w (place_inputs file ++ ASession name ∷ []) fault
session_unread w None given all name fault are unread = inl unread
session_unread w (Some file) given all name fault (more, listed, is) unread = inr (Places more, listed, inl unread)

-- what comes of the places and the datagrams
pub record AreHad (files : Option Files) (r : DropRequest) (file : Option (Bor (List ℕ))) (all : List PlaceRange) (datagrams : List (List ℕ)) : Type 0 where
  pub values : List Value
  pub have : HaveValues files (place_inputs file ++ ASession r.session.now ∷ []) values
  pub gives : (outcome : Outcome) → GivesOthers all datagrams outcome → Gives (Drop r) values outcome
  pub unhad : (place : ℕ) → first_unhad (length datagrams) all ≡ Some place → IsUnhadPlace r.places.items values place

pub are_had : (files : Option Files) (r : DropRequest) (file : Option (Bor (List ℕ))) (all : List PlaceRange) (datagrams : List (List ℕ)) → AreAll files file r.places.items all
    → HasValue files (ASession r.session.now) (Datagrams datagrams) → AreHad files r file all datagrams
are_had files r None all datagrams are has = record {
  values = Datagrams datagrams ∷ [];
  have = (has, tt);
  gives = λ outcome gives. subst (λ (ranges : List PlaceRange). GivesOthers ranges datagrams outcome) are gives;
  unhad = λ place outside. subst (λ (ranges : List PlaceRange). first_unhad (length datagrams) ranges ≡ Some place) are outside;
}
are_had files r (Some name) all datagrams (more, listed, is) has = record {
  values = Places more ∷ Datagrams datagrams ∷ [];
  have = (listed, (has, tt));
  gives = λ outcome gives. subst (λ (ranges : List PlaceRange). GivesOthers ranges datagrams outcome) is gives;
  unhad = λ place outside. subst (λ (ranges : List PlaceRange). first_unhad (length datagrams) ranges ≡ Some place) is outside;
}

-- what is written of them
pub dropped : (files : Option Files) (r : DropRequest) (all : List PlaceRange) (opened left blank contents : Option (List ℕ)) (count : ℕ) → AreAll files r.places_file r.places.items all
    → HasValue files (AStream r.session.now) (Opened opened) → IsThinned all opened left blank contents count
    → WritesGiven files (Drop r) (line (codes "kept") (codes " datagrams") count) 0 blank contents
dropped files r all opened left blank contents count are held thin =
    let bytes = frames (rest (is_in_some all) thin.datagrams) in
    let had = are_had files r r.places_file all thin.datagrams are (holds_session files r.session.now opened left thin.datagrams held thin.read thin.end) in
    record {
      bytes = bytes;
      values = had.values;
      read = had.have;
      gives = had.gives (record { text = line (codes "kept") (codes " datagrams") count; status = 0; output = Some bytes })
          (thin.inside, (ap (line (codes "kept") (codes " datagrams")) thin.counted, refl, refl));
      gained = thin.written;
    }

-- ---- why nothing is dropped

module _ (old : World) (r : DropRequest) (opened : Option (List ℕ)) (held : HasValue old.files (AStream r.session.now) (Opened opened)) where
  pub unplaced : (fault : Fault) → IsUnplaced old r.places_file fault → HasStopped old old (Drop r) fault
  unplaced fault (inl memory) = stopped old (Drop r) fault (subst (λ (f : Fault). IsBecause old old (Drop r) [] f) (sym memory) tt)
  unplaced fault (inr unread) =
      stopped old (Drop r) fault
      (by_unread old old (Drop r) [] fault (inr (is_there old.files r.session.now opened held, places_unread old r.places_file r.session.now fault unread)))

  module _ (all : List PlaceRange) (are : AreAll old.files r.places_file r.places.items all) where
    pub may_create : MayCreate old.files (Drop r)
    may_create = (is_there old.files r.session.now opened held, places_there old.files r.places_file r.places.items all are)

    module _ (new : World) where
      no_place : (fault : FrameFault) → LacksPlace old.files r.session.now all fault → IsBecause old new (Drop r) [] (Frame fault)
      no_place (NoSuchPlace p) (datagrams, has, outside) =
          let had = are_had old.files r r.places_file all datagrams are has in
          by_refused old new (Drop r) [] (Frame (NoSuchPlace p)) (had.values, had.have, had.unhad p outside)
      no_place CutLength why = absurd why
      no_place CutDatagram why = absurd why
      no_place TooLong why = absurd why
      no_place Io why = absurd why
      no_place NoMemory why = absurd why

      module _ (sound : Bool) (rest : Option (List ℕ)) (failed : Bool) (room : ℕ) (writer_failed : Bool) where
        abbrev reader : ReaderChange
        reader = record { before = opened; after = rest; sound = sound; failed = failed }

        thin_fault : (f : Fault) → IsCutShort (λ e. IsUnthinned e all reader room writer_failed) (unwritten.Fault f) → IsBecause old new (Drop r) [] f
        thin_fault (Open n) why = absurd why
        thin_fault (File n) why = absurd why
        thin_fault Memory why = tt
        thin_fault (Frame e) why = elim (unthinned old r.session.now e all reader room writer_failed held why.0 why.1 why.2) [
          | inl unread ↦
              by_unread old new (Drop r) [] (Frame e)
              (inr (is_there old.files r.session.now opened held, session_unread old r.places_file r.places.items all r.session.now (Frame e) are unread))
          | inr outside ↦ no_place e outside
        ]
        thin_fault (Certificate e) why = absurd why
        thin_fault (Fti e) why = absurd why
        thin_fault (Send e) why = absurd why
        thin_fault (NoPlace n) why = absurd why

        pub because_unthinned : (w : Result ℕ Unwritten) → IfErr w (IsCutShort (λ e. IsUnthinned e all reader room writer_failed))
            → (f : Fault) → w ≡ Err (unwritten.Fault f) → IsBecause old new (Drop r) [] f
        because_unthinned w why f is =
            thin_fault f (subst (λ (x : Result ℕ Unwritten). IfErr x (IsCutShort (λ e. IsUnthinned e all reader room writer_failed))) is why)
