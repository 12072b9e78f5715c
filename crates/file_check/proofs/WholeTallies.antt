-- What the index of a session and its comparison with a certificate say of the verdict.
use Rattle.std.proofs.Common.{◌≡◌, ℕ, zero, suc, ◌+◌, ◌<◌, Bool, true, false, not, List, [], ◌∷◌, ◌++◌, Option, Some, None, length, inl, inr, take, drop, refl, sym, ap, subst, ◌∙◌, append_assoc, arith}
use Rattle.std.specs.Io.KnownBytes.{Consumes}
use Rattle.std.proofs.lemmas.Grind.{flat_map-append}
use Rattle.std.proofs.lemmas.List.{length-take-le, take-append-drop}
use Rattle.session.specs.Frames.{frame, frames, AreDatagrams, IsReadFault}
use Rattle.session.specs.declared.frame.FrameFault.{FrameFault}
use Rattle.session.specs.declared.frame.FrameFault.TheVariants.{Io, NoSuchPlace, TooLong, CutLength, CutDatagram}
use Rattle.session.specs.declared.frame.FrameFault.TheVariants.{NoMemory as NoFrameMemory}
use Rattle.session.proofs.Sessions.{datagrams_push}
use Rattle.partition.specs.Fti.{IsValidFti, block_count}
use Rattle.reception.specs.declared.scope.Identity.{Identity}
use Rattle.reception.specs.declared.scope.Scope.{Scope}
use Rattle.reception.specs.Reception as place_fault
use Rattle.reception.specs.Reception.{Faulty, PlaceFault}
use Rattle.reception.specs.Symbols.{IsObject}
use Rattle.reception.specs.Walks.{readings_of}
use Rattle.certificate.specs.Certificate.{Certificate, IsCertificate, is_for}
use Rattle.cert.specs.FromReader.{IsCheckedFrom, IsRefusedBehind}
use Rattle.cert.specs.NotBegun.{IsAgainstObject}
use Rattle.cert.specs.Tallying.{AreTallied, IsRefusedAt, IsUnpassed, SaysNothing, Tallied, by_certificate, first_reason_by, reading_at, tallied_of}
use Rattle.cert.specs.Verdict.{GivesObject, reason_at, reception_to, short_of}
use Rattle.cert.specs.declared.verdict.Reason.{Reason}
use Rattle.cert.specs.declared.verdict.Reason.TheVariants.{NotObject, Symbol}
use Rattle.cert.specs.declared.verdict.Survey.{Survey}
use Rattle.cert.specs.declared.verdict.Verdict.{Verdict}
use Rattle.cert.specs.declared.verdict.Verdict.TheVariants.{No}
use Rattle.cert.specs.declared.tally.Tally.{Tally}
use Rattle.cert.specs.Report.{IsReport, OnYes}
use Rattle.cert.specs.Scan.{VerdictWhereGiven}
use Rattle.cert.specs.Surveying.{IsSurvey, IsSurveyedFrom, OnYesWith}
use Rattle.cert.proofs.DatagramSteps.{refuses_fault}
use Rattle.cert.proofs.FromReader.{no_datagrams, consumes_one, not_begun, not_passed, not_read, survey_of, verdict_from}
use Rattle.cert.proofs.Judging.{judged_given}
use Rattle.cert.proofs.Judged.{all_passed, first_wrong}
use Rattle.cert.proofs.Members.{said_by_blocks}
use Rattle.file_check.specs.Blocks.{limit_of}
use Rattle.file_check.specs.Checked.{IsBlocksReason, IsWholeTally}
use Rattle.file_check.specs.Files.{Reliable, IsFileFault, IsNoVerdict}
use Rattle.file_check.specs.Compared.{AreCompared}
use Rattle.file_check.specs.Indexed.{EndsBy, IsIndexed, IsIndexOf}
use Rattle.file_check.specs.declared.blocks.Wrong.{Wrong}
use Rattle.cert.specs.declared.fault.CheckFault.{CheckFault}
use Rattle.cert.specs.declared.fault.CheckFault.TheVariants.{Frame as NoFrame, Session, Object, Certificate as NoCertificate, NoMemory}
use Rattle.file_check.specs.declared.index.Index.{Index}
use Rattle.file_check.specs.declared.index.End.{End}
use Rattle.file_check.specs.declared.index.End.TheVariants.{File, Reason as ByReason, Frame}

-- ---- the front of a session

front_each : (n : ℕ) (ds : List (List ℕ)) → AreDatagrams ds → AreDatagrams (take n ds)
front_each zero ds h i = no_datagrams i
front_each (suc n) [] h i = no_datagrams i
front_each (suc n) (d ∷ ds) h zero = h 0
front_each (suc n) (d ∷ ds) h (suc i) = front_each n ds (λ j. h (suc j)) i

-- what is left behind the first datagrams
front_consumed : (x : List ℕ) (left : Option (List ℕ)) (ds : List (List ℕ)) (n : ℕ) → Consumes (Some x) left (frames ds)
    → (new : Option (List ℕ)) × Consumes (Some x) new (frames (take n ds))
front_consumed x None ds n h = absurd h
front_consumed x (Some l) ds n h = (
  Some (frames (drop n ds) ++ l),
  h ∙ ap (λ (y : List ℕ). y ++ l) (sym (ap (λ (y : List (List ℕ)). frames y) (take-append-drop n ds)) ∙ flat_map-append frame (take n ds) (drop n ds))
      ∙ append_assoc (frames (take n ds)) (frames (drop n ds)) l,
)

-- a fault of reading, of a reader of which nothing is told
pub untold_fault : (fault : FrameFault) (left new : Option (List ℕ)) (failed : Bool) → IsReadFault fault left new failed → IsReadFault fault None None failed
untold_fault TooLong left new failed h = (tt, (h.1.0, h.1.1, tt))
untold_fault Io left new failed h = h
untold_fault NoFrameMemory left new failed h = (h.0, h.1, tt)
untold_fault (NoSuchPlace p) left new failed h = absurd h
untold_fault CutLength left new failed h = (tt, tt)
untold_fault CutDatagram left new failed h = (tt, tt)

-- ---- before any datagram

pub not_equal : (b : Bool) → not b ≡ true → b ≡ false
not_equal true h = absurd (cc)
not_equal false h = refl

pub equal : (b : Bool) → not b ≡ false → b ≡ true
equal true h = refl
equal false h = absurd (cc)

module _ (who : Identity) (x o : List ℕ) (z : Certificate) where
  pub before : (r : Reason) → IsAgainstObject who o z r → (left : Option (List ℕ)) × IsCheckedFrom who (Some x) left o z (No r)
  before r h = (Some x, not_begun who (Some x) z o r h)

  -- a file has failed
  pub file_fault : (reliable : Reliable) (fault : CheckFault) → IsFileFault reliable fault → IsNoVerdict who reliable x o z fault
  file_fault reliable (NoFrame e) h = absurd h
  file_fault reliable Session h = h
  file_fault reliable Object h = h
  file_fault reliable (NoCertificate e) h = h
  file_fault reliable NoMemory h = h

-- no block is told as short by a fault of a datagram
early_fault : (i : ℕ) (fault : PlaceFault) → short_of (reason_at i (Faulty fault)) ≡ None
early_fault i (place_fault.NoPacket r) = refl
early_fault i place_fault.OtherFti = refl
early_fault i place_fault.SymbolLength = refl
early_fault i place_fault.Range = refl

pub early_reason : (d : List ℕ) (scope : Scope) (i : ℕ) (r : Reason) → IsRefusedAt d scope i r → short_of r ≡ None
early_reason d scope i r h = rw h.reason_is (early_fault i h.fault)

-- ---- behind an index

module _ (who : Identity) (x o : List ℕ) (z : Certificate) (sound : Bool) (index : Index) (end : End) (is : IsIndexed who z.fti (Some x) sound index end) where
  abbrev ds : List (List ℕ)
  ds = is.datagrams

  abbrev t : Tallied
  t = tallied_of index.tally

  pub index_of : IsIndexOf x z.fti index is.datagrams
  index_of = record { tallied = is.tallied; many = is.many; stand = is.stand }

  module _ (wrong : Option Wrong) (are : AreCompared z o (tallied_of index.tally) is.datagrams (block_count z.fti) wrong) where
    pub gives_object : GivesObject o z
    gives_object b c i lb lc li = are.gives b lb c i lc li

    said : (i : ℕ) → i < limit_of wrong (length ds) → i < length ds → SaysNothing (by_certificate z) t.scope (reading_at ds i)
    said i = said_by_blocks z.fti t ds is.tallied (by_certificate z) (limit_of wrong (length ds)) (λ b lb k lk l. are.said b lb k lk l) i

  module _ (are : AreCompared z o (tallied_of index.tally) is.datagrams (block_count z.fti) None) where
    -- no symbol is wrong
    pub tallied : AreTallied (by_certificate z) z.fti (tallied_of index.tally) is.datagrams
    tallied = all_passed (by_certificate z) z.fti t ds is.tallied (λ i l. said None are i l l)

    pub whole_tally : IsValidFti z.fti → EndsBy index.tally is.left sound File → IsWholeTally who x z index.tally
    whole_tally valid at = record {
      datagrams = ds;
      each = is.each;
      left = is.left;
      consumed = is.consumed;
      end = at;
      identity = is.identity;
      tallied = record { valid = valid; tallied = tallied };
    }

    module _ (name : is_for who z.name ≡ true) (form : IsObject z.fti o) where
      -- there is a reason against the next datagram
      pub refused_next : (r : Reason) → EndsBy index.tally is.left sound (ByReason r) → (left : Option (List ℕ)) × IsCheckedFrom who (Some x) left o z (No r)
      refused_next r at =
          let d = at.0 in
          let new = at.1 in
          let no = refuses_fault (by_certificate z) z.fti t ds tallied d r at.4 in (
            new,
            not_passed who z o name form (gives_object None are) (Some x) new (ds ++ d ∷ []) (datagrams_push ds d is.each at.2) (consumes_one (Some x) is.left new ds d is.consumed at.3) r
                (subst (λ (w : Identity). IsUnpassed (by_certificate z) z.fti w (ds ++ d ∷ []) r) is.identity no),
          )

      -- the next frame wasn't read
      pub refused : (fault : FrameFault) → EndsBy index.tally is.left sound (Frame fault)
          → ((left : Option (List ℕ)) × (failed : Bool) × IsRefusedBehind who fault (Some x) left failed o z) × (fault ≡ Io → sound ≡ false)
      refused fault at = (
        (
          at.0.0,
          at.0.1,
          not_read who z o name form (gives_object None are) (Some x) is.left ds is.each is.consumed (rw is.identity at tallied.clean) at.0.1 at.0.0 fault at.0.2,
        ),
        at.1,
      )

  -- a symbol is wrong
  module _ (wrong : Wrong) (are : AreCompared z o (tallied_of index.tally) is.datagrams (block_count z.fti) (Some wrong)) (name : is_for who z.name ≡ true) (form : IsObject z.fti o) where
    wrong_symbol : (left : Option (List ℕ)) × IsCheckedFrom who (Some x) left o z (No (Symbol wrong.place wrong.column))
    wrong_symbol =
        let p : ℕ = wrong.place in
        let w = are.is in
        let inside : p < length ds = w.place in
        let first = first_wrong (by_certificate z) z.fti t ds is.tallied p wrong.column w.packet inside (λ i l. said (Some wrong) are i l (omega (arith, l, inside))) w.look w.says in
        let front = front_consumed x is.left ds (p + 1) is.consumed in (
          front.0,
          not_passed who z o name form (gives_object (Some wrong) are) (Some x) front.0 (take (p + 1) ds) (front_each (p + 1) ds is.each) front.1 (Symbol p wrong.column)
              (subst (λ (w : Identity). first_reason_by (by_certificate z) z.fti w (readings_of (take (p + 1) ds)) ≡ Some (Symbol p wrong.column)) is.identity first, length-take-le (p + 1) ds (omega (arith, inside))),
        )

  -- not all blocks are as they should be
  pub against_blocks : (r : Reason) → IsBlocksReason z o (tallied_of index.tally) is.datagrams r → is_for who z.name ≡ true → IsObject z.fti o
      → (left : Option (List ℕ)) × IsCheckedFrom who (Some x) left o z (No r)
  against_blocks r (inl h) name form =
      subst (λ (y : Reason). (left : Option (List ℕ)) × IsCheckedFrom who (Some x) left o z (No y)) (sym h.3) (before who x o z (NotObject h.0 h.1 h.2) (name, form.count, h.4))
  against_blocks r (inr h) name form =
      subst (λ (y : Reason). (left : Option (List ℕ)) × IsCheckedFrom who (Some x) left o z (No y)) (sym h.1) (wrong_symbol h.0 h.2 name form)

-- ---- by a whole tally

module _ (who : Identity) (x o : List ℕ) (z : Certificate) (valid : IsCertificate z) (name : is_for who z.name ≡ true) (form : IsObject z.fti o) (gives : GivesObject o z) (tally : Tally)
    (w : IsWholeTally who x z tally) (v : Verdict) (h : VerdictWhereGiven tally.scope.identity w.datagrams z v) (is : OnYes v (IsReport tally.scope.identity w.datagrams z.fti)) where
  given : VerdictWhereGiven who w.datagrams z v
  given = subst (λ (i : Identity). VerdictWhereGiven i w.datagrams z v) w.identity h

  clean : (reception_to who z (readings_of w.datagrams)).wrong ≡ None
  clean = rw w.identity at w.tallied.tallied.clean

  told : OnYes v (IsReport who w.datagrams z.fti)
  told = subst (λ (i : Identity). OnYes v (IsReport i w.datagrams z.fti)) w.identity is

  pub verdict_in : IsCheckedFrom who (Some x) w.left o z v
  verdict_in = verdict_from who z o name form gives (Some x) w.left w.datagrams w.each w.consumed clean v valid w.end (judged_given who w.datagrams o z v name form gives given) told

  pub survey_in : (survey : Option Survey) → OnYesWith v survey (IsSurvey tally.scope.identity w.datagrams z.fti) → IsSurveyedFrom who (Some x) w.left o z v survey
  survey_in survey surveyed =
      survey_of who z o name form gives (Some x) w.left w.datagrams w.each w.consumed clean v survey valid w.end (judged_given who w.datagrams o z v name form gives given) told
      (subst (λ (i : Identity). OnYesWith v survey (IsSurvey i w.datagrams z.fti)) w.identity surveyed)
