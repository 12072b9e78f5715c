-- The numbers of datagrams that were read.
use Rattle.std.proofs.Common.{◌≡◌, ◌<◌, ◌≤◌, ℕ, Bool, true, List, [], ◌∷◌, ◌++◌, length, Option, None, Ok, Err, refl, sym, ap, subst, arith}
use Rattle.std.specs.Io.KnownBytes.{Consumes}
use Rattle.session.specs.Frames.{frame, most_bytes}
use Rattle.session.specs.declared.frame.FrameFault.{FrameFault}
use Rattle.session.specs.declared.frame.FrameFault.TheVariants as frame_fault
use Rattle.session.proofs.Sessions.{short_push}
use Rattle.cert.proofs.FromReader.{consumes_one}
use Rattle.alc.specs.Reading.{Reading, Reads}
use Rattle.inventory.specs.Packets.{faults_in}
use Rattle.inventory.specs.Tells.{Tells}
use Rattle.inventory.specs.declared.collecting.Summary.{Summary}
use Rattle.request.specs.declared.requests.ShowRequest.{ShowRequest}
use Rattle.request.specs.declared.requests.Request.TheVariants.{Show}
use Rattle.host.specs.World.{Reading as ReadingFile, World, MayFail}
use Rattle.commands.specs.Inputs.{AStream, Datagrams, Opened, HasValue}
use Rattle.commands.specs.Commands.{shown_status, TellsDatagrams}
use Rattle.commands.specs.Doing.{HasMade, HasStopped, text_of}
use Rattle.commands.specs.Totals.{AreTotals}
use Rattle.receive_commands.specs.Totalling.{AreCounted, AreAllCounted, IsCutBehind, IsUncounted}
use Rattle.commands.specs.declared.done.Done.{Done}
use Rattle.commands.specs.declared.done.Told.TheVariants.{Lines}
use Rattle.commands.specs.declared.fault.Fault.{Fault}
use Rattle.commands.specs.declared.fault.Fault.TheVariants.{Open, File, Memory, Frame, Certificate, Fti, Send, NoPlace}
use Rattle.commands.proofs.Numbered.{read_more}
use Rattle.commands.proofs.Stopping.{stopped}
use Rattle.receive_commands.proofs.Showed.{none_had, read_stops}
use Rattle.commands.proofs.Holding.{holds_session, nothing_consumed}

-- no packet, no other status
pub good_status : (rs : List Reading) → faults_in rs ≡ [] → 0 ≡ shown_status rs
good_status [] none = refl
good_status (Ok p ∷ rs) none = good_status rs none
good_status (Err e ∷ rs) none = absurd (cc)

pub bad_status : (rs : List Reading) → 0 < length (faults_in rs) → 1 ≡ shown_status rs
bad_status [] some = absurd (omega (arith, some))
bad_status (Ok p ∷ rs) some = bad_status rs some
bad_status (Err e ∷ rs) some = refl

pub none_counted : (opened : Option (List ℕ)) (summary : Summary) → Tells [] summary → AreCounted opened opened summary
none_counted opened summary told = ([], ([], record { consumed = nothing_consumed opened; each = λ i. omega arith }, tt), told)

-- one datagram more
pub one_more_counted : (opened a b : Option (List ℕ)) (old new : Summary) (d : List ℕ) → AreCounted opened a old → Consumes a b (frame d) → length d ≤ most_bytes
    → ((rs : List Reading) → Tells rs old → (r : Reading) × Reads d r × Tells (rs ++ r ∷ []) new) → AreCounted opened b new
one_more_counted opened a b old new d (rs, (ds, read, all), told) one short more =
    let (r, reads, now) = more rs told in (
      rs ++ r ∷ [],
      (ds ++ d ∷ [], record { consumed = consumes_one opened a b ds d read.consumed one; each = short_push ds d read.each short }, read_more ds rs d r all reads),
      now,
    )

module _ (w : World) (r : ShowRequest) (asked : r.summary ≡ true) (opened : Option (List ℕ)) (held : HasValue w.files (AStream r.session.now) (Opened opened)) where
  pub made : (summary : Summary) (text : List ℕ) (done : Done) → AreAllCounted opened summary → ((rs : List Reading) → Tells rs summary → AreTotals rs text)
      → ((rs : List Reading) → Tells rs summary → done.status ≡ shown_status rs) → done.told ≡ Lines text → HasMade w w (Show r) done
  made summary text done (left, end, (rs, (ds, read, all), told)) totals status is = record {
    outcome = record { text = text; status = shown_status rs; output = None };
    makes = record {
      values = Datagrams ds ∷ [];
      read = (holds_session w.files r.session.now opened left ds held read end, tt);
      gives = (rs, all, subst (λ (b : Bool). TellsDatagrams b rs text) (sym asked) (totals rs told), refl, refl);
      made = (refl, refl);
    };
    text = sym (ap text_of is);
    status = sym (status rs told);
    silent = refl;
  }

  cut : (e : FrameFault) → IsCutBehind e opened → (e ≡ frame_fault.Io → MayFail w (ReadingFile r.session.now)) → HasStopped w w (Show r) (Frame e)
  cut e (left, rs, (ds, read, all), rest, failed, why) fails = none_had w r (Frame e) (read_stops w r.session.now opened left rest failed ds e held read why fails)

  pub uncounted : (fault : Fault) → IsUncounted opened fault → (fault ≡ Frame frame_fault.Io → MayFail w (ReadingFile r.session.now)) → HasStopped w w (Show r) fault
  uncounted (Frame frame_fault.NoMemory) why fails = absurd why
  uncounted (Frame frame_fault.Io) why fails = cut frame_fault.Io why (λ _. fails refl)
  uncounted (Frame frame_fault.CutLength) why fails = cut frame_fault.CutLength why (λ e. absurd (cc))
  uncounted (Frame frame_fault.CutDatagram) why fails = cut frame_fault.CutDatagram why (λ e. absurd (cc))
  uncounted (Frame frame_fault.TooLong) why fails = cut frame_fault.TooLong why (λ e. absurd (cc))
  uncounted (Frame (frame_fault.NoSuchPlace p)) why fails = cut (frame_fault.NoSuchPlace p) why (λ e. absurd (cc))
  uncounted Memory why fails = stopped w (Show r) Memory tt
  uncounted (Open n) why fails = absurd why
  uncounted (File n) why fails = absurd why
  uncounted (Certificate e) why fails = absurd why
  uncounted (Fti e) why fails = absurd why
  uncounted (Send e) why fails = absurd why
  uncounted (NoPlace n) why fails = absurd why
