-- Why a request wasn't done, by its parts.
use Rattle.std.proofs.Common.{◌≡◌, ◌⊎◌, ◌∙◌, ℕ, Bool, true, List, [], Option, Some, None, Result, Ok, Err, inl, inr, ap, refl, sym, subst}
use Rattle.std.specs.Prelude.{IfSome, IfErr, IsErrAnd}
use Rattle.std.specs.Io.KnownBytes.{Appends}
use Rattle.std.proofs.KnownBytes.{Appends-nil}
use Rattle.request.specs.declared.requests.Output.{Output}
use Rattle.request.specs.declared.requests.Request.{Request}
use Rattle.request.specs.declared.requests.Request.TheVariants.{Check, Twin, Show, Encode, Certify, Convert, Decode, Follow, Drop, Salvage, Join}
use Rattle.host.specs.World.{Call, Creating, Writing, Files, World, MayFail, KeepsFiles, IsFree, IsSilent, IsToStay, Replaces}
use Rattle.commands.specs.Inputs.{Value, HaveValues}
use Rattle.commands.specs.Commands.{Outcome, Gives, inputs_of, output_of, Refuses}
use Rattle.commands.specs.Outcomes.{HasAsked, IsDone, IsMade, IsOutput, IsUnmade, IsUnhad, IsUnprinted, IsBecause, BeginsText, GivesOutput, Makes, MayCreate, MayHaveCreated}
use Rattle.commands.specs.Doing.{text_of, HasMade, HasStopped, IsUncreated, IsUncommitted, IsUndone, IsUnkept, IsUnwritten}
use Rattle.commands.specs.declared.done.Done.{Done}
use Rattle.commands.specs.declared.fault.Fault.{Fault}
use Rattle.commands.specs.declared.fault.Fault.TheVariants.{Open, File, Memory, Frame, Certificate, Fti, Send, NoPlace}
use Rattle.commands.specs.declared.fault.Stop.TheVariants.{ByFault}
use Rattle.commands.specs.declared.output.Unwritten.{Unwritten}
use Rattle.commands.specs.declared.output.Unwritten.TheVariants as unwritten

-- nothing was printed
pub begins_nothing : (files : Option Files) (r : Request) → BeginsText files r []
begins_nothing files (Check r) = refl
begins_nothing files (Twin r) = refl
begins_nothing files (Show r) = inl refl
begins_nothing files (Encode r) = refl
begins_nothing files (Certify r) = refl
begins_nothing files (Convert r) = refl
begins_nothing files (Decode r) = refl
begins_nothing files (Follow r) = inl refl
begins_nothing files (Drop r) = refl
begins_nothing files (Salvage r) = refl
begins_nothing files (Join r) = refl

module _ (old new : World) (r : Request) (text : List ℕ) where
  because : (fault : Fault) → IsUnhad old r fault ⊎ (Refuses old r text fault ⊎ IsUnmade old new r fault) → IsBecause old new r text fault
  because (Open name) h = h
  because (File name) h = h
  because Memory h = tt
  because (Frame e) h = h
  because (Certificate e) h = h
  because (Fti e) h = h
  because (Send e) h = h
  because (NoPlace n) h = h

  pub by_unread : (fault : Fault) → IsUnhad old r fault → IsBecause old new r text fault
  by_unread fault h = because fault (inl h)

  pub by_refused : (fault : Fault) → Refuses old r text fault → IsBecause old new r text fault
  by_refused fault h = because fault (inr (inl h))

  pub by_unmade : (fault : Fault) → IsUnmade old new r fault → IsBecause old new r text fault
  by_unmade fault h = because fault (inr (inr h))

-- before an output
pub stopped : (w : World) (r : Request) (fault : Fault) → IsBecause w w r [] fault → HasStopped w w r fault
stopped w r fault why = record {
  stopped = record { because = why; before = begins_nothing w.files r; files = refl; created = inl refl };
  silent = refl;
}

-- ---- at an output

pub may_fail : (old mid : World) (call : Call) → mid.files ≡ old.files → mid.refused ≡ old.refused → MayFail mid call → MayFail old call
may_fail old mid call files refused (inl untold) = inl (sym files ∙ untold)
may_fail old mid call files refused (inr refuses) = inr (sym (ap (λ (f : Call → Bool). f call) refused) ∙ refuses)

-- there was no memory for an output
pub no_output : (old mid : World) (r : Request) → mid.files ≡ old.files → IsSilent old mid → mid.created ≡ old.created → HasStopped old mid r Memory
no_output old mid r files silent created = record {
  stopped = record { because = tt; before = begins_nothing old.files r; files = files; created = inl created };
  silent = silent.printed;
}

-- What was written is what the inputs give, with this text and status.
pub record WritesGiven (files : Option Files) (r : Request) (text : List ℕ) (status : ℕ) (blank contents : Option (List ℕ)) : Type 0 where
  pub bytes : List ℕ
  pub values : List Value
  pub read : HaveValues files (inputs_of r) values
  pub gives : Gives r values (record { text = text; status = status; output = Some bytes })
  pub gained : Appends blank contents bytes

pub gives_output : (files : Option Files) (r : Request) (text : List ℕ) (status : ℕ) (blank contents : Option (List ℕ)) → WritesGiven files r text status blank contents → GivesOutput files r
gives_output files r text status blank contents g = (g.values, record { text = text; status = status; output = Some g.bytes }, g.bytes, g.read, g.gives, refl)

-- what was written to a new output and kept
pub kept_whole : (old mid new : Option Files) (name bytes : List ℕ) (blank contents : Option (List ℕ)) → IfSome old (λ held. blank ≡ Some []) → Appends blank contents bytes
    → mid ≡ old → IfSome contents (Replaces mid new name) → Replaces old new name bytes
kept_whole None mid new name bytes blank contents is gained same kept = tt
kept_whole (Some held) mid new name bytes blank None is gained same kept = absurd (subst (λ (o : Option (List ℕ)). Appends o None bytes) is gained)
kept_whole (Some held) mid new name bytes blank (Some x) is gained same kept =
    let whole : x ≡ bytes = subst (λ (o : Option (List ℕ)). Appends o (Some x) bytes) is gained in
    subst (λ (ys : List ℕ). Replaces (Some held) new name ys) whole (subst (λ (f : Option Files). Replaces f new name x) same kept)

module _ (old mid : World) (r : Request) (output : Output) (is : output_of r ≡ Some output) (files : mid.files ≡ old.files) (silent : IsSilent old mid) (created : HasAsked old mid output)
    (new : World) (silent_then : IsSilent mid new) (created_then : new.created ≡ mid.created) where
  -- what they give was done
  pub all_made : (text : List ℕ) (status : ℕ) (blank contents : Option (List ℕ)) → IfSome old.files (λ held. blank ≡ Some []) → WritesGiven old.files r text status blank contents
      → IfSome contents (Replaces mid.files new.files output.name.now) → IsFree mid.files output.name.now output.no_clobber
      → (done : Done) → text ≡ text_of done.told → status ≡ done.status → HasMade old new r done
  all_made text status blank contents empty given kept free done told ended = record {
    outcome = record { text = text; status = status; output = Some given.bytes };
    makes = record {
      values = given.values;
      read = given.read;
      gives = given.gives;
      made = subst (λ (o : Option Output). IsOutput old new o (Some given.bytes)) (sym is) (
        kept_whole old.files mid.files new.files output.name.now given.bytes blank contents empty given.gained files kept,
        created_then ∙ created,
        subst (λ (f : Option Files). IsFree f output.name.now output.no_clobber) files free,
      );
    };
    text = told;
    status = ended;
    silent = silent_then.printed ∙ silent.printed;
  }

  module _ (may : MayCreate old.files r) (files_then : new.files ≡ mid.files) where
    asked : HasAsked old new output
    asked = created_then ∙ created

    halted : (fault : Fault) → IsBecause old new r [] fault → HasStopped old new r fault
    halted fault why = record {
      stopped = record { because = why; before = begins_nothing old.files r; files = files_then ∙ files; created = inr ((output, is, asked), may) };
      silent = silent_then.printed ∙ silent.printed;
    }

    module _ (failure : Fault) (tells : MayFail old (Writing output.name.now) → HasAsked old new output → IsUnmade old new r failure) where
      by_writing : (told : Fault) → IsUnwritten mid output failure told → HasStopped old new r told
      by_writing told (inl none) = halted told (subst (λ (f : Fault). IsBecause old new r [] f) (sym none) tt)
      by_writing told (inr (same, fails)) =
          halted told (subst (λ (f : Fault). IsBecause old new r [] f) (sym same)
          (by_unmade old new r [] failure (tells (may_fail old mid (Writing output.name.now) files silent.refused fails) asked)))

      by_name : (told : Fault) → IsUncreated mid output told → GivesOutput old.files r → IsUnmade old new r told
      by_name (Open name) why gives = (output, is, why.0, untaken why.1, gives, asked)
        where
          untaken : MayFail mid (Creating output.name.now) ⊎ IsToStay mid.files output.name.now output.no_clobber → MayFail old (Creating output.name.now) ⊎ IsToStay old.files output.name.now output.no_clobber
          untaken (inl fails) = inl (may_fail old mid (Creating output.name.now) files silent.refused fails)
          untaken (inr stays) = inr (subst (λ (f : Option Files). IsToStay f output.name.now output.no_clobber) files stays)
      by_name (File n) why gives = absurd why
      by_name Memory why gives = absurd why
      by_name (Frame e) why gives = absurd why
      by_name (Certificate e) why gives = absurd why
      by_name (Fti e) why gives = absurd why
      by_name (Send e) why gives = absurd why
      by_name (NoPlace n) why gives = absurd why

      pub uncommitted : (written : Result ℕ Unwritten) (told : Fault) → ((n : ℕ) → written ≡ Ok n → GivesOutput old.files r)
          → ((f : Fault) → written ≡ Err (unwritten.Fault f) → IsBecause old new r [] f) → IsUncommitted mid output written failure told → HasStopped old new r told
      uncommitted (Ok n) told gives why (inl name) = halted told (by_unmade old new r [] told (by_name told name (gives n refl)))
      uncommitted (Ok n) told gives why (inr unwritten) = by_writing told unwritten
      uncommitted (Err unwritten.Writing) told gives why h = by_writing told h
      uncommitted (Err (unwritten.Fault f)) told gives why h = halted told (subst (λ (x : Fault). IsBecause old new r [] x) (sym h) (why f refl))

-- an error that `?` passes on
pub passed_on : {A E : Type 0} (r : Result A E) (e : E) (P : E → Type 0) → IsErrAnd r (λ x. x ≡ e) → P e → IfErr r P
passed_on (Ok a) e P h p = tt
passed_on (Err x) e P h p = subst P (sym h) p

-- a file that was to be made of bytes
pub unkept : (old new : World) (r : Request) (output : Output) → output_of r ≡ Some output → new.files ≡ old.files → IsSilent old new → MayCreate old.files r → GivesOutput old.files r
    → (failure told : Fault) → (MayFail old (Writing output.name.now) → HasAsked old new output → IsUnmade old new r failure) → IsUnkept old new output failure told → HasStopped old new r told
unkept old new r output is files silent may gives failure told tells (inl (none, created)) =
    subst (λ (f : Fault). HasStopped old new r f) (sym none) (no_output old new r files silent created)
unkept old new r output is files silent may gives failure told tells (inr (why, created)) =
    uncommitted old new r output is files silent created new (unchanged new) refl may refl failure tells (Ok 0) told (λ n e. gives) (λ f e. absurd (cc)) (seen why)
  where
    unchanged : (w : World) → IsSilent w w
    unchanged w = record { printed = refl; failed = refl; refused = refl }

    since : (call : Call) → MayFail old call → MayFail new call
    since call fails = may_fail new old call (sym files) (sym silent.refused) fails

    named : (f : Fault) → IsUncreated old output f → IsUncreated new output f
    named (Open name) (is, inl fails) = (is, inl (since (Creating output.name.now) fails))
    named (Open name) (is, inr stays) = (is, inr (subst (λ (f : Option Files). IsToStay f output.name.now output.no_clobber) (sym files) stays))
    named (File n) why = absurd why
    named Memory why = absurd why
    named (Frame e) why = absurd why
    named (Certificate e) why = absurd why
    named (Fti e) why = absurd why
    named (Send e) why = absurd why
    named (NoPlace n) why = absurd why

    seen : IsUncommitted old output (Ok 0) failure told → IsUncommitted new output (Ok 0) failure told
    seen (inl name) = inl (named told name)
    seen (inr (inl none)) = inr (inl none)
    seen (inr (inr (same, fails))) = inr (inr (same, since (Writing output.name.now) fails))

-- nothing was printed, and the fault is to be told
pub undone : (old new : World) (r : Request) (fault : Fault) → HasStopped old new r fault → IsUndone old new r (ByFault fault)
undone old new r fault h = ([], subst (λ (o : Option (List ℕ)). Appends old.printed o []) (sym h.silent) (Appends-nil old.printed), h.stopped)

-- ---- what was made stays so while only lines are printed

output_then : (old mid new : World) (name : Option Output) (o : Option (List ℕ)) → new.files ≡ mid.files → new.created ≡ mid.created → IsOutput old mid name o → IsOutput old new name o
output_then old mid new None (Some bytes) files created h = absurd h
output_then old mid new None None files created h = (files ∙ h.0, created ∙ h.1)
output_then old mid new (Some output) None files created h = (files ∙ h.0, created ∙ h.1)
output_then old mid new (Some output) (Some bytes) files created h = (subst (λ (f : Option Files). Replaces old.files f output.name.now bytes) (sym files) h.0, created ∙ h.1, h.2)

asked_then : (old mid new : World) (r : Request) → new.created ≡ mid.created → MayHaveCreated old mid r → MayHaveCreated old new r
asked_then old mid new r created (inl same) = inl (created ∙ same)
asked_then old mid new r created (inr ((output, is, asked), may)) = inr ((output, is, created ∙ asked), may)

pub made_then : (old mid new : World) (r : Request) (o : Option (List ℕ)) → new.files ≡ mid.files → new.created ≡ mid.created → IsMade old mid r o → IsMade old new r o
made_then old mid new r (Some bytes) files created h = output_then old mid new (output_of r) (Some bytes) files created h
made_then old mid new (Decode r) None files created h = (files ∙ h.0, asked_then old mid new (Decode r) created h.1)
made_then old mid new (Follow r) None files created h = (files ∙ h.0, asked_then old mid new (Follow r) created h.1)
made_then old mid new (Check r) None files created h = output_then old mid new (output_of (Check r)) None files created h
made_then old mid new (Twin r) None files created h = output_then old mid new (output_of (Twin r)) None files created h
made_then old mid new (Show r) None files created h = output_then old mid new (output_of (Show r)) None files created h
made_then old mid new (Encode r) None files created h = output_then old mid new (output_of (Encode r)) None files created h
made_then old mid new (Certify r) None files created h = output_then old mid new (output_of (Certify r)) None files created h
made_then old mid new (Convert r) None files created h = output_then old mid new (output_of (Convert r)) None files created h
made_then old mid new (Drop r) None files created h = output_then old mid new (output_of (Drop r)) None files created h
made_then old mid new (Salvage r) None files created h = output_then old mid new (output_of (Salvage r)) None files created h
made_then old mid new (Join r) None files created h = output_then old mid new (output_of (Join r)) None files created h

makes_then : (old mid new : World) (r : Request) (outcome : Outcome) → KeepsFiles mid new → Makes old mid r outcome → Makes old new r outcome
makes_then old mid new r outcome keeps makes = record {
  values = makes.values;
  read = makes.read;
  gives = makes.gives;
  made = made_then old mid new r outcome.output keeps.files keeps.created makes.made;
}

pub done_then : (old mid new : World) (r : Request) (d : Done) → HasMade old mid r d → KeepsFiles mid new → Appends mid.printed new.printed (text_of d.told) → IsDone old new r d.status
done_then old mid new r d made keeps printed = record {
  outcome = made.outcome;
  makes = makes_then old mid new r made.outcome keeps made.makes;
  printed = subst (λ (p : Option (List ℕ)). Appends p new.printed made.outcome.text) made.silent (subst (λ (t : List ℕ). Appends mid.printed new.printed t) (sym made.text) printed);
  is_status = sym made.status;
}

pub unprinted_then : (old mid new : World) (r : Request) (d : Done) → HasMade old mid r d → KeepsFiles mid new → new.failed ≡ true → IsUnprinted old new r
unprinted_then old mid new r d made keeps failed = record {
  failed = failed;
  done = inl (made.outcome, makes_then old mid new r made.outcome keeps made.makes);
}
