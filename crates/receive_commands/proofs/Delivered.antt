-- An object that was told and kept.
use Rattle.std.proofs.Common.{◌≡◌, ◌∙◌, ◌⊎◌, ◌++◌, ◌∷◌, ℕ, Bool, true, false, List, [], Option, Some, None, inl, inr, refl, sym, subst, length}
use Rattle.std.specs.Prelude.{codes, replicate}
use Rattle.std.proofs.lemmas.List.{length-replicate}
use Rattle.std.specs.Io.KnownBytes.{Appends}
use Rattle.std.specs.Borrow.{Bor}
use Rattle.session.proofs.Writes.{then_appends}
use Rattle.reception.specs.declared.scope.Identity.{Identity}
use Rattle.reception.specs.Answer as value
use Rattle.reception.specs.Answer.{IsAnswer}
use Rattle.streams.specs.declared.io.Write.{Ghosts}
use Rattle.receiver.specs.Filed.{Stands}
use Rattle.receiver.specs.Receiving.{LeaveNoneShort}
use Rattle.request.specs.declared.requests.FollowRequest.{FollowRequest}
use Rattle.request.specs.declared.requests.Request.TheVariants.{Follow}
use Rattle.host.specs.World.{Creating, Writing, Files, World, Holds, KeepsFiles, IsFree, IsSilent, IsToStay, Replaces}
use Rattle.commands.specs.Inputs.{Opened}
use Rattle.commands.specs.Lines.{line_of, count_line, answer_text}
use Rattle.commands.specs.Commands.{Outcome}
use Rattle.commands.specs.Following.{IsHeard, Ends, complete_line, ends_text}
use Rattle.commands.specs.Outcomes.{HasAsked, GivesOutput, Makes, IsDone, IsBecause, IsStopped, IsUnprinted}
use Rattle.commands.specs.Doing.{IsUncreated, IsUndone, IsUnwritten}
use Rattle.receive_commands.specs.Listening.{stopped_by, AreSaid, IsCreatedFor, IsFollowed, IsFull, IsReceived, IsUnkeptOf, IsWritten}
use Rattle.commands.specs.declared.fault.Fault.{Fault}
use Rattle.commands.specs.declared.fault.Fault.TheVariants.{Open, File, Memory, Frame, Certificate, Fti, Send, NoPlace}
use Rattle.receive_commands.specs.declared.follow.Followed.{Followed}
use Rattle.receive_commands.proofs.Followed.{holds_then, opened_of, has_opened, of_opened}
use Rattle.commands.proofs.Stopping.{by_unmade, may_fail}

-- the object that is kept: what the bytes give, or any of its length where no files are told
kept_object : (fs before after : Option Files) (name out : List ℕ) (n : ℕ) (P : List ℕ → Type 0) (Q : List ℕ → List ℕ → Type 0) → before ≡ fs → Holds fs name P
    → ((bytes : List ℕ) → P bytes → (object : List ℕ) × Q bytes object × Replaces before after out object × (n ≡ length object))
    → (object : List ℕ) × Holds fs name (λ bytes. Q bytes object) × Replaces before after out object × (n ≡ length object)
kept_object None before after name out n P Q same h f = (
  replicate n 0,
  tt,
  subst (λ (b : Option Files). Replaces b after out (replicate n 0)) (sym same) tt,
  sym (length-replicate n 0),
)
kept_object (Some held) before after name out n P Q same (bytes, is, p) f = let w = f bytes p in (w.0, (bytes, is, w.1), w.2, w.3)

-- the object that the bytes give, or any where no files are told
given_object : (fs : Option Files) (name : List ℕ) (P : List ℕ → Type 0) (Q : List ℕ → List ℕ → Type 0) → Holds fs name P → ((bytes : List ℕ) → P bytes → (object : List ℕ) × Q bytes object)
    → (object : List ℕ) × Holds fs name (λ bytes. Q bytes object)
given_object None name P Q h f = ([], tt)
given_object (Some held) name P Q (bytes, is, p) f = let w = f bytes p in (w.0, (bytes, is, w.1))

module _ {W : Type 0} {w : Ghosts W} (r : FollowRequest) (old mid : World) (f : Followed W w) (received : IsReceived r old mid f) (b : World) (said : Bool)
    (first : AreSaid mid b (complete_line f.count) said) (all : said ≡ true → f.said ≡ true) (before : KeepsFiles mid b) where
  abbrev is : IsFollowed r old mid f (IsFull r f)
  is = received.1

  created_here : IsCreatedFor r old mid true
  created_here = subst (λ (x : Bool). IsCreatedFor r old mid x) received.0 is.created

  abbrev text : List ℕ
  text = is.lines ++ complete_line f.count

  told : said ≡ true → Appends old.printed b.printed text
  told so =
      then_appends old.printed mid.printed b.printed is.lines (complete_line f.count) (subst (λ (x : Bool). AreSaid old mid is.lines x) (all so) is.said)
      (subst (λ (x : Bool). AreSaid mid b (complete_line f.count) x) so first)

  module _ (new : World) (silent : IsSilent b new) (created : new.created ≡ b.created) where
    created_now : HasAsked old new r.output
    created_now = created ∙ before.created ∙ created_here.0

    told_now : said ≡ true → Appends old.printed new.printed text
    told_now so = subst (λ (o : Option (List ℕ)). Appends old.printed o text) (sym silent.printed) (told so)

    failed_now : said ≡ false → new.failed ≡ true
    failed_now so = silent.failed ∙ subst (λ (x : Bool). AreSaid mid b (complete_line f.count) x) so first

    -- the object isn't kept
    module _ (files : new.files ≡ b.files) where
      abbrev AreGiven : Fault → Type 0
      AreGiven fault = (taken : List (List ℕ)) → Stands f.receiver taken → LeaveNoneShort f.receiver.receiving.identity taken → IsUnkeptOf f.receiver.receiving.identity taken fault

      -- it is there, though
      gives : (name : Bor (List ℕ)) → AreGiven (Open name) → GivesOutput old.files (Follow r)
      gives name given =
          let found = given_object old.files r.session.now (λ bytes. IsFull r f bytes is.lines)
          (λ bytes object. (left : Option (List ℕ)) × (taken : List (List ℕ)) × IsHeard r.identity (Some bytes) left f.count taken is.lines × IsAnswer r.identity taken (value.Object object)
          × Ends (value.Object object) left) is.heard
          (λ bytes (left, taken, stands, full, heard).
          let (object, answer) = given taken stands (subst (λ (who : Identity). LeaveNoneShort who taken) (sym is.identity) full) in
          (object, (left, taken, heard, subst (λ (who : Identity). IsAnswer who taken (value.Object object)) is.identity answer, tt))) in (
            Opened (opened_of old.files r.session.now) ∷ [],
            record { text = is.lines ++ ends_text (value.Object found.0) f.count; status = 0; output = Some found.0 },
            found.0,
            (has_opened old.files r.session.now _ found.1, tt),
            (f.count, is.lines, value.Object found.0, of_opened old.files r.session.now _ found.1, (refl, refl, refl)),
            refl,
          )

      uncreated : (fault : Fault) → AreGiven fault → IsUncreated b r.output fault → IsBecause old new (Follow r) text fault
      uncreated (Open name) given (named, inl fails) = by_unmade old new (Follow r) text (Open name) (r.output, refl, named, inl (may_fail old b (Creating r.output.name.now) (before.files ∙ is.files) (before.refused ∙ is.refused) fails), gives name given, created_now)
      uncreated (Open name) given (named, inr stays) = by_unmade old new (Follow r) text (Open name)
          (r.output, refl, named, inr (subst (λ (x : Option Files). IsToStay x r.output.name.now r.output.no_clobber) (before.files ∙ is.files) stays), gives name given, created_now)
      uncreated (File n) given why = absurd why
      uncreated Memory given why = absurd why
      uncreated (Frame e) given why = absurd why
      uncreated (Certificate e) given why = absurd why
      uncreated (Fti e) given why = absurd why
      uncreated (Send e) given why = absurd why
      uncreated (NoPlace n) given why = absurd why

      because : (name : Bor (List ℕ)) → name.now ≡ r.output.name.now → (fault : Fault) → AreGiven fault → IsUncreated b r.output fault ⊎ IsUnwritten b r.output (File name) fault
          → IsBecause old new (Follow r) text fault
      because name named fault given (inl why) = uncreated fault given why
      because name named fault given (inr (inl none)) = subst (λ (x : Fault). IsBecause old new (Follow r) text x) (sym none) tt
      because name named fault given (inr (inr (same, fails))) =
          subst (λ (x : Fault). IsBecause old new (Follow r) text x) (sym same) (by_unmade old new (Follow r) text (File name) (r.output, refl, may_fail old b (Writing r.output.name.now) (before.files ∙ is.files) (before.refused ∙ is.refused) fails, named, created_now))

      pub not_kept : (name : Bor (List ℕ)) → name.now ≡ r.output.name.now → (fault : Fault) → AreGiven fault → IsUncreated b r.output fault ⊎ IsUnwritten b r.output (File name) fault
          → IsUndone old new (Follow r) (stopped_by fault said)
      not_kept name named fault given why = go said refl
        where
          stopped_here : IsStopped old new (Follow r) text fault
          stopped_here = record {
            because = because name named fault given why;
            before = inr (holds_then old.files r.session.now _ _ (λ bytes (left, taken, stands, full, heard). (left, f.count, taken, is.lines, heard, inr (full, refl))) is.heard);
            files = files ∙ before.files ∙ is.files;
            created = inr ((r.output, refl, created_now), created_here.1);
          }

          go : (p : Bool) → said ≡ p → IsUndone old new (Follow r) (stopped_by fault p)
          go true so = (text, told_now so, stopped_here)
          go false so = record { failed = failed_now so; done = inr (text, fault, stopped_here) }

    -- it is
    module _ (free : IsFree b.files r.output.name.now r.output.no_clobber) (n : ℕ) (written : (taken : List (List ℕ)) → Stands f.receiver taken → LeaveNoneShort f.receiver.receiving.identity taken
        → IsWritten r f.receiver.receiving.identity taken b new n) where
      abbrev Gives_it : List ℕ → List ℕ → Type 0
      Gives_it bytes object = (left : Option (List ℕ)) × (taken : List (List ℕ)) × IsHeard r.identity (Some bytes) left f.count taken is.lines × IsAnswer r.identity taken (value.Object object)
          × Ends (value.Object object) left

      abbrev found : (object : List ℕ) × Holds old.files r.session.now (λ bytes. Gives_it bytes object) × Replaces b.files new.files r.output.name.now object × (n ≡ length object)
      found = kept_object old.files b.files new.files r.session.now r.output.name.now n (λ bytes. IsFull r f bytes is.lines) Gives_it (before.files ∙ is.files) is.heard
          (λ bytes (left, taken, stands, full, heard).
          let (object, answer, replaced, long) = written taken stands (subst (λ (who : Identity). LeaveNoneShort who taken) (sym is.identity) full) in
          (object, (left, taken, heard, subst (λ (who : Identity). IsAnswer who taken (value.Object object)) is.identity answer, tt), replaced, long))

      abbrev outcome : Outcome
      outcome = record { text = is.lines ++ ends_text (value.Object found.0) f.count; status = 0; output = Some found.0 }

      makes : (end : World) → KeepsFiles new end → Makes old end (Follow r) outcome
      makes end then = record {
        values = Opened (opened_of old.files r.session.now) ∷ [];
        read = (has_opened old.files r.session.now _ found.1, tt);
        gives = (f.count, is.lines, value.Object found.0, of_opened old.files r.session.now _ found.1, (refl, refl, refl));
        made = (
          subst (λ (x : Option Files). Replaces x end.files r.output.name.now found.0) (before.files ∙ is.files)
              (subst (λ (x : Option Files). Replaces b.files x r.output.name.now found.0) (sym then.files) found.2),
          then.created ∙ created_now,
          subst (λ (x : Option Files). IsFree x r.output.name.now r.output.no_clobber) (before.files ∙ is.files) free,
        );
      }

      pub delivered : (end : World) → said ≡ true → KeepsFiles new end → Appends new.printed end.printed (count_line (codes "object") n (codes " bytes"))
          → IsDone old end (Follow r) 0
      delivered end so then printed = record {
        outcome = outcome;
        makes = makes end then;
        printed = whole;
        is_status = refl;
      }
        where
          object_line : Appends new.printed end.printed (line_of (answer_text (value.Object found.0)))
          object_line = subst (λ (k : ℕ). Appends new.printed end.printed (count_line (codes "object") k (codes " bytes"))) found.3 printed

          whole : Appends old.printed end.printed (is.lines ++ ends_text (value.Object found.0) f.count)
          whole =
              then_appends old.printed mid.printed end.printed is.lines (complete_line f.count ++ line_of (answer_text (value.Object found.0)))
              (subst (λ (x : Bool). AreSaid old mid is.lines x) (all so) is.said)
              (then_appends mid.printed new.printed end.printed (complete_line f.count) (line_of (answer_text (value.Object found.0)))
              (subst (λ (o : Option (List ℕ)). Appends mid.printed o (complete_line f.count)) (sym silent.printed) (subst (λ (x : Bool). AreSaid mid b (complete_line f.count) x) so first))
              object_line)

      pub undelivered : (end : World) → KeepsFiles new end → end.failed ≡ true → IsUnprinted old end (Follow r)
      undelivered end then failed = record { failed = failed; done = inl (outcome, makes end then) }

      pub undelivered_unsaid : said ≡ false → IsUnprinted old new (Follow r)
      undelivered_unsaid so = record {
        failed = failed_now so;
        done = inl (outcome, makes new (record { files = refl; refused = refl; created = refl }));
      }
