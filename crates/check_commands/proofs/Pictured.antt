-- What came of a check, by what was told of it.
use Rattle.std.proofs.Common.{◌≡◌, inl, inr, ℕ, Bool, List, [], ◌∷◌, Option, Some, None, Result, Ok, Err, Bor, option_map, length, ap, refl, sym, subst, arith}
use Rattle.std.proofs.lemmas.List.{length-map}
use Rattle.lists.specs.Below.{below}
use Rattle.lists.proofs.Below.{length_below}
use Rattle.partition.specs.Fti.{Fti, IsValidFti, block_count, source_count}
use Rattle.partition.proofs.Laws.{some_block}
use Rattle.reception.specs.Symbols.{arrived_count}
use Rattle.reception.specs.Reception.{counted, symbols}
use Rattle.reception.specs.declared.scope.Identity.{Identity}
use Rattle.certificate.specs.Certificate.{Certificate, IsCertificate}
use Rattle.cert.specs.FromReader.{IsCheckedFrom}
use Rattle.cert.specs.Report.{IsReport, OnYes}
use Rattle.cert.specs.Surveying.{OnYesWith}
use Rattle.cert.specs.declared.verdict.Survey.{Survey}
use Rattle.cert.specs.declared.verdict.Report.{Report}
use Rattle.cert.specs.declared.verdict.Verdict.{Verdict}
use Rattle.cert.specs.declared.verdict.Verdict.TheVariants.{Yes, No}
use Rattle.request.specs.declared.requests.CheckRequest.{CheckRequest}
use Rattle.request.specs.declared.requests.Request.TheVariants.{Check}
use Rattle.commands.specs.declared.done.Done.{Done}
use Rattle.check_commands.specs.declared.drawing.Drawn.{Drawn}
use Rattle.request.specs.declared.requests.Output.{Output}
use Rattle.host.specs.World.{Files, World, IsFree, Replaces, one_more}
use Rattle.commands.specs.Inputs.{Value, Opened, Bytes, HaveValues, Polynomials}
use Rattle.check_commands.specs.declared.check.Answered.{Answered}
use Rattle.commands.specs.Commands.{Outcome, Gives, IsDrawn, IsCheckStatus, TellsVerdict, inputs_of, output_of}
use Rattle.commands.specs.Outcomes.{IsOutput, MayCreate}
use Rattle.commands.specs.Doing.{text_of, HasMade}
use Rattle.check_commands.specs.Drawing.{HasDrawn, IsSurveyed}
use Rattle.file_check.specs.Files.{IsVerdictIn, IsVerdictOnSome}
use Rattle.std.specs.Prelude.{IfOk, string_bytes}
use Rattle.commands.specs.declared.fault.Fault.{Fault}
use Rattle.check_commands.specs.Checks.{OfFiles, TellsCheck, TellsRequest}
use Rattle.check_commands.specs.Summing.{CanBeSummed}

-- a report has a block
pub has_block : (who : Identity) (ds : List (List ℕ)) (f : Fti) → IsValidFti f → (report : Report) → IsReport who ds f report → CanBeSummed report
has_block who ds f valid report is =
    let many = ap (λ (bs : List (ℕ × ℕ)). length bs) is.blocks in
    let each = length-map {B = ℕ × ℕ} (below (block_count f)) (λ b. (source_count f b, arrived_count (symbols (counted who is.readings)) b)) in
    omega (arith, many, each, length_below (block_count f), some_block f valid)

pub can_be_summed : (who : Identity) (old new : Option (List ℕ)) (object : List ℕ) (z : Certificate) → IsCertificate z → (verdict : Verdict)
    → IsCheckedFrom who old new object z verdict → OnYes verdict CanBeSummed
can_be_summed who old new object z valid (Yes report) h = has_block who h.datagrams z.fti valid.fti report h.report
can_be_summed who old new object z valid (No reason) h = tt

-- an output of this name
abbrev pub output_named : Bool → Bor (List ℕ) → Output
output_named no_clobber name = record { name = name; no_clobber = no_clobber }

-- what was drawn was asked for, and is a picture
asked : (p : Option (Bor (List ℕ))) (no_clobber : Bool) (v : Verdict) (drawn : Drawn) → HasDrawn p v (Some drawn)
    → (option_map (output_named no_clobber) p ≡ Some (output_named no_clobber drawn.name)) × IsDrawn p v (Some (string_bytes drawn.text))
asked (Some name) no_clobber (Yes report) drawn h = (ap (λ n. Some (output_named no_clobber n)) (sym h.0), h.1)
asked (Some name) no_clobber (No reason) drawn h = absurd (cc)
asked None no_clobber v drawn h = absurd (cc)

undrawn : (p : Option (Bor (List ℕ))) (v : Verdict) → HasDrawn p v None → IsDrawn p v None
undrawn (Some name) (Yes report) h = absurd h
undrawn (Some name) (No reason) h = refl
undrawn None v h = refl

no_output : (old new : World) (name : Option Output) → new.files ≡ old.files → new.created ≡ old.created → IsOutput old new name None
no_output old new None files created = (files, created)
no_output old new (Some name) files created = (files, created)

-- the values that the files give, and what they give of a request
abbrev values : (files : Option Files) (r : CheckRequest) (answered : Answered) → TellsRequest files r answered → List Value
values files r answered (inl told) = Opened told.opened ∷ Bytes told.object ∷ Polynomials told.z ∷ []
values files r answered (inr some) = Opened None ∷ Opened None ∷ Opened None ∷ []

have_values : (files : Option Files) (r : CheckRequest) (answered : Answered) (told : TellsRequest files r answered) → HaveValues files (inputs_of (Check r)) (values files r answered told)
have_values files r answered (inl told) = told.read
have_values None r answered (inr (none, some)) = (tt, ((refl, refl), ((refl, refl), tt)))
have_values (Some held) r answered (inr (none, some)) = absurd (cc)

-- the verdict that is told
abbrev verdict_of : (files : Option Files) (r : CheckRequest) (answered : Answered) → TellsRequest files r answered → Verdict
verdict_of files r answered (inl told) = told.tells.verdict
verdict_of files r answered (inr some) = some.1.verdict

drawn_of : (files : Option Files) (r : CheckRequest) (answered : Answered) (told : TellsRequest files r answered) → HasDrawn r.picture (verdict_of files r answered told) answered.picture
drawn_of files r answered (inl told) = told.tells.picture
drawn_of files r answered (inr some) = some.1.picture

given : (files : Option Files) (r : CheckRequest) (answered : Answered) (told : TellsRequest files r answered) (output : Option (List ℕ)) → IsDrawn r.picture (verdict_of files r answered told) output
    → Gives (Check r) (values files r answered told) (record { text = text_of answered.done.told; status = answered.done.status; output = output })
given files r answered (inl told) output is = (told.tells.verdict, told.left, told.tells.checked, told.tells.text, told.tells.status, is)
given files r answered (inr (none, some)) output is = (some.verdict, some.datagrams, some.fti, some.valid, some.report, some.text, some.status, is)

module _ (old new : World) (r : CheckRequest) (done : Done) (drawn : Drawn) (tells : TellsRequest old.files r (record { done = done; picture = Some drawn })) where
  abbrev told_of_yes : Answered
  told_of_yes = record { done = done; picture = Some drawn }

  abbrev outcome : List ℕ → Outcome
  outcome bytes = record { text = text_of done.told; status = done.status; output = Some bytes }

  pub named : output_of (Check r) ≡ Some (output_named r.no_clobber drawn.name)
  named = (asked r.picture r.no_clobber (verdict_of old.files r told_of_yes tells) drawn (drawn_of old.files r told_of_yes tells)).0

  gives : Gives (Check r) (values old.files r told_of_yes tells) (outcome (string_bytes drawn.text))
  gives = given old.files r told_of_yes tells (Some (string_bytes drawn.text)) (asked r.picture r.no_clobber (verdict_of old.files r told_of_yes tells) drawn (drawn_of old.files r told_of_yes tells)).1

  pub may_draw : MayCreate old.files (Check r)
  may_draw = (values old.files r told_of_yes tells, outcome (string_bytes drawn.text), string_bytes drawn.text, have_values old.files r told_of_yes tells, gives, refl)

  pub pictured : Replaces old.files new.files drawn.name.now (string_bytes drawn.text) → new.created ≡ one_more drawn.name.now r.no_clobber old.created → IsFree old.files drawn.name.now r.no_clobber → new.printed ≡ old.printed
      → HasMade old new (Check r) done
  pictured replaced created free silent = record {
    outcome = outcome (string_bytes drawn.text);
    makes = record {
      values = values old.files r told_of_yes tells;
      read = have_values old.files r told_of_yes tells;
      gives = gives;
      made = subst (λ (n : Option Output). IsOutput old new n (Some (string_bytes drawn.text))) (sym named) (replaced, created, free);
    };
    text = refl;
    status = refl;
    silent = silent;
  }

-- without a picture
pub unpictured : (w : World) (r : CheckRequest) (done : Done) → TellsRequest w.files r (record { done = done; picture = None }) → HasMade w w (Check r) done
unpictured w r done tells =
    let answered : Answered = record { done = done; picture = None } in
    record {
      outcome = record { text = text_of done.told; status = done.status; output = None };
      makes = record {
        values = values w.files r answered tells;
        read = have_values w.files r answered tells;
        gives = given w.files r answered tells None (undrawn r.picture (verdict_of w.files r answered tells) (drawn_of w.files r answered tells));
        made = no_output w w (output_of (Check r)) refl refl;
      };
      text = refl;
      status = refl;
      silent = refl;
    }

-- what is told of a verdict on files that stand where they are
pub told_there : (files : Option Files) (r : CheckRequest) (verdict : Verdict) (answered : Answered) → OfFiles files r (λ x o text. IsVerdictIn r.identity x o text verdict) → IsVerdictOnSome r.identity verdict
    → TellsVerdict r.summary verdict (text_of answered.done.told) → IsCheckStatus r verdict answered.done.status → HasDrawn r.picture verdict answered.picture → TellsRequest files r answered
told_there None r verdict answered is (datagrams, f, valid, report) text status picture =
    inr (refl, record { verdict = verdict; datagrams = datagrams; fti = f; valid = valid; report = report; text = text; status = status; picture = picture })
told_there (Some held) r verdict answered (session, object, certificate, at_session, at_object, at_certificate, (z, is_text, left, checked)) some text status picture =
    inl (record {
      opened = Some session;
      left = left;
      object = object;
      z = z;
      read = ((session, at_session, refl), ((object, at_object, refl), ((is_text.0, (certificate, at_certificate, is_text.1)), tt)));
      tells = record { verdict = verdict; checked = checked; text = text; status = status; picture = picture };
    })

-- there is a survey at a yes
pub is_surveyed : (picture : Option (Bor (List ℕ))) (P : Report → Survey → Type 0) (verdict : Verdict) (survey : Option Survey) → OnYesWith verdict survey P → IsSurveyed picture verdict survey
is_surveyed None P verdict survey h = tt
is_surveyed (Some name) P (No reason) survey h = tt
is_surveyed (Some name) P (Yes report) None h = absurd h
is_surveyed (Some name) P (Yes report) (Some survey) h = tt

-- what is told of what is held
pub held_told : (files : Option Files) (r : CheckRequest) (opened left : Option (List ℕ)) (object : List ℕ) (z : Certificate)
    → HaveValues files (inputs_of (Check r)) (Opened opened ∷ Bytes object ∷ Polynomials z ∷ []) → (result : Result Answered Fault) → IfOk result (TellsCheck r opened left object z)
    → IfOk result (TellsRequest files r)
held_told files r opened left object z read (Ok answered) h = inl (record { opened = opened; left = left; object = object; z = z; read = read; tells = h })
held_told files r opened left object z read (Err fault) h = tt
