-- What each command gives of what it reads.
use Rattle.std.specs.Prelude.{◌≡◌, ◌⊎◌, ◌<◌, ◌≤◌, ℕ, Bool, true, false, List, []}
use Rattle.std.specs.Prelude.{◌∷◌, ◌++◌, Option, Some, None, IfSome, length, map}
use Rattle.std.specs.Prelude.{option_map, codes, Ok, Err, ⊤}
use Rattle.std.specs.Borrow.{Bor}
use Rattle.lists.specs.Selection.{rest}
use Rattle.partition.specs.Fti.{Fti, IsValidFti, fti_from, block_count}
use Rattle.partition.specs.FtiFault.{fti_fault}
use Rattle.session.specs.Frames.{frames, HasRead, IsFramed, IsReadFault, StopsAt}
use Rattle.session.specs.Joined.{joined}
use Rattle.session.specs.Ranges.{is_in_some, first_unhad}
use Rattle.session.specs.declared.range.PlaceRange.{PlaceRange}
use Rattle.session.specs.declared.frame.FrameFault.{FrameFault}
use Rattle.session.specs.declared.frame.FrameFault.TheVariants.{Io as FrameIo, NoSuchPlace}
use Rattle.alc.specs.Reading.{Reading}
use Rattle.reception.specs.declared.scope.Identity.{Identity}
use Rattle.reception.specs.Reception.{ReadAll}
use Rattle.reception.specs.Answer.{Answer, Empty, Fault as WrongAt, NotCode, Missing, Object}
use Rattle.reception.specs.Answer.{IsAnswer}
use Rattle.certificate.specs.Certificate.{Certificate, IsCertificate, is_for, named_as}
use Rattle.certificate.specs.Certificate.{certificate_text}
use Rattle.certificate.specs.Converting.{IsOfOther}
use Rattle.cert.specs.FromReader.{IsCheckedFrom, IsRefusedBehind}
use Rattle.cert.specs.Report.{IsReport, OnYes}
use Rattle.cert.specs.Twins.{IsTwinOfSession}
use Rattle.cert.specs.Verdict.{IsVerdict, GivesObject}
use Rattle.certificate.specs.declared.certificate.CertFault.TheVariants.{Io as CertificateIo}
use Rattle.certificate.specs.declared.certificate.CertFault.TheVariants.{OtherIdentity}
use Rattle.cert.specs.declared.verdict.Reason.TheVariants.{Thin}
use Rattle.cert.specs.declared.verdict.Report.{Report}
use Rattle.cert.specs.declared.verdict.Verdict.{Verdict}
use Rattle.cert.specs.declared.verdict.Verdict.TheVariants.{Yes, No}
use Rattle.encoder.specs.Sending.{most_symbol_bytes, CanBeSent, IsSessionOf, pairs}
use Rattle.encoder.specs.Certified.{CertifiesSent}
use Rattle.encoder.specs.declared.sending.SendFault.TheVariants.{SymbolTooLong, Io as SendIo}
use Rattle.request.specs.declared.requests.Sizes.{Sizes}
use Rattle.request.specs.declared.requests.Sending.{Sending}
use Rattle.request.specs.declared.requests.CheckRequest.{CheckRequest}
use Rattle.request.specs.declared.requests.ShowRequest.{ShowRequest}
use Rattle.request.specs.declared.requests.Request.{Request}
use Rattle.request.specs.declared.requests.Request.TheVariants.{Check, Twin, Show, Encode, Certify}
use Rattle.request.specs.declared.requests.Request.TheVariants.{Convert, Decode, Follow, Drop}
use Rattle.request.specs.declared.requests.Request.TheVariants.{Salvage, Join}
pub use Rattle.request.specs.Outputs.{output_of}
use Rattle.host.specs.World.{World, Holds, MayFail, Reading as ReadingFile}
use Rattle.picture.specs.Sheets.{IsPicture}
use Rattle.commands.specs.Inputs.{Input, AnObject, ASession, ACertificate, AStream, APlaces, Value}
use Rattle.commands.specs.Inputs.{Bytes, Datagrams, Polynomials, Opened, Places}
use Rattle.commands.specs.Inputs.{AreThere, HasValue, HaveValues, IsUnread}
use Rattle.commands.specs.Lines.{line_of, count_line, short_text, numbered, verdict_text}
use Rattle.commands.specs.Lines.{answer_text}
use Rattle.commands.specs.Lines.{reading_text}
use Rattle.commands.specs.Summary.{IsSummary}
use Rattle.commands.specs.Totals.{AreTotals}
use Rattle.commands.specs.Following.{IsHeard, Ends, ends_text}
use Rattle.commands.specs.declared.fault.Fault.{Fault}
use Rattle.commands.specs.declared.fault.Fault.TheVariants.{File, Frame}
use Rattle.commands.specs.declared.fault.Fault.TheVariants.{Certificate as NoCertificate}
use Rattle.commands.specs.declared.fault.Fault.TheVariants.{Fti as NoFti, Send}

-- the file of places, where one is named
abbrev pub place_inputs : Option (Bor (List ℕ)) → List Input
place_inputs None = []
place_inputs (Some name) = APlaces name.now ∷ []

-- what a request reads, in order
abbrev pub inputs_of : Request → List Input
inputs_of (Check r) =
    AStream r.session.now ∷ AnObject r.object.now ∷ ACertificate r.certificate.now ∷ []
inputs_of (Twin r) =
    ASession r.session.now ∷ AnObject r.object.now ∷ ACertificate r.certificate.now ∷ []
inputs_of (Show r) = ASession r.session.now ∷ []
inputs_of (Encode r) = AnObject r.object.now ∷ []
inputs_of (Certify r) = AnObject r.object.now ∷ []
inputs_of (Convert r) = ACertificate r.certificate.now ∷ []
inputs_of (Decode r) = ASession r.session.now ∷ []
inputs_of (Follow r) = AStream r.session.now ∷ []
inputs_of (Drop r) = place_inputs r.places_file ++ ASession r.session.now ∷ []
inputs_of (Salvage r) = AStream r.session.now ∷ []
inputs_of (Join r) = map (λ session. ASession session.now) r.sessions.items

-- the fault that tells that writing its output has failed
abbrev pub IsWriteFault : Request → Fault → Type 0
IsWriteFault (Encode r) fault = fault ≡ Send SendIo
IsWriteFault (Certify r) fault = fault ≡ NoCertificate CertificateIo
IsWriteFault (Convert r) fault = fault ≡ NoCertificate CertificateIo
IsWriteFault (Drop r) fault = fault ≡ Frame FrameIo
IsWriteFault (Salvage r) fault = fault ≡ Frame FrameIo
IsWriteFault (Join r) fault = fault ≡ Frame FrameIo
IsWriteFault (Check r) (File name) =
    option_map (λ output. output.name.now) (output_of (Check r)) ≡ Some name.now
IsWriteFault (Twin r) (File name) = name.now ≡ r.output.name.now
IsWriteFault (Decode r) (File name) = name.now ≡ r.output.name.now
IsWriteFault (Follow r) (File name) = name.now ≡ r.output.name.now
IsWriteFault r fault = ⊥

-- ---- what comes of it

-- what is printed, the status, and the bytes of the output, where there is one
pub record Outcome : Type 0 where
  pub text : List ℕ
  pub status : ℕ
  pub output : Option (List ℕ)

abbrev pub IsOutcome : List ℕ → ℕ → Option (List ℕ) → Outcome → Type 0
IsOutcome text status output outcome =
    (outcome.text ≡ text) × (outcome.status ≡ status) × (outcome.output ≡ output)

-- 1 of a no; 0 of a yes, or 3 if fewer datagrams or neighbours may be missed than are asked for
abbrev pub IsCheckStatus : CheckRequest → Verdict → ℕ → Type 0
IsCheckStatus r (No reason) status = status ≡ 1
IsCheckStatus r (Yes report) status =
    ((r.margin ≤ report.margin) × (r.burst ≤ report.burst) × (status ≡ 0))
    ⊎ (((report.margin < r.margin) ⊎ (report.burst < r.burst)) × (status ≡ 3))

-- the lines of a verdict, or the summary of a yes, where one is asked for
abbrev pub TellsVerdict : Bool → Verdict → List ℕ → Type 0
TellsVerdict true (Yes report) text = IsSummary report text
TellsVerdict summary verdict text = text ≡ verdict_text verdict

-- the picture of a report, with its margin, its burst and its kill
abbrev pub IsPictureOf : Report → List ℕ → Type 0
IsPictureOf report text =
    IsPicture report.margin report.burst (length report.kill.items) report.kill_block text

-- a picture is there where one is asked for and the answer is yes
abbrev pub IsDrawn : Option (Bor (List ℕ)) → Verdict → Option (List ℕ) → Type 0
IsDrawn (Some name) (Yes report) (Some text) = IsPictureOf report text
IsDrawn (Some name) (Yes report) None = ⊥
IsDrawn picture verdict output = output ≡ None

-- where a block is short, another object, which is such
abbrev pub GivesTwin : (ℕ → List ℕ → Type 0) → Verdict → Outcome → Type 0
GivesTwin Is (Yes report) outcome = IsOutcome (line_of (codes "no twin")) 1 None outcome
GivesTwin Is (No (Thin block have need)) outcome =
    (other : List ℕ) × Is block other
    × IsOutcome (line_of (short_text (codes "twin block") block have need)) 0 (Some other) outcome
GivesTwin Is (No reason) outcome = IsOutcome (verdict_text (No reason)) 1 None outcome

abbrev pub shown_status : List Reading → ℕ
shown_status [] = 0
shown_status (Ok packet ∷ readings) = shown_status readings
shown_status (Err fault ∷ readings) = 1

-- a line for each datagram, or their numbers, where a summary is asked for
abbrev pub TellsDatagrams : Bool → List Reading → List ℕ → Type 0
TellsDatagrams true readings text = AreTotals readings text
TellsDatagrams false readings text = text ≡ numbered reading_text 0 readings

-- what is told of datagrams before a fault: of their numbers nothing
abbrev pub told_before : Bool → List Reading → List ℕ
told_before true readings = []
told_before false readings = numbered reading_text 0 readings

-- datagrams were read, just their frames; what each reads as
abbrev pub AreReadAs : Option (List ℕ) → Option (List ℕ) → List Reading → Type 0
AreReadAs opened left readings =
    (datagrams : List (List ℕ)) × HasRead opened left datagrams × ReadAll datagrams readings

-- the FTI of an object of so many bytes
abbrev pub sized : Sizes → ℕ → Fti
sized sizes l = fti_from l sizes.symbol sizes.block sizes.max_n

abbrev pub GivesSession : Sending → List ℕ → Fti → Outcome → Type 0
GivesSession s object f outcome =
    IsValidFti f × CanBeSent object f × (datagrams : List (List ℕ))
    × IsSessionOf object f s.identity.tsi s.identity.toi s.fti_every s.order datagrams
    × IsOutcome (count_line (codes "encoded") (length (pairs s.order f)) (codes " datagrams")) 0
    (Some (frames datagrams)) outcome

-- a certificate of the object, and of every session that is sent of it
abbrev pub GivesCertificate : Identity → List ℕ → Fti → Outcome → Type 0
GivesCertificate who object f outcome =
    (z : Certificate) × IsCertificate z × (z.fti ≡ f) × GivesObject object z
    × CertifiesSent object z
    × IsOutcome (count_line (codes "certified") (block_count f) (codes " blocks")) 0
    (Some (certificate_text (named_as who z))) outcome

abbrev pub GivesDatagrams : List ℕ → List (List ℕ) → Outcome → Type 0
GivesDatagrams name datagrams outcome =
    IsOutcome (count_line name (length datagrams) (codes " datagrams")) 0
    (Some (frames datagrams)) outcome

-- the datagrams at all other places, where the session has every place of the ranges
abbrev pub GivesOthers : List PlaceRange → List (List ℕ) → Outcome → Type 0
GivesOthers ranges datagrams outcome = (first_unhad (length datagrams) ranges ≡ None)
    × GivesDatagrams (codes "kept") (rest (is_in_some ranges) datagrams) outcome

-- The datagrams of the frames that these bytes begin with, all of them: the bytes end there, and
-- the status is 0; or no frame follows, and it is 1.
abbrev pub IsSalvaged : List (List ℕ) → ℕ → List ℕ → Type 0
IsSalvaged datagrams status x =
    (IsFramed datagrams x × (status ≡ 0))
    ⊎ ((fault : FrameFault) × (stops : StopsAt fault x) × (stops.datagrams ≡ datagrams)
    × (status ≡ 1))

-- 0 where there is an object, 1 where there is a fault, and 3 where too little came
abbrev pub answer_status : Answer → ℕ
answer_status (Object object) = 0
answer_status (Missing block have need) = 3
answer_status Empty = 3
answer_status (WrongAt place wrong) = 1
answer_status (NotCode block) = 1

abbrev pub object_of : Answer → Option (List ℕ)
object_of (Object object) = Some object
object_of answer = None

-- the answer to the datagrams of a file's bytes, where they are told
abbrev pub IsAnswerIn : Identity → Option (List ℕ) → Answer → Type 0
IsAnswerIn who content answer = IfSome content
    (λ bytes. (datagrams : List (List ℕ)) × IsFramed datagrams bytes
    × IsAnswer who datagrams answer)

-- what comes of the values that a request's inputs give
abbrev pub Gives : Request → List Value → Outcome → Type 0
Gives (Check r) (Opened opened ∷ Bytes object ∷ Polynomials z ∷ []) outcome =
    (verdict : Verdict) × (left : Option (List ℕ))
    × IsCheckedFrom r.identity opened left object z verdict
    × TellsVerdict r.summary verdict outcome.text
    × IsCheckStatus r verdict outcome.status × IsDrawn r.picture verdict outcome.output
Gives (Check r) (Opened session ∷ Opened object ∷ Opened certificate ∷ []) outcome =
    (verdict : Verdict) × (datagrams : List (List ℕ)) × (f : Fti) × IsValidFti f
    × OnYes verdict (IsReport r.identity datagrams f)
    × TellsVerdict r.summary verdict outcome.text
    × IsCheckStatus r verdict outcome.status × IsDrawn r.picture verdict outcome.output
Gives (Twin r) (Datagrams datagrams ∷ Bytes object ∷ Polynomials z ∷ []) outcome =
    (verdict : Verdict) × IsVerdict r.identity datagrams object z verdict
    × GivesTwin (λ block other. IsTwinOfSession r.identity z.fti block datagrams object other)
    verdict outcome
Gives (Twin r) (Opened session ∷ Opened object ∷ Opened certificate ∷ []) outcome =
    (verdict : Verdict) × GivesTwin (λ block other. ⊤) verdict outcome
Gives (Show r) (Datagrams datagrams ∷ []) outcome =
    (readings : List Reading) × ReadAll datagrams readings
    × TellsDatagrams r.summary readings outcome.text
    × (outcome.status ≡ shown_status readings) × (outcome.output ≡ None)
Gives (Encode r) (Bytes object ∷ []) outcome =
    GivesSession r.sending object (sized r.sending.sizes (length object)) outcome
Gives (Certify r) (Bytes object ∷ []) outcome =
    GivesCertificate r.identity object (sized r.sizes (length object)) outcome
Gives (Convert r) (Polynomials z ∷ []) outcome =
    (is_for r.identity z.name ≡ true)
    × IsOutcome (count_line (codes "converted") (block_count z.fti) (codes " blocks")) 0
    (Some (certificate_text (named_as r.identity z))) outcome
Gives (Decode r) (Opened content ∷ []) outcome =
    (answer : Answer) × IsAnswerIn r.identity content answer
    × IsOutcome (line_of (answer_text answer)) (answer_status answer) (object_of answer) outcome
Gives (Follow r) (Opened opened ∷ []) outcome =
    (read : ℕ) × (lines : List ℕ) × (answer : Answer)
    × IfSome opened (λ bytes. (left : Option (List ℕ)) × (taken : List (List ℕ))
    × IsHeard r.identity (Some bytes) left read taken lines × IsAnswer r.identity taken answer
    × Ends answer left)
    × IsOutcome (lines ++ ends_text answer read) (answer_status answer) (object_of answer) outcome
Gives (Drop r) (Datagrams datagrams ∷ []) outcome =
    GivesOthers r.places.items datagrams outcome
Gives (Drop r) (Places more ∷ Datagrams datagrams ∷ []) outcome =
    GivesOthers (r.places.items ++ more) datagrams outcome
Gives (Salvage r) (Opened opened ∷ []) outcome =
    (datagrams : List (List ℕ)) × (status : ℕ) × IfSome opened (IsSalvaged datagrams status)
    × IsOutcome (count_line (codes "kept") (length datagrams) (codes " datagrams")) status
    (Some (frames datagrams)) outcome
Gives (Join r) values outcome =
    (lists : List (List (List ℕ))) × (values ≡ map Datagrams lists)
    × GivesDatagrams (codes "joined") (joined r.turns lists) outcome
Gives r values outcome = ⊥

-- the first place to leave out that the datagrams don't have
abbrev pub IsUnhadPlace : List PlaceRange → List Value → ℕ → Type 0
IsUnhadPlace ranges (Datagrams datagrams ∷ []) place =
    first_unhad (length datagrams) ranges ≡ Some place
IsUnhadPlace ranges (Places more ∷ Datagrams datagrams ∷ []) place =
    first_unhad (length datagrams) (ranges ++ more) ≡ Some place
IsUnhadPlace ranges values place = ⊥

-- behind the lines of just the datagrams before it, no frame can be read
abbrev pub IsCutBehindLines : World → ShowRequest → List ℕ → Fault → Type 0
IsCutBehindLines world r text (Frame fault) =
    (opened : Option (List ℕ)) × (left : Option (List ℕ)) × (readings : List Reading)
    × (new : Option (List ℕ)) × (failed : Bool)
    × HasValue world.files (AStream r.session.now) (Opened opened) × AreReadAs opened left readings
    × (text ≡ told_before r.summary readings) × IsReadFault fault left new failed
IsCutBehindLines world r text fault = ⊥

-- Why nothing does, though the inputs are there, and what was printed before: a frame can't be read
-- behind others, or a session isn't as it was; an object's length makes no FTI, or its symbols are
-- too long; a certificate is another's; a session hasn't a place. Before a fault of a session that
-- is shown nothing is printed, or, if reading it is refused, the lines of the datagrams before it.
abbrev pub Refuses : World → Request → List ℕ → Fault → Type 0
Refuses world (Check r) text (Frame fault) =
    (fault ≡ FrameIo → MayFail world (ReadingFile r.session.now))
    × (((world.files ≡ None) × (failed : Bool) × IsReadFault fault None None failed)
    ⊎ ((opened : Option (List ℕ)) × (object : List ℕ) × (z : Certificate)
    × (left : Option (List ℕ)) × (failed : Bool)
    × HaveValues world.files (inputs_of (Check r))
    (Opened opened ∷ Bytes object ∷ Polynomials z ∷ [])
    × IsRefusedBehind r.identity fault opened left failed object z))
Refuses world (Check r) text (File session) =
    (session.now ≡ r.session.now) × MayFail world (ReadingFile r.session.now)
Refuses world (Show r) text fault =
    IsUnread world (ASession r.session.now) fault
    × ((text ≡ [])
    ⊎ (MayFail world (ReadingFile r.session.now) × IsCutBehindLines world r text fault))
Refuses world (Follow r) text (Frame fault) =
    (left : Option (List ℕ)) × (new : Option (List ℕ)) × (failed : Bool)
    × IsReadFault fault left new failed
    × (fault ≡ FrameIo → MayFail world (ReadingFile r.session.now))
    × Holds world.files r.session.now (λ bytes. (read : ℕ) × (taken : List (List ℕ))
    × IsHeard r.identity (Some bytes) left read taken text)
Refuses world (Encode r) text (NoFti fault) =
    (object : List ℕ) × HasValue world.files (AnObject r.object.now) (Bytes object)
    × (fti_fault (sized r.sending.sizes (length object)) ≡ Some fault)
Refuses world (Encode r) text (Send SymbolTooLong) =
    AreThere world.files (inputs_of (Encode r)) × (most_symbol_bytes < r.sending.sizes.symbol)
Refuses world (Certify r) text (NoFti fault) =
    (object : List ℕ) × HasValue world.files (AnObject r.object.now) (Bytes object)
    × (fti_fault (sized r.sizes (length object)) ≡ Some fault)
Refuses world (Convert r) text (NoCertificate OtherIdentity) =
    Holds world.files r.certificate.now (IsOfOther r.identity)
Refuses world (Drop r) text (Frame (NoSuchPlace place)) =
    (values : List Value) × HaveValues world.files (inputs_of (Drop r)) values
    × IsUnhadPlace r.places.items values place
Refuses world (Salvage r) text (Frame FrameIo) =
    AreThere world.files (inputs_of (Salvage r)) × MayFail world (ReadingFile r.session.now)
Refuses world r text fault = ⊥
