-- The lines that commands print.
use Rattle.std.specs.Prelude.{◌≡◌, ◌⊎◌, ◌+◌, ℕ, true, List, [], ◌∷◌, ◌++◌, Option, Some, None}
use Rattle.std.specs.Prelude.{length, flat_map, codes, decimal, Ok, Err}
use Rattle.std.specs.Io.KnownBytes.{Appends}
use Rattle.partition.specs.Fti.{Fti as CarriedFti}
use Rattle.alc.specs.Reading.{Reading}
use Rattle.cert.specs.declared.verdict.Report.{Report}
use Rattle.cert.specs.declared.verdict.Reason.{Reason}
use Rattle.cert.specs.declared.verdict.Reason.TheVariants.{OtherCertificate, ObjectLength}
use Rattle.cert.specs.declared.verdict.Reason.TheVariants.{NotObject, Empty, Packet, OtherFti}
use Rattle.cert.specs.declared.verdict.Reason.TheVariants.{SymbolLength, Range, Symbol, Thin}
use Rattle.cert.specs.declared.verdict.Reason.TheVariants.{NoCarrier}
use Rattle.cert.specs.declared.verdict.Verdict.{Verdict}
use Rattle.cert.specs.declared.verdict.Verdict.TheVariants.{Yes, No}
use Rattle.reception.specs.Answer.{Answer, Empty as NothingCame, Fault as WrongAt, NotCode, Missing}
use Rattle.reception.specs.Answer.{Object, Clash, Clashes}
use Rattle.reception.specs.Reception.{Wrong, Faulty, Judged}
use Rattle.reception.specs.Reception as place_fault
use Rattle.block_recovery.specs.Faults.{fault_value}
use Rattle.receiver.specs.declared.receiver.FeedFault.{FeedFault}
use Rattle.receiver.specs.declared.receiver.FeedFault.TheVariants.{Fault as NoObject, Full, Early}
use Rattle.receiver.specs.declared.receiver.FeedFault.TheVariants.{NoMemory, Failed}
use Rattle.host.specs.World.{World, KeepsFiles}
use Rattle.commands.specs.Words.{fti_words, packet_words, frame_words, certificate_words}
use Rattle.commands.specs.Words.{send_words}
use Rattle.commands.specs.declared.fault.Fault.{Fault}
use Rattle.commands.specs.declared.fault.Fault.TheVariants.{Open, File, Memory, Frame, Certificate}
use Rattle.commands.specs.declared.fault.Fault.TheVariants.{Fti}
use Rattle.commands.specs.declared.fault.Fault.TheVariants.{Send, NoPlace}

-- a line as it is printed, with its line feed
abbrev pub line_of : List ℕ → List ℕ
line_of text = text ++ 10 ∷ []

-- a name, a space, and a number's digits
abbrev pub named : List ℕ → List ℕ → List ℕ
named name digits = name ++ 32 ∷ [] ++ digits

-- something, and of what
abbrev pub count_line : List ℕ → ℕ → List ℕ → List ℕ
count_line name count of = line_of (named name (decimal count) ++ of)

-- a block, how many symbols of it there are and how many it needs
abbrev pub short_text : List ℕ → ℕ → ℕ → ℕ → List ℕ
short_text name block have need =
    named name (decimal block) ++ named (codes " have") (decimal have)
    ++ named (codes " need") (decimal need)

-- a line for each, by its place
abbrev pub numbered : {X : Type 0} → (ℕ → X → List ℕ) → ℕ → List X → List ℕ
numbered text place [] = []
numbered text place (x ∷ xs) = line_of (text place x) ++ numbered text (place + 1) xs

-- ---- faults

abbrev pub fault_text : Fault → List ℕ
fault_text (Open name) = codes "open " ++ name.now
fault_text (File name) = codes "file " ++ name.now
fault_text Memory = codes "memory"
fault_text (Frame fault) = frame_words fault
fault_text (Certificate fault) = certificate_words fault
fault_text (Fti fault) = fti_words fault
fault_text (Send fault) = send_words fault
fault_text (NoPlace word) = named (codes "L1 NoPlace word") (decimal word)

-- the line of the fault was printed, or that there was no memory for it; unless printing has failed
pub record TellsFault (fault : Fault) (old new : World) : Type 0 where
  pub files : KeepsFiles old new
  pub told : (new.failed ≡ true)
      ⊎ Appends old.printed new.printed (line_of (codes "fault " ++ fault_text fault))
      ⊎ Appends old.printed new.printed (codes "fault memory\n")

-- ---- verdicts

-- a block at a yes, by its number, and how many symbols it needs and has
abbrev pub block_text : List ℕ → ℕ → ℕ × ℕ → List ℕ
block_text name block counts =
    named name (decimal block) ++ named (codes " need") (decimal counts.0)
    ++ named (codes " have") (decimal counts.1)

abbrev pub kill_text : List ℕ → List ℕ
kill_text places = codes "kill" ++ flat_map (λ place. named [] (decimal place)) places

abbrev pub losses_text : Report → List ℕ
losses_text report =
    line_of (named (codes "carriers") (decimal report.carriers))
    ++ line_of (named (codes "margin") (decimal report.margin))
    ++ line_of (kill_text report.kill.items)
    ++ line_of (named (codes "burst") (decimal report.burst))

abbrev pub report_text : Report → List ℕ
report_text report =
    line_of (codes "yes") ++ numbered (block_text (codes "block")) 0 report.blocks.items
    ++ losses_text report

abbrev pub reason_text : Reason → List ℕ
reason_text OtherCertificate = codes "N12 OtherCertificate"
reason_text ObjectLength = codes "N1 ObjectLength"
reason_text (NotObject block column symbol) =
    named (codes "N2 NotObject block") (decimal block) ++ named (codes " column") (decimal column)
    ++ named (codes " symbol") (decimal symbol)
reason_text Empty = codes "N3 Empty"
reason_text (Packet place fault) =
    named (codes "N4 Packet place") (decimal place) ++ 32 ∷ [] ++ packet_words fault
reason_text (OtherFti place) = named (codes "N6 OtherFti place") (decimal place)
reason_text (SymbolLength place) = named (codes "N10 SymbolLength place") (decimal place)
reason_text (Range place) = named (codes "N7 Range place") (decimal place)
reason_text (Symbol place column) =
    named (codes "N8 Symbol place") (decimal place) ++ named (codes " column") (decimal column)
reason_text (Thin block have need) = short_text (codes "N9 Thin block") block have need
reason_text NoCarrier = codes "N11 NoCarrier"

abbrev pub verdict_text : Verdict → List ℕ
verdict_text (Yes report) = report_text report
verdict_text (No reason) = line_of (codes "no " ++ reason_text reason)

-- ---- decoding

-- what is wrong at a place, which stands behind its name or not
abbrev pub wrong_words : List ℕ → Wrong Clash → List ℕ
wrong_words place (Faulty (place_fault.NoPacket fault)) =
    codes "R1 Packet" ++ place ++ 32 ∷ [] ++ packet_words fault
wrong_words place (Faulty place_fault.OtherFti) = codes "R3 OtherFti" ++ place
wrong_words place (Faulty place_fault.SymbolLength) = codes "R7 SymbolLength" ++ place
wrong_words place (Faulty place_fault.Range) = codes "R4 Range" ++ place
wrong_words place (Judged Clashes) = codes "R5 Clash" ++ place

abbrev pub not_code_words : ℕ → List ℕ
not_code_words block = named (codes "R6 NotCode block") (decimal block)

abbrev pub answer_text : Answer → List ℕ
answer_text NothingCame = codes "empty"
answer_text (WrongAt place wrong) =
    codes "fault " ++ wrong_words (named (codes " place") (decimal place)) wrong
answer_text (NotCode block) = codes "fault " ++ not_code_words block
answer_text (Missing block have need) = short_text (codes "missing block") block have need
answer_text (Object object) = named (codes "object") (decimal (length object)) ++ codes " bytes"

-- a fault without its place
abbrev pub fault_words : Answer → List ℕ
fault_words (WrongAt place wrong) = wrong_words [] wrong
fault_words (NotCode block) = not_code_words block
fault_words answer = []

-- why a receiver left a datagram out; that reading or writing has failed is no line
abbrev pub refusal_words : FeedFault → List ℕ
refusal_words (NoObject fault) = fault_words (fault_value fault)
refusal_words Full = codes "G1 Full"
refusal_words Early = codes "G2 Early"
refusal_words NoMemory = codes "memory"
refusal_words Failed = []

-- ---- datagrams

-- of a carrier its FTI, else how many bytes of symbol it has
abbrev pub fti_text : Option CarriedFti → ℕ → List ℕ
fti_text (Some f) size =
    named (codes " length") (decimal f.transfer_length)
    ++ named (codes " symbol") (decimal f.symbol_length)
    ++ named (codes " block") (decimal f.block_length)
    ++ named (codes " max") (decimal f.max_symbols)
fti_text None size = codes " no fti" ++ named (codes " symbol") (decimal size)

abbrev pub reading_text : ℕ → Reading → List ℕ
reading_text place (Ok p) =
    decimal place ++ named (codes " tsi") (decimal p.tsi) ++ named (codes " toi") (decimal p.toi)
    ++ fti_text p.fti (length p.bytes) ++ named (codes " sbn") (decimal p.block)
    ++ named (codes " esi") (decimal p.esi)
reading_text place (Err fault) = decimal place ++ 32 ∷ [] ++ packet_words fault
