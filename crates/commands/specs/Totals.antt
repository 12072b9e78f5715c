-- The lines of a session's numbers, which are printed where a summary is asked for.
use Rattle.std.specs.Prelude.{◌≡◌, ℕ, ◌-◌, List, [], ◌++◌}
use Rattle.std.specs.Prelude.{Option, Some, None, flat_map, codes, decimal}
use Rattle.alc.specs.Reading.{Reading}
use Rattle.reception.specs.declared.scope.Identity.{Identity}
use Rattle.inventory.specs.Packets.{faults_in}
use Rattle.inventory.specs.Parts.{AreParts}
use Rattle.inventory.specs.Faults.{fault_counts}
use Rattle.inventory.specs.declared.part.FaultCount.{FaultCount}
use Rattle.inventory.specs.declared.part.FtiCount.{FtiCount}
use Rattle.inventory.specs.declared.part.Part.{Part}
use Rattle.commands.specs.Lines.{line_of, named, fti_text}
use Rattle.commands.specs.Words.{packet_words}

abbrev pub identity_text : Identity → List ℕ
identity_text who = named (codes "tsi") (decimal who.tsi) ++ named (codes " toi") (decimal who.toi)

-- the numbers of an identity's packets; a repeat has a symbol that a packet before it has
abbrev pub packets_text : Part → List ℕ
packets_text part =
    identity_text part.identity ++ named (codes " datagrams") (decimal part.datagrams)
    ++ named (codes " first") (decimal part.first) ++ named (codes " last") (decimal part.last)
    ++ named (codes " carriers") (decimal part.carriers)
    ++ named (codes " symbols") (decimal part.symbols)
    ++ named (codes " repeats") (decimal (part.datagrams - part.symbols))

-- an FTI that carriers of an identity have, and how many have it
abbrev pub fti_of_text : Identity → FtiCount → List ℕ
fti_of_text who counted =
    identity_text who ++ fti_text (Some counted.fti) 0
    ++ named (codes " carriers") (decimal counted.carriers)

abbrev pub fti_lines : Identity → List FtiCount → List ℕ
fti_lines who ftis = flat_map (λ counted. line_of (fti_of_text who counted)) ftis

-- the block with the fewest symbols beyond its need, by the first carrier's FTI
abbrev pub weakest_text : Identity → ℕ × ℕ × ℕ → List ℕ
weakest_text who (block, need, have) =
    identity_text who ++ named (codes " weakest block") (decimal block)
    ++ named (codes " need") (decimal need) ++ named (codes " have") (decimal have)

abbrev pub weakest_lines : Identity → Option (ℕ × ℕ × ℕ) → List ℕ
weakest_lines who None = []
weakest_lines who (Some weakest) = line_of (weakest_text who weakest)

abbrev pub part_lines : Part → List ℕ
part_lines part =
    line_of (packets_text part) ++ fti_lines part.identity part.ftis.items
    ++ weakest_lines part.identity part.weakest

-- why datagrams are no packets, and how many
abbrev pub count_text : FaultCount → List ℕ
count_text count =
    codes "no packet " ++ packet_words count.fault
    ++ named (codes " datagrams") (decimal count.datagrams)

abbrev pub totals_text : List Part → List FaultCount → List ℕ
totals_text parts counts =
    flat_map part_lines parts ++ flat_map (λ count. line_of (count_text count)) counts

-- the lines of each identity, and of each reason for which datagrams are no packets
pub record AreTotals (rs : List Reading) (text : List ℕ) : Type 0 where
  pub parts : List Part
  pub are : AreParts rs parts
  pub lines : text ≡ totals_text parts (fault_counts (faults_in rs))
