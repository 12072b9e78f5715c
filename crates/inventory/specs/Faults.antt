-- How many datagrams are no packets, by reason.
use Rattle.std.specs.Prelude.{ℕ, Bool, ◌==◌, nat_lt, if◌then◌else◌, List, [], ◌∷◌}
use Rattle.std.specs.Prelude.{count_by, flat_map}
use Rattle.partition.specs.declared.FtiError.{FtiError}
use Rattle.partition.specs.declared.FtiError.TheVariants.{LengthZero, LengthTooGreat, SymbolZero}
use Rattle.partition.specs.declared.FtiError.TheVariants.{BlockZero, MaxBelowBlock, TooManyBlocks}
use Rattle.alc.specs.declared.fault.PacketFault.{PacketFault}
use Rattle.alc.specs.declared.fault.PacketFault.TheVariants.{TooShort, Version, Psi, Codepoint}
use Rattle.alc.specs.declared.fault.PacketFault.TheVariants.{NoIdentity, HeaderLength, Extension}
use Rattle.alc.specs.declared.fault.PacketFault.TheVariants.{FtiLength, TwoFti, FtiValue}
use Rattle.alc.specs.declared.fault.PacketFault.TheVariants.{PayloadLength}
use Rattle.inventory.specs.declared.part.FaultCount.{FaultCount}

-- all faults of packets, in their order
unfoldable pub all_faults : List PacketFault
all_faults =
    TooShort ∷ Version ∷ Psi ∷ Codepoint ∷ NoIdentity ∷ HeaderLength ∷ Extension ∷ FtiLength
    ∷ TwoFti ∷ FtiValue LengthZero ∷ FtiValue LengthTooGreat ∷ FtiValue SymbolZero
    ∷ FtiValue BlockZero ∷ FtiValue MaxBelowBlock ∷ FtiValue TooManyBlocks ∷ PayloadLength ∷ []

abbrev pub value_number : FtiError → ℕ
value_number LengthZero = 9
value_number LengthTooGreat = 10
value_number SymbolZero = 11
value_number BlockZero = 12
value_number MaxBelowBlock = 13
value_number TooManyBlocks = 14

-- where a fault stands among them: a number of its own for each
abbrev pub fault_number : PacketFault → ℕ
fault_number TooShort = 0
fault_number Version = 1
fault_number Psi = 2
fault_number Codepoint = 3
fault_number NoIdentity = 4
fault_number HeaderLength = 5
fault_number Extension = 6
fault_number FtiLength = 7
fault_number TwoFti = 8
fault_number (FtiValue fault) = value_number fault
fault_number PayloadLength = 15

abbrev pub is_same_fault : PacketFault → PacketFault → Bool
is_same_fault a b = fault_number a == fault_number b

-- how many have this fault, where it occurs
abbrev pub count_of : List PacketFault → PacketFault → List FaultCount
count_of faults fault =
    let n = count_by (is_same_fault fault) faults in
    if nat_lt 0 n then record { fault = fault; datagrams = n } ∷ [] else []

-- each fault that occurs, and how many have it
abbrev pub fault_counts : List PacketFault → List FaultCount
fault_counts faults = flat_map (count_of faults) all_faults
