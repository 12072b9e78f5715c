-- The words of faults, as they are printed.
use Rattle.std.specs.Prelude.{List, ℕ, ◌++◌, codes, decimal}
use Rattle.partition.specs.declared.FtiError.{FtiError}
use Rattle.partition.specs.declared.FtiError.TheVariants.{LengthZero, LengthTooGreat, SymbolZero}
use Rattle.partition.specs.declared.FtiError.TheVariants.{BlockZero, MaxBelowBlock, TooManyBlocks}
use Rattle.alc.specs.declared.fault.PacketFault.{PacketFault}
use Rattle.alc.specs.declared.fault.PacketFault.TheVariants.{TooShort, Version, Psi, Codepoint}
use Rattle.alc.specs.declared.fault.PacketFault.TheVariants.{NoIdentity, HeaderLength, Extension}
use Rattle.alc.specs.declared.fault.PacketFault.TheVariants.{FtiLength, TwoFti, FtiValue}
use Rattle.alc.specs.declared.fault.PacketFault.TheVariants.{PayloadLength}
use Rattle.session.specs.declared.frame.FrameFault.{FrameFault}
use Rattle.session.specs.declared.frame.FrameFault.TheVariants.{CutLength, CutDatagram, TooLong}
use Rattle.session.specs.declared.frame.FrameFault.TheVariants.{Io as FrameIo}
use Rattle.session.specs.declared.frame.FrameFault.TheVariants.{NoMemory as NoFrameMemory}
use Rattle.session.specs.declared.frame.FrameFault.TheVariants.{NoSuchPlace}
use Rattle.certificate.specs.declared.certificate.CertFault.{CertFault}
use Rattle.certificate.specs.declared.certificate.CertFault.TheVariants.{Magic, Fti as WrongFti}
use Rattle.certificate.specs.declared.certificate.CertFault.TheVariants.{Size}
use Rattle.certificate.specs.declared.certificate.CertFault.TheVariants.{Io as CertificateIo}
use Rattle.certificate.specs.declared.certificate.CertFault.TheVariants.{NoMemory as NoCertMemory}
use Rattle.certificate.specs.declared.certificate.CertFault.TheVariants.{OtherIdentity}
use Rattle.encoder.specs.declared.sending.SendFault.{SendFault}
use Rattle.encoder.specs.declared.sending.SendFault.TheVariants.{Length, SymbolTooLong}
use Rattle.encoder.specs.declared.sending.SendFault.TheVariants.{Io as SendIo}
use Rattle.encoder.specs.declared.sending.SendFault.TheVariants.{NoMemory as NoSendMemory}

abbrev pub fti_words : FtiError → List ℕ
fti_words LengthZero = codes "F1 LengthZero"
fti_words LengthTooGreat = codes "F2 LengthTooGreat"
fti_words SymbolZero = codes "F3 SymbolZero"
fti_words BlockZero = codes "F4 BlockZero"
fti_words MaxBelowBlock = codes "F5 MaxBelowBlock"
fti_words TooManyBlocks = codes "F6 TooManyBlocks"

abbrev pub packet_words : PacketFault → List ℕ
packet_words TooShort = codes "P1 TooShort"
packet_words Version = codes "P2 Version"
packet_words Psi = codes "P3 Psi"
packet_words Codepoint = codes "P4 Codepoint"
packet_words NoIdentity = codes "P5 NoIdentity"
packet_words HeaderLength = codes "P6 HeaderLength"
packet_words Extension = codes "P7 Extension"
packet_words FtiLength = codes "P8 FtiLength"
packet_words TwoFti = codes "P9 TwoFti"
packet_words (FtiValue fault) = codes "P11 FtiValue " ++ fti_words fault
packet_words PayloadLength = codes "P12 PayloadLength"

abbrev pub frame_words : FrameFault → List ℕ
frame_words CutLength = codes "S1 CutLength"
frame_words CutDatagram = codes "S2 CutDatagram"
frame_words TooLong = codes "S3 TooLong"
frame_words FrameIo = codes "S4 Io"
frame_words NoFrameMemory = codes "memory"
frame_words (NoSuchPlace place) = codes "S6 NoSuchPlace " ++ decimal place

abbrev pub certificate_words : CertFault → List ℕ
certificate_words Magic = codes "Z1 Magic"
certificate_words (WrongFti fault) = codes "Z2 Fti " ++ fti_words fault
certificate_words Size = codes "Z3 Size"
certificate_words CertificateIo = codes "Z4 Io"
certificate_words NoCertMemory = codes "memory"
certificate_words OtherIdentity = codes "Z6 OtherIdentity"

abbrev pub send_words : SendFault → List ℕ
send_words Length = codes "O1 Length"
send_words SymbolTooLong = codes "O2 SymbolTooLong"
send_words SendIo = codes "O3 Io"
send_words NoSendMemory = codes "memory"
