-- The reason that a block is short.
use Rattle.std.proofs.Common.{◌≡◌, ℕ, Some}
use Rattle.cert.specs.Verdict.{short_of}
use Rattle.cert.specs.declared.verdict.Reason.{Reason}
use Rattle.cert.specs.declared.verdict.Reason.TheVariants.{OtherCertificate, ObjectLength, NotObject, Empty, Packet, OtherFti, SymbolLength, Range, Symbol, Thin, NoCarrier}

pub thin_of : (reason : Reason) (short : ℕ × ℕ × ℕ) → short_of reason ≡ Some short → reason ≡ Thin short.0 short.1 short.2
thin_of (Thin block have need) short e = cc
thin_of OtherCertificate short e = absurd (cc)
thin_of ObjectLength short e = absurd (cc)
thin_of (NotObject b c i) short e = absurd (cc)
thin_of Empty short e = absurd (cc)
thin_of (Packet i x) short e = absurd (cc)
thin_of (OtherFti i) short e = absurd (cc)
thin_of (SymbolLength i) short e = absurd (cc)
thin_of (Range i) short e = absurd (cc)
thin_of (Symbol i c) short e = absurd (cc)
thin_of NoCarrier short e = absurd (cc)
