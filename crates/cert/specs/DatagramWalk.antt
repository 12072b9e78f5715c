-- What is known of a check that has looked at datagrams.
use Rattle.std.specs.Prelude.{ℕ, List}
use Rattle.reception.specs.declared.scope.Identity.{Identity}
use Rattle.cert.specs.declared.checker.Checker.{Checker}
use Rattle.cert.specs.declared.verdict.Reason.{Reason}
use Rattle.certificate.specs.Certificate.{Certificate}
use Rattle.cert.specs.Tallying.{AreTallied, IsUnpassed, by_certificate, tallied_of}

-- these datagrams came to the check of a certificate, none with a reason against it
abbrev pub HasWalked : Checker → List (List ℕ) → Type 0
HasWalked checker datagrams = AreTallied (by_certificate checker.symbols) checker.symbols.fti
    (tallied_of checker.tally) datagrams

-- the reason against the last of these datagrams: it has the first at a place
abbrev pub IsNotPassed : Identity → List (List ℕ) → Certificate → Reason → Type 0
IsNotPassed who datagrams z reason = IsUnpassed (by_certificate z) z.fti who datagrams reason
