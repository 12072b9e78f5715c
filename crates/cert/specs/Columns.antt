-- That a check tells the least column in which a symbol isn't the certified one.
use Rattle.std.specs.Prelude.{◌≡◌, ◌↔◌, ℕ, List, Some, None}
use Rattle.reception.specs.Symbols.{Symbol}
use Rattle.certificate.specs.Certificate.{Certificate}
use Rattle.certified_symbols.specs.CertifiedSymbol.{IsCertifiedSymbol}
use Rattle.certified_symbols.specs.FirstWrong.{IsFirstWrong}
use Rattle.cert.specs.Verdict.{uncertified}

-- what a check says against a symbol is just that column, and nothing where there is none
pub record TellsFirstWrong (z : Certificate) (earlier : List Symbol) (s : Symbol) : Type 0 where
  pub some : (c : ℕ) → (uncertified z earlier s ≡ Some c) ↔ IsFirstWrong z s.block s.esi s.bytes c
  pub none : (uncertified z earlier s ≡ None) ↔ IsCertifiedSymbol z s.block s.esi s.bytes
