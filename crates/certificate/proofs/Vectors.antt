-- A certificate's two texts worked by hand, computed from the definitions: without a name, and
-- named for TSI 1 and TOI 1.
use Rattle.std.specs.Prelude.{◌≡◌, ℕ, true, false, List, [], ◌∷◌, ◌++◌, map, take, Some, None, refl}
use Rattle.std.proofs.Common.{set}
use Rattle.lists.specs.Below.{below}
use Rattle.partition.specs.Fti.{fti_from, ceiling, symbol_count, block_count, large_blocks, source_count, start_of}
use Rattle.partition.specs.declared.FtiError.TheVariants.{BlockZero}
use Rattle.reception.specs.declared.scope.Identity.{Identity}
use Rattle.certificate.specs.declared.certificate.CertFault.TheVariants.{Magic, Fti as WrongFti, Size}
use Rattle.certificate.specs.Certificate.{Certificate, unnamed, named_as, is_for, certificate_text, head_text, polynomial, text_fault}

abbrev who : Identity
who = record { tsi = 1; toi = 1 }

-- two rows of coefficients, of two columns each
abbrev certificate : Certificate
certificate = unnamed (fti_from 3 2 2 3) (0xF6 ∷ 0xFB ∷ 0xF1 ∷ 0xF3 ∷ [])

abbrev named : Certificate
named = named_as who certificate

-- column by column
abbrev text : List ℕ
text = 0x52 ∷ 0x53 ∷ 0x43 ∷ 0x31 ∷ 0 ∷ 0 ∷ 0 ∷ 0 ∷ 0 ∷ 3 ∷ 0 ∷ 2 ∷ 2 ∷ 3 ∷ 0xF6 ∷ 0xF1 ∷ 0xFB ∷ 0xF3 ∷ []

-- row by row
abbrev text_of_named : List ℕ
text_of_named =
    0x52 ∷ 0x53 ∷ 0x43 ∷ 0x32 ∷ 0 ∷ 0 ∷ 0 ∷ 0 ∷ 0 ∷ 1
    ∷ 0 ∷ 0 ∷ 0 ∷ 0 ∷ 0 ∷ 0 ∷ 0 ∷ 0 ∷ 0 ∷ 0 ∷ 0 ∷ 0 ∷ 0 ∷ 1
    ∷ 0 ∷ 0 ∷ 0 ∷ 0 ∷ 0 ∷ 3 ∷ 0 ∷ 2 ∷ 2 ∷ 3 ∷ 0xF6 ∷ 0xFB ∷ 0xF1 ∷ 0xF3 ∷ []

pub texts_are : map certificate_text (certificate ∷ named ∷ []) ≡ text ∷ text_of_named ∷ []
unfolding head_text polynomial ceiling symbol_count block_count large_blocks source_count start_of below
texts_are = refl

pub polynomials : map (polynomial certificate 0) (0 ∷ 1 ∷ []) ≡ (0xF6 ∷ 0xF1 ∷ []) ∷ (0xFB ∷ 0xF3 ∷ []) ∷ []
unfolding polynomial ceiling symbol_count block_count large_blocks source_count start_of below
polynomials = refl

-- another TSI or TOI isn't the name
pub names : map (λ w. is_for w named.name) (who ∷ record { tsi = 1; toi = 2 } ∷ record { tsi = 2; toi = 1 } ∷ []) ≡ true ∷ false ∷ false ∷ []
names = refl

pub faults : map text_fault (text ∷ [] ∷ set text 3 0x33 ∷ set text 3 0x32 ∷ take 4 text ∷ take 17 text ∷ (text ++ 0 ∷ []) ∷ set text 12 0 ∷ [])
    ≡ None ∷ Some Magic ∷ Some Magic ∷ Some Size ∷ Some Size ∷ Some Size ∷ Some Size ∷ Some (WrongFti BlockZero) ∷ []
unfolding text_fault ceiling symbol_count block_count
faults = refl

pub faults_of_named : map text_fault (text_of_named ∷ take 4 text_of_named ∷ take 33 text_of_named ∷ set text_of_named 32 0 ∷ take 37 text_of_named ∷ (text_of_named ++ 0 ∷ []) ∷ [])
    ≡ None ∷ Some Size ∷ Some Size ∷ Some (WrongFti BlockZero) ∷ Some Size ∷ Some Size ∷ []
unfolding text_fault ceiling symbol_count block_count
faults_of_named = refl
