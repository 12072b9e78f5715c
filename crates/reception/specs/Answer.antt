-- What a decoder answers.
use Rattle.std.specs.Prelude.{◌≡◌, ℕ, Bool, ◌&&◌, ◌==◌, not, cond, List, Some, None}
use Rattle.std.specs.List.{list_any}
use Rattle.partition.specs.Fti.{Fti, source_count}
use Rattle.alc.specs.Reading.{Reading}
use Rattle.reception.specs.declared.scope.Identity.{Identity}
use Rattle.reception.specs.Symbols.{Symbol, arrived_count, AllFull, FullSolvable, FitsOnly}
use Rattle.reception.specs.Symbols.{IsFirstShort, IsFirstUnsolvable}
use Rattle.reception.specs.Reception.{ReadAll, Judge, Wrong, Reception, reception_with, asked}
use Rattle.reception.specs.Reception.{IsClean}
use Rattle.std.specs.Str.{bytes_eq}

-- what a decoder says against a symbol in range
pub data Clash : Type 0 where
  Clashes : Clash

-- whether an earlier symbol of the same block and number has other bytes
abbrev pub clashes : List Symbol → Symbol → Bool
clashes earlier s =
    list_any (λ e. (e.block == s.block && e.esi == s.esi) && not (bytes_eq e.bytes s.bytes)) earlier

abbrev pub clash : Judge Clash
clash earlier s = cond (clashes earlier s) (Some Clashes) None

pub data Answer : Type 0 where
  Empty : Answer
  Fault : ℕ → Wrong Clash → Answer
  NotCode : ℕ → Answer
  Missing : ℕ → ℕ → ℕ → Answer
  Object : List ℕ → Answer

-- what came, to a decoder who asks for this identity's packets
abbrev pub reception_of : Identity → List Reading → Reception Clash
reception_of who rs = reception_with clash (asked who) rs

-- The answer, by cases in this order: the first that is wrong at a place; no carrier came; a full
-- block that no object explains; a short block; the object. Without a carrier nothing is wrong at a
-- place but that it holds no packet.
abbrev pub AnswerTo : Reception Clash → Answer → Type 0
AnswerTo reception (Fault i r) = reception.wrong ≡ Some (i, r)
AnswerTo reception Empty = (reception.wrong ≡ None) × (reception.scope.fti ≡ None)
AnswerTo reception (NotCode b) =
    (f : Fti) × IsClean reception f × IsFirstUnsolvable f reception.symbols b
AnswerTo reception (Missing b have need) =
    (f : Fti) × IsClean reception f × FullSolvable f reception.symbols
    × IsFirstShort f reception.symbols b
    × (have ≡ arrived_count reception.symbols b) × (need ≡ source_count f b)
AnswerTo reception (Object object) =
    (f : Fti) × IsClean reception f × FullSolvable f reception.symbols × AllFull f reception.symbols
    × FitsOnly f reception.symbols object

-- the answer to these datagrams, where this identity's packets are asked for
pub record IsAnswer (who : Identity) (datagrams : List (List ℕ)) (answer : Answer) : Type 0 where
  pub readings : List Reading
  pub read : ReadAll datagrams readings
  pub answers : AnswerTo (reception_of who readings) answer

-- it is the answer, and there is no other
pub record IsOnlyAnswer (who : Identity) (datagrams : List (List ℕ))
    (answer : Answer) : Type 0 where
  pub is : IsAnswer who datagrams answer
  pub only : (other : Answer) → IsAnswer who datagrams other → other ≡ answer
