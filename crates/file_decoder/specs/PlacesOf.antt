-- The places of the symbols that a session file's datagrams have.
use Rattle.std.specs.Prelude.{ℕ, ◌<◌, List, Option, IfSome}
use Rattle.partition.specs.Fti.{block_count}
use Rattle.block_code.specs.Codes.{EachBlockHas}
use Rattle.block_code.specs.CodesOf.{IsCodeOf}
use Rattle.session.specs.Frames.{IsFramed}
use Rattle.reception.specs.declared.scope.Identity.{Identity}
use Rattle.reception.specs.Reception.{ReadAll, with_fti}
use Rattle.reception.specs.Answer.{reception_of}
use Rattle.reception.specs.Readings.{readings_of}
use Rattle.reception.specs.Symbols.{AllFull}
use Rattle.block_recovery.specs.Decoded.{IsEnoughAt}
use Rattle.file_decoder.specs.InFile.{held_in, AreSymbolsIn}
use Rattle.block_recovery.specs.Received.{AreReceived, came_at}
use Rattle.block_recovery.specs.Decoded.{AreInRange}
use Rattle.file_decoder.specs.declared.file_source.Indexed.{Indexed}
use Rattle.file_decoder.specs.declared.indexed_file.FileSymbols.{FileSymbols}
use Rattle.file_decoder.specs.declared.rereading.Place.{Place}

-- what came of these datagrams of the file stands at its places
pub record AreIndexedOf (who : Identity) (datagrams : List (List ℕ)) (x : List ℕ)
    (s : Indexed) : Type 0 where
  pub read : ReadAll datagrams (readings_of datagrams)
  pub received : AreReceived who datagrams s.fti (came_at (held_in x) s.symbols)
  pub placed : AreSymbolsIn x (with_fti s.identity s.fti) s.symbols

-- whatever the file's bytes are, each block has a code, and as many places as it needs
pub record AreEnoughPlaces (s : FileSymbols) : Type 0 where
  pub codes : EachBlockHas (IsCodeOf s.indexed.fti) s.indexed.fti s.codes
  pub range : (held : Place → List ℕ) → AreInRange s.indexed.fti (came_at held s.indexed.symbols)
  pub enough : (held : Place → List ℕ) (b : ℕ) → b < block_count s.indexed.fti
      → IsEnoughAt s.indexed.fti b (came_at held s.indexed.symbols b)

-- at the places stand the symbols that these datagrams of the file have, enough of each block,
-- whatever they are of
pub record ArePlacedOf (who : Identity) (datagrams : List (List ℕ)) (x : List ℕ)
    (s : FileSymbols) : Type 0 where
  pub framed : IsFramed datagrams x
  pub indexed : AreIndexedOf who datagrams x s.indexed
  pub full : AllFull s.indexed.fti (reception_of who (readings_of datagrams)).symbols

-- of some datagrams of the file, where its bytes are told
abbrev pub ArePlacedIn : Option (List ℕ) → FileSymbols → Type 0
ArePlacedIn content s =
    AreEnoughPlaces s
    × IfSome content (λ x. (datagrams : List (List ℕ))
    × ArePlacedOf s.indexed.identity datagrams x s)
