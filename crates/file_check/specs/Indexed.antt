-- Where the datagrams of a session file stand.
use Rattle.std.specs.Prelude.{◌≡◌, ◌<◌, ◌≤◌, ◌+◌, ℕ, Bool, false, List, Option, Some, length}
use Rattle.std.specs.Prelude.{slice_index_or, []}
use Rattle.std.specs.Io.KnownBytes.{Consumes, IsAtEnd}
use Rattle.session.specs.Frames.{frame, frames, AreDatagrams, IsDatagram, IsReadFault}
use Rattle.session.specs.Extents.{datagram_in}
use Rattle.session.specs.declared.extent.Extent.{Extent}
use Rattle.session.specs.declared.frame.FrameFault.TheVariants.{Io}
use Rattle.partition.specs.Fti.{Fti}
use Rattle.reception.specs.declared.scope.Identity.{Identity}
use Rattle.cert.specs.Tallying.{AreTallied, IsRefusedAt, nothing, tallied_of}
use Rattle.cert.specs.declared.tally.Tally.{Tally}
use Rattle.file_check.specs.Standing.{end_from, extents_from, no_extent}
use Rattle.file_check.specs.declared.extents.Extents.{Extents}
use Rattle.file_check.specs.declared.index.Index.{Index}
use Rattle.file_check.specs.declared.index.End.{End}
use Rattle.file_check.specs.declared.index.End.TheVariants.{File, Reason, Frame}

abbrev pub extents_of : Extents → List Extent
extents_of extents = extents_from 0 extents.ends.items

-- where the last datagram ends
abbrev pub end_of : Extents → ℕ
end_of extents = end_from 0 extents.ends.items

-- each datagram stands at its extent in the file, where its bytes are told
abbrev pub StandAt : Option (List ℕ) → List Extent → List (List ℕ) → Type 0
StandAt content extents datagrams = (x : List ℕ) → content ≡ Some x → (i : ℕ) → i < length datagrams
    → let e = slice_index_or extents i no_extent in
    (datagram_in x e ≡ slice_index_or datagrams i []) × (e.offset + e.length ≤ length x)

-- why no datagram follows these
abbrev pub EndsBy : Tally → Option (List ℕ) → Bool → End → Type 0
EndsBy tally left sound File = IsAtEnd left
EndsBy tally left sound (Reason r) = (d : List ℕ) × (new : Option (List ℕ)) × IsDatagram d
    × Consumes left new (frame d) × IsRefusedAt d tally.scope tally.count r
EndsBy tally left sound (Frame fault) = ((new : Option (List ℕ)) × (failed : Bool)
    × IsReadFault fault left new failed) × (fault ≡ Io → sound ≡ false)

-- The frames of some datagrams stand in front, none with a fault before its symbol is looked at;
-- what came in them, and where each stands; and why no more of them follow.
pub record IsIndexed (who : Identity) (f : Fti) (content : Option (List ℕ)) (sound : Bool)
    (index : Index) (end : End) : Type 0 where
  pub datagrams : List (List ℕ)
  pub each : AreDatagrams datagrams
  pub left : Option (List ℕ)
  pub consumed : Consumes content left (frames datagrams)
  pub identity : index.tally.scope.identity ≡ who
  pub tallied : AreTallied nothing f (tallied_of index.tally) datagrams
  pub many : length (extents_of index.extents) ≡ length datagrams
  pub stand : StandAt content (extents_of index.extents) datagrams
  pub ends : EndsBy index.tally left sound end

-- the index is of these datagrams, which stand in the file's bytes
pub record IsIndexOf (x : List ℕ) (f : Fti) (index : Index)
    (datagrams : List (List ℕ)) : Type 0 where
  pub tallied : AreTallied nothing f (tallied_of index.tally) datagrams
  pub many : length (extents_of index.extents) ≡ length datagrams
  pub stand : StandAt (Some x) (extents_of index.extents) datagrams
