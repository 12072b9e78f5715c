-- What a call did to a reader and to a writer.
use Rattle.std.specs.Prelude.{ℕ, Bool, List, Option}
use Rattle.streams.specs.declared.io.Read as reader
use Rattle.streams.specs.declared.io.Write as writer

-- the bytes that a reader had left and has left, where they are told; whether it was sound, and
-- whether it has failed now
pub record ReaderChange : Type 0 where
  pub before : Option (List ℕ)
  pub after : Option (List ℕ)
  pub sound : Bool
  pub failed : Bool

-- that of a reader before and after a call
abbrev pub reader_change : {R : Type 0} → reader.Ghosts R → R → R → ReaderChange
reader_change r old new = record {
  before = r.remaining old;
  after = r.remaining new;
  sound = r.sound old;
  failed = r.failed new;
}

-- the bytes that a writer had and has, where they are told; how many more it was sure to take, and
-- whether it has failed now
pub record WriterChange : Type 0 where
  pub before : Option (List ℕ)
  pub after : Option (List ℕ)
  pub room : ℕ
  pub failed : Bool

-- that of a writer before and after a call
abbrev pub writer_change : {W : Type 0} → writer.Ghosts W → W → W → WriterChange
writer_change w old new = record {
  before = w.contents old;
  after = w.contents new;
  room = w.room old;
  failed = w.failed new;
}
