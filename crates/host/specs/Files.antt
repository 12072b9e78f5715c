-- Named files in memory.
use Rattle.std.specs.Prelude.{ℕ, List, [], ◌∷◌, ◌≡◌, ◌++◌, None, String, string_bytes, Vec}
use Rattle.std.specs.declared.alloc.Global.{Global}
use Rattle.host.specs.World.{Files, with_file}

-- a file's name and bytes
abbrev pub File : Type 0
File = String Global × Vec ℕ Global

-- what the files hold once these are put among them, one after the other
unfoldable pub after_files : Files → List File → Files
after_files held [] = held
after_files held (file ∷ files) =
    after_files (with_file held (string_bytes file.0) file.1.items) files

abbrev pub no_files : Files
no_files name = None

abbrev pub files_of : List File → Files
files_of files = after_files no_files files

-- A file of this name and these bytes stands behind those that were there.
pub record AddsFile (old new : List File) (name bytes : List ℕ) : Type 0 where
  pub kept : String Global
  pub vector : Vec ℕ Global
  pub named : string_bytes kept ≡ name
  pub whole : vector.items ≡ bytes
  pub behind : new ≡ old ++ (kept, vector) ∷ []
