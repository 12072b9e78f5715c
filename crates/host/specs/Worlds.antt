-- What a host in memory tells, and what the program's does.
use Rattle.std.specs.Prelude.{ℕ, Bool, true, false, List, Option, Some, None, map, String}
use Rattle.std.specs.Prelude.{string_bytes}
use Rattle.std.specs.declared.alloc.Global.{Global}
use Rattle.host.specs.World.{World, Wanted}
use Rattle.host.specs.Files.{File, files_of}

-- the outputs that were asked for, by their names
abbrev pub wanted_of : List (String Global × Bool) → List Wanted
wanted_of asked = map (λ one. (string_bytes one.0, one.1)) asked

-- all is told, and no call is refused
abbrev pub memory_world : List File → List ℕ → Bool → List (String Global × Bool) → World
memory_world files printed failed created = record {
  files = Some (files_of files);
  refused = λ call. false;
  printed = Some printed;
  failed = failed;
  created = Some (wanted_of created);
}

-- of files and outputs nothing is told, and each call may be refused
abbrev pub untold : Option (List ℕ) → Bool → World
untold printed failed =
    record {
      files = None;
      refused = λ call. true;
      printed = printed;
      failed = failed;
      created = None;
    }
