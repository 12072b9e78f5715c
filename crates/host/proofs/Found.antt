-- Files in memory, one more.
use Rattle.std.proofs.Common.{◌≡◌, ◌<◌, ◌+◌, ◌++◌, Bool, true, false, cond, ℕ, suc, List, [], ◌∷◌, length, take, get_or, ap, refl, sym, ◌∙◌, arith}
use Rattle.std.specs.Prelude.{Option, Some, string_bytes}
use Rattle.std.proofs.Math.Seq.{take-suc}
use Rattle.std.specs.Str.{bytes_eq}
use Rattle.host.specs.World.{Files, with_file}
use Rattle.host.specs.Files.{File, AddsFile, after_files, no_files, files_of}

one_more : (held : Files) (files : List File) (file : File)
    → after_files held (files ++ file ∷ []) ≡ with_file (after_files held files) (string_bytes file.0) file.1.items
unfolding after_files
one_more held [] file = refl
one_more held (x ∷ files) file = one_more (with_file held (string_bytes x.0) x.1.items) files file

-- a file that was put in stands in the place of the one of its name
pub put_in : (old new : List File) (name bytes : List ℕ) → AddsFile old new name bytes → files_of new ≡ with_file (files_of old) name bytes
put_in old new name bytes added =
    ap files_of added.behind ∙ one_more no_files old (added.kept, added.vector)
    ∙ ap (λ (n : List ℕ). with_file (files_of old) n added.vector.items) added.named
    ∙ ap (λ (b : List ℕ). with_file (files_of old) name b) added.whole

-- what stands under a name, by whether the next file has it
pub next_file : (files : List File) (i : ℕ) (d : File) (name : List ℕ) → i < length files
    → files_of (take (i + 1) files) name ≡ with_file (files_of (take i files)) (string_bytes (get_or files i d).0) (get_or files i d).1.items name
next_file files i d name l =
    let next : i + 1 ≡ suc i = omega arith in
    ap (λ (n : ℕ). files_of (take n files) name) next
    ∙ ap (λ (fs : List File). files_of fs name) (take-suc files i d l)
    ∙ ap (λ (f : Files). f name) (one_more no_files (take i files) (get_or files i d))

abbrev either_of : List File → ℕ → File → List ℕ → Bool → Option (List ℕ)
either_of files i file name v = cond v (Some file.1.items) (files_of (take i files) name)

step : (files : List File) (i : ℕ) (file : File) (name known : List ℕ) (v : Bool) → i < length files → file ≡ get_or files i file
    → known ≡ string_bytes file.0 → v ≡ bytes_eq known name → files_of (take (i + 1) files) name ≡ either_of files i file name v
step files i file name known v l same kept test =
    next_file files i file name l
    ∙ ap (λ (f : File). with_file (files_of (take i files)) (string_bytes f.0) f.1.items name) (sym same)
    ∙ ap (either_of files i file name) (sym (test ∙ ap (λ (k : List ℕ). bytes_eq k name) kept))

pub found_here : (files : List File) (i : ℕ) (file : File) (name known : List ℕ) (v : Bool) → i < length files → file ≡ get_or files i file
    → known ≡ string_bytes file.0 → v ≡ bytes_eq known name → v ≡ true → Some file.1.items ≡ files_of (take (i + 1) files) name
found_here files i file name known v l same kept test here =
    sym (step files i file name known v l same kept test ∙ ap (either_of files i file name) here)

pub found_before : (files : List File) (i : ℕ) (file : File) (name known : List ℕ) (v : Bool) → i < length files → file ≡ get_or files i file
    → known ≡ string_bytes file.0 → v ≡ bytes_eq known name → v ≡ false → files_of (take i files) name ≡ files_of (take (i + 1) files) name
found_before files i file name known v l same kept test not =
    sym (step files i file name known v l same kept test ∙ ap (either_of files i file name) not)
