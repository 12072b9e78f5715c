-- What is read at offsets, wherever it comes from.
use Rattle.std.specs.Prelude.{ℕ, Bool, true, List, Option, Some}
use Rattle.commands.specs.declared.whole.Whole.{Whole}
use Rattle.commands.specs.declared.whole.Whole.TheVariants.{File, Held}

-- its bytes: a file's, if they are told, or those that are held
abbrev pub content_of : {I : Type 0} → (I → Option (List ℕ)) → Whole I → Option (List ℕ)
content_of content (File file) = content file
content_of content (Held bytes) = Some bytes.items

-- what is held can always be read
abbrev pub reliable_of : {I : Type 0} → (I → Bool) → Whole I → Bool
reliable_of reliable (File file) = reliable file
reliable_of reliable (Held bytes) = true
