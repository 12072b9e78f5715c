-- The line of a command by its name.
use Rattle.std.proofs.Common.{Bool, ℕ, List, ◌≡◌, Option, Some, codes, true, false, sym, subst}
use Rattle.clap.specs.Words.{Row, Text}
use Rattle.std.specs.Str.{bytes_eq}
use Rattle.request.specs.declared.requests.CommandLine.{CommandLine}
use Rattle.request.specs.declared.requests.Request.{Request}
use Rattle.request.specs.declared.requests.Request.TheVariants.{Check, Twin, Show, Encode, Certify, Convert, Decode, Follow, Drop, Salvage, Join}
use Rattle.request.specs.Arguments.{Flag, AText, ANumber, SomePlaces, SomeTexts, AFlag, MaybeText}
use Rattle.request.specs.Matching.{IsAsked, IsFlagGiven, IsGiven, IsTold}
use Rattle.request.specs.Requests.{TellsPlaces, command_of}

-- it is the line of this name, too, that another name for it asks for
pub asked_at : (rows : List Row) (name word : Text) (line made : CommandLine) → name ≡ word → line ≡ made → IsAsked word rows made → IsAsked name rows line
asked_at rows name word line made named is asked = subst (λ l. IsAsked name rows l) (sym is) (subst (λ n. IsAsked n rows made) (sym named) asked)

-- only `drop` has to tell places
pub tells : (r : Request) (word : Text) → (command_of r).0 ≡ word → bytes_eq word (codes "drop") ≡ false → TellsPlaces r
tells (Drop r) word named other = let bad : bytes_eq (codes "drop") (codes "drop") ≡ false = subst (λ w. bytes_eq w (codes "drop") ≡ false) (sym named) other in absurd (true_false bad)
  where
    true_false : true ≡ false → ⊥
    true_false e = cc
tells (Encode r) word named other = tt
tells (Certify r) word named other = tt
tells (Convert r) word named other = tt
tells (Check r) word named other = tt
tells (Salvage r) word named other = tt
tells (Join r) word named other = tt
tells (Decode r) word named other = tt
tells (Follow r) word named other = tt
tells (Twin r) word named other = tt
tells (Show r) word named other = tt

pub tells_at : (rows : List Row) (word : Text) (line made : CommandLine) → line ≡ made → IsAsked word rows made → bytes_eq word (codes "drop") ≡ false → TellsPlaces line.request
tells_at rows word line made is asked other = subst (λ l. TellsPlaces l.request) (sym is) (tells made.request word asked.0 other)

-- a command of this name was told
pub told_as : (rows : List Row) (name word : Text) → name ≡ word → IsTold (Some (name, rows)) → IsTold (Some (word, rows))
told_as rows name word named told = subst (λ n. IsTold (Some (n, rows))) named told

-- a flag that has a value was given or not
pub flag_given : (rows : List Row) (name : Text) (letter : Option ℕ) → IsGiven rows (Flag name letter) → IsFlagGiven name rows
flag_given rows name letter (AFlag given, is) = (given, is)
flag_given rows name letter (AText text, is) = absurd is
flag_given rows name letter (ANumber n, is) = absurd is
flag_given rows name letter (SomePlaces ranges, is) = absurd is
flag_given rows name letter (SomeTexts texts, is) = absurd is
flag_given rows name letter (MaybeText text, is) = absurd is
