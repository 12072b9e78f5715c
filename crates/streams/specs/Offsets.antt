-- Bytes that are read and written at offsets.
use Rattle.std.specs.Prelude.{◌≡◌, ℕ, ◌+◌, ◌-◌, ◌≤◌, List, ◌++◌, length, take, drop, replicate}
use Rattle.std.specs.Prelude.{Option, IfSome}
use Rattle.std.specs.Option.{option_map}

-- these bytes stand in the content from an offset on, where it is told
abbrev pub StandsAt : Option (List ℕ) → ℕ → List ℕ → Type 0
StandsAt content offset bytes =
    IfSome content (λ xs. bytes ≡ take (length bytes) (drop offset xs))

-- no byte stands at the offset or behind it
abbrev pub EndsBy : Option (List ℕ) → ℕ → Type 0
EndsBy content offset = IfSome content (λ xs. length xs ≤ offset)

-- so many bytes stand from the offset on
abbrev pub HasRoomAt : Option (List ℕ) → ℕ → ℕ → Type 0
HasRoomAt contents offset count = IfSome contents (λ xs. offset + count ≤ length xs)

-- these bytes in the place of as many from the offset on
abbrev pub overwritten : List ℕ → ℕ → List ℕ → List ℕ
overwritten xs offset bytes = take offset xs ++ (bytes ++ drop (offset + length bytes) xs)

-- what is told of a sink's bytes has changed so
abbrev pub Overwrites : Option (List ℕ) → Option (List ℕ) → ℕ → List ℕ → Type 0
Overwrites old new offset bytes = new ≡ option_map (λ xs. overwritten xs offset bytes) old

-- a beginning of these bytes was written there
abbrev pub OverwritesSome : Option (List ℕ) → Option (List ℕ) → ℕ → List ℕ → Type 0
OverwritesSome old new offset bytes = (n : ℕ) × Overwrites old new offset (take n bytes)

-- so many bytes: the first ones, and zeros behind them
abbrev pub resized : List ℕ → ℕ → List ℕ
resized xs count = take count xs ++ replicate (count - length xs) 0

abbrev pub Resizes : Option (List ℕ) → Option (List ℕ) → ℕ → Type 0
Resizes old new count = new ≡ option_map (λ xs. resized xs count) old
