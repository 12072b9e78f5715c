use Rattle.std.proofs.Common.{ℕ, List, [], ◌∷◌, get_or, refl}
use Rattle.gf256.specs.Computing.{same_under}
use Rattle.evaluation.specs.Multiples.{half}
use Rattle.evaluation.proofs.multiples.halves.Goals as goal

entries : List ℕ
entries = 0 ∷ 1 ∷ 2 ∷ 3 ∷ 4 ∷ 5 ∷ 6 ∷ 7 ∷ 8 ∷ 9 ∷ 10 ∷ 11 ∷ 12 ∷ 13 ∷ 14 ∷ 15 ∷ 0 ∷ 16 ∷ 32 ∷ 48 ∷ 64 ∷ 80 ∷ 96 ∷ 112 ∷ 128 ∷ 144 ∷ 160 ∷ 176 ∷ 192 ∷ 208 ∷ 224 ∷ 240 ∷ []

pub returns : goal.returns
unfolding entries
returns c = same_under 32 (λ t. get_or entries t 0) half refl
