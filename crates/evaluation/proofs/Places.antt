-- Tables of the transform.
use Rattle.std.proofs.Common.{◌≡◌, ℕ, ◌+◌, ◌-◌, ◌*◌, ◌^◌, ◌<◌, ◌≤◌, true, List, [], ◌∷◌, get_or, refl, arith}
use Rattle.std.specs.Prelude.{nat_lt}
use Rattle.gf256.specs.Computing.{all_under, passes, same_under, small_under}
use Rattle.evaluation.specs.Transform.{chosen, element}

unfoldable pub even_elements : List ℕ
even_elements = 0 ∷ 214 ∷ 152 ∷ 78 ∷ 146 ∷ 68 ∷ 10 ∷ 220 ∷ 86 ∷ 128 ∷ 206 ∷ 24 ∷ 196 ∷ 18 ∷ 92 ∷ 138 ∷ 200 ∷ 30 ∷ 80 ∷ 134 ∷ 90 ∷ 140 ∷ 194 ∷ 20 ∷ 158 ∷ 72 ∷ 6 ∷ 208 ∷ 12 ∷ 218 ∷ 148 ∷ 66 ∷ 88 ∷ 142 ∷ 192 ∷ 22 ∷ 202 ∷ 28 ∷ 82 ∷ 132 ∷ 14 ∷ 216 ∷ 150 ∷ 64 ∷ 156 ∷ 74 ∷ 4 ∷ 210 ∷ 144 ∷ 70 ∷ 8 ∷ 222 ∷ 2 ∷ 212 ∷ 154 ∷ 76 ∷ 198 ∷ 16 ∷ 94 ∷ 136 ∷ 84 ∷ 130 ∷ 204 ∷ 26 ∷ 230 ∷ 48 ∷ 126 ∷ 168 ∷ 116 ∷ 162 ∷ 236 ∷ 58 ∷ 176 ∷ 102 ∷ 40 ∷ 254 ∷ 34 ∷ 244 ∷ 186 ∷ 108 ∷ 46 ∷ 248 ∷ 182 ∷ 96 ∷ 188 ∷ 106 ∷ 36 ∷ 242 ∷ 120 ∷ 174 ∷ 224 ∷ 54 ∷ 234 ∷ 60 ∷ 114 ∷ 164 ∷ 190 ∷ 104 ∷ 38 ∷ 240 ∷ 44 ∷ 250 ∷ 180 ∷ 98 ∷ 232 ∷ 62 ∷ 112 ∷ 166 ∷ 122 ∷ 172 ∷ 226 ∷ 52 ∷ 118 ∷ 160 ∷ 238 ∷ 56 ∷ 228 ∷ 50 ∷ 124 ∷ 170 ∷ 32 ∷ 246 ∷ 184 ∷ 110 ∷ 178 ∷ 100 ∷ 42 ∷ 252 ∷ []

pub even_is : (j : ℕ) → j < 128 → get_or even_elements j 0 ≡ element (2 * j)
unfolding chosen element even_elements
even_is = same_under 128 (λ j. get_or even_elements j 0) (λ j. element (2 * j)) refl

-- of n pairs beside the first, in 256 rows
pub few_of : (n j s : ℕ) → 0 < s → (n + 1) * (2 * s) ≤ 256 → j < n → j + 1 < 128
few_of n j s some within lt =
    let most : (n + 1) * 2 ≤ (n + 1) * (2 * s) = (let e : (n + 1) * 2 * s ≡ (n + 1) * (2 * s) = grind arith in let one : (n + 1) * 2 * 1 ≤ (n + 1) * 2 * s = grind arith in omega arith) in
    omega arith

-- ---- powers of two

groups_test : all_under 9 (λ b. all_under (b - 1) (λ l. nat_lt (2 ^ l * (4 * 2 ^ (b - 2 - l))) 257)) ≡ true
groups_test = refl

pub groups_fit : (b l : ℕ) → b < 9 → l + 1 < b → 2 ^ l * (4 * 2 ^ (b - 2 - l)) ≤ 256
groups_fit b l lb ll =
    let small = small_under (b - 1) 257 (λ l. 2 ^ l * (4 * 2 ^ (b - 2 - l))) (passes 9 (λ b. all_under (b - 1) (λ l. nat_lt (2 ^ l * (4 * 2 ^ (b - 2 - l))) 257)) groups_test b lb) l (omega arith) in
    omega (arith, small)

pairs_test : all_under 8 (λ a. nat_lt ((2 ^ a - 1 + 1) * (2 * 2 ^ (7 - a))) 257) ≡ true
pairs_test = refl

pub pairs_fit : (a : ℕ) → a < 8 → (2 ^ a - 1 + 1) * (2 * 2 ^ (7 - a)) ≤ 256
pairs_fit a lt = let small = small_under 8 257 (λ a. (2 ^ a - 1 + 1) * (2 * 2 ^ (7 - a))) pairs_test a lt in omega (arith, small)
