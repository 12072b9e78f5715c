-- The blocks of which something came, listed one by one.
use Rattle.std.specs.Prelude.{is_some}
use Rattle.std.proofs.Common.{◌≡◌, ◌⊎◌, ℕ, ◌<◌, ◌^◌, Bool, true, false, Option, Some, None, List, [], ◌∷◌, ◌++◌, refl, sym, ◌∙◌, inl, inr, arith, length, length-append, ◌+◌, ◌*◌, ap₂, subst}
use Rattle.std.specs.BTreeMap.{get}
use Rattle.std.specs.Ordering.{nat_cmp, eq_by_cmp}
use Rattle.std.specs.Set.{is_member}
use Rattle.std.proofs.lemmas.Bool.{cases_eq, cases_lt, ne_eqb}
use Rattle.std.proofs.lemmas.List.{get_or_append_left, get_or_push}
use Rattle.shared_lists.proofs.Numbers.{parts}
use Rattle.shared_lists.specs.SharedLists.{share_of, index_of}
use Rattle.block_recovery.specs.Listed.{Stands, HaveSome}
use Rattle.block_recovery.specs.Arrivals.{arrived_at}
use Rattle.block_recovery.specs.Received.{came_at, listed}
use Rattle.block_recovery.specs.declared.shared_arrivals.SharedArrivals.{SharedArrivals}
use Rattle.block_recovery.specs.declared.symbols.Symbols.{Symbols}
use Rattle.block_recovery.proofs.Index.{number_eq}

-- one block more
pub stands_more : (blocks : List ℕ) (k b : ℕ) → Stands blocks b → Stands (blocks ++ k ∷ []) b
stands_more blocks k b stands =
    let len = length-append blocks (k ∷ []) in
    (stands.0, omega (arith, stands.1, len), get_or_append_left blocks (k ∷ []) 0 stands.0 stands.1 ∙ stands.2)

pub stands_last : (blocks : List ℕ) (k : ℕ) → Stands (blocks ++ k ∷ []) k
stands_last blocks k = let len = length-append blocks (k ∷ []) in (length blocks, omega (arith, len), get_or_push blocks k 0 (length blocks) refl)

pub some_more : {S : Type 0} (held : S → List ℕ) (s : Symbols S) (blocks : List ℕ) (k j : ℕ) → is_some (came_at held s k j) ≡ true → HaveSome held s blocks → HaveSome held s (blocks ++ k ∷ [])
some_more held s blocks k j here some = λ i l. elim (cases_lt i (length blocks)) [
  | inl lt ↦ rw (get_or_append_left blocks (k ∷ []) 0 i lt) (some i lt)
  | inr past ↦
      (let len = length-append blocks (k ∷ []) in
      let last : i ≡ length blocks = omega (arith, past, l, len) in
      rw (last, get_or_push blocks k 0 (length blocks) refl) (j, here))
]

-- a number is in the list
abbrev pub is_key : List ℕ → ℕ → Bool
is_key left q = is_member (eq_by_cmp nat_cmp) left q

-- the blocks are listed whose share isn't left, where something came
abbrev pub AreListed : {S : Type 0} → (S → List ℕ) → Symbols S → List ℕ → List ℕ → Type 0
AreListed held s left blocks = (b j : ℕ) → b < 2 ^ 32 → is_some (came_at held s b j) ≡ true → (is_key left (share_of s.sharing b) ≡ true) ⊎ Stands blocks b

-- where something came of a block, its share is a key
of_key : {S : Type 0} (held : S → List ℕ) (o : Option (SharedArrivals S)) (i j : ℕ) → is_some (arrived_at held (listed o i) j) ≡ true → is_some o ≡ true
of_key held None i j h = h
of_key held (Some v) i j h = refl

module _ {S : Type 0} (held : S → List ℕ) (s : Symbols S) where
  pub listed_none : (left : List ℕ) → ((q : ℕ) → is_some (get nat_cmp s.shares q) ≡ is_key left q) → AreListed held s left []
  listed_none left has = λ b j lb h. inl (sym (has (share_of s.sharing b)) ∙ of_key held (get nat_cmp s.shares (share_of s.sharing b)) (index_of s.sharing b) j h)

  -- a share's blocks are listed
  pub listed_more : (k : ℕ) (left blocks more : List ℕ) → AreListed held s (k ∷ left) blocks → ((b : ℕ) → Stands blocks b → Stands more b)
      → ((b j : ℕ) → b < 2 ^ 32 → share_of s.sharing b ≡ k → is_some (came_at held s b j) ≡ true → Stands more b) → AreListed held s left more
  listed_more k left blocks more are keeps here = λ b j lb h. elim (are b j lb h) [
    | inr stands ↦ inr (keeps b stands)
    | inl member ↦ elim (cases_eq (share_of s.sharing b) k) [
      | inl same ↦ inr (here b j lb same h)
      | inr other ↦ inl (rw (sym (number_eq (share_of s.sharing b) k) ∙ ne_eqb (share_of s.sharing b) k other) at member)
    ]
  ]

  -- with no share left all are listed
  pub listed_all : (blocks : List ℕ) → AreListed held s [] blocks → (b j : ℕ) → b < 2 ^ 32 → is_some (came_at held s b j) ≡ true → Stands blocks b
  listed_all blocks are b j lb h = elim (are b j lb h) [
    | inl member ↦ absurd (cc)
    | inr stands ↦ stands
  ]

-- the blocks of a share are listed whose index is below this one, where something came
abbrev pub AreListedBelow : {S : Type 0} → (S → List ℕ) → Symbols S → ℕ → ℕ → List ℕ → Type 0
AreListedBelow held s share index blocks = (b j : ℕ) → b < 2 ^ 32 → share_of s.sharing b ≡ share → index_of s.sharing b < index → is_some (came_at held s b j) ≡ true → Stands blocks b

module _ {S : Type 0} (held : S → List ℕ) (s : Symbols S) (share : ℕ) where
  -- a block is that at its index
  is_at : (b index : ℕ) → share_of s.sharing b ≡ share → index_of s.sharing b ≡ index → b ≡ share * s.sharing.lists + index
  is_at b index is at = sym (parts s.sharing b) ∙ ap₂ (λ (q r : ℕ). q * s.sharing.lists + r) is at

  -- one index more
  next : (index : ℕ) (blocks more : List ℕ) → AreListedBelow held s share index blocks → ((b : ℕ) → Stands blocks b → Stands more b)
      → ((b j : ℕ) → b < 2 ^ 32 → b ≡ share * s.sharing.lists + index → is_some (came_at held s b j) ≡ true → Stands more b) → AreListedBelow held s share (index + 1) more
  next index blocks more are keeps here = λ b j lb is lt h. elim (cases_eq (index_of s.sharing b) index) [
    | inl at ↦ here b j lb (is_at b index is at) h
    | inr other ↦ keeps b (are b j lb is (omega (arith, lt, other)) h)
  ]

  module _ (index block : ℕ) (blocks : List ℕ) (is : block ≡ share * s.sharing.lists + index) (are : AreListedBelow held s share index blocks) where
    -- its block is put last
    pub below_put : AreListedBelow held s share (index + 1) (blocks ++ block ∷ [])
    below_put = next index blocks (blocks ++ block ∷ []) are (stands_more blocks block)
        (λ b j lb at h. subst (Stands (blocks ++ block ∷ [])) {x = block} {y = b} (is ∙ sym at) (stands_last blocks block))

    -- nothing came of it
    pub below_empty : ((j : ℕ) → is_some (came_at held s block j) ≡ false) → AreListedBelow held s share (index + 1) blocks
    below_empty none = next index blocks blocks are (λ b stands. stands)
        (λ b j lb at h. absurd (let e = none j in let t = subst (λ (x : ℕ). is_some (came_at held s x j) ≡ true) {x = b} {y = block} (at ∙ sym is) h in cc))
