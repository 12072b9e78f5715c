-- A symbol put to what is kept of an object.
use Rattle.std.specs.Prelude.{filter, is_some, ◌==◌, ◌&&◌, Result, ⊤}
use Rattle.std.proofs.Common.{◌≡◌, ◌≢◌, ℕ, ◌+◌, ◌<◌, ◌≤◌, Bool, true, false, List, Option, Some, None, length, refl, sym, ap, subst, ◌∙◌, inl, inr, arith}
use Rattle.std.proofs.Math.Path.{fun_ext}
use Rattle.std.proofs.lemmas.Bool.{cases_Bool, cases_eq, and_parts, eqb-true, eq-eqb, ne_eqb}
use Rattle.lists.specs.Below.{below}
use Rattle.partition.specs.Fti.{Fti, block_count, encoding_count}
use Rattle.block_recovery.specs.Decoded.{AreWithin}
use Rattle.block_recovery.specs.Arrivals.{with_esi, with_symbol}
use Rattle.block_recovery.proofs.Kept.{count_more, count_same}
use Rattle.block_recovery.proofs.Those.{few_pass}
use Rattle.block_bytes.specs.Bytes.{Becomes}
use Rattle.receiver.specs.Holds.{Holds, HoldsIn, IsSound, kept_of, has_solved, solved_count}
use Rattle.alc.specs.declared.reading.Packet.{Packet}
use Rattle.receiver.specs.Fed.{HoldsFor, FedOutcome}
use Rattle.receiver.specs.Putting.{MayStand, IsPutFault, Outcome, BlockOutcome, StoreOutcome, BytesChange, BytesNow}
use Rattle.receiver.specs.Stored.{IsOf, IsPending, IsSolved, IsStored, is_solved}
use Rattle.receiver.specs.declared.receiver.FeedFault.{FeedFault}
use Rattle.receiver.specs.declared.store.Store.{Store}
use Rattle.receiver.proofs.Told.{outcome_then, block_then}

-- the symbol more is one of its block
pub with_own : (at : ℕ → ℕ → Option (List ℕ)) (b j : ℕ) (y : List ℕ) → with_symbol at b j y b ≡ with_esi (at b) j y
with_own at b j y = fun_ext (λ i. rw (eq-eqb b b refl) refl)

pub with_apart : (at : ℕ → ℕ → Option (List ℕ)) (b j : ℕ) (y : List ℕ) (a : ℕ) → b ≢ a → with_symbol at b j y a ≡ at a
with_apart at b j y a ne = fun_ext (λ i. rw (ne_eqb b a ne) refl)

module _ (f : Fti) (at : ℕ → ℕ → Option (List ℕ)) (b : ℕ) (old new : ℕ → List ℕ) (x y : ℕ → List ℕ) (held : (a : ℕ) → IsStored f a (x a) (old a) (at a))
    (others : (a : ℕ) → b ≢ a → new a ≡ old a) (bytes : (a : ℕ) → b ≢ a → y a ≡ x a) where
  block_apart : (a : ℕ) → b ≢ a → IsStored f a (y a) (new a) (at a)
  block_apart a ne =
      subst (λ (l : List ℕ). IsStored f a l (new a) (at a)) (sym (bytes a ne))
      (subst (λ (o : List ℕ). IsStored f a (x a) o (at a)) (sym (others a ne)) (held a))

  -- each block is kept, where one has a symbol more
  blocks_more : (j : ℕ) (s : List ℕ) → IsStored f b (y b) (new b) (with_esi (at b) j s) → (a : ℕ) → IsStored f a (y a) (new a) (with_symbol at b j s a)
  blocks_more j s now a = elim (cases_eq b a) [
    | inl e ↦
        (subst (λ (k : ℕ). IsStored f k (y k) (new k) (with_symbol at b j s k)) e
        (subst (λ (g : ℕ → Option (List ℕ)). IsStored f b (y b) (new b) g) (sym (with_own at b j s)) now))
    | inr ne ↦ subst (λ (g : ℕ → Option (List ℕ)). IsStored f a (y a) (new a) g) (sym (with_apart at b j s a ne)) (block_apart a ne)
  ]

  -- or none has
  blocks_same : IsStored f b (y b) (new b) (at b) → (a : ℕ) → IsStored f a (y a) (new a) (at a)
  blocks_same now a = elim (cases_eq b a) [
    | inl e ↦ subst (λ (k : ℕ). IsStored f k (y k) (new k) (at k)) e now
    | inr ne ↦ block_apart a ne
  ]

module _ (f : Fti) (at : ℕ → ℕ → Option (List ℕ)) (b j : ℕ) (y : List ℕ) where
  some_with : (P : ℕ → ℕ → List ℕ → Type 0) → P b j y → ((a i : ℕ) (z : List ℕ) → at a i ≡ Some z → P a i z) → (a i : ℕ) (z : List ℕ) → with_symbol at b j y a i ≡ Some z → P a i z
  some_with P own rest a i z some = elim (cases_Bool (b == a && j == i)) [
    | inl same ↦
        (let w = and_parts (b == a) (j == i) same in
        let e : ◌≡◌ {A = Option (List ℕ)} (Some y) (Some z) = sym (rw same refl) ∙ some in
        let is : y ≡ z = cc in
        subst (λ (x : ℕ). P x i z) (eqb-true b a w.0) (subst (λ (x : ℕ). P b x z) (eqb-true j i w.1) (subst (P b j) is own)))
    | inr other ↦ rest a i z (sym (rw other refl) ∙ some)
  ]

  -- a symbol more that the FTI has
  within_more : AreWithin f at → b < block_count f → j < encoding_count f b → length y ≡ f.symbol_length → AreWithin f (with_symbol at b j y)
  within_more within hb hj len = record {
    block = some_with (λ a i z. a < block_count f) hb within.block;
    esi = some_with (λ a i z. i < encoding_count f a) hj within.esi;
    count = some_with (λ a i z. length z ≡ f.symbol_length) len within.count;
  }

-- ---- a store, where one block changes

module _ (old new : Store) (fti : new.fti ≡ old.fti) (b : ℕ) (others : (a : ℕ) → b ≢ a → kept_of new a ≡ kept_of old a)
    (x : ℕ → List ℕ) (told : Option (ℕ → List ℕ)) (at : ℕ → ℕ → Option (List ℕ)) (held : Holds old x at) where
  -- it holds one symbol more
  pub holds_more : (j : ℕ) (s : List ℕ) → b < block_count old.fti → j < encoding_count old.fti b → length s ≡ old.fti.symbol_length
      → Becomes x told b (λ y. IsStored old.fti b y (kept_of new b) (with_esi (at b) j s)) → HoldsIn new told (with_symbol at b j s)
  holds_more j s hb hj len now = (
    now.bytes,
    now.told,
    record {
      within = subst (λ (f : Fti). AreWithin f (with_symbol at b j s)) (sym fti) (within_more old.fti at b j s held.within hb hj len);
      blocks = λ a. subst (λ (f : Fti). IsStored f a (now.bytes a) (kept_of new a) (with_symbol at b j s a)) (sym fti)
          (blocks_more old.fti at b (kept_of old) (kept_of new) x now.bytes held.blocks others now.others j s now.has a);
    },
  )

  -- or none more
  pub holds_same : Becomes x told b (λ y. IsStored old.fti b y (kept_of new b) (at b)) → HoldsIn new told at
  holds_same now = (
    now.bytes,
    now.told,
    record {
      within = subst (λ (f : Fti). AreWithin f at) (sym fti) held.within;
      blocks = λ a. subst (λ (f : Fti). IsStored f a (now.bytes a) (kept_of new a) (at a)) (sym fti)
          (blocks_same old.fti at b (kept_of old) (kept_of new) x now.bytes held.blocks others now.others now.has a);
    },
  )

-- what comes of the block comes of the store
module _ (s store : Store) (fti : store.fti ≡ s.fti) (p : Packet) (hb : p.sbn < block_count s.fti) (hj : p.esi < encoding_count s.fti p.sbn) (len : length p.symbol.now ≡ s.fti.symbol_length)
    (others : (a : ℕ) → p.sbn ≢ a → kept_of store a ≡ kept_of s a) (place : ℕ) (now : BytesNow) (r : Result ⊤ FeedFault) (x : ℕ → List ℕ) (at : ℕ → ℕ → Option (List ℕ)) (held : Holds s x at) where
  abbrev change : BytesChange
  change = record { before = x; after = now.told s.fti; failed = now.failed }

  abbrev kept : List ℕ
  kept = kept_of store p.sbn

  abbrev stored : List ℕ → (ℕ → Option (List ℕ)) → Type 0
  stored y = IsStored s.fti p.sbn y kept

  abbrev solved : List ℕ → (ℕ → Option (List ℕ)) → Type 0
  solved y = IsSolved s.fti p.sbn y kept

  abbrev pending : List ℕ → (ℕ → Option (List ℕ)) → Type 0
  pending y = IsPending s.fti p.sbn y kept

  abbrev why : FeedFault → Type 0
  why = IsPutFault s.fti place p (at p.sbn)

  pub stored_then : BlockOutcome p (at p.sbn) change r stored (λ y. stored y (at p.sbn)) why → StoreOutcome s.fti place p at now r store
  stored_then h =
      outcome_then r _ _ _ _ now.failed
      (λ o. (o.0, holds_more s store fti p.sbn others x _ at held p.esi p.symbol.now hb hj len o.1))
      (λ e o. (o.0, holds_same s store fti p.sbn others x _ at held o.1)) h

  -- of a block that was solved, of one that stays pending, and of one that is solved now
  pub solved_then : BlockOutcome p (at p.sbn) change r solved (λ y. solved y (at p.sbn)) why → StoreOutcome s.fti place p at now r store
  solved_then h =
      stored_then (block_then p (at p.sbn) change r solved stored (λ y. solved y (at p.sbn)) (λ y. stored y (at p.sbn)) why (λ y g o. inr o) (λ y o. inr o) h)

  pub pending_then : BlockOutcome p (at p.sbn) change r pending (λ y. pending y (at p.sbn)) why → StoreOutcome s.fti place p at now r store
  pending_then h =
      stored_then (block_then p (at p.sbn) change r pending stored (λ y. pending y (at p.sbn)) (λ y. stored y (at p.sbn)) why (λ y g o. inl o) (λ y o. inl o) h)

  pub solves_then : BlockOutcome p (at p.sbn) change r solved (λ y. pending y (at p.sbn)) why → StoreOutcome s.fti place p at now r store
  solves_then h =
      stored_then (block_then p (at p.sbn) change r solved stored (λ y. pending y (at p.sbn)) (λ y. stored y (at p.sbn)) why (λ y g o. inr o) (λ y o. inl o) h)

-- where one block's ESIs change, each block's are still its own
pub each_still : (old new : Store) (b : ℕ) → ((a : ℕ) → b ≢ a → kept_of new a ≡ kept_of old a) → IsOf old.fti b (kept_of new b) → ((a : ℕ) → IsOf old.fti a (kept_of old a))
    → (a : ℕ) → IsOf old.fti a (kept_of new a)
each_still old new b others own each a = elim (cases_eq b a) [
  | inl e ↦ subst (λ (k : ℕ). IsOf old.fti k (kept_of new k)) e own
  | inr ne ↦ subst (λ (l : List ℕ). IsOf old.fti a l) (sym (others a ne)) (each a)
]

-- ---- how many blocks are solved

few_solved : (store : Store) → solved_count store ≤ block_count store.fti
few_solved store = few_pass (has_solved store) (block_count store.fti)

pub counts_few : (store : Store) → IsSound store → store.solved ≤ block_count store.fti
counts_few store sound = let e = sound.solved in let l = few_solved store in omega (arith, e, l)

module _ (old new : Store) (sound : IsSound old) (fti : new.fti ≡ old.fti) (b : ℕ) (others : (a : ℕ) → b ≢ a → kept_of new a ≡ kept_of old a) where
  abbrev now : ℕ → Bool
  now a = is_solved old.fti a (kept_of new a)

  now_count : solved_count new ≡ length (filter now (below (block_count old.fti)))
  now_count = ap (λ (f : Fti). length (filter (λ a. is_solved f a (kept_of new a)) (below (block_count f)))) fti

  -- no block more
  pub count_stays : new.solved ≡ old.solved → is_solved old.fti b (kept_of new b) ≡ is_solved old.fti b (kept_of old b) → new.solved ≡ solved_count new
  count_stays count here =
      count ∙ sound.solved ∙ sym (now_count ∙ count_same now (has_solved old) (block_count old.fti)
      (λ a la. elim (cases_eq b a) [
        | inl e ↦ subst (λ (k : ℕ). is_solved old.fti k (kept_of new k) ≡ is_solved old.fti k (kept_of old k)) e here
        | inr ne ↦ ap (is_solved old.fti a) (others a ne)
      ]))

  -- one block more
  pub one_more_solved : b < block_count old.fti → (is_solved old.fti b (kept_of old b) ≡ false) × (is_solved old.fti b (kept_of new b) ≡ true) → solved_count new ≡ old.solved + 1
  one_more_solved hb solves =
      now_count ∙ count_more (has_solved old) now (block_count old.fti) b hb solves.0 solves.1 (λ a ne. ap (is_solved old.fti a) (others a ne))
      ∙ ap (λ (n : ℕ). n + 1) (sym sound.solved)

-- ---- a store that there is, or a new one

told_some : (told : Option (ℕ → List ℕ)) → is_some told ≡ true → (x : ℕ → List ℕ) × (told ≡ Some x)
told_some None some = absurd (cc)
told_some (Some x) some = (x, refl)

nothing : (at : ℕ → ℕ → Option (List ℕ)) → ((b j : ℕ) → at b j ≡ None) → (λ b j. None) ≡ at
nothing at none = fun_ext (λ b. fun_ext (λ j. sym (none b j)))

module _ (f : Fti) (place : ℕ) (told : Fti → Option (ℕ → List ℕ)) (now : BytesNow) (old new : Store) (fti : old.fti ≡ f) (same : new.fti ≡ old.fti) (p : Packet) (r : Result ⊤ FeedFault)
    (put : (at : ℕ → ℕ → Option (List ℕ)) → HoldsIn old (told old.fti) at → StoreOutcome old.fti place p at now r new) (at : ℕ → ℕ → Option (List ℕ)) where
  pub fed_some : HoldsIn old (told f) at → FedOutcome f place p at now r (Some new)
  fed_some =
      subst (λ (g : Fti). HoldsIn old (told g) at → FedOutcome g place p at now r (Some new)) fti
      (λ hold. outcome_then r _ _ _ _ now.failed (λ h. (h.0, (same, h.1))) (λ e h. (h.0, (same, h.1))) (put at hold))

  -- a new one holds nothing
  pub fed_none : ((x : ℕ → List ℕ) → Holds old x (λ b j. None)) → HoldsFor f told None at
      → Outcome now.failed r (MayStand (at p.sbn) p.esi p.symbol.now × HoldsFor f now.told (Some new) (with_symbol at p.sbn p.esi p.symbol.now))
      (λ e. IsPutFault f place p (at p.sbn) e × HoldsFor f now.told None at)
  fed_none none h =
      let w = told_some (told f) h.1 in
      let hold : HoldsIn old (told f) at = subst (λ (g : ℕ → ℕ → Option (List ℕ)). HoldsIn old (told f) g) (nothing at h.0) (w.0, w.1, none w.0) in
      outcome_then r (MayStand (at p.sbn) p.esi p.symbol.now × HoldsFor f now.told (Some new) (with_symbol at p.sbn p.esi p.symbol.now)) _
      (λ e. IsPutFault f place p (at p.sbn) e × HoldsFor f now.told (Some new) at) _ now.failed
      (λ o. o) (λ e o. (o.0, (h.0, ap is_some o.1.1.1))) (fed_some hold)
