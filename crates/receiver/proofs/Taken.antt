-- What is given of what is kept: the object of solved blocks, and the first block that is short.
use Rattle.std.specs.Prelude.{filter, is_some, IfSome}
use Rattle.std.specs.List.{AllByRecursion}
use Rattle.std.proofs.Common.{◌≡◌, ℕ, zero, suc, ◌+◌, ◌*◌, ◌<◌, ◌≤◌, true, List, Option, Some, None, length, take, refl, ap, sym, subst, ◌∙◌, arith}
use Rattle.std.proofs.lemmas.Bool.{le-leb, lt-leb, leb-true}
use Rattle.std.proofs.lemmas.List.{take-take}
use Rattle.lists.specs.Below.{below}
use Rattle.partition.specs.Fti.{Fti, IsValidFti, block_count, block_bytes, source_count, encoding_count}
use Rattle.partition.proofs.Laws.{counts, some_block}
use Rattle.reception.specs.Symbols.{Symbol, is_full, arrived_count, AllFull, FullSolvable, IsFirstShort}
use Rattle.reception.specs.Reception.{asked}
use Rattle.reception.specs.Walks.{readings_of}
use Rattle.reception.specs.Within.{IsWithin}
use Rattle.reception.specs.Answer.{Missing, Object, IsAnswer, clash, reception_of}
use Rattle.reception.specs.Answer as value
use Rattle.reception.proofs.OneAnswer.{same_readings}
use Rattle.reception.proofs.Within.{within}
use Rattle.block_recovery.specs.Columns.{ColumnExplained}
use Rattle.block_recovery.specs.Decoded.{IsEnoughAt}
use Rattle.decoder.specs.Answered.{Answers, IsShort}
use Rattle.block_recovery.specs.Received.{IsIndex, AreReceived}
use Rattle.receiver.specs.Stored.{IsSolved, IsStored, is_solved}
use Rattle.receiver.specs.Holds.{Holds, kept_of, has_solved}
use Rattle.receiver.specs.Stands.{StandsWith, Keeps, HoldsSymbols}
use Rattle.receiver.specs.Receiving.{LeaveNoneShort}
use Rattle.receiver.specs.Taking.{IsShortBlock, AllSolved}
use Rattle.block_bytes.specs.Parts.{part_of, object_below, object_in}
use Rattle.block_bytes.proofs.ObjectParts.{nothing_below, part_more}
use Rattle.decoder.specs.declared.answer.Short.{Short}
use Rattle.receiver.specs.declared.receiving.Receiving.{Receiving}
use Rattle.receiver.specs.declared.store.Store.{Store}
use Rattle.decoder.proofs.Answering.{answered}
use Rattle.block_recovery.proofs.Counts.{held_is}
use Rattle.decoder.proofs.ObjectSoFar.{SoFar, nothing_yet, one_more_block, object_answers}
use Rattle.decoder.proofs.Solving.{solvable_from}
use Rattle.decoder.proofs.Unsound.{rows_explain}
use Rattle.receiver.proofs.Pending.{solved_of, kept_count}
use Rattle.alc.specs.Reading.{Reading}

pub if_some : {A : Type 0} (P Q : A → Type 0) (o : Option A) → ((a : A) → P a → Q a) → IfSome o P → IfSome o Q
if_some P Q (Some a) f h = f a h
if_some P Q None f h = tt

-- ---- one block

pub solved_is : (f : Fti) (b : ℕ) (bytes esis : List ℕ) (at : ℕ → Option (List ℕ)) → IsStored f b bytes esis at → is_solved f b esis ≡ true → IsSolved f b bytes esis at
solved_is f b bytes esis at h solved = solved_of f b bytes esis at (leb-true (source_count f b) (length esis) solved) h

pub solved_enough : (f : Fti) (b : ℕ) (bytes esis : List ℕ) (at : ℕ → Option (List ℕ)) → IsStored f b bytes esis at → is_solved f b esis ≡ true → IsEnoughAt f b at
solved_enough f b bytes esis at h solved = omega (arith, leb-true (source_count f b) (length esis) solved, kept_count f b bytes esis at h)

-- a block with enough symbols is explained
pub full_explained : (f : Fti) (b : ℕ) (bytes esis : List ℕ) (at : ℕ → Option (List ℕ)) → IsStored f b bytes esis at → IsEnoughAt f b at → (c : ℕ) → c < f.symbol_length → ColumnExplained f b at c
full_explained f b bytes esis at h enough =
    let many = kept_count f b bytes esis at h in
    let solved : IsSolved f b bytes esis at = solved_of f b bytes esis at (omega (arith, enough, many)) h in
    rows_explain f b at (take (source_count f b * f.symbol_length) bytes) solved.rows

-- the object's bytes in a block, by as many rows as the block has
part_cut : (f : Fti) (bytes : ℕ → List ℕ) (b : ℕ) → part_of f bytes b ≡ take (block_bytes f b) (take (source_count f b * f.symbol_length) (bytes b))
part_cut f bytes b = sym (take-take (block_bytes f b) (source_count f b * f.symbol_length) (bytes b) (omega arith))

-- ---- all blocks

module _ (store : Store) (valid : IsValidFti store.fti) (bytes : ℕ → List ℕ) (at : ℕ → ℕ → Option (List ℕ)) (holds : Holds store bytes at) where
  enough_at : (b : ℕ) → has_solved store b ≡ true → IsEnoughAt store.fti b (at b)
  enough_at b solved = solved_enough store.fti b (bytes b) (kept_of store b) (at b) (holds.blocks b) solved

  module _ (arrivals : List Symbol) (index : IsIndex arrivals at) (all_within : AllByRecursion (IsWithin store.fti) arrivals) where
    pub arrived_is : (b : ℕ) → b < block_count store.fti → arrived_count arrivals b ≡ length (filter (λ j. is_some (at b j)) (below (encoding_count store.fti b)))
    arrived_is b hb = held_is store.fti arrivals at b index all_within (counts store.fti valid b hb).2

    -- a solved block is full
    full_where_solved : (b : ℕ) → b < block_count store.fti → has_solved store b ≡ true → is_full store.fti arrivals b ≡ true
    full_where_solved b hb solved = le-leb (source_count store.fti b) (arrived_count arrivals b) (omega (arith, enough_at b solved, arrived_is b hb))

    pub all_full : AllSolved store → AllFull store.fti arrivals
    all_full all b hb = full_where_solved b hb (all b hb)

    pub full_solvable : FullSolvable store.fti arrivals
    full_solvable b hb full =
        let enough : IsEnoughAt store.fti b (at b) = omega (arith, leb-true _ _ full, arrived_is b hb) in
        solvable_from store.fti arrivals at index b (full_explained store.fti b (bytes b) (kept_of store b) (at b) (holds.blocks b) enough)

    first_is_short : (b : ℕ) → b < block_count store.fti → ((a : ℕ) → a < b → has_solved store a ≡ true) → (s : Short) → IsShortBlock store.fti b (at b) s
        → IsFirstShort store.fti arrivals b × (s.have ≡ arrived_count arrivals b) × (s.need ≡ source_count store.fti b)
    first_is_short b hb before s short =
        let have : s.have ≡ arrived_count arrivals b = short.have ∙ sym (arrived_is b hb) in (
          record {
            in_range = hb;
            short = lt-leb (source_count store.fti b) (arrived_count arrivals b) (omega (arith, have, short.few, short.need));
            least = λ a la. full_where_solved a (omega (arith, la, hb)) (before a la);
          },
          have,
          short.need,
        )

  -- the first block that isn't solved is the first that is short
  pub is_short : (b : ℕ) → b < block_count store.fti → ((a : ℕ) → a < b → has_solved store a ≡ true) → (s : Short) → IsShortBlock store.fti b (at b) s → IsShort store.fti at s
  is_short b hb before s short arrivals index all_within =
      subst (λ (x : ℕ). IsFirstShort store.fti arrivals x × (s.have ≡ arrived_count arrivals x) × (s.need ≡ source_count store.fti x)) (sym short.block)
      (first_is_short arrivals index all_within b hb before s short)

  -- what lacks is the answer where a block is short
  pub missing_answers : (s : Short) → IsShort store.fti at s → Answers store.fti at (Missing s.block s.have s.need)
  missing_answers s short arrivals index all_within =
      let w = short arrivals index all_within in (full_solvable arrivals index all_within, w.0, w.1, w.2)

  module _ (all : AllSolved store) where
    so_far : (n : ℕ) → n ≤ block_count store.fti → SoFar store.fti at n (object_below store.fti bytes n)
    so_far zero most = rw (nothing_below store.fti bytes) (nothing_yet store.fti at (some_block store.fti valid))
    so_far (suc n) most =
        let before = so_far n (omega (arith, most)) in
        let hb : n < block_count store.fti = omega (arith, most) in
        let rows = take (source_count store.fti n * store.fti.symbol_length) (bytes n) in
        let are = (solved_is store.fti n (bytes n) (kept_of store n) (at n) (holds.blocks n) (all n hb)).rows in
        let next : n + 1 ≡ suc n = omega arith in
        subst (λ (m : ℕ). SoFar store.fti at m (object_below store.fti bytes m)) next
        (subst (SoFar store.fti at (n + 1)) (sym (part_more store.fti bytes n))
        (one_more_block store.fti valid at n (object_below store.fti bytes n) rows (part_of store.fti bytes n) before hb are (part_cut store.fti bytes n)))

    -- the object is the answer where no block is
    pub object_in_answers : Answers store.fti at (Object (object_in store.fti bytes))
    object_in_answers =
        object_answers store.fti valid at (block_count store.fti) (object_in store.fti bytes) (so_far (block_count store.fti) (omega arith)) refl (λ b hb. enough_at b (all b hb))

-- ---- what the receiver stands for

pub keeps_none : (told : Fti → Option (ℕ → List ℕ)) (o : Option Fti) (arrivals : List Symbol) → Keeps None told o arrivals → o ≡ None
keeps_none told None arrivals h = refl
keeps_none told (Some f) arrivals h = absurd h

pub keeps_some : (store : Store) (told : Fti → Option (ℕ → List ℕ)) (o : Option Fti) (arrivals : List Symbol) → Keeps (Some store) told o arrivals
    → (o ≡ Some store.fti) × HoldsSymbols store (told store.fti) arrivals
keeps_some store told None arrivals h = absurd h
keeps_some store told (Some f) arrivals h = (ap Some (sym h.0), subst (λ (x : Fti). HoldsSymbols store (told x) arrivals) (sym h.0) h.1)

module _ (r : Receiving) (told : Fti → Option (ℕ → List ℕ)) (ds : List (List ℕ)) (stands : StandsWith r told ds) where
  pub no_fti : r.store ≡ None → (reception_of r.identity (readings_of ds)).scope.fti ≡ None
  no_fti e =
      keeps_none told _ _ (subst (λ (o : Option Store). Keeps o told (reception_of r.identity (readings_of ds)).scope.fti (reception_of r.identity (readings_of ds)).symbols) e stands.symbols)

  -- what leaves no block short, by the readings that are computed
  pub here_full : (h : LeaveNoneShort r.identity ds)
      → ((reception_of r.identity (readings_of ds)).scope.fti ≡ Some h.fti) × AllFull h.fti (reception_of r.identity (readings_of ds)).symbols
  here_full h =
      subst (λ (rs : List Reading). ((reception_of r.identity rs).scope.fti ≡ Some h.fti) × AllFull h.fti (reception_of r.identity rs).symbols)
      (same_readings ds h.readings (readings_of ds) h.read stands.read) (h.known, h.full)

  pub short_none : r.store ≡ None → ¬ LeaveNoneShort r.identity ds
  short_none e none_short = let none = no_fti e in let known = (here_full none_short).0 in absurd (cc)

  module _ (store : Store) (is : r.store ≡ Some store) where
    pub keeps : ((reception_of r.identity (readings_of ds)).scope.fti ≡ Some store.fti) × HoldsSymbols store (told store.fti) (reception_of r.identity (readings_of ds)).symbols
    keeps =
        keeps_some store told _ _
        (subst (λ (o : Option Store). Keeps o told (reception_of r.identity (readings_of ds)).scope.fti (reception_of r.identity (readings_of ds)).symbols) is stands.symbols)

    pub received : AreReceived r.identity ds store.fti keeps.1.at
    received = record { clean = record { clean = stands.clean; some = keeps.0 }; index = keeps.1.index }

    -- with the bytes that are told the store holds what stands
    pub holds_told : (bytes : ℕ → List ℕ) → told store.fti ≡ Some bytes → Holds store bytes keeps.1.at
    holds_told bytes known =
        let known_here = keeps.1.holds.1 in
        let same : keeps.1.holds.0 ≡ bytes = cc in
        subst (λ (x : ℕ → List ℕ). Holds store x keeps.1.at) same keeps.1.holds.2

    answer_here : (v : value.Answer) → Answers store.fti keeps.1.at v → IsAnswer r.identity ds v
    answer_here v h = record {
      readings = readings_of ds;
      read = stands.read;
      answers = answered r.identity ds store.fti keeps.1.at v received h;
    }

    -- an answer to what the store holds answers the datagrams
    pub store_taken : (v : value.Answer) → ((bytes : ℕ → List ℕ) (at : ℕ → ℕ → Option (List ℕ)) → Holds store bytes at → Answers store.fti at v) → IsAnswer r.identity ds v
    store_taken v h = answer_here v (h keeps.1.holds.0 keeps.1.at keeps.1.holds.2)

    pub all_within : AllByRecursion (IsWithin store.fti) (reception_of r.identity (readings_of ds)).symbols
    all_within = within clash (asked r.identity) (readings_of ds) store.fti received.clean

    pub none_short : IsValidFti store.fti → AllSolved store → LeaveNoneShort r.identity ds
    none_short valid all = record {
      readings = readings_of ds;
      read = stands.read;
      fti = store.fti;
      known = keeps.0;
      full = all_full store valid keeps.1.holds.0 keeps.1.at keeps.1.holds.2 (reception_of r.identity (readings_of ds)).symbols keeps.1.index all_within all;
    }

    module _ (valid : IsValidFti store.fti) (all : AllSolved store) (bytes : ℕ → List ℕ) (known : told store.fti ≡ Some bytes) where
      -- the object of the solved blocks is the answer
      pub object_taken : IsAnswer r.identity ds (Object (object_in store.fti bytes))
      object_taken = answer_here (Object (object_in store.fti bytes)) (object_in_answers store valid bytes keeps.1.at (holds_told bytes known) all)

      -- it has the FTI's length
      pub object_length : length (object_in store.fti bytes) ≡ store.fti.transfer_length
      object_length =
          let answers = object_in_answers store valid bytes keeps.1.at (holds_told bytes known) all (reception_of r.identity (readings_of ds)).symbols keeps.1.index all_within in
          answers.2.fits.form.count
