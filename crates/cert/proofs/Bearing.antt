-- What a yes promises of losses, by what it promises of selections and by its report.
use Rattle.std.proofs.Common.{◌≡◌, ◌∙◌, ℕ, zero, suc, ◌+◌, ◌-◌, ◌<◌, ◌≤◌, ◌⊎◌, inl, inr, Bool, true, false, ◌&&◌, ◌||◌, cond, List, [], ◌∷◌, ◌++◌, length, Option, Some, None, Ok, Err, refl, sym, ap, subst, arith, leb-true}
use Rattle.std.specs.Prelude.{◌==◌, if◌then◌else◌, not, nat_le, nat_lt, slice_get, filter}
use Rattle.std.specs.List.{list_any}
use Rattle.std.specs.Option.{option_to_list}
use Rattle.std.proofs.lemmas.Bool.{le-leb, lt-leb, le-ltb, leb-false, ltb-false, eqb-true, eq-eqb}
use Rattle.std.proofs.lemmas.List.Folds.{list_any-append}
use Rattle.lists.specs.Below.{below}
use Rattle.lists.specs.Selection.{chosen, is_among, is_run, rest_from, rest, lost_from}
use Rattle.losses.specs.Losses.{is_enough, IsHarmless}
use Rattle.losses.specs.Runs.{Lacks}
use Rattle.losses.proofs.Runs.{filter_fewer}
use Rattle.losses.proofs.Carried.{lacks_of_kill}
use Rattle.partition.specs.Fti.{Fti, source_count}
use Rattle.alc.specs.Reading.{Reading}
use Rattle.reception.specs.declared.scope.Identity.{Identity}
use Rattle.reception.specs.Symbols.{has_arrived}
use Rattle.reception.specs.Reception.{ReadAll, is_of_identity, is_carrier, counted_from, counted, symbols, Suffices}
use Rattle.reception.specs.Answer.{Answer, Empty, Fault, NotCode, Missing, Object, IsOnlyAnswer}
use Rattle.reception.specs.Headline.{HasCarrier, DecodesWhereEnough, TellsWhatLacks, TellsElse}
use Rattle.reception.proofs.OneAnswer.{one_answer}
use Rattle.cert.specs.Bearing.{AreLeft, IsLack, BearsLosses}
use Rattle.cert.specs.Report.{blocks_of, IsReport}
use Rattle.cert.specs.declared.verdict.Report.{Report}
use Rattle.cert.proofs.Promise.{read_chosen}

-- ---- what passes of a selection, and of what a loss leaves

or_true : (a b : Bool) → b ≡ true → (a || b) ≡ true
or_true true b h = refl
or_true false b h = h

-- a place that a test allows has a member that passes
record Passes {X : Type 0} (p : X → Bool) (xs : List X) (IsKept : ℕ → Type 0) : Type 0 where
  pub place : ℕ
  pub member : X
  pub is : slice_get xs place ≡ Some member
  pub kept : IsKept place
  pub passes : p member ≡ true

module _ {X : Type 0} (p : X → Bool) where
  within : (xs : List X) (k : ℕ) (x : X) → slice_get xs k ≡ Some x → k < length xs
  within [] k x h = absurd (cc)
  within (y ∷ ys) zero x h = omega arith
  within (y ∷ ys) (suc k) x h = let l = within ys k x h in omega (arith, l)

  from_chosen : (xs : List X) (places : List ℕ) → list_any p (chosen xs places) ≡ true → Passes p xs (λ k. is_among places k ≡ true)
  from_chosen xs [] h = absurd (cc)
  from_chosen xs (q ∷ qs) h =
      let later : list_any p (chosen xs qs) ≡ true → Passes p xs (λ k. is_among (q ∷ qs) k ≡ true) = λ g.
      (let w = from_chosen xs qs g in record { place = w.place; member = w.member; is = w.is; kept = or_true (q == w.place) (is_among qs w.place) w.kept; passes = w.passes }) in
      elim (slice_get xs q) as (λ o. slice_get xs q ≡ o → list_any p (option_to_list o ++ chosen xs qs) ≡ true → Passes p xs (λ k. is_among (q ∷ qs) k ≡ true)) [
        | None ↦ λ e g. later g
        | Some x ↦ λ e g.
            elim (p x) as (λ v. p x ≡ v → (v || list_any p (chosen xs qs)) ≡ true → Passes p xs (λ k. is_among (q ∷ qs) k ≡ true)) [
              | true ↦ λ t c. record { place = q; member = x; is = e; kept = rw (eq-eqb q q refl) refl; passes = t }
              | false ↦ λ t c. later c
            ] refl g
      ] refl h

  to_chosen : (xs : List X) (k : ℕ) (x : X) → slice_get xs k ≡ Some x → p x ≡ true → (places : List ℕ) → is_among places k ≡ true → list_any p (chosen xs places) ≡ true
  to_chosen xs k x is passes [] h = absurd (cc)
  to_chosen xs k x is passes (q ∷ qs) h =
      list_any-append p (option_to_list (slice_get xs q)) (chosen xs qs)
      ∙ elim (q == k) as (λ v. (q == k) ≡ v → (v || is_among qs k) ≡ true → (list_any p (option_to_list (slice_get xs q)) || list_any p (chosen xs qs)) ≡ true) [
        | true ↦ λ e g.
            (let same : slice_get xs q ≡ Some x = ap (λ (i : ℕ). slice_get xs i) (eqb-true q k e) ∙ is in
            rw (same, passes) refl)
        | false ↦ λ e g. or_true (list_any p (option_to_list (slice_get xs q))) (list_any p (chosen xs qs)) (to_chosen xs k x is passes qs g)
      ] refl h

  from_rest : (lost : ℕ → Bool) (i : ℕ) (xs : List X) → list_any p (rest_from i lost xs) ≡ true → Passes p xs (λ k. lost (i + k) ≡ false)
  from_rest lost i [] h = absurd (cc)
  from_rest lost i (x ∷ xs) h =
      let later : list_any p (rest_from (i + 1) lost xs) ≡ true → Passes p (x ∷ xs) (λ k. lost (i + k) ≡ false) = λ g.
      (let w = from_rest lost (i + 1) xs g in
      let e : i + 1 + w.place ≡ i + suc w.place = omega arith in
      record { place = suc w.place; member = w.member; is = w.is; kept = subst (λ (k : ℕ). lost k ≡ false) e w.kept; passes = w.passes }) in
      elim (lost i) as (λ v. lost i ≡ v → list_any p (if v then rest_from (i + 1) lost xs else x ∷ rest_from (i + 1) lost xs) ≡ true → Passes p (x ∷ xs) (λ k. lost (i + k) ≡ false)) [
        | true ↦ λ e g. later g
        | false ↦ λ e g.
            elim (p x) as (λ v. p x ≡ v → (v || list_any p (rest_from (i + 1) lost xs)) ≡ true → Passes p (x ∷ xs) (λ k. lost (i + k) ≡ false)) [
              | true ↦ λ t c.
                  (let z : i ≡ i + 0 = omega arith in
                  record { place = 0; member = x; is = refl; kept = subst (λ (k : ℕ). lost k ≡ false) z e; passes = t })
              | false ↦ λ t c. later c
            ] refl g
      ] refl h

  to_rest : (lost : ℕ → Bool) (i : ℕ) (xs : List X) (k : ℕ) (x : X) → slice_get xs k ≡ Some x → lost (i + k) ≡ false → p x ≡ true → list_any p (rest_from i lost xs) ≡ true
  to_rest lost i [] k x is kept passes = absurd (cc)
  to_rest lost i (y ∷ ys) zero x is kept passes =
      let z : i + 0 ≡ i = omega arith in
      let here : lost i ≡ false = subst (λ (k : ℕ). lost k ≡ false) z kept in
      let same : y ≡ x = (cc) in
      rw (here, same, passes) refl
  to_rest lost i (y ∷ ys) (suc k) x is kept passes =
      let e : i + suc k ≡ i + 1 + k = omega arith in
      let later = to_rest lost (i + 1) ys k x is (subst (λ (j : ℕ). lost j ≡ false) e kept) passes in
      elim (lost i) as (λ v. list_any p (if v then rest_from (i + 1) lost ys else y ∷ rest_from (i + 1) lost ys) ≡ true) [
        | true ↦ later
        | false ↦ or_true (p y) (list_any p (rest_from (i + 1) lost ys)) later
      ]

  -- a selection of at least what is left
  more_chosen : (lost : ℕ → Bool) (xs : List X) (places : List ℕ) → ((i : ℕ) → i < length xs → lost i ≡ false → is_among places i ≡ true)
      → list_any p (rest lost xs) ≡ true → list_any p (chosen xs places) ≡ true
  more_chosen lost xs places left h =
      let w = from_rest lost 0 xs h in
      let z : 0 + w.place ≡ w.place = omega arith in
      to_chosen xs w.place w.member w.is w.passes places (left w.place (within xs w.place w.member w.is) (subst (λ (k : ℕ). lost k ≡ false) z w.kept))

  -- and of at most that
  less_chosen : (lost : ℕ → Bool) (xs : List X) (places : List ℕ) → ((i : ℕ) → i < length xs → lost i ≡ true → is_among places i ≡ false)
      → list_any p (chosen xs places) ≡ true → list_any p (rest lost xs) ≡ true
  less_chosen lost xs places gone h =
      let w = from_chosen xs places h in
      let l = within xs w.place w.member w.is in
      let kept : lost w.place ≡ false = elim (lost w.place) as (λ v. lost w.place ≡ v → v ≡ false) [
        | false ↦ λ e. refl
        | true ↦ λ e. (let g = gone w.place l e in let k = w.kept in absurd (cc))
      ] refl in
      let z : w.place ≡ 0 + w.place = omega arith in
      to_rest lost 0 xs w.place w.member w.is (subst (λ (k : ℕ). lost k ≡ false) z kept) w.passes

-- ---- symbols

-- whether a reading is a packet of the identity with this symbol
holds : Identity → ℕ → ℕ → Reading → Bool
holds who b j (Ok p) = is_of_identity who p && (p.block == b && p.esi == j)
holds who b j (Err e) = false

arrived : (who : Identity) (b j k : ℕ) (rs : List Reading) → has_arrived (symbols (counted_from who k rs)) b j ≡ list_any (holds who b j) rs
unfolding holds
arrived who b j k [] = refl
arrived who b j k (Err e ∷ rs) = arrived who b j (k + 1) rs
arrived who b j k (Ok p ∷ rs) =
    let later = arrived who b j (k + 1) rs in
    elim (is_of_identity who p) as (λ v. has_arrived (symbols (cond v (record { place = k; reading = Ok p } ∷ []) [] ++ counted_from who (k + 1) rs)) b j
    ≡ (v && (p.block == b && p.esi == j) || list_any (holds who b j) rs)) [
      | false ↦ later
      | true ↦ ap (λ (w : Bool). p.block == b && p.esi == j || w) later
    ]

-- what has each symbol of a block that another list has is enough where that is
enough_more : (who : Identity) (f : Fti) (xs ys : List Reading) (b : ℕ) → ((j : ℕ) → list_any (holds who b j) xs ≡ true → list_any (holds who b j) ys ≡ true)
    → is_enough (blocks_of who f) xs b ≡ true → is_enough (blocks_of who f) ys b ≡ true
enough_more who f xs ys b h enough =
    let few = filter_fewer (has_arrived (symbols (counted who xs)) b) (has_arrived (symbols (counted who ys)) b) (below 256)
    (λ j e. arrived who b j 0 ys ∙ h j (sym (arrived who b j 0 xs) ∙ e)) in
    let l = leb-true (source_count f b) (length (filter (has_arrived (symbols (counted who xs)) b) (below 256))) enough in
    le-leb (source_count f b) (length (filter (has_arrived (symbols (counted who ys)) b) (below 256))) (omega (arith, few, l))

-- ---- runs

run_false : (a m i : ℕ) → is_run a m i ≡ false → (i < a) ⊎ (a + m ≤ i)
run_false a m i h =
    elim (nat_le a i) as (λ v. nat_le a i ≡ v → (v && nat_lt i (a + m)) ≡ false → (i < a) ⊎ (a + m ≤ i)) [
      | false ↦ λ e g. inl (leb-false a i e)
      | true ↦ λ e g. inr (ltb-false i (a + m) g)
    ] refl h

run_out : (a m i : ℕ) → (i < a) ⊎ (a + m ≤ i) → is_run a m i ≡ false
run_out a m i (inl l) = rw (lt-leb a i l) refl
run_out a m i (inr l) =
    let e : nat_lt i (a + m) ≡ false = le-ltb i (a + m) l in
    elim (nat_le a i) as (λ v. (v && nat_lt i (a + m)) ≡ false) [ true ↦ e | false ↦ refl ]

-- ---- losses

lack_of : (who : Identity) (answer : Answer) (rs : List Reading) → TellsWhatLacks who answer rs → IsLack answer
lack_of who Empty rs h = tt
lack_of who (Missing b have need) rs h = tt
lack_of who (Fault i r) rs h = absurd h
lack_of who (NotCode b) rs h = absurd h
lack_of who (Object o) rs h = absurd h

read_count : (ds : List (List ℕ)) (rs : List Reading) → ReadAll ds rs → length ds ≡ length rs
read_count [] [] h = refl
read_count [] (r ∷ rs) h = absurd h
read_count (d ∷ ds) [] h = absurd h
read_count (d ∷ ds) (r ∷ rs) h = let e = read_count ds rs h.1 in omega (arith, e)

module _ (who : Identity) (f : Fti) (session : List (List ℕ)) (object : List ℕ) (rs : List Reading) (read : ReadAll session rs) where
  -- a selection of at least what a harmless loss leaves
  decodes_after : DecodesWhereEnough who f session object → (lost : ℕ → Bool) → IsHarmless (blocks_of who f) rs lost
      → (places : List ℕ) → ((i : ℕ) → i < length rs → lost i ≡ false → is_among places i ≡ true)
      → (answer : Answer) × IsOnlyAnswer who (chosen session places) answer × (answer ≡ Object object)
  decodes_after decodes lost harmless places left =
      let more : (p : Reading → Bool) → list_any p (rest lost rs) ≡ true → list_any p (chosen rs places) ≡ true = λ p. more_chosen p lost rs places left in
      let full : Suffices who f (chosen rs places) = λ b l. enough_more who f (rest lost rs) (chosen rs places) b (λ j. more (holds who b j)) (harmless.full b l) in
      (Object object, decodes places (chosen rs places) (read_chosen session rs read places) full (more (is_carrier who) harmless.carrier), refl)

  -- a selection of at most what a loss leaves that isn't enough
  lacks_after : TellsElse who f session → (lost : ℕ → Bool) (o : Option ℕ) → Lacks (blocks_of who f) (rest lost rs) o
      → (places : List ℕ) → ((i : ℕ) → i < length rs → lost i ≡ true → is_among places i ≡ false)
      → (answer : Answer) × IsOnlyAnswer who (chosen session places) answer × IsLack answer
  lacks_after tells lost o lacks places gone =
      let a = tells places (chosen rs places) (read_chosen session rs read places) (none o lacks) in
      (a.0, record { is = a.1; only = λ other h. one_answer who (chosen session places) other a.0 h a.1 }, lack_of who a.0 (chosen rs places) a.2)
    where
      less : (p : Reading → Bool) → list_any p (chosen rs places) ≡ true → list_any p (rest lost rs) ≡ true
      less p = less_chosen p lost rs places gone

      none : (o : Option ℕ) → Lacks (blocks_of who f) (rest lost rs) o → ¬ (Suffices who f (chosen rs places) × HasCarrier who (chosen rs places))
      none None h g = let e = less (is_carrier who) g.1 in absurd (cc)
      none (Some b) h g =
          let e = enough_more who f (chosen rs places) (rest lost rs) b (λ j. less (holds who b j)) (g.0 b h.0) in
          let k = h.1 in
          absurd (cc)

pub bears_losses : (who : Identity) (f : Fti) (session : List (List ℕ)) (object : List ℕ) (report : Report)
    → DecodesWhereEnough who f session object → TellsElse who f session → IsReport who session f report → BearsLosses who session object report
bears_losses who f session object report decodes tells is =
    let rs = is.readings in
    let long = read_count session is.readings is.read in
    let gone : (lost : ℕ → Bool) (places : List ℕ) → AreLeft session lost places → (i : ℕ) → i < length is.readings → lost i ≡ true → is_among places i ≡ false =
    (λ lost places left i l e. left i (omega (arith, l, long)) ∙ ap not e) in
    let after = decodes_after who f session object is.readings is.read decodes in
    let lacks = lacks_after who f session object is.readings is.read tells in
    record {
      margin = λ lost few places left.
          after lost (is.margin.bears lost (subst (λ (n : ℕ). lost_from 0 lost n ≤ report.margin) long few)) places (λ i l e. left i (omega (arith, l, long)) ∙ ap not e);
      burst = λ place count most places left.
          (let at : (start : ℕ) → start + report.burst ≤ length is.readings
          → ((i : ℕ) → i < length is.readings → (i < start) ⊎ (start + report.burst ≤ i) → (i < place) ⊎ (place + count ≤ i))
          → (answer : Answer) × IsOnlyAnswer who (chosen session places) answer × (answer ≡ Object object) = (λ start fits out.
          after (is_run start report.burst) (is.burst.bears start fits) places
          (λ i l e. left i (omega (arith, l, long)) ∙ ap not (run_out place count i (out i l (run_false start report.burst i e))))) in
          elim (nat_le (place + report.burst) (length is.readings)) as (λ v. nat_le (place + report.burst) (length is.readings) ≡ v
          → (answer : Answer) × IsOnlyAnswer who (chosen session places) answer × (answer ≡ Object object)) [
            | true ↦ λ e. at place (leb-true _ _ e) (λ i l w. elim w [ inl k ↦ inl k | inr k ↦ inr (omega (arith, k, most)) ])
            | false ↦ λ e.
                (let past = leb-false _ _ e in
                let b = is.burst.within in
                at (length is.readings - report.burst) (omega (arith, b)) (λ i l w. elim w [ inl k ↦ inl (omega (arith, k, past, b)) | inr k ↦ absurd (omega (arith, k, l, b)) ]))
          ] refl);
      kill = λ places left.
          lacks (is_among report.kill.items) report.kill_block (lacks_of_kill (blocks_of who f) is.readings (report.margin + 1) report.kill.items report.kill_block is.kill)
          places (gone (is_among report.kill.items) places left);
      one_more = λ places left.
          lacks (is_run report.burst_place (report.burst + 1)) report.burst_block is.first_burst.run.lacks places (gone (is_run report.burst_place (report.burst + 1)) places left);
    }
