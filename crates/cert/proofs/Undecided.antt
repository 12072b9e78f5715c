-- A yes: every selection that leaves a block short leaves a twin, and of every one that isn't
-- enough the decoder says what lacks.
use Rattle.std.specs.Prelude.{◌≡◌, ◌≢◌, ◌<◌, ◌+◌, ◌⊎◌, ◌==◌, Bool, true, false, cond, ℕ, zero, suc, List, [], ◌∷◌, ◌++◌, length, Ok, Err, refl}
use Rattle.std.specs.List.{list_any, AllByRecursion}
use Rattle.std.proofs.Common.{sym, subst, arith, inl, inr}
use Rattle.std.proofs.lemmas.Bool.{eqb-true, eq-eqb, leb-false}
use Rattle.std.proofs.Math.Bool.{or-true}
use Rattle.lists.specs.Bytes.{AreBytes}
use Rattle.gf256.specs.Arithmetic.{point}
use Rattle.poly.specs.Polynomial.{value}
use Rattle.partition.specs.Fti.{Fti, IsValidFti, source_count, block_count}
use Rattle.lists.specs.Below.{below}
use Rattle.reception.specs.Symbols.{Symbol, is_of, has_arrived, arrived_esis, arrived_count, is_full, IsFirstShort, Agrees, Fits, AreTwins}
use Rattle.alc.specs.Reading.{Reading}
use Rattle.reception.specs.declared.scope.Identity.{Identity}
use Rattle.reception.specs.Reception.{ReadAll, is_of_identity, is_carrier, counted_from, counted, symbols, Suffices}
use Rattle.reception.specs.Answer.{Answer, Empty, Missing, IsAnswer}
use Rattle.certificate.specs.Certificate.{Certificate, IsCertificate}
use Rattle.cert.specs.Verdict.{IsCertificateOf}
use Rattle.lists.specs.Selection.{chosen}
use Rattle.reception.specs.Headline.{HasCarrier, TwinWhereShort, TellsWhatLacks, TellsElse}
use Rattle.partition.proofs.Laws.{counts}
use Rattle.alc.proofs.Packets.{packet_bytes}
use Rattle.poly.proofs.Lists.{all_weaker}
use Rattle.lists.proofs.Lists.{all_filter}
use Rattle.lists.proofs.Below.{all_below, one_missing, at_passing}
use Rattle.reception.proofs.OneAnswer.{same_readings}
use Rattle.reception.proofs.Full.{found}
use Rattle.reception.proofs.Carriers.{no_carrier}
use Rattle.cert.proofs.Promise.{read_chosen, sound_chosen, AreSound, nothing_wrong, clean, fits_sound, solvable, all_right}
use Rattle.cert.proofs.Twinning.{vanishing, twin_of, agrees, twin_form, differs, roots_held}

-- the first short block below n, or none
first_short : (f : Fti) (arrivals : List Symbol) (n : ℕ) → ((b : ℕ) × (b < n) × (is_full f arrivals b ≡ false) × ((a : ℕ) → a < b → is_full f arrivals a ≡ true)) ⊎ ((a : ℕ) → a < n → is_full f arrivals a ≡ true)
first_short f arrivals zero = inr (λ a l. absurd (omega arith))
first_short f arrivals (suc n) =
    elim (first_short f arrivals n) [
      | inl w ↦ inl (w.0, omega (arith, w.1), w.2, w.3)
      | inr h ↦
          (elim (is_full f arrivals n) as (λ v. is_full f arrivals n ≡ v → ((b : ℕ) × (b < suc n) × (is_full f arrivals b ≡ false) × ((a : ℕ) → a < b → is_full f arrivals a ≡ true)) ⊎ ((a : ℕ) → a < suc n → is_full f arrivals a ≡ true)) [
            | false ↦ λ e. inl (n, omega arith, e, h)
            | true ↦ λ e. inr (λ a l.
                (elim (a == n) as (λ v. (a == n) ≡ v → is_full f arrivals a ≡ true) [
                  | true ↦ λ g. subst (λ (x : ℕ). is_full f arrivals x ≡ true) (sym (eqb-true a n g)) e
                  | false ↦ λ g. h a (let ne : a ≡ n → ⊥ = λ x. (let y = eq-eqb a n x in absurd (cc)) in omega arith)
                ] refl))
          ] refl)
    ]

-- each that came is held
pub held_self : (arrivals : List Symbol) → AllByRecursion (λ s. has_arrived arrivals s.block s.esi ≡ true) arrivals
held_self [] = tt
held_self (s ∷ ss) = (
  (let a : (s.block == s.block) ≡ true = eq-eqb _ _ refl in
      let b : (s.esi == s.esi) ≡ true = eq-eqb _ _ refl in
      rw (a, b)),
  all_weaker (λ x. has_arrived ss x.block x.esi ≡ true) (λ x. has_arrived (s ∷ ss) x.block x.esi ≡ true) (λ x h. rw h (or-true (is_of x.block x.esi s))) ss (held_self ss),
)

bytes_came : (who : Identity) (i : ℕ) (ds : List (List ℕ)) (rs : List Reading) → ReadAll ds rs → AllByRecursion (λ s. AreBytes s.bytes × (s.esi < 256)) (symbols (counted_from who i rs))
bytes_came who i [] [] h = tt
bytes_came who i [] (r ∷ rs) h = absurd h
bytes_came who i (d ∷ ds) [] h = absurd h
bytes_came who i (d ∷ ds) (Err r ∷ rs) h = bytes_came who (i + 1) ds rs h.1
bytes_came who i (d ∷ ds) (Ok p ∷ rs) h =
    elim (is_of_identity who p) as (λ v. AllByRecursion (λ s. AreBytes s.bytes × (s.esi < 256)) (symbols (cond v (record { place = i; reading = Ok p } ∷ []) [] ++ counted_from who (i + 1) rs))) [
      | true ↦ (packet_bytes d p h.0, bytes_came who (i + 1) ds rs h.1)
      | false ↦ bytes_came who (i + 1) ds rs h.1
    ]

three : (arrivals all : List Symbol) → AllByRecursion (λ s. AreBytes s.bytes × (s.esi < 256)) arrivals → AllByRecursion (λ s. has_arrived all s.block s.esi ≡ true) arrivals
    → AllByRecursion (λ s. AreBytes s.bytes × (s.esi < 256) × (has_arrived all s.block s.esi ≡ true)) arrivals
three [] all h g = tt
three (s ∷ ss) all h g = ((h.0.0, h.0.1, g.0), three ss all h.1 g.1)

-- a twin, where block b is short
twin_at : (f : Fti) → IsValidFti f → (arrivals : List Symbol) (object : List ℕ) → Fits f arrivals object
    → AllByRecursion (λ s. AreBytes s.bytes × (s.esi < 256)) arrivals → (b : ℕ) → b < block_count f → is_full f arrivals b ≡ false
    → (other : List ℕ) × AreTwins f arrivals object other
twin_at f valid arrivals object fits bytes b hb short =
    let n = counts f valid b hb in
    let few : length (arrived_esis arrivals b) < source_count f b = leb-false _ _ short in
    let gap = one_missing (has_arrived arrivals b) (source_count f b) 256 (omega (arith, n.1)) few in
    let passing : AllByRecursion (λ j. (has_arrived arrivals b j ≡ true) × (j < 256)) (arrived_esis arrivals b) =
    all_filter (λ j. j < 256) (has_arrived arrivals b) (below 256) (all_below (λ j. j < 256) 256 (λ j h. h)) in
    let small : AllByRecursion (λ j. j < 255) (arrived_esis arrivals b) =
    all_weaker (λ j. (has_arrived arrivals b j ≡ true) × (j < 256)) (λ j. j < 255)
    (λ j h. let s = found (Agrees f object) b j arrivals h.0 fits.agrees in let e = s.1.esi in omega (arith, n.2)) _ passing in
    let apart : AllByRecursion (λ j. j ≢ gap.0) (arrived_esis arrivals b) =
    all_weaker (λ j. (has_arrived arrivals b j ≡ true) × (j < 256)) (λ j. j ≢ gap.0)
    (λ j h e. let x = subst (λ (y : ℕ). has_arrived arrivals b y ≡ true) e h.0 in let g = gap.2 in absurd (cc)) _ passing in
    let q = vanishing (source_count f b) gap.0 (arrived_esis arrivals b) few (omega (arith, gap.1, n.1)) small apart in
    let roots = roots_held f valid b q.0 arrivals arrivals
    (at_passing (λ j. value q.0 (point j) ≡ 0) (has_arrived arrivals b) 256 q.2) (three arrivals arrivals bytes (held_self arrivals)) in (
      twin_of f b q.0 object,
      record {
        differ = differs f valid object q.0 fits.form b hb q.1 gap.0 gap.1 q.3;
        first = fits;
        second = record {
          form = twin_form f valid object q.0 fits.form b hb q.1;
          agrees = agrees f valid object q.0 fits.form b hb q.1 arrivals roots fits.agrees;
        };
      },
    )

module _ (who : Identity) (session : List (List ℕ)) (rs : List Reading) (object : List ℕ) (z : Certificate) (read : ReadAll session rs) (good : IsCertificate z)
    (granted : IsCertificateOf who rs object z) where
  sound_at : (q : List ℕ) → AreSound z (counted who (chosen rs q))
  sound_at q = sound_chosen who rs z granted.certified q

  read_at : (q : List ℕ) → ReadAll (chosen session q) (chosen rs q)
  read_at q = read_chosen session rs read q

  -- at yes, every selection that leaves a block short leaves a twin
  pub undecided : TwinWhereShort who z.fti session object
  undecided = λ q rs_q read_by short_by.
      let same : rs_q ≡ chosen rs q = same_readings _ _ _ read_by (read_at q) in
      let short : ¬ Suffices who z.fti (chosen rs q) = subst (λ (x : List Reading). ¬ Suffices who z.fti x) same short_by in
      let fits : Fits z.fti (symbols (counted who (chosen rs q))) object = record {
        form = granted.form;
        agrees = fits_sound z object good granted.gives (counted who (chosen rs q)) (sound_at q);
      } in
      elim (first_short z.fti (symbols (counted who (chosen rs q))) (block_count z.fti)) [
        | inr all ↦ absurd (short all)
        | inl w ↦
            subst (λ (x : List Reading). (other : List ℕ) × AreTwins z.fti (symbols (counted who x)) object other) (sym same)
            (twin_at z.fti good.fti (symbols (counted who (chosen rs q))) object fits (bytes_came who 0 _ _ (read_at q)) w.0 w.1 w.2)
      ]

  -- what a decoder says that lacks
  abbrev Lacking : List (List ℕ) → List Reading → Type 0
  Lacking ds xs = (a : Answer) × IsAnswer who ds a × TellsWhatLacks who a xs

  -- where no carrier came, the decoder says just that
  without_carrier : (q : List ℕ) → list_any (is_carrier who) (chosen rs q) ≡ false → Lacking (chosen session q) (chosen rs q)
  without_carrier q none = (
    Empty,
    record {
      readings = chosen rs q;
      read = read_at q;
      answers = (nothing_wrong who z (chosen rs q) (sound_at q), no_carrier who (chosen rs q) none);
    },
    λ h. (let is : list_any (is_carrier who) (chosen rs q) ≡ true = h in cc),
  )

  -- where one came, which block is short
  with_carrier : (q : List ℕ) → list_any (is_carrier who) (chosen rs q) ≡ true → (b : ℕ) → IsFirstShort z.fti (symbols (counted who (chosen rs q))) b
      → Lacking (chosen session q) (chosen rs q)
  with_carrier q carrier b first =
      let arrivals = symbols (counted who (chosen rs q)) in (
        Missing b (arrived_count arrivals b) (source_count z.fti b),
        record {
          readings = chosen rs q;
          read = read_at q;
          answers = (
            z.fti,
            clean who z (chosen rs q) (sound_at q) carrier,
            solvable z object good granted.form granted.gives arrivals (all_right z (counted who (chosen rs q)) (sound_at q)),
            first,
            refl,
            refl,
          );
        },
        carrier,
      )

  -- at yes, of every selection that isn't enough the decoder says what lacks
  pub tells : TellsElse who z.fti session
  tells = λ q rs_q read_by lacking.
      let same : rs_q ≡ chosen rs q = same_readings _ _ _ read_by (read_at q) in
      subst (λ (x : List Reading). Lacking (chosen session q) x) (sym same)
      (by q (subst (λ (x : List Reading). ¬ (Suffices who z.fti x × HasCarrier who x)) same lacking) (list_any (is_carrier who) (chosen rs q)) refl)
    where
      by : (q : List ℕ) → ¬ (Suffices who z.fti (chosen rs q) × HasCarrier who (chosen rs q)) → (v : Bool) → list_any (is_carrier who) (chosen rs q) ≡ v
          → Lacking (chosen session q) (chosen rs q)
      by q lacking false none = without_carrier q none
      by q lacking true carrier =
          elim (first_short z.fti (symbols (counted who (chosen rs q))) (block_count z.fti)) [
            | inl w ↦ with_carrier q carrier w.0 (record { in_range = w.1; short = w.2; least = w.3 })
            | inr all ↦ absurd (lacking (all, carrier))
          ]
