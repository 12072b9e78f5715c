-- A twin where a check finds a block short.
use Rattle.std.proofs.Common.{◌≡◌, ◌≢◌, ◌<◌, ◌≤◌, ◌++◌, ◌||◌, ◌&&◌, Bool, true, false, cond, ℕ, suc, List, [], ◌∷◌, None, length, refl, sym, ap, subst, ◌∙◌, arith, length-append}
use Rattle.std.specs.Prelude.{filter, ◌==◌}
use Rattle.std.specs.List.{AllByRecursion}
use Rattle.std.proofs.lemmas.Bool.{leb-false, eqb-true, eq-eqb}
use Rattle.std.proofs.lemmas.List.{append-nil}
use Rattle.std.proofs.lemmas.Grind.{flat_map-append}
use Rattle.std.proofs.lemmas.List.Elements.{filter-append}
use Rattle.session.specs.Frames.{AreDatagrams}
use Rattle.lists.specs.Selection.{is_among}
use Rattle.lists.specs.Below.{below}
use Rattle.lists.proofs.Lists.{filter_same}
use Rattle.lists.proofs.Below.{all_below}
use Rattle.partition.specs.Fti.{Fti, source_count}
use Rattle.alc.specs.Reading.{Reading}
use Rattle.reception.specs.declared.scope.Identity.{Identity}
use Rattle.reception.specs.Symbols.{Symbol, has_arrived, arrived_count, IsObject, IsFirstShort, Agrees, Fits, AreTwins}
use Rattle.certificate.specs.Certificate.{Certificate, IsCertificate}
use Rattle.reception.specs.Reception.{ReadAll, counted, symbols}
use Rattle.reception.specs.Walks.{readings_of}
use Rattle.cert.specs.declared.verdict.Verdict.TheVariants.{No}
use Rattle.cert.specs.declared.verdict.Reason.TheVariants.{Thin}
use Rattle.cert.specs.Verdict.{GivesObject, reception_to, first_reason, VerdictOn}
use Rattle.cert.specs.Twins.{different_esis, esis_of, IsTwin, IsShortIn, IsTwinOfSession}
use Rattle.cert.proofs.Judging.{read_all, are_certified, nothing_found}
use Rattle.reception.proofs.OneAnswer.{same_readings}
use Rattle.cert.proofs.Promise.{fits_sound}
use Rattle.cert.proofs.Undecided.{held_self}
use Rattle.cert.specs.TwinPieces.{esi_in}

-- the ESIs of a block that came are those among its ESIs
pub among_held : (b j : ℕ) (arrivals : List Symbol) → is_among (esis_of b arrivals) j ≡ has_arrived arrivals b j
among_held b j [] = refl
among_held b j (s ∷ ss) =
    elim (s.block == b) as (λ v. is_among (cond v (s.esi ∷ []) [] ++ esis_of b ss) j ≡ ((v && s.esi == j) || has_arrived ss b j)) [
      | true ↦ ap (λ (v : Bool). s.esi == j || v) (among_held b j ss)
      | false ↦ among_held b j ss
    ]

one_more : (t : ℕ → Bool) (n : ℕ) → length (filter t (below n)) ≤ length (filter t (below (suc n)))
unfolding below
one_more t n = omega (arith, ap length (filter-append t (below n) (n ∷ [])), length-append (filter t (below n)) (filter t (n ∷ [])))

-- there are no more of them than different ones that came
pub different_held : (b : ℕ) (arrivals : List Symbol) → length (different_esis (esis_of b arrivals)) ≤ arrived_count arrivals b
different_held b arrivals =
    let same : different_esis (esis_of b arrivals) ≡ filter (has_arrived arrivals b) (below 255) =
    filter_same _ _ (below 255) (all_below (λ j. is_among (esis_of b arrivals) j ≡ has_arrived arrivals b j) 255 (λ j l. among_held b j arrivals)) in
    let more : length (filter (has_arrived arrivals b) (below 255)) ≤ arrived_count arrivals b = one_more (has_arrived arrivals b) 255 in
    omega (arith, ap length same, more)

-- fewer than the block needs
pub few_held : (f : Fti) (b : ℕ) (arrivals : List Symbol) → IsFirstShort f arrivals b → length (different_esis (esis_of b arrivals)) < source_count f b
few_held f b arrivals short =
    let few : arrived_count arrivals b < source_count f b = leb-false _ _ short.short in
    let most = different_held b arrivals in
    omega (arith, few, most)

-- an object agrees with what came, where nothing is wrong with it
pub fits_clean : (who : Identity) (z : Certificate) (object : List ℕ) (rs : List Reading) → IsCertificate z → IsObject z.fti object → GivesObject object z
    → first_reason who z rs ≡ None → symbols (counted who rs) ≢ [] → Fits z.fti (symbols (counted who rs)) object
fits_clean who z object rs good form gives clean some =
    let all = are_certified who z rs (nothing_found (reception_to who z rs).wrong clean) some in
    record { form = form; agrees = fits_sound z object good gives (counted who rs) all.packets }

-- what came of a block has an ESI among those
among_self : (b : ℕ) (all arrivals : List Symbol) → AllByRecursion (λ s. has_arrived all s.block s.esi ≡ true) arrivals
    → AllByRecursion (λ s. s.block ≡ b → is_among (esis_of b all) s.esi ≡ true) arrivals
among_self b all [] h = tt
among_self b all (s ∷ ss) h = (
  λ e. among_held b s.esi all ∙ subst (λ (x : ℕ). has_arrived all x s.esi ≡ true) e h.0,
  among_self b all ss h.1,
)

alike_all : (f : Fti) (b : ℕ) (arrived_esis object other : List ℕ) → IsTwin f b arrived_esis object other → (arrivals : List Symbol)
    → AllByRecursion (λ s. s.block ≡ b → is_among arrived_esis s.esi ≡ true) arrivals → AllByRecursion (Agrees f object) arrivals → AllByRecursion (Agrees f other) arrivals
alike_all f b arrived_esis object other twin [] h a = tt
alike_all f b arrived_esis object other twin (s ∷ ss) h a = ((twin.alike s h.0).0 a.0, alike_all f b arrived_esis object other twin ss h.1 a.1)

-- the twin made for the ESIs that came agrees with all that came
pub twins_all : (f : Fti) (b : ℕ) (object other : List ℕ) (arrivals : List Symbol) → Fits f arrivals object → IsTwin f b (esis_of b arrivals) object other
    → AreTwins f arrivals object other
twins_all f b object other arrivals fits twin = record {
  differ = twin.differ;
  first = fits;
  second = record {
    form = twin.form;
    agrees = alike_all f b (esis_of b arrivals) object other twin arrivals (among_self b arrivals arrivals (held_self arrivals)) fits.agrees;
  };
}

-- the ESIs with one symbol more
pub esis_more : (b : ℕ) (before more : List Symbol) → esis_of b (before ++ more) ≡ esis_of b before ++ esis_of b more
esis_more b before more = flat_map-append (esi_in b) before more

module _ (b : ℕ) (old : List ℕ) (before now : List Symbol) (known : old ≡ esis_of b before) where
  -- a symbol of the block
  pub one_here : (s : Symbol) → now ≡ before ++ s ∷ [] → s.block ≡ b → old ++ s.esi ∷ [] ≡ esis_of b now
  one_here s is e =
      let same : (s.block == b) ≡ true = eq-eqb _ _ e in
      let one : esis_of b (s ∷ []) ≡ s.esi ∷ [] = rw same refl in
      ap (λ (xs : List ℕ). xs ++ s.esi ∷ []) known
      ∙ sym (ap (esis_of b) is ∙ esis_more b before (s ∷ []) ∙ ap (λ (xs : List ℕ). esis_of b before ++ xs) one)

  -- a symbol of another block
  pub none_here : (s : Symbol) → now ≡ before ++ s ∷ [] → s.block ≢ b → old ≡ esis_of b now
  none_here s is ne =
      let none : esis_of b (s ∷ []) ≡ [] =
      elim (s.block == b) as (λ v. (s.block == b) ≡ v → cond v (s.esi ∷ []) [] ++ [] ≡ []) [
        | true ↦ λ e. absurd (ne (eqb-true _ _ e))
        | false ↦ λ e. refl
      ] refl in
      known
      ∙ sym (ap (esis_of b) is ∙ esis_more b before (s ∷ []) ∙ ap (λ (xs : List ℕ). esis_of b before ++ xs) none ∙ append-nil (esis_of b before))

  -- no symbol
  pub passed_here : now ≡ before → old ≡ esis_of b now
  passed_here is = known ∙ ap (esis_of b) (sym is)

-- ---- what a verdict of a short block says

abbrev pub Shortness : Identity → List (List ℕ) → List ℕ → Certificate → ℕ → Type 0
Shortness who ds object z b =
    IsObject z.fti object × GivesObject object z × (first_reason who z (readings_of ds) ≡ None) × (symbols (counted who (readings_of ds)) ≢ [])
    × IsFirstShort z.fti (symbols (counted who (readings_of ds))) b

pub shortness : (who : Identity) (ds : List (List ℕ)) (object : List ℕ) (z : Certificate) (b : ℕ) → AreDatagrams ds → IsShortIn who ds object z b → Shortness who ds object z b
shortness who ds object z b small h =
    let same : h.2.readings ≡ readings_of ds = same_readings ds h.2.readings (readings_of ds) h.2.read (read_all ds small) in
    let v = subst (λ (rs : List Reading). VerdictOn who rs object z (No (Thin b h.0 h.1))) same h.2.judged in
    (v.1, v.2, v.3.0, v.3.1, v.3.2)

pub few_arrived : (who : Identity) (ds : List (List ℕ)) (object : List ℕ) (z : Certificate) (b : ℕ) → AreDatagrams ds → IsShortIn who ds object z b
    → length (different_esis (esis_of b (symbols (counted who (readings_of ds))))) < source_count z.fti b
few_arrived who ds object z b small h = few_held z.fti b (symbols (counted who (readings_of ds))) (shortness who ds object z b small h).4

pub twin_of_session : (who : Identity) (ds : List (List ℕ)) (object other : List ℕ) (z : Certificate) (b : ℕ) → IsCertificate z → AreDatagrams ds → IsShortIn who ds object z b
    → IsTwin z.fti b (esis_of b (symbols (counted who (readings_of ds)))) object other → IsTwinOfSession who z.fti b ds object other
twin_of_session who ds object other z b good small h twin =
    let t = shortness who ds object z b small h in
    let read : ReadAll ds (readings_of ds) = read_all ds small in
    let fits = fits_clean who z object (readings_of ds) good t.0 t.1 t.2 t.3 in
    record {
      readings = readings_of ds;
      read = read;
      made = twin;
      twins = twins_all z.fti b object other (symbols (counted who (readings_of ds))) fits twin;
    }
