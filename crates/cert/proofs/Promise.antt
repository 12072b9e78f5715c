-- A yes: every selection that leaves no block short, and has a carrier, decodes to the object.
use Rattle.std.specs.Prelude.{◌≡◌, ◌<◌, ◌+◌, ◌==◌, not, true, false, ◌&&◌, ◌||◌, cond, if◌then◌else◌, ℕ, zero, suc, List, [], ◌∷◌, ◌++◌, length, slice_index, slice_get, Option, Some, None, Ok, Err, refl}
use Rattle.std.specs.List.{list_any, AllByRecursion}
use Rattle.std.specs.Option.{option_to_list}
use Rattle.std.proofs.Common.{◌∙◌, sym, ap, subst, arith, ltb-true}
use Rattle.std.proofs.lemmas.Bool.{eqb-true, eq-eqb}
use Rattle.std.proofs.lemmas.Grind.{same_number_lists}
use Rattle.std.proofs.Math.ListN.{get_or-eq_default}
use Rattle.gf256.specs.Arithmetic.{point}
use Rattle.poly.specs.Polynomial.{value}
use Rattle.partition.specs.Fti.{Fti, encoding_count, block_count}
use Rattle.reception.specs.Symbols.{Symbol, AllFull, Agrees, IsObject, FullSolvable}
use Rattle.alc.specs.Packet.{Packet}
use Rattle.alc.specs.Reading.{Reading}
use Rattle.reception.specs.declared.scope.Identity.{Identity}
use Rattle.reception.specs.declared.scope.Scope.{Scope}
use Rattle.std.specs.Option.{option_or}
use Rattle.reception.specs.Reception.{ReadAll, Placed, Wrong, Other, is_of_identity, is_carrier, counts, counted_from, counted, carried, symbol_of, symbols_in, symbols, packet_fault, look_by, wrong_by, reading_wrong, asked, scope_from, wrong_after, IsClean, Suffices}
use Rattle.reception.specs.Walks.{at_place, or_packet}
use Rattle.reception.specs.Answer.{Clash, Object, IsAnswer, clashes, clash, reception_of}
use Rattle.reception.proofs.Walk.{identity_stays}
use Rattle.reception.proofs.Stepping.{scope}
use Rattle.reception.proofs.Carriers.{carrier_known}
use Rattle.reception.proofs.Within.{no_fault}
use Rattle.certificate.specs.Certificate.{Certificate, IsCertificate, polynomial, certified_byte}
use Rattle.cert.specs.Verdict.{GivesObject, IsCertifiedPacket, IsCertifiedReading, AreCertified, IsCertificateOf}
use Rattle.lists.specs.Selection.{chosen}
use Rattle.reception.specs.Headline.{DecodesWhereEnough}
use Rattle.lists.proofs.Lists.{both, all_append}
use Rattle.certificate.proofs.Polynomials.{forms}
use Rattle.reception.proofs.OneAnswer.{same_readings, one_answer}
use Rattle.reception.proofs.Full.{fits_only}
use Rattle.std.specs.Str.{bytes_eq as same}

-- ---- selections

-- at each place there is a datagram and its reading, or neither
pub read_at : (ds : List (List ℕ)) (rs : List Reading) → ReadAll ds rs → (i : ℕ)
    → ReadAll (option_to_list (slice_get ds i)) (option_to_list (slice_get rs i))
read_at [] [] h i = tt
read_at [] (r ∷ rs) h i = absurd h
read_at (d ∷ ds) [] h i = absurd h
read_at (d ∷ ds) (r ∷ rs) h zero = (h.0, tt)
read_at (d ∷ ds) (r ∷ rs) h (suc i) = read_at ds rs h.1 i

pub read_append : (ds es : List (List ℕ)) (rs ss : List Reading) → ReadAll ds rs → ReadAll es ss → ReadAll (ds ++ es) (rs ++ ss)
read_append [] es [] ss h g = g
read_append [] es (r ∷ rs) ss h g = absurd h
read_append (d ∷ ds) es [] ss h g = absurd h
read_append (d ∷ ds) es (r ∷ rs) ss h g = (h.0, read_append ds es rs ss h.1 g)

-- a selection is read by the same selection of the readings
pub read_chosen : (ds : List (List ℕ)) (rs : List Reading) → ReadAll ds rs → (q : List ℕ) → ReadAll (chosen ds q) (chosen rs q)
read_chosen ds rs h [] = tt
read_chosen ds rs h (i ∷ q) = read_append _ _ _ _ (read_at ds rs h i) (read_chosen ds rs h q)

all_at : {A : Type 0} (P : A → Type 0) (xs : List A) → AllByRecursion P xs → (i : ℕ) → AllByRecursion P (option_to_list (slice_get xs i))
all_at P [] h i = tt
all_at P (x ∷ xs) h zero = (h.0, tt)
all_at P (x ∷ xs) h (suc i) = all_at P xs h.1 i

-- what holds of each member holds of each chosen one
pub all_chosen : {A : Type 0} (P : A → Type 0) (xs : List A) → AllByRecursion P xs → (q : List ℕ) → AllByRecursion P (chosen xs q)
all_chosen P xs h [] = tt
all_chosen P xs h (i ∷ q) = all_append P _ _ (all_at P xs h i) (all_chosen P xs h q)

-- ---- small facts

same_refl : (xs : List ℕ) → same xs xs ≡ true
same_refl [] = refl
same_refl (x ∷ xs) = let a : (x == x) ≡ true = eq-eqb x x refl in rw a (same_refl xs)

-- ---- certified packets

-- readings that count, each as certified
abbrev pub AreSound : Certificate → List Placed → Type 0
AreSound z xs = AllByRecursion (λ x. IsCertifiedReading z x.reading) xs

-- what holds of a reading where it counts
abbrev pub WhereCounted : Identity → (Reading → Type 0) → Reading → Type 0
WhereCounted who P r = counts who r ≡ true → P r

-- what holds of each reading that counts holds of each where it counts
pub unplaced_all : (who : Identity) (P : Reading → Type 0) (i : ℕ) (rs : List Reading) → AllByRecursion (λ x. P x.reading) (counted_from who i rs) → AllByRecursion (WhereCounted who P) rs
unplaced_all who P i [] h = tt
unplaced_all who P i (r ∷ rs) h =
    elim (counts who r) as (λ v. counts who r ≡ v → AllByRecursion (λ x. P x.reading) (cond v (record { place = i; reading = r } ∷ []) [] ++ counted_from who (i + 1) rs) → AllByRecursion (WhereCounted who P) (r ∷ rs)) [
      | true ↦ λ e g. (λ mine. g.0, unplaced_all who P (i + 1) rs g.1)
      | false ↦ λ e g. (λ mine. absurd (cc), unplaced_all who P (i + 1) rs g)
    ] refl h

-- and the other way
pub placed_all : (who : Identity) (P : Reading → Type 0) (i : ℕ) (rs : List Reading) → AllByRecursion (WhereCounted who P) rs → AllByRecursion (λ x. P x.reading) (counted_from who i rs)
placed_all who P i [] h = tt
placed_all who P i (r ∷ rs) h =
    elim (counts who r) as (λ v. counts who r ≡ v → AllByRecursion (λ x. P x.reading) (cond v (record { place = i; reading = r } ∷ []) [] ++ counted_from who (i + 1) rs)) [
      | true ↦ λ e. (h.0 e, placed_all who P (i + 1) rs h.1)
      | false ↦ λ e. placed_all who P (i + 1) rs h.1
    ] refl

-- a symbol as certified
pub record IsRight (z : Certificate) (s : Symbol) : Type 0 where
  pub count : length s.bytes ≡ z.fti.symbol_length
  pub symbol : (c : ℕ) → c < z.fti.symbol_length → slice_index s.bytes c ≡ certified_byte z s.block s.esi c

pub no_clash : (z : Certificate) (p : Packet) → IsCertifiedPacket z p → (earlier : List Symbol) → AllByRecursion (IsRight z) earlier → clashes earlier (symbol_of p) ≡ false
no_clash z p sound [] h = refl
no_clash z p sound (s ∷ ss) h =
    elim (s.block == p.block) as (λ v. (s.block == p.block) ≡ v → ((v && s.esi == p.esi) && not (same s.bytes p.bytes) || clashes ss (symbol_of p)) ≡ false) [
      | false ↦ λ e. no_clash z p sound ss h.1
      | true ↦ λ e.
          (elim (s.esi == p.esi) as (λ w. (s.esi == p.esi) ≡ w → (w && not (same s.bytes p.bytes) || clashes ss (symbol_of p)) ≡ false) [
            | false ↦ λ g. no_clash z p sound ss h.1
            | true ↦ λ g.
                (let eb = eqb-true s.block p.block e in
                let ej = eqb-true s.esi p.esi g in
                let one : s.bytes ≡ p.bytes = same_number_lists s.bytes p.bytes (h.0.count ∙ sym sound.size)
                (λ c hc.
                let lt : c < z.fti.symbol_length = omega (arith, h.0.count) in
                h.0.symbol c lt ∙ ap (λ (b : ℕ). certified_byte z b s.esi c) eb ∙ ap (λ (j : ℕ). certified_byte z p.block j c) ej ∙ sym (sound.symbol c lt)) in
                let granted : same s.bytes p.bytes ≡ true = rw one (same_refl p.bytes) in
                rw granted (no_clash z p sound ss h.1))
          ] refl)
    ] refl

-- an FTI that is this one, where it is known
abbrev pub IsOnly : Fti → Option Fti → Type 0
IsOnly f known = (g : Fti) → known ≡ Some g → g ≡ f

-- a sound packet has nothing wrong, where no other FTI is known
not_wrong : (z : Certificate) (who : Identity) (known : Option Fti) → IsOnly z.fti known → (p : Packet) → IsCertifiedPacket z p → (earlier : List Symbol) → AllByRecursion (IsRight z) earlier
    → reading_wrong clash (scope who known) earlier (Ok p) ≡ None
not_wrong z who known only p sound earlier g =
    elim (is_of_identity who p) as (λ v. wrong_by clash earlier (if v then look_by known p else Ok Other) ≡ None) [
      | true ↦ by known only
      | false ↦ refl
    ]
  where
    by : (o : Option Fti) → IsOnly z.fti o → wrong_by clash earlier (look_by o p) ≡ None
    by None h = refl
    by (Some f) h =
        let a : packet_fault z.fti p ≡ None = no_fault z.fti p (record { fti = sound.fti; size = sound.size; range = sound.range }) in
        let b : clashes earlier (symbol_of p) ≡ false = no_clash z p sound earlier g in
        ap (λ (x : Fti). wrong_by clash earlier (or_packet p (packet_fault x p))) (h f refl) ∙ rw (a, b) refl

none_wrong_after : (z : Certificate) (who : Identity) (known : Option Fti) → IsOnly z.fti known → (xs : List Placed) → AreSound z xs → (earlier : List Symbol) → AllByRecursion (IsRight z) earlier
    → wrong_after clash (scope who known) earlier xs ≡ None
none_wrong_after z who known only [] h earlier g = refl
none_wrong_after z who known only (x ∷ xs) h earlier g = by x.reading h.0 (λ more k. none_wrong_after z who known only xs h.1 (earlier ++ more) k)
  where
    by : (r : Reading) → IsCertifiedReading z r → ((more : List Symbol) → AllByRecursion (IsRight z) (earlier ++ more) → wrong_after clash (scope who known) (earlier ++ more) xs ≡ None)
        → option_or (at_place x.place (reading_wrong clash (scope who known) earlier r)) (wrong_after clash (scope who known) (earlier ++ symbols_in r) xs) ≡ None
    by (Err e) s later = absurd s
    by (Ok p) s later =
        ap (λ (o : Option (Wrong Clash)). option_or (at_place x.place o) (wrong_after clash (scope who known) (earlier ++ symbol_of p ∷ []) xs)) (not_wrong z who known only p s earlier g)
        ∙ later (symbol_of p ∷ []) (all_append (IsRight z) earlier (symbol_of p ∷ []) g (record { count = s.size; symbol = s.symbol }, tt))

-- sound packets carry no other FTI, so no other comes to be known
only_known : (z : Certificate) (who : Identity) (known : Option Fti) → IsOnly z.fti known → (xs : List Placed) → AreSound z xs → IsOnly z.fti (scope_from (scope who known) xs).fti
only_known z who known only [] h = only
only_known z who known only (x ∷ xs) h = only_known z who (option_or known (carried x.reading)) (by known only x.reading h.0) xs h.1
  where
    by : (o : Option Fti) → IsOnly z.fti o → (r : Reading) → IsCertifiedReading z r → IsOnly z.fti (option_or o (carried r))
    by (Some f) t r s = t
    by None t (Ok p) s = s.fti
    by None t (Err e) s = absurd s

none_only : (f : Fti) → IsOnly f None
none_only f g h = absurd (cc)

-- the FTI that a decoder comes to know from sound packets
fti_only : (who : Identity) (z : Certificate) (rs : List Reading) → AreSound z (counted who rs) → IsOnly z.fti (scope_from (asked who) (counted who rs)).fti
fti_only who z rs h = only_known z who None (none_only z.fti) (counted who rs) h

-- where the identity's packets are sound, nothing is wrong
pub nothing_wrong : (who : Identity) (z : Certificate) (rs : List Reading) → AreSound z (counted who rs) → (reception_of who rs).wrong ≡ None
nothing_wrong who z rs h =
    let xs = counted who rs in
    let is : scope_from (asked who) xs ≡ scope who (scope_from (asked who) xs).fti = ap (λ (i : Identity). scope i (scope_from (asked who) xs).fti) (identity_stays (asked who) xs) in
    ap (λ (s : Scope). wrong_after clash s [] (counted who rs)) is ∙ none_wrong_after z who (scope_from (asked who) xs).fti (fti_only who z rs h) xs h [] tt

-- and where one is a carrier, the certificate's FTI holds
pub clean : (who : Identity) (z : Certificate) (rs : List Reading) → AreSound z (counted who rs) → list_any (is_carrier who) rs ≡ true → IsClean (reception_of who rs) z.fti
clean who z rs h carrier =
    let known = carrier_known who rs carrier in
    record {
      clean = nothing_wrong who z rs h;
      some = known.1 ∙ ap (λ (f : Fti). Some f) (fti_only who z rs h known.0 known.1);
    }

-- a sound packet's symbol is one of the object's
pub agrees_of : (z : Certificate) (object : List ℕ) → IsCertificate z → GivesObject object z → (p : Packet) → IsCertifiedPacket z p → Agrees z.fti object (symbol_of p)
agrees_of z object good gives p sound =
    let w = both _ _ sound.range in
    let hb = ltb-true p.block (block_count z.fti) w.0 in
    record {
      block = hb;
      esi = ltb-true p.esi (encoding_count z.fti p.block) w.1;
      count = sound.size;
      columns = λ c hc. record {
        polynomial = polynomial z p.block c;
        form = forms z good p.block c;
        source = λ i hi. gives p.block c i hb hc hi;
        symbol = sym (sound.symbol c hc);
      };
    }

-- what holds of the symbol of each sound packet holds of each symbol
symbols_all : (z : Certificate) (P : Symbol → Type 0) → ((p : Packet) → IsCertifiedPacket z p → P (symbol_of p)) → (xs : List Placed) → AreSound z xs → AllByRecursion P (symbols xs)
symbols_all z P each [] h = tt
symbols_all z P each (x ∷ xs) h = by x.reading h.0 (symbols_all z P each xs h.1)
  where
    by : (r : Reading) → IsCertifiedReading z r → AllByRecursion P (symbols xs) → AllByRecursion P (symbols_in r ++ symbols xs)
    by (Err e) s later = absurd s
    by (Ok p) s later = (each p s, later)

pub fits_sound : (z : Certificate) (object : List ℕ) → IsCertificate z → GivesObject object z → (xs : List Placed) → AreSound z xs → AllByRecursion (Agrees z.fti object) (symbols xs)
fits_sound z object good gives xs h = symbols_all z (Agrees z.fti object) (λ p s. agrees_of z object good gives p s) xs h

pub all_right : (z : Certificate) (xs : List Placed) → AreSound z xs → AllByRecursion (IsRight z) (symbols xs)
all_right z xs h = symbols_all z (IsRight z) (λ p s. record { count = s.size; symbol = s.symbol }) xs h

through : (z : Certificate) (b c : ℕ) → c < z.fti.symbol_length → (arrivals : List Symbol) → AllByRecursion (IsRight z) arrivals
    → AllByRecursion (λ s. s.block ≡ b → value (polynomial z b c) (point s.esi) ≡ slice_index s.bytes c) arrivals
through z b c hc [] h = tt
through z b c hc (s ∷ ss) h =
    (λ e. ap (λ (x : ℕ). certified_byte z x s.esi c) (sym e) ∙ sym (h.0.symbol c hc), through z b c hc ss h.1)

-- what came is a code word's, and zero where there is padding
pub solvable : (z : Certificate) (object : List ℕ) → IsCertificate z → IsObject z.fti object → GivesObject object z
    → (arrivals : List Symbol) → AllByRecursion (IsRight z) arrivals → FullSolvable z.fti arrivals
solvable z object good form gives arrivals right b hb full c hc = record {
  polynomial = polynomial z b c;
  form = forms z good b c;
  symbols = through z b c hc arrivals right;
  padding = λ i hi past.
      gives b c i hb hc hi ∙ get_or-eq_default object 0 (omega (arith, form.count));
}

-- a selection of sound readings
pub sound_chosen : (who : Identity) (rs : List Reading) (z : Certificate) → AreCertified who rs z → (q : List ℕ) → AreSound z (counted who (chosen rs q))
sound_chosen who rs z certified q =
    placed_all who (IsCertifiedReading z) 0 (chosen rs q)
    (all_chosen (WhereCounted who (IsCertifiedReading z)) rs (unplaced_all who (IsCertifiedReading z) 0 rs certified.packets) q)

-- at yes, every selection that is enough decodes to the object
pub decodes : (who : Identity) (session : List (List ℕ)) (rs : List Reading) (object : List ℕ) (z : Certificate) → ReadAll session rs → IsCertificate z
    → IsCertificateOf who rs object z → DecodesWhereEnough who z.fti session object
decodes who session rs object z read good granted = λ q rs_q read_by full_by carrier_by.
    let xs = counted who (chosen rs q) in
    let sound = sound_chosen who rs z granted.certified q in
    let read_q = read_chosen session rs read q in
    let same : rs_q ≡ chosen rs q = same_readings _ _ _ read_by read_q in
    let full : AllFull z.fti (symbols (counted who (chosen rs q))) = subst (λ (x : List Reading). Suffices who z.fti x) same full_by in
    let carrier : list_any (is_carrier who) (chosen rs q) ≡ true = subst (λ (x : List Reading). list_any (is_carrier who) x ≡ true) same carrier_by in
    let answer : IsAnswer who (chosen session q) (Object object) = record {
      readings = chosen rs q;
      read = read_q;
      answers = (
        z.fti,
        clean who z (chosen rs q) sound carrier,
        solvable z object good granted.form granted.gives (symbols xs) (all_right z xs sound),
        full,
        fits_only z.fti (symbols xs) object good.fti full
            (record { form = granted.form; agrees = fits_sound z object good granted.gives xs sound }),
      );
    } in
    record { is = answer; only = λ other h. one_answer who (chosen session q) other (Object object) h answer }
