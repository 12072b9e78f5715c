-- Where nothing is wrong, each symbol is one that the FTI has.
use Rattle.std.specs.Prelude.{◌≡◌, ◌==◌, not, Bool, true, false, if◌then◌else◌, ℕ, List, [], ◌∷◌, ◌++◌, length, Option, Some, None, Ok, Err, refl}
use Rattle.std.specs.List.{AllByRecursion}
use Rattle.std.proofs.Common.{◌∙◌, sym, ap, subst, ltb-true}
use Rattle.std.proofs.lemmas.Bool.{eqb-true, eq-eqb}
use Rattle.lists.proofs.Lists.{both}
use Rattle.partition.specs.Fti.{Fti, fti_from}
use Rattle.alc.specs.Packet.{Packet}
use Rattle.alc.specs.Reading.{Reading}
use Rattle.reception.specs.declared.scope.Identity.{Identity}
use Rattle.reception.specs.declared.scope.Scope.{Scope}
use Rattle.reception.specs.Symbols.{Symbol}
use Rattle.reception.specs.Within.{IsWithin}
use Rattle.std.specs.Option.{option_or}
use Rattle.reception.specs.Reception.{PlaceFault, OtherFti, SymbolLength, Range, Judge, Wrong, Placed, Other, counts, counted, scope_from, symbols_in, symbols, same_fti, has_other_fti, packet_fault, wrong_by, reading_wrong, wrong_after, IsClean, reception_with}
use Rattle.reception.specs.Walks.{at_place, in_range, or_packet}
use Rattle.reception.proofs.Walk.{each_counts, identity_stays}
use Rattle.reception.proofs.Stepping.{scope}

pub fti_same : (f g : Fti) → same_fti f g ≡ true → f ≡ g
fti_same f g h =
    let a = both _ _ h in
    let b = both _ _ a.0 in
    let c = both _ _ b.0 in
    let e1 = eqb-true _ _ c.0 in
    let e2 = eqb-true _ _ c.1 in
    let e3 = eqb-true _ _ b.1 in
    let e4 = eqb-true _ _ a.1 in
    ap (λ (v : ℕ). fti_from v f.symbol_length f.block_length f.max_symbols) e1
    ∙ ap (λ (v : ℕ). fti_from g.transfer_length v f.block_length f.max_symbols) e2
    ∙ ap (λ (v : ℕ). fti_from g.transfer_length g.symbol_length v f.max_symbols) e3
    ∙ ap (λ (v : ℕ). fti_from g.transfer_length g.symbol_length g.block_length v) e4

pub same_fti_refl : (f : Fti) → same_fti f f ≡ true
same_fti_refl f =
    let a : (f.transfer_length == f.transfer_length) ≡ true = eq-eqb _ _ refl in
    let b : (f.symbol_length == f.symbol_length) ≡ true = eq-eqb _ _ refl in
    let c : (f.block_length == f.block_length) ≡ true = eq-eqb _ _ refl in
    let d : (f.max_symbols == f.max_symbols) ≡ true = eq-eqb _ _ refl in
    rw (a, b, c, d)

-- three tests that let through
passed : (a b c : Bool) (r s t : PlaceFault) → (if a then Some r else if not b then Some s else if not c then Some t else None) ≡ None → (a ≡ false) × (b ≡ true) × (c ≡ true)
passed false true true r s t h = (refl, refl, refl)
passed true b c r s t h = absurd (cc)
passed false false c r s t h = absurd (cc)
passed false true false r s t h = absurd (cc)

-- no other FTI is carried
pub not_other : (f : Fti) (o : Option Fti) → has_other_fti f o ≡ false → (g : Fti) → o ≡ Some g → g ≡ f
not_other f (Some x) h g e =
    let same : x ≡ f = fti_same x f (not_false (same_fti x f) h) in
    let is : x ≡ g = cc in
    sym is ∙ same
  where
    not_false : (v : Bool) → not v ≡ false → v ≡ true
    not_false true k = refl
    not_false false k = absurd (cc)
not_other f None h g e = absurd (cc)

pub none_other : (f : Fti) (o : Option Fti) → ((g : Fti) → o ≡ Some g → g ≡ f) → has_other_fti f o ≡ false
none_other f (Some x) h = let e : same_fti x f ≡ true = rw (h x refl) (same_fti_refl f) in ap not e
none_other f None h = refl

-- a packet without a fault
pub record IsFaultless (f : Fti) (p : Packet) : Type 0 where
  pub fti : (g : Fti) → p.fti ≡ Some g → g ≡ f
  pub size : length p.bytes ≡ f.symbol_length
  pub range : in_range p f ≡ true

pub faultless : (f : Fti) (p : Packet) → packet_fault f p ≡ None → IsFaultless f p
faultless f p h =
    let w = passed (has_other_fti f p.fti) (length p.bytes == f.symbol_length) (in_range p f) OtherFti SymbolLength Range h in
    record { fti = not_other f p.fti w.0; size = eqb-true _ _ w.1; range = w.2 }

pub no_fault : (f : Fti) (p : Packet) → IsFaultless f p → packet_fault f p ≡ None
no_fault f p h =
    let a : has_other_fti f p.fti ≡ false = none_other f p.fti h.fti in
    let b : (length p.bytes == f.symbol_length) ≡ true = eq-eqb _ _ h.size in
    let c : in_range p f ≡ true = h.range in
    rw (a, b, c) refl

pub neither : {X : Type 0} (a b : Option X) → option_or a b ≡ None → (a ≡ None) × (b ≡ None)
neither None b h = (refl, h)
neither (Some r) b h = absurd (cc)

pub nowhere : {R : Type 0} (i : ℕ) (o : Option (Wrong R)) → at_place i o ≡ None → o ≡ None
nowhere i None h = refl
nowhere i (Some r) h = absurd (cc)

-- a packet with nothing wrong has no fault
pub none_wrong : {R : Type 0} (judge : Judge R) (earlier : List Symbol) (p : Packet) (o : Option PlaceFault) → wrong_by judge earlier (or_packet p o) ≡ None → o ≡ None
none_wrong judge earlier p None h = refl
none_wrong judge earlier p (Some e) h = absurd (cc)

-- of a reading with nothing wrong, where this scope holds: it is a packet without a fault
abbrev pub IsSoundReading : (Packet → Type 0) → Reading → Type 0
IsSoundReading P (Ok p) = P p
IsSoundReading P (Err e) = ⊥

module _ {R : Type 0} (judge : Judge R) (who : Identity) (f : Fti) where
  here : (earlier : List Symbol) (r : Reading) → counts who r ≡ true → reading_wrong judge (scope who (Some f)) earlier r ≡ None → IsSoundReading (IsFaultless f) r
  here earlier (Err e) mine h = absurd (cc)
  here earlier (Ok p) mine h =
      faultless f p
      (none_wrong judge earlier p (packet_fault f p)
      (ap (λ (v : Bool). wrong_by judge earlier (if v then or_packet p (packet_fault f p) else Ok Other)) (sym mine) ∙ h))

  pub all_sound : (earlier : List Symbol) (xs : List Placed) → AllByRecursion (λ x. counts who x.reading ≡ true) xs → wrong_after judge (scope who (Some f)) earlier xs ≡ None
      → AllByRecursion (λ x. IsSoundReading (IsFaultless f) x.reading) xs
  all_sound earlier [] mine h = tt
  all_sound earlier (x ∷ xs) mine h =
      let w = neither (at_place x.place (reading_wrong judge (scope who (Some f)) earlier x.reading))
      (wrong_after judge (scope who (Some f)) (earlier ++ symbols_in x.reading) xs) h in
      (here earlier x.reading mine.0 (nowhere x.place _ w.0), all_sound (earlier ++ symbols_in x.reading) xs mine.1 w.1)

-- the symbols of sound packets are ones that the FTI has
within_all : (f : Fti) (xs : List Placed) → AllByRecursion (λ x. IsSoundReading (IsFaultless f) x.reading) xs → AllByRecursion (IsWithin f) (symbols xs)
within_all f [] h = tt
within_all f (x ∷ xs) h = by x.reading h.0 (within_all f xs h.1)
  where
    by : (r : Reading) → IsSoundReading (IsFaultless f) r → AllByRecursion (IsWithin f) (symbols xs) → AllByRecursion (IsWithin f) (symbols_in r ++ symbols xs)
    by (Err e) k later = absurd k
    by (Ok p) k later =
        let r = both _ _ k.range in
        (record { block = ltb-true _ _ r.0; esi = ltb-true _ _ r.1; count = k.size }, later)

-- where nothing is wrong, and the FTI is known
pub clean_sound : {R : Type 0} (judge : Judge R) (known : Scope) (rs : List Reading) (f : Fti) → IsClean (reception_with judge known rs) f
    → AllByRecursion (λ x. IsSoundReading (IsFaultless f) x.reading) (counted known.identity rs)
clean_sound judge known rs f h =
    let xs = counted known.identity rs in
    let same : scope_from known xs ≡ scope known.identity (Some f) =
    ap (λ (w : Identity). scope w (scope_from known xs).fti) (identity_stays known xs) ∙ ap (λ (o : Option Fti). scope known.identity o) h.some in
    all_sound judge known.identity f [] xs (each_counts known.identity 0 rs) (subst (λ (s : Scope). wrong_after judge s [] xs ≡ None) same h.clean)

pub within : {R : Type 0} (judge : Judge R) (known : Scope) (rs : List Reading) (f : Fti) → IsClean (reception_with judge known rs) f
    → AllByRecursion (IsWithin f) (symbols (counted known.identity rs))
within judge known rs f h = within_all f (counted known.identity rs) (clean_sound judge known rs f h)
