-- What is told of a reading is the first that is wrong with it.
use Rattle.std.specs.Prelude.{◌≡◌, ◌≢◌, ◌==◌, not, Bool, true, false, if◌then◌else◌, ◌<◌, List, length, Option, Some, None, Ok, Err, refl}
use Rattle.std.proofs.Common.{◌∙◌, sym, ap, subst, arith, ltb-true, lt-ltb}
use Rattle.std.proofs.lemmas.Bool.{eqb-true, eq-eqb}
use Rattle.lists.proofs.Lists.{both}
use Rattle.partition.specs.Fti.{Fti}
use Rattle.alc.specs.Packet.{Packet}
use Rattle.reception.specs.declared.scope.Scope.{Scope}
use Rattle.reception.specs.Reception.{NoPacket, OtherFti, SymbolLength, Range}
use Rattle.reception.specs.Symbols.{Symbol}
use Rattle.reception.specs.Reception.{Judge, Wrong, Faulty, Judged, Other, is_of_identity, has_other_fti, symbol_of, look_by, wrong_by, reading_wrong}
use Rattle.reception.specs.Walks.{judged, in_range, or_packet}
use Rattle.reception.specs.Order.{IsInRange, CarriesOther, WrongHolds, rank, IsFirstHere, TellsInOrder}
use Rattle.reception.proofs.Within.{not_other, none_other}

-- the answer of a test
abbrev Decides : Type 0 → Bool → Type 0
Decides P true = P
Decides P false = ¬ P

decided : (P : Type 0) (t : Bool) → (t ≡ true → P) → (P → t ≡ true) → Decides P t
decided P true forth back = forth refl
decided P false forth back = λ p. let e : false ≡ true = back p in (cc)

module _ (f : Fti) (p : Packet) where
  other_of : (o : Option Fti) → has_other_fti f o ≡ true → (g : Fti) × (o ≡ Some g) × (g ≢ f)
  other_of None h = absurd (cc)
  other_of (Some g) h = (g, refl, λ same. (let e = none_other f (Some g) (λ x is. (let y : g ≡ x = cc in sym y ∙ same)) in absurd (cc)))

  is_other : not (has_other_fti f p.fti) ≡ false → CarriesOther f p
  is_other h = by (has_other_fti f p.fti) refl h
    where
      by : (v : Bool) → has_other_fti f p.fti ≡ v → not v ≡ false → CarriesOther f p
      by true e k = other_of p.fti e
      by false e k = absurd (cc)

  fti : Decides (¬ CarriesOther f p) (not (has_other_fti f p.fti))
  fti = by (has_other_fti f p.fti) refl
    where
      by : (v : Bool) → has_other_fti f p.fti ≡ v → Decides (¬ CarriesOther f p) (not v)
      by false e = λ c. c.2 (not_other f p.fti e c.0 c.1)
      by true e = λ none. none (other_of p.fti e)

  size : Decides (length p.bytes ≡ f.symbol_length) (length p.bytes == f.symbol_length)
  size = decided (length p.bytes ≡ f.symbol_length) (length p.bytes == f.symbol_length) (λ h. eqb-true _ _ h) (λ h. eq-eqb _ _ h)

  range : Decides (IsInRange f p) (in_range p f)
  range =
      decided (IsInRange f p) (in_range p f)
      (λ h. let w = both _ _ h in (ltb-true _ _ w.0, ltb-true _ _ w.1))
      (λ h. let a = lt-ltb _ _ h.0 in let b = lt-ltb _ _ h.1 in rw (a, b) refl)

some_same : {R : Type 0} {x y : Wrong R} → Some x ≡ Some y → x ≡ y
some_same e = cc

module _ {R : Type 0} (judge : Judge R) (f : Fti) (earlier : List Symbol) where
  -- no packet
  of_none : (e : _) (w : Wrong R) → IsFirstHere judge f earlier (Err e) w → Some (Faulty (NoPacket e)) ≡ Some w
  of_none e (Faulty (NoPacket r)) h = ap (λ x. Some (Faulty (NoPacket x))) h.holds
  of_none e (Faulty OtherFti) h = absurd h.holds
  of_none e (Faulty SymbolLength) h = absurd h.holds
  of_none e (Faulty Range) h = absurd h.holds
  of_none e (Judged x) h = absurd h.holds

  none_first : (e : _) → IsFirstHere judge f earlier (Err e) (Faulty (NoPacket e))
  none_first e = record { holds = refl; first = none_before }
    where
      none_before : (v : Wrong R) → rank v < 1 → ¬ WrongHolds judge f earlier (Err e) v
      none_before (Faulty (NoPacket r)) l h = absurd (omega arith)
      none_before (Faulty OtherFti) l h = h
      none_before (Faulty SymbolLength) l h = h
      none_before (Faulty Range) l h = h
      none_before (Judged x) l h = h

  module _ (p : Packet) where
    -- what is told by the three tests and the judge
    abbrev told : Bool → Bool → Bool → Option R → Option (Wrong R)
    told false b c o = Some (Faulty OtherFti)
    told true false c o = Some (Faulty SymbolLength)
    told true true false o = Some (Faulty Range)
    told true true true o = judged o

    told_is : (a b c : Bool) → wrong_by judge earlier (or_packet p (if a then Some OtherFti else if not b then Some SymbolLength else if not c then Some Range else None)) ≡ told (not a) b c (judge earlier (symbol_of p))
    told_is true b c = refl
    told_is false false c = refl
    told_is false true false = refl
    told_is false true true = refl

    abbrev First : Wrong R → Type 0
    First w = IsFirstHere judge f earlier (Ok p) w

    before_two : (v : Wrong R) → rank v < 2 → ¬ WrongHolds judge f earlier (Ok p) v
    before_two (Faulty (NoPacket r)) l h = h
    before_two (Faulty OtherFti) l h = absurd (omega arith)
    before_two (Faulty SymbolLength) l h = absurd (omega arith)
    before_two (Faulty Range) l h = absurd (omega arith)
    before_two (Judged x) l h = absurd (omega arith)

    before_three : ¬ CarriesOther f p → (v : Wrong R) → rank v < 3 → ¬ WrongHolds judge f earlier (Ok p) v
    before_three two (Faulty (NoPacket r)) l h = h
    before_three two (Faulty OtherFti) l h = two h
    before_three two (Faulty SymbolLength) l h = absurd (omega arith)
    before_three two (Faulty Range) l h = absurd (omega arith)
    before_three two (Judged x) l h = absurd (omega arith)

    before_four : ¬ CarriesOther f p → length p.bytes ≡ f.symbol_length → (v : Wrong R) → rank v < 4 → ¬ WrongHolds judge f earlier (Ok p) v
    before_four two three (Faulty (NoPacket r)) l h = h
    before_four two three (Faulty OtherFti) l h = two h
    before_four two three (Faulty SymbolLength) l h = h three
    before_four two three (Faulty Range) l h = absurd (omega arith)
    before_four two three (Judged x) l h = absurd (omega arith)

    before_five : ¬ CarriesOther f p → length p.bytes ≡ f.symbol_length → IsInRange f p → (v : Wrong R) → rank v < 5 → ¬ WrongHolds judge f earlier (Ok p) v
    before_five two three four (Faulty (NoPacket r)) l h = h
    before_five two three four (Faulty OtherFti) l h = two h
    before_five two three four (Faulty SymbolLength) l h = h three
    before_five two three four (Faulty Range) l h = h four
    before_five two three four (Judged x) l h = absurd (omega arith)

    first_told : (a b c : Bool) (o : Option R) → Decides (¬ CarriesOther f p) a → (a ≡ false → CarriesOther f p) → Decides (length p.bytes ≡ f.symbol_length) b → Decides (IsInRange f p) c → judge earlier (symbol_of p) ≡ o
        → (w : Wrong R) → told a b c o ≡ Some w → First w
    first_told false b c o two other three four five w h = subst First (some_same h) (record { holds = other refl; first = before_two })
    first_told true false c o two other three four five w h = subst First (some_same h) (record { holds = three; first = before_three two })
    first_told true true false o two other three four five w h = subst First (some_same h) (record { holds = four; first = before_four two three })
    first_told true true true None two other three four five w h = absurd (cc)
    first_told true true true (Some x) two other three four five w h = subst First (some_same h) (record { holds = five; first = before_five two three four })

    told_first : (a b c : Bool) (o : Option R) → Decides (¬ CarriesOther f p) a → (a ≡ false → CarriesOther f p) → Decides (length p.bytes ≡ f.symbol_length) b → Decides (IsInRange f p) c → judge earlier (symbol_of p) ≡ o
        → (w : Wrong R) → First w → told a b c o ≡ Some w
    told_first a b c o two other three four five (Faulty (NoPacket r)) g = absurd g.holds
    told_first false b c o two other three four five (Faulty OtherFti) g = refl
    told_first false b c o two other three four five (Faulty SymbolLength) g = absurd (g.first (Faulty OtherFti) (omega arith) (other refl))
    told_first false b c o two other three four five (Faulty Range) g = absurd (g.first (Faulty OtherFti) (omega arith) (other refl))
    told_first false b c o two other three four five (Judged x) g = absurd (g.first (Faulty OtherFti) (omega arith) (other refl))
    told_first true b c o two other three four five (Faulty OtherFti) g = absurd (two g.holds)
    told_first true false c o two other three four five (Faulty SymbolLength) g = refl
    told_first true false c o two other three four five (Faulty Range) g = absurd (g.first (Faulty SymbolLength) (omega arith) three)
    told_first true false c o two other three four five (Judged x) g = absurd (g.first (Faulty SymbolLength) (omega arith) three)
    told_first true true c o two other three four five (Faulty SymbolLength) g = absurd (g.holds three)
    told_first true true false o two other three four five (Faulty Range) g = refl
    told_first true true false o two other three four five (Judged x) g = absurd (g.first (Faulty Range) (omega arith) four)
    told_first true true true o two other three four five (Faulty Range) g = absurd (g.holds four)
    told_first true true true o two other three four five (Judged x) g = ap judged (sym five ∙ g.holds)

    -- the packet where it counts and this FTI holds
    told_packet : (scope : Scope) → is_of_identity scope.identity p ≡ true → scope.fti ≡ Some f
        → reading_wrong judge scope earlier (Ok p) ≡ told (not (has_other_fti f p.fti)) (length p.bytes == f.symbol_length) (in_range p f) (judge earlier (symbol_of p))
    told_packet scope mine g =
        ap (λ (v : Bool). wrong_by judge earlier (if v then look_by scope.fti p else Ok Other)) mine
        ∙ ap (λ (o : Option Fti). wrong_by judge earlier (look_by o p)) g
        ∙ told_is (has_other_fti f p.fti) (length p.bytes == f.symbol_length) (in_range p f)

pub tells_in_order : {R : Type 0} (judge : Judge R) → TellsInOrder judge
tells_in_order judge scope f earlier (Err e) w mine hold = (λ h. subst (IsFirstHere judge f earlier (Err e)) (some_same h) (none_first judge f earlier e), of_none judge f earlier e w)
tells_in_order judge scope f earlier (Ok p) w mine hold =
    let is = told_packet judge f earlier p scope mine hold in
    let two = fti f p in
    let other = is_other f p in
    let three = size f p in
    let four = range f p in (
      λ h. first_told judge f earlier p _ _ _ _ two other three four refl w (sym is ∙ h),
      λ g. is ∙ told_first judge f earlier p _ _ _ _ two other three four refl w g,
    )
