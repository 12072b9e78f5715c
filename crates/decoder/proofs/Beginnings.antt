-- What was put together of the blocks before one is a beginning of the object, if all that came is
-- of one.
use Rattle.std.specs.Prelude.{Result, Ok, Err, OnErr}
use Rattle.std.proofs.Common.{◌≡◌, ℕ, ◌+◌, ◌-◌, ◌*◌, ◌<◌, ◌≤◌, List, [], ◌++◌, Option, Some, None, length, drop, get_or, length-append, arith, ap, ◌∙◌, sym, subst, inl, inr, suc}
use Rattle.std.proofs.lemmas.Bool.{cases_lt}
use Rattle.std.proofs.Math.Nat.{mul-le-mul_right}
use Rattle.std.proofs.Math.Seq.{take-length, get_or-append_right}
use Rattle.std.proofs.lemmas.List.{append-nil, get_or_append_left, get_or_past, get_or-drop, length-drop}
use Rattle.std.specs.Io.KnownBytes.{Appends}
use Rattle.session.specs.Frames.{AppendsSome}
use Rattle.session.proofs.Writes.{front_some}
use Rattle.lists.proofs.Lists.{all_both, all_to}
use Rattle.partition.specs.Fti.{Fti, IsValidFti, block_count, source_count, start_of, source_place, source_byte}
use Rattle.partition.proofs.Laws.{counts, in_object, start_step, rising_to}
use Rattle.reception.specs.Symbols.{Symbol, Agrees, Fits}
use Rattle.block_recovery.specs.Received.{IsIndex}
use Rattle.decoder.specs.Written.{BeginsObject}
use Rattle.decoder.proofs.ObjectSoFar.{SoFar}
use Rattle.decoder.proofs.Solving.{all_stand}

pub appends_nothing : (o : Option (List ℕ)) → Appends o o []
appends_nothing None = tt
appends_nothing (Some xs) = sym (append-nil xs)

pub on_err : {A E : Type 0} (P : Type 0) (r : Result A E) → P → OnErr r P
on_err P (Ok a) h = tt
on_err P (Err e) h = h

module _ (f : Fti) (valid : IsValidFti f) (at : ℕ → ℕ → Option (List ℕ)) (b : ℕ) (front : List ℕ) (so_far : SoFar f at b front) (most : b ≤ block_count f) where
  few : length front ≤ f.transfer_length
  few = elim (cases_lt b (block_count f)) [
    | inl hb ↦ (let first = in_object f valid b 0 hb (omega (arith, counts f valid b hb)) in omega (arith, so_far.count hb, first))
    | inr past ↦ (let end : b ≡ block_count f = omega (arith, past, most) in omega (arith, so_far.whole end))
  ]

  module _ (arrivals : List Symbol) (index : IsIndex arrivals at) (object : List ℕ) (fits : Fits f arrivals object) where
    -- it with the object's bytes behind it
    at_front : (p : ℕ) → p < length front → get_or (front ++ drop (length front) object) p 0 ≡ get_or front p 0
    at_front p lt = get_or_append_left front (drop (length front) object) 0 p lt

    behind : (p : ℕ) → length front ≤ p → get_or (front ++ drop (length front) object) p 0 ≡ get_or object p 0
    behind p past =
        let back : length front + (p - length front) ≡ p = omega (arith, past) in
        get_or-append_right front (drop (length front) object) p 0 past ∙ get_or-drop (length front) object (p - length front) 0
        ∙ ap (λ (n : ℕ). get_or object n 0) back

    bytes : (p : ℕ) → get_or (front ++ drop (length front) object) p 0 < 256
    bytes p = elim (cases_lt p (length front)) [
      | inl lt ↦ (let e = at_front p lt in omega (arith, e, so_far.bytes p))
      | inr past ↦ (let e = behind p past in omega (arith, e, fits.form.bytes p))
    ]

    count : length (front ++ drop (length front) object) ≡ f.transfer_length
    count = omega (arith, length-append front (drop (length front) object), length-drop (length front) object, few, fits.form.count)

    -- the blocks before have the symbols that were put together
    earlier : (a i c : ℕ) → a < b → i < source_count f a → c < f.symbol_length
        → source_byte f (front ++ drop (length front) object) a i c ≡ source_byte f front a i c
    earlier a i c la li lc = elim (cases_lt (source_place f a i c) (length front)) [
      | inl lt ↦ at_front (source_place f a i c) lt
      | inr past ↦ elim (cases_lt b (block_count f)) [
        | inl hb ↦
            (let ends : start_of f (suc a) ≤ start_of f b = rising_to f valid (suc a) b (omega (arith, la)) in
            let low : start_of f a + i + 1 ≤ start_of f b = omega (arith, ends, start_step f valid a, li) in
            let sized : (start_of f a + i + 1) * f.symbol_length ≤ start_of f b * f.symbol_length = mul-le-mul_right f.symbol_length low in
            absurd (omega (arith, sized, so_far.count hb, lc, past)))
        | inr no_more ↦
            (let whole : length front ≡ f.transfer_length = so_far.whole (omega (arith, no_more, most)) in
            behind (source_place f a i c) past ∙ get_or_past object (source_place f a i c) 0 (omega (arith, past, whole, fits.form.count))
            ∙ sym (get_or_past front (source_place f a i c) 0 past))
      ]
    ]

    -- the others have the object's
    later : (a i c : ℕ) → b ≤ a → a < block_count f → source_byte f (front ++ drop (length front) object) a i c ≡ source_byte f object a i c
    later a i c la ha =
        let sized : start_of f b * f.symbol_length ≤ start_of f a * f.symbol_length = mul-le-mul_right f.symbol_length (rising_to f valid b a la) in
        behind (source_place f a i c) (omega (arith, sized, so_far.count (omega (arith, la, ha))))

    agrees_at : (s : Symbol) → Agrees f object s × (at s.block s.esi ≡ Some s.bytes) → Agrees f (front ++ drop (length front) object) s
    agrees_at s w = record {
      block = w.0.block;
      esi = w.0.esi;
      count = w.0.count;
      columns = λ c hc. elim (cases_lt s.block b) [
        | inl lt ↦
            (let p = so_far.columns s.block c lt hc in
            record { polynomial = p.polynomial; form = p.form; source = λ i hi. p.source i hi ∙ sym (earlier s.block i c lt hi hc); symbol = p.symbols s.esi s.bytes w.1 })
        | inr past ↦
            (let p = w.0.columns c hc in
            record { polynomial = p.polynomial; form = p.form; source = λ i hi. p.source i hi ∙ sym (later s.block i c (omega (arith, past)) w.0.block); symbol = p.symbol })
      ];
    }

    fits_too : Fits f arrivals (front ++ drop (length front) object)
    fits_too = record {
      form = record { count = count; bytes = bytes };
      agrees = all_to (λ s. Agrees f object s × (at s.block s.esi ≡ Some s.bytes)) (Agrees f (front ++ drop (length front) object)) agrees_at arrivals
          (all_both (Agrees f object) (λ s. at s.block s.esi ≡ Some s.bytes) arrivals fits.agrees (all_stand arrivals at index));
    }

  -- what was written of it is a beginning of the object
  pub begins : (before after : Option (List ℕ)) → AppendsSome before after front → BeginsObject f at before after
  begins before after some arrivals object index only =
      subst (λ (l : List ℕ). AppendsSome before after l) (only.only (front ++ drop (length front) object) (fits_too arrivals index object only.fits))
      (front_some before after front (drop (length front) object) some)

  pub begins_whole : (before after : Option (List ℕ)) → Appends before after front → BeginsObject f at before after
  begins_whole before after all = begins before after (length front, subst (λ (l : List ℕ). Appends before after l) (sym (take-length front)) all)
