-- The answer to datagrams, from what was received.
use Rattle.std.specs.Prelude.{◌==◌, None, is_some}
use Rattle.std.specs.Borrow.{Bor}
use Rattle.std.proofs.lemmas.List.{length-map}
use Rattle.std.proofs.Math.Logic.{∥∥₁_elim}
use Rattle.std.proofs.Props.{props}
use Rattle.std.proofs.Common.{◌≡◌, ℕ, suc, ◌<◌, true, List, [], ◌∷◌, Option, Some, map, length, get_or, arith, subst, refl}
use Rattle.lists.specs.Bytes.{AreBytes}
use Rattle.partition.specs.Fti.{Fti}
use Rattle.alc.specs.Computed.{read_of}
use Rattle.alc.proofs.Again.{reads}
use Rattle.reception.specs.declared.scope.Identity.{Identity}
use Rattle.reception.specs.Symbols.{is_of}
use Rattle.reception.specs.Within.{IsWithin}
use Rattle.reception.specs.Reception.{ReadAll, Reception, IsClean, asked, counted, symbols}
use Rattle.reception.specs.Walks.{readings_of}
use Rattle.reception.specs.Answer as value
use Rattle.reception.specs.Answer.{Clash, AnswerTo, clash, reception_of}
use Rattle.std.proofs.lemmas.Bool.{and_from, eq-eqb}
use Rattle.lists.proofs.Lists.{all_both}
use Rattle.reception.proofs.Within.{within}
use Rattle.reception.proofs.Full.{found}
use Rattle.block_recovery.specs.Decoded.{AreWithin}
use Rattle.decoder.specs.Answered.{AnswerBy, Answers, Stand}
use Rattle.block_recovery.specs.Received.{AreReceived}
use Rattle.block_recovery.specs.Decoded.{AreInRange}

some_is : {V : Type 0} (o : Option V) → is_some o ≡ true → (v : V) × (o ≡ Some v)
some_is None some = absurd (cc)
some_is (Some v) some = (v, refl)

-- symbols that the FTI has are of its blocks and at their ESIs
pub in_range : (f : Fti) (at : ℕ → ℕ → Option (List ℕ)) → AreWithin f at → AreInRange f at
in_range f at within = record {
  block = λ b j some. let w = some_is (at b j) some in within.block b j w.0 w.1;
  esi = λ b j some. let w = some_is (at b j) some in within.esi b j w.0 w.1;
}

-- an answer to symbols is one to what came, where no datagram has a fault
pub answers_came : (reception : Reception Clash) (f : Fti) (v : value.Answer) → IsClean reception f → AnswerBy f reception.symbols v → AnswerTo reception v
answers_came reception f value.Empty clean h = absurd h
answers_came reception f (value.Fault i r) clean h = absurd h
answers_came reception f (value.NotCode b) clean h = (f, clean, h)
answers_came reception f (value.Missing b have need) clean h = (f, clean, h.0, h.1, h.2, h.3)
answers_came reception f (value.Object object) clean h = (f, clean, h.0, h.1, h.2)

-- what is so of each datagram
pub bytes_of : (xs : List (Bor (List ℕ))) (P : ℕ → Type 0) → ((i : ℕ) → i < length xs → P i) → (i : ℕ) → i < length (map (λ (d : Bor (List ℕ)). d.now) xs) → P i
bytes_of xs P h i l = h i (omega (arith, l, length-map xs (λ (d : Bor (List ℕ)). d.now)))

-- each datagram of bytes has its reading
pub read_all : (ds : List (List ℕ)) → ((i : ℕ) → i < length ds → AreBytes (get_or ds i [])) → ReadAll ds (readings_of ds)
read_all [] h = tt
read_all (d ∷ ds) h = (reads d (h 0 (omega arith)) (read_of d) refl, read_all ds (λ i l. h (suc i) (omega (arith, l))))

module _ (f : Fti) (at : ℕ → ℕ → Option (List ℕ)) (s : Stand f at) where
  stands : (b j : ℕ) (y : List ℕ) → at b j ≡ Some y → IsWithin f (record { block = b; esi = j; bytes = y })
  stands b j y some =
      let c = s.index.some b j y some in
      let w = found (λ s. IsWithin f s × (is_of b j s ≡ true → s.bytes ≡ y)) b j s.arrivals c.is_there (all_both (IsWithin f) (λ s. is_of b j s ≡ true → s.bytes ≡ y) s.arrivals s.within c.same) in
      subst (λ (bytes : List ℕ). IsWithin f (record { block = b; esi = j; bytes = bytes })) (w.1.1 (and_from (b == b) (j == j) (eq-eqb b b refl) (eq-eqb j j refl))) w.1.0

  pub are_within : AreWithin f at
  are_within = record {
    block = λ b j y some. (stands b j y some).block;
    esi = λ b j y some. (stands b j y some).esi;
    count = λ b j y some. (stands b j y some).count;
  }

-- and where it is only known that some symbols stand so
pub within_of : (f : Fti) (at : ℕ → ℕ → Option (List ℕ)) → ∥ Stand f at ∥₁ → AreWithin f at
within_of f at stand = ∥∥₁_elim stand (hlevel props) (are_within f at)

-- what is received stands
pub stand_of : (who : Identity) (ds : List (List ℕ)) (f : Fti) (at : ℕ → ℕ → Option (List ℕ)) → AreReceived who ds f at → Stand f at
stand_of who ds f at r = record {
  arrivals = symbols (counted who (readings_of ds));
  index = r.index;
  within = within clash (asked who) (readings_of ds) f r.clean;
}

-- an answer to all symbols that stand so answers the datagrams
pub answered : (who : Identity) (ds : List (List ℕ)) (f : Fti) (at : ℕ → ℕ → Option (List ℕ)) (v : value.Answer) → AreReceived who ds f at → Answers f at v
    → AnswerTo (reception_of who (readings_of ds)) v
answered who ds f at v r h =
    answers_came (reception_of who (readings_of ds)) f v r.clean
    (h (symbols (counted who (readings_of ds))) r.index (within clash (asked who) (readings_of ds) f r.clean))
