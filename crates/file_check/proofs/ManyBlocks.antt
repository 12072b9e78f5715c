-- Blocks that are compared one after the other.
use Rattle.std.proofs.Common.{ℕ, ◌+◌, ◌<◌, List, [], ◌∷◌, Option, None, length, sym, inl, inr, arith, below_more}
use Rattle.losses.specs.Losses.{IsBefore}
use Rattle.partition.specs.Fti.{block_count, source_count}
use Rattle.certificate.specs.Certificate.{Certificate}
use Rattle.cert.specs.NotGiven.{IsFirstInBlock}
use Rattle.cert.specs.Tallying.{Tallied}
use Rattle.cert.specs.Verdict.{GivesAt, IsFirstNotGiven}
use Rattle.file_check.specs.Blocks.{AreSaid, limit_of}
use Rattle.file_check.specs.Compared.{AreCompared, IsCompared}
use Rattle.file_check.specs.declared.blocks.Wrong.{Wrong}

module _ (z : Certificate) (o : List ℕ) (t : Tallied) (ds : List (List ℕ)) where
  pub none_yet : AreCompared z o t ds 0 None
  none_yet = record {
    gives = λ b l. absurd (omega (arith, l));
    said = λ b l. absurd (omega (arith, l));
    is = tt;
  }

  module _ (n : ℕ) (before : Option Wrong) (so_far : AreCompared z o t ds n before) where
    -- one more
    pub one_compared : (wrong : Option Wrong) → IsCompared z o t ds n before wrong → AreCompared z o t ds (n + 1) wrong
    one_compared wrong here =
        let less = here.earlier so_far.is in
        record {
          gives = below_more _ n so_far.gives here.gives;
          said = below_more (λ b. AreSaid z t ds b (limit_of wrong (length ds))) n (λ b l k inside low. so_far.said b l k inside (omega (arith, low, less))) here.said;
          is = here.is so_far.is;
        }

    -- the first source point that isn't given in a block is the first of all, where those before give the object
    pub first_of_all : (c i : ℕ) → n < block_count z.fti → IsFirstInBlock o z n c i → IsFirstNotGiven o z n c i
    first_of_all c i inside h = record {
      block = inside;
      column = h.column;
      symbol = h.first.symbol;
      wrong = h.first.wrong;
      before = λ x y m low ly lm. by x y m low ly lm;
    }
      where
        by : (x y m : ℕ) → IsBefore (x ∷ y ∷ m ∷ []) (n ∷ c ∷ i ∷ []) → y < z.fti.symbol_length → m < source_count z.fti x → GivesAt o z x y m
        by x y m (inl l) ly lm = so_far.gives x l y m ly lm
        by x y m (inr (e, inl l)) ly lm = rw e (h.columns_before y m l (rw (sym e) lm))
        by x y m (inr (e, inr (f, inl l))) ly lm = rw (e, f) (h.first.symbols_before m l)
        by x y m (inr (e, inr (f, inr (k, none)))) ly lm = absurd none
