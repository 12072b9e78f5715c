use Rattle.std.proofs.Common.{◌<◌, ℕ, List, None, length, refl, sym, ap, subst, arith}
use Rattle.std.proofs.lemmas.Bool.{lt-leb}
use Rattle.partition.specs.Fti.{block_count, source_count}
use Rattle.partition.proofs.Laws.{some_block, some_source}
use Rattle.block_code.specs.Codes.{EachBlockHas}
use Rattle.block_code.specs.CodesOf.{IsCodeOf}
use Rattle.block_recovery.proofs.Kept.{count_none}
use Rattle.receiver.specs.Esis.{esis_of}
use Rattle.receiver.specs.Stored.{IsOf, IsStored}
use Rattle.receiver.proofs.Among.{of_none, stored_none}
use Rattle.receiver.proofs.store.Store.new.Goals as goal

pub n-requires : goal.n-requires
n-requires c = some_block c.args.fti c.is_valid.ensures

pub returns-clause-sound : goal.returns-clause-sound
returns-clause-sound c =
    let f = c.args.fti in
    let few : (b : ℕ) → length (esis_of c.new-2.result b) < source_count f b = λ b. omega (arith, some_source f c.is_valid.ensures b, ap length (c.new-2.ensures b)) in
    record {
      parts = record {
        codes = subst (EachBlockHas (IsCodeOf f) f) (sym c.new-3.ensures.codes) c.in_ok-codes.ensures;
        recovery = rw c.new-3.ensures.recovery tt;
        each = λ b. subst (λ (l : List ℕ). IsOf f b l) (sym (c.new-2.ensures b)) (of_none f b);
      };
      solved = sym (count_none _ (block_count f) (λ b. lt-leb (source_count f b) (length (esis_of c.new-2.result b)) (few b)));
    }

pub returns-clause-holds : goal.returns-clause-holds
returns-clause-holds c = λ bytes. record {
  within = record {
    block = λ b j y some. absurd (cc);
    esi = λ b j y some. absurd (cc);
    count = λ b j y some. absurd (cc);
  };
  blocks = λ b. subst (λ (l : List ℕ). IsStored c.args.fti b (bytes b) l (λ j. None)) (sym (c.new-2.ensures b))
      (stored_none c.args.fti b (bytes b) (λ j. None) (some_source c.args.fti c.is_valid.ensures b) (λ j. refl));
}
