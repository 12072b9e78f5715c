-- A receiver whose output the object is for, by where the bytes of blocks are.
use Rattle.std.specs.Prelude.{is_some, option_map}
use Rattle.std.proofs.Common.{◌≡◌, ℕ, true, List, [], Option, Some, None, refl, ap, sym, subst, ◌∙◌}
use Rattle.std.proofs.Math.Path.{fun_ext}
use Rattle.partition.specs.Fti.{Fti}
use Rattle.streams.specs.declared.io.Write.{Ghosts}
use Rattle.reception.specs.Symbols.{Symbol}
use Rattle.block_bytes.specs.Bytes.{AreTold}
use Rattle.receiver.specs.Filed.{Stands}
use Rattle.block_bytes.specs.Held.{held_in, held_of}
use Rattle.block_bytes.specs.InFile.{kept_at}
use Rattle.block_bytes.specs.Places.{told_in}
use Rattle.receiver.specs.Stands.{StandsWith, Keeps}
use Rattle.block_bytes.specs.declared.blocks.Beside.{Beside}
use Rattle.block_bytes.specs.declared.blocks.Blocks.{Blocks}
use Rattle.block_bytes.specs.declared.blocks.Blocks.TheVariants as at
use Rattle.block_bytes.specs.declared.file_blocks.FileBlocks.{FileBlocks}
use Rattle.receiver.specs.declared.file_receiver.FileReceiver.{FileReceiver}
use Rattle.block_bytes.specs.declared.held_blocks.HeldBlocks.{HeldBlocks}
use Rattle.receiver.specs.declared.store.Store.{Store}

-- what a receiver stands for is told
kept_told : (told : Fti → Option (ℕ → List ℕ)) → ((f g : Fti) → is_some (told f) ≡ is_some (told g)) → (o : Option Store) (g : Option Fti) (arrivals : List Symbol)
    → Keeps o told g arrivals → AreTold told
kept_told told all None None arrivals h = h.1
kept_told told all (Some s) (Some f) arrivals h = λ k. all k f ∙ ap is_some h.1.holds.1
kept_told told all None (Some f) arrivals h = absurd h
kept_told told all (Some s) None arrivals h = absurd h

some_told : (o : Option (List ℕ)) (x : ℕ → List ℕ) → AreTold (λ f. option_map (λ y. x) o) → is_some o ≡ true
some_told (Some y) x told = refl
some_told None x told = told record { transfer_length = 0; symbol_length = 0; block_length = 0; max_symbols = 0 }

-- beside an output whose bytes are told those in memory are
pub told_beside : (o : Option (List ℕ)) (x : ℕ → List ℕ) → is_some o ≡ true → ◌≡◌ {A = Fti → Option (ℕ → List ℕ)} (λ f. Some x) (λ f. option_map (λ y. x) o)
told_beside (Some y) x some = refl
told_beside None x some = absurd (cc)

module _ {W : Type 0} {w : Ghosts W} (r : FileReceiver W w) (ds : List (List ℕ)) (stands : Stands r ds) where
  pub by_none : r.blocks ≡ at.Waiting → (none : HeldBlocks) → ((f : Fti) → held_in none f ≡ Some (λ b. [])) → StandsWith r.receiving (held_in none) ds
  by_none is none empty =
      subst (λ (told : Fti → Option (ℕ → List ℕ)). StandsWith r.receiving told ds) (fun_ext (λ f. sym (empty f)))
      (subst (λ (b : Blocks W w). StandsWith r.receiving (told_in b) ds) is stands)

  module _ (beside : Beside W w) (is : r.blocks ≡ at.Beside beside) where
    here : StandsWith r.receiving (told_in (at.Beside beside)) ds
    here = subst (λ (b : Blocks W w). StandsWith r.receiving (told_in b) ds) is stands

    pub output_told : is_some (w.contents beside.output) ≡ true
    output_told = some_told (w.contents beside.output) (held_of beside.held) (kept_told (told_in (at.Beside beside)) (λ f g. refl) _ _ _ here.symbols)

    pub by_held : StandsWith r.receiving (held_in beside.held) ds
    by_held =
        subst (λ (told : Fti → Option (ℕ → List ℕ)). StandsWith r.receiving told ds) (sym (told_beside (w.contents beside.output) (held_of beside.held) output_told)) here

  pub by_file : (file : FileBlocks W w) → r.blocks ≡ at.File file → StandsWith r.receiving (kept_at (w.contents file.output)) ds
  by_file file is = subst (λ (b : Blocks W w). StandsWith r.receiving (told_in b) ds) is stands
