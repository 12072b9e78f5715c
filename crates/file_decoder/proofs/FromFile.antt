-- Blocks whose symbols are read from a file again, and what an index of it gives.
use Rattle.std.specs.Prelude.{is_some, IfSome, IsNone, Err}
use Rattle.std.specs.Option.{unwrap_or}
use Rattle.std.specs.Borrow.{Bor}
use Rattle.std.proofs.Common.{◌≡◌, ℕ, ◌<◌, ◌≤◌, Bool, List, [], ◌∷◌, Option, Some, None, length, refl, sym, ap, subst, ◌∙◌, inl, inr, arith}
use Rattle.std.proofs.lemmas.Bool.{cases_eq}
use Rattle.lists.specs.Below.{below}
use Rattle.lists.proofs.Lists.{filter_same}
use Rattle.lists.proofs.Below.{all_below}
use Rattle.partition.specs.Fti.{Fti, source_count, encoding_count}
use Rattle.session.specs.Frames.{IsFramed, AreDatagrams}
use Rattle.reception.specs.declared.scope.Identity.{Identity}
use Rattle.reception.specs.Answer.{IsAnswer}
use Rattle.decoder.specs.Answers.{answer_value}
use Rattle.file_decoder.specs.IndexedIn.{IsFileFault, IsIndexedIn}
use Rattle.file_decoder.specs.FileFaults.{fault_of}
use Rattle.session.specs.Extents.{AreFrames}
use Rattle.block_recovery.specs.Refusals.{IsRefusal}
use Rattle.decoder.specs.Sources.{IsUnreadOf}
use Rattle.decoder.specs.declared.answer.Answer.TheVariants as answer
use Rattle.block_recovery.specs.declared.fault.DecodeFault.{DecodeFault}
use Rattle.decoder.specs.declared.source.Unread.{Unread}
use Rattle.decoder.specs.declared.source.Unread.TheVariants as unread
use Rattle.reception.specs.Reception.{ReadAll}
use Rattle.reception.specs.Walks.{readings_of}
use Rattle.block_recovery.specs.Arrivals.{with_esi, with_arrived}
use Rattle.block_recovery.specs.Blocks.{bytes_of_esi, HaveLength}
use Rattle.block_recovery.specs.Decoded.{IsEnoughAt}
use Rattle.block_recovery.specs.Received.{came_at, list_of}
use Rattle.block_recovery.specs.declared.arrivals.Arrival.{Arrival}
use Rattle.block_recovery.specs.declared.symbols.Symbols.{Symbols}
use Rattle.decoder.proofs.Answering.{read_all}
use Rattle.block_recovery.proofs.BlockRows.{stands_within}
use Rattle.block_recovery.proofs.Kept.{with_here, with_other}

-- as many where the same pass
pub enough_same : (f : Fti) (b : ℕ) (at other : ℕ → Option (List ℕ)) → ((j : ℕ) → j < encoding_count f b → is_some (at j) ≡ is_some (other j)) → IsEnoughAt f b at → IsEnoughAt f b other
enough_same f b at other same enough =
    subst (λ (l : List ℕ). source_count f b ≤ length l)
    (filter_same (λ j. is_some (at j)) (λ j. is_some (other j)) (below (encoding_count f b))
    (all_below (λ j. is_some (at j) ≡ is_some (other j)) (encoding_count f b) same)) enough

-- which ESIs came doesn't depend on what is held
with_any : {S : Type 0} (h k : S → List ℕ) (xs : List (Arrival S)) (a b : ℕ → Option (List ℕ)) → ((j : ℕ) → is_some (a j) ≡ is_some (b j)) → (j : ℕ)
    → is_some (with_arrived h a xs j) ≡ is_some (with_arrived k b xs j)
with_any h k [] a b same j = same j
with_any h k (x ∷ xs) a b same j = with_any h k xs (with_esi a x.esi (h x.symbol)) (with_esi b x.esi (k x.symbol)) (λ i. elim (cases_eq x.esi i) [
  | inl e ↦ (ap is_some (with_here a x.esi i (h x.symbol) e) ∙ sym (ap is_some (with_here b x.esi i (k x.symbol) e)))
  | inr ne ↦ (ap is_some (with_other a x.esi i (h x.symbol) ne) ∙ same i ∙ sym (ap is_some (with_other b x.esi i (k x.symbol) ne)))
]) j

pub some_any : {S : Type 0} (h k : S → List ℕ) (s : Symbols S) (b j : ℕ) → is_some (came_at h s b j) ≡ is_some (came_at k s b j)
some_any h k s b j = with_any h k (list_of s b) (λ i. None) (λ i. None) (λ i. refl) j

module _ (f : Fti) (b : ℕ) (again : ℕ → Option (List ℕ)) (received : List (Option (Bor (List ℕ)))) (len : length received ≡ encoding_count f b)
    (same : (j : ℕ) → j < length received → bytes_of_esi received j ≡ again j) where
  -- the symbols that were read again have their length
  pub again_length : HaveLength f.symbol_length again → HaveLength f.symbol_length (bytes_of_esi received)
  again_length sizes j y some = let l = stands_within received j y some in sizes j y (sym (same j l) ∙ some)

  -- and are as many as came
  pub again_enough : (at : ℕ → Option (List ℕ)) → ((j : ℕ) → is_some (again j) ≡ is_some (at j)) → IsEnoughAt f b at → IsEnoughAt f b (bytes_of_esi received)
  again_enough at came enough =
      enough_same f b at (bytes_of_esi received) (λ j lj. sym (came j) ∙ ap is_some (sym (same j (omega (arith, lj, len))))) enough

-- where something is told, it's so of that
pub told_if : (content : Option (List ℕ)) (P : List ℕ → Type 0) → ((x : List ℕ) → content ≡ Some x → P x) → IfSome content P
told_if None P h = tt
told_if (Some x) P h = h x refl

pub if_told : (content : Option (List ℕ)) (P : List ℕ → Type 0) (x : List ℕ) → content ≡ Some x → IfSome content P → P x
if_told content P x told h = (rw told at h)

pub told_is : (content : Option (List ℕ)) (x : List ℕ) → content ≡ Some x → unwrap_or content [] ≡ x
told_is content x told = rw told refl

-- datagrams of bytes have their readings
pub readings : (ds : List (List ℕ)) → AreDatagrams ds → ReadAll ds (readings_of ds)
readings ds each = read_all ds (λ i l. (each i).bytes)

pub if_some : {V : Type 0} (P Q : V → Type 0) (o : Option V) → ((v : V) → P v → Q v) → IfSome o P → IfSome o Q
if_some P Q None f h = tt
if_some P Q (Some v) f h = f v h

-- the list of a block, or none where it has none
pub came_list : {S : Type 0} (list : List (Arrival S)) (o : Option (Bor (List (Arrival S)))) (d came : Bor (List (Arrival S))) → came ≡ unwrap_or o d → d.now ≡ [] → (IsNone o → list ≡ [])
    → IfSome o (λ v. v.now ≡ list) → came.now ≡ list
came_list {S} list None d came is empty none some = ap (λ (x : Bor (List (Arrival S))). x.now) is ∙ empty ∙ sym (none refl)
came_list {S} list (Some v) d came is empty none some = ap (λ (x : Bor (List (Arrival S))). x.now) is ∙ some

-- why a symbol isn't there again, as a fault of the file
pub file_fault_of : (content : Option (List ℕ)) (reliable : Bool) (Told : Type 0) (e : Unread) → IsUnreadOf Told reliable e → ((x : List ℕ) → content ≡ Some x → Told)
    → IsFileFault content reliable (fault_of e)
file_fault_of content reliable Told unread.Io h told = h
file_fault_of content reliable Told unread.Changed h told = told_if content (λ x. ⊥) (λ x is. h (told x is))
file_fault_of content reliable Told unread.NoMemory h told = tt

-- the answer to the datagrams of a file that has a fault at a place
pub fault_indexed : (who : Identity) (content : Option (List ℕ)) (e : DecodeFault) → AreFrames content
    → ((x : List ℕ) (ds : List (List ℕ)) → content ≡ Some x → IsFramed ds x → IsRefusal who ds e) → IsIndexedIn who content (Err (answer.Fault e))
fault_indexed who content e frames among = (
  tt,
  told_if content (λ x. (ds : List (List ℕ)) × IsFramed ds x × IsAnswer who ds (answer_value (answer.Fault e)))
      (λ x told.
      let w = if_told content (λ x. (ds : List (List ℕ)) × IsFramed ds x × AreDatagrams ds) x told frames in
      (w.0, w.1, record { readings = readings_of w.0; read = readings w.0 w.2; answers = among x w.0 told w.1 })),
)
