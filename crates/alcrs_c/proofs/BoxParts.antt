-- A box taken apart, as memory holds it: as it holds a box.
use Rattle.std.proofs.Common.{◌≡◌, ℕ, List, [], ◌∷◌}
use seplogic.Ra.Ura.{Ura}
use base.Fraction.{full_share}
use mir.Val.{Val}
use mir.Raw.{raw as bare}
use types.Logic.{Logic}
use types.Kit.{Item, Goal, Seq, Step, ‵}
use denote.RattleType.{RattleType}
use denote.Memory.{part_at}
use denote.RawPtr.{block_ptr}
use Rattle.core.proofs.alloc.Calls.{token, Fits}
use Rattle.std_alloc.proofs.BoxSteps.Form.{Bx, D, X, τ, R, P, word, handle}
use Rattle.std_alloc.proofs.BoxSteps.Steps.{box_out, box_in}
use Rattle.alcrs_c.specs.contracts.apart.Apart as apart

module _ (E : Bx) where
  abbrev pub Parts : RattleType
  Parts = apart.the_row (R E) (P E) E.al.g

  -- the box that it was
  abbrev pub whole : Parts.Denot → D E
  whole p = record { ptr = p.place; alloc = p.alloc; value = p.value }

  module _ {M : Type 1} {𝓤 : Ura M} {𝓛 : Logic 𝓤} {K : Type 0} {Γ : List (Item 𝓤)} {G : Goal 𝓤 𝓛.H} where
    -- its value in memory, the right to free that, and the allocator
    pub parts_out : K → (p : Parts.Denot) (vs : List Val)
        → ((b o : ℕ) (h : Val) → p.place ≡ block_ptr b o → vs ≡ word E h b o ∷ [] → Fits E.al h
        → Seq K 𝓛 (‵ (part_at (R E) full_share p.value b o) ∷ ‵ (token E.al p.alloc (bare (τ E)) (block_ptr b o)) ∷ ‵ (handle E p.alloc h) ∷ Γ) G)
        → Seq K 𝓛 (‵ (Parts.own_val p vs) ∷ Γ) G
    parts_out t p vs k = box_out E t (whole p) vs k

    pub parts_in : K → {h : Val} (p : Parts.Denot) (b o : ℕ) (x : X E) → p.place ≡ block_ptr b o → p.value ≡ x
        → Step K 𝓛 (‵ (Parts.own_val p (word E h b o ∷ [])) ∷ Γ) G
        (‵ (part_at (R E) full_share x b o) ∷ ‵ (token E.al p.alloc (bare (τ E)) (block_ptr b o)) ∷ ‵ (handle E p.alloc h) ∷ Γ) G
    parts_in t {h = h} p b o x e f = box_in E t {hv = h} (whole p) b o x e f
