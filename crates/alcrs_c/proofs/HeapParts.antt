-- The parts of a box on the heap, as memory holds them: a pointer and the heap's handle.
use Rattle.std.proofs.Common.{◌≡◌, ℕ, List, [], ◌∷◌, ◌++◌, refl, ap, ◌∙◌}
use mathlib.Core.Bool.{◌&&◌, true}
use lib.Dec.{T}
use seplogic.Ra.Ura.{Ura}
use mir.Syntax.{impl, tnil, dnil}
use mir.Raw.{raw as bare}
use mir.Val.{Val, vptr, vstruct, vcons, vnil, of_list, has_ty, WT}
use base.Logic.{never, fst∗}
use types.Logic.{Logic, sem}
use types.Kit.{Item, Goal, Seq, Step, step, ‵, ◌$◌, move, drop, fsplit, fjoin, fpick, fpack, feq_i, feq_l}
use denote.RattleType.{RattleType, Valss}
use denote.Builtin.{RawPtr}
use denote.Memory.{lone}
use denote.RawPtr.{Ptr, block_ptr, null_ptr, ptr_val, in_a_block}
use denote.Steps.{nothing}
use denote.Param.{layout}
use denote.Struct.Struct.{within}
use denote.Struct.Owning.{shape}
use Rattle.core.proofs.alloc.Calls.{Al, handle_tells}
use Rattle.core.proofs.cell.Inside.{Good}
use Rattle.std_alloc.specs.Box.Ownership.{box_owns}
use Rattle.std_alloc.proofs.ResultValues.{and_tt}
use Rattle.std_heap.specs.declared.Global.{Global}
use Rattle.std_heap.specs.contracts.Global as Heap
use Rattle.std_heap.specs.contracts.GlobalAllocator.TheImpl.{ghosts}
use Rattle.std_heap.proofs.Global.TheLaws as heap
use Rattle.alcrs_c.specs.contracts.apart.Apart as apart

abbrev pub Z : RattleType
Z = Heap.the_row

abbrev pub allocator : Al
allocator = record { row = Z; laws = heap.the_row_laws; g = ghosts; d = impl [] tnil dnil; drops = impl [] tnil dnil }

-- two words, one behind the other
abbrev pub two : Val → Val → Val
two v w = vstruct (vcons v (vcons w vnil))

pub two_fit : (b o : ℕ) (h : Val) → Good (layout Z) h → T (has_ty (layout Z) h && true) × WT (two (vptr b o) h)
two_fit b o h fits = (and_tt (has_ty (layout Z) h) fits.0, (tt, (fits.1, tt)))

module _ (R : RattleType) where
  abbrev pub Parts : RattleType
  Parts = apart.the_row R Z ghosts

  module _ {M : Type 1} {𝓤 : Ura M} {𝓛 : Logic 𝓤} {K : Type 0} {Γ : List (Item 𝓤)} {G : Goal 𝓤 𝓛.H} where
    pub parts_out : K → (p : Parts.Denot) (vs : List Val)
        → ((b o : ℕ) (h : Val) → p.place ≡ block_ptr b o → vs ≡ two (vptr b o) h ∷ [] → Good (layout Z) h
        → Seq K 𝓛 (‵ (box_owns (ghosts.dealloc_token p.alloc) R (block_ptr b o) p.value) ∷ ‵ (Z.own_val p.alloc (h ∷ [])) ∷ Γ) G)
        → Seq K 𝓛 (‵ (Parts.own_val p vs) ∷ Γ) G
    parts_out t p vs k =
        fsplit t $ fpick t (λ words. fsplit t $ feq_l t (λ whole. fsplit t $ feq_l t (λ pointer. fsplit t $
        handle_tells allocator t p.alloc words.1.0 (λ h handle fits. move t (1 ∷ 2 ∷ []) $ drop t $
        in_a_block t p.place (λ (q : Ptr). box_owns (ghosts.dealloc_token p.alloc) R q p.value)
        (fst∗ 𝓤 (never 𝓤) (sem 𝓛 (ghosts.dealloc_token p.alloc (bare (lone R.mir)) null_ptr))) (λ b o at.
        let pointer' : words.0 ≡ vptr b o ∷ [] = pointer ∙ ap (λ (q : Ptr). ptr_val q ∷ []) at in
        k b o h at (whole ∙ (λ i. vstruct (of_list (pointer' i ++ (handle i ++ []))) ∷ [])) fits)))))

    pub parts_in : K → (b o : ℕ) (h : Val) (a : Global) (x : R.Denot)
        → Step K 𝓛 (‵ (Parts.own_val (record { place = block_ptr b o; alloc = a; value = x }) (two (vptr b o) h ∷ [])) ∷ Γ) G
        (‵ (box_owns (ghosts.dealloc_token a) R (block_ptr b o) x) ∷ ‵ (Z.own_val a (h ∷ [])) ∷ Γ) G
    parts_in t b o h a x = step (λ rest.
        nothing t $ move t (2 ∷ 0 ∷ []) $ fjoin t $ feq_i t (List Val) (vptr b o ∷ []) (vptr b o ∷ []) refl $ fjoin t $
        feq_i t (List Val) (two (vptr b o) h ∷ []) (two (vptr b o) h ∷ []) refl $ fjoin t $
        fpack t (Valss (RawPtr ∷ Z ∷ [])) (within (shape (apart.the_type R Z ghosts)) (block_ptr b o, (a, tt)) (two (vptr b o) h ∷ [])) (vptr b o ∷ [], (h ∷ [], tt)) $
        fjoin t $ rest)
