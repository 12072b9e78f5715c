-- `take` hands over what the handle owns.
use Rattle.std.proofs.Common.{◌≡◌, List, [], ◌∷◌, ◌++◌, refl, sym, ap, subst, ◌∙◌}
use mathlib.Core.Bool.{Bool, true, false}
use mir.Raw.{raw as bare}
use mir.Val.{Val, vptr}
use base.Logic.{SProp, ent, never, id⊢, fst∗}
use base.Fraction.{full_share}
use base.Fml.{ftrue, flft}
use prog.Wp.{WpFn}
use types.Logic.{sem}
use types.Kit.{‵, raw, ◌⊛◌, ◌$◌, ◌∵◌, !, qed, move, keep, split, join, fsplit, fsplit3, fjoin, fjoin3, feq_i, feq_l, rewrite, suffices, frame, done}
use types.Part.{agg, whole, sub, look_in}
use types.Run.{stop, fld, load, of_opd, no_more, and_then, returns, enter}
use types.ByLocal.{alloc_all, pass_all, free_all, look_at, get, through, sets}
use contract.Monad.{fact}
use contract.Running.{tables}
use denote.Exit.{yes}
use denote.RattleType.{owns}
use denote.Laws.{shows}
use denote.Memory.{cell_at, lone}
use denote.RawPtr.{Ptr, block_ptr, null_ptr, in_a_block}
use denote.Signature.{types_at, plain}
use denote.Steps.{nothing, heard, opens, closes, peeks}
use denote.Triple.Walked.{says, Stays, stay_ref, stay_dropped, Goes-ref, walk_of, ends_at}
use Rattle.core.proofs.alloc.Calls.{Goes-blank, handle_tells}
use Rattle.std.proofs.raw_atomic.Walks.{proved_at}
use Rattle.std_alloc.specs.Box.Ownership.{box_owns}
use Rattle.alcrs_c.specs.Ownership.{held, token, receiver_row}
use Rattle.alcrs_c.proofs.HeapParts.{Z, allocator, two, two_fit, parts_in}
use Rattle.alcrs_c.specs.contracts.held.HeldReceiver.{the_row as R}
use Rattle.alcrs_c.proofs.held.HeldReceiver.TheLaws.{lowers}
use Rattle.alcrs_c.specs.contracts.held.HeldReceiver.take as f
use Rattle.alcrs_c.specs.contracts.held.HeldReceiver.take.Key.{name as #self}
use Rattle.alcrs_c.proofs.held.HeldReceiver.take.Statement.{statement}
use Rattle.alcrs_c.proofs.held.HeldReceiver.take.Code as code

abbrev stayed : Stays f.ended.signature.params f.ended.kept
stayed = (stay_ref (0 ∷ []) tt (plain (λ _. R)), (stay_dropped (plain (λ _. Z)) yes, tt))

pub take_spec : {M : Type 1} → statement M
take_spec 𝓤 𝓛 𝓜 𝓡 wired =
    let c = f.clauses 𝓛 𝓜.mem 𝓡.returns in let 𝓣 = tables 𝓤 𝓛.H 𝓜 𝓡 𝓡.env in let fn = code.function in
    proved_at 𝓛 f.ended stayed c 𝓜 𝓡 (Goes-ref 𝓛 1 0 tt (plain (λ _. R)), (Goes-blank 𝓛 1 (plain (λ _. Z)) yes (λ κs x g. tt), tt)) #self fn (code.unfolded 𝓤 𝓛.H 𝓜 𝓡 wired) (λ z are.
    let κ = z.0.0.0 in let q = z.0.1.0 in let self = z.0.3.0 in let rb = self.ref_ptr.0 in let ro = self.ref_ptr.1 in let γ = self.ghost_name in let d = self.now in
    let a = z.0.3.1.0 in let us0 = z.0.4.0 in let us1 = z.0.4.1.0 in
    let Post : Val → SProp 𝓤 = (walk_of 𝓛 f.ended stayed c).post z in let Run : List Val → SProp 𝓤 = λ ws. WpFn 𝓤 𝓛.H 𝓣.C 𝓣.Λ fn ws Post in
    let new = record d { full = false } in
    qed 𝓛 (((‵ (flft κ q) ⊛ ‵ ftrue) ⊛ ‵ (owns (types_at f.ended.signature.params z.0.0) z.0.3 z.0.4)) ∷ raw (fact 𝓤 (d.full ≡ true)) ∷ []) ∵
    move ! (1 ∷ []) $ heard ! (d.full ≡ true) (λ full. split ! $ split ! $ move ! (2 ∷ []) $ fsplit ! $ fsplit3 ! $ feq_l ! (λ e0. move ! (2 ∷ []) $ fsplit ! $
    handle_tells allocator ! a us1 (λ h e1 fits. keep ! (2 ∷ 3 ∷ 4 ∷ 0 ∷ []) $
    suffices ! (Run (vptr rb ro ∷ h ∷ [])) (subst (λ (us : List Val). ent 𝓤 (Run (vptr rb ro ∷ h ∷ [])) (Run us)) (sym (λ i. e0 i ++ (e1 i ++ []))) (id⊢ 𝓤 (Run (vptr rb ro ∷ h ∷ [])))) $
    enter ! 𝓣.C 𝓣.Λ fn (vptr rb ro ∷ h ∷ []) Post $ alloc_all ! (λ l. pass_all ! refl ((tt, tt), (fits, tt)) $
    opens ! tt R {h = d} rb ro (λ us. move ! (1 ∷ []) $ peeks ! R _ (shows 𝓛 R) d us (λ is. fsplit ! $ move ! (1 ∷ []) $
    rewrite ! 0 (λ (x : Bool). ‵ (held receiver_row x d.place d.value)) full refl $
    in_a_block ! d.place (λ p. box_owns token receiver_row p d.value) (fst∗ 𝓤 (never 𝓤) (sem 𝓛 (token (bare (lone receiver_row.mir)) null_ptr))) (λ b o e.
    let word = lowers.val_is d us is ∙ ap (λ (p : Ptr). lowers.lowered (record d { place = p }) ∷ []) e in
    let Cell = λ (ws : List Val). ‵ (cell_at full_share R.mir ws rb ro) in
    rewrite ! 2 Cell word refl $
    -- [the receiver; what the fields own; the handle's cell; the open borrow; what the allocator
    -- owns; the locals]
    sets ! (of_opd ! (load ! (through ! refl (fld ! refl (stop !))) (look_in ! 2 (sub ! 0 refl (whole !))))) refl (tt, tt) $
    sets ! (of_opd ! (get ! refl)) refl (tt, tt) $
    let made = two_fit b o h fits in
    sets ! (agg ! (and_then ! (get ! refl) (and_then ! (get ! refl) (no_more !)))) refl made $
    move ! (0 ∷ 6 ∷ []) $ parts_in receiver_row ! b o h a d.value $ rewrite ! 2 Cell (sym word) refl $
    -- [the parts; what the fields own; the cell; the open borrow, in three entries; the locals]
    move ! (1 ∷ []) $ nothing ! $ move ! (1 ∷ 0 ∷ []) $ fjoin ! $ move ! (2 ∷ 0 ∷ 3 ∷ 4 ∷ 5 ∷ []) $ closes ! tt R new us rb ro $
    returns ! (look_at ! 0 refl) $ free_all ! refl $ keep ! (0 ∷ 1 ∷ 2 ∷ 3 ∷ []) $
    suffices ! _ (ends_at 𝓛 f.ended stayed c z (two (vptr b o) h) (record { place = block_ptr b o; alloc = a; value = d.value }) (new, (tt, tt)) (tt, (tt, tt))) $ says ! (refl, refl) $
    nothing ! $ move ! (3 ∷ 0 ∷ []) $ join ! $ frame ! $ feq_i ! (List Val) us0 (vptr rb ro ∷ []) e0 $ fjoin3 ! $ nothing ! $ nothing ! $ fjoin ! $ move ! (1 ∷ 0 ∷ []) $ fjoin ! $ done !))))))))
