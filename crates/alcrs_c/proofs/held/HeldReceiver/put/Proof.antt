-- `put` keeps a receiver's place.
use Rattle.std.proofs.Common.{List, [], ◌∷◌, ◌++◌, refl, sym, subst}
use mathlib.Core.Bool.{true}
use mir.Val.{Val, vptr, vunit, vstruct, vcons, vnil}
use base.Logic.{SProp, ent, id⊢}
use base.Fraction.{full_share}
use base.Fml.{ftrue, flft}
use prog.Wp.{WpFn}
use types.Kit.{‵, ◌⊛◌, ◌$◌, ◌∵◌, !, qed, move, keep, drop, split, join, fsplit, fsplit3, fjoin, fjoin3, fpack, feq_i, feq_l, rewrite, suffices, frame, done}
use types.Part.{whole, sub, store_in}
use types.Run.{stop, fld, of_opd, unit_lit, assigns, returns, enter}
use types.ByLocal.{alloc_all, pass_all, free_all, look_at, get, get_in, through, sets}
use contract.Running.{tables}
use denote.Exit.{yes}
use denote.RattleType.{Valss, owns}
use denote.Builtin.{RawPtr}
use denote.Struct.Struct.{within}
use denote.Struct.Owning.{shape}
use denote.Laws.{shows}
use denote.Memory.{cell_at}
use denote.RawPtr.{block_ptr}
use denote.Signature.{types_at, plain}
use denote.Steps.{nothing, opens, closes, peeks}
use denote.Triple.Walked.{says, Stays, stay_ref, stay_dropped, Goes-ref, walk_of, ends_at}
use Rattle.core.proofs.alloc.Calls.{Goes-blank}
use Rattle.std.proofs.raw_atomic.Walks.{proved_at}
use Rattle.alcrs_c.specs.Ownership.{receiver_row}
use Rattle.alcrs_c.proofs.HeapParts.{Parts, two, two_fit, parts_out}
use Rattle.alcrs_c.specs.contracts.held.HeldReceiver.{the_row as R, the_type}
use Rattle.alcrs_c.proofs.held.HeldReceiver.TheLaws.{lowers}
use Rattle.alcrs_c.specs.contracts.held.HeldReceiver.put as f
use Rattle.alcrs_c.specs.contracts.held.HeldReceiver.put.Key.{name as #self}
use Rattle.alcrs_c.proofs.held.HeldReceiver.put.Statement.{statement}
use Rattle.alcrs_c.proofs.held.HeldReceiver.put.Code as code

abbrev stayed : Stays f.ended.signature.params f.ended.kept
stayed = (stay_ref (0 ∷ []) tt (plain (λ _. R)), (stay_dropped (plain (λ _. Parts receiver_row)) yes, tt))

pub put_spec : {M : Type 1} → statement M
put_spec 𝓤 𝓛 𝓜 𝓡 wired =
    let c = f.clauses 𝓛 𝓜.mem 𝓡.returns in let 𝓣 = tables 𝓤 𝓛.H 𝓜 𝓡 𝓡.env in let fn = code.function in
    proved_at 𝓛 f.ended stayed c 𝓜 𝓡 (Goes-ref 𝓛 1 0 tt (plain (λ _. R)), (Goes-blank 𝓛 1 (plain (λ _. Parts receiver_row)) yes (λ κs x g. tt), tt)) #self fn (code.unfolded 𝓤 𝓛.H 𝓜 𝓡 wired) (λ z are.
    let κ = z.0.0.0 in let q = z.0.1.0 in let self = z.0.3.0 in let rb = self.ref_ptr.0 in let ro = self.ref_ptr.1 in let γ = self.ghost_name in let d = self.now in
    let w = z.0.3.1.0 in let us0 = z.0.4.0 in let us1 = z.0.4.1.0 in
    let Post : Val → SProp 𝓤 = (walk_of 𝓛 f.ended stayed c).post z in let Run : List Val → SProp 𝓤 = λ ws. WpFn 𝓤 𝓛.H 𝓣.C 𝓣.Λ fn ws Post in
    qed 𝓛 (((‵ (flft κ q) ⊛ ‵ ftrue) ⊛ ‵ (owns (types_at f.ended.signature.params z.0.0) z.0.3 z.0.4)) ∷ ‵ ftrue ∷ []) ∵
    split ! $ split ! $ move ! (2 ∷ []) $ fsplit ! $ fsplit3 ! $ feq_l ! (λ e0. move ! (2 ∷ []) $ fsplit ! $
    parts_out receiver_row ! w us1 (λ b o h e e1 fits. keep ! (3 ∷ 4 ∷ 5 ∷ 0 ∷ []) $
    let passed = two (vptr b o) h in let word = vstruct (vcons (vptr b o) vnil) in
    suffices ! (Run (vptr rb ro ∷ passed ∷ [])) (subst (λ (us : List Val). ent 𝓤 (Run (vptr rb ro ∷ passed ∷ [])) (Run us)) (sym (λ i. e0 i ++ (e1 i ++ []))) (id⊢ 𝓤 (Run (vptr rb ro ∷ passed ∷ [])))) $
    enter ! 𝓣.C 𝓣.Λ fn (vptr rb ro ∷ passed ∷ []) Post $ alloc_all ! (λ l. pass_all ! refl ((tt, tt), (two_fit b o h fits, tt)) $
    sets ! (of_opd ! (get_in ! (fld ! refl (stop !)) (sub ! 0 refl (whole !)))) refl (tt, tt) $ sets ! (of_opd ! (get ! refl)) refl (tt, tt) $
    opens ! tt R {h = d} rb ro (λ us. move ! (1 ∷ []) $ peeks ! R _ (shows 𝓛 R) d us (λ is. drop ! $
    rewrite ! 0 (λ (ws : List Val). ‵ (cell_at full_share R.mir ws rb ro)) (lowers.val_is d us is) refl $
    -- [the handle's cell; the open borrow, in three entries; the receiver; the locals]
    assigns ! (of_opd ! (get ! refl)) (through ! refl (fld ! refl (stop !))) (store_in ! 0 (sub ! 0 refl (whole !)) (tt, tt)) $
    sets ! (of_opd ! (unit_lit !)) refl (tt, tt) $
    move ! (4 ∷ []) $ nothing ! $ feq_i ! (List Val) (vptr b o ∷ []) (vptr b o ∷ []) refl $ fjoin ! $ feq_i ! (List Val) (word ∷ []) (word ∷ []) refl $ fjoin ! $
    fpack ! (Valss (RawPtr ∷ [])) (within (shape the_type) (block_ptr b o, tt) (word ∷ [])) (vptr b o ∷ [], tt) $ fjoin ! $
    let new : R.Denot = record { place = block_ptr b o; full = true; value = w.value } in
    move ! (1 ∷ 0 ∷ []) $ closes ! tt R new (word ∷ []) rb ro $
    returns ! (look_at ! 0 refl) $ free_all ! refl $ keep ! (0 ∷ 1 ∷ 2 ∷ []) $ feq_i ! (List Val) (vunit ∷ []) (vunit ∷ []) refl $ move ! (1 ∷ 2 ∷ 3 ∷ 0 ∷ []) $
    suffices ! _ (ends_at 𝓛 f.ended stayed c z vunit tt (new, (tt, tt)) (tt, (tt, tt))) $ says ! (refl, refl) $
    nothing ! $ move ! (3 ∷ 0 ∷ []) $ join ! $ frame ! $ feq_i ! (List Val) us0 (vptr rb ro ∷ []) e0 $ fjoin3 ! $ nothing ! $ nothing ! $ fjoin ! $ move ! (1 ∷ 0 ∷ []) $ fjoin ! $ done !))))))
