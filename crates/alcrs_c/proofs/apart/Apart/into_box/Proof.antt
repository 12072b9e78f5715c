-- `into_box` gives the callee all that the parts own.
use Rattle.std.proofs.Common.{◌≡◌, List, [], ◌∷◌, ◌++◌, refl, sym, ap, subst}
use mir.Syntax.{a_type, dcons, dnil}
use mir.Val.{Val, vptr}
use mir.MapTy.{inst_fn}
use base.Logic.{SProp, ent, id⊢}
use base.Fml.{ftrue, fsep, flft}
use prog.Wp.{WpFn}
use types.Kit.{Item, ‵, raw, ◌⊛◌, some, later, at_ret, ◌$◌, ◌∵◌, !, qed, by, move, keep, drop, split, split3, join, fsplit, fjoin, feq_i, pick, suffices, use1, await, rewrite}
use types.Run.{stop, fld, of_opd, no_more, and_then, first, blocks, exec, returns, enter}
use types.ByLocal.{alloc_all, pass_all, free_all, look_at, get, get_in, sets, lands_last, env}
use types.Part.{sub, whole}
use contract.BorrowLft.{◌⊑◌}
use contract.Monad.{fact}
use contract.Running.{tables}
use denote.Exit.{no}
use denote.RattleType.{RattleType}
use denote.RawPtr.{block_ptr}
use denote.Signature.{plain}
use denote.Steps.{nothing, only}
use denote.Param.{bounded}
use denote.Triple.Clauses.{Lasts, lasts}
use denote.Triple.Spec.{triple_of}
use denote.Triple.Call.{calls_at_last}
use denote.Triple.Walked.{Stays, stay_dropped, walk_of}
use Rattle.core.proofs.alloc.Calls.{Goes-blank}
use Rattle.core.proofs.alloc.Shapes.{after}
use Rattle.core.proofs.atomic.Steps.{fm}
use Rattle.core.proofs.cell.Inside.{Good}
use Rattle.std.proofs.raw_atomic.Walks.{proved_at, leaves}
use Rattle.std_alloc.proofs.BoxSteps.Form as box
use Rattle.std_alloc.proofs.BoxSteps.Steps.{box_out, box_in}
use Rattle.std_alloc.specs.contracts.boxed.Box.from_raw as callee
use Rattle.std_alloc.proofs.boxed.Box.from_raw.Met.{met}
use Rattle.alcrs_c.proofs.BoxParts.{Parts, parts_out}
use Rattle.alcrs_c.specs.contracts.apart.Apart.into_box as f
use Rattle.alcrs_c.specs.contracts.apart.Apart.into_box.Key.{name as #self}
use Rattle.alcrs_c.proofs.apart.Apart.into_box.Statement.{statement}
use Rattle.alcrs_c.proofs.apart.Apart.into_box.Code as code

pub into_box_spec : {M : Type 1} → statement M
into_box_spec 𝓤 𝓛 𝓜 𝓡 wired T A LT LA g d dT dA allocator glueT glueA =
    let E : box.Bx = record { row = T; laws = LT; al = record { row = A; laws = LA; g = g; d = d; drops = dA } } in
    let B : RattleType = box.B E in
    let given = bounded (a_type ∷ a_type ∷ []) (T, (A, tt)) (dcons d (dcons dT (dcons dA dnil))) in
    let fn = inst_fn given code.function in
    let ended = f.ended T A g d dT dA in
    let clauses = f.clauses T A g d dT dA 𝓛 𝓜.mem 𝓡.returns in
    let 𝓣 = tables 𝓤 𝓛.H 𝓜 𝓡 𝓡.env in
    let called = triple_of 𝓛 (callee.signature T A g d dA) (callee.spec T A g d dA 𝓛 𝓜.mem 𝓡.returns) in
    let called_met = met 𝓤 𝓛 𝓜 𝓡 (code.calls-std_alloc::boxed::Box::from_raw 𝓡.env wired) T A LT LA g d dA allocator glueA in
    let stayed : Stays ended.signature.params ended.kept = (stay_dropped (plain (λ _. Parts E)) no, tt) in
    proved_at 𝓛 ended stayed clauses 𝓜 𝓡 (Goes-blank 𝓛 2 (plain (λ _. Parts E)) no (λ κs x y. tt), tt) (#self given) fn (code.unfolded 𝓤 𝓛.H 𝓜 𝓡 wired (T, (A, tt)) d dT dA) (λ z are.
    let κs = z.0.0 in
    let qs = z.0.1 in
    let p : (Parts E).Denot = z.0.3.0 in
    let us : List Val = z.0.4.0 in
    let alive : Item 𝓤 = ‵ (flft κs.0 qs.0) ⊛ ‵ (flft κs.1.0 qs.1.0) ⊛ ‵ ftrue in
    let lives : Item 𝓤 = raw (fact 𝓤 (κs.0 ⊑ T.lives)) in
    let lives' : Item 𝓤 = raw (fact 𝓤 (κs.1.0 ⊑ A.lives)) in
    let Post : Val → SProp 𝓤 = (walk_of 𝓛 ended stayed clauses).post z in
    let Run : List Val → SProp 𝓤 = λ vs. WpFn 𝓤 𝓛.H 𝓣.C 𝓣.Λ fn vs Post in
    qed 𝓛 ((alive ⊛ ‵ (fsep ((Parts E).own_val p us) ftrue)) ∷ (lives ⊛ lives' ⊛ ‵ ftrue) ∷ []) ∵
    split ! $ move ! (2 ∷ []) $ split3 ! $ move ! (4 ∷ []) $ fsplit ! $
    -- [the parts; nothing; the two facts, and nothing; the tokens]
    parts_out E ! p us (λ b o h at is fits.
    let w : Val = box.word E h b o in
    let typed = box.box_typed E h b o fits in
    let y : called.Ghost = ((κs, qs, tt, (p.alloc, (block_ptr b o, tt)), (h ∷ [], (vptr b o ∷ [], tt))), p.value) in
    -- what the callee asks: the facts with the memory, the arguments, and the tokens
    fjoin ! $ move ! (4 ∷ 0 ∷ []) $ join ! $ move ! (3 ∷ 0 ∷ []) $ join ! $
    move ! (2 ∷ []) $ feq_i ! (List Val) (vptr b o ∷ []) (vptr b o ∷ []) refl $ fjoin ! $ move ! (2 ∷ 0 ∷ []) $ fjoin ! $
    move ! (3 ∷ 0 ∷ []) $ join ! $ join ! $ use1 𝓛 (raw (called.pre y)) (id⊢ 𝓤 _) $ keep ! (0 ∷ []) $
    suffices ! (Run (w ∷ [])) (subst (λ (vs : List Val). ent 𝓤 (Run (w ∷ [])) (Run vs)) (sym (λ i. is i ++ [])) (id⊢ 𝓤 (Run (w ∷ [])))) $
    enter ! 𝓣.C 𝓣.Λ fn (w ∷ []) Post $ alloc_all ! (λ l. pass_all ! refl (typed, tt) $
    sets ! (of_opd ! (get_in ! (fld ! refl (stop !)) (sub ! 0 refl (whole !)))) refl (tt, tt) $
    sets ! (of_opd ! (get_in ! (fld ! refl (stop !)) (sub ! 1 refl (whole !)))) refl fits $
    first ! $ blocks ! $ sets ! (of_opd ! (get ! refl)) refl fits $
    calls_at_last ! (fm 𝓛 𝓜 𝓡) called called_met y (and_then ! (get ! refl) (and_then ! (get ! refl) (no_more !))) (λ u.
    use1 𝓛 (later (some (λ (r : B.Denot). (alive ⊛ ‵ (B.own_val r (u ∷ []))) ⊛ some (λ (ls : Lasts (callee.ended T A g d dA) κs y.0.3).
    ‵ (lasts (callee.ended T A g d dA) κs y.0.3 ls) ⊛ (raw (fact 𝓤 (r.value ≡ p.value)) ⊛ raw (fact 𝓤 (r.alloc ≡ p.alloc))))))) (id⊢ 𝓤 (called.post y u)) $
    await ! tt $ pick ! (λ r. split ! $ move ! (1 ∷ []) $ pick ! (λ _. split3 ! $ drop ! $
    -- [what it ensures; the allocator's; the tokens with the box; the locals]
    move ! (2 ∷ []) $ split ! $ move ! (1 ∷ []) $ box_out E ! r (u ∷ []) (λ b' o' h' at' is' fits'. box_in E ! r b' o' r.value at' refl $
    rewrite ! 0 (λ (vs : List Val). ‵ (B.own_val r vs)) (sym is') refl $
    let typed' : Good (box.box_ty E) u = subst (Good (box.box_ty E)) (sym (ap only is')) (box.box_typed E h' b' o' fits') in
    lands_last ! refl typed' $ exec ! 𝓣.C 𝓣.Λ (env fn.locals l) (after 3 fn.body) (at_ret (env fn.locals l) Post) $
    sets ! (of_opd ! (get ! refl)) refl typed' $ nothing ! $ nothing ! $ fjoin ! $
    returns ! (look_at ! 0 refl) $ free_all ! refl $ keep ! (2 ∷ 0 ∷ 1 ∷ 3 ∷ []) $
    by ! (leaves 𝓛 ended stayed clauses z u r ((tt, (tt, tt)), tt) (tt, tt)))))))))
