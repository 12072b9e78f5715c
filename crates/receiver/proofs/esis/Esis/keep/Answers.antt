use Rattle.std.proofs.Common.{◌≡◌, ◌∙◌, ◌+◌, ◌*◌, ◌++◌, ◌∷◌, [], ◌≤◌, Err, ℕ, List, Option, length, take, ap, sym, subst, arith, inl}
use Rattle.partition.specs.Fti.{Fti}
use Rattle.partition.proofs.Laws.{counts}
use Rattle.block_recovery.specs.Arrivals.{with_esi}
use Rattle.receiver.specs.Esis.{esis_of}
use Rattle.receiver.specs.Stored.{IsPending}
use Rattle.receiver.proofs.Among.{place_fits, pending_more}
use Rattle.receiver.proofs.Told.{puts_at, becomes_same, becomes_then, out_of_memory, unwritten, err_same}
use Rattle.receiver.proofs.esis.Esis.keep.Goals as goal

pub overflow_mul-from : goal.overflow_mul-from
overflow_mul-from g c =
    let f = c.args.fti.now in
    let most = (counts f c.symbol_length.ensures.valid c.args.packet.now.sbn c.requires.number).1 in
    let w = place_fits c.args.have c.from.result (omega (arith, c.requires.few, most)) (omega (arith, c.from.ensures, c.symbol_length.type_inv)) in
    omega (arith, w)

-- the symbol stands behind those that came
pub returns-clause-outcome : goal.returns-clause-outcome
returns-clause-outcome g c = λ place x at told h.
    let f = c.args.fti.now in
    let k = c.args.packet.now in
    let esis = esis_of c.args.self.now k.sbn in
    let size = f.symbol_length in
    let from : c.args.have * c.from.result ≡ length esis * size =
    ap (λ (n : ℕ). n * c.from.result) c.requires.have ∙ ap (λ (n : ℕ). length esis * n) (c.from.ensures ∙ c.symbol_length.ensures.value) in
    let puts = puts_at _ _ x k.sbn (c.args.have * c.from.result) k.symbol.now told c.in_ok-write.ensures.put in
    let now : esis_of c.push.new.self k.sbn ≡ esis ++ k.esi ∷ [] = c.push.ensures.pushed ∙ ap (λ (l : List ℕ). l ++ k.esi ∷ []) (c.in_ok-reserve.ensures.same k.sbn) in (
      (
        inl (h.symbols.others k.esi c.requires.free),
        becomes_then x _ k.sbn _ _
            (λ y put. subst (λ (l : List ℕ). IsPending f k.sbn y l (with_esi at k.esi k.symbol.now)) (sym now)
            (pending_more f k.sbn esis (x k.sbn) y k.symbol.now at k.esi h c.requires.esi c.requires.free (omega (arith, c.requires.have, c.requires.few)) c.requires.symbol
            (subst (λ (n : ℕ). take (n + length k.symbol.now) y ≡ take n (x k.sbn) ++ k.symbol.now) from put))) puts,
      ),
      tt,
    )

pub returns-in_err-reserve-clause-outcome : goal.returns-in_err-reserve-clause-outcome
returns-in_err-reserve-clause-outcome g c = λ place x at told h.
    let f = c.args.fti.now in
    let b = c.args.packet.now.sbn in
    out_of_memory c.from_residual.result _ _ _ c.from_residual.ensures.1
    (tt, becomes_same x _ b _ told (subst (λ (l : List ℕ). IsPending f b (x b) l at) (sym (c.in_err-reserve.ensures.same b)) h))

pub returns-in_err-write-clause-outcome : goal.returns-in_err-write-clause-outcome
returns-in_err-write-clause-outcome g c = λ place x at told h.
    let f = c.args.fti.now in
    let b = c.args.packet.now.sbn in
    let esis = esis_of c.args.self.now b in
    let from : c.args.have * c.from.result ≡ length esis * f.symbol_length =
    ap (λ (n : ℕ). n * c.from.result) c.requires.have ∙ ap (λ (n : ℕ). length esis * n) (c.from.ensures ∙ c.symbol_length.ensures.value) in
    unwritten c.in_err-write.field-0.0 c.from_residual-in_err-write.result _ _ _ c.from_residual-in_err-write.ensures.1
    (λ none. (
      tt,
      becomes_same x _ b _ (ap (λ (t : Fti → Option (ℕ → List ℕ)). t f) (c.in_err-write.ensures.stays (ap Err none)) ∙ told)
          (subst (λ (l : List ℕ). IsPending f b (x b) l at) (sym (c.in_ok-reserve.ensures.same b)) h),
    ))
    (λ failed. c.in_err-write.ensures.fails (x, told, subst (λ (n : ℕ). n ≤ length (x b)) (sym from) h.symbols.whole) (ap Err failed))

pub returns-in_err-reserve-clause-same : goal.returns-in_err-reserve-clause-same
returns-in_err-reserve-clause-same g c = err_same c.from_residual.result _ _ c.from_residual.ensures.1 (c.in_err-reserve.ensures.same c.args.packet.now.sbn)

pub returns-in_err-reserve-clause-others : goal.returns-in_err-reserve-clause-others
returns-in_err-reserve-clause-others g c = λ a ne. c.in_err-reserve.ensures.same a

pub returns-in_err-write-clause-same : goal.returns-in_err-write-clause-same
returns-in_err-write-clause-same g c = err_same c.from_residual-in_err-write.result _ _ c.from_residual-in_err-write.ensures.1 (c.in_ok-reserve.ensures.same c.args.packet.now.sbn)

pub returns-in_err-write-clause-others : goal.returns-in_err-write-clause-others
returns-in_err-write-clause-others g c = λ a ne. c.in_ok-reserve.ensures.same a

pub returns-clause-kept : goal.returns-clause-kept
returns-clause-kept g c = c.push.ensures.pushed ∙ ap (λ (l : List ℕ). l ++ c.args.packet.now.esi ∷ []) (c.in_ok-reserve.ensures.same c.args.packet.now.sbn)

pub returns-clause-others : goal.returns-clause-others
returns-clause-others g c = λ a ne. c.push.ensures.others a ne ∙ c.in_ok-reserve.ensures.same a
