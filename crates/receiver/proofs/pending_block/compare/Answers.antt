use Rattle.std.proofs.Common.{◌≡◌, ◌∙◌, ◌+◌, ◌*◌, ◌<◌, ◌≤◌, ℕ, Some, length, take, drop, refl, sym, ap, arith}
use Rattle.std.proofs.Math.Nat.{mul-le-mul_right}
use Rattle.std.specs.Cmp.Lexicographic.{same_text}
use Rattle.partition.proofs.Laws.{counts}
use Rattle.receiver.specs.Putting.{IsClash}
use Rattle.receiver.specs.Stored.{symbol_in}
use Rattle.receiver.proofs.Among.{place_fits}
use Rattle.receiver.proofs.Told.{told_bytes, differ, all_of, out_of_memory, out_of_order}
use Rattle.receiver.proofs.pending_block.compare.Goals as goal

-- the symbols before one and its own are no more than all
is_there : (p k s len n m : ℕ) → k ≡ s → len ≡ s → p < n → n * s ≤ m → p * k + len ≤ m
is_there p k s len n m is own few all =
    let most : (p + 1) * s ≤ n * s = mul-le-mul_right s (omega (arith, few)) in
    let one : p * k ≡ p * s = ap (λ (i : ℕ). p * i) is in
    omega (arith, most, one)

pub overflow_mul-index : goal.overflow_mul-index
overflow_mul-index g c =
    let f = c.args.fti.now in
    let few = c.requires.few in
    let most = (counts f c.symbol_length.ensures.valid c.args.packet.now.sbn c.requires.number).1 in
    let w = place_fits c.args.index c.from-size.result (omega (arith, few, most, c.requires.index.0))
    (omega (arith, c.from-size.ensures, c.symbol_length.type_inv)) in
    omega (arith, w)

-- what was read is the symbol
pub returns-then-eq-clause-outcome : goal.returns-then-eq-clause-outcome
returns-then-eq-clause-outcome g c = λ x at told h.
    let b = c.args.packet.now.sbn in
    let size = c.args.fti.now.symbol_length in
    let e : c.from-size.result ≡ size = c.from-size.ensures ∙ c.symbol_length.ensures.value in
    let len : length c.read.new.into ≡ c.from-size.result = c.in_ok-read.ensures.len ∙ c.deref_mut.ensures.len ∙ c.in_ok-symbol.ensures.len in
    let whole : c.as_slice.result.now ≡ c.read.new.into = c.as_slice.ensures.value ∙ all_of c.read.new.into _ _ (len ∙ sym c.in_ok-symbol.ensures.len) in
    let bytes = told_bytes _ x b (c.args.index * c.from-size.result) c.read.new.into told c.in_ok-read.ensures.bytes in
    let own : c.read.new.into ≡ symbol_in size (x b) c.args.index =
    bytes ∙ ap (λ (k : ℕ). take k (drop (c.args.index * c.from-size.result) (x b))) (len ∙ e) ∙ ap (λ (k : ℕ). take size (drop (c.args.index * k) (x b))) e in
    let same : c.as_slice.result.now ≡ c.args.packet.now.symbol.now = same_text c.as_slice.result.now c.args.packet.now.symbol.now (sym c.if-eq.true ∙ c.eq.ensures) in
    (ap at (sym c.requires.index.1) ∙ h.symbols.came c.args.index c.requires.index.0 ∙ ap Some (sym own ∙ sym whole ∙ same), tt)

pub returns-clause-outcome : goal.returns-clause-outcome
returns-clause-outcome g c = λ x at told h.
    let b = c.args.packet.now.sbn in
    let size = c.args.fti.now.symbol_length in
    let e : c.from-size.result ≡ size = c.from-size.ensures ∙ c.symbol_length.ensures.value in
    let len : length c.read.new.into ≡ c.from-size.result = c.in_ok-read.ensures.len ∙ c.deref_mut.ensures.len ∙ c.in_ok-symbol.ensures.len in
    let whole : c.as_slice.result.now ≡ c.read.new.into = c.as_slice.ensures.value ∙ all_of c.read.new.into _ _ (len ∙ sym c.in_ok-symbol.ensures.len) in
    let bytes = told_bytes _ x b (c.args.index * c.from-size.result) c.read.new.into told c.in_ok-read.ensures.bytes in
    let own : c.read.new.into ≡ symbol_in size (x b) c.args.index =
    bytes ∙ ap (λ (k : ℕ). take k (drop (c.args.index * c.from-size.result) (x b))) (len ∙ e) ∙ ap (λ (k : ℕ). take size (drop (c.args.index * k) (x b))) e in
    let clash : IsClash at c.args.packet.now.esi c.args.packet.now.symbol.now = record {
      other = c.as_slice.result.now;
      stands = ap at (sym c.requires.index.1) ∙ h.symbols.came c.args.index c.requires.index.0 ∙ ap Some (sym own ∙ sym whole);
      differs = λ is. differ c.as_slice.result.now c.args.packet.now.symbol.now c.eq.result c.eq.ensures c.if-eq.false is;
    } in
    (tt, (refl, clash))

pub returns-in_err-symbol-clause-outcome : goal.returns-in_err-symbol-clause-outcome
returns-in_err-symbol-clause-outcome g c = λ x at told h. out_of_memory c.from_residual.result _ _ _ c.from_residual.ensures.1 tt

pub returns-in_err-read-clause-outcome : goal.returns-in_err-read-clause-outcome
returns-in_err-read-clause-outcome g c = λ x at told h.
    let e : c.from-size.result ≡ c.args.fti.now.symbol_length = c.from-size.ensures ∙ c.symbol_length.ensures.value in
    out_of_order c.from_residual-in_err-read.result _ _ _ c.from_residual-in_err-read.ensures.1
    (c.in_err-read.ensures.fails (x, told, is_there c.args.index _ _ _ _ _ e (c.deref_mut.ensures.len ∙ c.in_ok-symbol.ensures.len ∙ e) c.requires.index.0 h.symbols.whole))
