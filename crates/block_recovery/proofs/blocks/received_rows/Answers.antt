use Rattle.std.specs.Borrow.{Bor}
use Rattle.std.specs.Prelude.{IsNone}
use Rattle.std.proofs.Common.{◌∙◌, ℕ, List, refl}
use Rattle.block_recovery.specs.Blocks.{bytes_of_esi}
use Rattle.block_recovery.specs.declared.rows.Rows.{Rows}
use Rattle.block_recovery.specs.Decoded.{AreRows, IsUnexplained}
use Rattle.block_recovery.specs.Received.{bytes_at}
use Rattle.block_recovery.proofs.Results.{if_ok, if_ok_some}
use Rattle.block_recovery.proofs.Arrived.{arrived_or}
use Rattle.block_recovery.proofs.BlockRows.{are_arrivals, have_length, enough_arrived, rows_at, unexplained_at}
use Rattle.block_recovery.proofs.blocks.received_rows.Goals as goal

pub block_rows-requires-clause-count : goal.block_rows-requires-clause-count
block_rows-requires-clause-count c =
    let r = c.args.received.now in
    let a = are_arrivals r.fti c.args.b (bytes_at r.symbols) c.n.result _ c.deref.result.now c.n.ensures.value c.in_ok-arrivals.ensures.len (λ j lj. c.in_ok-arrivals.ensures.at j lj ∙ arrived_or (λ (x : Bor (List ℕ)). x.now) r.symbols c.args.b c.of_block.result _ c.unwrap_or-came.result c.unwrap_or-came.ensures refl c.of_block.ensures.none c.of_block.ensures.some j) c.deref.ensures.value in
    a.len

pub block_rows-requires-clause-symbols : goal.block_rows-requires-clause-symbols
block_rows-requires-clause-symbols c =
    let r = c.args.received.now in
    let a = are_arrivals r.fti c.args.b (bytes_at r.symbols) c.n.result _ c.deref.result.now c.n.ensures.value c.in_ok-arrivals.ensures.len (λ j lj. c.in_ok-arrivals.ensures.at j lj ∙ arrived_or (λ (x : Bor (List ℕ)). x.now) r.symbols c.args.b c.of_block.result _ c.unwrap_or-came.result c.unwrap_or-came.ensures refl c.of_block.ensures.none c.of_block.ensures.some j) c.deref.ensures.value in
    have_length r.fti c.args.b (bytes_at r.symbols) c.requires.within c.deref.result.now a.len a.same

pub block_rows-requires-clause-enough : goal.block_rows-requires-clause-enough
block_rows-requires-clause-enough c =
    let r = c.args.received.now in
    let a = are_arrivals r.fti c.args.b (bytes_at r.symbols) c.n.result _ c.deref.result.now c.n.ensures.value c.in_ok-arrivals.ensures.len (λ j lj. c.in_ok-arrivals.ensures.at j lj ∙ arrived_or (λ (x : Bor (List ℕ)). x.now) r.symbols c.args.b c.of_block.result _ c.unwrap_or-came.result c.unwrap_or-came.ensures refl c.of_block.ensures.none c.of_block.ensures.some j) c.deref.ensures.value in
    enough_arrived r.fti c.args.b (bytes_at r.symbols) c.requires.within c.deref.result.now a.len a.same c.requires.enough

pub returns-clause-rows : goal.returns-clause-rows
returns-clause-rows c =
    let r = c.args.received.now in
    let a = are_arrivals r.fti c.args.b (bytes_at r.symbols) c.n.result _ c.deref.result.now c.n.ensures.value c.in_ok-arrivals.ensures.len (λ j lj. c.in_ok-arrivals.ensures.at j lj ∙ arrived_or (λ (x : Bor (List ℕ)). x.now) r.symbols c.args.b c.of_block.result _ c.unwrap_or-came.result c.unwrap_or-came.ensures refl c.of_block.ensures.none c.of_block.ensures.some j) c.deref.ensures.value in
    if_ok_some (λ (rows : Rows). AreRows c.args.received.now.fti c.args.b (bytes_of_esi c.deref.result.now) rows.bytes.items)
    (λ (rows : Rows). AreRows c.args.received.now.fti c.args.b (bytes_at c.args.received.now.symbols c.args.b) rows.bytes.items) _
    (λ rows. rows_at r.fti c.args.b (bytes_at r.symbols) c.requires.within c.deref.result.now a.len a.same rows.bytes.items) c.block_rows.ensures.rows

pub returns-clause-none : goal.returns-clause-none
returns-clause-none c =
    let r = c.args.received.now in
    let a = are_arrivals r.fti c.args.b (bytes_at r.symbols) c.n.result _ c.deref.result.now c.n.ensures.value c.in_ok-arrivals.ensures.len (λ j lj. c.in_ok-arrivals.ensures.at j lj ∙ arrived_or (λ (x : Bor (List ℕ)). x.now) r.symbols c.args.b c.of_block.result _ c.unwrap_or-came.result c.unwrap_or-came.ensures refl c.of_block.ensures.none c.of_block.ensures.some j) c.deref.ensures.value in
    if_ok (λ o. IsNone o → IsUnexplained c.args.received.now.fti c.args.b (bytes_of_esi c.deref.result.now))
    (λ o. IsNone o → IsUnexplained c.args.received.now.fti c.args.b (bytes_at c.args.received.now.symbols c.args.b)) _
    (λ o h none. unexplained_at r.fti c.args.b (bytes_at r.symbols) c.requires.within c.deref.result.now a.len a.same (h none)) c.block_rows.ensures.none
