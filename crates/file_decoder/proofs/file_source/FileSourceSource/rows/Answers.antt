use Rattle.std.specs.Prelude.{is_some}
use Rattle.std.specs.Option.{unwrap_or}
use Rattle.std.specs.Borrow.{Bor}
use Rattle.std.proofs.Common.{◌≡◌, ◌∙◌, ◌<◌, ℕ, List, [], Option, length, refl, sym, ap}
use Rattle.std.proofs.lemmas.Result.{err_from_is_err_and}
use Rattle.reception.specs.declared.scope.Scope.{Scope}
use Rattle.block_recovery.specs.Arrivals.{arrived_at}
use Rattle.block_recovery.specs.Blocks.{bytes_of_esi}
use Rattle.block_recovery.specs.Decoded.{AreRows}
use Rattle.file_decoder.specs.InFile.{file_at, held_in, AreOfBlock}
use Rattle.block_recovery.specs.Received.{came_at, list_of}
use Rattle.block_recovery.specs.declared.arrivals.Arrival.{Arrival}
use Rattle.block_recovery.specs.declared.rows.Rows.{Rows}
use Rattle.block_recovery.proofs.Arrived.{arrived_or}
use Rattle.block_recovery.proofs.BlockRows.{are_arrivals, rows_at, unexplained_at}
use Rattle.file_decoder.proofs.FromFile.{again_length, again_enough, came_list, told_is, if_some}
use Rattle.file_decoder.proofs.ReadAgain.{unread_of}
use Rattle.file_decoder.proofs.file_source.FileSourceSource.rows.Goals as goal

pub returns-in_err-symbols-clause-fault : goal.returns-in_err-symbols-clause-fault
returns-in_err-symbols-clause-fault g c =
    let ix = c.args.self.now.indexed.now in
    let p = err_from_is_err_and c.from_residual-in_err-symbols.result c.from_residual-in_err-symbols.ensures.1 in
    let list = came_list (list_of ix.symbols c.args.b) c.of_block.result _ c.unwrap_or-came.result c.unwrap_or-came.ensures refl c.of_block.ensures.empty c.of_block.ensures.list in
    rw (p.1, p.2)
    (unread_of _ _ _ _ (λ told. (told.0, told.1, rw (list, c.with_fti-scope.ensures) (told.2 c.args.b)))
    (rw (c.in_ok-read.ensures.file ∙ c.requires.fits.0) at c.in_err-symbols.ensures.fault))

pub block_rows-requires-clause-count : goal.block_rows-requires-clause-count
block_rows-requires-clause-count g c =
    let ix = c.args.self.now.indexed.now in
    let content = g.F.ReadAt.content c.args.self.now.file.now in
    let f = c.args.self.now.indexed.now.fti in
    let b = c.args.b in
    let at = file_at (g.F.ReadAt.content c.args.self.now.file.now) c.args.self.now.indexed.now.symbols in
    let again = arrived_at (λ (v : Bor (List ℕ)). v.now) c.in_ok-symbols.symbols.items in
    let a =
    are_arrivals f b (λ (n : ℕ). arrived_at (λ (v : Bor (List ℕ)). v.now) c.in_ok-symbols.symbols.items) c.n.result _ c.deref-2.result.now c.n.ensures.value c.in_ok-arrivals.ensures.len
    (λ j lj. c.in_ok-arrivals.ensures.at j lj ∙ ap (λ (l : List (Arrival (Bor (List ℕ)))). arrived_at (λ (v : Bor (List ℕ)). v.now) l j) c.deref.ensures.value) c.deref-2.ensures.value in
    a.len

pub block_rows-requires-clause-symbols : goal.block_rows-requires-clause-symbols
block_rows-requires-clause-symbols g c =
    let ix = c.args.self.now.indexed.now in
    let content = g.F.ReadAt.content c.args.self.now.file.now in
    let f = c.args.self.now.indexed.now.fti in
    let b = c.args.b in
    let at = file_at (g.F.ReadAt.content c.args.self.now.file.now) c.args.self.now.indexed.now.symbols in
    let again = arrived_at (λ (v : Bor (List ℕ)). v.now) c.in_ok-symbols.symbols.items in
    let a =
    are_arrivals f b (λ (n : ℕ). arrived_at (λ (v : Bor (List ℕ)). v.now) c.in_ok-symbols.symbols.items) c.n.result _ c.deref-2.result.now c.n.ensures.value c.in_ok-arrivals.ensures.len
    (λ j lj. c.in_ok-arrivals.ensures.at j lj ∙ ap (λ (l : List (Arrival (Bor (List ℕ)))). arrived_at (λ (v : Bor (List ℕ)). v.now) l j) c.deref.ensures.value) c.deref-2.ensures.value in
    again_length f b again c.deref-2.result.now a.len a.same (c.in_ok-symbols.ensures.size f (ap (λ (s : Scope). s.fti) c.with_fti-scope.ensures))

pub block_rows-requires-clause-enough : goal.block_rows-requires-clause-enough
block_rows-requires-clause-enough g c =
    let ix = c.args.self.now.indexed.now in
    let content = g.F.ReadAt.content c.args.self.now.file.now in
    let f = c.args.self.now.indexed.now.fti in
    let b = c.args.b in
    let at = file_at (g.F.ReadAt.content c.args.self.now.file.now) c.args.self.now.indexed.now.symbols in
    let again = arrived_at (λ (v : Bor (List ℕ)). v.now) c.in_ok-symbols.symbols.items in
    let a =
    are_arrivals f b (λ (n : ℕ). arrived_at (λ (v : Bor (List ℕ)). v.now) c.in_ok-symbols.symbols.items) c.n.result _ c.deref-2.result.now c.n.ensures.value c.in_ok-arrivals.ensures.len
    (λ j lj. c.in_ok-arrivals.ensures.at j lj ∙ ap (λ (l : List (Arrival (Bor (List ℕ)))). arrived_at (λ (v : Bor (List ℕ)). v.now) l j) c.deref.ensures.value) c.deref-2.ensures.value in
    let held = held_in (unwrap_or content []) in
    again_enough f b again c.deref-2.result.now a.len a.same (at b)
    (λ j. c.in_ok-symbols.ensures.some held j
    ∙ ap is_some (arrived_or held ix.symbols b c.of_block.result _ c.unwrap_or-came.result c.unwrap_or-came.ensures refl c.of_block.ensures.none c.of_block.ensures.some j))
    c.requires.enough

pub returns-clause-rows : goal.returns-clause-rows
returns-clause-rows g c = λ told.
    let ix = c.args.self.now.indexed.now in
    let content = g.F.ReadAt.content c.args.self.now.file.now in
    let f = c.args.self.now.indexed.now.fti in
    let b = c.args.b in
    let at = file_at (g.F.ReadAt.content c.args.self.now.file.now) c.args.self.now.indexed.now.symbols in
    let again = arrived_at (λ (v : Bor (List ℕ)). v.now) c.in_ok-symbols.symbols.items in
    let a =
    are_arrivals f b (λ (n : ℕ). arrived_at (λ (v : Bor (List ℕ)). v.now) c.in_ok-symbols.symbols.items) c.n.result _ c.deref-2.result.now c.n.ensures.value c.in_ok-arrivals.ensures.len
    (λ j lj. c.in_ok-arrivals.ensures.at j lj ∙ ap (λ (l : List (Arrival (Bor (List ℕ)))). arrived_at (λ (v : Bor (List ℕ)). v.now) l j) c.deref.ensures.value) c.deref-2.ensures.value in
    let x = told.0 in
    let list = came_list (list_of ix.symbols b) c.of_block.result _ c.unwrap_or-came.result c.unwrap_or-came.ensures refl c.of_block.ensures.empty c.of_block.ensures.list in
    let placed : AreOfBlock told.0 c.with_fti-scope.result c.args.b c.unwrap_or-came.result.now =
    rw (list, c.with_fti-scope.ensures) (told.2 b) in
    let same : (j : ℕ) → j < length c.deref-2.result.now → bytes_of_esi c.deref-2.result.now j ≡ file_at (g.F.ReadAt.content c.args.self.now.file.now) c.args.self.now.indexed.now.symbols c.args.b j =
    λ j lj. a.same j lj ∙ ap (λ (h : ℕ → Option (List ℕ)). h j) ((rw (c.in_ok-read.ensures.file ∙ c.requires.fits.0) at c.in_ok-symbols.ensures.symbols) x told.1 placed)
    ∙ arrived_or (held_in x) ix.symbols b c.of_block.result _ c.unwrap_or-came.result c.unwrap_or-came.ensures refl c.of_block.ensures.none c.of_block.ensures.some j
    ∙ sym (ap (λ (y : List ℕ). came_at (held_in y) ix.symbols b j) (told_is content x told.1)) in
    if_some (λ (rows : Rows). AreRows c.args.self.now.indexed.now.fti c.args.b (bytes_of_esi c.deref-2.result.now) rows.bytes.items)
    (λ (rows : Rows). AreRows c.args.self.now.indexed.now.fti c.args.b (file_at (g.F.ReadAt.content c.args.self.now.file.now) c.args.self.now.indexed.now.symbols c.args.b) rows.bytes.items) _
    (λ rows. rows_at f b at (c.requires.within told) c.deref-2.result.now a.len same rows.bytes.items) c.in_ok-block_rows.ensures.rows

pub returns-clause-none : goal.returns-clause-none
returns-clause-none g c = λ told none.
    let ix = c.args.self.now.indexed.now in
    let content = g.F.ReadAt.content c.args.self.now.file.now in
    let f = c.args.self.now.indexed.now.fti in
    let b = c.args.b in
    let at = file_at (g.F.ReadAt.content c.args.self.now.file.now) c.args.self.now.indexed.now.symbols in
    let again = arrived_at (λ (v : Bor (List ℕ)). v.now) c.in_ok-symbols.symbols.items in
    let a =
    are_arrivals f b (λ (n : ℕ). arrived_at (λ (v : Bor (List ℕ)). v.now) c.in_ok-symbols.symbols.items) c.n.result _ c.deref-2.result.now c.n.ensures.value c.in_ok-arrivals.ensures.len
    (λ j lj. c.in_ok-arrivals.ensures.at j lj ∙ ap (λ (l : List (Arrival (Bor (List ℕ)))). arrived_at (λ (v : Bor (List ℕ)). v.now) l j) c.deref.ensures.value) c.deref-2.ensures.value in
    let x = told.0 in
    let list = came_list (list_of ix.symbols b) c.of_block.result _ c.unwrap_or-came.result c.unwrap_or-came.ensures refl c.of_block.ensures.empty c.of_block.ensures.list in
    let placed : AreOfBlock told.0 c.with_fti-scope.result c.args.b c.unwrap_or-came.result.now =
    rw (list, c.with_fti-scope.ensures) (told.2 b) in
    let same : (j : ℕ) → j < length c.deref-2.result.now → bytes_of_esi c.deref-2.result.now j ≡ file_at (g.F.ReadAt.content c.args.self.now.file.now) c.args.self.now.indexed.now.symbols c.args.b j =
    λ j lj. a.same j lj ∙ ap (λ (h : ℕ → Option (List ℕ)). h j) ((rw (c.in_ok-read.ensures.file ∙ c.requires.fits.0) at c.in_ok-symbols.ensures.symbols) x told.1 placed)
    ∙ arrived_or (held_in x) ix.symbols b c.of_block.result _ c.unwrap_or-came.result c.unwrap_or-came.ensures refl c.of_block.ensures.none c.of_block.ensures.some j
    ∙ sym (ap (λ (y : List ℕ). came_at (held_in y) ix.symbols b j) (told_is content x told.1)) in
    unexplained_at f b at (c.requires.within told) c.deref-2.result.now a.len same (c.in_ok-block_rows.ensures.none none)
