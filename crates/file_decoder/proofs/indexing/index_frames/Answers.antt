use Rattle.std.proofs.Common.{◌≡◌, ◌∙◌, ◌+◌, ℕ, Ok, length, refl, sym, ap, subst, arith}
use Rattle.std.specs.Prelude.{not}
use Rattle.std.proofs.lemmas.Result.{err_from_is_err_and}
use Rattle.session.proofs.WholeFrames.{fault_behind}
use Rattle.reception.specs.declared.scope.Look.TheVariants as look_at
use Rattle.reception.specs.Reception.{with_fti}
use Rattle.reception.specs.declared.scope.Scope.{Scope}
use Rattle.reception.proofs.Looks.{faultless_look}
use Rattle.file_decoder.specs.InFile.{held_in, AreSymbolsIn, IsSymbolIn}
use Rattle.block_recovery.specs.Received.{came_at}
use Rattle.session.proofs.Passing.{Behind, at_start, read_more, is_next, stands, all_read, read_frames, rest_frames}
use Rattle.file_decoder.proofs.FileFaults.{frame_fault_is, not_again}
use Rattle.file_decoder.proofs.Indexed.{scan_starts, scan_ends, scan_passes, scan_stops, scan_clashes, scan_keeps, none_in_range, has_both}
use Rattle.file_decoder.proofs.ReadAgain.{same_scope, symbol_moves}
use Rattle.file_decoder.specs.declared.rereading.Place.{Place}
use Rattle.file_decoder.proofs.indexing.index_frames.Goals as goal

pub loop-symbols-init : goal.loop-symbols-init
loop-symbols-init g c = record {
  behind = rw (c.requires.bytes, c.new-position.ensures.offset, c.new-position.ensures.place) (at_start (g.F.ReadAt.content c.args.file.now));
  stays = refl;
  scanned = λ x ds told framed known.
      rw c.new-position.ensures.place
      (scan_starts c.args.identity c.args.fti ds known (came_at (held_in x) c.new-symbols.result) (c.new-symbols.ensures.none (held_in x)));
  placed = λ x told b k d l. absurd (let e = ap length (c.new-symbols.ensures.empty b) in omega (arith, e, l));
  range = λ held. none_in_range c.args.fti (came_at held c.new-symbols.result) (c.new-symbols.ensures.none held);
}

pub returns-in_default-clause-received : goal.returns-in_default-clause-received
returns-in_default-clause-received g c = λ x ds told framed known.
    let i = c.loop-symbols.invariant in
    scan_ends c.args.identity c.args.fti ds known (came_at (held_in x) c.loop-symbols.symbols) c.loop-symbols.position.place (i.scanned x ds told framed known)
    (all_read (g.F.ReadAt.content c.args.file.now) (g.R.Read.remaining c.loop-symbols.reader) c.loop-symbols.position.offset c.loop-symbols.position.place i.behind
    (c.in_ok-datagram.ensures.none c.in_default.is).0 x told ds framed)

pub loop-symbols-preserved-in-Ok-Other : goal.loop-symbols-preserved-in-Ok-Other
loop-symbols-preserved-in-Ok-Other g c =
    let content = g.F.ReadAt.content c.args.file.now in
    let left = g.R.Read.remaining c.loop-symbols.reader in
    let new = g.R.Read.remaining c.read_next_into.new.reader in
    let i = c.loop-symbols.invariant in
    let d = c.in-Some.datagram.items in
    let who = c.args.identity in
    let f = c.args.fti in
    let place = c.loop-symbols.position.place in
    let reads = rw c.in-Some.is at c.in_ok-datagram.ensures.some in
    let short = rw c.in-Some.is at c.in_ok-datagram.ensures.short in
    let bytes = rw c.as_slice-bytes.ensures.value at c.are_bytes.ensures in
    let look = rw (c.as_slice-bytes.ensures.value, c.with_fti-scope.ensures, c.in-Ok-Other.is, c.in-Ok-Other.field-0-is) at c.look-look.ensures in
    record {
      behind = subst (λ (n : ℕ). Behind (g.F.ReadAt.content c.args.file.now) (g.R.Read.remaining c.read_next_into.new.reader) c.in_ok-here.next.offset n) (sym c.in_ok-here.ensures.more)
          (read_more content left c.loop-symbols.position.offset place i.behind new d reads short bytes c.in_ok-here.next.offset (omega (arith, c.in_ok-here.ensures.behind, ap length c.as_slice-bytes.ensures.value)));
      stays = c.in_ok-datagram.ensures.stays ∙ i.stays;
      scanned = λ x ds told framed known.
          let n = is_next content left c.loop-symbols.position.offset place i.behind new d reads short x told ds framed in
          rw c.in_ok-here.ensures.more
          (scan_passes who f ds known (came_at (held_in x) c.loop-symbols.symbols) place (i.scanned x ds told framed known) d c.look-look.new.self n.0 n.1 (Ok look_at.Other) look refl (λ p e. cc));
      placed = i.placed;
      range = i.range;
    }

pub returns-in_err-read_rest-clause-unread : goal.returns-in_err-read_rest-clause-unread
returns-in_err-read_rest-clause-unread g c =
    let content = g.F.ReadAt.content c.args.file.now in
    let left = g.R.Read.remaining c.loop-symbols.reader in
    let new = g.R.Read.remaining c.read_next_into.new.reader in
    let i = c.loop-symbols.invariant in
    let d = c.in-Some.datagram.items in
    let who = c.args.identity in
    let f = c.args.fti in
    let place = c.loop-symbols.position.place in
    let reads = rw c.in-Some.is at c.in_ok-datagram.ensures.some in
    let short = rw c.in-Some.is at c.in_ok-datagram.ensures.short in
    let bytes = rw c.as_slice-bytes.ensures.value at c.are_bytes.ensures in
    let p = err_from_is_err_and c.from_residual-in_err-read_rest.result c.from_residual-in_err-read_rest.ensures.1 in
    let b = read_more content left c.loop-symbols.position.offset place i.behind new d reads short bytes _ refl in
    rw (p.1, p.2)
    (frame_fault_is content (g.R.Read.failed c.read_rest.new.reader) (g.F.ReadAt.reliable c.args.file.now) c.in_err-read_rest.field-0.0
    (fault_behind c.in_err-read_rest.field-0.0 content new (g.R.Read.failed c.read_rest.new.reader) b.read b.bytes b.short c.in_err-read_rest.ensures.fault)
    (λ io. sym c.requires.sound ∙ sym i.stays ∙ sym c.in_ok-datagram.ensures.stays ∙ c.in_err-read_rest.ensures.unsound io))

pub returns-in-Some-fault_at-clause-fault : goal.returns-in-Some-fault_at-clause-fault
returns-in-Some-fault_at-clause-fault g c = λ x ds told framed known.
    let content = g.F.ReadAt.content c.args.file.now in
    let left = g.R.Read.remaining c.loop-symbols.reader in
    let new = g.R.Read.remaining c.read_next_into.new.reader in
    let i = c.loop-symbols.invariant in
    let d = c.in-Some.datagram.items in
    let who = c.args.identity in
    let f = c.args.fti in
    let place = c.loop-symbols.position.place in
    let reads = rw c.in-Some.is at c.in_ok-datagram.ensures.some in
    let short = rw c.in-Some.is at c.in_ok-datagram.ensures.short in
    let bytes = rw c.as_slice-bytes.ensures.value at c.are_bytes.ensures in
    let look = rw (c.as_slice-bytes.ensures.value, c.with_fti-scope.ensures) at c.look-look.ensures in
    let n = is_next content left c.loop-symbols.position.offset place i.behind new d reads short x told ds framed in
    let bad = rw c.in-Some-fault_at.is at c.fault_at.ensures.fault in
    rw bad.2
    (scan_stops who f ds known (came_at (held_in x) c.loop-symbols.symbols) place (i.scanned x ds told framed known) d c.look-look.new.self n.0 n.1 c.look-look.result look bad.0 bad.1)

pub returns-in-Some-fault_at-clause-whole : goal.returns-in-Some-fault_at-clause-whole
returns-in-Some-fault_at-clause-whole g c =
    let content = g.F.ReadAt.content c.args.file.now in
    let left = g.R.Read.remaining c.loop-symbols.reader in
    let new = g.R.Read.remaining c.read_next_into.new.reader in
    let i = c.loop-symbols.invariant in
    let d = c.in-Some.datagram.items in
    let who = c.args.identity in
    let f = c.args.fti in
    let place = c.loop-symbols.position.place in
    let reads = rw c.in-Some.is at c.in_ok-datagram.ensures.some in
    let short = rw c.in-Some.is at c.in_ok-datagram.ensures.short in
    let bytes = rw c.as_slice-bytes.ensures.value at c.are_bytes.ensures in
    let b = read_more content left c.loop-symbols.position.offset place i.behind new d reads short bytes _ refl in
    rest_frames content new _ (place + 1) b c.in_ok-read_rest.ensures.whole

pub keep-requires : goal.keep-requires
keep-requires g c =
    let content = g.F.ReadAt.content c.args.file.now in
    let left = g.R.Read.remaining c.loop-symbols.reader in
    let new = g.R.Read.remaining c.read_next_into.new.reader in
    let i = c.loop-symbols.invariant in
    let d = c.in-Some.datagram.items in
    let who = c.args.identity in
    let f = c.args.fti in
    let place = c.loop-symbols.position.place in
    let reads = rw c.in-Some.is at c.in_ok-datagram.ensures.some in
    let short = rw c.in-Some.is at c.in_ok-datagram.ensures.short in
    let bytes = rw c.as_slice-bytes.ensures.value at c.are_bytes.ensures in
    let look = rw (c.as_slice-bytes.ensures.value, c.with_fti-scope.ensures) at c.look-look.ensures in
    (f, ap (λ s. s.fti) (same_scope d (with_fti c.args.identity c.args.fti) c.look-look.new.self c.look-look.result look f refl))

pub returns-in_err-read_rest-2-clause-unread : goal.returns-in_err-read_rest-2-clause-unread
returns-in_err-read_rest-2-clause-unread g c =
    let content = g.F.ReadAt.content c.args.file.now in
    let left = g.R.Read.remaining c.loop-symbols.reader in
    let new = g.R.Read.remaining c.read_next_into.new.reader in
    let i = c.loop-symbols.invariant in
    let d = c.in-Some.datagram.items in
    let who = c.args.identity in
    let f = c.args.fti in
    let place = c.loop-symbols.position.place in
    let reads = rw c.in-Some.is at c.in_ok-datagram.ensures.some in
    let short = rw c.in-Some.is at c.in_ok-datagram.ensures.short in
    let bytes = rw c.as_slice-bytes.ensures.value at c.are_bytes.ensures in
    let p = err_from_is_err_and c.from_residual-in_err-read_rest-2.result c.from_residual-in_err-read_rest-2.ensures.1 in
    let b = read_more content left c.loop-symbols.position.offset place i.behind new d reads short bytes _ refl in
    rw (p.1, p.2)
    (frame_fault_is content (g.R.Read.failed c.read_rest-then-not-branch.new.reader) (g.F.ReadAt.reliable c.args.file.now) c.in_err-read_rest-2.field-0.0
    (fault_behind c.in_err-read_rest-2.field-0.0 content new (g.R.Read.failed c.read_rest-then-not-branch.new.reader) b.read b.bytes b.short c.in_err-read_rest-2.ensures.fault)
    (λ io. sym c.requires.sound ∙ sym i.stays ∙ sym c.in_ok-datagram.ensures.stays ∙ c.in_err-read_rest-2.ensures.unsound io))

pub returns-then-not-branch-clause-fault : goal.returns-then-not-branch-clause-fault
returns-then-not-branch-clause-fault g c = λ x ds told framed known.
    let content = g.F.ReadAt.content c.args.file.now in
    let left = g.R.Read.remaining c.loop-symbols.reader in
    let new = g.R.Read.remaining c.read_next_into.new.reader in
    let i = c.loop-symbols.invariant in
    let d = c.in-Some.datagram.items in
    let who = c.args.identity in
    let f = c.args.fti in
    let place = c.loop-symbols.position.place in
    let reads = rw c.in-Some.is at c.in_ok-datagram.ensures.some in
    let short = rw c.in-Some.is at c.in_ok-datagram.ensures.short in
    let bytes = rw c.as_slice-bytes.ensures.value at c.are_bytes.ensures in
    let look = rw (c.as_slice-bytes.ensures.value, c.with_fti-scope.ensures, c.in-Ok-InRange.is, c.in-Ok-InRange.field-0-is) at c.look-look.ensures in
    let n = is_next content left c.loop-symbols.position.offset place i.behind new d reads short x told ds framed in
    let same = same_scope d (with_fti who f) c.look-look.new.self _ look f refl in
    let placed = subst (λ (s : Scope). AreSymbolsIn x s c.loop-symbols.symbols) (sym same) (i.placed x told) in
    scan_clashes who f ds known (came_at (held_in x) c.loop-symbols.symbols) place (i.scanned x ds told framed known) d c.look-look.new.self n.0 n.1 c.in-Ok-InRange.packet look
    (λ earlier index. c.in_ok-keep.ensures.clash x told placed earlier index ∙ ap not c.if-not-branch.true)

pub returns-then-not-branch-clause-whole : goal.returns-then-not-branch-clause-whole
returns-then-not-branch-clause-whole g c =
    let content = g.F.ReadAt.content c.args.file.now in
    let left = g.R.Read.remaining c.loop-symbols.reader in
    let new = g.R.Read.remaining c.read_next_into.new.reader in
    let i = c.loop-symbols.invariant in
    let d = c.in-Some.datagram.items in
    let who = c.args.identity in
    let f = c.args.fti in
    let place = c.loop-symbols.position.place in
    let reads = rw c.in-Some.is at c.in_ok-datagram.ensures.some in
    let short = rw c.in-Some.is at c.in_ok-datagram.ensures.short in
    let bytes = rw c.as_slice-bytes.ensures.value at c.are_bytes.ensures in
    let b = read_more content left c.loop-symbols.position.offset place i.behind new d reads short bytes _ refl in
    rest_frames content new _ (place + 1) b c.in_ok-read_rest-2.ensures.whole

pub returns-in_err-keep-clause-unread : goal.returns-in_err-keep-clause-unread
returns-in_err-keep-clause-unread g c =
    let content = g.F.ReadAt.content c.args.file.now in
    let left = g.R.Read.remaining c.loop-symbols.reader in
    let new = g.R.Read.remaining c.read_next_into.new.reader in
    let i = c.loop-symbols.invariant in
    let d = c.in-Some.datagram.items in
    let who = c.args.identity in
    let f = c.args.fti in
    let place = c.loop-symbols.position.place in
    let reads = rw c.in-Some.is at c.in_ok-datagram.ensures.some in
    let short = rw c.in-Some.is at c.in_ok-datagram.ensures.short in
    let bytes = rw c.as_slice-bytes.ensures.value at c.are_bytes.ensures in
    let look = rw (c.as_slice-bytes.ensures.value, c.with_fti-scope.ensures, c.in-Ok-InRange.is, c.in-Ok-InRange.field-0-is) at c.look-look.ensures in
    let same = same_scope d (with_fti who f) c.look-look.new.self _ look f refl in
    let p = err_from_is_err_and c.from_residual-in_err-keep.result c.from_residual-in_err-keep.ensures.1 in
    rw (p.1, p.2)
    (not_again content (g.F.ReadAt.reliable c.args.file.now) c.in_err-keep.field-0.0 c.in_err-keep.ensures.io
    (λ x told e. c.in_err-keep.ensures.again x told (subst (λ (s : Scope). AreSymbolsIn x s c.loop-symbols.symbols) (sym same) (i.placed x told)) e))

pub loop-symbols-preserved : goal.loop-symbols-preserved
loop-symbols-preserved g c =
    let content = g.F.ReadAt.content c.args.file.now in
    let left = g.R.Read.remaining c.loop-symbols.reader in
    let new = g.R.Read.remaining c.read_next_into.new.reader in
    let i = c.loop-symbols.invariant in
    let d = c.in-Some.datagram.items in
    let who = c.args.identity in
    let f = c.args.fti in
    let place = c.loop-symbols.position.place in
    let reads = rw c.in-Some.is at c.in_ok-datagram.ensures.some in
    let short = rw c.in-Some.is at c.in_ok-datagram.ensures.short in
    let bytes = rw c.as_slice-bytes.ensures.value at c.are_bytes.ensures in
    let look = rw (c.as_slice-bytes.ensures.value, c.with_fti-scope.ensures, c.in-Ok-InRange.is, c.in-Ok-InRange.field-0-is) at c.look-look.ensures in
    let p = c.in-Ok-InRange.packet in
    let same = same_scope d (with_fti who f) c.look-look.new.self _ look f refl in
    let known_fti = ap (λ (s : Scope). s.fti) same in
    let both = has_both f p.sbn p.esi (faultless_look d (with_fti who f) c.look-look.new.self p look f known_fti).range in
    let stands_at : Place = record { offset = c.in_ok-here.here.offset; length = c.in_ok-here.here.length; carrier = c.is_some.result } in
    let long : c.in_ok-here.here.length ≡ length c.in-Some.datagram.items = omega (arith, c.in_ok-here.ensures.length, ap length c.as_slice-bytes.ensures.value) in
    record {
      behind = subst (λ (n : ℕ). Behind (g.F.ReadAt.content c.args.file.now) (g.R.Read.remaining c.read_next_into.new.reader) c.in_ok-here.next.offset n) (sym c.in_ok-here.ensures.more)
          (read_more content left c.loop-symbols.position.offset place i.behind new d reads short bytes c.in_ok-here.next.offset (omega (arith, c.in_ok-here.ensures.behind, ap length c.as_slice-bytes.ensures.value)));
      stays = c.in_ok-datagram.ensures.stays ∙ i.stays;
      scanned = λ x ds told framed known.
          let n = is_next content left c.loop-symbols.position.offset place i.behind new d reads short x told ds framed in
          let stand = stands content left c.loop-symbols.position.offset place i.behind new d reads short x told c.in_ok-here.here c.in_ok-here.ensures.offset long in
          let moved = symbol_moves d (with_fti who f) c.look-look.new.self p look f refl x stands_at stand.0 stand.1 c.is_some.ensures in
          let placed = subst (λ (s : Scope). AreSymbolsIn x s c.loop-symbols.symbols) (sym same) (i.placed x told) in
          rw c.in_ok-here.ensures.more
          (scan_keeps who f ds known (came_at (held_in x) c.loop-symbols.symbols) place (i.scanned x ds told framed known) d c.look-look.new.self n.0 n.1 p look (came_at (held_in x) c.keep.new.symbols)
          (λ earlier index. c.in_ok-keep.ensures.clash x told placed earlier index ∙ ap not c.if-not-branch.false) (c.in_ok-keep.ensures.here x told placed moved.0 c.if-not-branch.false) (λ b j. c.in_ok-keep.ensures.elsewhere (held_in x) b j));
      placed = λ x told.
          let stand = stands content left c.loop-symbols.position.offset place i.behind new d reads short x told c.in_ok-here.here c.in_ok-here.ensures.offset long in
          let moved = symbol_moves d (with_fti who f) c.look-look.new.self p look f refl x stands_at stand.0 stand.1 c.is_some.ensures in
          let placed = subst (λ (s : Scope). AreSymbolsIn x s c.loop-symbols.symbols) (sym same) (i.placed x told) in
          subst (λ (s : Scope). AreSymbolsIn x s c.keep.new.symbols) same
          (c.in_ok-keep.ensures.placed x placed (subst (λ (s : Scope). IsSymbolIn x s c.in-Ok-InRange.packet.sbn c.in-Ok-InRange.packet.esi stands_at) (sym same) moved.1));
      range = λ held. c.in_ok-keep.ensures.range f both.0 both.1 held (i.range held);
    }

pub returns-in_default-clause-whole : goal.returns-in_default-clause-whole
returns-in_default-clause-whole g c =
    read_frames (g.F.ReadAt.content c.args.file.now) (g.R.Read.remaining c.loop-symbols.reader) c.loop-symbols.position.offset c.loop-symbols.position.place c.loop-symbols.invariant.behind
    (c.in_ok-datagram.ensures.none c.in_default.is).0
