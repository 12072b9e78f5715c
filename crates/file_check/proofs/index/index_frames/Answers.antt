use Rattle.std.proofs.Common.{rules, arith, ◌≡◌, ◌<◌, ◌∙◌, ◌+◌, ◌∷◌, [], ℕ, List, length, length-append, refl, sym, ap}
use Rattle.session.specs.Frames.{IsDatagram}
use Rattle.session.proofs.Passing.{at_start, none_read, one_read, read_more, stands}
use Rattle.cert.specs.Tallying.{nothing}
use Rattle.file_check.specs.Indexed.{extents_of}
use Rattle.file_check.proofs.Indexing.{none_stands, one_stands}
use Rattle.file_check.proofs.index.index_frames.Goals as goal

pub loop-datagram-init : goal.loop-datagram-init
loop-datagram-init g c =
    let content = g.R.Read.remaining c.args.reader.now in
    record {
      read = rw (c.new-position.ensures.offset, c.new-position.ensures.place, c.new-2.ensures.none)
          (at_start content, rw (none_read content) (c.in_ok-new.ensures.none nothing), rw (none_read content) refl, rw (none_read content) (none_stands content));
      end = c.new-2.ensures.end ∙ sym c.new-position.ensures.offset;
      identity = c.in_ok-new.ensures.identity;
      stays = refl;
    }

pub returns-in-Ok-None : goal.returns-in-Ok-None
returns-in-Ok-None g c =
    let read = c.loop-datagram.invariant.read in
    record {
      datagrams = read.0.read;
      each = read.0.each;
      left = g.R.Read.remaining c.loop-datagram.reader;
      consumed = read.0.bytes;
      identity = c.loop-datagram.invariant.identity;
      tallied = read.1;
      many = read.2;
      stand = read.3;
      ends = (c.in-Ok-None.ensures.none c.in-Ok-None.field-0-is).0;
    }

pub returns-in-Err : goal.returns-in-Err
returns-in-Err g c =
    let read = c.loop-datagram.invariant.read in
    record {
      datagrams = read.0.read;
      each = read.0.each;
      left = g.R.Read.remaining c.loop-datagram.reader;
      consumed = read.0.bytes;
      identity = c.loop-datagram.invariant.identity;
      tallied = read.1;
      many = read.2;
      stand = read.3;
      ends = (
        (g.R.Read.remaining c.read_next_into.new.reader, g.R.Read.failed c.read_next_into.new.reader, c.in-Err.ensures.fault),
        λ e. sym c.loop-datagram.invariant.stays ∙ c.in-Err.ensures.unsound e,
      );
    }

pub take-requires-clause-tallied : goal.take-requires-clause-tallied
take-requires-clause-tallied g c = let read = c.loop-datagram.invariant.read in (c.args.fti, read.0.read, read.1)

pub take-requires-clause-begin : goal.take-requires-clause-begin
take-requires-clause-begin g c = c.in-Ok.ensures.offset ∙ ap (λ (n : ℕ). n + 2) (sym c.loop-datagram.invariant.end)

pub take-requires-clause-fits : goal.take-requires-clause-fits
take-requires-clause-fits g c =
    let fits : c.in-Ok.next.offset < 18446744073709551616 = search rules in
    let begin = c.in-Ok.ensures.offset in
    let long = c.in-Ok.ensures.length in
    let behind = c.in-Ok.ensures.behind in
    omega (arith, fits, begin, long, behind)

pub returns-in-Some : goal.returns-in-Some
returns-in-Some g c =
    let read = c.loop-datagram.invariant.read in
    let d = c.in-Ok-Some.datagram.items in
    let here : IsDatagram d = record { short = rw c.in-Ok-Some.field-0-is at c.in-Ok-Some.ensures.short; bytes = rw c.as_slice-bytes.ensures.value at c.are_bytes.ensures } in
    let same = rw c.in-Some.is at c.in_ok-take.ensures.stays in
    let against = rw (c.in-Some.is, c.as_slice-bytes.ensures.value) at c.in_ok-take.ensures.against in
    rw same (record {
      datagrams = read.0.read;
      each = read.0.each;
      left = g.R.Read.remaining c.loop-datagram.reader;
      consumed = read.0.bytes;
      identity = c.loop-datagram.invariant.identity;
      tallied = read.1;
      many = read.2;
      stand = read.3;
      ends = (d, g.R.Read.remaining c.read_next_into.new.reader, here, rw c.in-Ok-Some.field-0-is at c.in-Ok-Some.ensures.some, against);
    })

pub loop-datagram-smaller : goal.loop-datagram-smaller
loop-datagram-smaller g c = rw c.in-Ok-Some.field-0-is at c.in-Ok-Some.ensures.falls

pub loop-datagram-preserved : goal.loop-datagram-preserved
loop-datagram-preserved g c =
    let content = g.R.Read.remaining c.args.reader.now in
    let left = g.R.Read.remaining c.loop-datagram.reader in
    let new = g.R.Read.remaining c.read_next_into.new.reader in
    let read = c.loop-datagram.invariant.read in
    let d = c.in-Ok-Some.datagram.items in
    let offset = c.loop-datagram.position.offset in
    let place = c.loop-datagram.position.place in
    let short = rw c.in-Ok-Some.field-0-is at c.in-Ok-Some.ensures.short in
    let some = rw c.in-Ok-Some.field-0-is at c.in-Ok-Some.ensures.some in
    let bytes = rw c.as_slice-bytes.ensures.value at c.are_bytes.ensures in
    let size : length c.as_slice-bytes.result.now ≡ length d = ap (λ (l : List ℕ). length l) c.as_slice-bytes.ensures.value in
    let behind = c.in-Ok.ensures.behind ∙ ap (λ (n : ℕ). offset + 2 + n) size in
    let more = read_more content left offset place read.0 new d some short bytes c.in-Ok.next.offset behind in
    let is = one_read content left offset place read.0 new d some short bytes c.in-Ok.next.offset behind in
    let e = c.in_ok-take.ensures in
    let tallied = rw c.as_slice-bytes.ensures.value at (e.taken c.args.fti read.0.read read.1 c.in-None.is) in
    let extents = e.extents c.in-None.is in
    record {
      read = rw (c.in-Ok.ensures.more, extents) (
        more,
        rw is tallied,
        rw is (length-append (extents_of c.loop-datagram.index.extents) (c.in-Ok.extent ∷ []) ∙ ap (λ (n : ℕ). n + 1) read.2 ∙ sym (length-append read.0.read (d ∷ []))),
        rw is (one_stands content (extents_of c.loop-datagram.index.extents) read.0.read c.in-Ok.extent d read.2 read.3
            (λ x told. stands content left offset place read.0 new d some short x told c.in-Ok.extent c.in-Ok.ensures.offset (c.in-Ok.ensures.length ∙ size))),
      );
      end =
          (let end = e.end c.in-None.is in
          let begin = c.in-Ok.ensures.offset in
          let long = c.in-Ok.ensures.length in
          let there = c.in-Ok.ensures.behind in
          omega (arith, end, begin, long, there));
      identity = ap (λ s. s.identity) e.scope ∙ c.loop-datagram.invariant.identity;
      stays = c.in-Ok-Some.ensures.stays ∙ c.loop-datagram.invariant.stays;
    }
