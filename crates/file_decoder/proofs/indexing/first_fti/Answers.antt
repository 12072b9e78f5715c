use Rattle.std.proofs.Common.{◌≡◌, ◌∙◌, ◌+◌, length, refl, sym, subst, arith}
use Rattle.file_decoder.proofs.FirstCarrier.{FirstSoFar, none_yet, carrier, heard_still, first_next, no_carrier, nothing_said}
use Rattle.session.proofs.Passing.{at_start, read_more, is_next, all_read, read_frames}
use Rattle.file_decoder.proofs.indexing.first_fti.Goals as goal

pub loop-datagram-init : goal.loop-datagram-init
loop-datagram-init g c = record {
  offset = 0;
  behind = at_start (g.R.Read.remaining c.args.reader.now);
  stays = refl;
  heard = λ x ds told framed. refl;
  faults = λ x ds told framed none. none_yet c.args.identity ds none;
}

pub returns-in-Some-first-clause-carrier : goal.returns-in-Some-first-clause-carrier
returns-in-Some-first-clause-carrier g c = λ x ds told framed.
    let content = g.R.Read.remaining c.args.reader.now in
    let left = g.R.Read.remaining c.loop-datagram.reader in
    let i = c.loop-datagram.invariant in
    let who = c.args.identity in
    let place = c.loop-datagram.place in
    let l = all_read content left i.offset place i.behind (c.in_ok-datagram.ensures.none c.in_default.is).0 x told ds framed in
    let heard = i.heard x ds told framed in
    let so_far = i.faults x ds told framed (no_carrier who ds place l heard) in
    subst (FirstSoFar who ds place) c.in-Some-first.is so_far

pub returns-in-None-clause-carrier : goal.returns-in-None-clause-carrier
returns-in-None-clause-carrier g c = λ x ds told framed.
    let content = g.R.Read.remaining c.args.reader.now in
    let left = g.R.Read.remaining c.loop-datagram.reader in
    let i = c.loop-datagram.invariant in
    let who = c.args.identity in
    let place = c.loop-datagram.place in
    let l = all_read content left i.offset place i.behind (c.in_ok-datagram.ensures.none c.in_default.is).0 x told ds framed in
    let heard = i.heard x ds told framed in
    let so_far = i.faults x ds told framed (no_carrier who ds place l heard) in
    nothing_said who ds place l heard (subst (FirstSoFar who ds place) c.in-None.is so_far)

pub returns-in-Some-carried-clause-carrier : goal.returns-in-Some-carried-clause-carrier
returns-in-Some-carried-clause-carrier g c = λ x ds told framed.
    let content = g.R.Read.remaining c.args.reader.now in
    let left = g.R.Read.remaining c.loop-datagram.reader in
    let i = c.loop-datagram.invariant in
    let who = c.args.identity in
    let place = c.loop-datagram.place in
    let new = g.R.Read.remaining c.read_next.new.reader in
    let d = c.in-Some.datagram.items in
    let reads = rw c.in-Some.is at c.in_ok-datagram.ensures.some in
    let short = rw c.in-Some.is at c.in_ok-datagram.ensures.short in
    let bytes = rw c.as_slice-bytes.ensures.value at c.are_bytes.ensures in
    let alone = c.look_alone-carried.ensures in
    let n = is_next content left i.offset place i.behind new d reads short x told ds framed in
    let here = c.as_slice-bytes.ensures.value ∙ n.1 in
    carrier who ds place c.as_slice-bytes.result.now alone.scope alone.answer n.0 here alone.look (i.heard x ds told framed) c.in-Some-carried.fti (sym alone.known ∙ c.in-Some-carried.is)

pub loop-datagram-preserved : goal.loop-datagram-preserved
loop-datagram-preserved g c =
    let content = g.R.Read.remaining c.args.reader.now in
    let left = g.R.Read.remaining c.loop-datagram.reader in
    let i = c.loop-datagram.invariant in
    let who = c.args.identity in
    let place = c.loop-datagram.place in
    let new = g.R.Read.remaining c.read_next.new.reader in
    let d = c.in-Some.datagram.items in
    let reads = rw c.in-Some.is at c.in_ok-datagram.ensures.some in
    let short = rw c.in-Some.is at c.in_ok-datagram.ensures.short in
    let bytes = rw c.as_slice-bytes.ensures.value at c.are_bytes.ensures in
    let alone = c.look_alone-carried.ensures in
    let next : c.in-Some-checked_add.next ≡ c.loop-datagram.place + 1 = omega (arith, c.in-Some-checked_add.ensures) in
    let none = sym alone.known ∙ c.in_default-carried.is in
    rw next (record {
      offset = i.offset + 2 + length c.in-Some.datagram.items;
      behind = read_more content left i.offset place i.behind new d reads short bytes _ refl;
      stays = c.in_ok-datagram.ensures.stays ∙ i.stays;
      heard = λ x ds told framed.
          let n = is_next content left i.offset place i.behind new d reads short x told ds framed in
          let here = c.as_slice-bytes.ensures.value ∙ n.1 in
          heard_still who ds place c.as_slice-bytes.result.now alone.scope alone.answer n.0 here alone.look none (i.heard x ds told framed);
      faults = λ x ds told framed last.
          let n = is_next content left i.offset place i.behind new d reads short x told ds framed in
          let here = c.as_slice-bytes.ensures.value ∙ n.1 in
          subst (FirstSoFar who ds (place + 1)) (sym c.or-first.ensures)
          (first_next who ds place c.as_slice-bytes.result.now alone.scope alone.answer n.0 here alone.look none c.loop-datagram.first _ (i.faults x ds told framed last) alone.clean alone.wrong);
    })

pub returns-in-Some-first-clause-whole : goal.returns-in-Some-first-clause-whole
returns-in-Some-first-clause-whole g c =
    read_frames (g.R.Read.remaining c.args.reader.now) (g.R.Read.remaining c.loop-datagram.reader) c.loop-datagram.invariant.offset c.loop-datagram.place c.loop-datagram.invariant.behind
    (c.in_ok-datagram.ensures.none c.in_default.is).0

pub returns-in-None-clause-whole : goal.returns-in-None-clause-whole
returns-in-None-clause-whole g c =
    read_frames (g.R.Read.remaining c.args.reader.now) (g.R.Read.remaining c.loop-datagram.reader) c.loop-datagram.invariant.offset c.loop-datagram.place c.loop-datagram.invariant.behind
    (c.in_ok-datagram.ensures.none c.in_default.is).0
