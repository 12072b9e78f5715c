use Rattle.std.proofs.Common.{◌≡◌, ◌∙◌, length, take, get_or, refl, sym, ap, subst, arith}
use Rattle.losses.specs.Groups.{members_among}
use Rattle.reception.specs.Reception.{is_carrier}
use Rattle.cert.specs.Tallying.{IsPacketOf, tallied_of}
use Rattle.certificate.proofs.Flat.{on_err}
use Rattle.file_check.specs.Blocks.{member_at}
use Rattle.file_check.specs.Indexed.{extents_of}
use Rattle.file_check.specs.Standing.{no_extent}
use Rattle.file_check.proofs.GoneOver.{none_gone, all_gone, entry_gone, entry_seen, member_there, extent_read, extent_inside, judged_there, one_behind, one_right, one_wrong}
use Rattle.file_check.proofs.members.first_wrong.Goals.{in-Some-2, in-None}
use Rattle.file_check.proofs.members.first_wrong.Goals as goal

pub loop-entry-init : goal.loop-entry-init
loop-entry-init g c = record {
  over = none_gone (g.S.ReadAt.content c.args.session.now.file.now) c.args.index.now c.args.made.block c.args.made.symbols.now c.args.before;
  file = refl;
}

pub loop-entry-preserved-then-is_behind : goal.loop-entry-preserved-then-is_behind
loop-entry-preserved-then-is_behind g c =
    let content = g.S.ReadAt.content c.args.session.now.file.now in
    let index = c.args.index.now in
    let b = c.args.made.block in
    let symbols = c.args.made.symbols.now in
    let known = c.requires.known in
    let entries = c.entries_near-entries.result.now in
    let own = c.if-entry-made.false in
    let k = length (members_among b (take c.loop-entry.entry-index entries)) in
    let seen = entry_seen content index b symbols entries c.entries_near-entries.ensures c.loop-entry.entry-index c.loop-entry-test.true own in
    let l = seen.0 in
    let place = seen.1 in
    let w = c.is_behind.ensures.0 c.if-is_behind.true in
    record {
      over = entry_gone content index b symbols c.args.before c.loop-entry.first entries c.loop-entry.entry-index c.loop-entry-test.true own
          (one_behind content index b symbols known.0 known.1 known.2 c.args.before k l c.loop-entry.first c.loop-entry.invariant.over w.0 w.1 (rw place at w.2));
      file = c.loop-entry.invariant.file;
    }

pub returns-in_default-clause-lost : goal.returns-in_default-clause-lost
returns-in_default-clause-lost g c = λ x f ds told of. (
    let content = g.S.ReadAt.content c.args.session.now.file.now in
    let index = c.args.index.now in
    let b = c.args.made.block in
    let symbols = c.args.made.symbols.now in
    let known = c.requires.known in
    let entries = c.entries_near-entries.result.now in
    let own = c.if-entry-made.false in
    let k = length (members_among b (take c.loop-entry.entry-index entries)) in
    let seen = entry_seen content index b symbols entries c.entries_near-entries.ensures c.loop-entry.entry-index c.loop-entry-test.true own in
    let l = seen.0 in
    let place = seen.1 in
    let there = (member_there content index b symbols known.0 known.1 known.2 x f ds of k l).0 in
    let past = rw place at (c.in_default.ensures.none refl) in
    absurd (omega (arith, there, past, of.many)))

pub returns-in_err-column-clause-lost : goal.returns-in_err-column-clause-lost
returns-in_err-column-clause-lost g c =
    let content = g.S.ReadAt.content c.args.session.now.file.now in
    let index = c.args.index.now in
    let b = c.args.made.block in
    let symbols = c.args.made.symbols.now in
    let known = c.requires.known in
    let entries = c.entries_near-entries.result.now in
    let own = c.if-entry-made.false in
    let k = length (members_among b (take c.loop-entry.entry-index entries)) in
    let seen = entry_seen content index b symbols entries c.entries_near-entries.ensures c.loop-entry.entry-index c.loop-entry-test.true own in
    let l = seen.0 in
    let place = seen.1 in
    let esi = seen.2 in
    let e = c.in-Some.extent in
    let is : get_or (extents_of index.extents) (member_at (tallied_of index.tally) b k).place no_extent ≡ e = sym (rw place at c.in-Some.ensures.some) in
    let same = c.loop-entry.invariant.file in
    let lost = rw (same, esi) at c.in_err-column.ensures.lost in
    on_err c.from_residual.result (λ x f ds told of.
    lost x told (extent_inside content index b symbols known.0 known.1 known.2 k l e is x f ds of)
    (subst (IsPacketOf index.tally.scope b (member_at (tallied_of index.tally) b k).esi) (sym (extent_read content index b symbols known.0 known.1 known.2 k l e is x f ds of))
    (member_there content index b symbols known.0 known.1 known.2 x f ds of k l).1)
    (rw place at (c.was_carrier-carrier.ensures x f ds of) (member_there content index b symbols known.0 known.1 known.2 x f ds of k l).0
    ∙ ap (is_carrier index.tally.scope.identity) (sym (extent_read content index b symbols known.0 known.1 known.2 k l e is x f ds of))))

pub loop-entry-preserved : goal.loop-entry-preserved
loop-entry-preserved g c =
    let content = g.S.ReadAt.content c.args.session.now.file.now in
    let index = c.args.index.now in
    let b = c.args.made.block in
    let symbols = c.args.made.symbols.now in
    let known = c.requires.known in
    let entries = c.entries_near-entries.result.now in
    let own = c.if-entry-made.false in
    let k = length (members_among b (take c.loop-entry.entry-index entries)) in
    let seen = entry_seen content index b symbols entries c.entries_near-entries.ensures c.loop-entry.entry-index c.loop-entry-test.true own in
    let l = seen.0 in
    let place = seen.1 in
    let e = c.in-Some.extent in
    let is : get_or (extents_of index.extents) (member_at (tallied_of index.tally) b k).place no_extent ≡ e = sym (rw place at c.in-Some.ensures.some) in
    let same = c.loop-entry.invariant.file in
    let judged = judged_there content index b symbols known.0 known.1 known.2 k l e is c.in_ok-column.field-0 (rw same at c.in_ok-column.ensures.says) in
    record {
      over = elim c.match-branch-2.branch [
        | in-Some-2 w ↦
            rw (w.first-is, place)
            (entry_gone content index b symbols c.args.before _ entries c.loop-entry.entry-index c.loop-entry-test.true own
            (one_wrong content index b symbols known.0 known.1 known.2 c.args.before k l c.loop-entry.first c.loop-entry.invariant.over
            (λ h. (
            let le = h.2 in
            let behind = c.if-is_behind.ensures.1 (h.0, h.1, omega (arith, le, place)) in
            absurd (cc)))
            w.in-Some-2.column (rw w.in-Some-2.is at judged)))
        | in-None w ↦
            rw w.first-is
            (entry_gone content index b symbols c.args.before _ entries c.loop-entry.entry-index c.loop-entry-test.true own
            (one_right content index b symbols known.0 known.1 known.2 c.args.before k l c.loop-entry.first c.loop-entry.invariant.over (rw w.in-None.is at judged)))
      ];
      file = c.in_ok-column.ensures.file ∙ same;
    }

pub returns-clause-said : goal.returns-clause-said
returns-clause-said g c = λ x z ds told valid of are. (
    let content = g.S.ReadAt.content c.args.session.now.file.now in
    (all_gone content c.args.index.now c.args.made.block c.args.made.symbols.now c.args.before c.loop-entry.first c.entries_near-entries.result.now c.entries_near-entries.ensures
    c.loop-entry.entry-index (omega (arith, c.loop-entry-test.false)) c.loop-entry.invariant.over).said
    x z ds told valid of are)
