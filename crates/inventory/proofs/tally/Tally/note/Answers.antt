use Rattle.std.proofs.Common.{◌∙◌, ℕ, List, ◌++◌, ap, sym, subst, arith}
use Rattle.std.specs.Option.{option_to_list}
use Rattle.std.specs.Prelude.{Option}
use Rattle.std.proofs.lemmas.List.{length_push, append-nil}
use Rattle.partition.specs.Fti.{Fti}
use Rattle.alc.specs.Packet.{Packet}
use Rattle.alc.specs.Views.{packet_of}
use Rattle.inventory.specs.Packets.{carried}
use Rattle.inventory.specs.Tally.{AreCounted}
use Rattle.inventory.proofs.Steps.{first_of_none, first_of_some, last_is, carried_more, ids_added}
use Rattle.inventory.proofs.tally.Tally.note.Goals as goal
use Rattle.inventory.proofs.tally.Tally.note.Goals.{then-self-eq0, else-self-eq0}

pub returns-in_ok-note-clause-counted : goal.returns-in_ok-note-clause-counted
returns-in_ok-note-clause-counted c = λ xs tally.
    let x : ℕ × Packet = (c.args.place, packet_of c.args.packet.now) in
    let longer = length_push xs x in
    let before = tally.datagrams in
    record {
      datagrams = omega (arith, longer, before);
      first = elim c.if-self-eq0.branch [
        | then-self-eq0 w ↦ (w.first-is ∙ sym (first_of_none xs x (sym before ∙ w.if-self-eq0.true)))
        | else-self-eq0 w ↦ (w.first-is ∙ tally.first ∙ sym (first_of_some xs x (let bad = w.if-self-eq0.false in omega (arith, before, bad))))
      ];
      last = sym (last_is xs x);
      carriers = subst (λ (ftis : List Fti). AreCounted ftis c.note.new.self)
          (sym (carried_more xs x ∙ ap (λ (o : Option Fti). carried xs ++ option_to_list o) c.in-Some.is))
          (c.in_ok-note.ensures.counted (carried xs) tally.carriers);
      symbols = ids_added xs x c.args.self.now.symbols c.insert.new.self c.in_ok-insert.ensures.updates.0 tally.symbols;
    }

pub returns-in_default-clause-counted : goal.returns-in_default-clause-counted
returns-in_default-clause-counted c = λ xs tally.
    let x : ℕ × Packet = (c.args.place, packet_of c.args.packet.now) in
    let longer = length_push xs x in
    let before = tally.datagrams in
    record {
      datagrams = omega (arith, longer, before);
      first = elim c.if-self-eq0.branch [
        | then-self-eq0 w ↦ (w.first-is ∙ sym (first_of_none xs x (sym before ∙ w.if-self-eq0.true)))
        | else-self-eq0 w ↦ (w.first-is ∙ tally.first ∙ sym (first_of_some xs x (let bad = w.if-self-eq0.false in omega (arith, before, bad))))
      ];
      last = sym (last_is xs x);
      carriers = subst (λ (ftis : List Fti). AreCounted ftis c.args.self.now.carriers)
          (sym (carried_more xs x ∙ ap (λ (o : Option Fti). carried xs ++ option_to_list o) c.in_default.is ∙ append-nil (carried xs)))
          tally.carriers;
      symbols = ids_added xs x c.args.self.now.symbols c.insert.new.self c.in_ok-insert.ensures.updates.0 tally.symbols;
    }
