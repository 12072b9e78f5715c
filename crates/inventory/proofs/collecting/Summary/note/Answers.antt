use Rattle.std.proofs.Common.{◌∙◌, ◌++◌, ◌∷◌, [], ℕ, Ok, sym, subst, arith}
use Rattle.std.proofs.lemmas.List.{append-nil, length_push}
use Rattle.alc.specs.Packet.{Packet}
use Rattle.alc.specs.Reading.{Reading}
use Rattle.alc.specs.Views.{packet_of}
use Rattle.inventory.specs.Packets.{packets_of, faults_in}
use Rattle.inventory.specs.Tally.{IsTally}
use Rattle.inventory.specs.Tells.{named_by}
use Rattle.inventory.proofs.Maps.{few_taken, few_put, told_more}
use Rattle.inventory.proofs.Steps.{faults_more}
use Rattle.inventory.proofs.collecting.Summary.note.Goals as goal

pub note-requires : goal.note-requires
note-requires c =
    let small = c.take-tally.ensures.few c.args.self.now.read c.args.self.now.few in
    omega (arith, small)

pub invariant_of-self : goal.invariant_of-self
invariant_of-self c =
    record { few = few_taken c.args.self.now.tallies c.take-tally.new.tallies (c.args.packet.now.tsi, c.args.packet.now.toi) c.args.self.now.read c.take-tally.ensures.rest c.args.self.now.few }

pub invariant_of-self-2 : goal.invariant_of-self-2
invariant_of-self-2 c =
    let small = c.take-tally.ensures.few c.args.self.now.read c.args.self.now.few in
    let more = c.in_ok-note.ensures.datagrams in
    record {
      few = few_put c.insert.result c.take-tally.new.tallies c.insert.new.self (c.args.packet.now.tsi, c.args.packet.now.toi) c.note.new.self c.args.self.now.read
          c.insert.ensures.updates c.insert.ensures.err
          (few_taken c.args.self.now.tallies c.take-tally.new.tallies (c.args.packet.now.tsi, c.args.packet.now.toi) c.args.self.now.read c.take-tally.ensures.rest c.args.self.now.few)
          (omega (arith, small, more));
    }

pub returns : goal.returns
returns c = λ rs told.
    let p : Packet = packet_of c.args.packet.now in
    let longer = length_push {X = Reading} rs (Ok p) in
    let read = told.read in
    let counted = c.in_ok-note.ensures.counted (packets_of (named_by (p.tsi, p.toi)) rs) (c.take-tally.ensures.tally (packets_of (named_by (p.tsi, p.toi)) rs) (told.tallies (p.tsi, p.toi))) in
    record {
      read = omega (arith, longer, read);
      tallies = told_more rs p c.args.self.now.tallies c.take-tally.new.tallies c.insert.new.self c.note.new.self c.take-tally.ensures.rest c.in_ok-insert.ensures.updates.0
          (subst (λ (n : ℕ). IsTally (packets_of (named_by (p.tsi, p.toi)) rs ++ (n, p) ∷ []) c.note.new.self) read counted) told.tallies;
      faults = told.faults ∙ sym (faults_more rs (Ok p) ∙ append-nil (faults_in rs));
    }
