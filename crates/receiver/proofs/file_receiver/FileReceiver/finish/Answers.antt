use Rattle.std.proofs.Common.{◌≡◌, ◌∙◌, ℕ, List, Option, Some, sym, subst}
use Rattle.std.specs.Prelude.{IfSome}
use Rattle.block_bytes.specs.Parts.{object_in}
use Rattle.block_bytes.specs.Places.{told_in}
use Rattle.receiver.proofs.Fed.{each_solved}
use Rattle.receiver.proofs.Taken.{keeps, object_length, object_taken, short_none}
use Rattle.receiver.proofs.file_receiver.FileReceiver.finish.Goals as goal

pub returns-in_default-Ok-clause-object : goal.returns-in_default-Ok-clause-object
returns-in_default-Ok-clause-object g c = λ ds stands none_short.
    let r = c.args.self.receiving in
    let told = told_in c.args.self.blocks in
    let store = c.in-Some.store in
    let k = keeps r told ds stands store c.in-Some.is in
    let all = each_solved r told ds stands store c.in-Some.is c.is_valid.ensures none_short in
    let object = object_in store.fti k.1.holds.0 in (
      object,
      object_taken r told ds stands store c.in-Some.is c.is_valid.ensures all k.1.holds.0 k.1.holds.1,
      subst (λ (o : Option (ℕ → List ℕ)). IfSome o (λ bytes. g.W.Write.contents c.finish.result.0 ≡ Some (object_in store.fti bytes))) k.1.holds.1
          (rw c.in_default-Ok.is-1 at c.finish.ensures.object),
      c.transfer_length-length.ensures.value ∙ sym (object_length r told ds stands store c.in-Some.is c.is_valid.ensures all k.1.holds.0 k.1.holds.1),
    )

pub returns-in-Some-into_output-clause-fails : goal.returns-in-Some-into_output-clause-fails
returns-in-Some-into_output-clause-fails g c = λ ds stands none_short. absurd (short_none c.args.self.receiving (told_in c.args.self.blocks) ds stands c.in-None.is none_short)
