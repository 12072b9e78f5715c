use Rattle.std.proofs.Common.{◌≡◌, length, None, option_map}
use Rattle.std.specs.Prelude.{IfSome}
use Rattle.alc.specs.Computed.{walk}
use Rattle.alc.proofs.extensions.fti_content.Given as goal

abbrev pub invariant-loop-rest : goal.invariant-loop-rest
invariant-loop-rest l = record {
  answer : walk (length l.fn.extensions) l.fn.extensions None ≡ walk (length l.rest) l.rest (option_map (λ content. content.now) l.seen);
  ten : IfSome l.seen (λ content. length content.now ≡ 10);
}

abbrev pub decreases-loop-rest : goal.decreases-loop-rest
decreases-loop-rest l = length l.rest
