use Rattle.std.specs.Prelude.{◌==◌}
use Rattle.std.proofs.Common.{◌≡◌, ◌∙◌, ℕ, length, ap, arith}
use Rattle.session.proofs.Places.{length_pieces}
use Rattle.session.specs.Buffer.{pieces}
use Rattle.session.proofs.session.Session.is_empty.Goals as goal

pub returns : goal.returns
returns c =
    let many = length_pieces 0 c.self.inside.ends.items c.self.inside.bytes.items in
    let same : c.self.inside.ends.len ≡ length (pieces 0 c.self.inside.ends.items c.self.inside.bytes.items) = omega (arith, many) in
    rw (← c.self.view_is) (c.is_empty.ensures ∙ ap (λ (n : ℕ). n == 0) same)
