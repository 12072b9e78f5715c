use Rattle.std.proofs.Common.{◌≡◌, ◌∙◌, ◌+◌, ◌++◌, ℕ, List, take, length, sym, ap, arith}
use Rattle.std.proofs.Math.Seq.{take-append-add}
use Rattle.std.proofs.lemmas.List.{take_all}
use Rattle.std.proofs.lemmas.Grind.{common_steps}
use Rattle.streams.proofs.Fills.{then_consumes}
use Rattle.certificate.specs.CertificateReading.{head_length}
use Rattle.certificate.proofs.Texts.{head_length_front, length_known}
use Rattle.certificate.proofs.head.fill_head.Goals as goal

pub returns-clause-bytes : goal.returns-clause-bytes
returns-clause-bytes g c =
    let front : List ℕ = c.fill.new.buf in
    let behind : List ℕ = c.fill-2.new.buf in
    let long : length c.fill.new.buf ≡ 14 = omega (arith, c.fill.auto.buf, c.split_at_mut-front.ensures.front_len) in
    let whole : take c.in_ok-got.got c.fill.new.buf ≡ c.fill.new.buf = take_all c.in_ok-got.got c.fill.new.buf (omega (arith, long, c.if-got-lt-LENGTH.false)) in
    let parts : take (14 + c.in_ok-more.more) (c.fill.new.buf ++ c.fill-2.new.buf) ≡ c.fill.new.buf ++ take c.in_ok-more.more c.fill-2.new.buf =
    ap (λ (n : ℕ). take (n + c.in_ok-more.more) (front ++ behind)) (sym long) ∙ take-append-add front behind c.in_ok-more.more in
    rw parts (then_consumes _ _ _ front (take c.in_ok-more.more behind) (rw whole at c.in_ok-got.ensures.bytes) c.in_ok-more.ensures.bytes)

pub returns-clause-most : goal.returns-clause-most
returns-clause-most g c =
    let front : List ℕ = c.fill.new.buf in
    let behind : List ℕ = c.fill-2.new.buf in
    let long : length c.fill.new.buf ≡ 14 = omega (arith, c.fill.auto.buf, c.split_at_mut-front.ensures.front_len) in
    let parts : take (14 + c.in_ok-more.more) (c.fill.new.buf ++ c.fill-2.new.buf) ≡ c.fill.new.buf ++ take c.in_ok-more.more c.fill-2.new.buf =
    ap (λ (n : ℕ). take (n + c.in_ok-more.more) (front ++ behind)) (sym long) ∙ take-append-add front behind c.in_ok-more.more in
    let same : head_length (take (14 + c.in_ok-more.more) (c.fill.new.buf ++ c.fill-2.new.buf)) ≡ head_length c.fill.new.buf =
    ap head_length parts ∙ head_length_front front (take c.in_ok-more.more behind) (omega (arith, long)) in
    let which = length_known front in
    omega (arith, same, which, c.head_length.ensures, c.if-head_length-eq-LENGTH.false, c.in_ok-more.ensures.bound, c.split_at_mut-front.ensures.back_len, c.requires)

pub returns-then-got-lt-LENGTH-clause-bytes : goal.returns-then-got-lt-LENGTH-clause-bytes
returns-then-got-lt-LENGTH-clause-bytes g c = grind (arith, common_steps) steps 2000000
