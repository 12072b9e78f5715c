use Rattle.std.proofs.Common.{◌∙◌, ℕ, map, sym}
use Rattle.cert.proofs.ShortReasons.{thin_of}
use Rattle.alcrs_c.proofs.twin.twin_in.Goals as goal

pub returns-in-Yes-clause-none : goal.returns-in-Yes-clause-none
returns-in-Yes-clause-none c =
    let fed = rw c.in-Ok.is at c.in_ok-checker.ensures.fed in
    (c.in-Yes.field-0, rw c.in-Yes.is at (c.in_ok-verdict.ensures.verdict c.args.identity c.args.object.now c.args.certificate (map (λ d. d.now) c.args.datagrams.now) fed))

pub returns-in_default-clause-none : goal.returns-in_default-clause-none
returns-in_default-clause-none c =
    let fed = rw c.in-Ok.is at c.in_ok-checker.ensures.fed in (
      rw c.in-No.is at (c.in_ok-verdict.ensures.verdict c.args.identity c.args.object.now c.args.certificate (map (λ d. d.now) c.args.datagrams.now) fed),
      sym c.short_block.ensures ∙ c.in_default.is,
    )

pub twin-requires : goal.twin-requires
twin-requires c =
    let ds = map (λ d. d.now) c.args.datagrams.now in
    let fed = rw c.in-Ok.is at c.in_ok-checker.ensures.fed in
    let short : ℕ × ℕ × ℕ = (c.in-Some.block, c.in-Some.have, c.in-Some.need) in
    let thin = thin_of c.in-No.reason short (sym c.short_block.ensures ∙ c.in-Some.is) in
    let verdict = rw (c.in-No.is, thin) at (c.in_ok-verdict.ensures.verdict c.args.identity c.args.object.now c.args.certificate ds fed) in
    record {
      who = c.args.identity;
      object = c.args.object.now;
      z = c.args.certificate;
      datagrams = ds;
      fed = fed;
      short = (c.in-Some.have, c.in-Some.need, verdict);
    }

pub returns-clause-twin : goal.returns-clause-twin
returns-clause-twin c =
    let who = c.args.identity in
    let z = c.args.certificate in
    let object = c.args.object.now in
    let ds = map (λ d. d.now) c.args.datagrams.now in
    let fed = rw c.in-Ok.is at c.in_ok-checker.ensures.fed in
    let short : ℕ × ℕ × ℕ = (c.in-Some.block, c.in-Some.have, c.in-Some.need) in
    let thin = thin_of c.in-No.reason short (sym c.short_block.ensures ∙ c.in-Some.is) in
    let verdict = rw (c.in-No.is, thin) at (c.in_ok-verdict.ensures.verdict who object z ds fed) in
    (verdict, c.in_ok-bytes.ensures who object z ds fed (c.in-Some.have, c.in-Some.need, verdict))
