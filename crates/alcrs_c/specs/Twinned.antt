-- What is answered where a twin is asked for.
use Rattle.std.specs.Prelude.{◌≡◌, ℕ, List}
use Rattle.session.specs.Frames.{IsFramed}
use Rattle.reception.specs.declared.scope.Identity.{Identity}
use Rattle.certificate.specs.Certificate.{Certificate, IsCertificate, certificate_text}
use Rattle.cert.specs.Verdict.{IsVerdict}
use Rattle.cert.specs.Twins.{IsTwinOfSession}
use Rattle.cert.specs.declared.verdict.Verdict.{Verdict}
use Rattle.cert.specs.declared.verdict.Verdict.TheVariants.{No}
use Rattle.cert.specs.declared.verdict.Reason.TheVariants.{Thin}

-- the bytes are the frames of datagrams and the text of a certificate, of which this holds
pub record OfRead (session certificate : List ℕ)
    (Fact : List (List ℕ) → Certificate → Type 0) : Type 0 where
  pub datagrams : List (List ℕ)
  pub framed : IsFramed datagrams session
  pub z : Certificate
  pub is : IsCertificate z
  pub text : certificate ≡ certificate_text z
  pub fact : Fact datagrams z

-- this is the verdict on them
abbrev pub IsJudged : Identity → List ℕ → List ℕ → List ℕ → Verdict → Type 0
IsJudged who session object certificate verdict =
    OfRead session certificate (λ ds z. IsVerdict who ds object z verdict)

-- the block is the least that is short, and the other object a twin
abbrev pub IsTwinIn : Identity → List (List ℕ) → List ℕ → Certificate → ℕ × ℕ × ℕ → List ℕ → Type 0
IsTwinIn who datagrams object z short other =
    IsVerdict who datagrams object z (No (Thin short.0 short.1 short.2))
    × IsTwinOfSession who z.fti short.0 datagrams object other

abbrev pub IsTwinned : Identity → List ℕ → List ℕ → List ℕ → ℕ × ℕ × ℕ → List ℕ → Type 0
IsTwinned who session object certificate short other =
    OfRead session certificate (λ ds z. IsTwinIn who ds object z short other)
