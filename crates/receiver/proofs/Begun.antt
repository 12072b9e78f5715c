-- The datagram that a receiver begins with.
use Rattle.std.specs.Prelude.{Result, Ok, Err}
use Rattle.std.proofs.Common.{◌≡◌, ◌≢◌, ℕ, refl, List, Option, None, ap, sym, subst, ◌∙◌}
use Rattle.partition.specs.Fti.{Fti}
use Rattle.alc.specs.Reading.{Reading}
use Rattle.alc.specs.declared.reading.Packet.{Packet}
use Rattle.alc.proofs.Again.{one_reading}
use Rattle.reception.specs.declared.scope.Identity.{Identity}
use Rattle.reception.specs.declared.scope.Scope.{Scope}
use Rattle.reception.specs.declared.scope.Look.{Look}
use Rattle.reception.specs.declared.scope.Look.TheVariants as look_at
use Rattle.alc.specs.declared.fault.PacketFault.{PacketFault}
use Rattle.reception.specs.Reception.{asked, look}
use Rattle.reception.specs.Step.{IsLook, after, looked}
use Rattle.receiver.specs.Begun.{Begins}

-- two looks at a datagram see the same
same_look : (d : List ℕ) (old a b : Scope) (x y : Result Look PacketFault) → IsLook d old a x → IsLook d old b y → looked x ≡ looked y
same_look d old a b x y h k =
    h.told ∙ ap (λ (s : Scope). look s h.reading) h.scope
    ∙ ap (λ (r : Reading). look (after old r) r) (one_reading d h.reading k.reading h.reads k.reads)
    ∙ ap (λ (s : Scope). look s k.reading) (sym k.scope) ∙ sym k.told

module _ (who : Identity) (d : List ℕ) where
  -- what isn't seen in range doesn't begin
  pub other_begins : (new : Scope) (answer : Result Look PacketFault) → IsLook d (asked who) new answer → ((p : Packet) → answer ≢ Ok (look_at.InRange p)) → ¬ Begins who d
  other_begins new answer h none begins =
      by answer none (same_look d (asked who) new begins.scope answer (Ok (look_at.InRange begins.packet)) h begins.looks)
    where
      by : (a : Result Look PacketFault) → ((p : Packet) → a ≢ Ok (look_at.InRange p)) → looked a ≡ looked (Ok (look_at.InRange begins.packet)) → ⊥
      by (Ok look_at.Other) not is = absurd (cc)
      by (Ok look_at.Early) not is = absurd (cc)
      by (Ok look_at.OtherFti) not is = absurd (cc)
      by (Ok look_at.SymbolLength) not is = absurd (cc)
      by (Ok look_at.Range) not is = absurd (cc)
      by (Ok (look_at.InRange p)) not is = not p refl
      by (Err e) not is = absurd (cc)

  -- where no FTI was known, what is in range begins
  pub begins : (old new : Scope) (p : Packet) → old.identity ≡ who → old.fti ≡ None → IsLook d old new (Ok (look_at.InRange p)) → Begins who d
  begins old new p mine none h =
      let is : old ≡ asked who =
      ap (λ (i : Identity). record { identity = i; fti = old.fti }) mine ∙ ap (λ (o : Option Fti). record { identity = who; fti = o }) none in
      record { scope = new; packet = p; looks = subst (λ (s : Scope). IsLook d s new (Ok (look_at.InRange p))) is h }
