-- Whether what follows the header is a payload ID and a symbol.
use Rattle.std.proofs.Common.{◌≡◌, ℕ, true, false, inl, inr, List, arith, Option, Some, None}
use Rattle.std.proofs.lemmas.Bool.{cases_Bool}
use Rattle.std.proofs.lemmas.Bool.Decides.{nat_tests}
use Rattle.partition.specs.Fti.{Fti}
use Rattle.alc.specs.PacketFault.{HasPayload}
use Rattle.alc.specs.Computed.{has_payload}

pub is_payload : (d : List ℕ) (fti : Option Fti) → has_payload d fti ≡ true → HasPayload d fti
is_payload d None h = record { payload_id = grind (arith, nat_tests); symbol = grind (arith, nat_tests) }
is_payload d (Some f) h = record { payload_id = grind (arith, nat_tests); symbol = grind (arith, nat_tests) }

pub payload_is : (d : List ℕ) (fti : Option Fti) → HasPayload d fti → has_payload d fti ≡ true
payload_is d None h = grind (arith, nat_tests, h.payload_id, h.symbol)
payload_is d (Some f) h = grind (arith, nat_tests, h.payload_id, h.symbol)

pub not_payload : (d : List ℕ) (fti : Option Fti) → has_payload d fti ≡ false → ¬ HasPayload d fti
not_payload d fti is_false payload = let is_true : has_payload d fti ≡ true = payload_is d fti payload in cc

pub payload_isnt : (d : List ℕ) (fti : Option Fti) → ¬ HasPayload d fti → has_payload d fti ≡ false
payload_isnt d fti h =
    elim (cases_Bool (has_payload d fti)) [
      | inl t ↦ absurd (h (is_payload d fti t))
      | inr f ↦ f
    ]
