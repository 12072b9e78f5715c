-- The symbols of datagrams are bytes.
use Rattle.std.specs.Prelude.{◌==◌, Ok, Err, cond}
use Rattle.std.proofs.Common.{◌≡◌, ◌∙◌, ℕ, ◌+◌, true, false, List, [], ◌∷◌, ◌++◌, Option, length, get_or, refl, ap, subst, arith}
use Rattle.std.specs.List.{AllByRecursion}
use Rattle.std.proofs.lemmas.Bool.{and_from, eq-eqb}
use Rattle.std.proofs.lemmas.List.{get_or-append-add}
use Rattle.lists.specs.Bytes.{AreBytes}
use Rattle.lists.proofs.Lists.{all_append, all_both}
use Rattle.alc.specs.Packet.{Packet, IsPacket, head_of}
use Rattle.alc.specs.Reading.{Reading, Reads}
use Rattle.reception.specs.declared.scope.Identity.{Identity}
use Rattle.reception.specs.Symbols.{is_of}
use Rattle.reception.specs.Reception.{ReadAll, counts, counted_from, counted, symbols_in, symbols}
use Rattle.reception.specs.Walks.{readings_of}
use Rattle.reception.proofs.Full.{found}
use Rattle.block_recovery.specs.Received.{IsIndex}
use Rattle.decoder.specs.Unsolvable.{HaveBytes}

packet_bytes : (d : List ℕ) (p : Packet) → IsPacket d p → AreBytes p.bytes
packet_bytes d p is i =
    let head = head_of is.form p in
    let e : get_or d (length head + i) 0 ≡ get_or p.bytes i 0 = ap (λ (l : List ℕ). get_or l (length head + i) 0) is.spelling ∙ get_or-append-add head p.bytes i 0 in
    omega (arith, e, is.bytes (length head + i))

reading_bytes : (d : List ℕ) (r : Reading) → Reads d r → AllByRecursion (λ s. AreBytes s.bytes) (symbols_in r)
reading_bytes d (Ok p) reads = (packet_bytes d p reads, tt)
reading_bytes d (Err e) reads = tt

all_bytes : (who : Identity) (i : ℕ) (ds : List (List ℕ)) (rs : List Reading) → ReadAll ds rs → AllByRecursion (λ s. AreBytes s.bytes) (symbols (counted_from who i rs))
all_bytes who i [] [] read = tt
all_bytes who i [] (r ∷ rs) read = absurd read
all_bytes who i (d ∷ ds) [] read = absurd read
all_bytes who i (d ∷ ds) (r ∷ rs) read =
    let later = all_bytes who (i + 1) ds rs read.1 in
    elim (counts who r) as (λ v. AllByRecursion (λ s. AreBytes s.bytes) (symbols (cond v (record { place = i; reading = r } ∷ []) [] ++ counted_from who (i + 1) rs))) [
      | true ↦ all_append (λ s. AreBytes s.bytes) (symbols_in r) (symbols (counted_from who (i + 1) rs)) (reading_bytes d r read.0) later
      | false ↦ later
    ]

-- what was received of datagrams are bytes
pub have_bytes : (who : Identity) (ds : List (List ℕ)) (at : ℕ → ℕ → Option (List ℕ)) → ReadAll ds (readings_of ds) → IsIndex (symbols (counted who (readings_of ds))) at → HaveBytes at
have_bytes who ds at read index b j y some =
    let arrivals = symbols (counted who (readings_of ds)) in
    let c = index.some b j y some in
    let w = found (λ s. AreBytes s.bytes × (is_of b j s ≡ true → s.bytes ≡ y)) b j arrivals c.is_there
    (all_both (λ s. AreBytes s.bytes) (λ s. is_of b j s ≡ true → s.bytes ≡ y) arrivals (all_bytes who 0 ds (readings_of ds) read) c.same) in
    subst AreBytes (w.1.1 (and_from (b == b) (j == j) (eq-eqb b b refl) (eq-eqb j j refl))) w.1.0
