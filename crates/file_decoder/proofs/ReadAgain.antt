-- Symbols that are read again where their packets stand in a file.
use Rattle.std.specs.Prelude.{is_some, Ok, Err, Result, if◌then◌else◌}
use Rattle.std.specs.Option.{option_or}
use Rattle.std.proofs.Common.{◌≡◌, ℕ, ◌+◌, ◌<◌, ◌≤◌, Bool, true, false, List, [], ◌∷◌, ◌++◌, Option, Some, length, get_or, take, refl, sym, ap, subst, ◌∙◌, inl, inr}
use Rattle.std.proofs.lemmas.Bool.{cases_eq}
use Rattle.std.proofs.lemmas.List.{take_more}
use Rattle.partition.specs.Fti.{Fti}
use Rattle.alc.specs.Packet.{Packet}
use Rattle.alc.specs.Reading.{Reading}
use Rattle.alc.specs.Views.{packet_of}
use Rattle.alc.specs.Computed.{read_of}
use Rattle.alc.proofs.Again.{exact}
use Rattle.alc.specs.declared.reading.Packet.{Packet as ReadPacket}
use Rattle.reception.specs.declared.scope.Scope.{Scope}
use Rattle.reception.specs.declared.scope.Look.{Look}
use Rattle.reception.specs.declared.scope.Look.TheVariants as look_at
use Rattle.alc.specs.declared.fault.PacketFault.{PacketFault}
use Rattle.reception.specs.Reception.{InRange, look, counts, learned, carried}
use Rattle.reception.specs.Step.{IsLook, looked}
use Rattle.reception.proofs.Looks.{length_look, fti_after}
use Rattle.reception.proofs.Stepping.{scope}
use Rattle.reception.proofs.Walking.{is_packet}
use Rattle.block_recovery.specs.Arrivals.{with_esi, arrived_at}
use Rattle.block_recovery.specs.Blocks.{HaveLength}
use Rattle.file_decoder.specs.InFile.{symbol_in, bytes_in, extent_of, held_in, IsSymbolOf, IsSymbolIn}
use Rattle.session.specs.Extents.{datagram_in}
use Rattle.file_decoder.specs.declared.rereading.Place.{Place}
use Rattle.decoder.specs.Sources.{IsUnreadOf}
use Rattle.block_recovery.specs.declared.arrivals.Arrival.{Arrival}
use Rattle.decoder.specs.declared.source.Unread.{Unread}
use Rattle.decoder.specs.declared.source.Unread.TheVariants as unread
use Rattle.block_recovery.proofs.Arrived.{arrived_more}
use Rattle.block_recovery.proofs.Kept.{with_here, with_other}

module _ (d : List ℕ) (old new : Scope) where
  -- where an FTI is known nothing is learned
  pub same_scope : (answer : Result Look PacketFault) → IsLook d old new answer → (f : Fti) → old.fti ≡ Some f → new ≡ old
  same_scope answer h f e =
      let learns : learned old h.reading ≡ old =
      ap (λ (o : Option Fti). scope old.identity (option_or o (carried h.reading))) e ∙ ap (λ (o : Option Fti). scope old.identity o) (sym e) in
      h.scope ∙ (elim (counts old.identity h.reading) as (λ v. (if v then learned old h.reading else old) ≡ old) [
        | true ↦ learns
        | false ↦ refl
      ])

  -- the answer is what the definition says of the bytes
  pub looks : (answer : Result Look PacketFault) → (h : IsLook d old new answer) → (f : Fti) → old.fti ≡ Some f → looked answer ≡ look old (read_of d)
  looks answer h f e =
      h.told ∙ ap (λ (s : Scope). look s h.reading) (same_scope answer h f e) ∙ ap (λ (r : Reading). look old r) (sym (exact d h.reading h.reads))

  -- the symbol of a packet that is handed over
  pub symbol_is : (p : ReadPacket) → IsLook d old new (Ok (look_at.InRange p)) → p.symbol.now ≡ symbol_in d
  symbol_is p h = sym (ap bytes_in (exact d h.reading h.reads ∙ is_packet d old new p h))

  pub symbol_size : (p : ReadPacket) → IsLook d old new (Ok (look_at.InRange p)) → (f : Fti) → old.fti ≡ Some f → length p.symbol.now ≡ f.symbol_length
  symbol_size p h f e = length_look d old new p h f (fti_after d old new (Ok (look_at.InRange p)) h f e)

-- a look that answers so hands over a packet
pub hands_over : (answer : Result Look PacketFault) (q : Packet) → looked answer ≡ Ok (InRange q) → (p : ReadPacket) × (answer ≡ Ok (look_at.InRange p)) × (packet_of p ≡ q)
hands_over (Err e) q h = absurd (cc)
hands_over (Ok look_at.Other) q h = absurd (cc)
hands_over (Ok look_at.Early) q h = absurd (cc)
hands_over (Ok look_at.OtherFti) q h = absurd (cc)
hands_over (Ok look_at.SymbolLength) q h = absurd (cc)
hands_over (Ok look_at.Range) q h = absurd (cc)
hands_over (Ok (look_at.InRange p)) q h = (p, refl, cc)

-- a packet in range is looked at as one, and is the same
pub found_again : (d : List ℕ) (old new : Scope) (answer : Result Look PacketFault) → IsLook d old new answer → (f : Fti) → old.fti ≡ Some f → (b j : ℕ) (carrier : Bool) → IsSymbolOf old b j carrier d
    → (p : ReadPacket) × (answer ≡ Ok (look_at.InRange p)) × (p.sbn ≡ b) × (p.esi ≡ j) × (is_some p.fti ≡ carrier)
found_again d old new answer h f e b j carrier is =
    let w = hands_over answer is.packet (looks d old new answer h f e ∙ is.look) in (
      w.0,
      w.1,
      ap (λ (q : Packet). q.block) w.2 ∙ is.block,
      ap (λ (q : Packet). q.esi) w.2 ∙ is.esi,
      ap (λ (q : Packet). is_some q.fti) w.2 ∙ is.carries,
    )

-- a packet that is handed over is one of its block and ESI
pub symbol_here : (d : List ℕ) (old new : Scope) (p : ReadPacket) → IsLook d old new (Ok (look_at.InRange p)) → (f : Fti) → old.fti ≡ Some f → IsSymbolOf old p.sbn p.esi (is_some p.fti) d
symbol_here d old new p h f e = record { packet = packet_of p; look = sym (looks d old new (Ok (look_at.InRange p)) h f e); block = refl; esi = refl; carries = refl }

-- ---- symbols that are listed again, one by one

module _ {S T : Type 0} (held : S → List ℕ) (other : T → List ℕ) (xs : List (Arrival S)) (ys : List (Arrival T)) (i : ℕ) (a : Arrival S) (b : Arrival T)
    (li : i < length ys) (is : b ≡ get_or ys i b) (esi : a.esi ≡ b.esi) where
  one_more : arrived_at other (take (i + 1) ys) ≡ with_esi (arrived_at other (take i ys)) b.esi (other b.symbol)
  one_more = ap (arrived_at other) (take_more ys i b li) ∙ ap (λ (y : Arrival T). arrived_at other (take i ys ++ y ∷ [])) (sym is) ∙ arrived_more other (take i ys) b

  -- the same bytes
  pub same_more : held a.symbol ≡ other b.symbol → arrived_at held xs ≡ arrived_at other (take i ys) → arrived_at held (xs ++ a ∷ []) ≡ arrived_at other (take (i + 1) ys)
  same_more bytes so_far =
      arrived_more held xs a
      ∙ ap (λ (g : ℕ → Option (List ℕ)). with_esi g a.esi (held a.symbol)) so_far
      ∙ ap (λ (k : ℕ). with_esi (arrived_at other (take i ys)) k (held a.symbol)) esi
      ∙ ap (λ (y : List ℕ). with_esi (arrived_at other (take i ys)) b.esi y) bytes
      ∙ sym one_more

  -- the same ESIs
  pub some_more : (j : ℕ) → is_some (arrived_at held xs j) ≡ is_some (arrived_at other (take i ys) j)
      → is_some (arrived_at held (xs ++ a ∷ []) j) ≡ is_some (arrived_at other (take (i + 1) ys) j)
  some_more j so_far =
      let here = ap (λ (g : ℕ → Option (List ℕ)). g j) (arrived_more held xs a) in
      let there = ap (λ (g : ℕ → Option (List ℕ)). g j) one_more in
      ap is_some here ∙ (elim (cases_eq b.esi j) [
        | inl e ↦ (ap is_some (with_here (arrived_at held xs) a.esi j (held a.symbol) (esi ∙ e)) ∙ sym (ap is_some (with_here (arrived_at other (take i ys)) b.esi j (other b.symbol) e)))
        | inr ne ↦
            (ap is_some (with_other (arrived_at held xs) a.esi j (held a.symbol) (λ e. ne (sym esi ∙ e))) ∙ so_far
            ∙ sym (ap is_some (with_other (arrived_at other (take i ys)) b.esi j (other b.symbol) ne)))
      ]) ∙ sym (ap is_some there)

-- symbols of one length
pub lengths_more : {S : Type 0} (held : S → List ℕ) (size : ℕ) (xs : List (Arrival S)) (a : Arrival S) → length (held a.symbol) ≡ size → HaveLength size (arrived_at held xs)
    → HaveLength size (arrived_at held (xs ++ a ∷ []))
lengths_more held size xs a len so_far j y some =
    let here = ap (λ (g : ℕ → Option (List ℕ)). g j) (arrived_more held xs a) in
    elim (cases_eq a.esi j) [
      | inl e ↦ (let is = sym (with_here (arrived_at held xs) a.esi j (held a.symbol) e) ∙ sym here ∙ some in let same : held a.symbol ≡ y = cc in ap length (sym same) ∙ len)
      | inr ne ↦ so_far j y (sym (with_other (arrived_at held xs) a.esi j (held a.symbol) ne) ∙ sym here ∙ some)
    ]

-- what isn't given, where reading can't fail, isn't given of a file either
pub unread_of : (A B : Type 0) (reliable : Bool) (e : Unread) → (B → A) → IsUnreadOf A true e → IsUnreadOf B reliable e
unread_of A B reliable unread.Io f h = absurd (cc)
unread_of A B reliable unread.Changed f h = λ b. h (f b)
unread_of A B reliable unread.NoMemory f h = tt

-- a packet that is handed over stands where its datagram does
pub symbol_moves : (d : List ℕ) (scope new : Scope) (p : ReadPacket) → IsLook d scope new (Ok (look_at.InRange p)) → (f : Fti) → scope.fti ≡ Some f
    → (x : List ℕ) (place : Place) → datagram_in x (extent_of place) ≡ d → place.offset + place.length ≤ length x → place.carrier ≡ is_some p.fti
    → (p.symbol.now ≡ held_in x place) × IsSymbolIn x scope p.sbn p.esi place
symbol_moves d scope new p look f e x place is inside carries = (
  symbol_is d scope new p look ∙ ap symbol_in (sym is),
  record {
    inside = inside;
    symbol =
        subst (λ (v : Bool). IsSymbolOf scope p.sbn p.esi v (datagram_in x (extent_of place))) (sym carries)
        (subst (λ (y : List ℕ). IsSymbolOf scope p.sbn p.esi (is_some p.fti) y) (sym is) (symbol_here d scope new p look f e));
  },
)
