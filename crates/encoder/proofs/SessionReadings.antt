-- The datagrams that are sent of an object are packets, as its certificate says, and leave no block
-- short.
use Rattle.std.proofs.Common.{◌≡◌, ◌≢◌, ℕ, ◌+◌, ◌%◌, ◌^◌, ◌<◌, ◌≤◌, Bool, true, false, ◌&&◌, ◌||◌, ◌==◌, List, [], ◌∷◌, ◌++◌, get_or, map, Option, Some, None, Ok, arith, refl, ap, sym, subst, ◌∙◌, inl, inr}
use Rattle.std.specs.Prelude.{cond, flat_map, is_some, nat_le, nat_lt, if◌then◌else◌}
use Rattle.std.specs.List.{list_any, AllByRecursion}
use Rattle.std.proofs.lemmas.Bool.{cases_lt, eq-eqb, lt-ltb, leb-false}
use Rattle.std.proofs.Math.Nat.{mod-le}
use Rattle.std.proofs.lemmas.List.{get_or_past}
use Rattle.std.proofs.lemmas.List.Folds.{list_any-append}
use Rattle.lists.specs.Bytes.{IsByte, AreBytes}
use Rattle.gf256.specs.Arithmetic.{sum_of, product, point}
use Rattle.gf256.specs.ByteField.{byte_field, point_byte}
use Rattle.poly.specs.Polynomial.{value}
use Rattle.poly.proofs.Bytes.{bytes_by_recursion}
use Rattle.poly.proofs.Roots.{value_element}
use Rattle.partition.specs.Fti.{Fti, IsValidFti, block_count, source_count, encoding_count}
use Rattle.partition.proofs.Laws.{some_block, counts, source_encoding, encoding_most}
use Rattle.lists.specs.Below.{below}
use Rattle.lists.proofs.Below.{one_missing}
use Rattle.alc.specs.Packet.{IsPacket, written}
use Rattle.alc.specs.Written.{packet_from}
use Rattle.alc.specs.Reading.{Reading}
use Rattle.alc.proofs.Writes.{written_packet}
use Rattle.reception.specs.Symbols.{Symbol, has_arrived, arrived_count, is_full, IsObject, Agrees}
use Rattle.reception.specs.declared.scope.Identity.{Identity}
use Rattle.reception.specs.Reception.{ReadAll, counts as reading_counts, counted_from, counted, symbols, is_carrier, Suffices}
use Rattle.certificate.specs.Certificate.{Certificate, IsCertificate, is_for, polynomial, certified_byte}
use Rattle.cert.specs.Verdict.{GivesObject, IsCertifiedPacket, IsCertifiedReading, AreCertified}
use Rattle.reception.proofs.Full.{same_source}
use Rattle.certificate.proofs.Polynomials.{forms}
use Rattle.cert.proofs.Promise.{WhereCounted, placed_all}
use Rattle.cert.proofs.Named.{named_granted}
use Rattle.partition.specs.declared.order.Order.{Order}
use Rattle.partition.specs.declared.order.Order.TheVariants.{Blocks, Rounds}
use Rattle.encoder.specs.Sending.{pairs_of_block, pair_with, pairs_of_round, pairs, Item, items_from, items, is_carrier_at, fti_at, AreSent, IsSessionOf}
use Rattle.encoder.specs.Certified.{Certifies, CertifiesSent}
use Rattle.encoder.proofs.Sent.{map_next, map_later, flat_next, flat_later, with_pair}

-- ---- which encoding symbols a session has

abbrev pub is_pair : ℕ → ℕ → ℕ × ℕ → Bool
is_pair b j p = p.0 == b && p.1 == j

or_true : (a b : Bool) → b ≡ true → (a || b) ≡ true
or_true true b h = refl
or_true false b h = h

module _ {A : Type 0} (t : A → Bool) where
  any_left : (xs ys : List A) → list_any t xs ≡ true → list_any t (xs ++ ys) ≡ true
  any_left xs ys h = list_any-append t xs ys ∙ ap (λ (v : Bool). v || list_any t ys) h

  any_right : (xs ys : List A) → list_any t ys ≡ true → list_any t (xs ++ ys) ≡ true
  any_right xs ys h = list_any-append t xs ys ∙ or_true (list_any t xs) (list_any t ys) h

  any_mapped : (g : ℕ → A) (j n : ℕ) → j < n → t (g j) ≡ true → list_any t (map g (below n)) ≡ true
  any_mapped g j n lt h =
      let r = map_later g (j + 1) n (omega arith) in
      let one : list_any t (g j ∷ []) ≡ true = rw h refl in
      subst (λ (xs : List A). list_any t xs ≡ true) (sym (r.1 ∙ ap (λ (l : List A). l ++ r.0) (map_next g j)))
      (any_left (map g (below j) ++ g j ∷ []) r.0 (any_right (map g (below j)) (g j ∷ []) one))

  any_flat : (g : ℕ → List A) (j n : ℕ) → j < n → list_any t (g j) ≡ true → list_any t (flat_map g (below n)) ≡ true
  any_flat g j n lt h =
      let r = flat_later g (j + 1) n (omega arith) in
      subst (λ (xs : List A). list_any t xs ≡ true) (sym (r.1 ∙ ap (λ (l : List A). l ++ r.0) (flat_next g j)))
      (any_left (flat_map g (below j) ++ g j) r.0 (any_right (flat_map g (below j)) (g j) h))

is_itself : (b j : ℕ) → is_pair b j (b, j) ≡ true
is_itself b j = let e : (b == b) ≡ true = eq-eqb b b refl in let g : (j == j) ≡ true = eq-eqb j j refl in rw (e, g) refl

-- every encoding symbol of every block is sent
pub all_pairs : (f : Fti) → IsValidFti f → (order : Order) (b j : ℕ) → b < block_count f → j < encoding_count f b → list_any (is_pair b j) (pairs order f) ≡ true
all_pairs f valid Blocks b j hb hj =
    any_flat (is_pair b j) (pairs_of_block f) b (block_count f) hb (any_mapped (is_pair b j) (λ (x : ℕ). (b, x)) j (encoding_count f b) hj (is_itself b j))
all_pairs f valid Rounds b j hb hj =
    let most = encoding_most f valid b in
    let one : list_any (is_pair b j) ((b, j) ∷ []) ≡ true = rw (is_itself b j) refl in
    any_flat (is_pair b j) (pairs_of_round f) j f.max_symbols (omega arith)
    (any_flat (is_pair b j) (pair_with f j) b (block_count f) hb (subst (λ (ps : List (ℕ × ℕ)). list_any (is_pair b j) ps ≡ true) (sym (with_pair f j b hj)) one))

-- an encoding symbol at its place, and those at the places from one on
abbrev is_item : ℕ → ℕ → Item → Bool
is_item b j x = x.block == b && x.esi == j

items_pairs : (b j i : ℕ) (ps : List (ℕ × ℕ)) → list_any (is_item b j) (items_from i ps) ≡ list_any (is_pair b j) ps
items_pairs b j i [] = refl
items_pairs b j i (p ∷ ps) = ap (λ (v : Bool). is_pair b j p || v) (items_pairs b j (i + 1) ps)

-- ---- which of its datagrams carry the FTI

abbrev carries_at : ℕ → Item → Bool
carries_at every x = is_carrier_at every x.place

first_carries : (every : ℕ) (p : ℕ × ℕ) (ps : List (ℕ × ℕ)) → 1 ≤ every → list_any (carries_at every) (items_from 0 (p ∷ ps)) ≡ true
first_carries every p ps some =
    let le = mod-le 0 every in
    let none : 0 % every ≡ 0 = omega (arith, le) in
    let e : (0 % every == 0) ≡ true = eq-eqb (0 % every) 0 none in
    rw e refl

-- as soon as there is an encoding symbol
pub some_carries : (every : ℕ) (b j : ℕ) (ps : List (ℕ × ℕ)) → 1 ≤ every → list_any (is_pair b j) ps ≡ true → list_any (carries_at every) (items_from 0 ps) ≡ true
some_carries every b j [] some h = absurd (cc)
some_carries every b j (p ∷ ps) some h = first_carries every p ps some

-- ---- the readings of what is sent

abbrev where_chosen : Fti → Bool → Option Fti
where_chosen f v = if v then Some f else None

chosen_is : (f g : Fti) (v : Bool) → where_chosen f v ≡ Some g → g ≡ f
chosen_is f g true e = cc
chosen_is f g false e = absurd (cc)

chosen_some : (f : Fti) (v : Bool) → is_some (where_chosen f v) ≡ v
chosen_some f true = refl
chosen_some f false = refl

module _ (z : Certificate) (good : IsCertificate z) (object : List ℕ) (gives : GivesObject object z) (t u every : ℕ) (lt : t < 2 ^ 32) (lu : u < 2 ^ 32) where
  abbrev who : Identity
  who = record { tsi = t; toi = u }

  -- an encoding symbol of the object has the certified bytes
  symbol_is : (b j : ℕ) (y : List ℕ) → Agrees z.fti object (record { block = b; esi = j; bytes = y }) → (c : ℕ) → c < z.fti.symbol_length → get_or y c 0 ≡ certified_byte z b j c
  symbol_is b j y agrees c hc =
      let column = agrees.columns c hc in
      let few = (counts z.fti good.fti b agrees.block).1 in
      let one = same_source z.fti object column.polynomial (polynomial z b c) b c few column.form (forms z good b c) column.source (λ i li. gives b c i agrees.block hc li) in
      sym column.symbol ∙ ap (λ (p : List ℕ). value p (point j)) one

  symbol_bytes : (b j : ℕ) (y : List ℕ) → Agrees z.fti object (record { block = b; esi = j; bytes = y }) → AreBytes y
  symbol_bytes b j y agrees c = elim (cases_lt c z.fti.symbol_length) [
    | inl hc ↦ rw (symbol_is b j y agrees c hc)
        (value_element IsByte sum_of product 0 1 byte_field (polynomial z b c) (point j) (bytes_by_recursion (polynomial z b c) (forms z good b c).bytes) (point_byte j))
    | inr past ↦ rw (get_or_past y c 0 (omega (arith, past, agrees.count))) (omega arith)
  ]

  packet_sent : (v : Bool) (b j : ℕ) (y : List ℕ) → Agrees z.fti object (record { block = b; esi = j; bytes = y })
      → IsPacket (written (packet_from t u (where_chosen z.fti v) b j y)) (packet_from t u (where_chosen z.fti v) b j y)
  packet_sent true b j y agrees =
      let hj = agrees.esi in
      let most = (counts z.fti good.fti b agrees.block).2 in
      written_packet t u (Some z.fti) b j y lt lu good.fti (omega (arith, hj, most)) (agrees.block, agrees.esi, agrees.count) (symbol_bytes b j y agrees)
  packet_sent false b j y agrees =
      let blocks = good.fti.blocks in
      let hb = agrees.block in
      let hj = agrees.esi in
      let most = (counts z.fti good.fti b agrees.block).2 in
      let some = good.fti.some_symbol in
      let size = agrees.count in
      written_packet t u None b j y lt lu tt (omega (arith, hj, most)) (omega (arith, blocks, hb), omega (arith, some, size)) (symbol_bytes b j y agrees)

  sound_sent : (v : Bool) (b j : ℕ) (y : List ℕ) → Agrees z.fti object (record { block = b; esi = j; bytes = y }) → IsCertifiedPacket z (packet_from t u (where_chosen z.fti v) b j y)
  sound_sent v b j y agrees =
      let e : nat_lt b (block_count z.fti) ≡ true = lt-ltb _ _ agrees.block in
      let g : nat_lt j (encoding_count z.fti b) ≡ true = lt-ltb _ _ agrees.esi in
      record {
        fti = λ f is. chosen_is z.fti f v is;
        size = agrees.count;
        range = rw (e, g) refl;
        symbol = symbol_is b j y agrees;
      }

  -- a packet that is sent counts
  mine_sent : (v : Bool) (b j : ℕ) (y : List ℕ) → reading_counts who (Ok (packet_from t u (where_chosen z.fti v) b j y)) ≡ true
  mine_sent v b j y = let e : (t == t) ≡ true = eq-eqb t t refl in let g : (u == u) ≡ true = eq-eqb u u refl in rw (e, g) refl

  -- and is a carrier where it was sent as one
  carrier_sent : (v : Bool) (b j : ℕ) (y : List ℕ) → is_carrier who (Ok (packet_from t u (where_chosen z.fti v) b j y)) ≡ v
  carrier_sent v b j y = ap (λ (w : Bool). w && is_some (where_chosen z.fti v)) (mine_sent v b j y) ∙ chosen_some z.fti v

  abbrev IsMine : Reading → Type 0
  IsMine r = IsCertifiedReading z r × (reading_counts who r ≡ true)

  -- what is read of the datagrams of some encoding symbols
  record SentReadings (xs : List Item) (ds : List (List ℕ)) : Type 0 where
    readings : List Reading
    read : ReadAll ds readings
    sound : AllByRecursion IsMine readings
    numbers : (i b j : ℕ) → has_arrived (symbols (counted_from who i readings)) b j ≡ list_any (is_item b j) xs
    carriers : list_any (is_carrier who) readings ≡ list_any (carries_at every) xs

  read_sent : (xs : List Item) (ds : List (List ℕ)) → AreSent object z.fti t u every xs ds → SentReadings xs ds
  read_sent [] [] h = record { readings = []; read = tt; sound = tt; numbers = λ i b j. refl; carriers = refl }
  read_sent [] (d ∷ ds) h = absurd h
  read_sent (x ∷ xs) [] h = absurd h
  read_sent (x ∷ xs) (d ∷ ds) h =
      let r = read_sent xs ds h.1 in
      let v = carries_at every x in
      let packet = packet_from t u (fti_at z.fti every x.place) x.block x.esi h.0.symbol in
      let mine = mine_sent v x.block x.esi h.0.symbol in
      record {
        readings = Ok packet ∷ r.readings;
        read = (subst (λ (y : List ℕ). IsPacket y packet) (sym h.0.spelling) (packet_sent v x.block x.esi h.0.symbol h.0.agrees), r.read);
        sound = ((sound_sent v x.block x.esi h.0.symbol h.0.agrees, mine), r.sound);
        numbers = λ i b j.
            ap (λ (w : Bool). has_arrived (symbols (cond w (record { place = i; reading = Ok packet } ∷ []) [] ++ counted_from who (i + 1) r.readings)) b j) mine
            ∙ ap (λ (w : Bool). is_item b j x || w) (r.numbers (i + 1) b j);
        carriers =
            ap (λ (w : Bool). w || list_any (is_carrier who) r.readings) (carrier_sent v x.block x.esi h.0.symbol)
            ∙ ap (λ (w : Bool). v || w) r.carriers;
      }

  certified_where : (rs : List Reading) → AllByRecursion IsMine rs → AllByRecursion (WhereCounted who (IsCertifiedReading z)) rs
  certified_where [] h = tt
  certified_where (r ∷ rs) h = (λ mine. h.0.0, certified_where rs h.1)

  all_certified : (rs : List Reading) → AllByRecursion IsMine rs → symbols (counted who rs) ≢ [] → AreCertified who rs z
  all_certified rs h some = record { some = some; packets = placed_all who (IsCertifiedReading z) 0 rs (certified_where rs h) }

  -- each encoding symbol of the session comes
  arrives : (order : Order) (ds : List (List ℕ)) (r : SentReadings (items order z.fti) ds) (b j : ℕ) → b < block_count z.fti → j < encoding_count z.fti b
      → has_arrived (symbols (counted who r.readings)) b j ≡ true
  arrives order ds r b j hb hj = r.numbers 0 b j ∙ items_pairs b j 0 (pairs order z.fti) ∙ all_pairs z.fti good.fti order b j hb hj

  -- the session leaves no block short
  suffices : (order : Order) (ds : List (List ℕ)) → (r : SentReadings (items order z.fti) ds) → Suffices who z.fti r.readings
  suffices order ds r b hb =
      let arrivals = symbols (counted who r.readings) in
      let few = (counts z.fti good.fti b hb).1 in
      let wide = source_encoding z.fti good.fti b in
      elim (nat_le (source_count z.fti b) (arrived_count arrivals b)) as (λ v. nat_le (source_count z.fti b) (arrived_count arrivals b) ≡ v → is_full z.fti arrivals b ≡ true) [
        | true ↦ λ e. e
        | false ↦ λ e.
            (let w = one_missing (has_arrived arrivals b) (source_count z.fti b) 256 (omega (arith, few)) (leb-false _ _ e) in
            let h = w.2 in
            let g = arrives order ds r b w.0 hb (let l = w.1 in omega (arith, l, wide)) in
            absurd (cc))
      ] refl

  -- block 0 has an encoding symbol
  some_encoding : 0 < encoding_count z.fti 0
  some_encoding =
      let k = (counts z.fti good.fti 0 (some_block z.fti good.fti)).0 in
      let wide = source_encoding z.fti good.fti 0 in
      omega (arith, k, wide)

  some_read : (order : Order) (ds : List (List ℕ)) → (r : SentReadings (items order z.fti) ds) → symbols (counted who r.readings) ≢ []
  some_read order ds r none =
      let g = arrives order ds r 0 0 (some_block z.fti good.fti) some_encoding in
      let h : has_arrived [] 0 0 ≡ true = subst (λ (ss : List Symbol). has_arrived ss 0 0 ≡ true) none g in
      absurd (cc)

  -- the datagram at place 0 carries the FTI
  some_carrier : (order : Order) (ds : List (List ℕ)) → 1 ≤ every → (r : SentReadings (items order z.fti) ds) → list_any (is_carrier who) r.readings ≡ true
  some_carrier order ds some r =
      r.carriers ∙ some_carries every 0 0 (pairs order z.fti) some (all_pairs z.fti good.fti order 0 0 (some_block z.fti good.fti) some_encoding)

  pub certifies : is_for who z.name ≡ true → IsObject z.fti object → 1 ≤ every → (order : Order) (ds : List (List ℕ)) → IsSessionOf object z.fti t u every order ds → Certifies who z object ds
  certifies name form some order ds sent =
      let r = read_sent (items order z.fti) ds sent in
      record {
        readings = r.readings;
        read = r.read;
        granted = record {
          name = name;
          form = form;
          gives = gives;
          certified = all_certified r.readings r.sound (some_read order ds r);
          full = suffices order ds r;
          carrier = some_carrier order ds some r;
        };
      }

-- a certificate without a name whose polynomials give the object is one of every session that is
-- sent of it, and so is its form with a name
abbrev identity : ℕ → ℕ → Identity
identity tsi toi = record { tsi = tsi; toi = toi }

pub certifies_sent : (z : Certificate) (object : List ℕ) → IsCertificate z → z.name ≡ None → IsObject z.fti object → GivesObject object z → CertifiesSent object z
certifies_sent z object good none form gives = λ t u every order ds lt lu some sent.
    let own : is_for (identity t u) z.name ≡ true = ap (is_for (identity t u)) none in
    let plain = certifies z good object gives t u every lt lu own form some order ds sent in
    (plain, record { readings = plain.readings; read = plain.read; granted = named_granted (identity t u) plain.readings object z plain.granted })
