-- One reading more, one packet more.
use Rattle.std.specs.Prelude.{◌||◌, slice_get, count_by}
use Rattle.std.specs.Option.{option_to_list}
use Rattle.std.specs.List.{list_any}
use Rattle.std.specs.Set.{is_member}
use Rattle.std.proofs.Common.{◌≡◌, ◌<◌, ◌∙◌, ◌+◌, ◌-◌, ℕ, suc, Bool, true, false, List, [], ◌∷◌, ◌++◌, length, get_or, Some, None, Err, refl, sym, ap, arith, append_assoc}
use Rattle.std.proofs.lemmas.List.{append-nil, map-append, get_or_push, get_or_append_left, length-map, length_push}
use Rattle.std.proofs.lemmas.List.Concat.{flat_map-append}
use Rattle.std.proofs.lemmas.List.Folds.{list_any-append}
use Rattle.std.proofs.lemmas.List.Sums.{sum_by-append}
use Rattle.std.proofs.lemmas.Bool.{eq-eqb}
use Rattle.std.proofs.lemmas.Map.Keys.{IsDistinct-from_sorted}
use Rattle.std.proofs.lemmas.Map.Made.{length-from_keys}
use Rattle.std.proofs.lemmas.Cmp.{eq_by_cmp_equiv}
use Rattle.std.specs.BTreeSet.{BTreeSet, contains, btree_set_len, IsOrdered}
use Rattle.std.specs.Ordering.{is_eq}
use Rattle.std.specs.Prelude.{cond}
use Rattle.std.specs.Set.{distinct_count}
use Rattle.inventory.specs.Tally.{pair_cmp}
use Rattle.inventory.proofs.Pairs.{pair_total, same_is, one_test, same_laws}
use Rattle.partition.specs.Fti.{Fti}
use Rattle.alc.specs.Packet.{Packet}
use Rattle.alc.specs.Reading.{Reading}
use Rattle.alc.specs.declared.fault.PacketFault.{PacketFault}
use Rattle.reception.specs.declared.scope.Identity.{Identity}
use Rattle.reception.specs.Reception.{same_fti}
use Rattle.inventory.specs.Packets.{packet_at, packets_from, packets_of, places, carried, symbol_ids, same_ids, fault_in, faults_in}

packets_from_more : (who : Identity) (place : ℕ) (rs : List Reading) (r : Reading)
    → packets_from who place (rs ++ r ∷ []) ≡ packets_from who place rs ++ packet_at who (place + length rs) r
packets_from_more who place [] r =
    let at : place + 0 ≡ place = omega arith in
    append-nil (packet_at who place r) ∙ ap (λ (n : ℕ). packet_at who n r) (sym at)
packets_from_more who place (x ∷ rs) r =
    let at : (place + 1) + length rs ≡ place + suc (length rs) = omega arith in
    ap (λ (t : List (ℕ × Packet)). packet_at who place x ++ t)
    (packets_from_more who (place + 1) rs r ∙ ap (λ (n : ℕ). packets_from who (place + 1) rs ++ packet_at who n r) at)
    ∙ sym (append_assoc (packet_at who place x) (packets_from who (place + 1) rs) (packet_at who (place + suc (length rs)) r))

-- one reading more
pub packets_more : (who : Identity) (rs : List Reading) (r : Reading) → packets_of who (rs ++ r ∷ []) ≡ packets_of who rs ++ packet_at who (length rs) r
packets_more who rs r =
    let at : 0 + length rs ≡ length rs = omega arith in
    packets_from_more who 0 rs r ∙ ap (λ (n : ℕ). packets_of who rs ++ packet_at who n r) at

pub packets_with_fault : (who : Identity) (rs : List Reading) (e : PacketFault) → packets_of who (rs ++ Err e ∷ []) ≡ packets_of who rs
packets_with_fault who rs e = packets_more who rs (Err e) ∙ append-nil (packets_of who rs)

pub faults_more : (rs : List Reading) (r : Reading) → faults_in (rs ++ r ∷ []) ≡ faults_in rs ++ fault_in r
faults_more rs r = flat_map-append fault_in rs (r ∷ []) ∙ ap (λ (t : List PacketFault). faults_in rs ++ t) (append-nil (fault_in r))

-- ---- one packet more

module _ (xs : List (ℕ × Packet)) (x : ℕ × Packet) where
  pub places_more : places (xs ++ x ∷ []) ≡ places xs ++ x.0 ∷ []
  places_more = map-append (λ (y : ℕ × Packet). y.0) xs (x ∷ [])

  pub ids_more : symbol_ids (xs ++ x ∷ []) ≡ symbol_ids xs ++ (x.1.block, x.1.esi) ∷ []
  ids_more = map-append (λ (y : ℕ × Packet). (y.1.block, y.1.esi)) xs (x ∷ [])

  pub carried_more : carried (xs ++ x ∷ []) ≡ carried xs ++ option_to_list x.1.fti
  carried_more =
      flat_map-append (λ (y : ℕ × Packet). option_to_list y.1.fti) xs (x ∷ [])
      ∙ ap (λ (t : List Fti). carried xs ++ t) (append-nil (option_to_list x.1.fti))

  pub first_of_none : length xs ≡ 0 → get_or (places (xs ++ x ∷ [])) 0 0 ≡ x.0
  first_of_none none = ap (λ (t : List ℕ). get_or t 0 0) places_more ∙ get_or_push (places xs) x.0 0 0 (length-map xs (λ (y : ℕ × Packet). y.0) ∙ none)

  pub first_of_some : 0 < length xs → get_or (places (xs ++ x ∷ [])) 0 0 ≡ get_or (places xs) 0 0
  first_of_some some =
      let count = length-map xs (λ (y : ℕ × Packet). y.0) in
      ap (λ (t : List ℕ). get_or t 0 0) places_more ∙ get_or_append_left (places xs) (x.0 ∷ []) 0 0 (omega (arith, count, some))

  pub last_is : get_or (places (xs ++ x ∷ [])) (length (xs ++ x ∷ []) - 1) 0 ≡ x.0
  last_is =
      let count = length-map xs (λ (y : ℕ × Packet). y.0) in
      let longer = length_push xs x in
      let at : length (places xs) ≡ length (xs ++ x ∷ []) - 1 = omega (arith, count, longer) in
      ap (λ (t : List ℕ). get_or t (length (xs ++ x ∷ []) - 1) 0) places_more ∙ get_or_push (places xs) x.0 0 (length (xs ++ x ∷ []) - 1) at

-- ---- FTIs

pub none_first : (ftis : List Fti) → slice_get ftis 0 ≡ None → ftis ≡ []
none_first [] none = refl
none_first (f ∷ ftis) none = absurd (cc)

pub same_itself : (f : Fti) → same_fti f f ≡ true
same_itself f =
    rw (eq-eqb f.transfer_length f.transfer_length refl, eq-eqb f.symbol_length f.symbol_length refl, eq-eqb f.block_length f.block_length refl, eq-eqb f.max_symbols f.max_symbols refl) refl

pub count_push : (f : Fti) (ftis : List Fti) (x : Fti) → count_by (same_fti f) (ftis ++ x ∷ []) ≡ count_by (same_fti f) ftis + cond (same_fti f x) 1 0
count_push f ftis x =
    let last : 0 + cond (same_fti f x) 1 0 ≡ cond (same_fti f x) 1 0 = omega arith in
    sum_by-append (λ (g : Fti). cond (same_fti f g) 1 0) ftis (x ∷ []) ∙ ap (λ (n : ℕ). count_by (same_fti f) ftis + n) last

module _ (ftis : List Fti) (x : Fti) (none : slice_get ftis 0 ≡ None) where
  pub first_now : Some x ≡ slice_get (ftis ++ x ∷ []) 0
  first_now = sym (ap (λ (gs : List Fti). slice_get (gs ++ x ∷ []) 0) (none_first ftis none))

-- ---- the blocks and ESIs of symbols

or_none : (a b c : Bool) → a ≡ c → cond c true b ≡ (b || (a || false))
or_none true true true is = refl
or_none true false true is = refl
or_none false true false is = refl
or_none false false false is = refl
or_none true b false is = absurd (cc)
or_none false b true is = absurd (cc)

module _ (xs : List (ℕ × Packet)) (x : ℕ × Packet) (old new : BTreeSet (ℕ × ℕ)) where
  pub ids_added : ((q : ℕ × ℕ) → contains pair_cmp new q ≡ cond (is_eq (pair_cmp (x.1.block, x.1.esi) q)) true (contains pair_cmp old q))
      → ((q : ℕ × ℕ) → contains pair_cmp old q ≡ is_member same_ids (symbol_ids xs) q)
      → (q : ℕ × ℕ) → contains pair_cmp new q ≡ is_member same_ids (symbol_ids (xs ++ x ∷ [])) q
  ids_added adds before q =
      let k : ℕ × ℕ = (x.1.block, x.1.esi) in
      let same : same_ids q k ≡ is_eq (pair_cmp k q) = same_laws.symm q k ∙ sym (same_is k q) in
      adds q ∙ or_none (same_ids q k) (contains pair_cmp old q) (is_eq (pair_cmp k q)) same
      ∙ ap (λ (b : Bool). b || (same_ids q k || false)) (before q)
      ∙ sym (ap (list_any (same_ids q)) (ids_more xs x) ∙ list_any-append (same_ids q) (symbol_ids xs) (k ∷ []))

pub ids_counted : (ids : List (ℕ × ℕ)) (set : BTreeSet (ℕ × ℕ)) → IsOrdered pair_cmp set → ((q : ℕ × ℕ) → contains pair_cmp set q ≡ is_member same_ids ids q)
    → btree_set_len set ≡ distinct_count same_ids ids
ids_counted ids set rising are =
    length-from_keys (eq_by_cmp_equiv pair_total) set.keys ids (IsDistinct-from_sorted pair_cmp set.keys rising) (λ q. are q ∙ ap (λ (e : ℕ × ℕ → ℕ × ℕ → Bool). is_member e ids q) (sym one_test))
    ∙ ap (λ (e : ℕ × ℕ → ℕ × ℕ → Bool). distinct_count e ids) one_test
