-- A block's members, gone over one by one, and the first of them that has a wrong symbol.
use Rattle.std.proofs.Common.{◌≡◌, ℕ, ◌+◌, ◌<◌, ◌≤◌, List, Option, Some, None, Ok, length, get_or, refl, sym, ap, subst, take, ◌∙◌, inl, inr, arith}
use Rattle.std.specs.Prelude.{IfSome}
use Rattle.std.proofs.lemmas.Bool.{cases_lt}
use Rattle.std.proofs.lemmas.List.{take_all}
use Rattle.losses.specs.declared.groups.Entry.{Entry}
use Rattle.losses.specs.declared.groups.Member.{Member}
use Rattle.losses.specs.Groups.{group_at, member_of, members_among}
use Rattle.losses.proofs.SharedGroups.{own_at, next_length}
use Rattle.partition.specs.Fti.{Fti, block_count, encoding_count}
use Rattle.session.specs.Extents.{datagram_in}
use Rattle.session.specs.declared.extent.Extent.{Extent}
use Rattle.alc.specs.Packet.{Packet}
use Rattle.alc.specs.Computed.{read_of}
use Rattle.alc.specs.Reading.{Reading}
use Rattle.reception.specs.Reception.{InRange, look, symbol_of}
use Rattle.certificate.specs.BlockSymbols.{AreSymbols}
use Rattle.certificate.specs.Certificate.{Certificate, IsCertificate}
use Rattle.cert.specs.Tallying.{IsPacketOf, SaysNothing, Tallied, by_certificate, nothing, reading_at, tallied_of}
use Rattle.cert.proofs.DatagramSteps.{fti_holds}
use Rattle.cert.proofs.Members.{member_is}
use Rattle.file_check.specs.Blocks.{IsWrong, limit_of, member_at}
use Rattle.file_check.specs.Indexed.{IsIndexOf, extents_of}
use Rattle.file_check.specs.Standing.{no_extent}
use Rattle.file_check.specs.declared.index.Index.{Index}
use Rattle.file_check.specs.declared.blocks.Wrong.{Wrong}

abbrev pub no_entry : Entry
no_entry = record { place = 0; group = 0; esi = 0 }

module _ (content : Option (List ℕ)) (index : Index) (b : ℕ) (symbols : List ℕ) where
  abbrev t : Tallied
  t = tallied_of index.tally

  -- what holds of the datagrams and the certificate of a file that is sound
  abbrev pub InFile : (List ℕ → Certificate → List (List ℕ) → Type 0) → Type 0
  InFile P = (x : List ℕ) (z : Certificate) (ds : List (List ℕ)) → content ≡ Some x → IsCertificate z → IsIndexOf x z.fti index ds
      → AreSymbols z b 0 (encoding_count z.fti b) symbols → P x z ds

  -- the first k members were gone over, with this as the first wrong symbol of them and those before
  pub record AreGoneOver (before : Option Wrong) (k : ℕ) (first : Option Wrong) : Type 0 where
    pub said : InFile (λ x z ds. (j : ℕ) → j < k → (member_at t b j).place < limit_of first (length ds)
        → SaysNothing (by_certificate z) index.tally.scope (reading_at ds (member_at t b j).place))
    pub wrong : InFile (λ x z ds. IfSome before (IsWrong z index.tally.scope ds) → IfSome first (IsWrong z index.tally.scope ds))
    pub earlier : (x : List ℕ) (f : Fti) (ds : List (List ℕ)) → IsIndexOf x f index ds → limit_of first (length ds) ≤ limit_of before (length ds)

  -- what the certificate says of the symbol at a place
  abbrev pub IsJudged : ℕ → Option ℕ → Type 0
  IsJudged place o = InFile (λ x z ds. (p : Packet) → look index.tally.scope (reading_at ds place) ≡ Ok (InRange p) → by_certificate z (symbol_of p) ≡ o)

  pub none_gone : (before : Option Wrong) → AreGoneOver before 0 before
  none_gone before = record {
    said = λ x z ds told valid of are j l. absurd (omega (arith, l));
    wrong = λ x z ds told valid of are h. h;
    earlier = λ x f ds of. omega arith;
  }

  -- the member of an entry of the block
  pub entry_seen : (entries : List Entry) → members_among b entries ≡ (group_at t.groups b).members
      → (i : ℕ) → i < length entries → (get_or entries i no_entry).group ≡ b
      → let k : ℕ = length (members_among b (take i entries)) in
      (k < length (group_at t.groups b).members) × ((get_or entries i no_entry).place ≡ (member_at t b k).place) × ((get_or entries i no_entry).esi ≡ (member_at t b k).esi)
  entry_seen entries same i l own =
      let k : ℕ = length (members_among b (take i entries)) in
      let none : Member = record { place = 0; esi = 0 } in
      let at = own_at b entries i no_entry none l own in
      let is : member_of (get_or entries i no_entry) ≡ member_at t b k = sym at.1 ∙ ap (λ (ms : List Member). get_or ms k none) same in
      (rw same at at.0, ap (λ (q : Member). q.place) is, ap (λ (q : Member). q.esi) is)

  -- one entry of the block more
  pub entry_gone : (before first : Option Wrong) (entries : List Entry) (i : ℕ) → i < length entries → (get_or entries i no_entry).group ≡ b
      → AreGoneOver before (length (members_among b (take i entries)) + 1) first → AreGoneOver before (length (members_among b (take (i + 1) entries))) first
  entry_gone before first entries i l own h = subst (λ (n : ℕ). AreGoneOver before n first) (sym (next_length b entries i no_entry l own)) h

  -- all members, where all entries were seen
  pub all_gone : (before first : Option Wrong) (entries : List Entry) → members_among b entries ≡ (group_at t.groups b).members
      → (i : ℕ) → length entries ≤ i → AreGoneOver before (length (members_among b (take i entries))) first → AreGoneOver before (length (group_at t.groups b).members) first
  all_gone before first entries same i end h =
      subst (λ (n : ℕ). AreGoneOver before n first) (ap (λ (es : List Entry). length (members_among b es)) (take_all i entries end) ∙ ap (λ (ms : List Member). length ms) same) h

  -- the known FTI is that of the datagrams
  module _ (f : Fti) (known : index.tally.scope.fti ≡ Some f) (within : b < block_count f) where
    pub same_fti : (x : List ℕ) (g : Fti) (ds : List (List ℕ)) → IsIndexOf x g index ds → f ≡ g
    same_fti x g ds of =
        let is : index.tally.scope.fti ≡ Some g = fti_holds nothing g t ds of.tallied in
        cc

    pub member_there : (x : List ℕ) (g : Fti) (ds : List (List ℕ)) → IsIndexOf x g index ds → (k : ℕ) → k < length (group_at t.groups b).members
        → ((member_at t b k).place < length ds) × IsPacketOf index.tally.scope b (member_at t b k).esi (reading_at ds (member_at t b k).place)
    member_there x g ds of k l = member_is g t ds of.tallied b (subst (λ (h : Fti). b < block_count h) (same_fti x g ds of) within) k l

    -- the extent at a member's place is that of its datagram
    module _ (k : ℕ) (l : k < length (group_at t.groups b).members) (e : Extent) (is : get_or (extents_of index.extents) (member_at t b k).place no_extent ≡ e) where
      pub extent_read : (x : List ℕ) (g : Fti) (ds : List (List ℕ)) → IsIndexOf x g index ds → read_of (datagram_in x e) ≡ reading_at ds (member_at t b k).place
      extent_read x g ds of =
          ap (λ (y : Extent). read_of (datagram_in x y)) (sym is)
          ∙ ap read_of (of.stand x refl (member_at t b k).place (member_there x g ds of k l).0).0

      pub extent_inside : (x : List ℕ) (g : Fti) (ds : List (List ℕ)) → IsIndexOf x g index ds → e.offset + e.length ≤ length x
      extent_inside x g ds of = rw is at (of.stand x refl (member_at t b k).place (member_there x g ds of k l).0).1

      -- what is said of the symbol that was read there
      pub judged_there : (o : Option ℕ)
          → ((x : List ℕ) (z : Certificate) (p : Packet) → content ≡ Some x → IsCertificate z → index.tally.scope.fti ≡ Some z.fti → AreSymbols z b 0 (encoding_count z.fti b) symbols
          → e.offset + e.length ≤ length x → look index.tally.scope (read_of (datagram_in x e)) ≡ Ok (InRange p) → by_certificate z (symbol_of p) ≡ o)
          → IsJudged (member_at t b k).place o
      judged_there o says = λ x z ds told valid of are p looks.
          says x z p told valid (fti_holds nothing z.fti t ds of.tallied) are (extent_inside x z.fti ds of)
          (ap (λ (r : Reading). look index.tally.scope r) (extent_read x z.fti ds of) ∙ looks)

    -- one member more
    module _ (before : Option Wrong) (k : ℕ) (l : k < length (group_at t.groups b).members) (first : Option Wrong) (h : AreGoneOver before k first) where
      abbrev place : ℕ
      place = (member_at t b k).place

      -- the same first, if it says nothing of a member that stands before it
      kept : (InFile (λ x z ds. place < limit_of first (length ds) → SaysNothing (by_certificate z) index.tally.scope (reading_at ds place)))
          → AreGoneOver before (k + 1) first
      kept here = record {
        said = λ x z ds told valid of are j lj lt. elim (cases_lt j k) [
          | inl low ↦ h.said x z ds told valid of are j low lt
          | inr high ↦
              let at : j ≡ k = omega (arith, lj, high) in
              subst (λ (n : ℕ). (member_at t b n).place < limit_of first (length ds) → SaysNothing (by_certificate z) index.tally.scope (reading_at ds (member_at t b n).place))
              (sym at) (here x z ds told valid of are) lt
        ];
        wrong = h.wrong;
        earlier = h.earlier;
      }

      pub one_behind : (w : Wrong) → first ≡ Some w → w.place ≤ place → AreGoneOver before (k + 1) first
      one_behind w is behind = kept (λ x z ds told valid of are lt. (
          let low : place < limit_of (Some w) (length ds) = subst (λ (o : Option Wrong). place < limit_of o (length ds)) is lt in
          absurd (omega (arith, low, behind))))

      pub one_right : IsJudged place None → AreGoneOver before (k + 1) first
      one_right judged = kept (λ x z ds told valid of are lt. judged x z ds told valid of are)

      before_first : ¬ ((w : Wrong) × (first ≡ Some w) × (w.place ≤ place)) → (n : ℕ) → place < n → place ≤ limit_of first n
      before_first ahead n lt = by first refl
        where
          by : (o : Option Wrong) → first ≡ o → place ≤ limit_of o n
          by None e = omega (arith, lt)
          by (Some w) e = elim (cases_lt w.place place) [
            | inl low ↦ absurd (ahead (w, e, omega (arith, low)))
            | inr high ↦ omega (arith, high)
          ]

      pub one_wrong : ¬ ((w : Wrong) × (first ≡ Some w) × (w.place ≤ place)) → (column : ℕ) → IsJudged place (Some column)
          → AreGoneOver before (k + 1) (Some (record { place = place; column = column }))
      one_wrong ahead column judged = record {
        said = λ x z ds told valid of are j lj lt. elim (cases_lt j k) [
          | inl low ↦
              let le = before_first ahead (length ds) (member_there x z.fti ds of k l).0 in
              h.said x z ds told valid of are j low (omega (arith, lt, le))
          | inr high ↦
              let at : j ≡ k = omega (arith, lj, high) in
              let same : (member_at t b j).place ≡ place = ap (λ (n : ℕ). (member_at t b n).place) at in
              absurd (omega (arith, lt, same))
        ];
        wrong = λ x z ds told valid of are e. (
            let there = member_there x z.fti ds of k l in
            record { packet = there.1.packet; place = there.0; look = there.1.look; says = judged x z ds told valid of are there.1.packet there.1.look });
        earlier = λ x g ds of. (
            let le = before_first ahead (length ds) (member_there x g ds of k l).0 in
            let old = h.earlier x g ds of in
            omega (arith, le, old));
      }
