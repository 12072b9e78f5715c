-- Counts by identity, after one more packet.
use Rattle.std.specs.Prelude.{cond}
use Rattle.std.specs.BTreeMap.{BTreeMap, get, IsUnchanged, Updates}
use Rattle.std.specs.Map.{lookup}
use Rattle.std.specs.Prelude.{Result, OnOk, OnErr}
use Rattle.std.specs.Ordering.{is_eq}
use Rattle.std.proofs.Common.{◌≡◌, ◌<◌, ◌≤◌, ◌∙◌, ◌+◌, ℕ, Bool, true, false, List, [], ◌∷◌, ◌++◌, length, Option, Some, None, Ok, Err, refl, sym, ap, subst, arith}
use Rattle.std.proofs.lemmas.List.{append-nil, length_push}
use Rattle.std.proofs.lemmas.Map.Views.{tells_apart}
use Rattle.alc.specs.Packet.{Packet}
use Rattle.alc.specs.Reading.{Reading}
use Rattle.inventory.specs.Packets.{packets_of, same_ids}
use Rattle.inventory.specs.Tally.{pair_cmp, IsTally}
use Rattle.inventory.specs.Tallies.{IsTallyAt, AreFew, Changes}
use Rattle.inventory.specs.Tells.{named_by}
use Rattle.inventory.specs.declared.tally.Tally.{Tally}
use Rattle.inventory.proofs.Pairs.{pair_exact, same_is, same_laws}
use Rattle.inventory.proofs.Steps.{packets_more}

pub few_then : (old new : BTreeMap (ℕ × ℕ) Tally) (key : ℕ × ℕ) (value : Option Tally) (read next : ℕ) → Changes old new key value → AreFew old read → read ≤ next
    → ((tally : Tally) → value ≡ Some tally → tally.datagrams ≤ next) → AreFew new next
few_then old new key value read next changes few more here q tally is = go (is_eq (pair_cmp key q)) (sym (changes q) ∙ is)
  where
    go : (b : Bool) → cond b value (get pair_cmp old q) ≡ Some tally → tally.datagrams ≤ next
    go true at = here tally at
    go false at = let small = few q tally at in omega (arith, small, more)

pub few_taken : (old new : BTreeMap (ℕ × ℕ) Tally) (key : ℕ × ℕ) (read : ℕ) → Changes old new key None → AreFew old read → AreFew new read
few_taken old new key read changes few = few_then old new key None read read changes few (omega arith) (λ tally bad. absurd (cc))

pub few_put : {A E : Type 0} (r : Result A E) (old new : BTreeMap (ℕ × ℕ) Tally) (key : ℕ × ℕ) (tally : Tally) (read : ℕ) → OnOk r (Updates pair_cmp old new key (Some tally))
    → OnErr r (IsUnchanged old new) → AreFew old read → tally.datagrams ≤ read + 1 → AreFew new (read + 1)
few_put (Ok a) old new key tally read changes same few small =
    few_then old new key (Some tally) read (read + 1) changes.0 few (omega arith)
    (λ t is. let one : tally ≡ t = cc in subst (λ (u : Tally). u.datagrams ≤ read + 1) one small)
few_put (Err e) old new key tally read changes same few small = λ q t is.
    let before = few q t (sym (ap (λ (es : List ((ℕ × ℕ) × Tally)). lookup (λ k. is_eq (pair_cmp q k)) es) same) ∙ is) in
    omega (arith, before)

module _ (rs : List Reading) (p : Packet) (old mid new : BTreeMap (ℕ × ℕ) Tally) (tally : Tally) where
  pub told_more : Changes old mid (p.tsi, p.toi) None → Changes mid new (p.tsi, p.toi) (Some tally)
      → IsTally (packets_of (named_by (p.tsi, p.toi)) rs ++ (length rs, p) ∷ []) tally
      → ((q : ℕ × ℕ) → IsTallyAt (packets_of (named_by q) rs) (get pair_cmp old q))
      → (q : ℕ × ℕ) → IsTallyAt (packets_of (named_by q) (rs ++ Ok p ∷ [])) (get pair_cmp new q)
  told_more takes puts more before q = go (same_ids (p.tsi, p.toi) q) refl
    where
      got : get pair_cmp new (p.tsi, p.toi) ≡ Some tally
      got = puts (p.tsi, p.toi) ∙ ap (λ (b : Bool). cond b (Some tally) (get pair_cmp mid (p.tsi, p.toi))) (same_is (p.tsi, p.toi) (p.tsi, p.toi) ∙ same_laws.refl (p.tsi, p.toi))

      packets : packets_of (named_by (p.tsi, p.toi)) (rs ++ Ok p ∷ []) ≡ packets_of (named_by (p.tsi, p.toi)) rs ++ (length rs, p) ∷ []
      packets = packets_more (named_by (p.tsi, p.toi)) rs (Ok p)
          ∙ ap (λ (b : Bool). packets_of (named_by (p.tsi, p.toi)) rs ++ cond b ((length rs, p) ∷ []) []) (same_laws.refl (p.tsi, p.toi))

      here : IsTallyAt (packets_of (named_by (p.tsi, p.toi)) (rs ++ Ok p ∷ [])) (get pair_cmp new (p.tsi, p.toi))
      here =
          let longer = length_push (packets_of (named_by (p.tsi, p.toi)) rs) (length rs, p) in
          subst (λ (o : Option Tally). IsTallyAt (packets_of (named_by (p.tsi, p.toi)) (rs ++ Ok p ∷ [])) o) (sym got)
          (subst (λ (ys : List (ℕ × Packet)). (0 < length ys) × IsTally ys tally) (sym packets) (omega (arith, longer), more))

      go : (b : Bool) → same_ids (p.tsi, p.toi) q ≡ b → IsTallyAt (packets_of (named_by q) (rs ++ Ok p ∷ [])) (get pair_cmp new q)
      go true is =
          subst (λ (z : ℕ × ℕ). IsTallyAt (packets_of (named_by z) (rs ++ Ok p ∷ [])) (get pair_cmp new z))
          (tells_apart pair_exact (p.tsi, p.toi) q (same_is (p.tsi, p.toi) q ∙ is)) here
      go false is =
          let other = same_is (p.tsi, p.toi) q ∙ is in
          let kept : get pair_cmp new q ≡ get pair_cmp old q = puts q ∙ ap (λ (b : Bool). cond b (Some tally) (get pair_cmp mid q)) other ∙ takes q
          ∙ ap (λ (b : Bool). cond b None (get pair_cmp old q)) other in
          let same : packets_of (named_by q) (rs ++ Ok p ∷ []) ≡ packets_of (named_by q) rs = packets_more (named_by q) rs (Ok p)
          ∙ ap (λ (b : Bool). packets_of (named_by q) rs ++ cond b ((length rs, p) ∷ []) []) is ∙ append-nil (packets_of (named_by q) rs) in
          subst (λ (o : Option Tally). IsTallyAt (packets_of (named_by q) (rs ++ Ok p ∷ [])) o) (sym kept)
          (subst (λ (ys : List (ℕ × Packet)). IsTallyAt ys (get pair_cmp old q)) (sym same) (before q))
