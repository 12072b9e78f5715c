-- The bytes of blocks, where they are told; and what comes of a symbol, where errors are passed on.
use Rattle.std.proofs.Common.{◌≡◌, true, false, ℕ, ◌+◌, List, ◌++◌, Option, Some, None, length, take, drop, refl, sym, ap, subst, ◌∙◌}
use Rattle.std.proofs.Math.Seq.{take-append_seam}
use Rattle.std.specs.Prelude.{eqb, Bool, Result, Ok, Err, IsErrAnd, IfErr, OnErr, ⊤}
use lib.Pointwise.{pointwise}
use Rattle.alc.proofs.Chosen.{same_self}
use Rattle.block_recovery.proofs.Index.{pointwise_same}
use Rattle.alc.specs.declared.reading.Packet.{Packet}
use Rattle.receiver.specs.Putting.{UnlessFailed, Outcome, BlockOutcome, BytesChange}
use Rattle.block_bytes.specs.declared.block_bytes.BytesFault.{BytesFault}
use Rattle.block_bytes.specs.declared.block_bytes.BytesFault.TheVariants as bytes
use Rattle.receiver.specs.declared.receiver.FeedFault.{FeedFault}
use Rattle.receiver.specs.declared.receiver.FeedFault.TheVariants.{Fault, Full, Early, NoMemory, Failed}
use Rattle.block_bytes.specs.Bytes.{StandIn, Becomes, Puts}

pub told_bytes : (told : Option (ℕ → List ℕ)) (x : ℕ → List ℕ) (b from : ℕ) (bytes : List ℕ) → told ≡ Some x → StandIn told b from bytes → bytes ≡ take (length bytes) (drop from (x b))
told_bytes None x b from bytes is h = absurd (cc)
told_bytes (Some y) x b from bytes is h =
    let e : y ≡ x = cc in
    subst (λ (z : ℕ → List ℕ). bytes ≡ take (length bytes) (drop from (z b))) e h

pub puts_at : (told new : Option (ℕ → List ℕ)) (x : ℕ → List ℕ) (b from : ℕ) (bytes : List ℕ) → told ≡ Some x → Puts told new b from bytes
    → Becomes x new b (λ y. take (from + length bytes) y ≡ take from (x b) ++ bytes)
puts_at None new x b from bytes is h = absurd (cc)
puts_at (Some z) new x b from bytes is h =
    let e : z ≡ x = cc in
    subst (λ (w : ℕ → List ℕ). Becomes w new b (λ y. take (from + length bytes) y ≡ take from (w b) ++ bytes)) e h

pub becomes_same : (x : ℕ → List ℕ) (new : Option (ℕ → List ℕ)) (b : ℕ) (P : List ℕ → Type 0) → new ≡ Some x → P (x b) → Becomes x new b P
becomes_same x new b P is h = record { bytes = x; told = is; others = λ a ne. refl; has = h }

pub becomes_then : (x : ℕ → List ℕ) (new : Option (ℕ → List ℕ)) (b : ℕ) (P Q : List ℕ → Type 0) → ((y : List ℕ) → P y → Q y) → Becomes x new b P → Becomes x new b Q
becomes_then x new b P Q f h = record { bytes = h.bytes; told = h.told; others = h.others; has = f (h.bytes b) h.has }

-- a part of a vector that is all of it
pub all_of : (xs ys : List ℕ) (n : ℕ) → length xs ≡ n → take n (xs ++ ys) ≡ xs
all_of xs ys n len = ap (λ (k : ℕ). take k (xs ++ ys)) (sym len) ∙ take-append_seam xs ys

-- texts that aren't the same differ
pub differ : (xs ys : List ℕ) (v : Bool) → v ≡ pointwise eqb xs ys → v ≡ false → xs ≡ ys → ⊥
differ xs ys v is other same =
    let w : pointwise eqb ys ys ≡ true = pointwise_same ys ys ∙ same_self ys in
    let u : pointwise eqb xs ys ≡ true = ap (λ (l : List ℕ). pointwise eqb l ys) same ∙ w in
    absurd (cc)

-- so, unless it has failed, and more than that
pub unless : (failed : Bool) (fault : FeedFault) (P Q : Type 0) → (P → Q) → UnlessFailed failed fault P → UnlessFailed failed fault Q
unless failed (Fault e) P Q f h = f h
unless failed Full P Q f h = f h
unless failed Early P Q f h = f h
unless failed NoMemory P Q f h = f h
unless failed Failed P Q f h = h

-- where it has failed, so has reading or writing
pub is_broken : (failed : Bool) (fault : FeedFault) (P : Type 0) → UnlessFailed failed fault P → fault ≡ Failed → failed ≡ true
is_broken failed fault P h is = subst (λ (v : FeedFault). UnlessFailed failed v P) is h

-- there is no memory
pub out_of_memory : (r : Result ⊤ FeedFault) (failed : Bool) (P : Type 0) (N : FeedFault → Type 0) → IsErrAnd r (λ u. u ≡ NoMemory) → N NoMemory → Outcome failed r P N
out_of_memory (Ok a) failed P N is h = absurd is
out_of_memory (Err u) failed P N is h = (tt, subst (λ (v : FeedFault). UnlessFailed failed v (N v)) (sym is) h)

-- reading or writing has failed
pub out_of_order : (r : Result ⊤ FeedFault) (failed : Bool) (P : Type 0) (N : FeedFault → Type 0) → IsErrAnd r (λ u. u ≡ Failed) → failed ≡ true → Outcome failed r P N
out_of_order (Ok a) failed P N is h = absurd is
out_of_order (Err u) failed P N is h = (tt, subst (λ (v : FeedFault). UnlessFailed failed v (N v)) (sym is) h)

-- bytes weren't written
pub unwritten : (e : BytesFault) (r : Result ⊤ FeedFault) (failed : Bool) (P : Type 0) (N : FeedFault → Type 0)
    → IsErrAnd r (λ u. (e ≡ bytes.NoMemory → u ≡ NoMemory) × (e ≡ bytes.Failed → u ≡ Failed))
    → (e ≡ bytes.NoMemory → N NoMemory) → (e ≡ bytes.Failed → failed ≡ true) → Outcome failed r P N
unwritten e (Ok a) failed P N is none broken = absurd is
unwritten bytes.NoMemory (Err u) failed P N is none broken = out_of_memory (Err u) failed P N (is.0 refl) (none refl)
unwritten bytes.Failed (Err u) failed P N is none broken = out_of_order (Err u) failed P N (is.1 refl) (broken refl)

-- what is so of an error is so of what is passed on
pub err_then : {A E : Type 0} (r : Result A E) (e : E) (P : E → Type 0) → IsErrAnd r (λ x. x ≡ e) → P e → IfErr r P
err_then (Ok a) e P is h = tt
err_then (Err x) e P is h = subst P (sym is) h

-- and the error is that one
pub err_is : {A E : Type 0} (r : Result A E) (e f : E) → IsErrAnd r (λ x. x ≡ e) → r ≡ Err f → e ≡ f
err_is (Ok a) e f is same = absurd is
err_is (Err x) e f is same = let own : x ≡ f = cc in sym is ∙ own

-- what is so anyway is so at an error
pub err_same : {A E : Type 0} (r : Result A E) (Q : E → Type 0) (P : Type 0) → IsErrAnd r Q → P → OnErr r P
err_same (Ok a) Q P is h = tt
err_same (Err e) Q P is h = h

-- what an error is is so where it is passed on
pub passed : (r : Result ⊤ FeedFault) (e : FeedFault) (failed : Bool) (P : Type 0) (N : FeedFault → Type 0) → IsErrAnd r (λ u. u ≡ e) → Outcome failed (Err e) P N → Outcome failed r P N
passed (Ok a) e failed P N is h = absurd is
passed (Err u) e failed P N is h = (tt, subst (λ (v : FeedFault). UnlessFailed failed v (N v)) (sym is) h.1)

-- what comes of a symbol is so of what follows
pub outcome_then : (r : Result ⊤ FeedFault) (P Q : Type 0) (N M : FeedFault → Type 0) (failed : Bool) → (P → Q) → ((e : FeedFault) → N e → M e) → Outcome failed r P N → Outcome failed r Q M
outcome_then (Ok a) P Q N M failed f n h = (f h.0, tt)
outcome_then (Err e) P Q N M failed f n h = (tt, unless failed e (N e) (M e) (n e) h.1)

-- and of a block's bytes
pub block_then : (p : Packet) (at : ℕ → Option (List ℕ)) (change : BytesChange) (r : Result ⊤ FeedFault) (Is Is' : List ℕ → (ℕ → Option (List ℕ)) → Type 0) (Was Was' : List ℕ → Type 0) (Why : FeedFault → Type 0)
    → ((y : List ℕ) (g : ℕ → Option (List ℕ)) → Is y g → Is' y g) → ((y : List ℕ) → Was y → Was' y) → BlockOutcome p at change r Is Was Why → BlockOutcome p at change r Is' Was' Why
block_then p at change r Is Is' Was Was' Why is was =
    outcome_then r _ _ _ _ change.failed
    (λ h. (h.0, becomes_then change.before change.after p.sbn _ _ (λ y. is y _) h.1))
    (λ e h. (h.0, becomes_then change.before change.after p.sbn Was Was' was h.1))
