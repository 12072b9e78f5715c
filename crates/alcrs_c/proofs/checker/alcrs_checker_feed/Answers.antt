use Rattle.std.proofs.Common.{◌≡◌, ◌∙◌, Option, Some, None, Result, Ok, Err, alloc_error, refl, sym, ap, subst, rules}
use Rattle.std.specs.Prelude.{⊤}
use Rattle.cert.specs.Fed.{ended_of}
use Rattle.cert.specs.declared.verdict.Reason.{Reason}
use Rattle.std.specs.declared.alloc.AllocError.{AllocError}
use Rattle.alcrs_c.specs.Told.{told_reason}
use Rattle.alcrs_c.proofs.checker.alcrs_checker_feed.Goals as goal

-- one that goes on has no reason
IsNone : Option (Result Reason AllocError) → Type 0
IsNone None = ⊤
IsNone (Some x) = ⊥

goes_on : (o : Option (Result Reason AllocError)) (x : Result Reason AllocError) → o ≡ None → o ≡ Some x → ⊥
unfolding IsNone
goes_on o x none some = subst IsNone (sym none ∙ some) tt

-- it has one reason
reason_or : Reason → Option (Result Reason AllocError) → Reason
reason_or d None = d
reason_or d (Some (Ok r)) = r
reason_or d (Some (Err e)) = d

one_reason : (o : Option (Result Reason AllocError)) (a b : Reason) → o ≡ Some (Ok a) → o ≡ Some (Ok b) → a ≡ b
unfolding reason_or
one_reason o a b p q = ap (reason_or a) (sym p ∙ q)

pub returns-in-Ok-None-clause-after : goal.returns-in-Ok-None-clause-after
returns-in-Ok-None-clause-after c = λ r over short.
    let e : ended_of c.deref_mut.result.now ≡ Some (Ok r) = search rules in
    let none : ended_of c.feed-fed.new.self ≡ None = search rules in
    absurd (goes_on (ended_of c.feed-fed.new.self) (Ok r) none (ap ended_of (c.feed-fed.ensures.again (Ok r) e short).1 ∙ e))

pub returns-in-Ok-None-clause-lacking : goal.returns-in-Ok-None-clause-lacking
returns-in-Ok-None-clause-lacking c = λ lacks short.
    let e : ended_of c.deref_mut.result.now ≡ Some (Err alloc_error) = search rules in
    absurd (rw c.in-Ok-None.is at (c.feed-fed.ensures.again (Err alloc_error) e short).0)

pub returns-in-Ok-Some-clause-after : goal.returns-in-Ok-Some-clause-after
returns-in-Ok-Some-clause-after c = λ r over short.
    let e : ended_of c.deref_mut.result.now ≡ Some (Ok r) = search rules in
    let now : ended_of c.feed-fed.new.self ≡ Some (Ok c.in-Ok-Some.reason) = search rules in
    let same = one_reason (ended_of c.feed-fed.new.self) c.in-Ok-Some.reason r now (ap ended_of (c.feed-fed.ensures.again (Ok r) e short).1 ∙ e) in
    let ended : ended_of c.put_in.new.handle.held.value ≡ Some (Ok c.in-Ok-Some.reason) = search rules in
    (refl, c.reason_fault.ensures ∙ ap told_reason same, (c.put_in.ensures.opened, ended ∙ ap (λ (x : Reason). Some (Ok x)) same))

pub returns-in-Ok-Some-clause-lacking : goal.returns-in-Ok-Some-clause-lacking
returns-in-Ok-Some-clause-lacking c = λ lacks short.
    let e : ended_of c.deref_mut.result.now ≡ Some (Err alloc_error) = search rules in
    absurd (rw c.in-Ok-Some.is at (c.feed-fed.ensures.again (Err alloc_error) e short).0)

pub returns-in-Err-NoMemory-clause-after : goal.returns-in-Err-NoMemory-clause-after
returns-in-Err-NoMemory-clause-after c = λ r over short.
    let e : ended_of c.deref_mut.result.now ≡ Some (Ok r) = search rules in
    absurd (rw c.in-Err-NoMemory.is at (c.feed-fed.ensures.again (Ok r) e short).0)
