-- What is so of a result, and so of what follows.
use Rattle.std.specs.Prelude.{Result, Ok, Err, IfOk, OnOk, IfSome, IsNone, None}
use Rattle.std.proofs.Common.{Option, Some, refl}

-- what is so of a result is so of what follows
pub if_ok : {A E : Type 0} (P Q : A → Type 0) (r : Result A E) → ((a : A) → P a → Q a) → IfOk r P → IfOk r Q
if_ok P Q (Ok a) f h = f a h
if_ok P Q (Err e) f h = h

-- and of a value in it
pub if_ok_some : {A E : Type 0} (P Q : A → Type 0) (r : Result (Option A) E) → ((a : A) → P a → Q a) → IfOk r (λ o. IfSome o P) → IfOk r (λ o. IfSome o Q)
if_ok_some P Q (Ok (Some a)) f h = f a h
if_ok_some P Q (Ok None) f h = tt
if_ok_some P Q (Err e) f h = tt

-- what holds where nothing is answered and where something is
pub either_way : {A E : Type 0} (P Q R : Type 0) (r : Result (Option A) E) → (P → R) → (Q → R) → IfOk r (λ o. IsNone o → P) → IfOk r (λ o. IfSome o (λ _. Q)) → OnOk r R
either_way P Q R (Err e) f g p q = tt
either_way P Q R (Ok None) f g p q = f (p refl)
either_way P Q R (Ok (Some a)) f g p q = g q
