-- What was written and kept.
use Rattle.std.proofs.Common.{◌≡◌, ◌∙◌, ℕ, List, Option, Some, None, Result, Ok, Err, refl, [], sym, subst, length}
use Rattle.std.specs.Prelude.{IfSome, IfOk, replicate}
use Rattle.std.proofs.lemmas.List.{length-replicate}
use Rattle.host.specs.World.{Files, Holds, LeavesBytes}
use Rattle.commands.specs.Inputs.{AnObject, Bytes, HasValue}
use Rattle.send_commands.specs.Sending.{where_empty}

-- the object that was read is the file's
pub gives_object : (files : Option Files) (name : List ℕ) (left : Option (List ℕ)) (object : List ℕ) → Holds files name (λ bytes. left ≡ Some bytes)
    → IfSome left (λ x. x ≡ object) → HasValue files (AnObject name) (Bytes object)
gives_object None name left object held all = tt
gives_object (Some files) name None object (bytes, there, left) all = absurd (cc)
gives_object (Some files) name (Some x) object (bytes, there, left) all = (bytes, there, sym (some_same left) ∙ all)
  where
    some_same : {A : Type 0} {a b : A} → Some a ≡ Some b → a ≡ b
    some_same e = cc

-- an object of the told length, which the file holds where it is told what it does
pub told_object : (files : Option Files) (name : List ℕ) (left : Option (List ℕ)) (n : ℕ) → Holds files name (λ bytes. left ≡ Some bytes) → LeavesBytes left n
    → (object : List ℕ) × HasValue files (AnObject name) (Bytes object) × (length object ≡ n)
told_object None name left n held many = (replicate n 0, tt, length-replicate {A = ℕ} n 0)
told_object (Some files) name left n (bytes, there, is) many =
    (bytes, (bytes, there, refl), subst (λ (o : Option (List ℕ)). IfSome o (λ (x : List ℕ). length x ≡ n)) is many)

-- what was written, where the file was empty before
pub blank_where_empty : (files : Option Files) (contents : Option (List ℕ)) → IfSome files (λ held. contents ≡ Some []) → IfSome files (λ held. where_empty contents ≡ Some [])
blank_where_empty None contents blank = tt
blank_where_empty (Some held) contents blank = rw blank refl

-- of a result
pub ok_more : {T E : Type 0} (r : Result T E) (P Q : T → Type 0) → ((x : T) → P x → Q x) → IfOk r P → IfOk r Q
ok_more (Ok x) P Q more h = more x h
ok_more (Err e) P Q more h = tt
