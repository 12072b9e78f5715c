-- What is known of a result that is no error.
use Rattle.std.proofs.Common.{Ok, Err}
use Rattle.std.specs.Prelude.{Result, IsOk, OnOk, OnErr}

pub no_error : {T E : Type 0} (r : Result T E) (P : Type 0) → IsOk r → OnErr r P
no_error (Ok x) P h = tt
no_error (Err e) P h = absurd (cc)

pub at_ok : {T E : Type 0} (r : Result T E) (P : Type 0) → P → OnOk r P
at_ok (Ok x) P p = p
at_ok (Err e) P p = tt

pub at_err : {T E : Type 0} (r : Result T E) (P : Type 0) → P → OnErr r P
at_err (Ok x) P p = tt
at_err (Err e) P p = p
