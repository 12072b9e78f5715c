use Rattle.std.proofs.Common.{◌≡◌, ℕ, ◌≤◌, ◌∙◌, List, ◌++◌, Option, length, take, length-take, sym, ap, subst, arith}
use Rattle.std.proofs.Math.Seq.{take-append_seam}
use Rattle.std.proofs.lemmas.List.{take_all}
use Rattle.std.specs.Io.KnownBytes.{Consumes}
use Rattle.byteorder.specs.Endian.{big_bytes}
use Rattle.streams.proofs.Fills.{then_consumes}
use Rattle.session.specs.Frames.{frame}
use Rattle.session.proofs.frame.read_next_into.Goals as goal

-- a length and then a buffer that was filled are a frame
filled : (a b c : Option (List ℕ)) (n m got : ℕ) (buf rest : List ℕ) → length buf ≡ n → m ≡ n → n ≤ got
    → Consumes a b (big_bytes 2 n) → Consumes b c (take got buf) → Consumes a c (frame (take m (buf ++ rest)))
filled a b c n m got buf rest size same all head body =
    let whole = ap (λ (k : ℕ). take k (buf ++ rest)) (same ∙ sym size) ∙ take-append_seam buf rest in
    rw whole (then_consumes a b c (big_bytes 2 (length buf)) buf
    (subst (λ (k : ℕ). Consumes a b (big_bytes 2 k)) (sym size) head)
    (subst (λ (l : List ℕ). Consumes b c l) (take_all got buf (omega (arith, size, all))) body))

pub returns-clause-some : goal.returns-clause-some
returns-clause-some g c =
    let len = c.in-Ok.ensures.len in
    let size = c.fill.auto.buf ∙ c.as_mut_slice.ensures.len ∙ len in
    filled _ _ _ c.in-Some.length _ c.in-Ok-fill.got c.fill.new.buf _ size len c.if-got-length.false
    (rw c.in-Some.is at c.in_ok-length.ensures.some) c.in-Ok-fill.ensures.bytes

pub returns-clause-short : goal.returns-clause-short
returns-clause-short g c =
    let short = rw c.in-Some.is at c.in_ok-length.ensures.short in
    let len = c.in-Ok.ensures.len in
    omega (arith, short, len, length-take {A = ℕ})
