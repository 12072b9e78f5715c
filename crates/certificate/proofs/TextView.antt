-- A text with a name, whose coefficients stand behind its head as a certificate holds them.
use Rattle.std.proofs.Common.{◌≡◌, ◌≢◌, ℕ, ◌-◌, ◌≤◌, List, ◌++◌, Option, Some, None, drop, take, length, length-append, sym, ap, ◌∙◌, arith}
use Rattle.std.proofs.lemmas.List.{take_all, length-drop}
use Rattle.std.proofs.Math.Seq.{drop-append_seam}
use Rattle.partition.specs.Fti.{Fti, IsValidFti}
use Rattle.partition.specs.FtiFault.{fti_fault}
use Rattle.reception.specs.declared.scope.Identity.{Identity}
use Rattle.certificate.specs.declared.certificate.CertFault.TheVariants.{Size}
use Rattle.certificate.specs.Certificate.{coefficient_count, head_text, text_fault}
use Rattle.certificate.proofs.Consuming.{size_behind}

head_of_named : (who : Identity) (f : Fti) → length (head_text (Some who) f) ≡ 34
unfolding head_text
head_of_named who f = omega arith

-- all behind a place
all_behind : (n : ℕ) (xs : List ℕ) → take (length xs - n) (drop n xs) ≡ drop n xs
all_behind n xs = ap (λ (m : ℕ). take m (drop n xs)) (sym (length-drop n xs)) ∙ take_all (length (drop n xs)) (drop n xs) (omega arith)

module _ (bytes rest : List ℕ) (name : Option Identity) (who : Identity) (f : Fti) (named : name ≡ Some who) (read : bytes ≡ head_text name f ++ rest) where
  split : bytes ≡ head_text (Some who) f ++ rest
  split = read ∙ ap (λ (n : Option Identity). head_text n f ++ rest) named

  rest_is : take (length bytes - 34) (drop 34 bytes) ≡ rest
  rest_is =
      let h = head_text (Some who) f in
      all_behind 34 bytes ∙ ap (drop 34) split ∙ ap (λ (n : ℕ). drop n (h ++ rest)) (sym (head_of_named who f)) ∙ drop-append_seam h rest

  -- the bytes are the head and what stands behind it
  pub behind_head : bytes ≡ head_text (Some who) f ++ take (length bytes - 34) (drop 34 bytes)
  behind_head = split ∙ ap (λ (r : List ℕ). head_text (Some who) f ++ r) (sym rest_is)

  pub head_fits : 34 ≤ length bytes
  head_fits =
      let all = ap length split ∙ length-append (head_text (Some who) f) rest in
      omega (arith, all, head_of_named who f)

  -- other than the right number of bytes behind it
  pub wrong_behind : fti_fault f ≡ None → IsValidFti f → length (take (length bytes - 34) (drop 34 bytes)) ≢ coefficient_count f → text_fault bytes ≡ Some Size
  wrong_behind good valid wrong = ap text_fault behind_head ∙ size_behind (Some who) f (take (length bytes - 34) (drop 34 bytes)) good valid wrong
