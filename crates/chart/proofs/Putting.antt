-- Texts that are put one behind the other.
use Rattle.std.proofs.Common.{◌≡◌, ◌++◌, ◌∙◌, [], ℕ, List, true, is_ok, ap, sym, refl, append_assoc, append-nil}
use Rattle.std.specs.Prelude.{string_bytes}
use Rattle.chart.specs.Texts.{Puts}
use Rattle.chart.specs.declared.canvas.Canvas.{Canvas}

pub then_puts : (a b c : Canvas) (x y : List ℕ) → Puts a b x → Puts b c y → Puts a c (x ++ y)
then_puts a b c x y first second = record {
  had = λ ok. first.had (second.had ok);
  behind = λ ok.
      second.behind ok ∙ ap (λ (l : List ℕ). l ++ y) (first.behind (second.had ok)) ∙ append_assoc (string_bytes a.text) x y;
}

-- of a text that is put piece by piece, what is left to put
pub record Leaves (old new : Canvas) (text left : List ℕ) : Type 0 where
  pub had : is_ok new.outcome ≡ true → is_ok old.outcome ≡ true
  pub behind :
      is_ok new.outcome ≡ true → string_bytes new.text ++ left ≡ string_bytes old.text ++ text

pub leaves_all : (a : Canvas) (text : List ℕ) → Leaves a a text text
leaves_all a text = record { had = λ ok. ok; behind = λ _. refl }

pub leaves_less : (a b c : Canvas) (text piece left : List ℕ) → Leaves a b text (piece ++ left) → Puts b c piece → Leaves a c text left
leaves_less a b c text piece left before puts = record {
  had = λ ok. before.had (puts.had ok);
  behind = λ ok.
      ap (λ (l : List ℕ). l ++ left) (puts.behind ok) ∙ append_assoc (string_bytes b.text) piece left ∙ before.behind (puts.had ok);
}

pub leaves_none : (a b : Canvas) (text : List ℕ) → Leaves a b text [] → Puts a b text
leaves_none a b text leaves = record {
  had = leaves.had;
  behind = λ ok. sym (append-nil (string_bytes b.text)) ∙ leaves.behind ok;
}
