-- What a walk finds is the first that is wrong.
use Rattle.std.specs.Prelude.{◌≡◌, ℕ, List, [], ◌∷◌, ◌++◌, Option, Some, None, refl}
use Rattle.std.proofs.Common.{◌∙◌, sym, ap, subst}
use Rattle.std.proofs.lemmas.List.{append_assoc, append-nil}
use Rattle.reception.specs.declared.scope.Scope.{Scope}
use Rattle.reception.specs.Symbols.{Symbol}
use Rattle.std.specs.Option.{option_or}
use Rattle.reception.specs.Reception.{Judge, Wrong, Placed, counted, symbols, symbols_in, reading_wrong, wrong_after, reception_with}
use Rattle.reception.specs.Walks.{at_place, first_wrong, Found}
use Rattle.reception.specs.First.{IsFirstAt, TellsTheFirst}
use Rattle.reception.proofs.Walk.{symbols_more, wrong_more}
use Rattle.reception.proofs.Within.{neither, nowhere}

module _ {R : Type 0} (judge : Judge R) (f : Scope) where
  symbols_behind : (done : List Placed) (x : Placed) → symbols (done ++ x ∷ []) ≡ symbols done ++ symbols_in x.reading
  symbols_behind done x = symbols_more done (x ∷ []) ∙ ap (λ (ss : List Symbol). symbols done ++ ss) (append-nil (symbols_in x.reading))

  each_none : (xs b : List Placed) (y : Placed) (a : List Placed) → wrong_after judge f [] xs ≡ None → xs ≡ b ++ y ∷ a → reading_wrong judge f (symbols b) y.reading ≡ None
  each_none xs b y a h e =
      let k : wrong_after judge f [] (b ++ y ∷ a) ≡ None = subst (λ (ys : List Placed). wrong_after judge f [] ys ≡ None) e h in
      let w = neither (wrong_after judge f [] b) (wrong_after judge f ([] ++ symbols b) (y ∷ a)) (sym (wrong_more judge f [] b (y ∷ a)) ∙ k) in
      let n = neither (at_place y.place (reading_wrong judge f (symbols b) y.reading)) (wrong_after judge f (symbols b ++ symbols_in y.reading) a) w.1 in
      nowhere y.place (reading_wrong judge f (symbols b) y.reading) n.0

  found : (p q : ℕ × Wrong R) → Some p ≡ Some q → (p.0 ≡ q.0) × (p.1 ≡ q.1)
  found p q e = let s : p ≡ q = cc in (ap (λ (t : ℕ × Wrong R). t.0) s, ap (λ (t : ℕ × Wrong R). t.1) s)

  some_from : (done xs : List Placed) (i : ℕ) (r : Wrong R) → wrong_after judge f [] done ≡ None → wrong_after judge f (symbols done) xs ≡ Some (i, r) → IsFirstAt judge f (done ++ xs) i r
  some_from done [] i r n h = absurd (cc)
  some_from done (x ∷ xs) i r n h = by (reading_wrong judge f (symbols done) x.reading) refl h (λ k g. some_from (done ++ x ∷ []) xs i r k g)
    where
      by : (o : Option (Wrong R)) → reading_wrong judge f (symbols done) x.reading ≡ o
          → option_or (at_place x.place o) (wrong_after judge f (symbols done ++ symbols_in x.reading) xs) ≡ Some (i, r)
          → (wrong_after judge f [] (done ++ x ∷ []) ≡ None → wrong_after judge f (symbols (done ++ x ∷ [])) xs ≡ Some (i, r) → IsFirstAt judge f ((done ++ x ∷ []) ++ xs) i r)
          → IsFirstAt judge f (done ++ x ∷ xs) i r
      by (Some w) e g ih =
          let m = found (x.place, w) (i, r) g in
          record { before = done; here = x; after = xs; whole = refl; place = m.0; wrong = e ∙ ap Some m.1; least = λ b y a s. each_none done b y a n s }
      by None e g ih =
          let one : wrong_after judge f [] (done ++ x ∷ []) ≡ None =
          wrong_more judge f [] done (x ∷ []) ∙ ap (λ (o : Found R). option_or o (option_or (at_place x.place (reading_wrong judge f (symbols done) x.reading)) None)) n
          ∙ ap (λ (o : Option (Wrong R)). option_or (at_place x.place o) None) e in
          subst (λ (ys : List Placed). IsFirstAt judge f ys i r) (append_assoc done (x ∷ []) xs)
          (ih one (ap (λ (ss : List Symbol). wrong_after judge f ss xs) (symbols_behind done x) ∙ g))

  none_from : (done xs : List Placed) → ((b : List Placed) (y : Placed) (a : List Placed) → done ++ xs ≡ b ++ y ∷ a → reading_wrong judge f (symbols b) y.reading ≡ None)
      → wrong_after judge f (symbols done) xs ≡ None
  none_from done [] h = refl
  none_from done (x ∷ xs) h =
      let here = h done x xs refl in
      let later = none_from (done ++ x ∷ []) xs (λ b y a e. h b y a (sym (append_assoc done (x ∷ []) xs) ∙ e)) in
      let rest : wrong_after judge f (symbols done ++ symbols_in x.reading) xs ≡ None =
      ap (λ (ss : List Symbol). wrong_after judge f ss xs) (sym (symbols_behind done x)) ∙ later in
      rw (here, rest) refl

  told : (xs : List Placed) (i : ℕ) (r : Wrong R) → IsFirstAt judge f xs i r → first_wrong judge f xs ≡ Some (i, r)
  told xs i r h =
      ap (λ (ys : List Placed). wrong_after judge f [] ys) h.whole
      ∙ wrong_more judge f [] h.before (h.here ∷ h.after)
      ∙ ap (λ (o : Found R). option_or o (wrong_after judge f (symbols h.before) (h.here ∷ h.after))) (none_from [] h.before h.least)
      ∙ ap (λ (o : Option (Wrong R)). option_or (at_place h.here.place o) (wrong_after judge f (symbols h.before ++ symbols_in h.here.reading) h.after)) h.wrong
      ∙ ap (λ (n : ℕ). Some (n, r)) h.place

pub tells_the_first : {R : Type 0} (judge : Judge R) (known : Scope) → TellsTheFirst judge known
tells_the_first judge known rs i r = (
  λ h. some_from judge (reception_with judge known rs).scope [] (counted known.identity rs) i r refl h,
  λ h. told judge (reception_with judge known rs).scope (counted known.identity rs) i r h,
)
