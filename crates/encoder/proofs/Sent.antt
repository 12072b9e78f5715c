-- Datagrams that are sent one after the other, and the lists of encoding symbols that grow by it.
use Rattle.std.proofs.Common.{◌≡◌, ℕ, zero, suc, ◌+◌, ◌-◌, ◌<◌, ◌≤◌, List, [], ◌∷◌, ◌++◌, Option, Some, None, length, map, arith, refl, ap, sym, subst, ◌∙◌, append_assoc, length-append, true, false, Result, Ok, Err}
use Rattle.std.specs.Prelude.{OnErr, flat_map, nat_lt}
use Rattle.std.proofs.lemmas.Bool.{lt-ltb, le-ltb}
use Rattle.std.proofs.lemmas.List.{append-nil, take_all, map-append, length-map}
use Rattle.std.proofs.lemmas.List.Sums.{sum_by-append}
use Rattle.std.proofs.lemmas.Grind.{flat_map-append}
use Rattle.std.specs.Io.KnownBytes.{Appends}
use Rattle.lists.specs.Below.{below}
use Rattle.lists.proofs.Below.{length_below}
use Rattle.partition.specs.Fti.{Fti, encoding_count}
use Rattle.session.specs.Frames.{frame, frames, AppendsSome}
use Rattle.session.proofs.Writes.{then_appends, then_some as then_some_bytes}
use Rattle.encoder.specs.Sending.{Item, IsSent, AreSent, Sends, SendsSome, items_from, frame_bytes, session_bytes, pair_with}

-- ---- numbers below a bound

below_next : (n : ℕ) → below (n + 1) ≡ below n ++ n ∷ []
unfolding below
below_next n = let e : n + 1 ≡ suc n = omega arith in ap below e

pub below_behind : (m d : ℕ) → (later : List ℕ) × (below (m + d) ≡ below m ++ later)
unfolding below
below_behind m zero = let e : m + 0 ≡ m = omega arith in ([], ap below e ∙ sym (append-nil (below m)))
below_behind m (suc d) =
    let r = below_behind m d in
    let e : m + suc d ≡ suc (m + d) = omega arith in
    (r.0 ++ (m + d) ∷ [], ap below e ∙ ap (λ (l : List ℕ). l ++ (m + d) ∷ []) r.1 ∙ append_assoc (below m) r.0 ((m + d) ∷ []))

below_later : (m n : ℕ) → m ≤ n → (later : List ℕ) × (below n ≡ below m ++ later)
below_later m n le =
    let e : m + (n - m) ≡ n = omega arith in
    let r = below_behind m (n - m) in
    (r.0, ap below (sym e) ∙ r.1)

module _ {A : Type 0} (g : ℕ → A) where
  pub map_next : (n : ℕ) → map g (below (n + 1)) ≡ map g (below n) ++ g n ∷ []
  map_next n = ap (map g) (below_next n) ∙ map-append g (below n) (n ∷ [])

  pub map_later : (m n : ℕ) → m ≤ n → (later : List A) × (map g (below n) ≡ map g (below m) ++ later)
  map_later m n le =
      let r = below_later m n le in
      (map g r.0, ap (map g) r.1 ∙ map-append g (below m) r.0)

module _ {A : Type 0} (g : ℕ → List A) where
  pub flat_next : (n : ℕ) → flat_map g (below (n + 1)) ≡ flat_map g (below n) ++ g n
  flat_next n = ap (flat_map g) (below_next n) ∙ flat_map-append g (below n) (n ∷ []) ∙ ap (λ (l : List A). flat_map g (below n) ++ l) (append-nil (g n))

  pub flat_later : (m n : ℕ) → m ≤ n → (later : List A) × (flat_map g (below n) ≡ flat_map g (below m) ++ later)
  flat_later m n le =
      let r = below_later m n le in
      (flat_map g r.0, ap (flat_map g) r.1 ∙ flat_map-append g (below m) r.0)

-- ---- the places of encoding symbols that follow one another

items_append : (i : ℕ) (ps qs : List (ℕ × ℕ)) → items_from i (ps ++ qs) ≡ items_from i ps ++ items_from (i + length ps) qs
items_append i [] qs = let e : i ≡ i + 0 = omega arith in ap (λ (n : ℕ). items_from n qs) e
items_append i (p ∷ ps) qs =
    let e : i + 1 + length ps ≡ i + suc (length ps) = omega arith in
    ap (λ (xs : List Item). record { place = i; block = p.0; esi = p.1 } ∷ xs) (items_append (i + 1) ps qs ∙ ap (λ (n : ℕ). items_from (i + 1) ps ++ items_from n qs) e)

-- ---- what was sent

module _ (object : List ℕ) (f : Fti) (t u every : ℕ) where
  sent_append : (xs ys : List Item) (ds es : List (List ℕ)) → AreSent object f t u every xs ds → AreSent object f t u every ys es → AreSent object f t u every (xs ++ ys) (ds ++ es)
  sent_append [] ys [] es h g = g
  sent_append [] ys (d ∷ ds) es h g = absurd h
  sent_append (x ∷ xs) ys [] es h g = absurd h
  sent_append (x ∷ xs) ys (d ∷ ds) es h g = (h.0, sent_append xs ys ds es h.1 g)

nothing_appended : (a : Option (List ℕ)) → Appends a a []
nothing_appended None = tt
nothing_appended (Some x) = sym (append-nil x)

module _ (object : List ℕ) (f : Fti) (t u every : ℕ) where
  pub nothing_sent : (a : Option (List ℕ)) → Sends (AreSent object f t u every) [] a a
  nothing_sent a = record { datagrams = []; sent = tt; gained = nothing_appended a }

  pub one_sent : (x : Item) (d : List ℕ) (a b : Option (List ℕ)) → IsSent object f t u every x d → Appends a b (frame d) → Sends (AreSent object f t u every) (x ∷ []) a b
  one_sent x d a b is gained = record {
    datagrams = d ∷ [];
    sent = (is, tt);
    gained = subst (λ (y : List ℕ). Appends a b y) (sym (append-nil (frame d))) gained;
  }

  pub one_some : (x : Item) (d : List ℕ) (a b : Option (List ℕ)) → IsSent object f t u every x d → AppendsSome a b (frame d) → SendsSome (AreSent object f t u every) (x ∷ []) a b
  one_some x d a b is gained = record {
    front = x ∷ [];
    later = [];
    whole = refl;
    datagrams = d ∷ [];
    sent = (is, tt);
    gained = subst (λ (y : List ℕ). AppendsSome a b y) (sym (append-nil (frame d))) gained;
  }

  then_sends : (xs ys : List Item) (a b c : Option (List ℕ)) → Sends (AreSent object f t u every) xs a b → Sends (AreSent object f t u every) ys b c → Sends (AreSent object f t u every) (xs ++ ys) a c
  then_sends xs ys a b c h g = record {
    datagrams = h.datagrams ++ g.datagrams;
    sent = sent_append object f t u every xs ys h.datagrams g.datagrams h.sent g.sent;
    gained = subst (λ (x : List ℕ). Appends a c x) (sym (flat_map-append frame h.datagrams g.datagrams))
        (then_appends a b c (frames h.datagrams) (frames g.datagrams) h.gained g.gained);
  }

  then_some : (xs ys : List Item) (a b c : Option (List ℕ)) → Sends (AreSent object f t u every) xs a b → SendsSome (AreSent object f t u every) ys b c → SendsSome (AreSent object f t u every) (xs ++ ys) a c
  then_some xs ys a b c h g = record {
    front = xs ++ g.front;
    later = g.later;
    whole = ap (λ (l : List Item). xs ++ l) g.whole ∙ sym (append_assoc xs g.front g.later);
    datagrams = h.datagrams ++ g.datagrams;
    sent = sent_append object f t u every xs g.front h.datagrams g.datagrams h.sent g.sent;
    gained = subst (λ (x : List ℕ). AppendsSome a c x) (sym (flat_map-append frame h.datagrams g.datagrams))
        (then_some_bytes a b c (frames h.datagrams) (frames g.datagrams) h.gained g.gained);
  }

  some_of : (xs ys later : List Item) (a b : Option (List ℕ)) → ys ≡ xs ++ later → SendsSome (AreSent object f t u every) xs a b → SendsSome (AreSent object f t u every) ys a b
  some_of xs ys later a b is h = record {
    front = h.front;
    later = h.later ++ later;
    whole = is ∙ ap (λ (l : List Item). l ++ later) h.whole ∙ append_assoc h.front h.later later;
    datagrams = h.datagrams;
    sent = h.sent;
    gained = h.gained;
  }

-- a beginning that is whole by itself
pub sent_some : (object : List ℕ) (f : Fti) (t u every i : ℕ) (ps later whole : List (ℕ × ℕ)) (a b : Option (List ℕ)) → whole ≡ ps ++ later
    → Sends (AreSent object f t u every) (items_from i ps) a b → SendsSome (AreSent object f t u every) (items_from i whole) a b
sent_some object f t u every i ps later whole a b is h = record {
  front = items_from i ps;
  later = items_from (i + length ps) later;
  whole = ap (items_from i) is ∙ items_append i ps later;
  datagrams = h.datagrams;
  sent = h.sent;
  gained = (length (frames h.datagrams), rw (take_all (length (frames h.datagrams)) (frames h.datagrams) (omega arith)) h.gained);
}

pub if_err : {T E : Type 0} (r : Result T E) (X : Type 0) → X → OnErr r X
if_err (Ok x) X h = tt
if_err (Err e) X h = h

-- ---- the lists of encoding symbols, number by number

pub with_pair : (f : Fti) (j b : ℕ) → j < encoding_count f b → pair_with f j b ≡ (b, j) ∷ []
with_pair f j b lt = let t : nat_lt j (encoding_count f b) ≡ true = lt-ltb _ _ lt in rw t refl

pub without_pair : (f : Fti) (j b : ℕ) → encoding_count f b ≤ j → pair_with f j b ≡ []
without_pair f j b le = let t : nat_lt j (encoding_count f b) ≡ false = le-ltb _ _ le in rw t refl

pub length_of_map : {A : Type 0} (g : ℕ → A) (n : ℕ) → length (map g (below n)) ≡ n
length_of_map g n = length-map (below n) g ∙ length_below n

pub length_next : {A : Type 0} (g : ℕ → List A) (n : ℕ) → length (flat_map g (below (n + 1))) ≡ length (flat_map g (below n)) + length (g n)
length_next g n = ap length (flat_next g n) ∙ length-append (flat_map g (below n)) (g n)

-- ---- what was sent, and the writer's room, list behind list

module _ (object : List ℕ) (f : Fti) (t u every i next : ℕ) (ps qs : List (ℕ × ℕ)) (at : next ≡ i + length ps) (a b c : Option (List ℕ)) where
  pub behind_sends : (whole : List (ℕ × ℕ)) → whole ≡ ps ++ qs → Sends (AreSent object f t u every) (items_from i ps) a b → Sends (AreSent object f t u every) (items_from next qs) b c
      → Sends (AreSent object f t u every) (items_from i whole) a c
  behind_sends whole is h g =
      subst (λ (xs : List Item). Sends (AreSent object f t u every) xs a c) (sym (ap (items_from i) is ∙ items_append i ps qs))
      (then_sends object f t u every (items_from i ps) (items_from (i + length ps) qs) a b c h (subst (λ (n : ℕ). Sends (AreSent object f t u every) (items_from n qs) b c) at g))

  pub behind_some : (whole later : List (ℕ × ℕ)) → whole ≡ (ps ++ qs) ++ later → Sends (AreSent object f t u every) (items_from i ps) a b → SendsSome (AreSent object f t u every) (items_from next qs) b c
      → SendsSome (AreSent object f t u every) (items_from i whole) a c
  behind_some whole later is h g =
      some_of object f t u every (items_from i ps ++ items_from (i + length ps) qs) (items_from i whole) (items_from (i + length (ps ++ qs)) later) a c
      (ap (items_from i) is ∙ items_append i (ps ++ qs) later ∙ ap (λ (xs : List Item). xs ++ items_from (i + length (ps ++ qs)) later) (items_append i ps qs))
      (then_some object f t u every (items_from i ps) (items_from (i + length ps) qs) a b c h (subst (λ (n : ℕ). SendsSome (AreSent object f t u every) (items_from n qs) b c) at g))

module _ (f : Fti) (every : ℕ) where
  bytes_append : (i : ℕ) (ps qs : List (ℕ × ℕ)) → session_bytes f every (items_from i (ps ++ qs)) ≡ session_bytes f every (items_from i ps) + session_bytes f every (items_from (i + length ps) qs)
  bytes_append i ps qs =
      ap (session_bytes f every) (items_append i ps qs)
      ∙ sum_by-append (λ (x : Item). frame_bytes f every x.place) (items_from i ps) (items_from (i + length ps) qs)

  pub one_frame : (i : ℕ) (p : ℕ × ℕ) → session_bytes f every (items_from i (p ∷ [])) ≡ frame_bytes f every i
  one_frame i p = omega arith

  module _ (i next : ℕ) (ps qs : List (ℕ × ℕ)) (at : next ≡ i + length ps) (a b : ℕ) where
    pub behind_room : (c : ℕ) (whole : List (ℕ × ℕ)) → whole ≡ ps ++ qs → a ≤ b + session_bytes f every (items_from i ps) → b ≤ c + session_bytes f every (items_from next qs)
        → a ≤ c + session_bytes f every (items_from i whole)
    behind_room c whole is h g =
        let all = ap (λ (l : List (ℕ × ℕ)). session_bytes f every (items_from i l)) is ∙ bytes_append i ps qs in
        let same = ap (λ (n : ℕ). session_bytes f every (items_from n qs)) at in
        omega (arith, h, g, all, same)

    pub behind_short : (whole later : List (ℕ × ℕ)) → whole ≡ (ps ++ qs) ++ later → a ≤ b + session_bytes f every (items_from i ps) → b < session_bytes f every (items_from next qs)
        → a < session_bytes f every (items_from i whole)
    behind_short whole later is h g =
        let one = bytes_append i ps qs in
        let all = ap (λ (l : List (ℕ × ℕ)). session_bytes f every (items_from i l)) is ∙ bytes_append i (ps ++ qs) later in
        let same = ap (λ (n : ℕ). session_bytes f every (items_from n qs)) at in
        omega (arith, h, g, one, all, same)

-- a list up to a number, that number's part, and the rest
pub map_parts : {A : Type 0} (g : ℕ → A) (m n : ℕ) → m < n → (later : List A) × (map g (below n) ≡ (map g (below m) ++ g m ∷ []) ++ later)
map_parts {A} g m n lt =
    let r = map_later g (m + 1) n (omega arith) in
    (r.0, r.1 ∙ ap (λ (l : List A). l ++ r.0) (map_next g m))

pub flat_parts : {A : Type 0} (g : ℕ → List A) (m n : ℕ) → m < n → (later : List A) × (flat_map g (below n) ≡ (flat_map g (below m) ++ g m) ++ later)
flat_parts {A} g m n lt =
    let r = flat_later g (m + 1) n (omega arith) in
    (r.0, r.1 ∙ ap (λ (l : List A). l ++ r.0) (flat_next g m))
