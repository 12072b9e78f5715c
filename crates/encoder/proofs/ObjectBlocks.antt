-- An object that is read block by block.
use Rattle.std.specs.Prelude.{IfSome}
use Rattle.std.proofs.Common.{Bool, ◌≡◌, ◌≢◌, ℕ, ◌+◌, ◌-◌, ◌*◌, ◌<◌, List, [], ◌++◌, Option, Some, None, length, get_or, refl, sym, ap, subst, ◌∙◌, inl, inr, arith, append_assoc, length-append}
use Rattle.std.proofs.lemmas.Bool.{cases_lt}
use Rattle.std.proofs.lemmas.List.{append-nil, get_or_append_left, get_or-append_right, get_or_past}
use Rattle.std.specs.Io.KnownBytes.{Consumes, IsAtEnd}
use Rattle.lists.specs.Bytes.{AreBytes}
use Rattle.gf256.proofs.RowPlaces.{rows_apart, row_ends}
use Rattle.partition.specs.Fti.{Fti, IsValidFti, block_bytes, block_count, symbol_count, source_count, start_of, source_place}
use Rattle.partition.proofs.Laws.{begins_within, start_end, symbols_bounds}
use Rattle.alc.proofs.Bytes.{AreBytes-append}
use Rattle.streams.proofs.Fills.{then_consumes}
use Rattle.reception.specs.Symbols.{IsObject}
use Rattle.certificate.proofs.BlockByBlock.{next_start, nothing_read}
use Rattle.encoder.specs.declared.object.ObjectFault.{ObjectFault}
use Rattle.encoder.specs.declared.object.ObjectFault.TheVariants.{Length, Io}
use Rattle.encoder.specs.Rows.{AreSourcesOf}
use Rattle.encoder.specs.ObjectRead.{Begins, ReadsObject, ReadsSome, IsObjectFault}
use Rattle.encoder.specs.BlocksRead.{bytes_before, HasRead, IsReadFault}

-- what a reader had left begins with what it gave
begun : (a b : Option (List ℕ)) (x : List ℕ) → Consumes a b x → IfSome a (Begins x)
begun None b x read = tt
begun (Some y) None x read = absurd read
begun (Some y) (Some rest) x read = (rest, read)

whole_read : (a b : Option (List ℕ)) (x : List ℕ) → Consumes a b x → IsAtEnd b → IfSome a (λ y. y ≡ x)
whole_read None b x read end = tt
whole_read (Some y) None x read end = absurd read
whole_read (Some y) (Some rest) x read end = read ∙ ap (λ (l : List ℕ). x ++ l) end ∙ append-nil x

wrong_length : (a b : Option (List ℕ)) (x : List ℕ) (n : ℕ) (P : List ℕ → Type 0) → Consumes a b x → IfSome b P → ((y : List ℕ) → P y → length x + length y ≢ n)
    → IfSome a (λ y. length y ≢ n)
wrong_length None b x n P read is other = tt
wrong_length (Some y) None x n P read is other = absurd read
wrong_length (Some y) (Some rest) x n P read is other = λ e. other rest is (sym (length-append x rest) ∙ sym (ap length read) ∙ e)

module _ (f : Fti) (valid : IsValidFti f) where
  next_before : (n : ℕ) → n < block_count f → bytes_before f (n + 1) ≡ bytes_before f n + block_bytes f n
  next_before n inside = omega (arith, next_start f valid n, begins_within f valid n inside)

  all_before : bytes_before f (block_count f) ≡ f.transfer_length
  all_before =
      let whole : start_of f (block_count f) * f.symbol_length ≡ symbol_count f * f.symbol_length = ap (λ (m : ℕ). m * f.symbol_length) (start_end f valid) in
      omega (arith, whole, symbols_bounds f valid)

  -- the bytes of a block, with zeros behind them, are its source symbols
  block_sources : (n : ℕ) (front block later object : List ℕ) → n < block_count f → length front ≡ bytes_before f n → length block ≡ block_bytes f n
      → length object ≡ f.transfer_length → object ≡ front ++ (block ++ later) → AreSourcesOf f object n block
  block_sources n front block later object inside before long whole is i c li lc =
      let within = begins_within f valid n inside in
      let at : ℕ = start_of f n * f.symbol_length in
      let front_long : length front ≡ start_of f n * f.symbol_length = omega (arith, before, within) in
      let apart = rows_apart (start_of f n) i f.symbol_length in
      let place : source_place f n i c ≡ start_of f n * f.symbol_length + (i * f.symbol_length + c) = omega (arith, apart) in
      elim (cases_lt (i * f.symbol_length + c) (length block)) [
        | inl here ↦
            (let back : source_place f n i c - start_of f n * f.symbol_length ≡ i * f.symbol_length + c = omega (arith, place) in
            sym (ap (λ (l : List ℕ). get_or l (source_place f n i c) 0) is
            ∙ get_or-append_right front (block ++ later) at (source_place f n i c) 0 front_long (omega (arith, place))
            ∙ ap (λ (p : ℕ). get_or (block ++ later) p 0) back
            ∙ get_or_append_left block later 0 (i * f.symbol_length + c) here))
        | inr past ↦
            (let ends = row_ends i (source_count f n) f.symbol_length li in
            get_or_past block (i * f.symbol_length + c) 0 past
            ∙ sym (get_or_past object (source_place f n i c) 0 (omega (arith, place, past, long, whole, ends, lc, within))))
      ]

  module _ (n : ℕ) (left here : Option (List ℕ)) (P : List ℕ → Type 0) (done : HasRead f n left here P) where
    -- no more comes
    pub so_far : (Q : List ℕ → Type 0) → ((object : List ℕ) → P object → Q object) → ReadsSome f left Q
    so_far Q more = record {
      front = done.front;
      few = omega (arith, done.count);
      bytes = done.bytes;
      first = begun left here done.front done.consumed;
      holds = λ object form begins. more object (done.holds object form begins);
    }

    -- the next block
    module _ (inside : n < block_count f) (there : Option (List ℕ)) (block : List ℕ) (long : length block ≡ block_bytes f n) (bytes : AreBytes block) (read : Consumes here there block)
        (Q : List ℕ → Type 0) (more : (object : List ℕ) → AreBytes object → AreSourcesOf f object n block → P object → Q object) where
      longer : length (done.front ++ block) ≡ bytes_before f (n + 1)
      longer = length-append done.front block ∙ omega (arith, done.count, long, next_before n inside)

      then_holds : (object : List ℕ) → IsObject f object → Begins (done.front ++ block) object → Q object
      then_holds object form begins =
          let is : object ≡ done.front ++ (block ++ begins.0) = begins.1 ∙ append_assoc done.front block begins.0 in
          more object form.bytes (block_sources n done.front block begins.0 object inside done.count long form.count is)
          (done.holds object form (block ++ begins.0, is))

      pub next_read : HasRead f (n + 1) left there Q
      next_read = record {
        front = done.front ++ block;
        count = longer;
        bytes = AreBytes-append done.front block done.bytes bytes;
        consumed = then_consumes left here there done.front block done.consumed read;
        holds = then_holds;
      }

      pub some_read : ReadsSome f left Q
      some_read = record {
        front = done.front ++ block;
        few = omega (arith, longer);
        bytes = AreBytes-append done.front block done.bytes bytes;
        first = begun left there (done.front ++ block) (then_consumes left here there done.front block done.consumed read);
        holds = then_holds;
      }

    cut_short : n < block_count f → IfSome here (λ x. length x < block_bytes f n) → IfSome left (λ x. length x ≢ f.transfer_length)
    cut_short inside short =
        wrong_length left here done.front f.transfer_length (λ x. length x < block_bytes f n) done.consumed short
        (λ y few e. absurd (omega (arith, few, e, done.count, begins_within f valid n inside)))

    -- or none
    pub block_fault : (e : ObjectFault) (most : ℕ) (sound now failed : Bool) → n < block_count f → most ≡ block_bytes f n
        → (e ≡ Length → IfSome here (λ x. length x < most)) → IsReadFault e now failed → now ≡ sound → IsObjectFault e f left sound failed
    block_fault Length most sound now failed inside long short fault stays = cut_short inside (subst (λ (m : ℕ). IfSome here (λ x. length x < m)) long (short refl))
    block_fault Io most sound now failed inside long short fault stays = (sym stays ∙ fault.0, fault.1)

  module _ (left here : Option (List ℕ)) (P : List ℕ → Type 0) (done : HasRead f (block_count f) left here P) where
    pub object_read : IsAtEnd here → ReadsObject f left P
    object_read end =
        let form : IsObject f done.front = record { count = done.count ∙ all_before; bytes = done.bytes } in
        record {
          object = done.front;
          form = form;
          all = whole_read left here done.front done.consumed end;
          holds = done.holds done.front form ([], sym (append-nil done.front));
        }

    too_long : IfSome here (λ x. 0 < length x) → IfSome left (λ x. length x ≢ f.transfer_length)
    too_long more =
        wrong_length left here done.front f.transfer_length (λ x. 0 < length x) done.consumed more
        (λ y some e. absurd (omega (arith, some, e, done.count, all_before)))

    pub end_fault : (e : ObjectFault) (sound now failed : Bool) → (e ≡ Length → IfSome here (λ x. 0 < length x)) → IsReadFault e now failed → now ≡ sound
        → IsObjectFault e f left sound failed
    end_fault Length sound now failed more fault stays = too_long (more refl)
    end_fault Io sound now failed more fault stays = (sym stays ∙ fault.0, fault.1)

-- what holds of it, put in other words
pub then_object : (f : Fti) (left : Option (List ℕ)) (P Q : List ℕ → Type 0) → ((object : List ℕ) → IsObject f object → P object → Q object) → ReadsObject f left P → ReadsObject f left Q
then_object f left P Q more h = record { object = h.object; form = h.form; all = h.all; holds = more h.object h.form h.holds }

pub then_some : (f : Fti) (left : Option (List ℕ)) (P Q : List ℕ → Type 0) → ((object : List ℕ) → P object → Q object) → ReadsSome f left P → ReadsSome f left Q
then_some f left P Q more h = record {
  front = h.front;
  few = h.few;
  bytes = h.bytes;
  first = h.first;
  holds = λ object form begins. more object (h.holds object form begins);
}

pub none_read : (f : Fti) (left : Option (List ℕ)) (P : List ℕ → Type 0) → ((object : List ℕ) → P object) → HasRead f 0 left left P
unfolding start_of
none_read f left P all = record {
  front = [];
  count = (let e : 0 ≡ bytes_before f 0 = omega arith in e);
  bytes = λ i. omega arith;
  consumed = nothing_read left;
  holds = λ object form begins. all object;
}

-- before the first byte
pub nothing_yet : (f : Fti) (left : Option (List ℕ)) (Q : List ℕ → Type 0) → ((object : List ℕ) → Q object) → ReadsSome f left Q
nothing_yet f left Q all = record {
  front = [];
  few = omega arith;
  bytes = λ i. omega arith;
  first = begun left left [] (nothing_read left);
  holds = λ object form begins. all object;
}
