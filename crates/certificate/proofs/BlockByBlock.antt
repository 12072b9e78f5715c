-- Coefficients that are read and written block by block.
use Rattle.std.specs.Prelude.{IfSome, slice_index}
use Rattle.std.proofs.Common.{◌≡◌, ◌≢◌, ℕ, suc, ◌+◌, ◌-◌, ◌*◌, ◌<◌, ◌≤◌, List, [], ◌++◌, Option, Some, None, length, refl, sym, ap, subst, ◌∙◌, inl, inr, arith, length-append}
use Rattle.std.proofs.Math.Nat.{mul-le-mul_right, mul_comm}
use Rattle.std.proofs.lemmas.Bool.{cases_eq}
use Rattle.std.proofs.lemmas.List.{append-nil, take_all, get_or_append_left, get_or-append_right}
use Rattle.std.specs.Io.KnownBytes.{Consumes, IsAtEnd, Appends}
use Rattle.lists.specs.Bytes.{AreBytes}
use Rattle.gf256.proofs.RowPlaces.{rows_apart, row_ends}
use Rattle.partition.specs.Fti.{Fti, IsValidFti, block_count, source_count, start_of, source_place}
use Rattle.partition.proofs.Laws.{start_step, rising_to, block_end}
use Rattle.alc.proofs.Bytes.{AreBytes-append}
use Rattle.streams.proofs.Fills.{then_consumes}
use Rattle.session.specs.Pieces.{AppendsSome}
use Rattle.session.proofs.Writes.{then_appends, then_some}
use Rattle.reception.specs.declared.scope.Identity.{Identity}
use Rattle.certificate.specs.Certificate.{coefficient_count}
use Rattle.certificate.specs.CoefficientRows.{text_place}
use Rattle.certificate.specs.ConvertingBlocks.{AreBlockRows, AreSame, Converts, ConvertsSome}
use Rattle.certificate.proofs.Flat.{appends_none}
use Rattle.certificate.proofs.TextPlaces.{place_before}

-- ---- what a reader had left

pub to_some : {P Q : List ℕ → Type 0} (a : Option (List ℕ)) → ((x : List ℕ) → P x → Q x) → IfSome a P → IfSome a Q
to_some None f p = tt
to_some (Some x) f p = f x p

pub nothing_read : (a : Option (List ℕ)) → Consumes a a []
nothing_read None = tt
nothing_read (Some x) = refl

-- all of it was read
pub all_read : (a b : Option (List ℕ)) (x : List ℕ) → Consumes a b x → IsAtEnd b → IfSome a (λ y. y ≡ x)
all_read None b x read end = tt
all_read (Some y) None x read end = absurd read
all_read (Some y) (Some rest) x read end = read ∙ ap (λ (l : List ℕ). x ++ l) end ∙ append-nil x

-- this much of it, at least
pub much_read : (a b : Option (List ℕ)) (x : List ℕ) → Consumes a b x → IfSome a (λ y. length x ≤ length y)
much_read None b x read = tt
much_read (Some y) None x read = absurd read
much_read (Some y) (Some rest) x read = omega (arith, ap length read, length-append x rest)

-- ---- bytes that are passed over

pub record Passes (count left : ℕ) (a b : Option (List ℕ)) : Type 0 where
  pub passed : List ℕ
  pub bytes : AreBytes passed
  pub counted : length passed + left ≡ count
  pub consumed : Consumes a b passed

module _ (count left : ℕ) (a b c : Option (List ℕ)) (piece : List ℕ) (done : Passes count left a b) (bytes : AreBytes piece) (more : Consumes b c piece) where
  pub piece_passed : length piece ≤ left → Passes count (left - length piece) a c
  piece_passed few = record {
    passed = done.passed ++ piece;
    bytes = AreBytes-append done.passed piece done.bytes bytes;
    counted = omega (arith, done.counted, few, length-append done.passed piece);
    consumed = then_consumes a b c done.passed piece done.consumed more;
  }

-- ---- blocks that are converted

module _ (f : Fti) (valid : IsValidFti f) where
  -- how many bytes the coefficients of one block more have
  pub next_start : (n : ℕ) → start_of f (n + 1) * f.symbol_length ≡ start_of f n * f.symbol_length + source_count f n * f.symbol_length
  next_start n =
      let more : n + 1 ≡ suc n = omega arith in
      ap (λ (m : ℕ). start_of f m * f.symbol_length) more ∙ ap (λ (m : ℕ). m * f.symbol_length) (start_step f valid n)
      ∙ rows_apart (start_of f n) (source_count f n) f.symbol_length

  -- a block ends within all
  pub within_all : (n : ℕ) → n < block_count f → start_of f n * f.symbol_length + source_count f n * f.symbol_length ≤ coefficient_count f
  within_all n inside =
      let most = mul-le-mul_right f.symbol_length (block_end f valid n inside) in
      omega (arith, most, rows_apart (start_of f n) (source_count f n) f.symbol_length)

  -- the room for them
  pub less_room : (n before here : ℕ) → n < block_count f → before ≤ here + start_of f n * f.symbol_length → here < source_count f n * f.symbol_length
      → before < coefficient_count f
  less_room n before here inside room short = omega (arith, room, short, within_all n inside)

  pub room_left : (n before here after : ℕ) → before ≤ here + start_of f n * f.symbol_length → here ≤ after + source_count f n * f.symbol_length
      → before ≤ after + start_of f (n + 1) * f.symbol_length
  room_left n before here after room more = omega (arith, room, more, next_start n)

  -- a column of a block before another
  pub text_before : (a b i c : ℕ) → a < b → i < source_count f a → c < f.symbol_length → text_place f a c i < start_of f b * f.symbol_length
  text_before a b i c less li lc =
      let ends = row_ends c f.symbol_length (source_count f a) lc in
      let turned = mul_comm f.symbol_length (source_count f a) in
      let next : a + 1 ≡ suc a = omega arith in
      let rising : start_of f (a + 1) * f.symbol_length ≤ start_of f b * f.symbol_length =
      mul-le-mul_right f.symbol_length (subst (λ (n : ℕ). start_of f n ≤ start_of f b) (sym next) (rising_to f valid (suc a) b (omega (arith, less)))) in
      omega (arith, ends, turned, rising, next_start a, li)

  module _ (n : ℕ) (told rows t r : List ℕ) (told_long : length told ≡ start_of f n * f.symbol_length) (rows_long : length rows ≡ start_of f n * f.symbol_length)
      (t_long : length t ≡ source_count f n * f.symbol_length) (r_long : length r ≡ source_count f n * f.symbol_length) where
    same_here : (i c : ℕ) → i < source_count f n → c < f.symbol_length → slice_index r (i * f.symbol_length + c) ≡ slice_index t (c * source_count f n + i)
        → slice_index (rows ++ r) (source_place f n i c) ≡ slice_index (told ++ t) (text_place f n c i)
    same_here i c li lc same =
        let apart = rows_apart (start_of f n) i f.symbol_length in
        let at : ℕ = start_of f n * f.symbol_length in
        let row : source_place f n i c - start_of f n * f.symbol_length ≡ i * f.symbol_length + c = omega (arith, apart) in
        let column : text_place f n c i - start_of f n * f.symbol_length ≡ c * source_count f n + i = omega arith in
        get_or-append_right rows r at (source_place f n i c) 0 rows_long (omega (arith, apart)) ∙ ap (slice_index r) row ∙ same ∙ ap (slice_index t) (sym column)
        ∙ sym (get_or-append_right told t at (text_place f n c i) 0 told_long (omega arith))

    same_next : (name : Option Identity) → AreSame name f n told rows → AreBlockRows name (source_count f n) f.symbol_length t r
        → AreSame name f (n + 1) (told ++ t) (rows ++ r)
    same_next (Some who) same here = ap (λ (l : List ℕ). l ++ t) same ∙ ap (λ (l : List ℕ). rows ++ l) here
    same_next None same here = λ b i c lb li lc.
        elim (cases_eq b n) [
          | inl e ↦
              subst (λ (m : ℕ). slice_index (rows ++ r) (source_place f m i c) ≡ slice_index (told ++ t) (text_place f m c i)) (sym e)
              (let l : i < source_count f n = subst (λ (m : ℕ). i < source_count f m) e li in same_here i c l lc (here i c l lc))
          | inr ne ↦
              (let less : b < n = omega (arith, lb, ne) in
              get_or_append_left rows r 0 (source_place f b i c) (omega (arith, rows_long, place_before f valid b n i c less li lc))
              ∙ same b i c less li lc
              ∙ sym (get_or_append_left told t 0 (text_place f b c i) (omega (arith, told_long, text_before b n i c less li lc))))
        ]

  module _ (name : Option Identity) (n : ℕ) (left here there before after : Option (List ℕ)) (done : Converts name f n left here before after)
      (t : List ℕ) (t_long : length t ≡ source_count f n * f.symbol_length) (read : Consumes here there t) where
    -- one block more
    pub block_converted : (r : List ℕ) (last : Option (List ℕ)) → length r ≡ source_count f n * f.symbol_length → AreBytes r
        → AreBlockRows name (source_count f n) f.symbol_length t r → Appends after last r → Converts name f (n + 1) left there before last
    block_converted r last r_long bytes turned wrote = record {
      told = done.told ++ t;
      rows = done.rows ++ r;
      told_count = omega (arith, done.told_count, t_long, next_start n, length-append done.told t);
      rows_count = omega (arith, done.rows_count, r_long, next_start n, length-append done.rows r);
      bytes = AreBytes-append done.rows r done.bytes bytes;
      same = same_next n done.told done.rows t r done.told_count done.rows_count t_long r_long name done.same turned;
      consumed = then_consumes left here there done.told t done.consumed read;
      gained = then_appends before after last done.rows r done.gained wrote;
    }

  -- too few bytes come
  pub cut_block : (name : Option Identity) (n : ℕ) (left here before after : Option (List ℕ)) → Converts name f n left here before after → n < block_count f
      → IfSome here (λ x. length x < source_count f n * f.symbol_length) → IfSome left (λ x. length x ≢ coefficient_count f)
  cut_block name n None here before after done inside short = tt
  cut_block name n (Some x) None before after done inside short = absurd done.consumed
  cut_block name n (Some x) (Some y) before after done inside short =
      λ same. absurd (omega (arith, same, short, within_all n inside, done.told_count, ap length done.consumed, length-append done.told y))

none_same : (name : Option Identity) (f : Fti) → AreSame name f 0 [] []
none_same (Some who) f = refl
none_same None f = λ b i c lb. absurd (omega (arith, lb))

pub none_converted : (name : Option Identity) (f : Fti) (left before : Option (List ℕ)) → Converts name f 0 left left before before
unfolding start_of
none_converted name f left before = record {
  told = [];
  rows = [];
  told_count = (let e : 0 ≡ 0 * f.symbol_length = omega arith in e);
  rows_count = (let e : 0 ≡ 0 * f.symbol_length = omega arith in e);
  bytes = λ i. omega arith;
  same = none_same name f;
  consumed = nothing_read left;
  gained = appends_none before;
}

-- ---- where it ends before the last

-- the same, whatever was written
unknown : (name : Option Identity) (f : Fti) (n : ℕ) (left here before after : Option (List ℕ)) → Converts name f n left here before after → Converts name f n left here None None
unknown name f n left here before after done = record {
  told = done.told;
  rows = done.rows;
  told_count = done.told_count;
  rows_count = done.rows_count;
  bytes = done.bytes;
  same = done.same;
  consumed = done.consumed;
  gained = tt;
}

all_some : (a b : Option (List ℕ)) (x : List ℕ) → Appends a b x → AppendsSome a b x
all_some a b x p = (length x, rw (take_all (length x) x (omega arith)) p)

pub some_converted : (name : Option Identity) (f : Fti) (n : ℕ) (left here before after : Option (List ℕ)) → n ≤ block_count f → Converts name f n left here before after
    → ConvertsSome name f left before after
unfolding unknown
some_converted name f n left here before after inside done = record {
  blocks = n;
  inside = inside;
  here = here;
  read = unknown name f n left here before after done;
  gained = all_some before after done.rows done.gained;
}

module _ (f : Fti) (valid : IsValidFti f) (name : Option Identity) (n : ℕ) (left here there before after last : Option (List ℕ)) (done : Converts name f n left here before after)
    (t : List ℕ) (t_long : length t ≡ source_count f n * f.symbol_length) (read : Consumes here there t)
    (r : List ℕ) (r_long : length r ≡ source_count f n * f.symbol_length) (bytes : AreBytes r) (turned : AreBlockRows name (source_count f n) f.symbol_length t r) where
  -- a beginning of the last one's rows was written
  pub cut_written : n < block_count f → AppendsSome after last r → ConvertsSome name f left before last
  unfolding unknown block_converted
  cut_written inside some = record {
    blocks = n + 1;
    inside = omega (arith, inside);
    here = there;
    read = block_converted f valid name n left here there None None (unknown name f n left here before after done) t t_long read r None r_long bytes turned tt;
    gained = then_some before after last done.rows r done.gained some;
  }
