-- Rows of coefficients, block after block, and the certificate that they are in the end.
use Rattle.std.specs.Prelude.{Result, Ok, Err, OnOk, OnErr}
use Rattle.std.proofs.Common.{◌≡◌, ◌<◌, ◌≤◌, ℕ, ◌+◌, ◌-◌, ◌*◌, List, [], ◌++◌, Option, Some, length, get_or, refl, sym, ap, subst, ◌∙◌, arith, inl, inr, append_assoc, length-append}
use Rattle.std.proofs.lemmas.Bool.{cases_eq}
use Rattle.std.proofs.lemmas.List.{append-nil, take_all, get_or_append_left, get_or-append_right}
use Rattle.std.specs.Io.KnownBytes.{Appends}
use Rattle.lists.specs.Bytes.{AreBytes}
use Rattle.gf256.proofs.RowPlaces.{rows_apart, row_ends}
use Rattle.partition.specs.Fti.{Fti, IsValidFti, block_count, source_count, start_of, source_place}
use Rattle.partition.proofs.Laws.{start_end}
use Rattle.alc.proofs.Bytes.{AreBytes-append}
use Rattle.session.specs.Pieces.{AppendsSome}
use Rattle.session.proofs.Writes.{then_appends, then_some, front_some}
use Rattle.reception.specs.declared.scope.Identity.{Identity}
use Rattle.reception.specs.Symbols.{IsObject}
use Rattle.certificate.specs.Certificate.{IsCertificate, unnamed, head_text}
use Rattle.certificate.specs.CoefficientRows.{AreRowsOf}
use Rattle.cert.specs.Verdict.{GivesObject, GivesBlock}
use Rattle.certificate.proofs.BlockByBlock.{next_start}
use Rattle.certificate.proofs.Flat.{appends_none}
use Rattle.encoder.specs.Certified.{AreFirstRows, BeginsRows, IsCertifiedTo}
use Rattle.encoder.specs.RowsWritten.{RowsGive, WritesRows, WritesBlock, BeginsBlock}
use Rattle.encoder.proofs.SessionReadings.{certifies_sent}

-- what a result tells, put in other words
pub to_ok : {T E A B : Type 0} (r : Result T E) → (A → B) → OnOk r A → OnOk r B
to_ok (Ok x) g h = g h
to_ok (Err e) g h = tt

pub to_err : {T E A B : Type 0} (r : Result T E) → (A → B) → OnErr r A → OnErr r B
to_err (Ok x) g h = tt
to_err (Err e) g h = g h

module _ (object : List ℕ) (f : Fti) where
  pub no_rows : AreFirstRows object f 0 []
  unfolding start_of
  no_rows = record { count = (let e : 0 ≡ 0 * f.symbol_length = omega arith in e); bytes = λ i. omega arith; gives = λ b later lt. absurd (omega (arith, lt)) }

  module _ (valid : IsValidFti f) where
    -- the rows of a block, behind those of the blocks before it
    next_are : (n : ℕ) (rows block later : List ℕ) → length rows ≡ start_of f n * f.symbol_length → length block ≡ source_count f n * f.symbol_length
        → AreRowsOf (unnamed f ((rows ++ block) ++ later)) n block
    next_are n rows block later before long = λ i c li lc.
        let apart = rows_apart (start_of f n) i f.symbol_length in
        let ends = row_ends i (source_count f n) f.symbol_length li in
        let at : ℕ = start_of f n * f.symbol_length in
        let place : source_place f n i c ≡ start_of f n * f.symbol_length + (i * f.symbol_length + c) = omega (arith, apart) in
        let back : source_place f n i c - start_of f n * f.symbol_length ≡ i * f.symbol_length + c = omega (arith, apart) in
        sym (get_or_append_left (rows ++ block) later 0 (source_place f n i c) (omega (arith, place, ends, lc, before, long, length-append rows block))
        ∙ get_or-append_right rows block at (source_place f n i c) 0 before (omega (arith, place))
        ∙ ap (λ (p : ℕ). get_or block p 0) back)

    pub next_rows : (n : ℕ) (rows block : List ℕ) → AreFirstRows object f n rows → length block ≡ source_count f n * f.symbol_length → AreBytes block
        → RowsGive object f n block → AreFirstRows object f (n + 1) (rows ++ block)
    next_rows n rows block done long bytes give =
        record {
          count = omega (arith, next_start f valid n, long, done.count, length-append rows block);
          bytes = AreBytes-append rows block done.bytes bytes;
          gives = λ b later lt.
              elim (cases_eq b n) [
                | inl e ↦ subst (GivesBlock object (unnamed f ((rows ++ block) ++ later))) (sym e) (give ((rows ++ block) ++ later) (next_are n rows block later done.count long))
                | inr ne ↦
                    subst (λ (l : List ℕ). GivesBlock object (unnamed f l) b) (sym (append_assoc rows block later))
                    (done.gives b (block ++ later) (omega (arith, lt, ne)))
              ];
        }

    -- the rows of all blocks
    pub all_certificate : (rows : List ℕ) → AreFirstRows object f (block_count f) rows → IsCertificate (unnamed f rows)
    all_certificate rows all = record {
      fti = valid;
      name = λ who e. absurd (cc);
      count = all.count ∙ ap (λ (m : ℕ). m * f.symbol_length) (start_end f valid);
      bytes = all.bytes;
    }

    pub all_give : (rows : List ℕ) → AreFirstRows object f (block_count f) rows → GivesObject object (unnamed f rows)
    all_give rows all = λ b c i hb. subst (λ (l : List ℕ). GivesBlock object (unnamed f l) b) (append-nil rows) (all.gives b [] hb) c i

    pub certified : (who : Identity) (a b c : Option (List ℕ)) → IsObject f object → Appends a b (head_text (Some who) f)
        → WritesRows object f (block_count f) b c → IsCertifiedTo object f who a c
    certified who a b c form head all = record {
      certificate = unnamed f all.rows;
      form = all_certificate all.rows all.first;
      fti = refl;
      name = refl;
      gives = all_give all.rows all.first;
      certifies = certifies_sent (unnamed f all.rows) object (all_certificate all.rows all.first) refl form (all_give all.rows all.first);
      gained = then_appends a b c (head_text (Some who) f) all.rows head all.gained;
    }

    -- one block more is written
    module _ (n : ℕ) (a b c : Option (List ℕ)) (done : WritesRows object f n a b) where
      pub block_written : WritesBlock object f n b c → WritesRows object f (n + 1) a c
      block_written more = record {
        rows = done.rows ++ more.rows;
        first = next_rows n done.rows more.rows done.first more.are.count more.are.bytes more.are.gives;
        gained = then_appends a b c done.rows more.rows done.gained more.gained;
      }

      -- or a beginning of it
      pub block_begun : n < block_count f → BeginsBlock object f n b c → BeginsRows object f [] a c
      block_begun less some = record {
        blocks = n + 1;
        inside = omega (arith, less);
        rows = done.rows ++ some.rows;
        first = next_rows n done.rows some.rows done.first some.are.count some.are.bytes some.are.gives;
        gained = then_some a b c done.rows some.rows done.gained some.gained;
      }

  pub none_written : (a : Option (List ℕ)) → WritesRows object f 0 a a
  none_written a = record { rows = []; first = no_rows; gained = appends_none a }

  pub behind_head : (head : List ℕ) (a b c : Option (List ℕ)) → Appends a b head → BeginsRows object f [] b c → BeginsRows object f head a c
  behind_head head a b c p q = record { blocks = q.blocks; inside = q.inside; rows = q.rows; first = q.first; gained = then_some a b c head q.rows p q.gained }

  pub head_begun : (head : List ℕ) (a b : Option (List ℕ)) → AppendsSome a b head → BeginsRows object f head a b
  head_begun head a b some = record { blocks = 0; inside = omega arith; rows = []; first = no_rows; gained = front_some a b head [] some }

-- all of the first rows were written
pub rows_begun : (object : List ℕ) (f : Fti) (n : ℕ) (a b : Option (List ℕ)) → n ≤ block_count f → WritesRows object f n a b → BeginsRows object f [] a b
rows_begun object f n a b inside done = record {
  blocks = n;
  inside = inside;
  rows = done.rows;
  first = done.first;
  gained = (length done.rows, rw (take_all (length done.rows) done.rows (omega arith)) done.gained);
}
