use Rattle.std.proofs.Common.{◌≡◌, ◌∙◌, ℕ, List, ◌++◌, length, take, drop, refl, sym, ap, arith, rules, IsNone}
use Rattle.std.proofs.Math.Seq.{take-append_seam}
use Rattle.std.proofs.Math.Nat.{mul-le-mul_right}
use Rattle.partition.proofs.Laws.{source_encoding}
use Rattle.certificate.specs.Certificate.{IsCertificate}
use Rattle.certificate.specs.InFile.{certificate_in}
use Rattle.file_check.proofs.checking.compare_block.Goals as goal

-- what was written into the whole of a vector
kept : (n : ℕ) (a xs : List ℕ) → length a ≡ n → take n (a ++ drop (length a) xs) ≡ a
kept n a xs e = ap (λ (m : ℕ). take m (a ++ drop (length a) xs)) (sym e) ∙ take-append_seam a (drop (length a) xs)

pub read_rows-requires-clause-room : goal.read_rows-requires-clause-room
read_rows-requires-clause-room g c =
    let f = c.args.files.now.certificate.fti in
    let less = mul-le-mul_right f.symbol_length (source_encoding f c.args.files.now.certificate.valid c.args.block) in
    omega (arith, less, c.deref_mut.ensures.len, c.deref_mut-2.ensures.len, c.in_ok-resize.ensures.symbols, c.in_ok-resize.ensures.rows, c.resize.new.self.symbols.ok.0, c.resize.new.self.rows.ok.0)

pub first_not_given-not_given-requires-clause-symbols : goal.first_not_given-not_given-requires-clause-symbols
first_not_given-not_given-requires-clause-symbols g c =
    let f = c.args.files.now.certificate.fti in
    let less = mul-le-mul_right f.symbol_length (source_encoding f c.args.files.now.certificate.valid c.args.block) in
    let size = c.make_symbols.ensures.len in
    let is_symbols : c.deref-2.result.now ≡ c.make_symbols.new.symbols =
    c.deref-2.ensures.value ∙ kept c.resize.new.self.symbols.len c.make_symbols.new.symbols _ (c.make_symbols.ensures.len ∙ c.deref_mut-3.ensures.len) in
    rw is_symbols (omega (arith, less, size, c.deref_mut-3.ensures.len, c.in_ok-resize.ensures.symbols, c.resize.new.self.symbols.ok.0))

pub returns-then-is_some-clause-not_given : goal.returns-then-is_some-clause-not_given
returns-then-is_some-clause-not_given g c = λ x o text told_x told_o told_t long. (
    let f = c.args.files.now.certificate.fti in
    let z = certificate_in text f c.args.files.now.certificate.name in
    let valid : IsCertificate z = (rw told_t at c.args.files.now.certificate.text).0 in
    let rows = c.in-Ok.ensures.rows text told_t in
    let is_rows : c.deref.result.now ≡ c.read_rows.new.rows =
    c.deref.ensures.value ∙ kept c.resize.new.self.rows.len c.read_rows.new.rows c.resize.new.self.rows.items (c.read_rows.ensures.len ∙ c.deref_mut-2.ensures.len) in
    let is_symbols : c.deref-2.result.now ≡ c.make_symbols.new.symbols =
    c.deref-2.ensures.value ∙ kept c.resize.new.self.symbols.len c.make_symbols.new.symbols _ (c.make_symbols.ensures.len ∙ c.deref_mut-3.ensures.len) in
    let is_source : c.deref-3.result.now ≡ c.read_source.new.bytes =
    c.deref-3.ensures.value ∙ kept c.resize.new.self.source.len c.read_source.new.bytes c.resize.new.self.source.items (c.read_source.ensures.len ∙ c.deref_mut-4.ensures.len) in
    let symbols = c.make_symbols.ensures.symbols z valid refl (rw is_rows rows) in
    let source = c.in-Ok-read_source.ensures.source o told_o in
    c.first_not_given-not_given.ensures.some o z refl (rw is_source source) (rw is_symbols symbols))

pub returns-in-Ok-first_wrong-clause-compared : goal.returns-in-Ok-first_wrong-clause-compared
returns-in-Ok-first_wrong-clause-compared g c = λ x o text told_x told_o told_t ds index long none. (
    let f = c.args.files.now.certificate.fti in
    let z = certificate_in text f c.args.files.now.certificate.name in
    let valid : IsCertificate z = (rw told_t at c.args.files.now.certificate.text).0 in
    let rows = c.in-Ok.ensures.rows text told_t in
    let is_rows : c.deref.result.now ≡ c.read_rows.new.rows =
    c.deref.ensures.value ∙ kept c.resize.new.self.rows.len c.read_rows.new.rows c.resize.new.self.rows.items (c.read_rows.ensures.len ∙ c.deref_mut-2.ensures.len) in
    let is_symbols : c.deref-2.result.now ≡ c.make_symbols.new.symbols =
    c.deref-2.ensures.value ∙ kept c.resize.new.self.symbols.len c.make_symbols.new.symbols _ (c.make_symbols.ensures.len ∙ c.deref_mut-3.ensures.len) in
    let is_source : c.deref-3.result.now ≡ c.read_source.new.bytes =
    c.deref-3.ensures.value ∙ kept c.resize.new.self.source.len c.read_source.new.bytes c.resize.new.self.source.items (c.read_source.ensures.len ∙ c.deref_mut-4.ensures.len) in
    let symbols = c.make_symbols.ensures.symbols z valid refl (rw is_rows rows) in
    let source = c.in-Ok-read_source.ensures.source o told_o in
    let is_again : c.deref-4.result.now ≡ c.make_symbols.new.symbols =
    c.deref-4.ensures.value ∙ kept c.resize.new.self.symbols.len c.make_symbols.new.symbols _ (c.make_symbols.ensures.len ∙ c.deref_mut-3.ensures.len) in
    let there = ap (λ s. g.S.ReadAt.content s) c.requires.same ∙ told_x in
    let e = c.in-Ok-first_wrong.ensures in
    let not_given : IsNone c.first_not_given-not_given.result = search rules in
    record {
      gives = c.first_not_given-not_given.ensures.none o z refl (rw is_source source) (rw is_symbols symbols) not_given;
      said = e.said x z ds there valid index (rw is_again symbols);
      is = e.wrong x z ds there valid index (rw is_again symbols);
      earlier = λ before. e.earlier x z.fti ds index;
    })

pub returns-in-Err-clause-fault : goal.returns-in-Err-clause-fault
returns-in-Err-clause-fault g c = λ x o text told_x told_o told_t ds index long.
    rw c.requires.same at (c.in-Err.ensures.lost x c.args.files.now.certificate.fti ds (ap (λ s. g.S.ReadAt.content s) c.requires.same ∙ told_x) index)
