-- No two certificates have one text.
use Rattle.std.proofs.Common.{◌≡◌, ℕ, List, ◌∷◌, ◌++◌, Some, None, Option, drop, length, get_or, refl, sym, ap, ◌∙◌, arith}
use Rattle.std.proofs.lemmas.List.{drop_at}
use Rattle.byteorder.specs.Endian.{big_bytes, big_number}
use Rattle.byteorder.specs.Numbers.{big_number-reads_back}
use Rattle.partition.specs.Fti.{Fti, IsValidFti, fti_from}
use Rattle.reception.specs.declared.scope.Identity.{Identity}
use Rattle.partition.specs.FtiBytes.{bytes_of_fti}
use Rattle.certificate.specs.Certificate.{Certificate, IsCertificate, IsIdentity, name_text, head_text, told_fti, coefficients_text, certificate_text, unnamed}
use Rattle.certificate.specs.CertificateReading.{told_name}
use Rattle.certificate.proofs.TextPlaces.{one_list}

abbrev identity : ℕ → ℕ → Identity
identity t u = record { tsi = t; toi = u }

pub fti_back : (f : Fti) (rest : List ℕ) → IsValidFti f → told_fti 0 (bytes_of_fti f ++ rest) ≡ f
fti_back f rest valid =
    let behind : List ℕ = f.block_length ∷ f.max_symbols ∷ rest in
    let length_again : big_number 6 (big_bytes 6 f.transfer_length ++ (big_bytes 2 f.symbol_length ++ behind)) ≡ f.transfer_length =
    big_number-reads_back 6 f.transfer_length (big_bytes 2 f.symbol_length ++ behind) (omega (arith, valid.length_below)) in
    let symbol_again : big_number 2 (big_bytes 2 f.symbol_length ++ behind) ≡ f.symbol_length =
    big_number-reads_back 2 f.symbol_length behind (omega (arith, valid.symbol_below)) in
    ap (λ (v : ℕ). fti_from v (big_number 2 (big_bytes 2 f.symbol_length ++ behind)) f.block_length f.max_symbols) length_again
    ∙ ap (λ (v : ℕ). fti_from f.transfer_length v f.block_length f.max_symbols) symbol_again

pub name_back : (who : Identity) (rest : List ℕ) → IsIdentity who → told_name (name_text who ++ rest) ≡ who
name_back who rest fits =
    let tsi_again : big_number 6 (big_bytes 6 who.tsi ++ (big_bytes 14 who.toi ++ rest)) ≡ who.tsi =
    big_number-reads_back 6 who.tsi (big_bytes 14 who.toi ++ rest) (omega (arith, fits.tsi)) in
    let toi_again : big_number 14 (big_bytes 14 who.toi ++ rest) ≡ who.toi = big_number-reads_back 14 who.toi rest (omega (arith, fits.toi)) in
    ap (λ (v : ℕ). identity v (big_number 14 (big_bytes 14 who.toi ++ rest))) tsi_again ∙ ap (identity who.tsi) toi_again

-- the FTI that a text tells, and what stands behind it
pub same_fti : (f g : Fti) (x y : List ℕ) → IsValidFti f → IsValidFti g → bytes_of_fti f ++ x ≡ bytes_of_fti g ++ y → (f ≡ g) × (x ≡ y)
same_fti f g x y vf vg same = (
  sym (fti_back f x vf) ∙ ap (told_fti 0) same ∙ fti_back g y vg,
  sym (drop_at (bytes_of_fti f) x 10 refl) ∙ ap (drop 10) same ∙ drop_at (bytes_of_fti g) y 10 refl,
)

abbrev made : Fti → Option Identity → List ℕ → Certificate
made f name l = record { fti = f; name = name; coefficients = l }

pub one_text_of : (n m : Option Identity) (f g : Fti) (x y : List ℕ) → IsCertificate (made f n x) → IsCertificate (made g m y)
    → certificate_text (made f n x) ≡ certificate_text (made g m y) → made f n x ≡ made g m y
unfolding head_text
one_text_of None None f g x y hx hy same =
    let w = same_fti f g _ _ hx.fti hy.fti (ap (drop 4) same) in
    let again : coefficients_text None (unnamed f x) ≡ coefficients_text None (unnamed f y) =
    w.1 ∙ ap (λ (h : Fti). coefficients_text None (unnamed h y)) (sym w.0) in
    let count : length y ≡ _ = hy.count in
    let c = one_list f hx.fti x y hx.count (rw w.0 hy.count) again in
    ap (λ (l : List ℕ). made f None l) c ∙ ap (λ (h : Fti). made h None y) w.0
one_text_of None (Some who) f g x y hx hy same = absurd (let e = ap (λ (l : List ℕ). get_or l 3 0) same in omega (arith, e))
one_text_of (Some who) None f g x y hx hy same = absurd (let e = ap (λ (l : List ℕ). get_or l 3 0) same in omega (arith, e))
one_text_of (Some who) (Some other) f g x y hx hy same =
    let behind : name_text who ++ (bytes_of_fti f ++ x) ≡ name_text other ++ (bytes_of_fti g ++ y) = ap (drop 4) same in
    let name : who ≡ other = sym (name_back who (bytes_of_fti f ++ x) (hx.name who refl)) ∙ ap told_name behind ∙ name_back other (bytes_of_fti g ++ y) (hy.name other refl) in
    let rest : bytes_of_fti f ++ x ≡ bytes_of_fti g ++ y = sym (drop_at (name_text who) _ 20 refl) ∙ ap (drop 20) behind ∙ drop_at (name_text other) _ 20 refl in
    let w = same_fti f g x y hx.fti hy.fti rest in
    ap (λ (n : Identity). made f (Some n) x) name ∙ ap (λ (h : Fti). made h (Some other) x) w.0 ∙ ap (made g (Some other)) w.1

pub one_text : (x y : Certificate) → IsCertificate x → IsCertificate y → certificate_text x ≡ certificate_text y → x ≡ y
one_text x y hx hy same = one_text_of x.name y.name x.fti y.fti x.coefficients y.coefficients hx hy same
