-- What each command writes is what its inputs give.
use Rattle.std.proofs.Common.{◌≡◌, ◌∙◌, ℕ, List, [], ◌∷◌, Option, Some, refl, sym, ap, subst, codes, length}
use Rattle.certificate.specs.Certificate.{certificate_text, named_as}
use Rattle.encoder.specs.ObjectRead.{ReadsObject}
use Rattle.partition.specs.Fti.{Fti, block_count}
use Rattle.session.specs.Frames.{frames}
use Rattle.request.specs.declared.requests.CertifyRequest.{CertifyRequest}
use Rattle.request.specs.declared.requests.ConvertRequest.{ConvertRequest}
use Rattle.request.specs.declared.requests.EncodeRequest.{EncodeRequest}
use Rattle.request.specs.declared.requests.Request.TheVariants.{Certify, Convert, Encode}
use Rattle.host.specs.World.{Files, Holds}
use Rattle.commands.specs.Inputs.{AnObject, AStream, Bytes, Polynomials, Opened, HasValue}
use Rattle.commands.specs.Lines.{count_line}
use Rattle.commands.specs.Commands.{sized, GivesCertificate, GivesSession}
use Rattle.commands.proofs.Stopping.{WritesGiven}
use Rattle.send_commands.specs.Certifying.{WritesCertificate}
use Rattle.send_commands.specs.Converted.{Converts}
use Rattle.send_commands.specs.Sending.{WritesSession}
use Rattle.send_commands.proofs.Conversions.{gives_certificate}
use Rattle.send_commands.proofs.Making.{gives_object}

-- "certified 3 blocks"
abbrev pub line : List ℕ → List ℕ → ℕ → List ℕ
line name of n = count_line name n of

module _ (files : Option Files) (blank contents : Option (List ℕ)) (count : ℕ) where
  certified : (r : CertifyRequest) (object : List ℕ) (f : Fti) → HasValue files (AnObject r.object.now) (Bytes object) → f ≡ sized r.sizes (length object)
      → WritesCertificate object f r.identity count blank contents → WritesGiven files (Certify r) (line (codes "certified") (codes " blocks") count) 0 blank contents
  certified r object f held sizes s = record {
    bytes = certificate_text (named_as r.identity s.0.certificate);
    values = Bytes object ∷ [];
    read = (held, tt);
    gives = subst
        (λ (g : Fti). GivesCertificate r.identity object g (record { text = line (codes "certified") (codes " blocks") count; status = 0; output = Some (certificate_text (named_as r.identity s.0.certificate)) }))
        sizes (s.0.certificate, s.0.form, s.0.fti, s.0.gives, s.0.certifies, (ap (line (codes "certified") (codes " blocks")) s.1, refl, refl));
    gained = s.0.gained;
  }

  pub certified_read : (r : CertifyRequest) (f : Fti) (left : Option (List ℕ)) → Holds files r.object.now (λ bytes. left ≡ Some bytes) → f ≡ sized r.sizes f.transfer_length
      → ReadsObject f left (λ object. WritesCertificate object f r.identity count blank contents)
      → WritesGiven files (Certify r) (line (codes "certified") (codes " blocks") count) 0 blank contents
  certified_read r f left held sizes read =
      certified r read.object f (gives_object files r.object.now left read.object held read.all) (sizes ∙ ap (λ (n : ℕ). sized r.sizes n) (sym read.form.count)) read.holds

  pub converted : (r : ConvertRequest) (left : Option (List ℕ)) → HasValue files (AStream r.certificate.now) (Opened left) → Converts r.identity left blank contents count
      → WritesGiven files (Convert r) (line (codes "converted") (codes " blocks") count) 0 blank contents
  converted r left held made =
      let is = made.1 in
      record {
        bytes = certificate_text (named_as r.identity is.certificate);
        values = Polynomials is.certificate ∷ [];
        read = (gives_certificate files r.certificate.now left is.certificate is.form held is.text, tt);
        gives = (is.own, (ap (line (codes "converted") (codes " blocks")) (made.2 ∙ ap block_count (sym is.fti)), refl, refl));
        gained = is.gained;
      }

  encoded : (r : EncodeRequest) (object : List ℕ) (f : Fti) → HasValue files (AnObject r.object.now) (Bytes object) → f ≡ sized r.sending.sizes (length object)
      → WritesSession object f r.sending count blank contents → WritesGiven files (Encode r) (line (codes "encoded") (codes " datagrams") count) 0 blank contents
  encoded r object f held sizes s = record {
    bytes = frames s.datagrams;
    values = Bytes object ∷ [];
    read = (held, tt);
    gives = subst
        (λ (g : Fti). GivesSession r.sending object g (record { text = line (codes "encoded") (codes " datagrams") count; status = 0; output = Some (frames s.datagrams) }))
        sizes (s.valid, s.can, s.datagrams, s.sent, (ap (line (codes "encoded") (codes " datagrams")) s.counted, refl, refl));
    gained = s.gained;
  }

  pub encoded_read : (r : EncodeRequest) (f : Fti) (left : Option (List ℕ)) → Holds files r.object.now (λ bytes. left ≡ Some bytes) → f ≡ sized r.sending.sizes f.transfer_length
      → ReadsObject f left (λ object. WritesSession object f r.sending count blank contents)
      → WritesGiven files (Encode r) (line (codes "encoded") (codes " datagrams") count) 0 blank contents
  encoded_read r f left held sizes read =
      encoded r read.object f (gives_object files r.object.now left read.object held read.all) (sizes ∙ ap (λ (n : ℕ). sized r.sending.sizes n) (sym read.holds.can.whole)) read.holds
