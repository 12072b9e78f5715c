-- A certificate's file that is given a name.
use Rattle.std.specs.Prelude.{IfSome}
use Rattle.std.proofs.Common.{◌≡◌, ◌≢◌, ℕ, ◌+◌, ◌*◌, ◌<◌, ◌≤◌, Bool, true, false, List, [], ◌∷◌, ◌++◌, Option, Some, None, length, refl, ap, ◌∙◌, arith, length-append}
use Rattle.std.specs.Io.KnownBytes.{Consumes, IsAtEnd, Appends}
use Rattle.lists.specs.Bytes.{AreBytes}
use Rattle.partition.specs.Fti.{Fti, IsValidFti, block_count}
use Rattle.partition.specs.FtiFault.{fti_fault}
use Rattle.partition.proofs.Laws.{start_end}
use Rattle.streams.proofs.Fills.{then_consumes}
use Rattle.session.proofs.Writes.{then_appends}
use Rattle.reception.specs.declared.scope.Identity.{Identity}
use Rattle.certificate.specs.declared.certificate.CertFault.{CertFault}
use Rattle.certificate.specs.declared.certificate.CertFault.TheVariants.{Magic, Fti as WrongFti, Size, Io, NoMemory, OtherIdentity}
use Rattle.certificate.specs.declared.converting.ConvertFault.{ConvertFault}
use Rattle.certificate.specs.declared.converting.ConvertFault.TheVariants.{Certificate as OfCertificate, Write}
use Rattle.certificate.specs.Certificate.{IsIdentity, is_for, coefficient_count, head_text, coefficients_text, IsCertFault}
use Rattle.certificate.specs.Converting.{IsConverted, IsOfOther, IsNameFault, IsConvertFault}
use Rattle.certificate.specs.ConvertingBlocks.{AreSame, Converts, IsBlockFault}
use Rattle.certificate.proofs.Consuming.{coefficients_fault}
use Rattle.certificate.proofs.BlockByBlock.{to_some, all_read, much_read}
use Rattle.certificate.proofs.TextPlaces.{is_text}
use Rattle.certificate.proofs.RowsOfText.{formed}

-- what a certificate is refused for, but its name
pub name_fault : (e : CertFault) (who : Identity) (left : Option (List ℕ)) (failed : Bool) → IsCertFault e left failed → IsNameFault e who left failed
name_fault Magic who left failed h = h
name_fault (WrongFti e) who left failed h = h
name_fault Size who left failed h = h
name_fault Io who left failed h = h
name_fault NoMemory who left failed h = h
name_fault OtherIdentity who left failed h = absurd h

-- coefficients as a text with this name has them are those of the rows
told_text : (name : Option Identity) (f : Fti) (told rows : List ℕ) → IsValidFti f → length told ≡ coefficient_count f → AreSame name f (block_count f) told rows
    → told ≡ coefficients_text name (record { fti = f; name = name; coefficients = rows })
told_text (Some who) f told rows valid long same = same
told_text None f told rows valid long same = is_text f valid told rows long same

-- a head has 14 bytes, or 34
length_head : (name : Option Identity) (f : Fti) → (14 ≤ length (head_text name f)) × (length (head_text name f) ≤ 34)
unfolding head_text
length_head None f = (omega arith, omega arith)
length_head (Some who) f = (omega arith, omega arith)

none_left : (x : List ℕ) → length x ≡ 0 → x ≡ []
none_left [] h = refl
none_left (y ∷ ys) h = absurd (omega arith)

at_end : (a : Option (List ℕ)) → IfSome a (λ x. AreBytes x × (length x ≡ 0)) → IsAtEnd a
at_end None h = tt
at_end (Some x) h = none_left x h.1

behind : (here there : Option (List ℕ)) (told : List ℕ) (n : ℕ) → Consumes here there told → length told ≡ n → IfSome there (λ x. length x ≢ 0)
    → IfSome here (λ x. length x ≢ n)
behind None there told n read long more = tt
behind (Some x) None told n read long more = absurd read
behind (Some x) (Some y) told n read long more = λ same. more (omega (arith, same, long, ap length read, length-append told y))

other_text : (who : Identity) (name : Option Identity) (f : Fti) (left here : Option (List ℕ)) → IsValidFti f → IfSome name IsIdentity → Consumes left here (head_text name f)
    → is_for who name ≡ false → IfSome here (λ x. AreBytes x × (length x ≡ coefficient_count f)) → IfSome left (IsOfOther who)
other_text who None f left here valid named read other rest = absurd (cc)
other_text who (Some name) f None here valid named read other rest = tt
other_text who (Some name) f (Some x) None valid named read other rest = absurd read
other_text who (Some name) f (Some x) (Some y) valid named read other rest =
    (record { fti = f; name = Some name; coefficients = y }, formed (Some name) f y valid named rest.1 rest.0, other, read)

no_room_behind : (left here : Option (List ℕ)) (head : List ℕ) (before room : ℕ) → Consumes left here head → before ≤ room + (length head + 20) → IfSome here (λ x. room < length x)
    → IfSome left (λ x. before < length x + 20)
no_room_behind None here head before room read wrote short = tt
no_room_behind (Some x) None head before room read wrote short = absurd read
no_room_behind (Some x) (Some y) head before room read wrote short = omega (arith, wrote, short, ap length read, length-append head y)

module _ (who : Identity) (name : Option Identity) (f : Fti) (valid : IsValidFti f) (named : IfSome name IsIdentity) (left here : Option (List ℕ))
    (head : Consumes left here (head_text name f)) where
  module _ (there between after : Option (List ℕ)) (done : Converts name f (block_count f) here there between after) where
    all_told : length done.told ≡ coefficient_count f
    all_told = done.told_count ∙ ap (λ (n : ℕ). n * f.symbol_length) (start_end f valid)

    pub converted : (before : Option (List ℕ)) → is_for who name ≡ true → IfSome there (λ x. AreBytes x × (length x ≡ 0)) → Appends before between (head_text (Some who) f)
        → IsConverted who f left before after
    converted before own end wrote = record {
      certificate = record { fti = f; name = name; coefficients = done.rows };
      form = formed name f done.rows valid named (done.rows_count ∙ ap (λ (n : ℕ). n * f.symbol_length) (start_end f valid)) done.bytes;
      fti = refl;
      own = own;
      text =
          to_some left (λ x is. is ∙ ap (λ (l : List ℕ). head_text name f ++ l) (told_text name f done.told done.rows valid all_told done.same))
          (all_read left there (head_text name f ++ done.told) (then_consumes left here there (head_text name f) done.told head done.consumed) (at_end there end));
      gained = then_appends before between after (head_text (Some who) f) done.rows wrote done.gained;
    }

    -- more comes behind the coefficients
    pub more_behind : IfSome there (λ x. length x ≢ 0) → IfSome here (λ x. length x ≢ coefficient_count f)
    more_behind = behind here there done.told (coefficient_count f) done.consumed all_told

  -- the name is another
  pub other_read : is_for who name ≡ false → IfSome here (λ x. AreBytes x × (length x ≡ coefficient_count f)) → IfSome left (IsOfOther who)
  other_read = other_text who name f left here valid named head

  -- there is no room for the head, or for a block
  pub no_room_for_head : (room : ℕ) → room < length (head_text (Some who) f) → IfSome left (λ x. room < length x + 20)
  no_room_for_head room short =
      to_some left (λ x least. omega (arith, least, short, length_head name f, length_head (Some who) f)) (much_read left here (head_text name f) head)

  pub blocks_fault : (e : ConvertFault) (reader_failed : Bool) (before room : ℕ) (writer_failed : Bool) → fti_fault f ≡ None
      → before ≤ room + length (head_text (Some who) f) → IsBlockFault e f here reader_failed room writer_failed
      → IsConvertFault e who left reader_failed before writer_failed
  blocks_fault (OfCertificate e) reader_failed before room writer_failed good wrote fault =
      name_fault e who left reader_failed (coefficients_fault e left here reader_failed name f good valid head fault.1 fault.0)
  blocks_fault Write reader_failed before room writer_failed good wrote fault =
      (fault.0, no_room_behind left here (head_text name f) before room head (omega (arith, wrote, length_head name f, length_head (Some who) f)) fault.1)
