-- What a twin is made of, by the tally that finds a block short.
use Rattle.std.proofs.Common.{◌≡◌, ◌∙◌, ◌++◌, ℕ, true, List, Option, Some, None, map, sym, ap, subst}
use Rattle.std.specs.Io.KnownBytes.{Consumes, IsAtEnd}
use Rattle.std.proofs.lemmas.List.{append-nil}
use Rattle.losses.specs.Groups.{groups_of, group_at}
use Rattle.losses.specs.declared.groups.Member.{Member}
use Rattle.partition.specs.Fti.{Fti}
use Rattle.session.specs.Frames.{frames, AreDatagrams, IsFramed}
use Rattle.session.proofs.OneSession.{only}
use Rattle.reception.specs.declared.scope.Identity.{Identity}
use Rattle.reception.specs.Reception.{counted, symbols}
use Rattle.reception.specs.Symbols.{IsObject}
use Rattle.reception.specs.Walks.{readings_of}
use Rattle.certificate.specs.Certificate.{Certificate, IsCertificate, is_for}
use Rattle.cert.specs.Scan.{IsFirstShortGroup}
use Rattle.cert.specs.Twins.{IsTwinOfSession, esis_of}
use Rattle.cert.specs.Verdict.{GivesObject, IsAgainst}
use Rattle.cert.specs.declared.tally.Tally.{Tally}
use Rattle.cert.specs.declared.verdict.Reason.{Reason}
use Rattle.cert.specs.declared.verdict.Reason.TheVariants.{OtherCertificate, ObjectLength, NotObject, Empty, Packet as NoPacket, OtherFti, SymbolLength, Range, Symbol, Thin, NoCarrier}
use Rattle.cert.specs.declared.verdict.Verdict.{Verdict}
use Rattle.cert.specs.declared.verdict.Verdict.TheVariants.{Yes, No}
use Rattle.cert.proofs.HeldEsis.{held_esis, few_in_group}
use Rattle.cert.proofs.Judging.{read_all, refused}
use Rattle.cert.proofs.Short.{twin_of_session}
use Rattle.file_check.specs.Checked.{IsSomeTally, IsWholeTally}
use Rattle.file_check.specs.Shortness.{IsShortFound, MakesTwins}
use Rattle.file_check.specs.declared.checking.ShortBlock.{ShortBlock}

-- all frames of a file were read
framed_by : (x : List ℕ) (left : Option (List ℕ)) (ds : List (List ℕ)) → Consumes (Some x) left (frames ds) → IsAtEnd left → AreDatagrams ds → IsFramed ds x
framed_by x None ds p end each = absurd p
framed_by x (Some y) ds p end each = record { whole = p ∙ ap (λ (l : List ℕ). frames ds ++ l) end ∙ append-nil (frames ds); each = λ i. (each i).short }

-- fewer different ESIs came than the block needs
pub short_found : (who : Identity) (f : Fti) (tally : Tally) → IsSomeTally who f tally → (r : Reason) (b have need : ℕ) → r ≡ Thin b have need → IsFirstShortGroup (groups_of tally.groups) b have need
    → (short : ShortBlock) → short.block ≡ b → short.have ≡ have → short.need ≡ need → short.fti ≡ f
    → short.arrived_esis.items ≡ map (λ (q : Member). q.esi) (group_at (groups_of tally.groups) b).members → IsShortFound (No r) (Some short)
short_found who f tally s r b have need e h short block_is have_is need_is fti esis =
    let few = few_in_group tally.scope.identity f s.datagrams (groups_of tally.groups) s.tallied.tallied.grouped b have need h in
    subst (λ (x : Reason). IsShortFound (No x) (Some short)) (sym e)
    (record {
      block = block_is;
      symbols = have_is;
      needed = need_is;
      inside = rw fti few.0;
      few = rw (fti, esis) few.1;
    })

-- nothing is said where no block is told as short
pub none_made : (who : Identity) (session object : List ℕ) (z : Certificate) (verdict : Verdict) → MakesTwins who session object z verdict None
none_made who session object z (Yes report) = tt
none_made who session object z (No OtherCertificate) = tt
none_made who session object z (No ObjectLength) = tt
none_made who session object z (No (NotObject b c i)) = tt
none_made who session object z (No Empty) = tt
none_made who session object z (No (NoPacket i x)) = tt
none_made who session object z (No (OtherFti i)) = tt
none_made who session object z (No (SymbolLength i)) = tt
none_made who session object z (No (Range i)) = tt
none_made who session object z (No (Symbol i c)) = tt
none_made who session object z (No (Thin b have need)) = tt
none_made who session object z (No NoCarrier) = tt

module _ (who : Identity) (x o : List ℕ) (z : Certificate) (valid : IsCertificate z) (name : is_for who z.name ≡ true) (form : IsObject z.fti o) (gives : GivesObject o z) (tally : Tally)
    (w : IsWholeTally who x z tally) where
  -- a twin made for what came is one of the session
  pub twins_made : (r : Reason) (b have need : ℕ) → r ≡ Thin b have need → IsFirstShortGroup (groups_of tally.groups) b have need → IsAgainst who (readings_of w.datagrams) z r
      → (short : ShortBlock) → short.fti ≡ z.fti → short.arrived_esis.items ≡ map (λ (q : Member). q.esi) (group_at (groups_of tally.groups) b).members
      → MakesTwins who x o z (No r) (Some short)
  twins_made r b have need e h against short fti esis =
      let ds = w.datagrams in
      let grouped = rw w.identity at w.tallied.tallied.grouped in
      let inside = (few_in_group who z.fti w.datagrams (groups_of tally.groups) grouped b have need h).0 in
      let came : short.arrived_esis.items ≡ esis_of b (symbols (counted who (readings_of w.datagrams))) =
      esis ∙ held_esis z.fti (counted who (readings_of w.datagrams)) (groups_of tally.groups) b grouped inside in
      let thin = subst (λ (y : Reason). IsAgainst who (readings_of w.datagrams) z y) e against in
      subst (λ (y : Reason). MakesTwins who x o z (No y) (Some short)) (sym e) (
        fti,
        λ all other framed twin.
            (let same : all ≡ w.datagrams = only x all w.datagrams framed (framed_by x w.left w.datagrams w.consumed w.end w.each) in
            subst (λ (l : List (List ℕ)). IsTwinOfSession who z.fti b l o other) (sym same)
            (twin_of_session who w.datagrams o other z b valid w.each (
              have,
              need,
              record { readings = readings_of w.datagrams; read = read_all w.datagrams w.each; judged = refused who (readings_of w.datagrams) o z (Thin b have need) name form gives thin },
            ) (rw came at twin))),
      )
