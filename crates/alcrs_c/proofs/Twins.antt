-- Datagrams that are fed to a check for a twin.
use Rattle.std.proofs.Common.{◌≡◌, ◌≤◌, ◌<◌, ◌+◌, ℕ, List, [], ◌∷◌, ◌++◌, get_or, take, length, map, sym, ap, ◌∙◌, arith}
use Rattle.std.specs.Borrow.{Bor}
use Rattle.std.proofs.lemmas.List.{map-append, take_more, get_or-map}
use Rattle.session.specs.Frames.{AreDatagrams, most_bytes}
use Rattle.session.specs.declared.frame.FrameFault.{FrameFault}
use Rattle.session.specs.declared.frame.FrameFault.TheVariants.{CutLength, CutDatagram, TooLong, Io, NoMemory, NoSuchPlace}
use Rattle.cert.specs.Feeding.{IsUnfed}
use Rattle.cert.specs.declared.fault.CheckFault.TheVariants.{Frame}

-- the frames of datagrams have no fault
pub no_frame_fault : (e : FrameFault) (d : List ℕ) → IsUnfed d (Frame e) → length d ≤ most_bytes → ⊥
no_frame_fault TooLong d h l = omega (arith, h, l)
no_frame_fault CutLength d h l = absurd h
no_frame_fault CutDatagram d h l = absurd h
no_frame_fault Io d h l = absurd h
no_frame_fault NoMemory d h l = absurd h
no_frame_fault (NoSuchPlace i) d h l = absurd h

module _ (ds : List (Bor (List ℕ))) (i : ℕ) (d : Bor (List ℕ)) (lt : i < length ds) (is : d ≡ get_or ds i d) where
  -- one of the datagrams is one
  pub datagram_of : AreDatagrams (map (λ d. d.now) ds) → length d.now ≤ most_bytes
  datagram_of each =
      let here = each i in
      let same : get_or (map (λ (d : Bor (List ℕ)). d.now) ds) i [] ≡ d.now = get_or-map (λ (d : Bor (List ℕ)). d.now) ds i d [] lt ∙ ap (λ (b : Bor (List ℕ)). b.now) (sym is) in
      (rw same at here.short)

  -- those that were fed, and the next
  pub next_fed : map (λ d. d.now) (take (i + 1) ds) ≡ map (λ d. d.now) (take i ds) ++ d.now ∷ []
  next_fed =
      ap (map (λ (d : Bor (List ℕ)). d.now)) (take_more ds i d lt) ∙ map-append (λ (d : Bor (List ℕ)). d.now) (take i ds) (get_or ds i d ∷ [])
      ∙ ap (λ (b : Bor (List ℕ)). map (λ d. d.now) (take i ds) ++ b.now ∷ []) (sym is)
