-- Frames that are copied up to what is none, one more.
use Rattle.std.proofs.Common.{◌≡◌, ◌≤◌, ◌+◌, ◌∙◌, ℕ, Bool, List, [], ◌∷◌, ◌++◌, Option, length, length-append, inl, inr, refl, sym, ap, arith, subst}
use Rattle.std.specs.Prelude.{Some, None, Result, Err, IfSome, IfErr}
use Rattle.std.proofs.lemmas.List.{append-nil}
use Rattle.std.proofs.KnownBytes.{Appends-nil}
use Rattle.std.specs.Io.KnownBytes.{Appends, Consumes, IsAtEnd}
use Rattle.session.specs.Frames.{frame, frames, most_bytes, HasRead, IsNoFrame, IsReadFault}
use Rattle.session.specs.declared.frame.FrameFault.{FrameFault}
use Rattle.session.specs.declared.frame.FrameFault.TheVariants.{CutLength, CutDatagram, TooLong, Io, NoMemory, NoSuchPlace}
use Rattle.session.proofs.Sessions.{frames_push, short_push}
use Rattle.session.proofs.Writes.{then_appends}
use Rattle.cert.proofs.FromReader.{consumes_one}
use Rattle.request.specs.declared.requests.SalvageRequest.{SalvageRequest}
use Rattle.request.specs.declared.requests.Request.TheVariants.{Salvage}
use Rattle.host.specs.World.{Files, World, GivesFile}
use Rattle.commands.specs.Inputs.{AStream, Opened, HasValue}
use Rattle.commands.specs.Commands.{IsSalvaged}
use Rattle.commands.specs.Outcomes.{IsBecause}
use Rattle.send_commands.proofs.Given.{line}
use Rattle.std.proofs.Common.{codes}
use Rattle.send_commands.specs.Salvaging.{HasCopied, HasSalvaged, IsBroken, IsUncopied}
use Rattle.commands.specs.declared.fault.Fault.{Fault}
use Rattle.commands.specs.declared.fault.Fault.TheVariants.{Open, File, Memory, Frame, Certificate, Fti, Send, NoPlace}
use Rattle.commands.specs.declared.output.Unwritten.{Unwritten}
use Rattle.commands.specs.declared.output.Unwritten.TheVariants as unwritten
use Rattle.commands.proofs.Stopping.{by_refused, WritesGiven}
use Rattle.commands.proofs.Holding.{is_there, nothing_consumed}

-- before the first
pub begins : (a b : Option (List ℕ)) → HasCopied a a b b 0
begins a b = record {
  datagrams = [];
  read = record { consumed = nothing_consumed a; each = λ i. omega arith };
  written = Appends-nil b;
  counted = refl;
}

module _ (a mid b m : Option (List ℕ)) (n : ℕ) (h : HasCopied a mid b m n) where
  -- one more
  pub one_more : (next m2 : Option (List ℕ)) (d : List ℕ) (up : ℕ) → Consumes mid next (frame d)
      → length d ≤ most_bytes → Appends m m2 (frame d) → up ≡ n + 1
      → HasCopied a next b m2 up
  one_more next m2 d up one short gains is = record {
    datagrams = h.datagrams ++ d ∷ [];
    read = record {
      consumed = consumes_one a mid next h.datagrams d h.read.consumed one;
      each = short_push h.datagrams d h.read.each short;
    };
    written = subst (λ (x : List ℕ). Appends b m2 x) (sym (frames_push h.datagrams d))
        (then_appends b m m2 (frames h.datagrams) (frame d) h.written gains);
    counted =
        let l = length-append h.datagrams (d ∷ []) in
        let c = h.counted in
        omega (arith, l, c, is);
  }

  so : (status : ℕ) → IfSome a (IsSalvaged h.datagrams status) → HasSalvaged a b m status n
  so status front = record {
    datagrams = h.datagrams;
    front = front;
    written = h.written;
    counted = h.counted;
  }

  -- the reader has ended
  pub whole : IsAtEnd mid → HasSalvaged a b m 0 n
  whole ends = so 0 (go a mid h.read ends)
    where
      go : (a mid : Option (List ℕ)) → HasRead a mid h.datagrams → IsAtEnd mid
          → IfSome a (IsSalvaged h.datagrams 0)
      go None mid read ends = tt
      go (Some x) None read ends = absurd read.consumed
      go (Some x) (Some y) read ends =
          let end : y ≡ [] = ends in
          let before : List ℕ = frames h.datagrams in
          let all : x ≡ before = read.consumed ∙ ap (λ (l : List ℕ). before ++ l) end ∙ append-nil before in
          inl (record { whole = all; each = read.each }, refl)

  -- no frame follows
  broken_at : (fault : FrameFault) → IfSome mid (IsNoFrame fault) → HasSalvaged a b m 1 n
  broken_at fault none = so 1 (go a mid h.read none)
    where
      go : (a mid : Option (List ℕ)) → HasRead a mid h.datagrams → IfSome mid (IsNoFrame fault)
          → IfSome a (IsSalvaged h.datagrams 1)
      go None mid read none = tt
      go (Some x) None read none = absurd read.consumed
      go (Some x) (Some y) read none =
          inr (
            fault,
            record {
              datagrams = h.datagrams;
              front = frames h.datagrams;
              rest = y;
              framed = record { whole = refl; each = read.each };
              whole = read.consumed;
              stops = none;
            },
            refl,
            refl,
          )

  pub broken : (fault : FrameFault) (new : Option (List ℕ)) (failed : Bool)
      → IsReadFault fault mid new failed → IsBroken fault → HasSalvaged a b m 1 n
  broken CutLength new failed why is = broken_at CutLength why.0
  broken CutDatagram new failed why is = broken_at CutDatagram why.0
  broken TooLong new failed why is = broken_at TooLong why.0
  broken Io new failed why is = absurd (is.0 refl)
  broken NoMemory new failed why is = absurd (is.1 refl)
  broken (NoSuchPlace place) new failed why is = absurd why

-- what is written of them
pub salvaged : (files : Option Files) (r : SalvageRequest) (opened blank contents : Option (List ℕ)) (status count : ℕ) → HasValue files (AStream r.session.now) (Opened opened)
    → HasSalvaged opened blank contents status count → WritesGiven files (Salvage r) (line (codes "kept") (codes " datagrams") count) status blank contents
salvaged files r opened blank contents status count held kept = record {
  bytes = frames kept.datagrams;
  values = Opened opened ∷ [];
  read = (held, tt);
  gives = (kept.datagrams, status, kept.front, (ap (line (codes "kept") (codes " datagrams")) kept.counted, refl, refl));
  gained = kept.written;
}

-- ---- why not

module _ (old new : World) (r : SalvageRequest) (opened : Option (List ℕ)) (sound failed : Bool)
    (input : GivesFile old r.session.now opened sound) where
  because : (f : Fault) → IsUncopied sound failed (unwritten.Fault f)
      → IsBecause old new (Salvage r) [] f
  because (Open n) why = absurd why
  because (File n) why = absurd why
  because Memory why = tt
  because (Frame e) why =
      subst (λ (x : FrameFault). IsBecause old new (Salvage r) [] (Frame x)) (sym why.0)
      (by_refused old new (Salvage r) [] (Frame Io)
      ((is_there old.files r.session.now opened input.bytes, tt), input.fails why.1))
  because (Certificate e) why = absurd why
  because (Fti e) why = absurd why
  because (Send e) why = absurd why
  because (NoPlace n) why = absurd why

  pub because_uncopied : (w : Result ℕ Unwritten) → IfErr w (IsUncopied sound failed) → (f : Fault)
      → w ≡ Err (unwritten.Fault f) → IsBecause old new (Salvage r) [] f
  because_uncopied w why f is =
      because f (subst (λ (x : Result ℕ Unwritten). IfErr x (IsUncopied sound failed)) is why)
