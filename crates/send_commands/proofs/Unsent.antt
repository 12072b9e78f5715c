-- Why an object isn't sent or certified, once its output was asked for.
use Rattle.std.proofs.Common.{◌≡◌, ◌≢◌, ◌<◌, ◌⊎◌, ℕ, Bool, false, List, [], Option, Some, None, Result, Err, inl, inr, refl, subst, length}
use Rattle.std.specs.Prelude.{IfErr, IfSome, ⊤}
use Rattle.partition.specs.Fti.{Fti}
use Rattle.encoder.specs.Sending.{most_symbol_bytes}
use Rattle.encoder.specs.declared.sending.SendFault.TheVariants.{SymbolTooLong, Length, Io, NoMemory}
use Rattle.request.specs.declared.requests.CertifyRequest.{CertifyRequest}
use Rattle.request.specs.declared.requests.EncodeRequest.{EncodeRequest}
use Rattle.request.specs.declared.requests.Request.TheVariants.{Certify, Encode}
use Rattle.host.specs.World.{Files, World, Holds, MayFail, Reading, GivesFile, LeavesBytes}
use Rattle.commands.specs.Commands.{sized}
use Rattle.commands.specs.Outcomes.{IsBecause}
use Rattle.commands.specs.declared.fault.Fault.{Fault}
use Rattle.commands.specs.declared.fault.Fault.TheVariants.{Open, File, Memory, Frame, Certificate, Fti as NoFti, Send, NoPlace}
use Rattle.commands.specs.declared.output.Unwritten.{Unwritten}
use Rattle.commands.specs.declared.output.Unwritten.TheVariants as unwritten
use Rattle.commands.proofs.Stopping.{by_unread, by_refused}
use Rattle.commands.proofs.Holding.{is_there}
use Rattle.send_commands.specs.Certifying.{IsUncertified}
use Rattle.send_commands.specs.Sending.{IsUnsentFrom}

-- an object that was read is broken only if reading it is refused
pub broken : (w : World) (name : List ℕ) (f : Fti) (left : Option (List ℕ)) (sound : Bool) → GivesFile w name left sound → LeavesBytes left f.transfer_length
    → IfSome left (λ bytes. length bytes ≢ f.transfer_length) ⊎ (sound ≡ false) → MayFail w (Reading name)
broken w name f left sound given many (inr unsound) = given.fails unsound
broken w name f left sound given many (inl other) = go w.files left given.bytes many other refl
  where
    go : (files : Option Files) (o : Option (List ℕ)) → Holds files name (λ bytes. o ≡ Some bytes) → LeavesBytes o f.transfer_length
        → IfSome o (λ bytes. length bytes ≢ f.transfer_length) → w.files ≡ files → MayFail w (Reading name)
    go None o held many other is = inl is
    go (Some files) None held many other is = absurd (let e = held.2 in cc)
    go (Some files) (Some x) held many other is = absurd (other many)

module _ (old new : World) (r : CertifyRequest) where
  module _ (fti : Fti) (left : Option (List ℕ)) (sound : Bool) (given : GivesFile old r.object.now left sound) (many : LeavesBytes left fti.transfer_length) where
    uncertified : (f : Fault) → IsUncertified fti left sound r.object.now (unwritten.Fault f) → IsBecause old new (Certify r) [] f
    uncertified (Open n) why = absurd why
    uncertified (File n) why = by_unread old new (Certify r) [] (File n) (inl (why.0, broken old r.object.now fti left sound given many why.1))
    uncertified Memory why = tt
    uncertified (Frame e) why = absurd why
    uncertified (Certificate e) why = absurd why
    uncertified (NoFti e) why = absurd why
    uncertified (Send e) why = absurd why
    uncertified (NoPlace n) why = absurd why

    pub because_uncertified : (w : Result ℕ Unwritten) → IfErr w (IsUncertified fti left sound r.object.now) → (f : Fault) → w ≡ Err (unwritten.Fault f)
        → IsBecause old new (Certify r) [] f
    because_uncertified w why f is = uncertified f (subst (λ (x : Result ℕ Unwritten). IfErr x (IsUncertified fti left sound r.object.now)) is why)

module _ (old new : World) (r : EncodeRequest) (fti : Fti) (n : ℕ) (sizes : fti ≡ sized r.sending.sizes n) (there : Holds old.files r.object.now (λ bytes. ⊤)) where
  too_long : most_symbol_bytes < fti.symbol_length → IsBecause old new (Encode r) [] (Send SymbolTooLong)
  too_long long = by_refused old new (Encode r) [] (Send SymbolTooLong) ((there, tt), subst (λ (g : Fti). most_symbol_bytes < g.symbol_length) sizes long)

module _ (old new : World) (r : EncodeRequest) (fti : Fti) (left : Option (List ℕ)) (sound : Bool) (given : GivesFile old r.object.now left sound) (many : LeavesBytes left fti.transfer_length)
    (sizes : fti ≡ sized r.sending.sizes fti.transfer_length) where
  unsent_from : (f : Fault) → IsUnsentFrom fti left sound r.object.now (unwritten.Fault f) → IsBecause old new (Encode r) [] f
  unsent_from (Open n) why = absurd why
  unsent_from (File n) why = by_unread old new (Encode r) [] (File n) (inl (why.0, broken old r.object.now fti left sound given many why.1))
  unsent_from Memory why = tt
  unsent_from (Frame e) why = absurd why
  unsent_from (Certificate e) why = absurd why
  unsent_from (NoFti e) why = absurd why
  unsent_from (Send SymbolTooLong) why = too_long old new r fti fti.transfer_length sizes (is_there old.files r.object.now left given.bytes) why
  unsent_from (Send Length) why = absurd why
  unsent_from (Send Io) why = absurd why
  unsent_from (Send NoMemory) why = absurd why
  unsent_from (NoPlace n) why = absurd why

  pub because_unsent_from : (w : Result ℕ Unwritten) → IfErr w (IsUnsentFrom fti left sound r.object.now) → (f : Fault) → w ≡ Err (unwritten.Fault f) → IsBecause old new (Encode r) [] f
  because_unsent_from w why f is = unsent_from f (subst (λ (x : Result ℕ Unwritten). IfErr x (IsUnsentFrom fti left sound r.object.now)) is why)
