-- Handles of receivers.
use Rattle.std.specs.Prelude.{◌≡◌, ℕ, Bool, true, false, List, ⊤}
use Rattle.reception.specs.declared.scope.Identity.{Identity}
use Rattle.receiver.specs.Stands.{Stands, IsFed}
use Rattle.alcrs_c.specs.declared.receivers.AlcrsReceiver.{AlcrsReceiver}

-- what is behind the flag: a receiver that was made or fed, or anything
abbrev pub IsBehind : Bool → AlcrsReceiver → Type 0
IsBehind true h = (h.held.full ≡ true) × IsFed h.held.value
IsBehind false h = ⊤

-- a handle that was set to zero, or that the calls have left
abbrev pub IsHandle : AlcrsReceiver → Type 0
IsHandle h = IsBehind h.is_open h

-- the handle is open for this identity's packets, and its receiver stands for these datagrams
pub record IsOpen (h : AlcrsReceiver) (who : Identity) (datagrams : List (List ℕ)) : Type 0 where
  pub opened : h.is_open ≡ true
  pub full : h.held.full ≡ true
  pub identity : h.held.value.receiving.identity ≡ who
  pub stands : Stands h.held.value datagrams
