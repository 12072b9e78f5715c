-- The identities that a command line can tell.
use Rattle.std.specs.Prelude.{◌<◌, ◌^◌}
use Rattle.reception.specs.declared.scope.Identity.{Identity}

-- a TSI and a TOI of 32 bits
pub record IsNarrow (who : Identity) : Type 0 where
  pub tsi : who.tsi < 2 ^ 32
  pub toi : who.toi < 2 ^ 32
