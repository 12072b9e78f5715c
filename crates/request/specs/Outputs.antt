-- What a request writes.
use Rattle.std.specs.Prelude.{Option, Some, None, option_map}
use Rattle.request.specs.declared.requests.Output.{Output}
use Rattle.request.specs.declared.requests.Request.{Request}
use Rattle.request.specs.declared.requests.Request.TheVariants.{Check, Twin, Show, Encode, Certify}
use Rattle.request.specs.declared.requests.Request.TheVariants.{Convert, Decode, Follow, Drop}
use Rattle.request.specs.declared.requests.Request.TheVariants.{Salvage, Join}

-- the file that a request writes, if it writes one
abbrev pub output_of : Request → Option Output
output_of (Check r) =
    option_map (λ name. record { name = name; no_clobber = r.no_clobber }) r.picture
output_of (Twin r) = Some r.output
output_of (Show r) = None
output_of (Encode r) = Some r.output
output_of (Certify r) = Some r.output
output_of (Convert r) = Some r.output
output_of (Decode r) = Some r.output
output_of (Follow r) = Some r.output
output_of (Drop r) = Some r.output
output_of (Salvage r) = Some r.output
output_of (Join r) = Some r.output
