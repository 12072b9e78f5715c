-- Command lines that are written out: what the grammar reads from them, and why they are refused.
use Rattle.std.proofs.Common.{List, [], ◌∷◌, ◌≡◌, Option, Some, None, codes, option_map, refl}
use Rattle.clap.specs.Words.{App, Text, fault_of, many_of, one_of, subcommand_of}
use Rattle.clap.specs.declared.error.kind.ErrorKind.TheVariants as kind
use Rattle.clap.proofs.OnLiterals.{clap_on_literals}
use Rattle.request.specs.Grammar.{grammar_of}
use Rattle.request.proofs.Reading.{some_orders}

abbrev grammar : App
grammar = grammar_of some_orders

-- the command's name, and the first value of an argument of it
abbrev read : Text → List Text → Option (Text × Option Text)
read name words = option_map (λ found. (found.0, one_of name found.1)) (subcommand_of grammar words)

abbrev check : List Text → List Text
check last = codes "alcrs" ∷ codes "check" ∷ codes "a" ∷ codes "b" ∷ codes "c" ∷ codes "--tsi" ∷ codes "7" ∷ last

check_taken : fault_of grammar (check (codes "--toi=1" ∷ [])) ≡ []
unfolding clap_on_literals
check_taken = refl

check_read : read (codes "CERT") (check (codes "--toi=1" ∷ [])) ≡ Some (codes "check", Some (codes "c"))
unfolding clap_on_literals
check_read = refl

check_toi : read (codes "toi") (check (codes "--toi=1" ∷ [])) ≡ Some (codes "check", Some (codes "1"))
unfolding clap_on_literals
check_toi = refl

-- a picture may be asked for, once
abbrev drawn : List Text
drawn = check (codes "--picture" ∷ codes "d" ∷ codes "--toi=1" ∷ [])

drawn_taken : fault_of grammar drawn ≡ []
unfolding clap_on_literals
drawn_taken = refl

drawn_read : read (codes "picture") drawn ≡ Some (codes "check", Some (codes "d"))
unfolding clap_on_literals
drawn_read = refl

not_drawn_read : read (codes "picture") (check (codes "--toi=1" ∷ [])) ≡ Some (codes "check", None)
unfolding clap_on_literals
not_drawn_read = refl

drawn_twice : fault_of grammar (check (codes "--toi=1" ∷ codes "--picture=d" ∷ codes "--picture=d" ∷ [])) ≡ kind.ArgumentConflict ∷ []
unfolding clap_on_literals
drawn_twice = refl

picture_of_no_check : fault_of grammar (codes "alcrs" ∷ codes "show" ∷ codes "a" ∷ codes "--picture=d" ∷ []) ≡ kind.UnknownArgument ∷ []
unfolding clap_on_literals
picture_of_no_check = refl

toi_missing : fault_of grammar (check []) ≡ kind.MissingRequiredArgument ∷ []
unfolding clap_on_literals
toi_missing = refl

toi_too_great : fault_of grammar (check (codes "--toi=4294967296" ∷ [])) ≡ kind.ValueValidation ∷ []
unfolding clap_on_literals
toi_too_great = refl

abbrev drop : List Text
drop = codes "alcrs" ∷ codes "drop" ∷ codes "a" ∷ codes "b" ∷ codes "3" ∷ codes "0" ∷ []

drop_taken : fault_of grammar drop ≡ []
unfolding clap_on_literals
drop_taken = refl

drop_read : option_map (λ found. many_of (codes "PLACE") found.1) (subcommand_of grammar drop) ≡ Some (Some (codes "3" ∷ codes "0" ∷ []))
unfolding clap_on_literals
drop_read = refl

-- an option may stand anywhere, its value behind `=` or as the next word; the order of sending has
-- a default
abbrev encode : List Text → List Text
encode last = codes "alcrs" ∷ codes "encode" ∷ codes "--tsi=7" ∷ codes "a" ∷ codes "--toi" ∷ codes "1" ∷ codes "b" ∷ codes "--symbol=64"
    ∷ codes "--block=20" ∷ last

encode_taken : fault_of grammar (encode (codes "--max=30" ∷ [])) ≡ []
unfolding clap_on_literals
encode_taken = refl

encode_tsi : read (codes "tsi") (encode (codes "--max=30" ∷ [])) ≡ Some (codes "encode", Some (codes "7"))
unfolding clap_on_literals
encode_tsi = refl

encode_order : read (codes "order") (encode (codes "--max=30" ∷ [])) ≡ Some (codes "encode", Some (codes "blocks"))
unfolding clap_on_literals
encode_order = refl

-- the FTI is in each datagram where it isn't told
encode_carriers : read (codes "fti-every") (encode (codes "--max=30" ∷ [])) ≡ Some (codes "encode", Some (codes "1"))
unfolding clap_on_literals
encode_carriers = refl

encode_some_carriers : read (codes "fti-every") (encode (codes "--max=30" ∷ codes "--fti-every" ∷ codes "255" ∷ [])) ≡ Some (codes "encode", Some (codes "255"))
unfolding clap_on_literals
encode_some_carriers = refl

some_carriers_taken : fault_of grammar (encode (codes "--max=30" ∷ codes "--fti-every=255" ∷ [])) ≡ []
unfolding clap_on_literals
some_carriers_taken = refl

no_carriers : fault_of grammar (encode (codes "--max=30" ∷ codes "--fti-every=0" ∷ [])) ≡ kind.ValueValidation ∷ []
unfolding clap_on_literals
no_carriers = refl

carriers_out_of_range : fault_of grammar (encode (codes "--max=30" ∷ codes "--fti-every=256" ∷ [])) ≡ kind.ValueValidation ∷ []
unfolding clap_on_literals
carriers_out_of_range = refl

carriers_told_twice : fault_of grammar (encode (codes "--max=30" ∷ codes "--fti-every=2" ∷ codes "--fti-every=2" ∷ [])) ≡ kind.ArgumentConflict ∷ []
unfolding clap_on_literals
carriers_told_twice = refl

carriers_of_no_sending : fault_of grammar (check (codes "--toi=1" ∷ codes "--fti-every=2" ∷ [])) ≡ kind.UnknownArgument ∷ []
unfolding clap_on_literals
carriers_of_no_sending = refl

-- a certificate is for the packets of a TSI and TOI
abbrev certify : List Text → List Text
certify last = codes "alcrs" ∷ codes "certify" ∷ codes "a" ∷ codes "b" ∷ codes "--symbol=64" ∷ codes "--block=20" ∷ codes "--max=30" ∷ last

certify_toi : read (codes "toi") (certify (codes "--tsi=7" ∷ codes "--toi=1" ∷ [])) ≡ Some (codes "certify", Some (codes "1"))
unfolding clap_on_literals
certify_toi = refl

certify_for_none : fault_of grammar (certify []) ≡ kind.MissingRequiredArgument ∷ []
unfolding clap_on_literals
certify_for_none = refl

abbrev convert : List Text → List Text
convert last = codes "alcrs" ∷ codes "convert" ∷ codes "a" ∷ codes "b" ∷ codes "--tsi=7" ∷ last

convert_read : read (codes "IN") (convert (codes "--toi=1" ∷ [])) ≡ Some (codes "convert", Some (codes "a"))
unfolding clap_on_literals
convert_read = refl

convert_for_none : fault_of grammar (convert []) ≡ kind.MissingRequiredArgument ∷ []
unfolding clap_on_literals
convert_for_none = refl

out_of_range : fault_of grammar (encode (codes "--max=256" ∷ [])) ≡ kind.ValueValidation ∷ []
unfolding clap_on_literals
out_of_range = refl

no_order : fault_of grammar (encode (codes "--max=30" ∷ codes "--order=columns" ∷ [])) ≡ kind.InvalidValue ∷ []
unfolding clap_on_literals
no_order = refl

option_missing : fault_of grammar (encode []) ≡ kind.MissingRequiredArgument ∷ []
unfolding clap_on_literals
option_missing = refl

no_command : fault_of grammar (codes "alcrs" ∷ []) ≡ kind.DisplayHelpOnMissingArgumentOrSubcommand ∷ []
unfolding clap_on_literals
no_command = refl

help_asked_for : fault_of grammar (codes "alcrs" ∷ codes "show" ∷ codes "--help" ∷ []) ≡ kind.DisplayHelp ∷ []
unfolding clap_on_literals
help_asked_for = refl

version_asked_for : fault_of grammar (codes "alcrs" ∷ codes "--version" ∷ []) ≡ kind.DisplayVersion ∷ []
unfolding clap_on_literals
version_asked_for = refl

version_asked_for_in_short : fault_of grammar (codes "alcrs" ∷ codes "-V" ∷ []) ≡ kind.DisplayVersion ∷ []
unfolding clap_on_literals
version_asked_for_in_short = refl

version_of_a_command : fault_of grammar (codes "alcrs" ∷ codes "show" ∷ codes "--version" ∷ []) ≡ kind.UnknownArgument ∷ []
unfolding clap_on_literals
version_of_a_command = refl

-- a flag of each command, by its name or its letter, and one of each that writes a file
quiet_taken : fault_of grammar (codes "alcrs" ∷ codes "show" ∷ codes "a" ∷ codes "-q" ∷ []) ≡ []
unfolding clap_on_literals
quiet_taken = refl

quiet_read : read (codes "quiet") (codes "alcrs" ∷ codes "show" ∷ codes "--quiet" ∷ codes "a" ∷ []) ≡ Some (codes "show", Some (codes "true"))
unfolding clap_on_literals
quiet_read = refl

not_quiet_read : read (codes "quiet") (check (codes "--toi=1" ∷ [])) ≡ Some (codes "check", Some (codes "false"))
unfolding clap_on_literals
not_quiet_read = refl

both_read : read (codes "no-clobber") (check (codes "--toi=1" ∷ codes "-nq" ∷ [])) ≡ Some (codes "check", Some (codes "true"))
unfolding clap_on_literals
both_read = refl

nothing_to_keep : fault_of grammar (codes "alcrs" ∷ codes "show" ∷ codes "a" ∷ codes "-n" ∷ []) ≡ kind.UnknownArgument ∷ []
unfolding clap_on_literals
nothing_to_keep = refl
