use Rattle.clap.specs.Words.{found_of}
use Rattle.request.proofs.Getters.{number_is, number_found}
use Rattle.request.proofs.matched.number.Goals as goal

pub unwrap-requires : goal.unwrap-requires
unwrap-requires g c = number_found g.T.FromStr.from_str_gives (found_of c.args.matches.now) c.args.name.now c.get_one.result c.get_one.ensures.value c.requires

pub returns : goal.returns
returns g c = number_is g.T.FromStr.from_str_gives (found_of c.args.matches.now) c.args.name.now c.get_one.result c.get_one.ensures.value
    c.unwrap.result c.requires c.unwrap.ensures
