use Rattle.clap.specs.Words.{found_of}
use Rattle.request.proofs.Getters.{text_is, text_found}
use Rattle.request.proofs.matched.text.Goals as goal

pub unwrap-requires : goal.unwrap-requires
unwrap-requires c = text_found (found_of c.args.matches.now) c.args.name.now c.get_str.result c.get_str.ensures c.requires

pub returns : goal.returns
returns c = text_is (found_of c.args.matches.now) c.args.name.now c.get_str.result c.unwrap.result c.get_str.ensures c.unwrap.ensures
