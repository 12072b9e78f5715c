use Rattle.request.proofs.PlaceWords.{ends_of}
use Rattle.request.proofs.places.ends.Goals as goal

pub returns-in-Some : goal.returns-in-Some
returns-in-Some c = rw c.in-Some.is at (ends_of c.args.word.now c.split_once.result c.split_once.ensures.cases)

pub returns-in-None : goal.returns-in-None
returns-in-None c = rw c.in-None.is at (ends_of c.args.word.now c.split_once.result c.split_once.ensures.cases)
