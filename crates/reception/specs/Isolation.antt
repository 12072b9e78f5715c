-- What a list of datagrams says of one object isn't disturbed by others' packets: it is what the
-- identity's part of the list says, with the places of the whole list.
use Rattle.std.specs.Prelude.{ℕ, List, map, slice_index}
use Rattle.lists.specs.Selection.{chosen}
use Rattle.alc.specs.Reading.{Reading}
use Rattle.reception.specs.declared.scope.Identity.{Identity}
use Rattle.reception.specs.Reception.{counted}
use Rattle.reception.specs.Answer.{Answer, Empty, Fault, NotCode, Missing, Object, IsAnswer}

-- the places of the readings that count: the identity's packets, and what is no packet
abbrev pub places_of : Identity → List Reading → List ℕ
places_of who rs = map (λ x. x.place) (counted who rs)

-- an answer with these places in place of those counted from 0
abbrev pub put_back : List ℕ → Answer → Answer
put_back places Empty = Empty
put_back places (Fault i wrong) = Fault (slice_index places i) wrong
put_back places (NotCode b) = NotCode b
put_back places (Missing b have need) = Missing b have need
put_back places (Object object) = Object object

-- the answer to the datagrams at these places is the answer to the whole, with the places put back
abbrev pub IsIsolated : Identity → List (List ℕ) → List Reading → Type 0
IsIsolated who ds rs =
    (a : Answer) → IsAnswer who (chosen ds (places_of who rs)) a
    → IsAnswer who ds (put_back (places_of who rs) a)
