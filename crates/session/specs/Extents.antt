-- Where datagrams stand in a session file.
use Rattle.std.specs.Prelude.{ℕ, List, Option, IfSome, take, drop}
use Rattle.session.specs.Frames.{IsFramed, AreDatagrams}
use Rattle.session.specs.declared.extent.Extent.{Extent}

-- the datagram at an extent of the file's bytes
abbrev pub datagram_in : List ℕ → Extent → List ℕ
datagram_in x e = take e.length (drop e.offset x)

-- all bytes of the file are frames of datagrams
abbrev pub AreFrames : Option (List ℕ) → Type 0
AreFrames content = IfSome content
    (λ x. (datagrams : List (List ℕ)) × IsFramed datagrams x × AreDatagrams datagrams)
