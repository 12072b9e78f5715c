-- What a call returns, and what it puts into a buffer.
use Rattle.std.specs.Prelude.{◌≡◌, ℕ, true, List, ◌++◌, length, take, drop}
use Rattle.lists.specs.Selection.{is_among}

-- yes, or done
abbrev pub ok : ℕ
ok = 0

-- the check says no
abbrev pub no : ℕ
no = 1

-- a block is short
abbrev pub missing : ℕ
missing = 2

-- no carrier of the FTI came
abbrev pub empty : ℕ
empty = 3

-- the datagrams are of no object
abbrev pub refused : ℕ
refused = 4

-- the bytes are no session's
abbrev pub no_session : ℕ
no_session = 5

-- the bytes are no certificate's
abbrev pub no_certificate : ℕ
no_certificate = 6

-- the numbers are no FTI
abbrev pub no_fti : ℕ
no_fti = 7

-- no datagram holds the encoding symbol
abbrev pub too_long : ℕ
too_long = 8

-- the buffer is too small
abbrev pub no_room : ℕ
no_room = 9

-- memory is wanting
abbrev pub no_memory : ℕ
no_memory = 10

-- a number is out of its range
abbrev pub out_of_range : ℕ
out_of_range = 11

-- the check says yes, so no block is short
abbrev pub none_short : ℕ
none_short = 12

-- the handle is open already
abbrev pub is_open : ℕ
is_open = 13

-- the handle isn't open
abbrev pub not_open : ℕ
not_open = 14

-- the datagram was accepted, and more are needed
abbrev pub more : ℕ
more = 15

-- the datagram has no FTI, and came before one
abbrev pub early : ℕ
early = 16

-- as many datagrams were accepted as can be counted
abbrev pub full : ℕ
full = 17

-- it is one of these
abbrev pub IsOneOf : List ℕ → ℕ → Type 0
IsOneOf statuses status = is_among statuses status ≡ true

-- the values in front of what a buffer held, as many as there is room for
abbrev pub in_front : {X : Type 0} → List X → List X → List X
in_front xs held = take (length held) xs ++ drop (length xs) held
