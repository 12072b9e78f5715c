-- Datagrams that were read into a room.
use Rattle.std.proofs.Common.{◌≡◌, ◌≤◌, ◌+◌, ◌-◌, ℕ, List, Option, take, drop, length, arith, ap, sym, subst, ◌∙◌, length-drop}
use Rattle.std.proofs.lemmas.List.{drop-drop, drop-take, take-take, length-take-le}
use Rattle.streams.specs.Offsets.{StandsAt}
use Rattle.streams.proofs.AtOffsets.{front_stands, rest_stands}
use Rattle.file_decoder.specs.ReadAgain.{IsAmong}
use Rattle.file_decoder.specs.declared.rereading.Place.{Place}

-- a part of what was read at once
pub part_of_run : (content : Option (List ℕ)) (room : List ℕ) (from offset len start : ℕ) (place : Place) → from + len ≤ length room → StandsAt content offset (take len (drop from room))
    → IsAmong from offset len place start → StandsAt content place.offset (take place.length (drop start room))
part_of_run content room from offset len start place within stands w =
    let held : List ℕ = take len (drop from room) in
    let long : length held ≡ len = length-take-le len (drop from room) (omega (arith, within, length-drop from room)) in
    let apart : w.before + (len - w.before) ≡ len = omega (arith, w.ends) in
    let begins : from + w.before ≡ start = sym w.begins in
    let rest : drop w.before held ≡ take (len - w.before) (drop start room) =
    ap (λ (m : ℕ). drop w.before (take m (drop from room))) (sym apart) ∙ drop-take w.before (len - w.before) (drop from room)
    ∙ ap (take (len - w.before)) (drop-drop w.before from room ∙ ap (λ (m : ℕ). drop m room) begins) in
    let front : take place.length (drop w.before held) ≡ take place.length (drop start room) =
    ap (take place.length) rest ∙ take-take place.length (len - w.before) (drop start room) (omega (arith, w.ends)) in
    subst (λ (m : ℕ). StandsAt content m (take place.length (drop start room))) (sym w.offset_is)
    (subst (StandsAt content (offset + w.before)) front
    (front_stands content (offset + w.before) place.length (drop w.before held) (omega (arith, length-drop w.before held, long, w.ends))
    (rest_stands content offset w.before held (omega (arith, long, w.ends)) stands)))

within_front : (n len start : ℕ) (room : List ℕ) → start + len ≤ n → take len (drop start (take n room)) ≡ take len (drop start room)
within_front n len start room few =
    let apart : start + (n - start) ≡ n = omega (arith, few) in
    ap (λ (m : ℕ). take len (drop start (take m room))) (sym apart) ∙ ap (take len) (drop-take start (n - start) room) ∙ take-take len (n - start) (drop start room) (omega (arith, few))

-- what stands before a place stays if all before it does
pub stays_in : (n len start : ℕ) (old new : List ℕ) → start + len ≤ n → take n new ≡ take n old → take len (drop start new) ≡ take len (drop start old)
stays_in n len start old new few same =
    sym (within_front n len start new few) ∙ ap (λ (xs : List ℕ). take len (drop start xs)) same ∙ within_front n len start old few
