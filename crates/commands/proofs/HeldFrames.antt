-- Frames that are held, and one more.
use Rattle.std.proofs.Common.{◌≡◌, ◌∙◌, ◌++◌, ◌∷◌, [], ℕ, List, Some, sym, ap}
use Rattle.std.specs.Io.KnownBytes.{Appends}
use Rattle.session.specs.Frames.{frame, frames}
use Rattle.session.proofs.Sessions.{frames_push}

pub one_more_held : (old new : List ℕ) (ds : List (List ℕ)) (d : List ℕ) → old ≡ frames ds → Appends (Some old) (Some new) (frame d) → new ≡ frames (ds ++ d ∷ [])
one_more_held old new ds d same more = more ∙ ap (λ (l : List ℕ). l ++ frame d) same ∙ sym (frames_push ds d)
