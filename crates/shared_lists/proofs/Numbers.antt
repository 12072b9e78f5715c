-- Lists of different numbers are different ones.
use Rattle.std.proofs.Common.{◌≡◌, ◌≢◌, ℕ, ◌+◌, ◌*◌, sym, ap₂, ◌∙◌}
use Rattle.std.proofs.Math.Nat.{div-add-mod}
use Rattle.std.proofs.lemmas.Nat.{div-add-mod'}
use Rattle.shared_lists.specs.SharedLists.{share_of, index_of}
use Rattle.shared_lists.specs.declared.sharing.Sharing.{Sharing}

-- a number by its allocation's and its index there
pub parts : (s : Sharing) (n : ℕ) → share_of s n * s.lists + index_of s n ≡ n
parts s n = div-add-mod' n s.lists

-- two that share an allocation have different indices there
pub apart : (s : Sharing) (a b : ℕ) → a ≢ b → share_of s a ≡ share_of s b → index_of s a ≢ index_of s b
apart s a b ne share index =
    ne (sym (div-add-mod a s.lists) ∙ ap₂ (λ (q r : ℕ). s.lists * q + r) share index ∙ div-add-mod b s.lists)
