-- Room for one ESI more.
use Rattle.std.specs.BTreeMap.{get}
use Rattle.std.specs.Ordering.{nat_cmp}
use Rattle.std.proofs.Common.{◌≡◌, ◌∙◌, ℕ, Some, Result, Ok, Err, OnOk, sym, ap, subst}
use Rattle.shared_lists.specs.SharedLists.{share_of, index_of, HasRoom}
use Rattle.shared_lists.specs.declared.shared_lists.SharedLists.{SharedLists}
use Rattle.receiver.specs.Esis.{HasRoomFor}
use Rattle.receiver.specs.declared.esis.Esis.{Esis}

pub on_ok : {A E : Type 0} (r : Result A E) (P Q : Type 0) → (P → Q) → OnOk r P → OnOk r Q
on_ok (Ok a) P Q f h = f h
on_ok (Err e) P Q f h = tt

pub room_for : (esis : Esis) (b : ℕ) (lists : SharedLists ℕ) (share index : ℕ) → share ≡ share_of esis.sharing b → index ≡ index_of esis.sharing b → get nat_cmp esis.shares share ≡ Some lists → HasRoom lists index
    → HasRoomFor esis b
room_for esis b lists share index at_share at_index is room = record { lists = lists; share = ap (get nat_cmp esis.shares) (sym at_share) ∙ is; room = subst (HasRoom lists) at_index room }
