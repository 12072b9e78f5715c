-- Groups whose members share allocations, as a list of groups.
use Rattle.std.proofs.Common.{◌≡◌, ◌≢◌, ℕ, zero, suc, ◌+◌, ◌-◌, ◌/◌, ◌<◌, ◌≤◌, true, false, ◌==◌, List, [], ◌∷◌, ◌++◌, length, map, get_or, set, refl, sym, ap, ◌∙◌, subst, arith, take, drop, count_by}
use Rattle.std.specs.Prelude.{filter}
use Rattle.std.specs.Global.{Vec}
use Rattle.std.proofs.Math.Nat.{div-mul-le_self}
use Rattle.std.proofs.Math.Seq.{take-suc, get_or-append_seam}
use Rattle.std.proofs.lemmas.Nat.{le-div}
use Rattle.std.proofs.lemmas.Bool.{eqb-true, eqb-false, eq-eqb, ne_eqb}
use Rattle.std.proofs.lemmas.List.{map-append, append-nil, length-map, length-append, length-take-le, take-append-drop, drop_more}
use Rattle.std.proofs.lemmas.List.Sums.{count_by-le-length, length-filter}
use Rattle.std.proofs.lemmas.List.Elements.{filter-append}
use Rattle.shared_lists.specs.SharedLists.{share_of}
use Rattle.shared_lists.specs.declared.sharing.Sharing.{Sharing}
use Rattle.losses.specs.declared.groups.Entry.{Entry}
use Rattle.losses.specs.declared.groups.Member.{Member}
use Rattle.losses.specs.declared.groups.Groups.{Groups}
use Rattle.losses.specs.Members.{has_esi}
use Rattle.losses.specs.Groups.{Group, entries_at, group_at, group_without, groups_from, groups_of, is_of, member_of, members_among, members_in, with_member}

-- ---- entries

pub among_more : (b : ℕ) (es fs : List Entry) → members_among b (es ++ fs) ≡ members_among b es ++ members_among b fs
among_more b es fs = ap (map member_of) (filter-append (is_of b) es fs) ∙ map-append member_of _ _

pub among_own : (b : ℕ) (e : Entry) → e.group ≡ b → members_among b (e ∷ []) ≡ member_of e ∷ []
among_own b e is = rw (eq-eqb e.group b is) refl

pub among_other : (b : ℕ) (e : Entry) → e.group ≢ b → members_among b (e ∷ []) ≡ []
among_other b e ne = rw (ne_eqb e.group b ne) refl

-- one entry more
pub among_next : (b : ℕ) (es : List Entry) (i : ℕ) (d : Entry) → i < length es → members_among b (take (i + 1) es) ≡ members_among b (take i es) ++ members_among b (get_or es i d ∷ [])
among_next b es i d l =
    let e : i + 1 ≡ suc i = omega arith in
    ap (λ (n : ℕ). members_among b (take n es)) e ∙ ap (members_among b) (take-suc es i d l) ∙ among_more b (take i es) (get_or es i d ∷ [])

pub next_own : (b : ℕ) (es : List Entry) (i : ℕ) (d : Entry) → i < length es → (get_or es i d).group ≡ b → members_among b (take (i + 1) es) ≡ members_among b (take i es) ++ member_of (get_or es i d) ∷ []
next_own b es i d l is = among_next b es i d l ∙ ap (λ (qs : List Member). members_among b (take i es) ++ qs) (among_own b (get_or es i d) is)

-- the member of an entry stands behind those of the entries before it
pub own_at : (b : ℕ) (es : List Entry) (i : ℕ) (d : Entry) (q : Member) → i < length es → (get_or es i d).group ≡ b
    → (length (members_among b (take i es)) < length (members_among b es)) × (get_or (members_among b es) (length (members_among b (take i es))) q ≡ member_of (get_or es i d))
own_at b es i d q l is =
    let before : List Member = members_among b (take i es) in
    let own : Member = member_of (get_or es i d) in
    let behind : List Member = members_among b (drop (i + 1) es) in
    let all : members_among b es ≡ before ++ own ∷ behind =
    ap (members_among b) (sym (take-append-drop i es)) ∙ among_more b (take i es) (drop i es)
    ∙ ap (λ (qs : List Member). before ++ qs)
    (ap (members_among b) (drop_more es i d l) ∙ among_more b (get_or es i d ∷ []) (drop (i + 1) es) ∙ ap (λ (qs : List Member). qs ++ behind) (among_own b (get_or es i d) is)) in
    let n = ap (λ (qs : List Member). length qs) all ∙ length-append before (own ∷ behind) in (
      omega (arith, n),
      ap (λ (qs : List Member). get_or qs (length before) q) all ∙ get_or-append_seam before own behind q,
    )

pub next_length : (b : ℕ) (es : List Entry) (i : ℕ) (d : Entry) → i < length es → (get_or es i d).group ≡ b → length (members_among b (take (i + 1) es)) ≡ length (members_among b (take i es)) + 1
next_length b es i d l is =
    ap (λ (qs : List Member). length qs) (next_own b es i d l is)
    ∙ length-append (members_among b (take i es)) (member_of (get_or es i d) ∷ [])

-- copies of a symbol, no more of them than entries
pub copies_up : (b j : ℕ) (es : List Entry) (i : ℕ) → i ≤ length es → count_by (has_esi j) (members_among b (take i es)) ≤ i
copies_up b j es i l =
    let c = count_by-le-length (has_esi j) (members_among b (take i es)) in
    let m = length-map (filter (is_of b) (take i es)) member_of in
    let f = length-filter (is_of b) (take i es) in
    let n = count_by-le-length (is_of b) (take i es) in
    let t = length-take-le i es l in
    omega (arith, c, m, f, n, t)

-- ---- allocations

-- a greater number is in the same allocation, or in a later one
pub share_up : (s : Sharing) (a b : ℕ) → a ≤ b → share_of s a ≤ share_of s b
share_up s a b l =
    let m = div-mul-le_self a s.lists in
    le-div (a / s.lists) b s.lists s.some (omega (arith, l, m))

pub entries_are : (shares : List (Vec Entry)) (a : ℕ) (d : Vec Entry) → a < length shares → entries_at shares a ≡ (get_or shares a d).items
entries_are [] a d l = absurd (omega (arith, l))
entries_are (x ∷ shares) zero d l = refl
entries_are (x ∷ shares) (suc a) d l = entries_are shares a d (omega (arith, l))

-- after a write to one of them
pub entries_set : (shares : List (Vec Entry)) (a : ℕ) (x : Vec Entry) → a < length shares → entries_at (set shares a x) a ≡ x.items
entries_set [] a x l = absurd (omega (arith, l))
entries_set (y ∷ shares) zero x l = refl
entries_set (y ∷ shares) (suc a) x l = entries_set shares a x (omega (arith, l))

pub entries_other : (shares : List (Vec Entry)) (a b : ℕ) (x : Vec Entry) → b ≢ a → entries_at (set shares a x) b ≡ entries_at shares b
entries_other [] a b x ne = refl
entries_other (y ∷ shares) zero zero x ne = absurd (ne refl)
entries_other (y ∷ shares) zero (suc b) x ne = refl
entries_other (y ∷ shares) (suc a) zero x ne = refl
entries_other (y ∷ shares) (suc a) (suc b) x ne = entries_other shares a b x (λ e. ne (ap suc e))

-- one more, which has no entries
pub entries_more : (shares : List (Vec Entry)) (x : Vec Entry) → ((a : ℕ) → entries_at shares a ≡ []) → x.items ≡ [] → (a : ℕ) → entries_at (shares ++ x ∷ []) a ≡ []
entries_more [] x h e zero = e
entries_more [] x h e (suc a) = refl
entries_more (y ∷ shares) x h e zero = h 0
entries_more (y ∷ shares) x h e (suc a) = entries_more shares x (λ a. h (suc a)) e a

-- ---- groups

pub count_from : (f : ℕ → List Member) (b : ℕ) (needs : List ℕ) → length (groups_from f b needs) ≡ length needs
count_from f b [] = refl
count_from f b (n ∷ needs) = ap suc (count_from f (b + 1) needs)

pub need_from : (f : ℕ → List Member) (b : ℕ) (needs : List ℕ) (i d : ℕ) → i < length needs → (group_at (groups_from f b needs) i).need ≡ get_or needs i d
need_from f b [] i d l = absurd (omega (arith, l))
need_from f b (n ∷ needs) zero d l = refl
need_from f b (n ∷ needs) (suc i) d l = need_from f (b + 1) needs i d (omega (arith, l))

pub members_from : (f : ℕ → List Member) (b : ℕ) (needs : List ℕ) (i : ℕ) → i < length needs → (group_at (groups_from f b needs) i).members ≡ f (b + i)
members_from f b [] i l = absurd (omega (arith, l))
members_from f b (n ∷ needs) zero l = ap f (let e : b ≡ b + 0 = omega arith in e)
members_from f b (n ∷ needs) (suc i) l = members_from f (b + 1) needs i (omega (arith, l)) ∙ ap f (let e : b + 1 + i ≡ b + suc i = omega arith in e)

-- as many, with the same members
pub same_from : (f g : ℕ → List Member) (b : ℕ) (needs : List ℕ) → ((i : ℕ) → b ≤ i → f i ≡ g i) → groups_from f b needs ≡ groups_from g b needs
same_from f g b [] h = refl
same_from f g b (n ∷ needs) h =
    ap (λ (ms : List Member). record { need = n; members = ms } ∷ groups_from f (b + 1) needs) (h b (omega arith))
    ∙ ap (λ (gs : List Group). record { need = n; members = g b } ∷ gs) (same_from f g (b + 1) needs (λ i l. h i (omega (arith, l))))

-- they have none
pub without_from : (f : ℕ → List Member) (b : ℕ) (needs : List ℕ) → ((i : ℕ) → f i ≡ []) → groups_from f b needs ≡ map group_without needs
without_from f b [] h = refl
without_from f b (n ∷ needs) h =
    ap (λ (ms : List Member). record { need = n; members = ms } ∷ groups_from f (b + 1) needs) (h b)
    ∙ ap (λ (gs : List Group). group_without n ∷ gs) (without_from f (b + 1) needs h)

-- one has a member more
pub with_from : (f g : ℕ → List Member) (b : ℕ) (needs : List ℕ) (i : ℕ) (q : Member) → i < length needs → g (b + i) ≡ f (b + i) ++ q ∷ [] → ((j : ℕ) → j ≢ b + i → g j ≡ f j)
    → groups_from g b needs ≡ with_member (groups_from f b needs) i q
with_from f g b [] i q l here other = refl
with_from f g b (n ∷ needs) zero q l here other =
    let e : b + 0 ≡ b = omega arith in
    ap (λ (ms : List Member). record { need = n; members = ms } ∷ groups_from g (b + 1) needs) (subst (λ (x : ℕ). g x ≡ f x ++ q ∷ []) e here)
    ∙ ap (λ (gs : List Group). record { need = n; members = f b ++ q ∷ [] } ∷ gs) (same_from g f (b + 1) needs (λ j m. other j (λ h. omega (arith, m, h))))
with_from f g b (n ∷ needs) (suc i) q l here other =
    let e : b + suc i ≡ b + 1 + i = omega arith in
    ap (λ (ms : List Member). record { need = n; members = ms } ∷ groups_from g (b + 1) needs) (other b (λ h. omega (arith, h)))
    ∙ ap (λ (gs : List Group). record { need = n; members = f b } ∷ gs)
    (with_from f g (b + 1) needs i q (omega (arith, l)) (subst (λ (x : ℕ). g x ≡ f x ++ q ∷ []) e here) (λ j ne. other j (λ h. ne (h ∙ e))))

pub count_of : (groups : Groups) → length (groups_of groups) ≡ length groups.needs.items
count_of groups = count_from (members_in groups) 0 groups.needs.items

pub members_of : (groups : Groups) (b : ℕ) → b < length groups.needs.items → (group_at (groups_of groups) b).members ≡ members_in groups b
members_of groups b l = members_from (members_in groups) 0 groups.needs.items b l ∙ ap (members_in groups) (let e : 0 + b ≡ b = omega arith in e)

pub need_of : (groups : Groups) (b d : ℕ) → b < length groups.needs.items → (group_at (groups_of groups) b).need ≡ get_or groups.needs.items b d
need_of groups b d l = need_from (members_in groups) 0 groups.needs.items b d l

-- the allocation in which the members of a group are
pub share_there : (groups : Groups) (b : ℕ) → b < length (groups_of groups) → share_of groups.sharing b < length groups.shares.items
share_there groups b l = groups.shared b (omega (arith, l, count_of groups))

-- ---- a write to the allocation which has the entries of this one's group

module _ (old : Groups) (a : ℕ) (entry : Entry) (x d : Vec Entry) (l : entry.group < length (groups_of old)) (share : a ≡ share_of old.sharing entry.group) (at : d ≡ get_or old.shares.items a d) where
  abbrev entries_now : ℕ → List Entry
  entries_now j = entries_at (set old.shares.items a x) (share_of old.sharing j)

  abbrev written : ℕ → List Member
  written j = members_among j (entries_now j)

  there : a < length old.shares.items
  there = let s = share_there old entry.group l in omega (arith, share, s)

  -- what they are now of those that were there
  here : (j : ℕ) (more : List Entry) → x.items ≡ d.items ++ more → share_of old.sharing j ≡ a → written j ≡ members_in old j ++ members_among j more
  here j more is e =
      ap (members_among j)
      (ap (entries_at (set old.shares.items a x)) e ∙ entries_set old.shares.items a x there ∙ is
      ∙ ap (λ (v : Vec Entry). v.items ++ more) at
      ∙ ap (λ (es : List Entry). es ++ more) (sym (entries_are old.shares.items a d there) ∙ ap (entries_at old.shares.items) (sym e)))
      ∙ among_more j (entries_at old.shares.items (share_of old.sharing j)) more

  elsewhere : (j : ℕ) → share_of old.sharing j ≢ a → written j ≡ members_in old j
  elsewhere j ne = ap (members_among j) (entries_other old.shares.items a (share_of old.sharing j) x ne)

  -- unchanged where none of what is new is of the group
  unchanged : (j : ℕ) (more : List Entry) → x.items ≡ d.items ++ more → members_among j more ≡ [] → written j ≡ members_in old j
  unchanged j more is none =
      elim (share_of old.sharing j == a) as (λ v. (share_of old.sharing j == a) ≡ v → written j ≡ members_in old j) [
        | true ↦ λ e. here j more is (eqb-true (share_of old.sharing j) a e) ∙ ap (λ (qs : List Member). members_in old j ++ qs) none ∙ append-nil (members_in old j)
        | false ↦ λ e. elsewhere j (eqb-false (share_of old.sharing j) a e)
      ] refl

  pub put_in : x.items ≡ d.items ++ entry ∷ [] → groups_from written 0 old.needs.items ≡ with_member (groups_of old) entry.group (member_of entry)
  put_in is =
      let e : 0 + entry.group ≡ entry.group = omega arith in
      with_from (members_in old) written 0 old.needs.items entry.group (member_of entry) (omega (arith, l, count_of old))
      (subst (λ (y : ℕ). written y ≡ members_in old y ++ member_of entry ∷ []) (sym e)
      (here entry.group (entry ∷ []) is (sym share) ∙ ap (λ (qs : List Member). members_in old entry.group ++ qs) (among_own entry.group entry refl)))
      (λ j ne. unchanged j (entry ∷ []) is (among_other j entry (λ h. ne (sym h ∙ sym e))))

  pub not_put_in : x.items ≡ d.items → groups_from written 0 old.needs.items ≡ groups_of old
  not_put_in same =
      same_from written (members_in old) 0 old.needs.items
      (λ j m. unchanged j [] (same ∙ sym (append-nil d.items)) refl)

-- ---- new groups

-- the allocations go as far as that of the last group
pub share_made : (s : Sharing) (n count : ℕ) → count ≡ share_of s (n - 1) + 1 → (b : ℕ) → b < n → share_of s b < count
share_made s n count is b l = let up = share_up s b (n - 1) (omega (arith, l)) in omega (arith, is, up)

-- ---- one member more

pub count_with : (groups : List Group) (b : ℕ) (q : Member) → length (with_member groups b q) ≡ length groups
count_with [] b q = refl
count_with (g ∷ groups) zero q = refl
count_with (g ∷ groups) (suc b) q = ap suc (count_with groups b q)

pub need_with : (groups : List Group) (b : ℕ) (q : Member) (a : ℕ) → (group_at (with_member groups b q) a).need ≡ (group_at groups a).need
need_with [] b q a = refl
need_with (g ∷ groups) zero q zero = refl
need_with (g ∷ groups) zero q (suc a) = refl
need_with (g ∷ groups) (suc b) q zero = refl
need_with (g ∷ groups) (suc b) q (suc a) = need_with groups b q a

pub members_with : (groups : List Group) (b : ℕ) (q : Member) → b < length groups → (group_at (with_member groups b q) b).members ≡ (group_at groups b).members ++ q ∷ []
members_with [] b q l = absurd (omega (arith, l))
members_with (g ∷ groups) zero q l = refl
members_with (g ∷ groups) (suc b) q l = members_with groups b q (omega (arith, l))

pub others_with : (groups : List Group) (b : ℕ) (q : Member) (a : ℕ) → a ≢ b → (group_at (with_member groups b q) a).members ≡ (group_at groups a).members
others_with [] b q a ne = refl
others_with (g ∷ groups) zero q zero ne = absurd (ne refl)
others_with (g ∷ groups) zero q (suc a) ne = refl
others_with (g ∷ groups) (suc b) q zero ne = refl
others_with (g ∷ groups) (suc b) q (suc a) ne = others_with groups b q a (λ e. ne (ap suc e))
