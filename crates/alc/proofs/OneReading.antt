-- One reading.
use Rattle.std.proofs.Common.{◌≡◌, ℕ, ◌+◌, ◌<◌, ◌≤◌, ◌⊎◌, inl, inr, false, true, List, [], ◌∷◌, ◌++◌, length, take, drop, arith, refl, ap, sym, subst, ◌∙◌, Option, Some, None, Result, Ok, Err, append_assoc}
use Rattle.std.specs.Prelude.{count_by, IfSome}
use Rattle.std.specs.List.{list_all, list_any}
use Rattle.std.proofs.lemmas.Bool.{cases_Bool, or_right, or_left}
use Rattle.std.proofs.lemmas.List.{append-nil, length-take, length-drop}
use Rattle.lists.specs.Bytes.{AreBytes}
use Rattle.partition.specs.Fti.{Fti, IsValidFti}
use Rattle.alc.specs.Packet.{IsPacket, is_other, joined, extensions, fti_extension}
use Rattle.partition.specs.FtiFault.{fti_fault}
use Rattle.partition.specs.declared.FtiError.{FtiError}
use Rattle.alc.specs.PacketFault.{FaultHolds, StopsAt, AreSound, WalkEnds, Carries, CarriesValid, HasFields, is_fti, rank, extension_bytes}
use Rattle.alc.specs.declared.fault.PacketFault.{PacketFault}
use Rattle.alc.specs.declared.fault.PacketFault.TheVariants.{TooShort, Version, Psi, Codepoint, NoIdentity, HeaderLength, Extension, FtiLength, TwoFti, FtiValue, PayloadLength}
use Rattle.alc.specs.Computed.{read_of, walk, with_extensions, with_fti, with_payload, has_payload, fti_in, part}
use Rattle.alc.specs.Reading.{Reading}
use Rattle.alc.proofs.Walks.{Walked, walk_says, walked_is, seen_after, Stops}
use Rattle.alc.proofs.Chosen.{Chosen, find, all_others, seen_nothing, seen_none, seen_one, same_self}
use Rattle.alc.proofs.Bytes.{AreBytes-part, AreBytes-inside, length-part}
use Rattle.partition.proofs.Faults.{no_fault_valid}
use Rattle.alc.proofs.FtiFields.{fti_again, extension_again, has_fields}
use Rattle.alc.specs.Layout.{Passed}
use Rattle.alc.proofs.Stages.{Stop, past_short, past_version, past_psi, past_codepoint, past_identity, past_all, passed_value}
use Rattle.alc.proofs.Payloads.{is_payload, not_payload, payload_isnt}
use Rattle.alc.proofs.Built.{built, form_of}
use Rattle.std.specs.Str.{bytes_eq as same}

abbrev pub Says : List ℕ → Reading → Type 0
Says d (Ok p) = IsPacket d p
Says d (Err q) = FaultHolds d q

sound_front : (rest : List ℕ) (r : Result (Option (List ℕ)) PacketFault) (w : Walked rest None r) → AreSound w.es
sound_front rest r w = record { each = w.each; one = omega (arith, w.few) }

walk_ends : (d : List ℕ) (out : Option (List ℕ)) (w : Walked (extension_bytes d) None (Ok out)) → WalkEnds d w.es
walk_ends d out w = (w.whole ∙ ap (λ (x : List ℕ). joined w.es ++ x) w.ends.0 ∙ append-nil (joined w.es), sound_front (extension_bytes d) (Ok out) w)

stops_at : (d : List ℕ) (q : PacketFault) (w : Walked (extension_bytes d) None (Err q)) → StopsAt d w.es w.left
stops_at d q w = record { whole = w.whole; front = sound_front (extension_bytes d) (Err q) w; some = w.ends.0 }

pub joined_around : (before : List (List ℕ)) (e : List ℕ) (behind : List (List ℕ)) → joined (before ++ e ∷ behind) ≡ joined before ++ (e ++ joined behind)
joined_around [] e behind = refl
joined_around (x ∷ before) e behind = ap (λ (y : List ℕ). x ++ y) (joined_around before e behind) ∙ sym (append_assoc x (joined before) (e ++ joined behind))

pub joined_both : (before behind : List (List ℕ)) → joined (before ++ behind) ≡ joined before ++ joined behind
joined_both [] behind = refl
joined_both (x ∷ before) behind = ap (λ (y : List ℕ). x ++ y) (joined_both before behind) ∙ sym (append_assoc x (joined before) (joined behind))

pub any_around : (x : List ℕ) (before : List (List ℕ)) (e : List ℕ) (behind : List (List ℕ)) → x ≡ e → list_any (same x) (before ++ e ∷ behind) ≡ true
any_around x [] e behind h = or_left _ _ (subst (λ (y : List ℕ). same x y ≡ true) h (same_self x))
any_around x (y ∷ before) e behind h = or_right _ _ (any_around x before e behind h)

-- the extensions carry this, and nothing is wrong with it
with_valid : (d : List ℕ) (es : List (List ℕ)) (fti : Option Fti) (before behind : List (List ℕ)) → AreBytes d → Passed d → WalkEnds d es → CarriesValid es fti → IfSome fti IsValidFti → extension_bytes d ≡ extensions (form_of d before behind) fti → list_all is_other before ≡ true → list_all is_other behind ≡ true
    → Says d (with_payload d fti)
with_valid d es fti before behind bytes passed ends carries valid exts hb ha =
    elim (cases_Bool (has_payload d fti)) [
      | inl t ↦ rw t (built d fti before behind bytes passed exts hb ha valid (is_payload d fti t))
      | inr f ↦ rw f (es, fti, ends, carries, not_payload d fti f)
    ]

with_fault : (d : List ℕ) (es : List (List ℕ)) (f : Fti) (before behind : List (List ℕ)) → AreBytes d → Passed d → WalkEnds d es → Carries es f → extension_bytes d ≡ extensions (form_of d before behind) (Some f) → list_all is_other before ≡ true → list_all is_other behind ≡ true
    → (o : Option FtiError) → fti_fault f ≡ o → Says d (with_fti d f o)
with_fault d es f before behind bytes passed ends carries exts hb ha (Some x) e = (es, f, ends, carries, e)
with_fault d es f before behind bytes passed ends carries exts hb ha None e =
    with_valid d es (Some f) before behind bytes passed ends (carries, e) (no_fault_valid f carries.0.symbol_below carries.0.max_below e) exts hb ha

after_chosen : (d : List ℕ) (es : List (List ℕ)) (content : List ℕ) → AreBytes d → Passed d → WalkEnds d es → Chosen es content → Says d (with_fti d (fti_in content) (fti_fault (fti_in content)))
after_chosen d es content bytes passed ends c =
    let around : extension_bytes d ≡ joined c.before ++ (c.e ++ joined c.behind) = ends.0 ∙ ap joined c.split ∙ joined_around c.before c.e c.behind in
    let bytes_e : AreBytes c.e = AreBytes-inside (joined c.before) c.e (joined c.behind) (extension_bytes d) around (AreBytes-part _ _ d bytes) in
    let ten : length content ≡ 10 = ap length (sym c.is) ∙ length-part 2 10 c.e (omega (arith, c.twelve)) in
    let bytes_c : AreBytes content = subst (λ (x : List ℕ). AreBytes x) c.is (AreBytes-part 2 10 c.e bytes_e) in
    let fields : HasFields (fti_in content) = has_fields content ten bytes_c in
    let spelled_e : fti_extension (fti_in content) ≡ c.e = ap (λ (x : List ℕ). fti_extension (fti_in x)) (sym c.is) ∙ extension_again c.e c.extension c.fti c.twelve bytes_e in
    let carries : Carries es (fti_in content) = (fields, subst (λ (x : List (List ℕ)). list_any (same (fti_extension (fti_in content))) x ≡ true) (sym c.split) (any_around (fti_extension (fti_in content)) c.before c.e c.behind spelled_e)) in
    let exts : extension_bytes d ≡ extensions (form_of d c.before c.behind) (Some (fti_in content)) = around ∙ sym (append_assoc (joined c.before) c.e (joined c.behind)) ∙ ap (λ (x : List ℕ). joined c.before ++ x ++ joined c.behind) (sym spelled_e) in
    with_fault d es (fti_in content) c.before c.behind bytes passed ends carries exts c.others_before c.others_behind (fti_fault (fti_in content)) refl

-- they carry no FTI
after_none : (d : List ℕ) (es : List (List ℕ)) → AreBytes d → Passed d → WalkEnds d es → count_by is_fti es ≡ 0 → Says d (with_payload d None)
after_none d es bytes passed ends none =
    with_valid d es None es [] bytes passed ends none tt (ends.0 ∙ sym (append-nil (joined es)) ∙ sym (append-nil (joined es ++ []))) (all_others es ends.1.each none) refl

after_walk : (d : List ℕ) → AreBytes d → Passed d → (r : Result (Option (List ℕ)) PacketFault) → Walked (extension_bytes d) None r → Says d (with_extensions d r)
after_walk d bytes passed (Err Extension) w = (w.es, w.left, stops_at d Extension w, w.ends.1)
after_walk d bytes passed (Err FtiLength) w = (w.es, w.left, stops_at d FtiLength w, w.ends.1)
after_walk d bytes passed (Err TwoFti) w =
    (w.es, w.left, stops_at d TwoFti w, (w.ends.1.0, w.ends.1.1, w.ends.1.2, omega (arith, w.ends.1.3), w.ends.1.4))
after_walk d bytes passed (Err q) w = absurd w.ends.1
after_walk d bytes passed (Ok None) w = after_none d w.es bytes passed (walk_ends d None w) (seen_nothing w.es w.each (sym w.ends.1))
after_walk d bytes passed (Ok (Some content)) w =
    after_chosen d w.es content bytes passed (walk_ends d (Some content) w) (find w.es content w.each (omega (arith, w.few)) (sym w.ends.1))

few : (n m : ℕ) (d : List ℕ) → length (take n (drop m d)) ≤ length d
few n m d = omega (arith, length-take n (drop m d), length-drop m d)

pub extension_bytes_few : (d : List ℕ) → length (extension_bytes d) ≤ length d
extension_bytes_few d = few _ _ d

-- what the reader answers is so
pub says : (d : List ℕ) → AreBytes d → Says d (read_of d)
says d bytes =
    past_all d (Says d (read_of d))
    (λ r le e h. subst (λ (x : Reading). Says d x) (sym e) h)
    (λ passed. subst (λ (x : Reading). Says d x) (sym (passed_value d passed)) (after_walk d bytes passed (walk (length d) (extension_bytes d) None) (walk_says (length d) (extension_bytes d) None (extension_bytes_few d))))

-- ---- a fault that holds is found, or one before it

-- the reader answers this fault or an earlier one
abbrev pub Hits : List ℕ → PacketFault → Type 0
Hits d q = (r : PacketFault) × (read_of d ≡ Err r) × FaultHolds d r × ((rank r < rank q) ⊎ (r ≡ q))

-- what a walk answers, the fixed part passed
hits_walk : (d : List ℕ) (q : PacketFault) (r : Result (Option (List ℕ)) PacketFault) → 6 < rank q → FaultHolds d q → Walked (extension_bytes d) None r → with_extensions d r ≡ Err q → Hits d q
hits_walk d q r late holds w is =
    past_all d (Hits d q) (λ x le e h. (x, e, h, inl (omega (arith, le, late))))
    (λ passed. (q, passed_value d passed ∙ ap (with_extensions d) (walked_is (length d) (extension_bytes d) None r (extension_bytes_few d) w) ∙ is, holds, inr refl))

walked_stop : (d : List ℕ) (q : PacketFault) (es : List (List ℕ)) (rest : List ℕ) → StopsAt d es rest → Stops q (0 + count_by is_fti es) rest → Walked (extension_bytes d) None (Err q)
walked_stop d q es rest s stops =
    record { es = es; left = rest; whole = s.whole; each = s.front.each; few = omega (arith, s.front.one); ends = (s.some, stops) }

pub walked_end : (d : List ℕ) (es : List (List ℕ)) (out : Option (List ℕ)) → WalkEnds d es → out ≡ seen_after es None → Walked (extension_bytes d) None (Ok out)
walked_end d es out ends is =
    record { es = es; left = []; whole = ends.0 ∙ sym (append-nil (joined es)); each = ends.1.each; few = omega (arith, ends.1.one); ends = (refl, is) }

carried : (d : List ℕ) (es : List (List ℕ)) (f : Fti) → WalkEnds d es → Carries es f → Walked (extension_bytes d) None (Ok (Some (part 2 10 (fti_extension f))))
carried d es f ends carries = walked_end d es _ ends (sym (seen_one es (fti_extension f) refl ends.1.one carries.1))

pub value_of : (d : List ℕ) (f : Fti) (o : Option FtiError) → HasFields f → fti_fault f ≡ o → with_extensions d (Ok (Some (part 2 10 (fti_extension f)))) ≡ with_fti d f o
value_of d f o h e = ap (λ (x : Fti). with_fti d x (fti_fault x)) (fti_again f h) ∙ ap (with_fti d f) e

by_rank : (q r : PacketFault) → rank q ≤ 6 → rank r ≤ rank q → (rank r < rank q) ⊎ (r ≡ q)
by_rank TooShort TooShort small le = inr refl
by_rank Version Version small le = inr refl
by_rank Psi Psi small le = inr refl
by_rank Codepoint Codepoint small le = inr refl
by_rank NoIdentity NoIdentity small le = inr refl
by_rank HeaderLength HeaderLength small le = inr refl
by_rank q r small le = inl (omega arith)

found : (d : List ℕ) (q : PacketFault) → rank q ≤ 6 → Stop d (rank q) (Hits d q)
found d q small r le e h = (r, e, h, by_rank q r small le)

pub hits : (d : List ℕ) (q : PacketFault) → FaultHolds d q → Hits d q
hits d TooShort h = past_short d (Hits d TooShort) (found d TooShort (omega arith)) (λ long. absurd (omega (arith, long, h)))
hits d Version h = past_version d (Hits d Version) (found d Version (omega arith)) (λ long is. absurd (h is))
hits d Psi h = past_psi d (Hits d Psi) (found d Psi (omega arith)) (λ long a is. absurd (h is))
hits d Codepoint h = past_codepoint d (Hits d Codepoint) (found d Codepoint (omega arith)) (λ long a b is. absurd (h is))
hits d NoIdentity (inl h) = past_identity d (Hits d NoIdentity) (found d NoIdentity (omega arith)) (λ long a b c tsi toi. absurd (omega (arith, tsi, h)))
hits d NoIdentity (inr h) = past_identity d (Hits d NoIdentity) (found d NoIdentity (omega arith)) (λ long a b c tsi toi. absurd (omega (arith, toi, h)))
hits d HeaderLength (inl h) = past_all d (Hits d HeaderLength) (found d HeaderLength (omega arith)) (λ passed. absurd (omega (arith, passed.words, h)))
hits d HeaderLength (inr h) = past_all d (Hits d HeaderLength) (found d HeaderLength (omega arith)) (λ passed. absurd (omega (arith, passed.within, h)))
hits d Extension (es, rest, s, stops) = hits_walk d Extension (Err Extension) (omega arith) (es, rest, s, stops) (walked_stop d Extension es rest s stops) refl
hits d FtiLength (es, rest, s, stops) = hits_walk d FtiLength (Err FtiLength) (omega arith) (es, rest, s, stops) (walked_stop d FtiLength es rest s stops) refl
hits d TwoFti (es, rest, s, stops) = hits_walk d TwoFti (Err TwoFti) (omega arith) (es, rest, s, stops) (walked_stop d TwoFti es rest s (stops.0, stops.1, stops.2, omega (arith, stops.3), stops.4)) refl
hits d (FtiValue x) (es, f, ends, carries, e) = hits_walk d (FtiValue x) (Ok (Some (part 2 10 (fti_extension f)))) (omega arith) (es, f, ends, carries, e) (carried d es f ends carries) (value_of d f (Some x) carries.0 e)
hits d PayloadLength (es, None, ends, none, wrong) =
    let t : has_payload d None ≡ false = payload_isnt d None wrong in
    hits_walk d PayloadLength (Ok None) (omega arith) (es, None, ends, none, wrong) (walked_end d es None ends (sym (seen_none es None none))) (rw t refl)
hits d PayloadLength (es, Some f, ends, carries, wrong) =
    let t : has_payload d (Some f) ≡ false = payload_isnt d (Some f) wrong in
    hits_walk d PayloadLength (Ok (Some (part 2 10 (fti_extension f)))) (omega arith) (es, Some f, ends, carries, wrong) (carried d es f ends carries.0) (value_of d f None carries.0.0 carries.1 ∙ (rw t refl))
