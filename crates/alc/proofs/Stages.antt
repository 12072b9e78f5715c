-- The faults of the fixed part, one after the other.
use Rattle.std.proofs.Common.{◌≡◌, ℕ, ◌+◌, ◌/◌, ◌%◌, ◌<◌, ◌≤◌, ◌⊎◌, inl, inr, List, length, get_or, arith, None, Err}
use Rattle.std.proofs.lemmas.Bool.{cases_lt, cases_eq}
use Rattle.std.proofs.lemmas.Bool.Decides.{nat_tests}
use Rattle.alc.specs.PacketFault.{FaultHolds, rank, s_of, o_of, h_of, fixed_words, header_end, extension_bytes}
use Rattle.alc.specs.declared.fault.PacketFault.{PacketFault}
use Rattle.alc.specs.declared.fault.PacketFault.TheVariants.{TooShort, Version, Psi, Codepoint, NoIdentity, HeaderLength}
use Rattle.alc.specs.Layout.{Passed}
use Rattle.alc.specs.Computed.{read_of, walk, with_extensions}

-- ---- the answer at each fault

value_short : (d : List ℕ) → length d < 4 → read_of d ≡ Err TooShort
unfolding read_of
value_short d short = grind (arith, nat_tests)

value_version : (d : List ℕ) → 4 ≤ length d → (get_or d 0 0 / 16 ≡ 1 → ⊥) → read_of d ≡ Err Version
unfolding read_of
value_version d long wrong = grind (arith, nat_tests)

value_psi : (d : List ℕ) → 4 ≤ length d → get_or d 0 0 / 16 ≡ 1 → (get_or d 0 0 % 4 ≡ 0 → ⊥) → read_of d ≡ Err Psi
unfolding read_of
value_psi d long version wrong = grind (arith, nat_tests)

value_codepoint : (d : List ℕ) → 4 ≤ length d → get_or d 0 0 / 16 ≡ 1 → get_or d 0 0 % 4 ≡ 0 → (get_or d 3 0 ≡ 5 → ⊥) → read_of d ≡ Err Codepoint
unfolding read_of
value_codepoint d long version psi wrong = grind (arith, nat_tests)

value_identity : (d : List ℕ) → 4 ≤ length d → get_or d 0 0 / 16 ≡ 1 → get_or d 0 0 % 4 ≡ 0 → get_or d 3 0 ≡ 5 → ((s_of d + h_of d ≡ 0) ⊎ (o_of d + h_of d ≡ 0)) → read_of d ≡ Err NoIdentity
unfolding read_of
value_identity d long version psi codepoint none = grind (arith, nat_tests)

value_words : (d : List ℕ) → 4 ≤ length d → get_or d 0 0 / 16 ≡ 1 → get_or d 0 0 % 4 ≡ 0 → get_or d 3 0 ≡ 5 → 1 ≤ s_of d + h_of d → 1 ≤ o_of d + h_of d → ((get_or d 2 0 < fixed_words d) ⊎ (length d < header_end d)) → read_of d ≡ Err HeaderLength
unfolding read_of
value_words d long version psi codepoint tsi toi bad = grind (arith, nat_tests)

-- with no fault in the fixed part
pub passed_value : (d : List ℕ) → Passed d → read_of d ≡ with_extensions d (walk (length d) (extension_bytes d) None)
unfolding read_of
passed_value d p = grind (arith, nat_tests, p.long, p.version, p.psi, p.codepoint, p.tsi, p.toi, p.words, p.within)

-- ---- by cases on the first fault

-- what a step does where the answer is this fault
abbrev pub Stop : List ℕ → ℕ → Type 0 → Type 0
Stop d k G = (r : PacketFault) → rank r ≤ k → read_of d ≡ Err r → FaultHolds d r → G

pub past_short : (d : List ℕ) (G : Type 0) → Stop d 1 G → (4 ≤ length d → G) → G
past_short d G stop go =
    elim (cases_lt (length d) 4) [
      | inl short ↦ stop TooShort (omega arith) (value_short d short) short
      | inr long ↦ go long
    ]

pub past_version : (d : List ℕ) (G : Type 0) → Stop d 2 G → (4 ≤ length d → get_or d 0 0 / 16 ≡ 1 → G) → G
past_version d G stop go =
    past_short d G (λ r le. stop r (omega arith)) (λ long.
    elim (cases_eq (get_or d 0 0 / 16) 1) [
      | inr wrong ↦ stop Version (omega arith) (value_version d long wrong) wrong
      | inl is ↦ go long is
    ])

pub past_psi : (d : List ℕ) (G : Type 0) → Stop d 3 G → (4 ≤ length d → get_or d 0 0 / 16 ≡ 1 → get_or d 0 0 % 4 ≡ 0 → G) → G
past_psi d G stop go =
    past_version d G (λ r le. stop r (omega arith)) (λ long version.
    elim (cases_eq (get_or d 0 0 % 4) 0) [
      | inr wrong ↦ stop Psi (omega arith) (value_psi d long version wrong) wrong
      | inl is ↦ go long version is
    ])

pub past_codepoint : (d : List ℕ) (G : Type 0) → Stop d 4 G → (4 ≤ length d → get_or d 0 0 / 16 ≡ 1 → get_or d 0 0 % 4 ≡ 0 → get_or d 3 0 ≡ 5 → G) → G
past_codepoint d G stop go =
    past_psi d G (λ r le. stop r (omega arith)) (λ long version psi.
    elim (cases_eq (get_or d 3 0) 5) [
      | inr wrong ↦ stop Codepoint (omega arith) (value_codepoint d long version psi wrong) wrong
      | inl is ↦ go long version psi is
    ])

pub past_identity : (d : List ℕ) (G : Type 0) → Stop d 5 G → (4 ≤ length d → get_or d 0 0 / 16 ≡ 1 → get_or d 0 0 % 4 ≡ 0 → get_or d 3 0 ≡ 5 → 1 ≤ s_of d + h_of d → 1 ≤ o_of d + h_of d → G) → G
past_identity d G stop go =
    past_codepoint d G (λ r le. stop r (omega arith)) (λ long version psi codepoint.
    elim (cases_eq (s_of d + h_of d) 0) [
      | inl none ↦ stop NoIdentity (omega arith) (value_identity d long version psi codepoint (inl none)) (inl none)
      | inr tsi ↦ elim (cases_eq (o_of d + h_of d) 0) [
        | inl none ↦ stop NoIdentity (omega arith) (value_identity d long version psi codepoint (inr none)) (inr none)
        | inr toi ↦ go long version psi codepoint (omega (arith, tsi)) (omega (arith, toi))
      ]
    ])

pub past_all : (d : List ℕ) (G : Type 0) → Stop d 6 G → (Passed d → G) → G
past_all d G stop go =
    past_identity d G (λ r le. stop r (omega arith)) (λ long version psi codepoint tsi toi.
    elim (cases_lt (get_or d 2 0) (fixed_words d)) [
      | inl few ↦ stop HeaderLength (omega arith) (value_words d long version psi codepoint tsi toi (inl few)) (inl few)
      | inr words ↦ elim (cases_lt (length d) (header_end d)) [
        | inl past ↦ stop HeaderLength (omega arith) (value_words d long version psi codepoint tsi toi (inr past)) (inr past)
        | inr within ↦ go (record { long = long; version = version; psi = psi; codepoint = codepoint; tsi = tsi; toi = toi; words = words; within = within })
      ]
    ])
