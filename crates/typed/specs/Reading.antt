-- A typed length read from left to right: the digits at the start, what stands after them, and what stands after the separator.
-- ReadingLaws shows that this is the answer that TypedLength asks for; the helpers of src/lib.rt are held to it, step by step.
use Rattle.std.specs.Prelude.{ℕ, ◌≤◌, ◌+◌, ◌-◌, ◌*◌, ◌/◌, ◌^◌, ◌≡◌, List, [], ◌∷◌, length, get_or, drop}
use Rattle.std.proofs.Common.{inl, inr}
use Rattle.std.proofs.Math.Logic.{ite}
use Rattle.std.proofs.Math.Decide.{dec_le, ℕ_discrete}
use Rattle.limits.specs.Limits
use Rattle.text_digits.specs.Decimal.{number}
use Rattle.text_digits.specs.DecimalLaws.{both, digits?, leading}
use Rattle.typed.specs.TypedLength.{CommaOrPoint, NeedlessZero, Typed, Steps, Refused}

unfoldable pub separator? : (c : ℕ) → Dec (CommaOrPoint c)
unfolding ℕ_discrete
separator? c = go (ℕ_discrete c 44) (ℕ_discrete c 46)
  where
    go : Dec (c ≡ 44) → Dec (c ≡ 46) → Dec (CommaOrPoint c)
    go (yes a) (yes b) = yes (inl a)
    go (yes a) (no b) = yes (inl a)
    go (no a) (yes b) = yes (inr b)
    go (no a) (no b) = no λ h. elim h [ inl e ↦ a e | inr e ↦ b e ]

-- from 1 to `most` of them
abbrev pub Few : ℕ → List ℕ → Type 0
Few most ds = (1 ≤ length ds) × (length ds ≤ most)

unfoldable pub few? : (most : ℕ) (ds : List ℕ) → Dec (Few most ds)
unfolding both dec_le
few? most ds = both (dec_le 1 (length ds)) (dec_le (length ds) most)

-- a whole part: few digits, and no needless zero in front of them
abbrev pub Whole : List ℕ → Type 0
Whole ds = Few Limits.whole_digits ds × (NeedlessZero ds → ⊥)

unfoldable pub plain? : (ds : List ℕ) → Dec (NeedlessZero ds → ⊥)
unfolding dec_le ℕ_discrete
plain? ds = go (dec_le 2 (length ds)) (ℕ_discrete (get_or ds 0 0) 48)
  where
    go : Dec (2 ≤ length ds) → Dec (get_or ds 0 0 ≡ 48) → Dec (NeedlessZero ds → ⊥)
    go (yes s) (yes z) = no λ n. n (record { several = s; zero = z })
    go (yes s) (no z) = yes λ h. z h.zero
    go (no s) (yes z) = yes λ h. s h.several
    go (no s) (no z) = yes λ h. s h.several

unfoldable pub whole? : (ds : List ℕ) → Dec (Whole ds)
unfolding both few? plain?
whole? ds = both (few? Limits.whole_digits ds) (plain? ds)

-- hundredths of a millimetre: their steps, or out of range
unfoldable pub judged : ℕ → Typed
unfolding dec_le
judged h = ite (dec_le h Limits.most_hundredths) (Steps ((h * Limits.steps + 99) / 100)) (Refused Limits.length_range)

-- after the separator: digits to the text's end, and few enough
unfoldable pub after_separator : ℕ → List ℕ → Typed
unfolding both digits? few? number judged
after_separator whole t =
    ite (both (digits? t) (few? Limits.part_digits t))
    (judged (whole * 100 + number t * 10 ^ (2 - length t)))
    (Refused Limits.length_form)

-- after the whole digits: nothing, or a separator
unfoldable pub after_whole : ℕ → List ℕ → Typed
unfolding separator? judged after_separator
after_whole whole [] = judged (whole * 100)
after_whole whole (c ∷ t) = ite (separator? c) (after_separator whole t) (Refused Limits.length_form)

unfoldable pub reading : List ℕ → Typed
unfolding leading number whole? after_whole
reading s =
    ite (whole? (leading s))
    (after_whole (number (leading s)) (drop (length (leading s)) s))
    (Refused Limits.length_form)
