-- THE ANSWER to the pair question on two lent lists of placed corners, as document 01 has it with the gap of W6: the refusals, the verdict, what it carries.
-- No proof stands here: that only witnesses may vary between two answers is in AnswerLaws.
use Rattle.std.specs.Prelude.{◌≡◌, List, [], ◌∷◌, ◌⊎◌, ℕ, suc, ◌≤◌, ℤ, nat_abs, length, take, get_or, Result, Ok, Err}
use Rattle.limits.specs.Limits.{list_length, placed_range, gap_refused, placed_reach, gap_most, direction_reach, done}
use Rattle.limits.specs.Lowest.{Rule, Lowest, ◌when◌}
use Rattle.limits.specs.Numbered.{Numbered}
use Rattle.limits.specs.Refusals.{number_of}
use Rattle.limits.specs.declared.Refusal.{Refusal}
use Rattle.space.specs.declared.Pair.{Pair}
use Rattle.space.specs.declared.Vec3.{Vec3}
use Rattle.space.specs.Vectors.{origin}
use Rattle.space.specs.Ranges.{Upto}
use Rattle.space.specs.Verdicts.{Piece, Below, Supported, Balance, VerdictIs, separate, touching, penetrating}
use Rattle.space.specs.Lists.{LengthFits, InReach}
use Rattle.verdict_walk.specs.NoPairs.{no_pair, no_pairs}
use Rattle.verdict.specs.declared.witnessed.Verdict.{Verdict}
use Rattle.verdict.specs.declared.witnessed.Verdict.TheVariants.{Separate, Touching, Penetrating}

-- 3: "a corner list's length isn't 3 × (1 to 32)", to 64 since W4
abbrev pub BadLength : Piece → Piece → Type 0
BadLength A B = (LengthFits (length A) → ⊥) ⊎ (LengthFits (length B) → ⊥)

-- 20: "a placed corner of a lent list .. beyond ±131,072"
abbrev pub OutOfReach : Piece → Piece → Type 0
OutOfReach A B = (InReach placed_reach A → ⊥) ⊎ (InReach placed_reach B → ⊥)

-- W6: "a gap g of 0 to 4,096 steps"
abbrev pub GapFits : ℤ → Type 0
GapFits gap = Numbered (suc gap_most) gap

-- 24: "gap out of range"
abbrev pub refusals : ℤ → Piece → Piece → List Rule
refusals gap A B = list_length when BadLength A B ∷ placed_range when OutOfReach A B ∷ gap_refused when (GapFits gap → ⊥) ∷ []

-- the answer as document 01 has it: a refusal's number and nothing else, or 0 and the verdict with what it carries
pub record Answer : Type 0 where
  pub number : ℕ
  pub verdict : ℕ
  pub direction : Vec3
  pub count : ℕ
  pub pairs : List Pair

-- the pairs that an answer carries are the first `count` of its four
abbrev pub carried : Answer → List Pair
carried r = take r.count r.pairs

-- "Every other value in the answer is zero"
abbrev pub nothing : ℕ → Answer
nothing n = record { number = n; verdict = 0; direction = origin; count = 0; pairs = no_pairs }

-- "For any answer that is an enum, a definition gives this paper's number and values for each case"
abbrev pub answer_with : Verdict → Answer
answer_with (Separate d) = record { number = done; verdict = separate; direction = d; count = 0; pairs = no_pairs }
answer_with (Touching d p) = record { number = done; verdict = touching; direction = d; count = p.count; pairs = p.pairs }
answer_with (Penetrating p) = record { number = done; verdict = penetrating; direction = origin; count = p.count; pairs = p.pairs }

abbrev pub answer_of : Result Verdict Refusal → Answer
answer_of (Ok v) = answer_with v
answer_of (Err r) = nothing (number_of r)

-- what an answer with a verdict carries, of two pieces with a gap of g: "components within 2^39 in size", and "one to four pairs" where the pieces meet.
-- "Fields that a verdict doesn't carry are zero": of its four pairs every one from `count` on, and with no gap the cube corner of each
pub record Carries (g : ℕ) (A B : Piece) (r : Answer) : Type 0 where
  pub right : VerdictIs g A B r.verdict
  pub small : Upto direction_reach r.direction
  pub parting : r.verdict ≡ separate → Below r.direction g A B
  pub supporting : r.verdict ≡ touching → Supported r.direction g A B
  pub undirected : r.verdict ≡ penetrating → r.direction ≡ origin
  pub unpaired : r.verdict ≡ separate → r.count ≡ 0
  pub paired : (r.verdict ≡ separate → ⊥) → (1 ≤ r.count) × (r.count ≤ 4)
  pub meeting : (r.verdict ≡ separate → ⊥) → Balance g A B (carried r)
  pub four : length r.pairs ≡ 4
  pub rest : (k : ℕ) → r.count ≤ k → get_or r.pairs k no_pair ≡ no_pair
  pub uncubed : g ≡ 0 → (k : ℕ) → (get_or r.pairs k no_pair).cube ≡ 0

-- the whole promise: for every gap and every two lists
pub record Answers (gap : ℤ) (A B : Piece) (r : Answer) : Type 0 where
  pub refusal : Lowest (refusals gap A B) r.number
  pub zeros : (r.number ≡ done → ⊥) → r ≡ nothing r.number
  pub carries : r.number ≡ done → Carries (nat_abs gap) A B r

-- what two answers to one question share: the number and the verdict; a refused answer to its last field;
-- the count and the pairs of separate pieces, and the direction of penetrating ones
pub record OneAnswer (q r : Answer) : Type 0 where
  pub number : q.number ≡ r.number
  pub verdict : q.verdict ≡ r.verdict
  pub refused : (q.number ≡ done → ⊥) → q ≡ r
  pub unpaired : q.verdict ≡ separate → (q.count ≡ r.count) × (q.pairs ≡ r.pairs)
  pub undirected : q.verdict ≡ penetrating → q.direction ≡ r.direction

-- two verdicts of one question are of one kind; what they carry may vary
abbrev pub OneVerdict : Verdict → Verdict → Type 0
OneVerdict (Separate d) (Separate e) = Unit {0}
OneVerdict (Touching d p) (Touching e q) = Unit {0}
OneVerdict (Penetrating p) (Penetrating q) = Unit {0}
OneVerdict v w = ⊥

-- two results of one question: refused, they are one result; else both have a verdict, of one kind
abbrev pub OneResult : Result Verdict Refusal → Result Verdict Refusal → Type 0
OneResult (Ok v) (Ok w) = OneVerdict v w
OneResult (Ok v) (Err r) = ⊥
OneResult (Err r) t = ◌≡◌ {A = Result Verdict Refusal} (Err r) t
