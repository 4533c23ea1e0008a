-- Laws of a line that is too long for the buffer in which it was kept: it is answered by its first bytes as the whole of it would be.
-- Such a line is passed over or no command, and which of the two it is its first byte says.
use Rattle.std.specs.Prelude.{ℕ, ◌+◌, ◌≤◌, ◌<◌, ◌≡◌, List, Bool, ℤ, length, get_or, take}
use Rattle.std.proofs.Common.{sym, ap, ◌∙◌, subst, arith, length-take, take_all, get_or-take}
use Rattle.std.proofs.Math.Decide.{ℕ_discrete, dec_le}
use Rattle.line_command.specs.Lines.{PassedOver, LineSays}
use Rattle.line_command.specs.LineLaws.{passed_first, passed_is}
use Rattle.line_command.specs.declared.Line.{Line}
use Rattle.line_command.specs.declared.Line.TheVariants.{Other}
use Rattle.line_command.specs.declared.Other.{Other as OtherLine}
use Rattle.line_command.specs.declared.Other.TheVariants.{Nothing, Unknown}
use Rattle.line_input.specs.Input.{bare, held_bytes, Holds}
use Rattle.line_input.proofs.InputLaws.{bare_long, bare_first}
use Rattle.line_answer.specs.Answered.{Kept, marks_lent, ByLine, Answered}
use Rattle.line_answer.specs.AnsweredLaws.{answered_other}

module _ (part : List ℕ) (n : ℕ) (enough : held_bytes ≤ n) (longer : n < length part) where
  abbrev front : List ℕ
  front = take n part

  front_long : length front ≡ n
  front_long = omega (arith, length-take n part, longer)

  first-same : get_or (bare front) 0 0 ≡ get_or (bare part) 0 0
  first-same = bare_first front (omega (arith, front_long, enough)) ∙ get_or-take n part 0 0 (omega (arith, enough)) ∙ sym (bare_first part (omega (arith, enough, longer)))

  passes : (s t : List ℕ) → 0 < length s → 0 < length t → get_or s 0 0 ≡ get_or t 0 0 → PassedOver s → PassedOver t
  passes s t a b e p = passed_first t b (sym e ∙ passed_is s a p)

  long-front : held_bytes ≤ length (bare front) + 1
  long-front = omega (arith, bare_long front, front_long, enough)

  long_part : held_bytes ≤ length (bare part) + 1
  long_part = omega (arith, bare_long part, longer, enough)

  to_part : PassedOver (bare front) → PassedOver (bare part)
  to_part = passes (bare front) (bare part) (omega (arith, long-front)) (omega (arith, long_part)) first-same

  to_front : PassedOver (bare part) → PassedOver (bare front)
  to_front = passes (bare part) (bare front) (omega (arith, long_part)) (omega (arith, long-front)) (sym first-same)

  says_longer : {room exit : List ℤ} {c : Line} → LineSays (bare front) room exit c → LineSays (bare part) room exit c
  says_longer h = record {
    passed = λ p. h.passed (to_front p);
    too_long = λ f l. h.too_long (λ p. f (to_part p)) (λ k. omega (arith, k, long-front));
    is_read = λ l. absurd (omega (arith, l, long_part));
  }

  -- such a line is passed over, or no command
  other_line : {room exit : List ℤ} {c : Line} → LineSays (bare front) room exit c → (other : OtherLine) × (c ≡ Other other)
  other_line {c = c} h = go (ℕ_discrete (get_or (bare front) 0 0) 35)
    where
      go : Dec (get_or (bare front) 0 0 ≡ 35) → (other : OtherLine) × (c ≡ Other other)
      go (yes e) = (Nothing, h.passed (passed_first (bare front) (omega (arith, long-front)) e))
      go (no f) = (Unknown, h.too_long (λ p. f (passed_is (bare front) (omega (arith, long-front)) p)) (λ k. omega (arith, k, long-front)))

  answered_longer : {trial : Bool} {room : List ℤ} {before after : Kept} → Answered trial (bare front) room before after → Answered trial (bare part) room before after
  answered_longer {trial} {room} {before} {after} h =
      let o = other_line h.command in
      answered_other h.numbers (says_longer h.command) before after h.lends o.1
      (subst (λ (q : Line). ByLine trial q (bare front) h.numbers (marks_lent before) before.desk after.desk) o.1 h.does)

-- the line that was kept is answered as the whole of it would be
pub answered_kept : {trial : Bool} {buffer : List ℕ} {kept : ℕ} {part line : List ℕ} {room : List ℤ} {before after : Kept} → Holds buffer kept part → line ≡ bare (take kept buffer)
    → Answered trial line room before after
    → Answered trial (bare part) room before after
answered_kept {trial} {buffer} {kept} {part} {line} {room} {before} {after} held is h = go (dec_le (length part) (length buffer))
  where
    front : Answered trial (bare (take (length buffer) part)) room before after
    front = subst (λ (l : List ℕ). Answered trial l room before after) (is ∙ ap bare held.bytes) h

    go : Dec (length part ≤ length buffer) → Answered trial (bare part) room before after
    go (yes l) = subst (λ (l : List ℕ). Answered trial (bare l) room before after) (take_all (length buffer) part l) front
    go (no f) = answered_longer part (length buffer) held.long (omega (arith, f)) front
