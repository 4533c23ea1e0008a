-- `off_number::read` meets its contract: the digits behind the minus, or the word itself where it does not start with one.
use Prim.Native.Nat.{ℕ, ◌≤◌}
use mathlib.Core.List.{[], ◌∷◌}
use mathlib.Core.Path.{◌≡◌}
use lib.IntN.{pos, neg_ℤ, ◌-ℤ◌}
use mir.Syntax.{w32}
use mir.Val.{to_z, of_z}
use native.Mathlib.Omega.{arith}
use Rattle.std.proofs.lemmas.Bool.Decides.{Decides-eqb}
use Rattle.std.proofs.lemmas.Int.{ints}
use Rattle.std.proofs.lemmas.Result.{err_from_is_err_and}
use Rattle.std.proofs.lemmas.Slice.Eq.{strip_prefix_is}
use Rattle.limits.specs.Limits
use Rattle.off_number.proofs.ReadingLaws.{minus_answers, plain_answers, plain_most}
use Rattle.off_number.proofs.read.Goals as goal

turned : (s : ℕ) → s ≤ Limits.shape_reach → to_z w32 (of_z w32 (pos 0 -ℤ to_z w32 s)) ≡ neg_ℤ (pos s)
turned s h = omega (arith, ints)

kept : (s : ℕ) → s ≤ Limits.shape_reach → to_z w32 s ≡ pos s
kept s h = omega (arith, ints)

pub returns-in_err-plain-in-Some : goal.returns-in_err-plain-in-Some
returns-in_err-plain-in-Some c =
    let e = rw c.in-Some.is at (strip_prefix_is Decides-eqb c.args.word.now (45 ∷ []) c.strip_prefix.result c.strip_prefix.ensures.cases) in
    let p = err_from_is_err_and c.from_residual.result c.from_residual.ensures.1 in
    rw (p.1, p.2) (minus_answers _ e c.in_err-plain-in-Some.ensures)

pub returns-in_err-plain-in-None : goal.returns-in_err-plain-in-None
returns-in_err-plain-in-None c =
    let f = rw c.in-None.is at (strip_prefix_is Decides-eqb c.args.word.now (45 ∷ []) c.strip_prefix.result c.strip_prefix.ensures.cases) in
    let p = err_from_is_err_and c.from_residual-in_err-plain-in-None.result c.from_residual-in_err-plain-in-None.ensures.1 in
    rw (p.1, p.2) (plain_answers _ f c.in_err-plain-in-None.ensures)

pub returns-in_ok-plain-in-Some : goal.returns-in_ok-plain-in-Some
returns-in_ok-plain-in-Some c =
    let e = rw c.in-Some.is at (strip_prefix_is Decides-eqb c.args.word.now (45 ∷ []) c.strip_prefix.result c.strip_prefix.ensures.cases) in
    rw (turned _ (plain_most c.in_ok-plain-in-Some.ensures)) (minus_answers _ e c.in_ok-plain-in-Some.ensures)

pub returns-in_ok-plain-in-None : goal.returns-in_ok-plain-in-None
returns-in_ok-plain-in-None c =
    let f = rw c.in-None.is at (strip_prefix_is Decides-eqb c.args.word.now (45 ∷ []) c.strip_prefix.result c.strip_prefix.ensures.cases) in
    rw (kept _ (plain_most c.in_ok-plain-in-None.ensures)) (plain_answers _ f c.in_ok-plain-in-None.ensures)
