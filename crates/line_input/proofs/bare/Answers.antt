-- `line_input::bare` meets its contract: the last byte is left out where it is the byte 13.
use Prim.Native.Nat.{ℕ, suc, ◌-◌}
use mathlib.Core.Path.{◌≡◌, ap, ◌∙◌}
use native.Mathlib.Omega.{arith}
use lib.ListN.{length, take}
use lib.Seq.{take-length}
use Rattle.line_input.proofs.InputLaws.{bare_none, bare_ended, bare_other}
use Rattle.line_input.proofs.bare.Goals as goal

pub returns-then-n-eq0 : goal.returns-then-n-eq0
returns-then-n-eq0 c =
    let line = c.args.line.now in
    let n : length line - 0 ≡ length line = omega arith in
    ap (λ (k : ℕ). take k line) n ∙ take-length line ∙ bare_none line c.if-n-eq0.true

pub returns-then-line-n-eq-RETURN : goal.returns-then-line-n-eq-RETURN
returns-then-line-n-eq-RETURN c =
    let line = c.args.line.now in
    let n : length line - 1 - 0 ≡ length line - 1 = omega arith in
    let e : length line ≡ suc (length line - 1) = omega (arith, c.if-n-eq0.false) in
    ap (λ (k : ℕ). take k line) n ∙ bare_ended line (length line - 1) e c.if-line-n-eq-RETURN.true

pub returns : goal.returns
returns c =
    let line = c.args.line.now in
    let n : length line - 0 ≡ length line = omega arith in
    let e : length line ≡ suc (length line - 1) = omega (arith, c.if-n-eq0.false) in
    ap (λ (k : ℕ). take k line) n ∙ take-length line ∙ bare_other line (length line - 1) e c.if-line-n-eq-RETURN.false
