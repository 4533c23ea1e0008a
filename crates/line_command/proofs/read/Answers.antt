-- `line_command::read` meets its contract: a line is its first word and the words behind it.
use mathlib.Core.Path.{◌≡◌, ap, ◌∙◌}
use Prim.Native.Nat.{ℕ, ◌-◌}
use native.Mathlib.Omega.{arith}
use lib.ListN.{length, take}
use Rattle.text_words.specs.Words.{space_byte, first_word}
use Rattle.text_cut.proofs.CutLaws.{first_take}
use Rattle.line_command.specs.LineLaws.{of_line}
use Rattle.line_command.proofs.read.Goals as goal

pub returns : goal.returns
returns c =
    let s = c.args.line.now in
    let room = c.args.numbers.now in
    let e : c.word_end-end.result ≡ length (first_word s) = omega (arith, c.word_end-end.ensures.place) in
    let f : c.word_end-end.result - 0 ≡ length (first_word s) = omega (arith, e) in
    of_line s room c.of_word.new.numbers c.of_word.result (ap (λ (k : ℕ). take k s) f ∙ first_take space_byte s) e c.of_word.ensures
