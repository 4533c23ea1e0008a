-- `line_file::shape_and_path` meets its contract: the second word, as it was read, is the shape's number.
use Prim.Native.Nat.{ℕ, ◌+◌, ◌-◌}
use mathlib.Core.Path.{◌≡◌, sym, ap, ◌∙◌, subst}
use native.Mathlib.Omega.{arith}
use mir.Syntax.{w32}
use mir.Facts.{to_z-of_z}
use lib.ListN.{length, take, drop}
use Rattle.ints.specs.Bounds.{fits_in}
use Rattle.text_cut.proofs.CutLaws.{first_take}
use Rattle.text_words.specs.Words.{space_byte, first_word}
use Rattle.line_file.specs.Requests.{NamesShape}
use Rattle.line_file.specs.RequestLaws.{names_shape}
use Rattle.line_file.proofs.shape_and_path.Goals as goal

pub returns : goal.returns
returns c =
    let line = c.args.line.now in
    let w = c.word_end-end in
    let v = c.word_end-next in
    let more = c.if-line-end.false in
    let back = drop (w.result + 1) line in
    let e : w.result ≡ length (first_word line) = omega (arith, w.ensures.place) in
    let long : v.result - (w.result + 1) ≡ length (first_word back) = omega (arith, v.ensures.place, more) in
    let word : take (v.result - (w.result + 1)) back ≡ first_word back = ap (λ (k : ℕ). take k back) long ∙ first_take space_byte back in
    let reads = c.in-Some.ensures in
    let names = names_shape line w.result v.result e (omega (arith, more)) v.ensures.place (omega (arith, c.if-line-next.false)) word reads in
    let same = to_z-of_z (fits_in w32 c.in-Some.shape 2147483648 2147483647 reads.1 (omega arith) (omega arith)) in
    (subst (NamesShape line) (sym same) names, omega (arith, c.if-line-next.false))
