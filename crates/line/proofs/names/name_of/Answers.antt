-- `line::names::name_of` meets its contract. The invariant: a number among the names that are left, with those that were passed, is one among all of them.
-- The measure is what is left of the text.
use Prim.Native.Nat.{ℕ, ◌+◌, ◌-◌}
use mathlib.Core.Path.{◌≡◌, sym, ap, ◌∙◌}
use mathlib.Core.Bool.{false≢true}
use mathlib.Core.List.{◌∷◌}
use native.Mathlib.Omega.{arith}
use lib.ListN.{length, take, drop}
use Rattle.std.proofs.lemmas.Bool.Decides.{Decides-eqb}
use Rattle.std.proofs.lemmas.Slice.Eq.{slice_eq-Decides}
use Rattle.text_words.specs.Words.{space_byte, first_word}
use Rattle.text_cut.proofs.CutLaws.{first_take}
use Rattle.line.specs.Behind.{behind}
use Rattle.line.specs.BehindLaws.{behind_none, next-is}
use Rattle.line.specs.NamedLaws.{name_first, name_here, name_next, name_none}
use Rattle.line.proofs.names.name_of.Goals as goal

pub loop-end-init : goal.loop-end-init
loop-end-init c = (omega arith, omega arith, let a = c.args in name_first a.word.now (behind a.names.now 0))

pub returns-then-eq : goal.returns-then-eq
returns-then-eq c =
    let name_is : let names = c.args.names.now in
    behind names c.loop-end.end ≡ first_word (drop (c.loop-end.end + 1) names) ∷ behind names c.word_end-next.result = next-is c.args.names.now c.loop-end.end c.word_end-next.result c.loop-end-test.true c.word_end-next.ensures.place in
    let part_is_lem : let rest = drop (c.loop-end.end + 1) c.args.names.now in
    take (c.word_end-next.result - (c.loop-end.end + 1)) rest ≡ first_word rest =
    let rest = drop (c.loop-end.end + 1) c.args.names.now in
    let long : c.word_end-next.result - (c.loop-end.end + 1) ≡ length (first_word rest) = omega (arith, c.word_end-next.ensures.place, c.loop-end-test.true) in
    ap (λ (k : ℕ). take k rest) long ∙ first_take space_byte rest in
    let a = c.args in
    name_here a.word.now (behind a.names.now 0) c.loop-end.number c.loop-end.invariant.2 (name_is) ((slice_eq-Decides Decides-eqb _ _ c.eq.result c.eq.ensures).0 c.if-eq.true ∙ part_is_lem)

pub loop-end-preserved : goal.loop-end-preserved
loop-end-preserved c =
    let name_is : let names = c.args.names.now in
    behind names c.loop-end.end ≡ first_word (drop (c.loop-end.end + 1) names) ∷ behind names c.word_end-next.result = next-is c.args.names.now c.loop-end.end c.word_end-next.result c.loop-end-test.true c.word_end-next.ensures.place in
    let part_is_lem : let rest = drop (c.loop-end.end + 1) c.args.names.now in
    take (c.word_end-next.result - (c.loop-end.end + 1)) rest ≡ first_word rest =
    let rest = drop (c.loop-end.end + 1) c.args.names.now in
    let long : c.word_end-next.result - (c.loop-end.end + 1) ≡ length (first_word rest) = omega (arith, c.word_end-next.ensures.place, c.loop-end-test.true) in
    ap (λ (k : ℕ). take k rest) long ∙ first_take space_byte rest in
    let a = c.args in (
      omega (arith, c.word_end-next.ensures.place),
      c.word_end-next.ensures.within,
      name_next a.word.now (behind a.names.now 0) c.loop-end.number c.loop-end.invariant.2 (name_is) (λ e. false≢true (sym c.if-eq.false ∙ (slice_eq-Decides Decides-eqb _ _ c.eq.result c.eq.ensures).1 (e ∙ sym (part_is_lem)))),
    )

pub returns : goal.returns
returns c =
    let a = c.args in
    name_none a.word.now (behind a.names.now 0) c.loop-end.number c.loop-end.invariant.2 (behind_none a.names.now c.loop-end.end c.loop-end-test.false)
