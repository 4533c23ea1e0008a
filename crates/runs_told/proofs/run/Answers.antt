-- `runs_told::run`: after i codes the desk is what their commands made of it, and the corner numbers that they took are used.
-- The last code told, the theorem is the run's.
use mathlib.Core.Path.{◌≡◌, refl, sym, ap, ◌∙◌}
use Prim.Native.Nat.{◌+◌, ◌-◌, ◌*◌, ◌/◌}
use native.Mathlib.Omega.{arith}
use lib.ListN.{length, take, drop}
use Rattle.desk_state.specs.Lent.{SameLent}
use Rattle.desk_state.specs.declared.LentDesk.{LentDesk}
use Rattle.runs.specs.Encoded.{code_numbers, told_to}
use Rattle.runs.specs.EncodedLaws.{used_first, used_most, took_few, used_next, code_is, part_is_lem, told_few}
use Rattle.runs.proofs.ToldLaws.{told_first, told_code, told_most, told_as, runs}
use Rattle.runs_told.proofs.run.Goals as goal

-- the arrays that one command was lent, the next is lent
same_then : {a b c : LentDesk} → SameLent a b → SameLent b c → SameLent a c
same_then x y = record {
  shapes = x.shapes ∙ y.shapes;
  places = x.places ∙ y.places;
  rows = x.rows ∙ y.rows;
  book = x.book ∙ y.book;
  marks = x.marks ∙ y.marks;
  long = x.long ∙ y.long;
}

pub loop-i-init : goal.loop-i-init
loop-i-init c =
    let a = c.args in (
      used_first a.codes.now (length a.numbers.now),
      record { shapes = refl; places = refl; rows = refl; book = refl; marks = refl; long = refl },
      told_first a.codes.now a.numbers.now,
    )

pub overflow_sub-numbers : goal.overflow_sub-numbers
overflow_sub-numbers c =
    let most = used_most c.args.codes.now (length c.args.numbers.now) c.loop-i.i in
    omega (arith, c.loop-i.invariant.0)

pub offset_bounds-numbers-used : goal.offset_bounds-numbers-used
offset_bounds-numbers-used c =
    let most = used_most c.args.codes.now (length c.args.numbers.now) c.loop-i.i in
    omega (arith, c.loop-i.invariant.0)

pub slice_bounds-tell-end : goal.slice_bounds-tell-end
slice_bounds-tell-end c =
    let a = c.args in
    let l = c.loop-i in
    let most = used_most a.codes.now (length a.numbers.now) l.i in
    let few = took_few (take (code_numbers * l.i + code_numbers - code_numbers * l.i) (drop (code_numbers * l.i) a.codes.now)) (length a.numbers.now - l.used)
    c.took_by.result c.took_by.ensures in
    omega (arith, l.invariant.0)

pub overflow_add-accepted : goal.overflow_add-accepted
overflow_add-accepted c =
    let a = c.args in
    let l = c.loop-i in
    let is = code_is a.codes.now l.i in
    let part = part_is_lem a.codes.now a.numbers.now l.i l.used c.took_by.result _ is l.invariant.0 c.took_by.ensures in
    let next = told_code a.codes.now a.numbers.now l.i is part l.invariant.2 c.tell-accepted.ensures.told in
    omega (arith, told_most next, told_few a.codes.now a.numbers.now (l.i + 1), c.well_formed)

pub loop-i-preserved : goal.loop-i-preserved
loop-i-preserved c =
    let a = c.args in
    let l = c.loop-i in
    let is = code_is a.codes.now l.i in
    let part = part_is_lem a.codes.now a.numbers.now l.i l.used c.took_by.result _ is l.invariant.0 c.took_by.ensures in (
      used_next a.codes.now (length a.numbers.now) l.i l.used c.took_by.result _ is l.invariant.0 c.took_by.ensures,
      same_then l.invariant.1 c.tell-accepted.ensures.same,
      told_code a.codes.now a.numbers.now l.i is part l.invariant.2 c.tell-accepted.ensures.told,
    )

pub returns-clause-runs : goal.returns-clause-runs
returns-clause-runs c =
    let a = c.args in
    let l = c.loop-i in
    let last : l.i ≡ length a.codes.now / code_numbers = omega arith in
    runs (told_as (ap (told_to a.codes.now a.numbers.now) (sym last)) l.invariant.2)
