-- `rows_tally::tally_in_line`: a cell more counts one where it holds the verdict.
use Rattle.std.proofs.Common.{◌≡◌, ap, ◌∙◌, ℕ, ◌*◌, eqb, get_or, arith}
use Rattle.limits.specs.Limits
use Rattle.rows.proofs.Bytes.{byte_one}
use Rattle.ints.specs.Counts.{one_if, one_if≤}
use Rattle.rows.specs.Rows.{cell}
use Rattle.rows.specs.Cells.{line_at}
use Rattle.rows_tally.specs.Counting.{line_more}
use Rattle.rows_tally.proofs.tally_in_line.Goals as goal

pub loop-v-preserved : goal.loop-v-preserved
loop-v-preserved c =
    let a = c.args in
    let l = c.loop-v in
    let at = cell a.low l.v-index in
    let here : c.from-n.result ≡ one_if (eqb (get_or a.rows.now at 0) a.verdict) =
    c.from-n.ensures ∙ byte_one _ ∙ ap (λ (v : ℕ). one_if (eqb v a.verdict)) (line_at a.rows.now (a.low * Limits.places) Limits.places l.v-index (omega arith)) in
    record {
      most = omega (arith, here, one_if≤ (eqb (get_or a.rows.now at 0) a.verdict));
      is = rw here (line_more a.verdict a.rows.now a.low l.v-index _ l.n (omega arith) l.invariant.is);
    }
