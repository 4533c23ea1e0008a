-- THE COUNT OF A MOVE worked out from two plans: from their placed corners alone, by the words of document 01, with no desk and no stored marks.
-- The order of marks and the pairs whose order differs are those of `marks` Marks.antt, over the ends of the plans' pieces.
use Rattle.std.specs.Prelude.{List, ℕ, ℤ, nat_abs}
use Rattle.marks.specs.Marks.{Axes, changed_marks}
use Rattle.desk.specs.declared.Command.{Command}
use Rattle.desk.specs.declared.Command.TheVariants.{Start, Load, Place, Move, Remove, Gap}
use Rattle.runs.specs.Log.{Entry, is_held, Plan, plan_by}
use Rattle.runs.specs.Afresh.{piece_of, low_of, high_of}

-- "On each axis a taken place has a low mark and a high mark, the least and greatest placed corner."
abbrev pub axes_in : Plan → Axes
axes_in plan = record { taken = λ p. is_held (plan.place p); low = λ axis p. low_of axis (piece_of plan p); high = λ axis p. high_of axis (piece_of plan p) }

-- "over the three axes, the number of pairs (mark of the moved piece, mark of another piece) whose order before and after differs"
abbrev pub changed_pairs : Plan → Plan → ℕ → ℕ
changed_pairs before after p = changed_marks (axes_in before) (axes_in after) p

-- "A move reports a count [..]. Other commands report 0."
abbrev pub reported_by : Command → List ℤ → Plan → ℕ
reported_by Start numbers plan = 0
reported_by (Load shape) numbers plan = 0
reported_by (Place place q) numbers plan = 0
reported_by (Move place turn o) numbers plan = changed_pairs plan (plan_by (Move place turn o) numbers plan) (nat_abs place)
reported_by (Remove place) numbers plan = 0
reported_by (Gap gap) numbers plan = 0

-- what is reported of an entry that finds this plan
abbrev pub reported : Entry → Plan → ℕ
reported e plan = reported_by e.command e.numbers plan
