-- From lines that were answered, not on trial, to what they had the desk told: the desk that was reached before them is reached after them.
-- Then the start, and the whole of a run (`stands_by`).
use Rattle.std.specs.Prelude.{ℕ, ◌≤◌, ◌<◌, min, ◌≡◌, refl, List, [], ◌∷◌, ◌++◌, Bool, false, ℤ, length, get_or, take}
use Rattle.std.proofs.Common.{sym, ap, ◌∙◌, subst, append-nil, inl, inr, arith, length-take}
use Rattle.limits.specs.Limits
use Rattle.limits.specs.Lowest.{Lowest}
use Rattle.desk_state.specs.Desk.{Desk}
use Rattle.desk.specs.Commands.{number_of, start_refusals}
use Rattle.desk.specs.declared.Command.{Command}
use Rattle.desk.specs.declared.Command.TheVariants.{Start, Load}
use Rattle.line_command.specs.Lines.{most_bytes}
use Rattle.line_command.specs.declared.Line.{Line}
use Rattle.line_command.specs.declared.Line.TheVariants.{Tell, Ask, Spoil, LoadFile, SaveFile, Other}
use Rattle.line_tell.specs.Tells.{behind_first, lent_to, Tells}
use Rattle.line_answer.specs.Answered.{Kept, marks_lent, ByLine, Answered}
use Rattle.line_feed.specs.Served.{Serves, Served, none as no_line, more as more_lines, ServedAll}
use Rattle.runs.specs.Log.{Entry, ◌with◌}
use Rattle.runs.specs.Reached.{logged, Reached, started}
use Rattle.runs.proofs.Theorem.{reached_stands}
use Rattle.runs.specs.Told.{Ran, none as ran-none, more as ran-more}
use Rattle.runs.proofs.ToldLaws.{ran_reached, ran_append}
use Rattle.line_runs.specs.Heard.{EntriesOf, Hears, Heard, none, more, lent_desk, StandsBy}

-- what one line's command had the desk told, and what the desk did
pub record Hearing (says : Line) (line : List ℕ) (numbers : List ℤ) (before after : Desk) : Type 0 where
  pub es : List Entry
  pub log : List Entry
  pub entries : EntriesOf says line numbers es
  pub ran : Ran before es after log

-- ---- a command told
tells_ran : {command : Command} {count : ℕ} {numbers : List ℤ} {m : ℕ} {before after : Desk} (t : Tells command count numbers m before after)
    → Ran (lent_to m before) (command with behind_first count numbers ∷ []) (lent_to m after) (logged (number_of t.outcome) (command with behind_first count numbers) [])
tells_ran {command} {count} {numbers} t = ran-more (command with behind_first count numbers) t.outcome ran-none t.does

same_ran : (m : ℕ) {before after : Desk} → after ≡ before → Ran (lent_to m before) [] (lent_to m after) []
same_ran m {before} e = subst (λ (d : Desk). Ran (lent_to m before) [] (lent_to m d) []) (sym e) ran-none

-- ---- a line
by_line : (says : Line) (line : List ℕ) (numbers : List ℤ) (m : ℕ) (before after : Desk) → ByLine false says line numbers m before after → Hearing says line numbers (lent_to m before) (lent_to m after)
by_line (Tell command count) line numbers m before after h = record { es = _; log = _; entries = refl; ran = tells_ran h }
by_line (Ask asked) line numbers m before after h = record { es = []; log = []; entries = refl; ran = same_ran m h }
by_line (Spoil cell) line numbers m before after h = record { es = []; log = []; entries = refl; ran = same_ran m (h refl) }
by_line (LoadFile kind) line numbers m before after (inl e) = record { es = []; log = []; entries = inl refl; ran = same_ran m e }
by_line (LoadFile kind) line numbers m before after (inr (s, count, loaded, asks, t)) = record {
  es = _;
  log = _;
  entries = inr (s, behind_first count loaded, asks.0, asks.1, refl);
  ran = tells_ran t;
}
by_line SaveFile line numbers m before after h = record { es = []; log = []; entries = refl; ran = same_ran m h }
by_line (Other other) line numbers m before after h = record { es = []; log = []; entries = refl; ran = same_ran m h }

-- the desk that is lent has as many marks as it should: so it is lent as many again
marks_lent_lem : (k : Kept) {log : List Entry} → get_or k.lent 1 0 ≡ Limits.marks → Reached (lent_desk k.desk) log → marks_lent k ≡ Limits.marks
marks_lent_lem k e h =
    let long : length (take Limits.marks k.desk.marks) ≡ Limits.marks = (reached_stands h).order.marks.long in
    omega (arith, e, long, length-take Limits.marks k.desk.marks)

module _ {n : ℕ} (enough : most_bytes < n) where
  -- one line: what it had the desk told, and that as much is lent as before
  pub record LineRan (line : List ℕ) (before after : Kept) : Type 0 where
    pub es : List Entry
    pub log : List Entry
    pub hears : Hears line es
    pub ran : Ran (lent_desk before.desk) es (lent_desk after.desk) log
    pub lent : get_or after.lent 1 0 ≡ Limits.marks

  line_ran : {line : List ℕ} {before after : Kept} {old : List Entry} → Serves false n line before after → get_or before.lent 1 0 ≡ Limits.marks → Reached (lent_desk before.desk) old
      → LineRan line before after
  line_ran {line} {before} {after} s e h =
      let a = s.answered in
      let m = marks_lent_lem before e h in
      let r = by_line a.says line a.numbers Limits.marks before.desk after.desk
      (subst (λ (k : ℕ). ByLine false a.says line a.numbers k before.desk after.desk) m a.does) in
      record {
        es = r.es;
        log = r.log;
        hears = record { room = s.room; numbers = a.numbers; says = a.says; enough = omega (arith, s.size, enough); command = a.command; entries = r.entries };
        ran = r.ran;
        lent = ap (λ (l : List ℕ). get_or l 1 0) (a.lends refl) ∙ e;
      }

  -- lines one after the other
  pub record LinesRan (lines : List (List ℕ)) (before after : Kept) : Type 0 where
    pub es : List Entry
    pub log : List Entry
    pub heard : Heard lines es
    pub ran : Ran (lent_desk before.desk) es (lent_desk after.desk) log

  pub lines_ran : {lines : List (List ℕ)} {before after : Kept} {old : List Entry} → Served false n lines before after → get_or before.lent 1 0 ≡ Limits.marks → Reached (lent_desk before.desk) old
      → LinesRan lines before after
  lines_ran no_line e h = record { es = []; log = []; heard = none; ran = ran-none }
  lines_ran (more_lines s rest) e h =
      let l = line_ran s e h in
      let r = lines_ran rest l.lent (ran_reached h l.ran) in
      record { es = r.es ++ l.es; log = r.log ++ l.log; heard = more l.hears r.heard; ran = ran_append l.ran r.ran }

  -- ---- the whole of a run, from a desk that was started
  pub stands_by : {trial : Bool} {before after : Kept} → trial ≡ false → ServedAll trial n before after → get_or before.lent 1 0 ≡ Limits.marks → Reached (lent_desk before.desk) []
      → StandsBy after.desk
  stands_by {before = before} {after} f a e h =
      let r = lines_ran (subst (λ (trial : Bool). Served trial n a.lines before after) f a.served) e h in
      record {
        input = a.input;
        lines = a.lines;
        read = a.read;
        told = r.es;
        heard = r.heard;
        start = lent_desk before.desk;
        started = h;
        log = r.log;
        ran = r.ran;
        reached = subst (Reached (lent_desk after.desk)) (append-nil r.log) (ran_reached h r.ran);
      }

-- ---- the start
not_refused : (d : Desk) (n : ℕ) → length d.marks ≡ Limits.marks → Lowest (start_refusals d) n → n ≡ 0
not_refused d n e (inl a) = absurd (a.0 e)
not_refused d n e (inr b) = b.1

-- a desk that was started with as many marks as it has
pub fresh_reached : {m : ℕ} {before after : Desk} → m ≡ Limits.marks → Limits.marks ≤ length before.marks → Tells Start 0 [] m before after → Reached (lent_desk after) []
fresh_reached {m} {before} {after} e l t =
    let long : length (take m before.marks) ≡ Limits.marks = omega (arith, e, l, length-take m before.marks) in
    subst (λ (k : ℕ). Reached (lent_to k after) []) e (started t.outcome t.does (not_refused (lent_to m before) (number_of t.outcome) long t.does.refusal))
