-- The laws of a run: its desk and its log are the only ones, a desk that is reached before is reached after, and it stands.
-- Then how a run is told code by code.
use Rattle.std.specs.Prelude.{◌≡◌, refl, List, [], ◌∷◌, ◌++◌, ℕ, zero, suc, ◌+◌, ◌≤◌, ℤ, length, Ok, Err}
use Rattle.std.proofs.Common.{sym, ap, ◌∙◌, subst, arith, length-append}
use Rattle.desk_state.specs.Desk.{Desk}
use Rattle.desk.specs.Commands.{Outcome, number_of, Named, Does}
use Rattle.desk.specs.CommandLaws.{does_once}
use Rattle.desk.specs.declared.Command.{Command}
use Rattle.desk.specs.declared.Command.TheVariants.{Start, Load, Place, Move, Remove, Gap}
use Rattle.runs.specs.Log.{Entry, ◌with◌, empty_plan, plan_of}
use Rattle.runs.specs.Reached.{logged, Reached, told}
use Rattle.runs.specs.Standing.{Standing, fresh_standing}
use Rattle.runs.proofs.Theorem.{logged_none, step, stands_of, reached_stands}
use Rattle.runs.specs.Encoded.{number_in, commands_of, commands_in, code_at, numbers_at, told_to, told_by}
use Rattle.runs.specs.EncodedLaws.{told_next}
use Rattle.runs.specs.Told.{Ran, none, more, Told, accepted_of, Starts, Runs}

-- ---- the only ones
pub ran_once : {d a b : Desk} {es l m : List Entry} → Ran d es a l → Ran d es b m → (a ≡ b) × (l ≡ m)
ran_once none none = (refl, refl)
ran_once (more {d = u} {after = a} e q h k) (more {d = v} {after = b} {log = m} _ r i j) =
    let was = ran_once h i in
    let now = does_once e.command e.numbers v a b q r (subst (λ (x : Desk). Does e.command e.numbers x a q) was.0 k) j in
    (now.0, ap (λ (l : List Entry). logged (number_of q) e l) was.1 ∙ ap (λ (o : Outcome). logged (number_of o) e m) now.1)

-- ---- reached before, reached after
logged_more : (n : ℕ) (e : Entry) (log old : List Entry) → logged n e log ++ old ≡ logged n e (log ++ old)
logged_more zero e log old = refl
logged_more (suc n) e log old = refl

pub ran_reached : {d after : Desk} {es log old : List Entry} → Reached d old → Ran d es after log → Reached after (log ++ old)
ran_reached h none = h
ran_reached {after} {old = old} h (more {log} e r k j) = subst (Reached after) (sym (logged_more (number_of r) e log old)) (told e r (ran_reached h k) j)

-- one run after another
pub ran_append : {d e f : Desk} {es fs l m : List Entry} → Ran d es e l → Ran e fs f m → Ran d (fs ++ es) f (m ++ l)
ran_append h none = h
ran_append {d} {f = f} {es} {l = l} h (more {es = fs} {log} e r k j) = subst (Ran d (e ∷ (fs ++ es)) f) (sym (logged_more (number_of r) e log l)) (more e r (ran_append h k) j)

-- ---- what a function that tells commands promises
pub told_none : {d : Desk} → Told [] d d 0
told_none = record { log = []; ran = none; accepted = refl }

does_named : (d after : Desk) (c : Command) (numbers : List ℤ) (r : Outcome) → Does c numbers d after r → Named r
does_named d after Start numbers r h = h.named
does_named d after (Load shape) numbers r h = h.named
does_named d after (Place place q) numbers r h = h.named
does_named d after (Move place turn o) numbers r h = h.named
does_named d after (Remove place) numbers r h = h.named
does_named d after (Gap gap) numbers r h = h.named

accepted_one : (e : Entry) (r : Outcome) → Named r → accepted_of r ≡ length (logged (number_of r) e [])
accepted_one e (Ok n) h = refl
accepted_one e (Err r) h = sym (ap length (logged_none (number_of (Err r)) e [] h))

pub told_one : {d after : Desk} {n : ℕ} (e : Entry) (r : Outcome) → n ≡ accepted_of r → Does e.command e.numbers d after r → Told (e ∷ []) d after n
told_one {d} {after} e r a h = record { log = logged (number_of r) e []; ran = more e r none h; accepted = a ∙ accepted_one e r (does_named d after e.command e.numbers r h) }

pub told_as : {d after : Desk} {n : ℕ} {es fs : List Entry} → fs ≡ es → Told es d after n → Told fs d after n
told_as {d} {after} {n} same = subst (λ (k : List Entry). Told k d after n) (sym same)

-- a code is the command of its kind
pub told_in : {d after : Desk} {n : ℕ} (code numbers : List ℤ) (kind : ℤ) → number_in code 0 ≡ kind
    → Told (commands_of kind (number_in code 1) (number_in code 2) (number_in code 3) (number_in code 4) (number_in code 5) (number_in code 6) numbers) d after n → Told (commands_in code numbers) d after n
told_in code numbers kind is =
    told_as (ap (λ (k : ℤ). commands_of k (number_in code 1) (number_in code 2) (number_in code 3) (number_in code 4) (number_in code 5) (number_in code 6) numbers) is)

pub told_more : {d e f : Desk} {es fs : List Entry} {m n : ℕ} → Told es d e m → Told fs e f n → Told (fs ++ es) d f (m + n)
told_more h k = record { log = k.log ++ h.log; ran = ran_append h.ran k.ran; accepted = let a = h.accepted in let b = k.accepted in omega (arith, length-append k.log h.log) }

-- how many can be accepted
logged_few : (n : ℕ) (e : Entry) (log : List Entry) → length (logged n e log) ≤ 1 + length log
logged_few zero e log = omega arith
logged_few (suc n) e log = omega arith

ran_few : {d after : Desk} {es log : List Entry} → Ran d es after log → length log ≤ length es
ran_few none = omega arith
ran_few (more {log} e r h k) = let l = ran_few h in let m = logged_few (number_of r) e log in omega arith

pub told_most : {d after : Desk} {es : List Entry} {n : ℕ} → Told es d after n → n ≤ length es
told_most h = let a = h.accepted in omega (arith, ran_few h.ran)

-- ---- a run, code by code
pub told_first : (codes numbers : List ℤ) {d : Desk} → Told (told_to codes numbers 0) d d 0
unfolding told_to
told_first codes numbers = told_none

pub told_code : {d e f : Desk} {m n : ℕ} (codes numbers : List ℤ) (i : ℕ) {code part : List ℤ} → code ≡ code_at codes i → part ≡ numbers_at codes numbers i
    → Told (told_to codes numbers i) d e m → Told (commands_in code part) e f n → Told (told_to codes numbers (i + 1)) d f (m + n)
told_code {e = e} {f} {n = n} codes numbers i {code} {part} ec en h k =
    told_as (told_next codes numbers i) (told_more h (subst (λ (l : List ℤ). Told (commands_in (code_at codes i) l) e f n) en (subst (λ (l : List ℤ). Told (commands_in l part) e f n) ec k)))

-- ---- a start that was accepted on the way
stands_on : {d after : Desk} (log : List Entry) (c : Command) (numbers : List ℤ) (r : Outcome) → Does c numbers d after r → (Starts log → Standing d (plan_of log))
    → Starts (logged (number_of r) (c with numbers) log) → Standing after (plan_of (logged (number_of r) (c with numbers) log))
stands_on {d} {after} log c numbers (Err r) k old h =
    let none = logged_none (number_of (Err r)) (c with numbers) log (does_named d after c numbers (Err r) k) in
    step log (c with numbers) (Err r) (old (subst Starts none h)) k
stands_on log Start numbers (Ok n) k old h = subst (λ (x : Desk). Standing x empty_plan) (sym (k.done refl).0) fresh_standing
stands_on log (Load shape) numbers (Ok n) k old h = step log (Load shape with numbers) (Ok n) (old h) k
stands_on log (Place place q) numbers (Ok n) k old h = step log (Place place q with numbers) (Ok n) (old h) k
stands_on log (Move place turn o) numbers (Ok n) k old h = step log (Move place turn o with numbers) (Ok n) (old h) k
stands_on log (Remove place) numbers (Ok n) k old h = step log (Remove place with numbers) (Ok n) (old h) k
stands_on log (Gap gap) numbers (Ok n) k old h = step log (Gap gap with numbers) (Ok n) (old h) k

ran_started : {d after : Desk} {es log : List Entry} → Ran d es after log → Starts log → Standing after (plan_of log)
ran_started none h = absurd h
ran_started (more {log} e r k j) h = stands_on log e.command e.numbers r j (λ s. ran_started k s) h

pub runs : {codes numbers : List ℤ} {before after : Desk} {n : ℕ} → Told (told_by codes numbers) before after n → Runs codes numbers before after n
runs h = record { run = h; stands = λ old k. reached_stands (ran_reached k h.ran); starts = λ s. stands_of h.log (ran_started h.ran s) }

pub runs_once : {codes numbers : List ℤ} {d a b : Desk} {m n : ℕ} → Runs codes numbers d a m → Runs codes numbers d b n → (a ≡ b) × (m ≡ n)
runs_once h k = let o = ran_once h.run.ran k.run.ran in (o.0, h.run.accepted ∙ ap length o.1 ∙ sym k.run.accepted)
