-- Laws of what is saved: as many bytes as are counted stand in the room, and a name put into room ends within it.
-- The definitions stand in Saving, and in crates/desk_write/specs/Writing.antt.
use Rattle.std.specs.Prelude.{ℕ, ◌+◌, ◌≤◌, ◌<◌, ◌≡◌, refl, List, ℤ, length, drop}
use Rattle.std.proofs.Common.{ap, subst, ⊎_elim, arith, length-append}
use Rattle.ints.specs.Order.{lt-or-ge}
use Rattle.limits.specs.Limits
use Rattle.text_put.specs.Print.{Put}
use Rattle.desk_state.specs.Desk.{Desk}
use Rattle.desk_write.specs.Writing.{Written, shape_text, Writes}
use Rattle.line_save.specs.Saving.{SavedBy, Saves}
use Rattle.line_save.specs.declared.Saving.{Saving}
use Rattle.line_save.specs.declared.Saving.TheVariants.{Text}

pub text_within : {d : Desk} {s : ℤ} {before after : List ℕ} {r : Written} → Writes d s before after r → r.number ≡ Limits.done → r.count ≤ length after
text_within {d} {s} {before} {after} {r} w z =
    let text = shape_text d.store s in
    omega (arith, w.count z, ap length (w.written z), length-append text (drop (length text) before))

-- what is to be saved lies within the line and the room
pub saves_within : {line : List ℕ} {d : Desk} {before after : List ℕ} {r : Saving} {n start : ℕ} → Saves line d before after r → r ≡ Text n start → (start ≤ length line) × (n ≤ length after)
saves_within {line} {d} {before} {after} {r} {n} {start} h e =
    let s = subst (SavedBy line d before after) e h.found in
    (s.3, text_within s.2 refl)

pub put_within : {room text exit : List ℕ} {at r : ℕ} → Put room at text exit r → at ≤ length room → r ≤ length room
put_within {room} {text} {exit} {at} {r} p l =
    ⊎_elim (λ (h : length room < at + length text). omega (arith, l, (p.refused h).1)) (λ (h : at + length text ≤ length room). omega (arith, h, (p.there h).1))
    (lt-or-ge (length room) (at + length text))
