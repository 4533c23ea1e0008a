-- `off_write::put_head` meets its contract: the word, the count and the two noughts, one behind the other.
use Prim.Native.Nat.{ℕ, ◌+◌}
use mathlib.Core.List.{List, [], ◌∷◌, ◌++◌}
use mathlib.Core.Path.{◌≡◌, subst}
use native.Mathlib.Omega.{arith}
use lib.IntN.{ℤ, pos}
use lib.ListN.{length, length-append}
use mir.Syntax.{w64}
use mir.Val.{to_z}
use mir.Facts.{to_z_pos}
use Rattle.text_put.specs.Print.{PutNumber, digits_of}
use Rattle.text_put.specs.PrintLaws.{put_digits, put_extends, extends_then}
use Rattle.off_write.specs.Written.{head_of}
use Rattle.off_write.specs.WrittenLaws.{head_most}
use Rattle.off_write.proofs.put_head.Goals as goal

pub returns : goal.returns
returns c =
    let k = c.args.corners in
    let off : List ℕ = 79 ∷ 70 ∷ 70 ∷ 10 ∷ [] in
    let noughts : List ℕ = 32 ∷ 48 ∷ 32 ∷ 48 ∷ 10 ∷ [] in
    let most = head_most k c.requires.0 in
    let l : length (head_of k) ≡ length (off ++ digits_of k) + 5 = length-append (off ++ digits_of k) noughts in
    let e : to_z w64 k ≡ pos k = to_z_pos w64 (omega (arith, c.requires.0)) in
    let b = put_digits (subst (λ (z : ℤ). PutNumber c.put-title.new.room c.put-title.result z c.put_number-count.new.room c.put_number-count.result) e c.put_number-count.ensures) in
    let x = put_extends c.args.room.now 0 off (omega (arith, c.requires.1)) c.put-title.ensures in
    let y = put_extends c.put-title.new.room c.put-title.result (digits_of k) (omega (arith, c.requires.1, l, most, x.place, x.size)) b in
    let z = put_extends c.put_number-count.new.room c.put_number-count.result noughts (omega (arith, c.requires.1, l, most, x.place, x.size, y.place, y.size)) c.put.ensures in
    extends_then (extends_then x y) z
