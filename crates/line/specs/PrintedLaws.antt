-- Laws of what is put: a buffer that each of two keeps both keep, there is one result (`puts_once`), and a text that fits stands right before the new place (`puts_there`).
-- By `same_then` a printer is proved from what it calls.
use Rattle.std.specs.Prelude.{ℕ, ◌+◌, ◌≤◌, ◌<◌, ◌≡◌, refl, List, ◌++◌, length, get_or, take}
use Rattle.std.proofs.Common.{sym, ap, ◌∙◌, subst, add-one, arith, take-suc}
use Rattle.std.proofs.Math.Decide.{dec_le}
use Rattle.text_put.specs.PrintLaws.{put_once, put_extends}
use Rattle.text_put.specs.Print.{Put}
use Rattle.line.specs.declared.out.Out.{Out}
use Rattle.line.specs.Printed.{SameOut, Ready, Puts, PutsHex, PutsBytes, more}

pub same_first : {x : Out} → SameOut x x
same_first = record { buffer = refl; long = refl }

pub same_then : {x y z : Out} → SameOut x y → SameOut y z → SameOut x z
same_then a b = record { buffer = a.buffer ∙ b.buffer; long = a.long ∙ b.long }

-- a byte more
pub byte_next : (bytes : List ℕ) (i : ℕ) {x y z : Out} → i < length bytes → PutsBytes (take i bytes) x y → PutsHex (get_or bytes i 0) 2 y z → PutsBytes (take (i + 1) bytes) x z
byte_next bytes i {x} {z = z} h a b =
    subst (λ (l : List ℕ). PutsBytes l x z) (sym (ap (λ (j : ℕ). take j bytes) (add-one i) ∙ take-suc bytes i 0 h)) (more a b)

-- ---- one result
ready_once : {x : Out} {m n : ℕ} → Ready x m → Ready x n → m ≡ n
ready_once {x} {m} {n} a b = go (dec_le (x.at + 64) (length x.buffer.now))
  where
    go : Dec (x.at + 64 ≤ length x.buffer.now) → m ≡ n
    go (yes h) = a.here h ∙ sym (b.here h)
    go (no f) = let h : length x.buffer.now < x.at + 64 = omega arith in a.start h ∙ sym (b.start h)

pub puts_once : {text : List ℕ} {x y z : Out} → Puts text x y → Puts text x z → (y.buffer.now ≡ z.buffer.now) × (y.at ≡ z.at)
puts_once {text} {x} {y} {z} a b = put_once a.put (subst (λ (k : ℕ). Put x.buffer.now k text z.buffer.now z.at) (ready_once b.ready a.ready) b.put)

-- ---- a text that fits
-- where the buffer has 64 bytes, no text that is not longer is lost: it stands right before the new place, behind what stood before its own
pub puts_there : {text : List ℕ} {x y : Out} → 64 ≤ length x.buffer.now → length text ≤ 64 → (p : Puts text x y) → take y.at y.buffer.now ≡ take p.at x.buffer.now ++ text
puts_there {text} {x} {y} room short p = (put_extends x.buffer.now p.at text (fits (dec_le (x.at + 64) (length x.buffer.now))) p.put).start
  where
    fits : Dec (x.at + 64 ≤ length x.buffer.now) → p.at + length text ≤ length x.buffer.now
    fits (yes h) = omega (arith, short, p.ready.here h)
    fits (no n) = omega (arith, room, short, p.ready.start (omega arith))
