-- WHAT IS PUT into the buffer that an `Out` is lent: the texts, and where they stand; and that the buffer stays the caller's.
-- `Out` keeps the buffer by a `&mut` in a field, and a body could leave another one there: so each function that takes an `Out` says `SameOut`.
use Rattle.std.specs.Prelude.{ℕ, ◌+◌, ◌≤◌, ◌<◌, min, max, ◌≡◌, List, [], ◌∷◌, ◌++◌, Bool, true, false, ℤ, nat_abs, length}
use Rattle.text_put.specs.Print.{Put, Written, signed}
use Rattle.line.specs.declared.out.Out.{Out}

-- the buffer is the same one, whatever stands in it, and as long as it was
pub record SameOut (x y : Out) : Type 0 where
  pub buffer : x.buffer.ghost_name ≡ y.buffer.ghost_name
  pub long : length x.buffer.now ≡ length y.buffer.now

-- where the next text goes: at the place, if 64 bytes fit behind it, and else at the start
pub record Ready (x : Out) (at : ℕ) : Type 0 where
  pub here : x.at + 64 ≤ length x.buffer.now → at ≡ x.at
  pub start : length x.buffer.now < x.at + 64 → at ≡ 0

-- a text stands there and the place is the one behind it; or it does not fit, and nothing is put
pub record Puts (text : List ℕ) (x y : Out) : Type 0 where
  pub at : ℕ
  pub ready : Ready x at
  pub put : Put x.buffer.now at text y.buffer.now y.at

-- a number's digits, behind a minus where it is below zero
abbrev pub PutsNumber : ℤ → Out → Out → Type 0
PutsNumber n x y = (text : List ℕ) × Written 10 1 (nat_abs n) text × Puts (signed n text) x y

abbrev pub PutsCount : ℕ → Out → Out → Type 0
PutsCount n x y = (text : List ℕ) × Written 10 1 n text × Puts text x y

-- "hex in small letters", `width` digits, and more only where the number needs them
abbrev pub PutsHex : ℕ → ℕ → Out → Out → Type 0
PutsHex n width x y = (text : List ℕ) × Written 16 (min (max width 1) 16) n text × Puts text x y

-- a space is put before what `P` says, and a line's end behind it
abbrev pub PutsNext : (Out → Out → Type 0) → Out → Out → Type 0
PutsNext P x y = (between : Out) × Puts (32 ∷ []) x between × P between y

abbrev pub PutsLine : (Out → Out → Type 0) → Out → Out → Type 0
PutsLine P x y = (between : Out) × P x between × Puts (10 ∷ []) between y

-- `0` for what is done, `?` for what could not be
abbrev pub done_or_wrong : Bool → List ℕ
done_or_wrong true = 48 ∷ 10 ∷ []
done_or_wrong false = 63 ∷ 10 ∷ []

-- bytes one after the other, two hex digits each
pub data PutsBytes : List ℕ → Out → Out → Type 0 where
  none : {x : Out} → PutsBytes [] x x
  more : {bytes : List ℕ} {byte : ℕ} {x y z : Out} → PutsBytes bytes x y → PutsHex byte 2 y z → PutsBytes (bytes ++ byte ∷ []) x z

-- the bytes of a text, or a `-` for one that has none
pub record PutsText (bytes : List ℕ) (x y : Out) : Type 0 where
  pub empty : bytes ≡ [] → Puts (45 ∷ []) x y
  pub some : 1 ≤ length bytes → PutsBytes bytes x y
