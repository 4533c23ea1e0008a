-- `text_hex::read_text` meets its contract: what is measured as a text is decoded where the room holds it.
use Rattle.std.specs.Prelude.{ℕ, ◌<◌, ◌≤◌, ◌*◌, ◌≡◌, ◌++◌, List, Some, length, take, drop}
use Rattle.std.proofs.Common.{inl, inr, ap, ◌∙◌, arith, length-take}
use Rattle.std.proofs.Math.Seq.{take-length}
use Rattle.text_hex.specs.Hex.{HexDigits, bytes_of, Measured}
use Rattle.text_hex.proofs.read_text.Goals as goal

-- a text's bytes take two digits each, and there are digits where there are bytes
digits_of_lem : (word : List ℕ) (n : ℕ) → Measured word (Some n) → (n * 2 ≤ length word) × (0 < n → HexDigits word)
unfolding bytes_of
digits_of_lem word n (inl e, k) = let z = ap (λ (l : List ℕ). length (bytes_of l)) e in (omega (arith, k, z), λ h. absurd (omega (arith, k, z)))
digits_of_lem word n (inr h, k) = (omega (arith, k, h.1), λ p. h.0)

long_front : (room : List ℕ) (n : ℕ) → n ≤ length room → length (take n room) ≡ n
long_front room n h = omega (arith, length-take n room)

pub decode-requires : goal.decode-requires
decode-requires c =
    let d = digits_of_lem c.args.word.now c.in_ok-n.n c.in_ok-n.ensures in
    let l = long_front c.args.room.now c.in_ok-n.n c.if-room-n.false in
    record { long = omega (arith, d.0, l); digits = λ h. d.1 (omega (arith, h, l)) }

pub returns : goal.returns
returns c =
    let m : Measured c.args.word.now (Some c.in_ok-n.n) = c.in_ok-n.ensures in
    let b = bytes_of c.args.word.now in
    let whole : c.decode.new.room ≡ b = c.decode.ensures ∙ ap (λ (k : ℕ). take k b) (long_front c.args.room.now c.in_ok-n.n c.if-room-n.false ∙ m.1) ∙ take-length b in
    (m.0, m.1, c.if-room-n.false, ap (λ (l : List ℕ). l ++ drop c.in_ok-n.n c.args.room.now) whole)
