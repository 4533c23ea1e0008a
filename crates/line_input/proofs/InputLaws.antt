-- Laws of an input as it arrives: feeding a and then b is feeding a ++ b (`fed_more_lem`), and what was fed from the start is the cut of the input (`fed_lines`).
-- Then what a buffer keeps of a part, and a line without its byte 13.
use Rattle.std.specs.Prelude.{ℕ, zero, suc, ◌+◌, ◌≤◌, ◌<◌, min, ◌≡◌, refl, List, [], ◌∷◌, ◌++◌, map, length, get_or, take, set}
use Rattle.std.proofs.Common.{sym, ap, ◌∙◌, subst, append-nil, append_assoc, add-one, arith, length-append, length-take, length-set, take_all, take-suc-set}
use Rattle.std.proofs.Math.Logic.{if_pos, if_neg}
use Rattle.std.proofs.Math.Decide.{ℕ_discrete}
use Rattle.std.proofs.lemmas.List.{take-append-le}
use Rattle.text_cut.specs.Cuts.{Uncut, Cut, last, cut, parts_of}
use Rattle.text_cut.proofs.CutLaws.{cut_is}
use Rattle.line_input.specs.Input.{end_byte, return_byte, bare, lines_of, Fed, ended_first, fed, fed_more, held_bytes, Holds}

-- ---- byte by byte
pub fed_none : (held : List ℕ) → fed held [] ≡ record { ended = []; rest = held }
unfolding fed
fed_none held = refl

pub fed_end : (held : List ℕ) (b : ℕ) (bytes : List ℕ) → b ≡ end_byte → fed held (b ∷ bytes) ≡ ended_first held (fed [] bytes)
unfolding fed
fed_end held b bytes e = if_pos (ℕ_discrete b end_byte) e _ _

pub fed_other : (held : List ℕ) (b : ℕ) (bytes : List ℕ) → (b ≡ end_byte → ⊥) → fed held (b ∷ bytes) ≡ fed (held ++ b ∷ []) bytes
unfolding fed
fed_other held b bytes n = if_neg (ℕ_discrete b end_byte) n _ _

-- ---- in whatever pieces it arrives
pub fed_more_lem : (held a b : List ℕ) → fed held (a ++ b) ≡ fed_more (fed held a) b
fed_more_lem held [] b = sym (ap (λ (f : Fed). fed_more f b) (fed_none held))
fed_more_lem held (c ∷ a) b = go (ℕ_discrete c end_byte) (fed_more_lem [] a b) (fed_more_lem (held ++ c ∷ []) a b)
  where
    go : Dec (c ≡ end_byte) → fed [] (a ++ b) ≡ fed_more (fed [] a) b → fed (held ++ c ∷ []) (a ++ b) ≡ fed_more (fed (held ++ c ∷ []) a) b → fed held (c ∷ (a ++ b)) ≡ fed_more (fed held (c ∷ a)) b
    go (yes e) h k = fed_end held c (a ++ b) e ∙ ap (ended_first held) h ∙ sym (ap (λ (f : Fed). fed_more f b) (fed_end held c a e))
    go (no n) h k = fed_other held c (a ++ b) n ∙ k ∙ sym (ap (λ (f : Fed). fed_more f b) (fed_other held c a n))

-- one byte more
pub fed_next : (held a : List ℕ) (b : ℕ) → fed held (a ++ b ∷ []) ≡ fed_more (fed held a) (b ∷ [])
fed_next held a b = fed_more_lem held a (b ∷ [])

-- ---- what was fed is the cut
uncut_more : (c b : ℕ) (part : List ℕ) → (b ≡ c → ⊥) → Uncut c part → Uncut c (part ++ b ∷ [])
uncut_more c b [] n u = (n, tt)
uncut_more c b (x ∷ part) n u = (u.0, uncut_more c b part n u.1)

abbrev all_parts : Fed → List (List ℕ)
all_parts f = f.ended ++ f.rest ∷ []

fed_cut : (held bytes : List ℕ) → Uncut end_byte held → Cut end_byte (held ++ bytes) (all_parts (fed held bytes))
fed_cut held [] u =
    subst (λ (f : Fed). Cut end_byte (held ++ []) (all_parts f)) (sym (fed_none held)) (subst (λ (s : List ℕ). Cut end_byte s (held ∷ [])) (sym (append-nil held)) (last held u))
fed_cut held (b ∷ bytes) u = go (ℕ_discrete b end_byte) (fed_cut [] bytes tt) (λ v. fed_cut (held ++ b ∷ []) bytes v)
  where
    go : Dec (b ≡ end_byte) → Cut end_byte bytes (all_parts (fed [] bytes))
        → (Uncut end_byte (held ++ b ∷ []) → Cut end_byte ((held ++ b ∷ []) ++ bytes) (all_parts (fed (held ++ b ∷ []) bytes)))
        → Cut end_byte (held ++ b ∷ bytes) (all_parts (fed held (b ∷ bytes)))
    go (yes e) h k =
        subst (λ (f : Fed). Cut end_byte (held ++ b ∷ bytes) (all_parts f)) (sym (fed_end held b bytes e))
        (subst (λ (x : ℕ). Cut end_byte (held ++ x ∷ bytes) (held ∷ all_parts (fed [] bytes))) (sym e) (cut held u h))
    go (no n) h k =
        subst (λ (f : Fed). Cut end_byte (held ++ b ∷ bytes) (all_parts f)) (sym (fed_other held b bytes n))
        (subst (λ (s : List ℕ). Cut end_byte s (all_parts (fed (held ++ b ∷ []) bytes))) (append_assoc held (b ∷ []) bytes) (k (uncut_more end_byte b held n u)))

pub fed_parts : (input : List ℕ) → (fed [] input).ended ++ (fed [] input).rest ∷ [] ≡ parts_of end_byte input
fed_parts input = cut_is end_byte (fed_cut [] input tt)

pub fed_lines : (input : List ℕ) → map bare ((fed [] input).ended ++ (fed [] input).rest ∷ []) ≡ lines_of input
fed_lines input = ap (map bare) (fed_parts input)

-- ---- what a buffer keeps
pub holds_none : {buffer : List ℕ} → held_bytes ≤ length buffer → Holds buffer 0 []
holds_none {buffer} l = record { long = l; within = omega arith; bytes = sym (take_all (length buffer) [] (omega arith)) }

-- how much it is
holds_long : {buffer : List ℕ} {kept : ℕ} {part : List ℕ} → Holds buffer kept part → kept ≡ min (length buffer) (length part)
holds_long {buffer} {kept} {part} h =
    let e : length (take kept buffer) ≡ length (take (length buffer) part) = ap length h.bytes in
    omega (arith, h.within, e, length-take kept buffer, length-take (length buffer) part)

-- the buffer is as good for the next part
pub holds_next : {buffer : List ℕ} {kept : ℕ} {part : List ℕ} → Holds buffer kept part → Holds buffer 0 []
holds_next h = holds_none h.long

-- a byte more, where there is room
pub holds_more : {buffer : List ℕ} {kept : ℕ} {part : List ℕ} (b : ℕ) → kept < length buffer → Holds buffer kept part → Holds (set buffer kept b) (kept + 1) (part ++ b ∷ [])
holds_more {buffer} {kept} {part} b l h =
    let n = length-set buffer kept b in
    let k = holds_long h in
    let whole : take kept buffer ≡ part = h.bytes ∙ take_all (length buffer) part (omega (arith, k, l)) in
    let room : length (part ++ b ∷ []) ≤ length (set buffer kept b) = omega (arith, k, l, n, length-append part (b ∷ [])) in
    record {
      long = omega (arith, n, h.long);
      within = omega (arith, l, n);
      bytes = ap (λ (j : ℕ). take j (set buffer kept b)) (add-one kept) ∙ take-suc-set buffer kept b l ∙ ap (λ (s : List ℕ). s ++ b ∷ []) whole
          ∙ sym (take_all (length (set buffer kept b)) (part ++ b ∷ []) room);
    }

-- and where there is none
pub holds_full : {buffer : List ℕ} {kept : ℕ} {part : List ℕ} (b : ℕ) → length buffer ≤ kept → Holds buffer kept part → Holds buffer kept (part ++ b ∷ [])
holds_full {buffer} {kept} {part} b l h =
    let k = holds_long h in
    record { long = h.long; within = h.within; bytes = h.bytes ∙ sym (take-append-le (length buffer) part (b ∷ []) (omega (arith, k, l, h.within))) }

-- ---- a line without its byte 13
pub bare_none : (line : List ℕ) → length line ≡ 0 → line ≡ bare line
unfolding bare
bare_none [] e = refl
bare_none (b ∷ line) e = absurd (omega arith)

bare_one : (b : ℕ) → (b ≡ return_byte → ⊥) → b ∷ [] ≡ bare (b ∷ [])
unfolding bare
bare_one b n = sym (if_neg (ℕ_discrete b return_byte) n _ _)

bare_return : (b : ℕ) → b ≡ return_byte → [] ≡ bare (b ∷ [])
unfolding bare
bare_return b e = sym (if_pos (ℕ_discrete b return_byte) e _ _)

bare_cons : (b c : ℕ) (s : List ℕ) → bare (b ∷ c ∷ s) ≡ b ∷ bare (c ∷ s)
unfolding bare
bare_cons b c s = refl

pub bare_ended : (line : List ℕ) (n : ℕ) → length line ≡ suc n → get_or line n 0 ≡ return_byte → take n line ≡ bare line
bare_ended [] n e h = absurd (omega arith)
bare_ended (b ∷ []) zero e h = bare_return b h
bare_ended (b ∷ []) (suc n) e h = absurd (omega arith)
bare_ended (b ∷ c ∷ s) zero e h = absurd (omega arith)
bare_ended (b ∷ c ∷ s) (suc n) e h = ap (λ (l : List ℕ). b ∷ l) (bare_ended (c ∷ s) n (omega arith) h) ∙ sym (bare_cons b c s)

pub bare_other : (line : List ℕ) (n : ℕ) → length line ≡ suc n → (get_or line n 0 ≡ return_byte → ⊥) → line ≡ bare line
bare_other [] n e h = absurd (omega arith)
bare_other (b ∷ []) zero e h = bare_one b h
bare_other (b ∷ []) (suc n) e h = absurd (omega arith)
bare_other (b ∷ c ∷ s) zero e h = absurd (omega arith)
bare_other (b ∷ c ∷ s) (suc n) e h = ap (λ (l : List ℕ). b ∷ l) (bare_other (c ∷ s) n (omega arith) h) ∙ sym (bare_cons b c s)

-- it has a byte less at most
pub bare_long : (line : List ℕ) → length line ≤ length (bare line) + 1
bare_long [] = omega arith
bare_long (b ∷ []) = omega arith
bare_long (b ∷ c ∷ s) = let e : length (bare (b ∷ c ∷ s)) ≡ suc (length (bare (c ∷ s))) = ap length (bare_cons b c s) in omega (arith, e, bare_long (c ∷ s))

-- and of two bytes or more it keeps the first
pub bare_first : (line : List ℕ) → 2 ≤ length line → get_or (bare line) 0 0 ≡ get_or line 0 0
bare_first [] h = absurd (omega arith)
bare_first (b ∷ []) h = absurd (omega arith)
bare_first (b ∷ c ∷ s) h = ap (λ (l : List ℕ). get_or l 0 0) (bare_cons b c s)
