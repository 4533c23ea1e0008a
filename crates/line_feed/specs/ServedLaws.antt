-- Laws of lines answered one after the other: feeding a and then b is feeding a ++ b (`feeds_more`), desk and all.
-- Then what each step of the loop over a piece of the input hands on.
use Rattle.std.specs.Prelude.{ℕ, ◌+◌, ◌≤◌, ◌<◌, ◌≡◌, refl, List, [], ◌∷◌, ◌++◌, map, Bool, length, get_or, take}
use Rattle.std.proofs.Common.{sym, ap, ◌∙◌, subst, inl, inr, add-one, take-suc}
use Rattle.std.proofs.lemmas.List.{map-append}
use Rattle.line_input.specs.Input.{end_byte, bare, Fed, fed, held_bytes, Holds}
use Rattle.line_input.proofs.InputLaws.{fed_none, fed_end, fed_other, fed_more_lem, fed_lines, holds_none, holds_next}
use Rattle.line_answer.specs.Answered.{Kept}
use Rattle.line_feed.specs.Served.{Serves, Served, none, more, Feeds, FeedsSome, ServedAll}

pub served_append : {trial : Bool} {n : ℕ} {a b : List (List ℕ)} {u v w : Kept} → Served trial n a u v → Served trial n b v w → Served trial n (a ++ b) u w
served_append none k = k
served_append (more s h) k = more s (served_append h k)

-- in room of as many numbers
pub feeds_room : {trial : Bool} {m n : ℕ} {part bytes : List ℕ} {before after : Kept} {buffer : List ℕ} {kept : ℕ} → m ≡ n → Feeds trial m part bytes before after buffer kept
    → Feeds trial n part bytes before after buffer kept
feeds_room {trial} {part = part} {bytes} {before} {after} {buffer} {kept} e h = subst (λ (k : ℕ). Feeds trial k part bytes before after buffer kept) e h

module _ {trial : Bool} {n : ℕ} {part : List ℕ} {before : Kept} where
  pub feeds_more : {between after : Kept} {buffer next : List ℕ} {kept left : ℕ} (a b : List ℕ) → Feeds trial n part a before between buffer kept
      → Feeds trial n (fed part a).rest b between after next left → Feeds trial n part (a ++ b) before after next left
  feeds_more {after = after} {next = next} {left = left} a b h k =
      let e = fed_more_lem part a b in
      record {
        served = subst (λ (f : Fed). Served trial n (map bare f.ended) before after) (sym e)
            (subst (λ (l : List (List ℕ)). Served trial n l before after) (sym (map-append bare (fed part a).ended (fed (fed part a).rest b).ended)) (served_append h.served k.served));
        holds = subst (λ (f : Fed). Holds next left f.rest) (sym e) k.holds;
      }

  -- no byte
  pub feeds_none : {buffer : List ℕ} {kept : ℕ} → Holds buffer kept part → Feeds trial n part [] before before buffer kept
  feeds_none {buffer} {kept} h = record {
    served = subst (λ (f : Fed). Served trial n (map bare f.ended) before before) (sym (fed_none part)) none;
    holds = subst (λ (f : Fed). Holds buffer kept f.rest) (sym (fed_none part)) h;
  }

  -- a line's end
  pub feeds-end : {after : Kept} {buffer : List ℕ} {kept : ℕ} (b : ℕ) → b ≡ end_byte → Holds buffer kept part → Serves trial n (bare part) before after
      → Feeds trial n part (b ∷ []) before after buffer 0
  feeds-end {after} {buffer} b e h k =
      let f : fed part (b ∷ []) ≡ record { ended = part ∷ []; rest = [] } = fed_end part b [] e ∙ ap (λ (g : Fed). record { ended = part ∷ g.ended; rest = g.rest }) (fed_none []) in
      record {
        served = subst (λ (g : Fed). Served trial n (map bare g.ended) before after) (sym f) (more k none);
        holds = subst (λ (g : Fed). Holds buffer 0 g.rest) (sym f) (holds_next h);
      }

  -- any other byte
  pub feeds_other : {buffer : List ℕ} {kept : ℕ} (b : ℕ) → (b ≡ end_byte → ⊥) → Holds buffer kept (part ++ b ∷ []) → Feeds trial n part (b ∷ []) before before buffer kept
  feeds_other {buffer} {kept} b f h =
      let e : fed part (b ∷ []) ≡ record { ended = []; rest = part ++ b ∷ [] } = fed_other part b [] f ∙ fed_none (part ++ b ∷ []) in
      record {
        served = subst (λ (g : Fed). Served trial n (map bare g.ended) before before) (sym e) none;
        holds = subst (λ (g : Fed). Holds buffer kept g.rest) (sym e) h;
      }

  -- a byte more of a piece
  pub feeds-next : {between after : Kept} {buffer next : List ℕ} {kept left : ℕ} (bytes : List ℕ) (i : ℕ) → i < length bytes → Feeds trial n part (take i bytes) before between buffer kept
      → Feeds trial n (fed part (take i bytes)).rest (get_or bytes i 0 ∷ []) between after next left → Feeds trial n part (take (i + 1) bytes) before after next left
  feeds-next {after = after} {next = next} {left = left} bytes i l h k =
      let e : take (i + 1) bytes ≡ take i bytes ++ get_or bytes i 0 ∷ [] = ap (λ (j : ℕ). take j bytes) (add-one i) ∙ take-suc bytes i 0 l in
      subst (λ (s : List ℕ). Feeds trial n part s before after next left) (sym e) (feeds_more (take i bytes) (get_or bytes i 0 ∷ []) h k)

-- ---- the whole of a run
-- before the first byte
pub some-none : {trial : Bool} {n : ℕ} {k : Kept} {buffer : List ℕ} → held_bytes ≤ length buffer → FeedsSome trial n [] k k buffer 0
some-none l = record { bytes = []; feeds = feeds_none (holds_none l) }

-- a piece more
pub some_more : {trial : Bool} {n : ℕ} {before between after : Kept} {buffer next : List ℕ} {kept left : ℕ} (h : FeedsSome trial n [] before between buffer kept)
    → FeedsSome trial n (fed [] h.bytes).rest between after next left → FeedsSome trial n [] before after next left
some_more h k = record { bytes = h.bytes ++ k.bytes; feeds = feeds_more h.bytes k.bytes h.feeds k.feeds }

-- the last line
pub all_lines : {trial : Bool} {n : ℕ} {before between after : Kept} {buffer : List ℕ} {kept : ℕ} (h : FeedsSome trial n [] before between buffer kept)
    → Serves trial n (bare (fed [] h.bytes).rest) between after → ServedAll trial n before after
all_lines h s =
    let f = fed [] h.bytes in
    record {
      input = h.bytes;
      lines = map bare f.ended ++ bare f.rest ∷ [];
      read = inl (sym (map-append bare f.ended (f.rest ∷ [])) ∙ fed_lines h.bytes);
      served = served_append h.feeds.served (more s none);
    }

-- no last line
pub ended_lines : {trial : Bool} {n : ℕ} {before after : Kept} {buffer : List ℕ} {kept : ℕ} → FeedsSome trial n [] before after buffer kept → ServedAll trial n before after
ended_lines h = record { input = h.bytes; lines = map bare (fed [] h.bytes).ended; read = inr refl; served = h.feeds.served }
