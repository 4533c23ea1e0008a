-- The walk itself: what it holds at each round, and what its two ends say.
-- It begins with a portal of the set; it ends with all of the set behind the portal, or with a meeting.
use Rattle.std.specs.Prelude.{◌≡◌, true, false, ℕ, ◌<◌}
use Rattle.space.specs.declared.Vec3.{Vec3}
use Rattle.space.specs.Vectors.{normal}
use Rattle.space.specs.Ranges.{Upto, point_reach, normal_reach}
use Rattle.space.specs.Verdicts.{Piece}
use Rattle.space.specs.Lists.{Placed}
use Rattle.verdict_portal.specs.declared.Three.{Three}
use Rattle.verdict_portal.specs.declared.Slot.{Slot}
use Rattle.verdict_portal.specs.declared.Slot.TheVariants.{First, Second, Third}
use Rattle.verdict_portal.specs.Round.{Setting, PortalHeld, Met, left}
use Rattle.verdict_portal.specs.Exits.{Behind}
use Rattle.verdict_walk.specs.declared.support.Difference.{Difference}
use Rattle.verdict_walk.specs.declared.path.Ended.{Ended}
use Rattle.verdict_walk.specs.Points.{Spread, Tagged, Box}

-- where a portal's three points are
abbrev pub places_of : Three Difference → Three Vec3
places_of t = record { a = t.a.at; b = t.b.at; c = t.c.at }

-- the two pieces and the box, as the walk takes them
pub record Ground (A B : Piece) (g : Vec3) : Type 0 where
  pub first : Placed A
  pub second : Placed B
  pub box : Box g

-- what the walk holds at each round: q is the shift, f the frame, t the portal
pub record Begun (A B : Piece) (g q : Vec3) (f : Three Vec3) (t : Three Difference) : Type 0 where
  pub setting : Setting q f.a f.b f.c
  pub held : PortalHeld q f.a f.b f.c t.a.at t.b.at t.c.at
  pub ofa : Tagged A B g t.a
  pub ofb : Tagged A B g t.b
  pub ofc : Tagged A B g t.c

abbrev pub left_of : Vec3 → Three Vec3 → Three Difference → ℕ
left_of q f t = left q f.a f.b f.c t.a.at t.b.at t.c.at

-- what it says at its end
pub record Walked (A B : Piece) (g q : Vec3) (f : Three Vec3) (r : Ended) : Type 0 where
  pub begun : Begun A B g q f r.portal
  pub normal_is : r.normal ≡ normal r.portal.a.at r.portal.b.at r.portal.c.at
  pub reach : Upto normal_reach r.normal
  pub last : Tagged A B g r.last
  pub apart : r.met ≡ false → Behind (Spread A B g) q r.normal
  pub met : r.met ≡ true → Met q r.last.at r.portal.a.at r.portal.b.at r.portal.c.at

-- ---- p for one of the three
abbrev pub replaced : Slot → Three Difference → Difference → Three Difference
replaced First t p = record { a = p; b = t.b; c = t.c }
replaced Second t p = record { a = t.a; b = p; c = t.c }
replaced Third t p = record { a = t.a; b = t.b; c = p }

-- ---- the points of a portal are near
pub record Corners (t : Three Vec3) : Type 0 where
  pub ina : Upto point_reach t.a
  pub inb : Upto point_reach t.b
  pub inc : Upto point_reach t.c

-- ---- a round that goes on
pub record WalksOn (A B : Piece) (g q : Vec3) (f : Three Vec3) (t u : Three Difference) : Type 0 where
  pub begun : Begun A B g q f u
  pub less : left_of q f u < left_of q f t

-- an end of which all four points are within reach: what the pairs are gathered from
pub record Near (e : Ended) : Type 0 where
  pub portal : Corners (places_of e.portal)
  pub last : Upto point_reach e.last.at
