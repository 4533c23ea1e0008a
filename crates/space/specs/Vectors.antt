-- Vectors of three whole numbers: the words in which the verdicts are said.
-- A corner, a difference of corners and a direction are all of this kind.
use Rattle.std.specs.Prelude.{◌≡◌, List, ◌∷◌, ℤ, pos, ◌+ℤ◌, ◌-ℤ◌, ◌*ℤ◌}
pub use Rattle.space.specs.declared.Vec3.{Vec3}
use Rattle.space.specs.declared.Axis.{Axis}
use Rattle.space.specs.declared.Axis.TheVariants.{X, Y, Z}

-- d·a
abbrev pub dot : Vec3 → Vec3 → ℤ
dot a b = a.x *ℤ b.x +ℤ a.y *ℤ b.y +ℤ a.z *ℤ b.z

-- a × b
abbrev pub cross : Vec3 → Vec3 → Vec3
cross a b = record { x = a.y *ℤ b.z -ℤ a.z *ℤ b.y; y = a.z *ℤ b.x -ℤ a.x *ℤ b.z; z = a.x *ℤ b.y -ℤ a.y *ℤ b.x }

abbrev pub minus : Vec3 → Vec3 → Vec3
minus a b = record { x = a.x -ℤ b.x; y = a.y -ℤ b.y; z = a.z -ℤ b.z }

abbrev pub plus : Vec3 → Vec3 → Vec3
plus a b = record { x = a.x +ℤ b.x; y = a.y +ℤ b.y; z = a.z +ℤ b.z }

abbrev pub scale : ℤ → Vec3 → Vec3
scale k a = record { x = k *ℤ a.x; y = k *ℤ a.y; z = k *ℤ a.z }

-- [a b c]
abbrev pub det : Vec3 → Vec3 → Vec3 → ℤ
det a b c = dot (cross a b) c

-- N(a, b, c), normal to the plane through a, b and c
abbrev pub normal : Vec3 → Vec3 → Vec3 → Vec3
normal a b c = plus (plus (cross b c) (cross c a)) (cross a b)

abbrev pub origin : Vec3
origin = record { x = pos 0; y = pos 0; z = pos 0 }

-- −a
abbrev pub opposite : Vec3 → Vec3
opposite a = minus origin a

-- three equal coordinates make equal vectors
pub vec_eq : {ax ay az bx by bz : ℤ} → ax ≡ bx → ay ≡ by → az ≡ bz → ◌≡◌ {A = Vec3} (record { x = ax; y = ay; z = az }) (record { x = bx; y = by; z = bz })
vec_eq p q r = λ i. record { x = p i; y = q i; z = r i }

-- the three coordinates, before others: the atoms that `by_ring` is called with
abbrev pub env1 : Vec3 → List ℤ → List ℤ
env1 a r = a.x ∷ a.y ∷ a.z ∷ r

-- ---- the axes, each with the one after it, and what lies along each
abbrev pub next_axis : Axis → Axis
next_axis X = Y
next_axis Y = Z
next_axis Z = X

abbrev pub unit : Axis → Vec3
unit X = record { x = pos 1; y = pos 0; z = pos 0 }
unit Y = record { x = pos 0; y = pos 1; z = pos 0 }
unit Z = record { x = pos 0; y = pos 0; z = pos 1 }

abbrev pub coordinate : Axis → Vec3 → ℤ
coordinate X v = v.x
coordinate Y v = v.y
coordinate Z v = v.z
