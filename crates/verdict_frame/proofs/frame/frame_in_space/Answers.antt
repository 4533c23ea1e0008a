-- `verdict_frame::frame_in_space`: the third scan finds a point off the plane, or shows that all is in it.
use Rattle.space.specs.Ranges.{upto_le}
use Rattle.verdict_frame.specs.FrameLaws.{tagged_upto, cross_near, framed_solid_of, framed_in_a_plane}
use Rattle.verdict_frame.proofs.frame.frame_in_space.Goals as goal

pub cross-n-requires : goal.cross-n-requires
cross-n-requires c = (
  upto_le tt (tagged_upto c.requires.placed.0 c.requires.placed.1 c.requires.wide.tagged_a),
  upto_le tt
      (tagged_upto c.requires.placed.0 c.requires.placed.1 c.requires.wide.tagged_b),
)

pub plane_rows-requires : goal.plane_rows-requires
plane_rows-requires c = upto_le tt (cross_near c.requires.placed.0 c.requires.placed.1 c.requires.wide c.cross-n.ensures.0)

pub returns-in-Some : goal.returns-in-Some
returns-in-Some c =
    framed_solid_of c.requires.wide c.cross-n.ensures.0 c.plane_rows.ensures.0
    c.in-Some.ensures

pub in_a_plane-requires : goal.in_a_plane-requires
in_a_plane-requires c =
    let p = c.requires in (
      tagged_upto p.placed.0 p.placed.1 p.wide.tagged_a,
      tagged_upto p.placed.0 p.placed.1 p.wide.tagged_b,
      upto_le tt (cross_near p.placed.0 p.placed.1 p.wide c.cross-n.ensures.0),
    )

pub returns-in-None : goal.returns-in-None
returns-in-None c =
    framed_in_a_plane c.requires.placed.0 c.requires.placed.1
    c.requires.wide c.cross-n.ensures.0 c.plane_rows.ensures.0
    c.in-None.ensures c.in_a_plane.ensures
