use Rattle.std.proofs.Common.{arith}
use Rattle.object_tables.specs.Containment.{IsContainer}
use Rattle.object_tables.proofs.DepthLemmas.{depth-up, depths-set}
use Rattle.object_tables.proofs.model.Model.put_depths.Goals as goal

pub loop-depths-preserved : goal.loop-depths-preserved
loop-depths-preserved c =
    let up : IsContainer c.args.self.now c.loop-depths.at.0 c.in-Some.container.0 = (c.in-Some.field-0-1.0, c.in-Some.ensures.contained) in
    let (more, is) = depth-up c.args.self.now c.loop-depths.at.0 c.in-Some.container.0 c.loop-depths.left c.end.ensures.kept c.loop-depths.invariant.depth up in
    record {
      live = c.in-Some.ensures.live;
      depth = is;
      depths_are = depths-set c.args.self.now c.loop-depths.depths c.loop-depths.at.0 c.loop-depths.left c.loop-depths.invariant.depths_are c.loop-depths.invariant.live c.loop-depths.invariant.depth;
    }

pub loop-depths-smaller : goal.loop-depths-smaller
loop-depths-smaller c =
    let up : IsContainer c.args.self.now c.loop-depths.at.0 c.in-Some.container.0 = (c.in-Some.field-0-1.0, c.in-Some.ensures.contained) in
    let (more, is) = depth-up c.args.self.now c.loop-depths.at.0 c.in-Some.container.0 c.loop-depths.left c.end.ensures.kept c.loop-depths.invariant.depth up in
    omega arith

pub returns-in-None : goal.returns-in-None
returns-in-None c = depths-set c.args.self.now c.loop-depths.depths c.loop-depths.at.0 c.loop-depths.left c.loop-depths.invariant.depths_are c.loop-depths.invariant.live c.loop-depths.invariant.depth
