use Rattle.staying_objects.specs.declared.fate.Fate.TheVariants as fates
use Rattle.staying_objects.proofs.FateLaws.{has_fate, known_here, fates_set, goes_up, fewer_open}
use Rattle.staying_objects.proofs.climbing.put.Goals as goal

pub fate_of-requires : goal.fate_of-requires
fate_of-requires c = has_fate c.args.repair.now c.loop-fates.fates c.loop-fates.at.0 c.loop-fates.invariant.fates_are c.loop-fates.invariant.live

pub loop-fates-preserved : goal.loop-fates-preserved
loop-fates-preserved c =
    let r = c.args.repair.now in
    let before = c.loop-fates.invariant in
    let here = known_here r c.loop-fates.fates c.loop-fates.at.0 before.fates_are before.live fates.Open c.in-Open.ensures in
    record {
      live = c.in-Some.ensures.live;
      fates_are =
          fates_set r c.loop-fates.fates c.loop-fates.at.0 c.args.goes c.known_fate.result before.fates_are before.live before.goes_is
          c.known_fate.ensures;
      goes_is =
          goes_up r c.loop-fates.at.0 c.in-Some.container.0 c.in-Some.field-0-1.0 c.args.goes c.end.ensures.kept before.live here
          c.in-Some.ensures.contained c.in-Some.ensures.reference
          c.in-Some.ensures.live before.goes_is;
    }

pub loop-fates-smaller : goal.loop-fates-smaller
loop-fates-smaller c =
    fewer_open c.loop-fates.fates c.loop-fates.at.0 c.args.goes c.known_fate.result
    (has_fate c.args.repair.now c.loop-fates.fates c.loop-fates.at.0 c.loop-fates.invariant.fates_are c.loop-fates.invariant.live)
    c.in-Open.ensures c.known_fate.ensures

pub returns-in-None : goal.returns-in-None
returns-in-None c =
    fates_set c.args.repair.now c.loop-fates.fates c.loop-fates.at.0 c.args.goes c.known_fate.result c.loop-fates.invariant.fates_are
    c.loop-fates.invariant.live c.loop-fates.invariant.goes_is
    c.known_fate.ensures
