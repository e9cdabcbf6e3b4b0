use Rattle.std.proofs.Common.{◌∙◌, sym, arith}
use Rattle.staying_objects.specs.declared.fate.Fate.TheVariants as fates
use Rattle.staying_objects.proofs.FateLaws.{has_fate, known_here, climb_begin, climb_step, climb_end, open_top_stays}
use Rattle.staying_objects.proofs.climbing.goes.Goals as goal

pub loop-step-init : goal.loop-step-init
loop-step-init c = climb_begin c.args.repair.now c.args.o.0 c.requires.live

pub fate_of-requires : goal.fate_of-requires
fate_of-requires c = has_fate c.args.repair.now c.args.fates.now c.loop-step.at.0 c.requires.fates c.loop-step.invariant.live

pub returns-in-Goes : goal.returns-in-Goes
returns-in-Goes c =
    sym (c.loop-step.invariant.same
    ∙ known_here c.args.repair.now c.args.fates.now c.loop-step.at.0 c.requires.fates c.loop-step.invariant.live fates.Goes c.in-Goes.ensures)

pub returns-in-Stays : goal.returns-in-Stays
returns-in-Stays c =
    sym (c.loop-step.invariant.same
    ∙ known_here c.args.repair.now c.args.fates.now c.loop-step.at.0 c.requires.fates c.loop-step.invariant.live fates.Stays c.in-Stays.ensures)

pub container-requires : goal.container-requires
container-requires c = c.loop-step.invariant.live

pub returns-in-None : goal.returns-in-None
returns-in-None c =
    let here =
    known_here c.args.repair.now c.args.fates.now c.loop-step.at.0 c.requires.fates c.loop-step.invariant.live fates.Open c.in-Open.ensures in
    sym (c.loop-step.invariant.same ∙ open_top_stays c.args.repair.now c.loop-step.at.0 here c.in-None.ensures.top)

pub loop-step-preserved : goal.loop-step-preserved
loop-step-preserved c =
    let here =
    known_here c.args.repair.now c.args.fates.now c.loop-step.at.0 c.requires.fates c.loop-step.invariant.live fates.Open c.in-Open.ensures in
    let count = c.end-step-end.ensures.number in
    climb_step c.args.repair.now c.args.o.0 c.loop-step.at.0 c.loop-step._step c.in-Some.container.0 c.in-Some.field-0-1.0
    c.end-step-end.ensures.kept c.loop-step.invariant
    (omega (arith, c.loop-step-test.true, count)) here c.in-Some.ensures.contained c.in-Some.ensures.reference c.in-Some.ensures.live

pub fate_of-last-requires : goal.fate_of-last-requires
fate_of-last-requires c = has_fate c.args.repair.now c.args.fates.now c.loop-step.at.0 c.requires.fates c.loop-step.invariant.live

pub returns : goal.returns
returns c =
    let here =
    known_here c.args.repair.now c.args.fates.now c.loop-step.at.0 c.requires.fates c.loop-step.invariant.live c.fate_of-last.result
    c.fate_of-last.ensures in
    let count = c.end-step-end.ensures.number in
    c.is_going.ensures ∙ climb_end c.args.repair.now c.args.o.0 c.loop-step.at.0 c.loop-step._step c.fate_of-last.result c.loop-step.invariant
    (omega (arith, c.loop-step-test.false, count)) here
