use Rattle.std.proofs.Common.{◌≡◌, List, refl, subst, arith}
use Rattle.call_graph.specs.declared.step.Step.{Step}
use Rattle.call_graph.specs.declared.walk.Walk.{Walk}
use Rattle.call_graph.specs.Strata.{IsOnWhenCycle}
use Rattle.call_graph.specs.Tops.{IsOpenWhen}
use Rattle.call_graph.specs.Walks.{IsLowered}
use Rattle.call_graph.proofs.SegmentLemmas.{popped_step, option_on}
use Rattle.call_graph.proofs.WalkLemmas.{place_within, leave_on, close_on, cycle_on, room}
use Rattle.call_graph.proofs.walk.leave.Goals as goal

pub returns-then-step : goal.returns-then-step
returns-then-step c =
    let walk : Walk = c.args.walk.now in
    let front : List Step = c.requires.last.0 in
    let rest : c.pop-last.new.self ≡ front = popped_step c.pop-last.result walk.path c.pop-last.new.self front c.args.step c.pop-last.ensures c.requires.last.1 in
    let after : Walk = record { standings = walk.standings; passed = walk.passed; stack = walk.stack; path = c.lower.new.path } in
    leave_on c.args.whens.now c.args.wheres.now walk c.requires.walk c.requires.same front c.args.step c.requires.last.1 c.requires.all after c.if-step.true refl refl refl
    (subst (λ (f : List Step). IsLowered f c.args.step.low c.lower.new.path) rest c.in_ok-lower.ensures)

pub close-requires-clause-room : goal.close-requires-clause-room
close-requires-clause-room c = λ w stratum is.
    let walk : Walk = c.args.walk.now in
    let within = place_within c.args.whens.now c.args.wheres.now walk c.requires.walk c.requires.same c.requires.last.0 c.args.step c.requires.last.1 in
    room c.args.whens.now c.args.wheres.now walk.standings.items walk.passed.items walk.stack walk.path w stratum c.requires.walk (omega (arith, within)) is

pub close-requires-clause-before : goal.close-requires-clause-before
close-requires-clause-before c =
    let within = place_within c.args.whens.now c.args.wheres.now c.args.walk.now c.requires.walk c.requires.same c.requires.last.0 c.args.step c.requires.last.1 in
    omega (arith, within)

pub returns : goal.returns
returns c =
    let whens = c.args.whens.now in
    let wheres = c.args.wheres.now in
    let walk : Walk = c.args.walk.now in
    let front : List Step = c.requires.last.0 in
    let rest : c.pop-last.new.self ≡ front = popped_step c.pop-last.result walk.path c.pop-last.new.self front c.args.step c.pop-last.ensures c.requires.last.1 in
    let middle : Walk = record { standings = walk.standings; passed = walk.passed; stack = walk.stack; path = c.pop-last.new.self } in
    option_on (IsOpenWhen whens walk.standings.items walk.stack c.args.step.place) (IsOnWhenCycle whens wheres) c.close.result c.close.ensures
    (λ closed. close_on whens wheres walk c.requires.walk c.requires.same front c.args.step c.requires.last.1 c.requires.all c.close.new.walk c.if-step.false middle refl refl refl rest closed)
    (λ u found. cycle_on whens wheres walk c.requires.walk c.requires.same front c.args.step c.requires.last.1 c.requires.all u c.if-step.false found)
