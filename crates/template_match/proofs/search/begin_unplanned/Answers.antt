use Rattle.std.proofs.lemmas.Result.{IfOk-weaker}
use Rattle.template_match.specs.Branches.{IsNext}
use Rattle.template_match.specs.Levels.{IsBegun}
use Rattle.template_match.specs.Prepared.{problem_in}
use Rattle.template_match.specs.Search.{values_of}
use Rattle.template_match.proofs.SearchLaws.{tested_found}
use Rattle.template_match.proofs.LevelLaws.{begun_next}
use Rattle.template_match.proofs.search.begin_unplanned.Goals as goal

pub returns-then-is_any_open : goal.returns-then-is_any_open
returns-then-is_any_open c =
    let p = problem_in c.args.prepared.now in
    let a = c.args.binding.now.values in
    let olds = values_of c.args.found.now in
    IfOk-weaker c.next_branch.result (IsNext p a) (IsBegun p a olds olds)
    (begun_next p a olds c.is_any_open.result c.requires.prepared.posed c.requires.prepared.places c.is_any_open.ensures c.if-is_any_open.true) c.next_branch.ensures

pub returns-in_ok-add_tested : goal.returns-in_ok-add_tested
returns-in_ok-add_tested c =
    tested_found (problem_in c.args.prepared.now) c.args.binding.now.values (values_of c.args.found.now) (values_of c.add_tested.new.found) c.is_any_open.result c.is_any_open.ensures
    c.if-is_any_open.false c.requires.prepared.places c.in_ok-add_tested.ensures
