use Rattle.std.proofs.Common.{reverse, subst}
use Rattle.std.proofs.lemmas.Result.{on_ok_weaker}
use Rattle.template_match.specs.Levels.{IsBegun}
use Rattle.template_match.specs.Prepared.{problem_in}
use Rattle.template_match.specs.Search.{values_of}
use Rattle.template_match.proofs.LevelLaws.{more_pushed, more_found}
use Rattle.template_match.proofs.search.enter.Goals as goal

pub returns-in_ok-open_level-in-Some : goal.returns-in_ok-open_level-in-Some
returns-in_ok-open_level-in-Some c =
    let s = c.args.prepared.now in
    let a = c.args.binding.now.values in
    let olds = values_of c.args.found.now in
    let news = values_of c.begin.new.found in
    on_ok_weaker c.push.result
    (more_pushed s a olds news c.args.levels.now c.push.new.self c.in-Some.level c.requires.prepared c.requires.levels
    (subst (IsBegun (problem_in s) a olds news) c.in-Some.is c.in_ok-level.ensures))
    c.push.ensures.ok

pub returns-in-None : goal.returns-in-None
returns-in-None c =
    let s = c.args.prepared.now in
    let a = c.args.binding.now.values in
    let olds = values_of c.args.found.now in
    let news = values_of c.begin.new.found in
    more_found s a olds news (reverse c.args.levels.now) c.requires.levels (subst (IsBegun (problem_in s) a olds news) c.in-None.is c.in_ok-level.ensures)
