use Rattle.std.proofs.Common.{reverse}
use Rattle.template_match.specs.Prepared.{problem_in}
use Rattle.template_match.specs.Search.{values_of}
use Rattle.template_match.proofs.LevelLaws.{more_found}
use Rattle.template_match.proofs.SearchLaws.{barren_found}
use Rattle.template_match.proofs.search.enter_allowed.Goals as goal

pub returns-else-allowed : goal.returns-else-allowed
returns-else-allowed c =
    let s = c.args.prepared.now in
    let a = c.args.binding.now.values in
    let olds = values_of c.args.found.now in
    more_found s a olds olds (reverse c.args.levels.now) c.requires.levels (barren_found (problem_in s) a olds (c.in_ok-allowed.ensures c.if-allowed.false))
