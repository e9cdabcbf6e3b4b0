use Rattle.std.proofs.lemmas.Result.{on_ok_weaker}
use Rattle.template_match.specs.Search.{values_of}
use Rattle.template_match.proofs.LevelLaws.{search_done}
use Rattle.template_match.proofs.search.search_from.Goals as goal

pub returns : goal.returns
returns c =
    on_ok_weaker c.search_levels.result
    (search_done c.args.prepared.now c.args.binding.now.values c.in_ok-roots.roots.values c.new-levels.result c.enter_allowed.new.levels (values_of c.args.found.now) (values_of c.enter_allowed.new.found)
    (values_of c.search_levels.new.found) c.new-levels.ensures c.in_ok-roots.ensures c.in_ok-enter_allowed.ensures)
    c.search_levels.ensures
