use Rattle.std.proofs.Common.{◌≡◌, false, take}
use Rattle.std.specs.Prelude.{IfSome, IfNone, Contains}
use Rattle.template_match.specs.declared.link.Link.{Link}
use Rattle.template_match.specs.Branches.{IsChoice}
use Rattle.template_match.specs.Prepared.{problem_in}
use Rattle.template_match.specs.Search.{usable_link}
use Rattle.template_match.proofs.choosing.best_link.Given as goal

abbrev pub invariant-loop-link : goal.invariant-loop-link
invariant-loop-link l = IfSome l.best (IsChoice (problem_in l.prepared) l.binding.values)
    × IfNone l.best ((k : Link) → Contains (take l.link-index l.prepared.task.now.links.now) k → usable_link (problem_in l.prepared) l.binding.values k ≡ false)
