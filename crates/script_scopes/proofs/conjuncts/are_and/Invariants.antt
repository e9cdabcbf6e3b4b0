use Rattle.std.proofs.Common.{◌≡◌, drop}
use Rattle.std.specs.List.{list_all}
use Rattle.script_scopes.specs.Conjuncts.{behind}
use Rattle.script_scopes.proofs.conjuncts.are_and.Given as goal

abbrev pub invariant-loop-link : goal.invariant-loop-link
invariant-loop-link l = list_all (λ k. (behind k).is_and) (drop l.link-index l.links) ≡ list_all (λ k. (behind k).is_and) l.links
