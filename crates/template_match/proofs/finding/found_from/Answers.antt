use Rattle.std.proofs.Common.{List, subst}
use Rattle.qvtr_semantics.specs.declared.binding.Binding.{Binding}
use Rattle.template_match.specs.Branches.{IsFound}
use Rattle.template_match.specs.Prepared.{problem_in}
use Rattle.template_match.specs.Search.{values_of}
use Rattle.template_match.proofs.finding.found_from.Goals as goal

pub returns : goal.returns
returns c =
    subst (λ (olds : List Binding). IsFound (problem_in c.args.prepared.now) c.args.roots.now.values (values_of olds) (values_of c.search_from.new.found)) c.new-found.ensures
    c.in_ok-search_from.ensures
