use Rattle.std.proofs.Common.{ℕ, List, ◌++◌, sym, ◌∙◌, ap, append_assoc, arith, take}
use Rattle.std.specs.Prelude.{Option}
use Rattle.std.specs.List.{filter_map}
use Rattle.std.specs.Option.{option_to_list}
use Rattle.mof_metamodel.proofs.TableLemmas.{filter_map_more}
use Rattle.qv_syntax.specs.declared.script.DomainTree.{DomainTree}
use Rattle.script_scopes.specs.Occurrences.{root_of}
use Rattle.script_scopes.specs.Divisions.{model_of}
use Rattle.script_scopes.specs.Faults.{root_where}
use Rattle.script_scopes.proofs.relation_names.add_roots.Goals as goal

abbrev root_in : DomainTree → Option (List ℕ)
root_in d = root_where (model_of d) (root_of d)

pub loop-domain-preserved : goal.loop-domain-preserved
loop-domain-preserved c =
    c.in_ok-push_root.ensures ∙ ap (λ (ns : List (List ℕ)). ns ++ option_to_list (root_in c.domain-item.result)) c.loop-domain.invariant
    ∙ append_assoc c.args.out.now (filter_map root_in (take c.loop-domain.domain-index c.args.domains.now)) (option_to_list (root_in c.domain-item.result))
    ∙ ap (λ (ns : List (List ℕ)). c.args.out.now ++ ns) (sym (filter_map_more root_in c.args.domains.now c.loop-domain.domain-index c.domain-item.result (omega arith) c.domain-item.is))
