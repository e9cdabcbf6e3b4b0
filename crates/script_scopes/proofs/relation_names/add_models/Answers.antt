use Rattle.std.proofs.Common.{ℕ, List, ◌++◌, sym, ◌∙◌, ap, append_assoc, arith, take}
use Rattle.std.specs.List.{filter_map}
use Rattle.std.specs.Option.{option_to_list}
use Rattle.mof_metamodel.proofs.TableLemmas.{filter_map_more}
use Rattle.script_scopes.specs.Divisions.{model_of}
use Rattle.script_scopes.proofs.relation_names.add_models.Goals as goal

pub loop-domain-preserved : goal.loop-domain-preserved
loop-domain-preserved c =
    c.in_ok-push_model.ensures ∙ ap (λ (ns : List (List ℕ)). ns ++ option_to_list (model_of c.domain-item.result)) c.loop-domain.invariant
    ∙ append_assoc c.args.out.now (filter_map model_of (take c.loop-domain.domain-index c.args.domains.now)) (option_to_list (model_of c.domain-item.result))
    ∙ ap (λ (ns : List (List ℕ)). c.args.out.now ++ ns) (sym (filter_map_more model_of c.args.domains.now c.loop-domain.domain-index c.domain-item.result (omega arith) c.domain-item.is))
