use Rattle.std.proofs.Common.{◌++◌, sym, ◌∙◌, ap, arith}
use Rattle.std.specs.Option.{option_to_list}
use Rattle.mof_metamodel.proofs.TableLemmas.{filter_map_more}
use Rattle.script_scopes.specs.Declarations.{query_in}
use Rattle.script_scopes.proofs.declared.queries_in.Goals as goal

pub loop-declaration-preserved : goal.loop-declaration-preserved
loop-declaration-preserved c =
    c.in_ok-push_query.ensures ∙ ap (λ rs. rs ++ option_to_list (query_in c.declaration-item.result)) c.loop-declaration.invariant
    ∙ sym (filter_map_more query_in c.args.declarations.now c.loop-declaration.declaration-index c.declaration-item.result (omega arith) c.declaration-item.is)
