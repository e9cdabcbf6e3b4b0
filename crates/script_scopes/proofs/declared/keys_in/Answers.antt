use Rattle.std.proofs.Common.{◌++◌, sym, ◌∙◌, ap, arith}
use Rattle.std.specs.Option.{option_to_list}
use Rattle.mof_metamodel.proofs.TableLemmas.{filter_map_more}
use Rattle.script_scopes.specs.Declarations.{key_in}
use Rattle.script_scopes.proofs.declared.keys_in.Goals as goal

pub loop-declaration-preserved : goal.loop-declaration-preserved
loop-declaration-preserved c =
    c.in_ok-push_key.ensures ∙ ap (λ rs. rs ++ option_to_list (key_in c.declaration-item.result)) c.loop-declaration.invariant
    ∙ sym (filter_map_more key_in c.args.declarations.now c.loop-declaration.declaration-index c.declaration-item.result (omega arith) c.declaration-item.is)
