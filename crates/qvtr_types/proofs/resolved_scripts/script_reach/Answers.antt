use Rattle.std.proofs.Common.{ℕ, List, length, sym, ap, subst, ◌∙◌}
use Rattle.std.specs.Prelude.{IsTrue}
use Rattle.qv_syntax.specs.declared.query.ModelSlot.{ModelSlot}
use Rattle.ocl_environments.specs.Environments.{have_metas}
use Rattle.script_scopes.specs.Environments.{metamodel_names}
use Rattle.qvtr_types.proofs.SlotLaws.{slots_placed}
use Rattle.qvtr_types.proofs.resolved_scripts.script_reach.Goals as goal

pub over-requires-clause-named : goal.over-requires-clause-named
over-requires-clause-named c = ap (λ (ns : List (List ℕ)). length ns) c.in_ok-names.ensures ∙ c.requires

pub over-requires-clause-placed : goal.over-requires-clause-placed
over-requires-clause-placed c =
    subst (λ (ns : List (List ℕ)). IsTrue (have_metas c.in_ok-models.models (length ns))) (sym c.in_ok-names.ensures)
    (subst (λ (ms : List ModelSlot). IsTrue (have_metas ms (length (metamodel_names c.args.script.now)))) (sym c.in_ok-models.ensures) (slots_placed c.args.script.now))
