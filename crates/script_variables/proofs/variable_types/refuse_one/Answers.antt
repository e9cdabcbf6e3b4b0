use Rattle.std.proofs.Common.{◌≡◌, ◌≢◌, sym, ap, ◌∙◌}
use Rattle.mof_metamodel.specs.NameTables.{value_of}
use Rattle.ocl_environments.specs.declared.fault.TypeFault.{TypeFault}
use Rattle.ocl_environments.specs.Outcomes.{wrong_type}
use Rattle.ocl_types.proofs.QueryLemmas.{fault_of_result}
use Rattle.script_scopes.specs.VariableTypes.{IsOtherThan}
use Rattle.script_variables.proofs.variable_types.refuse_one.Goals as goal

pub returns-in-Some-clause-fault : goal.returns-in-Some-clause-fault
returns-in-Some-clause-fault c =
    fault_of_result c.refuse_class.result (λ (f : TypeFault). (c.in-Some.ty.now ≢ c.args.class.now) × (f ≡ wrong_type c.args.metas.now c.in-Some.ty.now c.args.class.now))
    (IsOtherThan c.args.metas.now c.args.declared.now (c.args.name.now, c.args.class.now))
    (λ f h. (c.in-Some.ty.now, sym (c.in-Some.ensures ∙ ap (value_of c.args.declared.now) c.as_str.ensures.characters), h.0, h.1))
    c.refuse_class.ensures.fault
