use Rattle.std.proofs.Common.{[], ◌∙◌, sym, ap}
use Rattle.mof_metamodel.specs.MetaFaults.{first_repeat}
use Rattle.ocl_environments.specs.declared.fault.TypeFault.TheVariants.{DuplicateName}
use Rattle.script_scopes.specs.Occurrences.{template_variables}
use Rattle.script_scopes.proofs.RepeatLemmas.{is_repeated, none_repeated}
use Rattle.script_scopes.proofs.name_faults.refuse_two_templates.Goals as goal

pub returns-in-Some-clause-fault : goal.returns-in-Some-clause-fault
returns-in-Some-clause-fault c = record {
  name = c.in-Some.name;
  repeated = is_repeated (template_variables c.args.r.now) c.in-Some.name
      (ap (first_repeat []) (sym (c.as_slice.ensures ∙ c.in_ok-names.ensures)) ∙ sym c.in_ok-name.ensures ∙ c.in-Some.is);
  is = ap DuplicateName c.in_ok-text-in-Some.ensures;
}

pub returns-clause-none : goal.returns-clause-none
returns-clause-none c = none_repeated (template_variables c.args.r.now)
    (ap (first_repeat []) (sym (c.as_slice.ensures ∙ c.in_ok-names.ensures)) ∙ sym c.in_ok-name.ensures ∙ c.in-None.is)
