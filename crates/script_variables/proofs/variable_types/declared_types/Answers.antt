use Rattle.std.proofs.Common.{ap, subst, ◌∙◌, map}
use Rattle.std.specs.Prelude.{All}
use Rattle.script_scopes.specs.VariableTypes.{shown_written, HasSingle}
use Rattle.script_variables.proofs.variable_types.declared_types.Goals as goal

pub returns-clause-single : goal.returns-clause-single
returns-clause-single c = subst (All (HasSingle c.args.env.now)) (ap (map shown_written) c.as_slice-listed.ensures ∙ c.in_ok-written.ensures) c.in_ok-add_typings.ensures.single
