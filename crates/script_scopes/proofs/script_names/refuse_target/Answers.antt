use Rattle.std.proofs.Common.{◌≡◌, true, false, ap}
use Rattle.std.specs.Prelude.{chars}
use Rattle.std.specs.Set.{is_member}
use Rattle.mof_metamodel.specs.Characters.{same_name}
use Rattle.ocl_environments.specs.declared.fault.TypeFault.TheVariants.{UnknownModel}
use Rattle.script_scopes.specs.ScriptNames.{model_names}
use Rattle.script_scopes.proofs.NameLemmas.{has_name, lacks_name}
use Rattle.script_scopes.proofs.script_names.refuse_target.Goals as goal

pub returns-then-is_model-clause-aimed : goal.returns-then-is_model-clause-aimed
returns-then-is_model-clause-aimed c =
    let told : is_member same_name (model_names c.args.script.now.models) (chars c.args.target.now) ≡ true = cc in
    has_name (model_names c.args.script.now.models) (chars c.args.target.now) told

pub returns-clause-fault : goal.returns-clause-fault
returns-clause-fault c =
    let told : is_member same_name (model_names c.args.script.now.models) (chars c.args.target.now) ≡ false = cc in
    (ap UnknownModel c.in_ok-text.ensures.characters, lacks_name (model_names c.args.script.now.models) (chars c.args.target.now) told)
