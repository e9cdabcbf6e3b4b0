-- Where no fault stands in a script its names are distinct.
use Rattle.std.proofs.Common.{◌++◌, map}
use Rattle.ocl_environments.specs.declared.fault.TypeFault.{TypeFault}
use Rattle.script_scopes.specs.ScriptNames.{model_names}
use Rattle.script_scopes.specs.Environments.{Setting, metamodel_names}
use Rattle.script_scopes.specs.Declarations.{relation_names, queries_of, global_names}
use Rattle.script_scopes.specs.Faults.{StandsInScript}
use Rattle.script_scopes.proofs.CallRowLaws.{relations_once}
use Rattle.script_variables.proofs.NameOrderLaws.{repeated_left}
use Rattle.qvtr_types.proofs.well_formed.Numbers.{AreApart}

module _ (s : Setting) (none : (f : TypeFault) → StandsInScript s f → ⊥) where
  global_apart : AreApart (global_names s.script)
  global_apart name twice = none _ (StandsInScript.name name twice)

  pub relations_apart : AreApart (relation_names s.script)
  relations_apart = relations_once s.script global_apart

  pub models_apart : AreApart (model_names s.script.models)
  models_apart name twice = global_apart name
      (repeated_left ((model_names s.script.models ++ metamodel_names s.script) ++ relation_names s.script) (map (λ q. q.name.text) (queries_of s.script)) name
      (repeated_left (model_names s.script.models ++ metamodel_names s.script) (relation_names s.script) name
      (repeated_left (model_names s.script.models) (metamodel_names s.script) name twice)))
