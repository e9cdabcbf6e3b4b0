-- What the expressions of a script may name (OCL 2.4, section 9.4): its metamodels, models and queries, and the variables of a relation
-- with their types and models.
use Rattle.std.specs.Prelude.{ℕ, List, [], map, position}
use Rattle.std.specs.List.{zip}
use Rattle.std.specs.Option.{unwrap_or}
use Rattle.mof_metamodel.specs.declared.desc.MetaDesc.{MetaDesc}
use Rattle.mof_metamodel.specs.Characters.{same_name}
use Rattle.qv_syntax.specs.declared.query.ModelSlot.{ModelSlot}
use Rattle.qv_syntax.specs.declared.query.Query.{Query}
use Rattle.qv_syntax.specs.declared.program.Var.{Var}
use Rattle.qv_syntax.specs.declared.script.Script.{Script}
use Rattle.qv_syntax.specs.declared.script.ModelTree.{ModelTree}
use Rattle.qv_syntax.specs.declared.script.RelationTree.{RelationTree}
use Rattle.ocl_environments.specs.declared.variable.Variable.{Variable}
use Rattle.ocl_environments.specs.Environments.{Environment, NamesWith}
use Rattle.ocl_types.specs.QueryTyping.{signed}
use Rattle.script_scopes.specs.ScriptNames.{meta_names, each_once}
use Rattle.script_scopes.specs.Occurrences.{variables_of}

-- the names of the metamodels, by their numbers: in the order of their first use
abbrev pub metamodel_names : Script → List (List ℕ)
metamodel_names script = each_once (meta_names script.models)

-- the place of a name that stands among others, from 0
abbrev pub place_of : List ℕ → List (List ℕ) → ℕ
place_of name names = unwrap_or (position (same_name name) names) 0

-- a model, with the number of its metamodel
abbrev pub slot_of : Script → ModelTree → ModelSlot
slot_of script m = record { name = m.name.text; meta = place_of m.meta.text (metamodel_names script) }

abbrev pub slots_of : Script → List ModelSlot
slots_of script = map (slot_of script) script.models

-- what a script is resolved over: its metamodels, its queries with their types, and the name of the target model
pub record Setting : Type 0 where
  pub metas : List MetaDesc
  pub script : Script
  pub queries : List Query
  pub target : List ℕ

-- what may be named everywhere in a script: nothing of a relation or a query is in reach
abbrev pub in_script : Setting → Environment
in_script s = record {
  metas = s.metas;
  names = metamodel_names s.script;
  models = slots_of s.script;
  variables = [];
  queries = map signed s.queries;
}

-- variables by their names, with their types and models
abbrev pub named_variables : List (List ℕ) → List Var → NamesWith Variable
named_variables names vars = map (λ v. (v.0, record { ty = v.1.ty; model = v.1.model })) (zip names vars)

-- the variables of a relation are in reach, in the order of their numbers
abbrev pub in_relation : Setting → RelationTree → List Var → Environment
in_relation s r vars = record (in_script s) { variables = named_variables (variables_of r) vars }
