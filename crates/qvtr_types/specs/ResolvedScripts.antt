-- What a script is resolved over from outside, and the faults that stand in it there: metamodels by their numbers, and the name of the
-- target (QVT 1.3, section 7.11). The queries are the script's own, once they are typed.
use Rattle.std.specs.Prelude.{◌≡◌, ℕ, List, Contains}
use Rattle.mof_metamodel.specs.declared.desc.MetaDesc.{MetaDesc}
use Rattle.qv_syntax.specs.declared.query.Query.{Query}
use Rattle.qv_syntax.specs.declared.script.Script.{Script}
use Rattle.qv_syntax.specs.declared.script.RelationTree.{RelationTree}
use Rattle.qv_syntax.specs.declared.program.Key.{Key}
use Rattle.qv_syntax.specs.declared.program.Program.{Program}
use Rattle.qv_syntax.specs.declared.program.Rel.{Rel}
use Rattle.ocl_environments.specs.declared.fault.TypeFault.{TypeFault}
use Rattle.ocl_environments.specs.Environments.{Environment}
use Rattle.script_scopes.specs.ScriptNames.{model_names}
use Rattle.script_scopes.specs.Occurrences.{relations_of}
use Rattle.script_scopes.specs.Directions.{IsMisplaced}
use Rattle.script_scopes.specs.Environments.{Setting, in_script, place_of, slots_of}
use Rattle.script_scopes.specs.Refusals.{AreInOrder}
use Rattle.script_scopes.specs.Faults.{HasQueries, StandsInExpressions, StandsInScript}
use Rattle.script_scopes.specs.Resolutions.{IsRelation}
use Rattle.script_variables.specs.SettledRelations.{IsSettled}
use Rattle.qvtr_types.specs.ScriptScopes.{IsDeclared}

abbrev pub setting_of : List MetaDesc → Script → List ℕ → List Query → Setting
setting_of metas script target queries = record { metas = metas; script = script; queries = queries; target = target }

-- A fault stands in the script. Where its queries have types, these are they.
pub record IsFaultOf (metas : List MetaDesc) (script : Script) (target : List ℕ) (fault : TypeFault) : Type 0 where
  pub queries : List Query
  pub settled : (typed : List Query) → HasQueries (setting_of metas script target typed) → queries ≡ typed
  pub stands : StandsInScript (setting_of metas script target queries) fault

-- ---- relations

-- the names of the script are in order, no relation is called in a wrong place, its queries are typed, and this is in reach
pub record IsScriptReach (s : Setting) (env : Environment) (script : Script) (target : List ℕ) : Type 0 where
  pub reach : in_script s ≡ env
  pub of_script : s.script ≡ script
  pub aimed : s.target ≡ target
  pub order : AreInOrder s.script s.target
  pub placed : (r : RelationTree) (name : List ℕ) → Contains (relations_of s.script) r → ¬ IsMisplaced s.script r name
  pub typed : HasQueries s

-- the relation resolves to this one, whose variables are its own, and no fault stands in it
pub record IsResolvedTo (s : Setting) (r : RelationTree) (rel : Rel) : Type 0 where
  pub is : IsRelation s r rel
  pub declared : IsDeclared s r rel.vars
  pub settled : IsSettled s r rel.vars
  pub faultless : (f : TypeFault) → ¬ StandsInExpressions s r rel.vars f

-- ---- the whole

-- the program of a script with these keys, relations and queries
abbrev pub program_of : Script → List ℕ → List Key → List Rel → List Query → Program
program_of script target keys rels queries = record {
  name = script.name.text;
  models = slots_of script;
  target = place_of target (model_names script.models);
  keys = keys;
  rels = rels;
  queries = queries;
}
