-- The relations that relations call, by their numbers: for each the row of its when calls, and that of its where calls (QVT 1.3, sections
-- 7.2 and 7.11.1). Directions says the same of relations by themselves.
use Rattle.std.specs.Prelude.{◌≡◌, ◌<◌, ℕ, List, Option, None, Some, length, map, position, slice_get}
use Rattle.std.specs.List.{flat_map}
use Rattle.std.specs.Option.{option_to_list}
use Rattle.mof_metamodel.specs.Characters.{same_name}
use Rattle.qv_syntax.specs.declared.expr.Expr.{Expr}
use Rattle.qv_syntax.specs.declared.script.BlockTree.{BlockTree}
use Rattle.qv_syntax.specs.declared.script.RelationTree.{RelationTree}
use Rattle.call_graph.specs.declared.layers.Layers.{Layers}
use Rattle.call_graph.specs.declared.layers.Layers.TheVariants.{Cyclic, Layered}
use Rattle.ocl_environments.specs.declared.fault.TypeFault.{TypeFault}
use Rattle.ocl_environments.specs.declared.fault.TypeFault.TheVariants.{WhenCycle}
use Rattle.script_scopes.specs.Conjuncts.{clause_conjuncts, call_of}

-- the number of what is called, where relations have these names
abbrev pub number_in : List (List ℕ) → Option (List ℕ × List Expr) → Option ℕ
number_in names None = None
number_in names (Some call) = position (same_name call.0) names

abbrev pub conjunct_numbers : List (List ℕ) → Expr → List ℕ
conjunct_numbers names conjunct = option_to_list (number_in names (call_of conjunct))

-- of what the conjuncts of a clause call
abbrev pub clause_numbers : List (List ℕ) → Option BlockTree → List ℕ
clause_numbers names clause = flat_map (conjunct_numbers names) (clause_conjuncts clause)

abbrev pub when_rows : List (List ℕ) → List RelationTree → List (List ℕ)
when_rows names relations = map (λ r. clause_numbers names r.when) relations

abbrev pub where_rows : List (List ℕ) → List RelationTree → List (List ℕ)
where_rows names relations = map (λ r. clause_numbers names r.wheres) relations

-- the number of a relation on a cycle is one of these
abbrev pub IsAmong : List RelationTree → Layers → Type 0
IsAmong relations (Cyclic u) = u < length relations
IsAmong relations (Layered strata) = Unit {0}

-- the fault names the relation on a cycle
pub record IsCycleFault (relations : List RelationTree) (layers : Layers) (fault : TypeFault) : Type 0 where
  pub number : ℕ
  pub cyclic : layers ≡ Cyclic number
  pub relation : RelationTree
  pub found : slice_get relations number ≡ Some relation
  pub is : fault ≡ WhenCycle relation.name.text
