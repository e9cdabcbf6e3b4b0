-- The models of a relation's object variables as a list, with each place that gives one (QVT 1.3, sections 7.11.1 and 7.11.2).
-- `ObjectModels` has the same by names.
use Rattle.std.specs.Prelude.{◌≡◌, ◌≢◌, ℕ, Bool, true, false, is_some, List, [], ◌∷◌, ◌++◌, Option, None, Some, map, Contains}
use Rattle.std.specs.List.{flat_map}
use Rattle.std.specs.Option.{option_map_or}
use Rattle.mof_metamodel.specs.NameTables.{NamesWith, value_of}
use Rattle.qv_syntax.specs.declared.ty.Ty.{Ty}
use Rattle.qv_syntax.specs.declared.expr.Expr.{Expr}
use Rattle.qv_syntax.specs.declared.script.BlockTree.{BlockTree}
use Rattle.qv_syntax.specs.declared.script.DomainTree.{DomainTree}
use Rattle.qv_syntax.specs.declared.script.RelationTree.{RelationTree}
use Rattle.ocl_environments.specs.Environments.{class_of}
use Rattle.ocl_environments.specs.declared.fault.TypeFault.{TypeFault}
use Rattle.ocl_environments.specs.declared.fault.TypeFault.TheVariants.{ModelMix}
use Rattle.script_scopes.specs.Conjuncts.{clause_conjuncts, name_alone, call_of}
use Rattle.script_scopes.specs.Occurrences.{Piece, printed_name}
use Rattle.script_scopes.specs.Occurrences.Piece.{begins, asks}
use Rattle.script_scopes.specs.Divisions.{model_of}
use Rattle.script_scopes.specs.LocatedPieces.{located}

-- relations by their names
abbrev pub named_relations : List RelationTree → NamesWith RelationTree
named_relations relations = map (λ r. (r.name.text, r)) relations

-- the variable of a template with the model of its domain
abbrev pub template_model : List ℕ × Piece → NamesWith (List ℕ)
template_model (model, begins at v path) = (v, model) ∷ []
template_model (model, asks at e) = []

-- a variable that stands alone in the place of a domain, with the domain's model
abbrev pub argument_model : Option (List ℕ) → Option (List ℕ) → NamesWith (List ℕ)
argument_model (Some v) (Some model) = (v, model) ∷ []
argument_model (Some v) None = []
argument_model None model = []

-- the same of arguments in the places of domains
abbrev pub argument_models : List Expr → List DomainTree → NamesWith (List ℕ)
argument_models [] domains = []
argument_models (e ∷ es) [] = []
argument_models (e ∷ es) (domain ∷ domains) = argument_model (name_alone e) (model_of domain) ++ argument_models es domains

abbrev pub called_models : Option RelationTree → List Expr → NamesWith (List ℕ)
called_models None args = []
called_models (Some called) args = argument_models args called.domains

abbrev pub call_models : NamesWith RelationTree → Option (List ℕ × List Expr) → NamesWith (List ℕ)
call_models relations None = []
call_models relations (Some call) = called_models (value_of relations call.0) call.1

-- of a conjunct, and of a clause
abbrev pub conjunct_models : NamesWith RelationTree → Expr → NamesWith (List ℕ)
conjunct_models relations conjunct = call_models relations (call_of conjunct)

abbrev pub clause_models : NamesWith RelationTree → Option BlockTree → NamesWith (List ℕ)
clause_models relations clause = flat_map (conjunct_models relations) (clause_conjuncts clause)

-- of a relation
abbrev pub object_models : NamesWith RelationTree → RelationTree → NamesWith (List ℕ)
object_models relations r = flat_map template_model (located r) ++ clause_models relations r.when ++ clause_models relations r.wheres

-- ---- one model for each

-- the variable is one of objects: its type is a class
abbrev pub is_object : NamesWith Ty → List ℕ → Bool
is_object types v = option_map_or (λ ty. is_some (class_of ty)) (value_of types v) false

-- the variable, if it is one of objects, has this model first
abbrev pub HasItsModel : NamesWith Ty → NamesWith (List ℕ) → List ℕ × List ℕ → Type 0
HasItsModel types models m = is_object types m.0 ≡ true → value_of models m.0 ≡ Some m.1

-- an object variable has another
pub record IsOtherModel (types : NamesWith Ty) (models : NamesWith (List ℕ)) (m : List ℕ × List ℕ) (fault : TypeFault) : Type 0 where
  pub object : is_object types m.0 ≡ true
  pub apart : value_of models m.0 ≢ Some m.1
  pub is : fault ≡ ModelMix (printed_name m.0)

-- the fault is one of these
pub record IsMixFault (types : NamesWith Ty) (models given : NamesWith (List ℕ)) (fault : TypeFault) : Type 0 where
  pub mixed : List ℕ × List ℕ
  pub among : Contains given mixed
  pub other : IsOtherModel types models mixed fault
