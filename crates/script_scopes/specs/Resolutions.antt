-- What a script resolves to (QVT 1.3, section 7.11): the program is the script with each name replaced by the number of what it names and
-- each expression by its typed tree; variables in the order of their first occurrence, universal and existential ones as sets, equations
-- and conditions apart, strata counted; and it is well formed.
use Rattle.std.specs.Prelude.{◌≡◌, ◌≢◌, ◌<◌, ◌↔◌, ℕ, true, List, Option, None, Some, length, position, slice_get, Contains, AllPairs}
use Rattle.std.specs.List.{AllZip}
use Rattle.mof_metamodel.specs.declared.desc.ClassId.{ClassId}
use Rattle.mof_metamodel.specs.Characters.{same_name}
use Rattle.qv_syntax.specs.declared.expr.Expr.{Expr}
use Rattle.qv_syntax.specs.declared.ty.Ty.TheVariants as types
use Rattle.qv_syntax.specs.declared.typed.Typed.{Typed}
use Rattle.qv_syntax.specs.declared.script.RelationTree.{RelationTree}
use Rattle.qv_syntax.specs.declared.script.DomainMark.{DomainMark}
use Rattle.qv_syntax.specs.declared.script.DomainMark.TheVariants as marks
use Rattle.qv_syntax.specs.declared.script.DomainTree.{DomainTree}
use Rattle.qv_syntax.specs.declared.script.DomainTree.TheVariants as domains
use Rattle.qv_syntax.specs.declared.program.Program.{Program}
use Rattle.qv_syntax.specs.declared.program.Rel.{Rel}
use Rattle.qv_syntax.specs.declared.program.Var.{Var}
use Rattle.qv_syntax.specs.declared.program.Dom.{Dom}
use Rattle.qv_syntax.specs.declared.program.Marker.{Marker}
use Rattle.qv_syntax.specs.declared.program.Marker.TheVariants as markers
use Rattle.qv_syntax.specs.declared.program.Tmpl.{Tmpl}
use Rattle.qv_syntax.specs.declared.program.Conj.{Conj}
use Rattle.qv_syntax.specs.declared.program.Conj.TheVariants as conjs
use Rattle.qv_syntax.specs.WellFormed.{IsWellFormed}
use Rattle.ocl_environments.specs.Environments.{without_queries}
use Rattle.ocl_types.specs.Queries.{AreQueries}
use Rattle.ocl_types.specs.HasType.{HasTree}
use Rattle.script_scopes.specs.ScriptNames.{model_names}
use Rattle.script_scopes.specs.Conjuncts.{clause_conjuncts, call_of}
use Rattle.script_scopes.specs.Occurrences.{relations_of, variables_of, printed_name}
use Rattle.script_scopes.specs.Divisions.{first_template, IsUniversal, IsWhenEquation, IsWhereEquation}
use Rattle.script_scopes.specs.ObjectModels.{HasOneModel}
use Rattle.script_scopes.specs.Directions.{IsInDirection, IsRelationName, IsStratum}
use Rattle.script_scopes.specs.Environments.{Setting, in_script, in_relation, place_of, slots_of}
use Rattle.script_scopes.specs.Declarations.{keys_of, queries_of, relation_names, meta_of, HasVariableType, IsDataVariable}
use Rattle.script_scopes.specs.Keys.{AreKeys}
use Rattle.script_scopes.specs.ResolvedTemplates.{DomainReach, IsTemplate}

-- the number of the model of this name
abbrev pub model_number : Setting → List ℕ → ℕ
model_number s model = place_of model (model_names s.script.models)

-- ---- variables

-- a variable has its type; an object variable its one model, a data variable none
pub record IsVariable (s : Setting) (r : RelationTree) (name : List ℕ) (var : Var) : Type 0 where
  pub named : var.name ≡ printed_name name
  pub typed : HasVariableType s.metas s.script (in_script s) r name var.ty
  pub object : (m : ℕ) (class : ClassId) → var.ty ≡ types.Class m class → (model : List ℕ) × HasOneModel s.script r name model × (var.model ≡ Some (model_number s model))
  pub data_value : ((m : ℕ) (class : ClassId) → var.ty ≢ types.Class m class) → var.model ≡ None

-- the data variables of a relation
abbrev pub IsData : Setting → RelationTree → List ℕ → Type 0
IsData s r v = IsDataVariable s.metas s.script (in_script s) r v

-- ---- domains

-- what is in reach in the templates of a domain of the model of this name
abbrev pub domain_reach : Setting → RelationTree → List Var → List ℕ → DomainReach
domain_reach s r vars model = record { env = in_relation s r vars; variables = variables_of r; model = model_number s model; meta = meta_of s.script model }

-- a domain without a mark is checkonly
abbrev pub marker_of : Option DomainMark → Marker
marker_of (Some marks.Checkonly) = markers.Checkonly
marker_of (Some marks.Enforce) = markers.Enforce
marker_of None = markers.Checkonly

-- a domain, whose first template has this number
abbrev pub IsDomain : Setting → RelationTree → List Var → ℕ → DomainTree → Dom → Type 0
IsDomain s r vars k (domains.Pattern mark model root tree span) dom =
    Contains (model_names s.script.models) model.text × (dom.model ≡ Some (model_number s model.text)) × (dom.marker ≡ marker_of mark)
    × (dom.root ≡ place_of root.text (variables_of r))
    × ((t : Tmpl) × (next : ℕ) × (dom.template ≡ Some t) × IsTemplate (domain_reach s r vars model.text) k (Some root) tree t next)
IsDomain s r vars k (domains.Primitive root ty span) dom =
    (dom.model ≡ None) × (dom.marker ≡ markers.Primitive) × (dom.root ≡ place_of root.text (variables_of r)) × (dom.template ≡ None)

pub record AreDomains (s : Setting) (r : RelationTree) (vars : List Var) (doms : List Dom) : Type 0 where
  pub count : length r.domains ≡ length doms
  pub each : (place : ℕ) (tree : DomainTree) (dom : Dom) → slice_get r.domains place ≡ Some tree → slice_get doms place ≡ Some dom
      → IsDomain s r vars (first_template r place) tree dom

-- ---- conjuncts

module _ (s : Setting) (r : RelationTree) (vars : List Var) (IsEquation : ℕ → List ℕ → Expr → Type 0) where
  -- the conjunct at a place of its clause: a call of a relation, the equation of a variable, or else a condition
  pub data IsConjunct (place : ℕ) (c : Expr) : Conj → Type 0 where
    call : (name : List ℕ) (args : List Expr) (number : ℕ) (trees : List Typed) → call_of c ≡ Some (name, args)
        → position (same_name name) (relation_names s.script) ≡ Some number → AllZip (HasTree (in_relation s r vars)) args trees
        → IsConjunct place c (conjs.Call number trees)
    equation : (v : List ℕ) (e : Expr) (t : Typed) → IsEquation place v e → HasTree (in_relation s r vars) e t
        → IsConjunct place c (conjs.Equation (place_of v (variables_of r)) t)
    condition : (t : Typed) → ((name : List ℕ) (args : List Expr) → call_of c ≡ Some (name, args) → ¬ IsRelationName s.script name)
        → ((v : List ℕ) (e : Expr) → ¬ IsEquation place v e) → HasTree (in_relation s r vars) c t → IsConjunct place c (conjs.Cond t)

  pub record AreConjuncts (exprs : List Expr) (cs : List Conj) : Type 0 where
    pub count : length exprs ≡ length cs
    pub each : (place : ℕ) (e : Expr) (c : Conj) → slice_get exprs place ≡ Some e → slice_get cs place ≡ Some c → IsConjunct place e c

-- ---- relations

-- the numbers of the variables of which something holds, in their order
pub record AreThose (r : RelationTree) (Holds : List ℕ → Type 0) (numbers : List ℕ) : Type 0 where
  pub those : (number : ℕ) (name : List ℕ) → slice_get (variables_of r) number ≡ Some name → Contains numbers number ↔ Holds name
  pub within : (number : ℕ) → Contains numbers number → number < length (variables_of r)
  pub order : AllPairs (λ v w. v < w) numbers

pub record IsRelation (s : Setting) (r : RelationTree) (rel : Rel) : Type 0 where
  pub named : rel.name ≡ r.name.text
  pub top : rel.top ≡ r.top
  pub vars : AllZip (IsVariable s r) (variables_of r) rel.vars
  pub universal : AreThose r (IsUniversal s.target r) rel.universal
  pub existential : AreThose r (λ v. ¬ IsUniversal s.target r v) rel.existential
  pub domains : AreDomains s r rel.vars rel.domains
  pub whens : AreConjuncts s r rel.vars (IsWhenEquation (IsData s r) s.target r) (clause_conjuncts r.when) rel.whens
  pub wheres : AreConjuncts s r rel.vars (IsWhereEquation (IsData s r) s.target r) (clause_conjuncts r.wheres) rel.wheres
  pub direction : (rel.in_direction ≡ true) ↔ IsInDirection s.target r
  pub stratum : IsStratum s.script r rel.stratum

-- ---- the whole

-- the program is the script, with names replaced by numbers and expressions by their typed trees
pub record IsProgramOf (s : Setting) (program : Program) : Type 0 where
  pub named : program.name ≡ s.script.name.text
  pub models : program.models ≡ slots_of s.script
  pub aimed : slice_get (model_names s.script.models) program.target ≡ Some s.target
  pub keys : AreKeys (in_script s) (keys_of s.script) program.keys
  pub rels : AllZip (IsRelation s) (relations_of s.script) program.rels
  pub typed_queries : AreQueries (without_queries (in_script s)) (queries_of s.script) (in_script s) s.queries
  pub queries : program.queries ≡ s.queries

-- and it is well formed
pub record IsResolution (s : Setting) (program : Program) : Type 0 where
  pub program_of : IsProgramOf s program
  pub well_formed : IsWellFormed s.metas program
