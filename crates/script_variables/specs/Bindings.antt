-- What binds the data variables of a relation, as rules: a variable, and the names that its rule asks for first (QVT 1.3, sections 7.2
-- and 7.11.1). `Divisions` has the same by names.
use Rattle.std.specs.Prelude.{◌≡◌, ℕ, Bool, true, false, not, is_some, if◌then◌else◌, List, [], ◌∷◌, ◌++◌, Option, None, Some, map, slice_index_or, Contains}
use Rattle.std.specs.List.{flat_map}
use Rattle.std.specs.Option.{option_map_or, option_to_list}
use Rattle.mof_metamodel.specs.Characters.{same_name}
use Rattle.mof_metamodel.specs.NameTables.{NamesWith, number_of, value_of}
use Rattle.qv_syntax.specs.declared.ty.Ty.{Ty}
use Rattle.qv_syntax.specs.declared.expr.Expr.{Expr}
use Rattle.qv_syntax.specs.declared.script.BlockTree.{BlockTree}
use Rattle.qv_syntax.specs.declared.script.DomainTree.{DomainTree}
use Rattle.qv_syntax.specs.declared.script.DomainTree.TheVariants as domains
use Rattle.qv_syntax.specs.declared.script.RelationTree.{RelationTree}
use Rattle.ocl_environments.specs.Environments.{class_of}
use Rattle.ocl_environments.specs.declared.fault.TypeFault.{TypeFault}
use Rattle.ocl_environments.specs.declared.fault.TypeFault.TheVariants.{Unbound}
use Rattle.script_scopes.specs.Usages.{variables_in}
use Rattle.script_scopes.specs.Conjuncts.{clause_conjuncts, name_alone, equation_of}
use Rattle.script_scopes.specs.Occurrences.{Piece, printed_name}
use Rattle.script_scopes.specs.Occurrences.Piece.{begins, asks}
use Rattle.script_scopes.specs.UniversalNames.{is_among}
use Rattle.script_scopes.specs.LocatedPieces.{located}

abbrev pub BindingRule : Type 0
BindingRule = List ℕ × List (List ℕ)

-- a variable that is bound as such, if it may be
abbrev pub bound_if : Bool → List ℕ → List BindingRule
bound_if allowed v = if allowed then (v, []) ∷ [] else []

-- by an item that asks for it alone: a universal one in a domain of another model than the target, an existential one in one of the target
abbrev pub alone_rules : List (List ℕ) → Bool → Option (List ℕ) → List BindingRule
alone_rules universal other None = []
alone_rules universal other (Some v) = bound_if (is_among universal other v) v

abbrev pub item_rules : List (List ℕ) → List ℕ → List ℕ × Piece → List BindingRule
item_rules universal target (model, begins at v path) = []
item_rules universal target (model, asks at e) = alone_rules universal (not (same_name target model)) (name_alone e)

-- by a conjunct `v = e`: of when for a universal one, of where for an existential one
abbrev pub equation_rules : List (List ℕ) → Bool → Option (List ℕ × Expr) → List BindingRule
equation_rules universal wanted None = []
equation_rules universal wanted (Some said) = if is_among universal wanted said.0 then (said.0, variables_in said.1) ∷ [] else []

abbrev pub conjunct_rules : List (List ℕ) → Bool → Expr → List BindingRule
conjunct_rules universal wanted e = equation_rules universal wanted (equation_of e)

-- by a primitive domain of a relation that isn't top
abbrev pub primitive_rules : Bool → DomainTree → List BindingRule
primitive_rules top (domains.Pattern mark model root template span) = []
primitive_rules top (domains.Primitive root ty span) = bound_if (not top) root.text

-- ---- rules on the numbers of data variables

-- it is one of data: it has a type, which is no class
abbrev pub is_data : NamesWith Ty → List ℕ → Bool
is_data types v = option_map_or (λ ty. not (is_some (class_of ty))) (value_of types v) false

-- its number, if it is one
abbrev pub data_number : NamesWith Ty → List ℕ → List ℕ
data_number types v = if is_data types v then option_to_list (number_of types v) else []

abbrev pub numbered_rule : NamesWith Ty → BindingRule → List (ℕ × List ℕ)
numbered_rule types rule = map (λ n. (n, flat_map (data_number types) rule.1)) (data_number types rule.0)

abbrev pub numbered : NamesWith Ty → List BindingRule → List (ℕ × List ℕ)
numbered types rules = flat_map (numbered_rule types) rules

-- those of a clause
abbrev pub clause_rules : NamesWith Ty → List (List ℕ) → Bool → Option BlockTree → List (ℕ × List ℕ)
clause_rules types universal wanted clause = flat_map (λ e. numbered types (conjunct_rules universal wanted e)) (clause_conjuncts clause)

-- all of them, with these universal variables in the direction towards the model of this name
abbrev pub binding_rules : NamesWith Ty → List (List ℕ) → List ℕ → RelationTree → List (ℕ × List ℕ)
binding_rules types universal target r =
    flat_map (λ p. numbered types (item_rules universal target p)) (located r) ++ clause_rules types universal true r.when ++ clause_rules types universal false r.wheres
    ++ flat_map (λ d. numbered types (primitive_rules r.top d)) r.domains

-- ---- what follows from rules

-- The least set of which each rule's number is one, if all that it asks for are.
pub data IsDerivedNumber (rules : List (ℕ × List ℕ)) : ℕ → Type 0 where
  by : (n : ℕ) (asked : List ℕ) → Contains rules (n, asked) → ((w : ℕ) → Contains asked w → IsDerivedNumber rules w) → IsDerivedNumber rules n

-- ---- unbound variables

-- the variable, if it is one of data, is bound
abbrev pub IsBoundData : NamesWith Ty → List Bool → List ℕ → Type 0
IsBoundData types bound v = (n : ℕ) → Contains (data_number types v) n → slice_index_or bound n false ≡ true

-- it is one of data that isn't
pub record IsUnboundData (types : NamesWith Ty) (bound : List Bool) (v : List ℕ) (fault : TypeFault) : Type 0 where
  pub number : ℕ
  pub has : Contains (data_number types v) number
  pub unbound : slice_index_or bound number false ≡ false
  pub is : fault ≡ Unbound (printed_name v)

-- the fault is one of these
pub record IsUnboundFault (types : NamesWith Ty) (bound : List Bool) (names : List (List ℕ)) (fault : TypeFault) : Type 0 where
  pub name : List ℕ
  pub among : Contains names name
  pub unbound : IsUnboundData types bound name fault

-- the same of what follows from the rules
abbrev pub IsBoundVariable : NamesWith Ty → List (List ℕ) → List ℕ → RelationTree → List ℕ → Type 0
IsBoundVariable types universal target r v = (n : ℕ) → Contains (data_number types v) n → IsDerivedNumber (binding_rules types universal target r) n

pub record IsUnboundVariable (types : NamesWith Ty) (universal : List (List ℕ)) (target : List ℕ) (r : RelationTree) (names : List (List ℕ)) (fault : TypeFault) : Type 0 where
  pub name : List ℕ
  pub among : Contains names name
  pub number : ℕ
  pub has : Contains (data_number types name) number
  pub unbound : ¬ IsDerivedNumber (binding_rules types universal target r) number
  pub is : fault ≡ Unbound (printed_name name)
