-- Typed parts in an environment: what is shown of them, and leaves and names (OCL 2.4, chapters 8 and 9).
use Rattle.std.proofs.Common.{◌≡◌, ℕ, Bool, true, false, ◌&&◌, List, [], ◌∷◌, ◌++◌, Option, None, Some, Ok, map, length, if◌then◌else◌, refl, sym, ap, ◌∙◌, subst, inl, inr}
use Rattle.std.specs.Prelude.{IsTrue, ◌==◌, nat_lt, slice_get, Contains}
use Rattle.std.specs.Option.{option_map, option_map_or}
use Rattle.std.proofs.lemmas.Bool.{false≢true}
use Rattle.std.proofs.lemmas.Option.{none-some, same_Some, slice_get-map, slice_get_within, get_or_from_slice_get}
use Rattle.std.proofs.lemmas.List.{map-append, length-map}
use Rattle.mof_metamodel.specs.declared.desc.ClassId.{ClassId}
use Rattle.mof_metamodel.proofs.SearchLemmas.{passes_each}
use Rattle.qv_syntax.specs.declared.ty.Ty.{Ty}
use Rattle.qv_syntax.specs.declared.ty.Ty.TheVariants as types
use Rattle.qv_syntax.specs.declared.typed.Node.{Node}
use Rattle.qv_syntax.specs.declared.typed.Node.TheVariants as nodes
use Rattle.qv_syntax.specs.declared.typed.TypedInfix.{TypedInfix}
use Rattle.qv_syntax.specs.declared.typed.TypedPostfix.{TypedPostfix}
use Rattle.qv_syntax.specs.TypedTrees as trees
use Rattle.qv_syntax.specs.TypedTrees.{QueryType, Context, Typing, Variables, objects_of, IsElementVariable, given_model, IsTyped, AreTyped, IsChained, AreCalled, IsCalled}
use Rattle.ocl_environments.specs.declared.fault.TypeFault.{TypeFault}
use Rattle.ocl_environments.specs.declared.part.TypedPart.{TypedPart}
use Rattle.ocl_environments.specs.declared.part.CallsSoFar.{CallsSoFar}
use Rattle.ocl_environments.specs.declared.part.Chained.{Chained}
use Rattle.ocl_environments.specs.declared.variable.Variable.{Variable}
use Rattle.ocl_environments.specs.declared.variable.Signature.{Signature}
use Rattle.ocl_environments.specs.Environments.{Environment, AreWell, IsInOrder, is_over, is_flat, are_types, is_query, class_of, is_type, slot_at, is_object_type, is_variable, with_variable}
use Rattle.ocl_environments.specs.Classifiers.{named_literal}
use Rattle.ocl_environments.specs.Outcomes.{RuleResult}
use Rattle.ocl_environments.specs.Agreement.{has_objects, model_for}
use Rattle.ocl_environments.specs.Parts.{tree_of, trees_of}
use Rattle.ocl_types.specs.Judged.{Judged, finds}
use Rattle.ocl_types.specs.TypeRules.{names_judged, variable_judged, literal_judged}
use Rattle.ocl_types.specs.TypedContext.{query_type, context_of, variable_typing, variables_of, typing_of}
use Rattle.std.proofs.lemmas.Bool.{and_parts}
use Rattle.ocl_types.proofs.JudgedLaws.{ok_ok}
use Rattle.ocl_types.proofs.RangeLaws.{AllOver, over_with, typed_over}
use Rattle.ocl_types.proofs.LayerLaws.{is_class, objects_of_class, none_kept}
use Rattle.ocl_types.proofs.ConformanceLaws.{one_more}
use Rattle.ocl_types.proofs.ClassifierLaws.{literal_is_there}
use Rattle.ocl_types.proofs.NumberLaws.{mapped_there}
use Rattle.mof_metamodel.proofs.Facts.{contains_at}

-- ---- what is shown of environments and of parts

-- the metamodels are well, the models of variables are kept for their types, and types are of the metamodels
pub record IsReady (env : Environment) : Type 0 where
  pub well : AreWell env.metas
  pub over : AllOver env.metas (variables_of env)
  pub results : (q : QueryType) (n : ℕ) → slice_get (context_of env).queries n ≡ Some q → IsTrue (is_over env.metas q.result)
  pub kept : (v : List ℕ × Variable) (n : ℕ) → slice_get env.variables n ≡ Some v → model_for v.1.ty v.1.model ≡ v.1.model

-- the tree of a part is typed, and its model is kept for its type
pub record IsPart (env : Environment) (p : TypedPart) : Type 0 where
  pub typed : IsTyped (context_of env) (variables_of env) (tree_of p) (typing_of p)
  pub kept : model_for p.ty p.model ≡ p.model

-- the model of each part is kept for its type
abbrev pub AllKept : List TypedPart → Type 0
AllKept [] = Unit {0}
AllKept (p ∷ ps) = (model_for p.ty p.model ≡ p.model) × AllKept ps

-- the same of several parts
pub record AreParts (env : Environment) (ps : List TypedPart) : Type 0 where
  pub typed : AreTyped (context_of env) (variables_of env) (trees_of ps) (map typing_of ps)
  pub kept : AllKept ps

-- the type and the model of what was called so far
abbrev pub typing_so_far : CallsSoFar → Typing
typing_so_far c = record { ty = c.ty; model = c.model }

-- what is called further on what was called so far is called on the first part
pub record IsCalledOn (env : Environment) (first : Typing) (c : CallsSoFar) : Type 0 where
  pub extends : (rest : List TypedPostfix) (last : Typing) → AreCalled (context_of env) (variables_of env) (typing_so_far c) rest last
      → AreCalled (context_of env) (variables_of env) first (c.calls ++ rest) last
  pub kept : model_for c.ty c.model ≡ c.model
  pub over : IsTrue (is_over env.metas c.ty)

-- what is linked further to a chain is linked to the first part
pub record IsLinkedTo (env : Environment) (first : Ty) (c : Chained) : Type 0 where
  pub extends : (rest : List TypedInfix) (last : Ty) → IsChained (context_of env) (variables_of env) c.ty rest last
      → IsChained (context_of env) (variables_of env) first (c.links ++ rest) last
  pub over : IsTrue (is_over env.metas c.ty)

never : (a b : Bool) → (a && false && b) ≡ true → ⊥
never true b is = false≢true is
never false b is = false≢true is

objects_kept : (ty : Ty) (model : Option ℕ) → has_objects ty ≡ true → model_for ty model ≡ model
objects_kept ty model is = ap (λ b. if b then model else None) is

variable_kept : (env : Environment) (v : List ℕ × Variable) → IsTrue (is_variable env v) → model_for v.1.ty v.1.model ≡ v.1.model
variable_kept env v is = by v.1.model is
  where
    by_class : (m : ℕ) (o : Option (ℕ × ClassId)) → class_of v.1.ty ≡ o
        → (nat_lt m (length env.models) && option_map_or (λ c. c.0 == (slot_at env.models m).meta) o false && is_type env.metas v.1.ty) ≡ true → has_objects v.1.ty ≡ true
    by_class m None at is = absurd (never _ _ is)
    by_class m (Some c) at is = ap has_objects (is_class v.1.ty c at) ∙ objects_of_class c.0 c.1

    by : (o : Option ℕ) → option_map_or (is_object_type env v.1.ty) o (is_type env.metas v.1.ty) ≡ true → model_for v.1.ty o ≡ o
    by None is = none_kept v.1.ty
    by (Some m) is = objects_kept v.1.ty (Some m) (by_class m (class_of v.1.ty) refl is)

variable_over : (env : Environment) (v : List ℕ × Variable) → IsTrue (is_variable env v) → IsTrue (is_over env.metas v.1.ty)
variable_over env v is = (and_parts (is_over env.metas v.1.ty) (is_flat v.1.ty) (by v.1.model is)).0
  where
    last : (a b c : Bool) → (a && b && c) ≡ true → c ≡ true
    last true true c is = is
    last true false c is = absurd (false≢true is)
    last false b c is = absurd (false≢true is)

    by : (o : Option ℕ) → option_map_or (is_object_type env v.1.ty) o (is_type env.metas v.1.ty) ≡ true → is_type env.metas v.1.ty ≡ true
    by None is = is
    by (Some m) is = last (nat_lt m (length env.models)) (option_map_or (λ c. c.0 == (slot_at env.models m).meta) (class_of v.1.ty) false) (is_type env.metas v.1.ty) is

variables_over : (env : Environment) → IsInOrder env → AllOver env.metas (variables_of env)
variables_over env order v n at = by (slice_get env.variables n) refl (sym (slice_get-map variable_typing env.variables n) ∙ at)
  where
    by : (o : Option (List ℕ × Variable)) → slice_get env.variables n ≡ o → option_map variable_typing o ≡ Some v → IsTrue (is_over env.metas v.ty)
    by None found is = absurd (none-some v is)
    by (Some w) found is = subst (λ (u : Typing). IsTrue (is_over env.metas u.ty)) (same_Some (variable_typing w) v is)
        (variable_over env w (passes_each (is_variable env) env.variables order.typed w (contains_at env.variables n w found)))

results_over : (env : Environment) → IsInOrder env → (q : QueryType) (n : ℕ) → slice_get (context_of env).queries n ≡ Some q → IsTrue (is_over env.metas q.result)
results_over env order q n at = by (slice_get env.queries n) refl (sym (slice_get-map query_type env.queries n) ∙ at)
  where
    by : (o : Option (List ℕ × Signature)) → slice_get env.queries n ≡ o → option_map query_type o ≡ Some q → IsTrue (is_over env.metas q.result)
    by None found is = absurd (none-some q is)
    by (Some w) found is =
        let whole : IsTrue (is_query env w) = passes_each (is_query env) env.queries order.queried w (contains_at env.queries n w found) in
        let result : is_type env.metas w.1.result ≡ true = (and_parts (are_types env.metas w.1.params) (is_type env.metas w.1.result) whole).1 in
        subst (λ (u : QueryType). IsTrue (is_over env.metas u.result)) (same_Some (query_type w) q is) (and_parts (is_over env.metas w.1.result) (is_flat w.1.result) result).0

pub ready : (env : Environment) → IsInOrder env → IsReady env
ready env order = record {
  well = order.well;
  over = variables_over env order;
  results = results_over env order;
  kept = λ v n at. variable_kept env v (passes_each (is_variable env) env.variables order.typed v (contains_at env.variables n v at));
}

-- ---- one variable more

variables_with : (env : Environment) (name : List ℕ) (v : Variable) → variables_of (with_variable env name v) ≡ trees.with_variable (variables_of env) (variable_typing (name, v))
variables_with env name v = map-append variable_typing env.variables ((name, v) ∷ [])

pub ready_with : (env : Environment) (name : List ℕ) (v : Variable) → IsReady env → model_for v.ty v.model ≡ v.model → IsTrue (is_over env.metas v.ty) → IsReady (with_variable env name v)
ready_with env name v is kept over = record {
  well = is.well;
  over = subst (AllOver env.metas) (sym (variables_with env name v)) (over_with env.metas (variables_of env) (variable_typing (name, v)) is.over over);
  results = is.results;
  kept = λ w n at. elim (one_more env.variables (name, v) n w at) [
    | inl before ↦ is.kept w n before
    | inr same ↦ subst (λ (u : List ℕ × Variable). model_for u.1.ty u.1.model ≡ u.1.model) same kept
  ];
}

-- what is typed with one variable more
pub typed_with : (env : Environment) (name : List ℕ) (v : Variable) (p : TypedPart) → IsPart (with_variable env name v) p
    → IsTyped (context_of env) (trees.with_variable (variables_of env) (record { ty = v.ty; model = v.model })) (tree_of p) (typing_of p)
typed_with env name v p is = subst (λ vars. IsTyped (context_of env) vars (tree_of p) (typing_of p)) (variables_with env name v) is.typed

pub count_of : (env : Environment) → length (variables_of env) ≡ length env.variables
count_of env = length-map env.variables variable_typing

-- the type of a part is one of the metamodels
pub part_over : (env : Environment) → IsReady env → (p : TypedPart) → IsPart env p → IsTrue (is_over env.metas p.ty)
part_over env ready p part = typed_over (context_of env) ready.results (variables_of env) (tree_of p) (typing_of p) ready.over part.typed

-- ---- what is found

pub finds_has : {X Y : Type 0} (o : Option X) (f : TypeFault) (rest : X → Judged Y) (y : Y) → (finds o f rest).has y → (x : X) × (o ≡ Some x) × (rest x).has y
finds_has (Some x) f rest y is = (x, refl, is)
finds_has None f rest y is = absurd is

ok_is : {X : Type 0} (x y : X) → ◌≡◌ {A = RuleResult X} (Ok x) (Ok y) → x ≡ y
ok_is x y is = ok_ok (Ok x) x y refl is

-- ---- leaves

abbrev pub leaf : Ty → Node → TypedPart
leaf ty node = record { ty = ty; model = None; node = node }

pub number_part : (env : Environment) (value : _) → IsPart env (leaf types.Int (nodes.Number value))
number_part env value = record { typed = IsTyped.number (variables_of env) value; kept = none_kept types.Int }

pub string_part : (env : Environment) (value : List ℕ) → IsPart env (leaf types.Str (nodes.Str value))
string_part env value = record { typed = IsTyped.string (variables_of env) value; kept = none_kept types.Str }

pub boolean_part : (env : Environment) (value : Bool) → IsPart env (leaf types.Bool (nodes.Bool value))
boolean_part env value = record { typed = IsTyped.boolean (variables_of env) value; kept = none_kept types.Bool }

pub null_part : (env : Environment) → IsPart env (leaf types.Null nodes.Null)
null_part env = record { typed = IsTyped.null (variables_of env); kept = none_kept types.Null }

pub invalid_part : (env : Environment) → IsPart env (leaf types.Null nodes.Invalid)
invalid_part env = record { typed = IsTyped.invalid (variables_of env); kept = none_kept types.Null }

-- ---- names

variable_typed : (env : Environment) (ready : IsReady env) (name : List ℕ) (p : TypedPart) → (variable_judged env name).has p → IsPart env p
variable_typed env ready name p is =
    let found : ℕ × Variable = is.0 in
    subst (IsPart env) (sym is.2) (record {
      typed = IsTyped.variable (variables_of env) found.0 (variable_typing (name, found.1)) (mapped_there variable_typing env.variables found.0 (name, found.1) is.1.there);
      kept = ready.kept (name, found.1) found.0 is.1.there;
    })

literal_typed : (env : Environment) (names : List (List ℕ)) (p : TypedPart) → (literal_judged env names).has p → IsPart env p
literal_typed env names p is =
    let l = finds_has (named_literal env names) _ _ p is in
    subst (IsPart env) (sym l.2) (record {
      typed = IsTyped.enum_literal (variables_of env) l.0.0 l.0.1 l.0.2 (literal_is_there env names l.0 l.1);
      kept = none_kept (types.Enum l.0.0 l.0.1);
    })

pub names_typed : (env : Environment) (ready : IsReady env) (names : List (List ℕ)) (p : TypedPart) → (names_judged env names).has p → IsPart env p
names_typed env ready [] p is = literal_typed env [] p is
names_typed env ready (name ∷ []) p is = variable_typed env ready name p is
names_typed env ready (a ∷ b ∷ more) p is = literal_typed env (a ∷ b ∷ more) p is
