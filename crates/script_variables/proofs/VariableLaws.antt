-- Variables from the tables of types and models are those of a relation, and where each is made and nothing is refused no fault stands.
use Rattle.std.proofs.Common.{◌≡◌, ◌≢◌, ◌<◌, ℕ, zero, suc, List, [], ◌∷◌, Bool, true, false, refl, sym, ◌∙◌, ap, subst, map, length, get_or, arith, ⊎_elim, true≢false}
use Rattle.std.specs.Prelude.{Option, Some, None, Contains, All, is_some}
use Rattle.std.specs.List.{AllZip}
use Rattle.std.specs.Option.{option_map_or}
use Rattle.std.proofs.lemmas.Option.{same_Some, none-some}
use Rattle.std.proofs.lemmas.List.Elements.{All-contains}
use Rattle.mof_metamodel.specs.declared.desc.ClassId.{ClassId}
use Rattle.mof_metamodel.specs.NameTables.{NamesWith, value_of}
use Rattle.qv_syntax.specs.declared.ty.Ty.{Ty}
use Rattle.qv_syntax.specs.declared.ty.Ty.TheVariants as kinds
use Rattle.qv_syntax.specs.declared.program.Var.{Var}
use Rattle.qv_syntax.specs.declared.script.RelationTree.{RelationTree}
use Rattle.ocl_environments.specs.declared.fault.TypeFault.{TypeFault}
use Rattle.ocl_environments.specs.Environments.{class_of}
use Rattle.ocl_types.proofs.LayerLaws.{is_class as class_is, class_of_class}
use Rattle.script_scopes.specs.declared.template_classes.ModelNames.{ModelNames}
use Rattle.script_scopes.specs.ScriptNames.{model_names, each_once}
use Rattle.script_scopes.specs.Occurrences.{relations_of, variables_of}
use Rattle.script_scopes.specs.Divisions.{IsBound}
use Rattle.script_scopes.specs.ObjectModels.{HasModel, HasOneModel}
use Rattle.script_scopes.specs.UniversalNames.{universal_names}
use Rattle.script_scopes.specs.Environments.{Setting, in_script, metamodel_names, slots_of, place_of}
use Rattle.script_scopes.specs.Declarations.{IsRepeated, relation_names, HasVariableType}
use Rattle.script_scopes.specs.Resolutions.{IsVariable, IsData, model_number}
use Rattle.script_scopes.specs.Refusals.{HasNamesInOrder}
use Rattle.script_scopes.specs.Faults.{domain_models, StandsInDeclarations, AreVariables}
use Rattle.script_scopes.specs.FirstEntries.{first_entries}
use Rattle.script_scopes.specs.VariableTypes.{metamodel_numbers, class_in, Classes, variable_types, AreTyped}
use Rattle.script_scopes.specs.ModelLists.{named_relations, object_models, is_object, HasItsModel, IsMixFault}
use Rattle.script_variables.specs.Bindings.{is_data, IsBoundVariable, IsUnboundVariable}
use Rattle.script_variables.specs.Variables.{is_class, IsVarOf, IsModelFault}
use Rattle.script_variables.specs.SettledRelations.{HasOneType, HaveOneType}
use Rattle.script_variables.proofs.TypeLaws.{type_from, type_to, has_type}
use Rattle.script_variables.proofs.TypeFaultLaws.{no_unknown_type, no_written_collection, no_unknown_class, no_other_class}
use Rattle.script_variables.proofs.ModelLaws.{one_model, not_two, no_first, mixed}
use Rattle.script_variables.proofs.BindingLaws.{number_to, number_from, data_typed, typed_data, bound_derived, derived_bound}

-- ---- place by place

pub zip_at : {X Y : Type 0} (R : X → Y → Type 0) (xs : List X) (ys : List Y) (x : X) → AllZip R xs ys → Contains xs x → (y : Y) × R x y
zip_at R [] ys x all (k, l, at) = absurd (omega arith)
zip_at R (w ∷ xs) [] x all c = absurd all
zip_at R (w ∷ xs) (z ∷ ys) x all (zero, l, at) = (z, subst (λ v. R v z) at all.0)
zip_at R (w ∷ xs) (z ∷ ys) x all (suc k, l, at) = zip_at R xs ys x all.1 (k, omega arith, at)

pub zip_weaker : {X Y : Type 0} (R Q : X → Y → Type 0) → ((x : X) (y : Y) → R x y → Q x y) → (xs : List X) (ys : List Y) → AllZip R xs ys → AllZip Q xs ys
zip_weaker R Q h [] [] all = tt
zip_weaker R Q h [] (z ∷ ys) all = absurd all
zip_weaker R Q h (w ∷ xs) [] all = absurd all
zip_weaker R Q h (w ∷ xs) (z ∷ ys) all = (h w z all.0, zip_weaker R Q h xs ys all.1)

pub zip_one : {X Y : Type 0} (R : X → Y → Type 0) → ((x : X) (y z : Y) → R x y → R x z → y ≡ z) → (xs : List X) (ys zs : List Y) → AllZip R xs ys → AllZip R xs zs → ys ≡ zs
zip_one R h [] [] [] all more = refl
zip_one R h [] (y ∷ ys) zs all more = absurd all
zip_one R h [] [] (z ∷ zs) all more = absurd more
zip_one R h (x ∷ xs) [] zs all more = absurd all
zip_one R h (x ∷ xs) (y ∷ ys) [] all more = absurd more
zip_one R h (x ∷ xs) (y ∷ ys) (z ∷ zs) all more = λ i. h x y z all.0 more.0 i ∷ zip_one R h xs ys zs all.1 more.1 i

-- ---- a class or not

pub no_class : (ty : Ty) → ((m : ℕ) (class : ClassId) → ty ≢ kinds.Class m class) → class_of ty ≡ None
no_class ty h = by (class_of ty) refl
  where
    by : (o : Option (ℕ × ClassId)) → class_of ty ≡ o → class_of ty ≡ None
    by None e = e
    by (Some c) e = absurd (h c.0 c.1 (class_is ty c e))

pub not_class : (ty : Ty) → class_of ty ≡ None → (m : ℕ) (class : ClassId) → ty ≢ kinds.Class m class
not_class ty none m class same = none-some (m, class) (sym none ∙ ap class_of same ∙ class_of_class m class)

class_there : (ty : Ty) (m : ℕ) (class : ClassId) → ty ≡ kinds.Class m class → is_class ty ≡ true
class_there ty m class same = ap (λ (o : Option (ℕ × ClassId)). is_some o) (ap class_of same ∙ class_of_class m class)

there_class : (ty : Ty) → is_class ty ≡ true → (c : ℕ × ClassId) × (ty ≡ kinds.Class c.0 c.1)
there_class ty h = by (class_of ty) refl h
  where
    by : (o : Option (ℕ × ClassId)) → class_of ty ≡ o → is_some o ≡ true → (c : ℕ × ClassId) × (ty ≡ kinds.Class c.0 c.1)
    by None e g = absurd (true≢false (sym g))
    by (Some c) e g = (c, class_is ty c e)

no_class_there : (ty : Ty) → is_class ty ≡ false → class_of ty ≡ None
no_class_there ty h = by (class_of ty) refl h
  where
    by : (o : Option (ℕ × ClassId)) → class_of ty ≡ o → is_some o ≡ false → class_of ty ≡ None
    by None e g = e
    by (Some c) e g = absurd (true≢false g)

object_there : (types : NamesWith Ty) (v : List ℕ) (ty : Ty) → value_of types v ≡ Some ty → is_class ty ≡ true → is_object types v ≡ true
object_there types v ty found h = ap (λ (o : Option Ty). option_map_or (λ ty. is_some (class_of ty)) o false) found ∙ h

there_object : (types : NamesWith Ty) (v : List ℕ) → is_object types v ≡ true → (ty : Ty) × (value_of types v ≡ Some ty) × (is_class ty ≡ true)
there_object types v h = by (value_of types v) refl h
  where
    by : (o : Option Ty) → value_of types v ≡ o → option_map_or (λ ty. is_some (class_of ty)) o false ≡ true → (ty : Ty) × (value_of types v ≡ Some ty) × (is_class ty ≡ true)
    by None e g = absurd (true≢false (sym g))
    by (Some ty) e g = (ty, e, g)

-- ---- of a relation

module _ (s : Setting) (r : RelationTree) (names : ModelNames) (models_are : names.models ≡ first_entries (metamodel_numbers (slots_of s.script))) (metas_are : names.metas ≡ metamodel_names s.script)
    (order : HasNamesInOrder (model_names s.script.models) r) (numbers_are : map {A = List ℕ × ℕ} {B = List ℕ} (λ e. e.0) names.models ≡ model_names s.script.models)
    (relations : NamesWith RelationTree) (finds : (n : List ℕ) → value_of relations n ≡ value_of (named_relations (relations_of s.script)) n) (once : (n : List ℕ) → ¬ IsRepeated (relation_names s.script) n)
    (typed : AreTyped (in_script s) (class_in s.metas names) r) where
  abbrev class : Classes
  class = class_in s.metas names

  abbrev types : NamesWith Ty
  types = variable_types (in_script s) class r

  abbrev models : NamesWith (List ℕ)
  models = first_entries (object_models relations r)

  abbrev universal : List (List ℕ)
  universal = each_once (universal_names s.target r)

  has_from : (v : List ℕ) (ty : Ty) → value_of types v ≡ Some ty → HasVariableType s.metas s.script (in_script s) r v ty
  has_from v ty found = type_from s r names models_are metas_are order v ty found

  has_to : (v : List ℕ) (ty : Ty) → HasVariableType s.metas s.script (in_script s) r v ty → value_of types v ≡ Some ty
  has_to v ty has = type_to s r names models_are metas_are order typed v ty has

  -- each variable has a type
  pub all_typed : All (λ v. is_some (value_of types v) ≡ true) (variables_of r)
  all_typed i d l =
      let v = get_or (variables_of r) i d in
      let (ty, has) = has_type s r names models_are metas_are order typed v (order.declared v (i, l, default (variables_of r) i d l)) in
      ap (λ (o : Option Ty). is_some o) (has_to v ty has)
    where
      default : (xs : List (List ℕ)) (i : ℕ) (d : List ℕ) → i < length xs → get_or xs i (get_or xs i d) ≡ get_or xs i d
      default [] i d l = absurd (omega arith)
      default (x ∷ xs) zero d l = refl
      default (x ∷ xs) (suc i) d l = default xs i d (omega arith)

  -- ---- data

  data_from : (v : List ℕ) → IsData s r v → is_data types v ≡ true
  data_from v d = typed_data types v d.ty (has_to v d.ty d.has) (no_class d.ty d.data_type)

  data_to : (v : List ℕ) → is_data types v ≡ true → IsData s r v
  data_to v h = let t = data_typed types v h in record { ty = t.ty; has = has_from v t.ty t.found; data_type = not_class t.ty t.no_class }

  -- no variable has another type
  pub one_type : (ms : NamesWith (List ℕ)) (numbers : List (List ℕ)) (vars : List Var) → AllZip (IsVarOf types ms numbers) (variables_of r) vars → HaveOneType s r vars
  one_type ms numbers vars all =
      zip_weaker (IsVarOf types ms numbers) (HasOneType s r)
      (λ v var h ty has. same_Some ty var.ty (sym (has_to v ty has) ∙ h.typed)) (variables_of r) vars all

  -- ---- faults

  pub mix_stands : (f : TypeFault) → IsMixFault types models (object_models relations r) f → StandsInDeclarations s r f
  mix_stands f h =
      let (ty, found, is) = there_object types h.mixed.0 h.other.object in
      let (c, same) = there_class ty is in
      subst (StandsInDeclarations s r) (sym h.other.is)
      (StandsInDeclarations.two_models h.mixed.0 c.0 c.1 (has_from h.mixed.0 (kinds.Class c.0 c.1) (found ∙ ap Some same))
      (mixed s.script relations finds r types h.mixed.0 h.mixed.1 h.among h.other.apart))

  pub lacking_stands : (f : TypeFault) → IsModelFault types models (variables_of r) f → StandsInDeclarations s r f
  lacking_stands f h =
      let (c, same) = there_class h.lacks.ty h.lacks.object in
      subst (StandsInDeclarations s r) (sym h.lacks.is)
      (StandsInDeclarations.no_model h.name c.0 c.1 h.among (has_from h.name (kinds.Class c.0 c.1) (h.lacks.typed ∙ ap Some same))
      (λ model has. no_first s.script relations finds once r types h.name h.lacks.none model has))

  pub unbound_stands : (f : TypeFault) → IsUnboundVariable types universal s.target r (variables_of r) f → StandsInDeclarations s r f
  unbound_stands f h = subst (StandsInDeclarations s r) (sym h.is)
      (StandsInDeclarations.unbound h.name h.among (data_to h.name (number_from types h.name h.number h.has).0)
      (λ b. h.unbound (bound_derived s.target r (IsData s r) types data_from data_to h.name b h.number h.has)))

  -- ---- variables

  -- each has one type, and one model at most
  module _ (name : List ℕ) (a b : Var) (x : IsVariable s r name a) (y : IsVariable s r name b) where
    same_type : a.ty ≡ b.ty
    same_type = same_Some a.ty b.ty (sym (has_to name a.ty x.typed) ∙ has_to name b.ty y.typed)

    same_model : a.model ≡ b.model
    same_model = by (is_class a.ty) refl
      where
        by : (c : Bool) → is_class a.ty ≡ c → a.model ≡ b.model
        by true is =
            let (c, same) = there_class a.ty is in
            let (model, has, number) = x.object c.0 c.1 same in
            let (other, has_other, number_other) = y.object c.0 c.1 (sym same_type ∙ same) in
            number ∙ ap (λ (m : List ℕ). Some (model_number s m)) (sym (has.alone other has_other.has)) ∙ sym number_other
        by false is = x.data_value (not_class a.ty (no_class_there a.ty is)) ∙ sym (y.data_value (not_class b.ty (no_class_there b.ty (ap is_class (sym same_type) ∙ is))))

    one_variable : a ≡ b
    one_variable = λ i. record { name = (x.named ∙ sym y.named) i; ty = same_type i; model = same_model i }

  pub one_list : (a b : List Var) → AreVariables s r a → AreVariables s r b → a ≡ b
  one_list a b one other = zip_one (IsVariable s r) one_variable (variables_of r) a b one other

  module _ (own : All (HasItsModel types models) (object_models relations r)) where
    one_for : (v model : List ℕ) (ty : Ty) → value_of types v ≡ Some ty → is_class ty ≡ true → value_of models v ≡ Some model → HasOneModel s.script r v model
    one_for v model ty found is first = one_model s.script relations finds once r types own v model (object_there types v ty found is) first

    is_variable : (name : List ℕ) (var : Var) → IsVarOf types models (map {A = List ℕ × ℕ} {B = List ℕ} (λ e. e.0) names.models) name var → IsVariable s r name var
    is_variable name var h = record {
      named = h.named;
      typed = has_from name var.ty h.typed;
      object = λ m class same.
          let is = class_there var.ty m class same in
          let (model, first, number) = h.object is in
          (model, one_for name model var.ty h.typed is first, number ∙ ap (λ (ns : List (List ℕ)). Some (place_of model ns)) numbers_are);
      data_value = λ apart. h.data_value (ap (λ (o : Option (ℕ × ClassId)). is_some o) (no_class var.ty apart));
    }

    module _ (vars : List Var) (all : AllZip (IsVarOf types models (map {A = List ℕ × ℕ} {B = List ℕ} (λ e. e.0) names.models)) (variables_of r) vars) where
      pub are_variables : AreVariables s r vars
      are_variables = zip_weaker (IsVarOf types models (map {A = List ℕ × ℕ} {B = List ℕ} (λ e. e.0) names.models)) (IsVariable s r) is_variable (variables_of r) vars all

      module _ (bound : All (IsBoundVariable types universal s.target r) (variables_of r)) where
        has_its_model : (v : List ℕ) (ty : Ty) → Contains (variables_of r) v → value_of types v ≡ Some ty → is_class ty ≡ true → (model : List ℕ) × HasModel s.script r v model
        has_its_model v ty among found is =
            let (var, h) = zip_at (IsVarOf types models (map {A = List ℕ × ℕ} {B = List ℕ} (λ e. e.0) names.models)) (variables_of r) vars v all among in
            let same : ty ≡ var.ty = same_Some ty var.ty (sym found ∙ h.typed) in
            let (model, first, number) = h.object (ap is_class (sym same) ∙ is) in
            (model, (one_for v model ty found is first).has)

        pub data_bound : (v : List ℕ) → Contains (variables_of r) v → IsData s r v → IsBound (IsData s r) s.target r v
        data_bound v among d =
            let (n, has) = number_to types v (data_from v d) in
            derived_bound s.target r (IsData s r) types data_from data_to n (All-contains (IsBoundVariable types universal s.target r) (variables_of r) v bound among n has) v has

        pub none_stands : (f : TypeFault) → StandsInDeclarations s r f → ⊥
        none_stands _ (StandsInDeclarations.unknown_model model among unknown) = unknown (All-contains (Contains (model_names s.script.models)) (domain_models r) model order.known among)
        none_stands _ (StandsInDeclarations.two_domains model twice) = order.one_domain model twice
        none_stands _ (StandsInDeclarations.declared_twice v twice) = order.declared_once v twice
        none_stands _ (StandsInDeclarations.two_templates v twice) = order.one_template v twice
        none_stands _ (StandsInDeclarations.undeclared v among written template) = ⊎_elim (λ w. written w.0 w.1) (λ t. template t) (order.declared v among)
        none_stands _ (StandsInDeclarations.unknown_type v tree f w is) = no_unknown_type s r names models_are metas_are order typed v tree f w is
        none_stands _ (StandsInDeclarations.collection v tree kind inner w is) = no_written_collection s r names models_are metas_are order typed v tree kind inner w is
        none_stands _ (StandsInDeclarations.unknown_class domain at v path model piece of known none) = no_unknown_class s r names models_are metas_are order typed domain at v path model piece of known none
        none_stands _ (StandsInDeclarations.other_class v tree ty other w is t apart) = no_other_class s r names models_are metas_are order typed v tree ty other w is t apart
        none_stands _ (StandsInDeclarations.no_model v m c among has none) =
            let (model, h) = has_its_model v (kinds.Class m c) among (has_to v (kinds.Class m c) has) (class_there (kinds.Class m c) m c refl) in none model h
        none_stands _ (StandsInDeclarations.two_models v m c has two) =
            not_two s.script relations finds once r types own v (object_there types v (kinds.Class m c) (has_to v (kinds.Class m c) has) (class_there (kinds.Class m c) m c refl)) two
        none_stands _ (StandsInDeclarations.unbound v among d unbound) = unbound (data_bound v among d)
