-- What a binding that meets a side has: values of its variables, templates that match and conjuncts that hold.
use Rattle.std.specs.Prelude.{◌≡◌, ℕ, zero, suc, true, false, ◌&&◌, ◌==◌, List, [], ◌∷◌, length, Option, None, Some, is_some, slice_get, Contains}
use Rattle.std.specs.List.{list_all, range_with_len, slice_index_or}
use Rattle.std.specs.Option.{option_map}
use Rattle.std.proofs.Common.{refl, sym, ap, ◌∙◌, arith, ◌<◌, ◌+◌}
use Rattle.std.proofs.lemmas.Bool.{and_parts, true≢false, eqb-true}
use Rattle.std.proofs.lemmas.List.FromFn.{length-range_with_len, get_or-range_with_len}
use Rattle.object_tables.specs.declared.value.Value.{Value}
use Rattle.object_tables.specs.Objects.{Object}
use Rattle.object_tables.specs.declared.value.ObjId.{ObjId}
use Rattle.object_tables.specs.Models.{ModelData, object_at, class_at}
use Rattle.object_tables.proofs.SlotLemmas.{Contains-to_filter}
use Rattle.mof_metamodel.specs.declared.desc.ClassId.{ClassId}
use Rattle.qv_syntax.specs.declared.program.Program.{Program}
use Rattle.qv_syntax.specs.declared.program.Rel.{Rel}
use Rattle.qv_syntax.specs.declared.program.Var.{Var}
use Rattle.qv_syntax.specs.declared.ty.Ty.{Ty, roll-Ty, out-Ty, roll-out-Ty}
use Rattle.qv_syntax.specs.declared.ty.Ty.TheOpen as of
use Rattle.qv_syntax.specs.declared.ty.Ty.TheVariants as types
use Rattle.qvtr_semantics.specs.declared.datum.Datum.{Datum}
use Rattle.qvtr_semantics.specs.declared.datum.Datum.TheVariants.{Obj, Val}
use Rattle.qvtr_semantics.specs.Objects.{object_datum, conforms_if, conforms_at, extent_of}
use Rattle.qvtr_semantics.specs.Outs.{and_then}
use Rattle.qvtr_semantics.specs.Expressions.{setting}
use Rattle.qvtr_semantics.specs.Templates.{Values, value_at, conforms, is_of_class}
use Rattle.qvtr_semantics.specs.Bindings.{is_model, meta_of_type, is_value_of_type, is_object_for, is_datum_for, is_value_for, have_values, conjunct_holds}
use Rattle.template_match.specs.declared.side.Side.{Side}
use Rattle.template_match.specs.Sides.{clause_of, domain_meets, meets_side}
use Rattle.template_match.specs.Search.{extent_by, extent_for, objects_in, objects_of}
use Rattle.template_match.proofs.ListLaws.{list_all_at}
use Rattle.mof_metamodel.proofs.Facts.{contains_map}

-- the three things that a side asks
pub record Meets (side : Side) (variables : List ℕ) (program : Program) (models : List ModelData) (rel : Rel) (b : Values) : Type 0 where
  pub have : have_values program models rel variables b ≡ true
  pub domains : list_all (domain_meets side program models b) rel.domains ≡ true
  pub clause : list_all (conjunct_holds program models b) (clause_of side rel) ≡ true

pub meets_parts : (side : Side) (variables : List ℕ) (program : Program) (models : List ModelData) (rel : Rel) (b : Values) → meets_side side variables program models rel b ≡ true
    → Meets side variables program models rel b
meets_parts side variables program models rel b h =
    let outer = and_parts (have_values program models rel variables b && list_all (domain_meets side program models b) rel.domains) (list_all (conjunct_holds program models b) (clause_of side rel)) h in
    let inner = and_parts (have_values program models rel variables b) (list_all (domain_meets side program models b) rel.domains) outer.0 in
    record { have = inner.0; domains = inner.1; clause = outer.1 }

-- a variable with its value
pub record Valued (program : Program) (models : List ModelData) (rel : Rel) (b : Values) (v : ℕ) : Type 0 where
  pub var : Var
  pub found : slice_get rel.vars v ≡ Some var
  pub value : Datum
  pub at : value_at b v ≡ Some value
  pub fits : is_datum_for (setting program models) var value ≡ true

valued_by : (program : Program) (models : List ModelData) (rel : Rel) (b : Values) (v : ℕ) (o : Option Var) (q : Option Datum) → slice_get rel.vars v ≡ o → value_at b v ≡ q
    → is_value_for (setting program models) o q ≡ true → Valued program models rel b v
valued_by program models rel b v (Some var) (Some d) found at h = record { var = var; found = found; value = d; at = at; fits = h }
valued_by program models rel b v (Some var) None found at h = absurd (true≢false (sym h))
valued_by program models rel b v None q found at h = absurd (true≢false (sym h))

pub valued : (program : Program) (models : List ModelData) (rel : Rel) (vars : List ℕ) (b : Values) (v : ℕ) → have_values program models rel vars b ≡ true → Contains vars v
    → Valued program models rel b v
valued program models rel vars b v have c =
    valued_by program models rel b v (slice_get rel.vars v) (value_at b v) refl refl
    (list_all_at (λ w. is_value_for (setting program models) (slice_get rel.vars w) (value_at b w)) vars v have c)

-- ---- objects

contains_range : (n o : ℕ) → o < n → Contains (range_with_len 0 n) o
contains_range n o within =
    let long = length-range_with_len 0 n in
    let at = get_or-range_with_len 0 n o o within in
    let plain : 0 + o ≡ o = omega arith in
    (o, omega (arith, long, within), at ∙ plain)

within_objects : (xs : List (Option Object)) (o : ℕ) (ob : Object) → slice_index_or xs o None ≡ Some ob → o < length xs
within_objects [] o ob h = absurd (cc)
within_objects (x ∷ xs) zero ob h = omega arith
within_objects (x ∷ xs) (suc o) ob h = let more = within_objects xs o ob h in omega (arith, more)

in_extent_by : (model : ModelData) (class o : ℕ) (q : Option Object) → object_at model o ≡ q → conforms_at model class o ≡ true → o < length model.objects
in_extent_by model class o None at h = absurd (true≢false (sym h ∙ ap (λ (x : Option Object). conforms_if model.meta class (option_map (λ ob. ob.class) x)) at))
in_extent_by model class o (Some ob) at h = within_objects model.objects o ob at

in_extent : (model : ModelData) (class o : ℕ) → conforms_at model class o ≡ true → Contains (extent_of model class) o
in_extent model class o h =
    Contains-to_filter (conforms_at model class) (range_with_len 0 (length model.objects)) o h
    (contains_range (length model.objects) o (in_extent_by model class o (object_at model o) refl h))

conforming : (model : ModelData) (class o : ℕ) (q : Option ℕ) → class_at model o ≡ q → conforms class (option_map (λ c. record { meta = model.meta; class = c }) q) ≡ true → conforms_at model class o ≡ true
conforming model class o None at h = absurd (true≢false (sym h))
conforming model class o (Some c) at h = ap (conforms_if model.meta class) at ∙ h

-- what an object that a variable may have says of the variable
pub record Extended (models : List ModelData) (var : Var) (d : Datum) : Type 0 where
  pub extent : ℕ × ClassId
  pub is : extent_for (Some var) ≡ Some extent
  pub within : Contains (objects_of models (Some extent)) d

of_class_in : (program : Program) (models : List ModelData) (m : ℕ) (class : ClassId) (o : ObjId) (q : Option ModelData) → slice_get models m ≡ q
    → conforms class.0 (and_then q (λ model. option_map (λ c. record { meta = model.meta; class = c }) (class_at model o.0))) ≡ true
    → Contains (objects_in m class q) (Obj m o)
of_class_in program models m class o None at h = absurd (true≢false (sym h))
of_class_in program models m class o (Some model) at h =
    contains_map (object_datum m) (extent_of model class.0) o.0 (in_extent model class.0 o.0 (conforming model class.0 o.0 (class_at model o.0) refl h))

class_by : (program : Program) (models : List ModelData) (var : Var) (meta : ℕ) (class : ClassId) (given : Option ℕ) (m : ℕ) (o : ObjId) → var.ty ≡ types.Class meta class → var.model ≡ given
    → (is_model given m && is_of_class (setting program models) class.0 (Obj m o)) ≡ true → Extended models var (Obj m o)
class_by program models var meta class None m o is model h = absurd (true≢false (sym h))
class_by program models var meta class (Some n) m o is model h =
    let both = and_parts (n == m) (is_of_class (setting program models) class.0 (Obj m o)) h in
    let same : n ≡ m = eqb-true n m both.0 in
    record {
      extent = (m, class);
      is = ap (λ t. extent_by t var.model) is ∙ ap (extent_by (types.Class meta class)) (model ∙ ap (λ x. Some x) same);
      within = of_class_in program models m class o (slice_get models m) refl both.1;
    }

extended_by : (program : Program) (models : List ModelData) (var : Var) (l : of.Ty-F Ty) (m : ℕ) (o : ObjId) → roll-Ty l ≡ var.ty
    → is_object_for (setting program models) var var.ty m (Obj m o) ≡ true → Extended models var (Obj m o)
extended_by program models var (of.Class meta class) m o is h =
    let same : types.Class meta class ≡ var.ty = sym (types.rolls-Class meta class) ∙ is in
    class_by program models var meta class var.model m o (sym same) refl (ap (λ t. is_object_for (setting program models) var t m (Obj m o)) same ∙ h)
extended_by program models var of.Str m o is h = absurd (true≢false (sym (ap (λ t. is_object_for (setting program models) var t m (Obj m o)) (sym types.rolls-Str ∙ is) ∙ h)))
extended_by program models var of.Int m o is h = absurd (true≢false (sym (ap (λ t. is_object_for (setting program models) var t m (Obj m o)) (sym types.rolls-Int ∙ is) ∙ h)))
extended_by program models var of.Bool m o is h = absurd (true≢false (sym (ap (λ t. is_object_for (setting program models) var t m (Obj m o)) (sym types.rolls-Bool ∙ is) ∙ h)))
extended_by program models var (of.Enum meta e) m o is h = absurd (true≢false (sym (ap (λ t. is_object_for (setting program models) var t m (Obj m o)) (sym (types.rolls-Enum meta e) ∙ is) ∙ h)))
extended_by program models var (of.Coll k inner) m o is h = absurd (true≢false (sym (ap (λ t. is_object_for (setting program models) var t m (Obj m o)) (sym (types.rolls-Coll k inner) ∙ is) ∙ h)))
extended_by program models var of.Null m o is h = absurd (true≢false (sym (ap (λ t. is_object_for (setting program models) var t m (Obj m o)) (sym types.rolls-Null ∙ is) ∙ h)))

pub extended : (program : Program) (models : List ModelData) (var : Var) (m : ℕ) (o : ObjId) → is_datum_for (setting program models) var (Obj m o) ≡ true → Extended models var (Obj m o)
extended program models var m o h = extended_by program models var (out-Ty var.ty) m o (roll-out-Ty var.ty) h

-- a type that has an extent is a class
class_there : (l : of.Ty-F Ty) (ty : Ty) (model : Option ℕ) → roll-Ty l ≡ ty → is_some (extent_by ty model) ≡ true → (meta : ℕ) × (class : ClassId) × (ty ≡ types.Class meta class)
class_there (of.Class meta class) ty model is h = (meta, class, sym is ∙ types.rolls-Class meta class)
class_there of.Str ty model is h = absurd (true≢false (sym (ap (λ t. is_some (extent_by t model)) (sym types.rolls-Str ∙ is) ∙ h)))
class_there of.Int ty model is h = absurd (true≢false (sym (ap (λ t. is_some (extent_by t model)) (sym types.rolls-Int ∙ is) ∙ h)))
class_there of.Bool ty model is h = absurd (true≢false (sym (ap (λ t. is_some (extent_by t model)) (sym types.rolls-Bool ∙ is) ∙ h)))
class_there (of.Enum m e) ty model is h = absurd (true≢false (sym (ap (λ t. is_some (extent_by t model)) (sym (types.rolls-Enum m e) ∙ is) ∙ h)))
class_there (of.Coll k inner) ty model is h = absurd (true≢false (sym (ap (λ t. is_some (extent_by t model)) (sym (types.rolls-Coll k inner) ∙ is) ∙ h)))
class_there of.Null ty model is h = absurd (true≢false (sym (ap (λ t. is_some (extent_by t model)) (sym types.rolls-Null ∙ is) ∙ h)))

no_class : (m : ℕ) (class : ClassId) (v : Value) → is_value_of_type (types.Class m class) v ≡ false
no_class m class v = refl

-- a variable that may have a value of a data type is one for these
data_by : (program : Program) (models : List ModelData) (ty : Ty) (v : Value) → is_value_of_type ty v ≡ true → (m : ℕ) (class : ClassId) → ty ≡ types.Class m class → ⊥
data_by program models ty v h m class is = absurd (true≢false (sym h ∙ ap (λ t. is_value_of_type t v) is ∙ no_class m class v))

pub data_type : (program : Program) (models : List ModelData) (var : Var) (m : ℕ) (v : Value) → is_datum_for (setting program models) var (Val m v) ≡ true
    → (n : ℕ) (class : ClassId) → var.ty ≡ types.Class n class → ⊥
data_type program models var m v h =
    let both = and_parts (m == meta_of_type var.ty) (is_value_of_type var.ty v) h in
    data_by program models var.ty v both.1

-- a variable with a value of a data type has no extent
pub no_extent : (program : Program) (models : List ModelData) (var : Var) (m : ℕ) (v : Value) → is_datum_for (setting program models) var (Val m v) ≡ true
    → is_some (extent_for (Some var)) ≡ true → ⊥
no_extent program models var m v fits some =
    let class = class_there (out-Ty var.ty) var.ty var.model (roll-out-Ty var.ty) some in
    data_type program models var m v fits class.0 class.1 class.2
