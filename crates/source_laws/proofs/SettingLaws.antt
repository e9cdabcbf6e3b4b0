-- What two settings that agree but for the target say of objects of the sources is the same, and such objects lead to such objects.
use Rattle.std.specs.Prelude.{◌≡◌, ◌≢◌, ◌==◌, ℕ, Bool, true, false, List, map, Option, None, Some, slice_get, if◌then◌else◌}
use Rattle.std.specs.Option.{option_map}
use Rattle.std.proofs.Common.{refl, ap}
use Rattle.mof_metamodel.specs.Metamodels.{props_of, type_of}
use Rattle.object_tables.specs.Models.{ModelData, class_at, is_class_type, values_at, partners_at}
use Rattle.qv_syntax.specs.declared.query.ModelSlot.{ModelSlot}
use Rattle.qv_syntax.specs.declared.operation.ClassOperation.{ClassOperation}
use Rattle.qv_syntax.specs.declared.operation.ClassOperation.TheVariants as tests
use Rattle.qv_syntax.specs.declared.type_tree.Kind.TheVariants.{Set}
use Rattle.qv_syntax.specs.declared.typed.Values.{Values}
use Rattle.qvtr_semantics.specs.declared.datum.Datum.{Datum}
use Rattle.qvtr_semantics.specs.declared.datum.Datum.TheVariants.{Obj, Val}
use Rattle.qvtr_semantics.specs.declared.out.Out.{Out}
use Rattle.qvtr_semantics.specs.declared.out.Out.TheVariants as outs
use Rattle.qvtr_semantics.specs.Outs.{and_then, given, datum_of, boolean}
use Rattle.qvtr_semantics.specs.Objects.{Setting, ObjectClass, object_datum, value_datum, meta_of, is_number_among, is_kind_of, data_at, held_at, navigated, property, class_of, is_type_of, is_of_kind, as_type, extent_of, extent}
use Rattle.qvtr_semantics.specs.Expressions.{class_operation}
use Rattle.source_laws.specs.Agreement.{AgreeBut}
use Rattle.source_laws.specs.SourceValues.{IsOfSources, HasNoTarget}
use Rattle.source_laws.proofs.DataLaws.{AllOfSources, IfOfSources, all_objects, all_values}
use Rattle.source_laws.proofs.OperationLaws.{given_apart, if_apart, datum_apart, navigated_apart}

module _ (t : ℕ) (slots : List ModelSlot) (ms ns : List ModelData) (agree : AgreeBut t ms ns) where
  abbrev one : Setting
  one = record { slots = slots; models = ms }

  abbrev other : Setting
  other = record { slots = slots; models = ns }

  -- ---- the same

  pub held_same : (d : Datum) (p : ℕ) → IsOfSources t d → held_at one d p ≡ held_at other d p
  held_same (Obj m o) p apart =
      ap (λ found. and_then found (λ model. and_then (class_at model o.0) (λ class. if is_number_among p (props_of model.meta class) then Some (data_at one m model o.0 p) else None))) (agree m apart)
  held_same (Val m v) p apart = refl

  pub class_same : (d : Datum) → IsOfSources t d → class_of one d ≡ class_of other d
  class_same (Obj m o) apart =
      ap (λ found. and_then found (λ (model : ModelData). option_map (λ class. let c : ObjectClass = record { meta = model.meta; class = class } in c) (class_at model o.0))) (agree m apart)
  class_same (Val m v) apart = refl

  pub extent_same : (m class : ℕ) → m ≢ t → extent one m class ≡ extent other m class
  extent_same m class apart = ap (λ found. given found (λ model. outs.Many Set (map (object_datum m) (extent_of model class)))) (agree m apart)

  pub property_same : (p : ℕ) (values : Values) (d : Datum) → IsOfSources t d → property one p values d ≡ property other p values d
  property_same p values d apart = ap (λ held. given held (navigated values)) (held_same d p apart)

  type_same : (class : ℕ) (d : Option Datum) → IfOfSources t d → given d (is_type_of one class) ≡ given d (is_type_of other class)
  type_same class None p = refl
  type_same class (Some d) p = ap (λ c. given c (λ (x : ObjectClass). boolean (x.class == class))) (class_same d p)

  kind_same : (class : ℕ) (d : Option Datum) → IfOfSources t d → given d (is_of_kind one class) ≡ given d (is_of_kind other class)
  kind_same class None p = refl
  kind_same class (Some d) p = ap (λ c. given c (λ (x : ObjectClass). boolean (is_kind_of x.meta x.class class))) (class_same d p)

  cast_same : (class : ℕ) (d : Option Datum) → IfOfSources t d → given d (as_type one class) ≡ given d (as_type other class)
  cast_same class None p = refl
  cast_same class (Some d) p = ap (λ c. given c (λ (x : ObjectClass). if is_kind_of x.meta x.class class then outs.One d else outs.Invalid)) (class_same d p)

  pub class_operation_same : (o : ClassOperation) (class : ℕ) (x : Out) → HasNoTarget t x → class_operation one o class x ≡ class_operation other o class x
  class_operation_same tests.IsTypeOf class x p = type_same class (datum_of x) (datum_apart t x p)
  class_operation_same tests.IsKindOf class x p = kind_same class (datum_of x) (datum_apart t x p)
  class_operation_same tests.AsType class x p = cast_same class (datum_of x) (datum_apart t x p)

  -- ---- without objects of the target

  abbrev IfAllApart : Option (List Datum) → Type 0
  IfAllApart None = Unit {0}
  IfAllApart (Some ds) = AllOfSources t ds

  data_apart : (m : ℕ) (model : ModelData) (o p : ℕ) → m ≢ t → AllOfSources t (data_at one m model o p)
  data_apart m model o p apart = by (is_class_type (type_of model.meta p))
    where
      by : (b : Bool) → AllOfSources t (if b then map (object_datum m) (partners_at model o p) else map (value_datum (meta_of one m)) (values_at model o p))
      by true = all_objects t m apart (partners_at model o p)
      by false = all_values t (meta_of one m) (values_at model o p)

  some_if : (b : Bool) (ds : List Datum) → AllOfSources t ds → IfAllApart (if b then Some ds else None)
  some_if true ds p = p
  some_if false ds p = tt

  class_held : (m : ℕ) (model : ModelData) (o p : ℕ) (class : Option ℕ) → m ≢ t
      → IfAllApart (and_then class (λ c. if is_number_among p (props_of model.meta c) then Some (data_at one m model o p) else None))
  class_held m model o p None apart = tt
  class_held m model o p (Some c) apart = some_if (is_number_among p (props_of model.meta c)) (data_at one m model o p) (data_apart m model o p apart)

  model_held : (m o p : ℕ) (found : Option ModelData) → m ≢ t
      → IfAllApart (and_then found (λ model. and_then (class_at model o) (λ c. if is_number_among p (props_of model.meta c) then Some (data_at one m model o p) else None)))
  model_held m o p None apart = tt
  model_held m o p (Some model) apart = class_held m model o p (class_at model o) apart

  held_apart : (d : Datum) (p : ℕ) → IsOfSources t d → IfAllApart (held_at one d p)
  held_apart (Obj m o) p apart = model_held m o.0 p (slice_get ms m) apart
  held_apart (Val m v) p apart = tt

  given_held : (held : Option (List Datum)) (values : Values) → IfAllApart held → HasNoTarget t (given held (navigated values))
  given_held None values p = tt
  given_held (Some ds) values p = navigated_apart t values ds p

  pub property_apart : (p : ℕ) (values : Values) (d : Datum) → IsOfSources t d → HasNoTarget t (property one p values d)
  property_apart p values d apart = given_held (held_at one d p) values (held_apart d p apart)

  cast_apart : (class : ℕ) (d : Option Datum) → IfOfSources t d → HasNoTarget t (given d (as_type one class))
  cast_apart class None p = tt
  cast_apart class (Some d) p = given_apart t (class_of one d) _ (λ c. if_apart t (is_kind_of c.meta c.class class) (outs.One d) outs.Invalid p tt)

  pub class_operation_apart : (o : ClassOperation) (class : ℕ) (x : Out) → HasNoTarget t x → HasNoTarget t (class_operation one o class x)
  class_operation_apart tests.IsTypeOf class x p = given_apart t (datum_of x) (is_type_of one class) (λ d. given_apart t (class_of one d) _ (λ c. tt))
  class_operation_apart tests.IsKindOf class x p = given_apart t (datum_of x) (is_of_kind one class) (λ d. given_apart t (class_of one d) _ (λ c. tt))
  class_operation_apart tests.AsType class x p = cast_apart class (datum_of x) (datum_apart t x p)

  pub extent_apart : (m class : ℕ) → m ≢ t → HasNoTarget t (extent one m class)
  extent_apart m class apart = given_apart t (slice_get ms m) _ (λ model. all_objects t m apart (extent_of model class))
