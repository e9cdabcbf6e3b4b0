-- What stands at a property is of the property's type, and tests, casts and extents give what they say (OCL 2.4, sections 7.5.3, 7.5.10 and
-- 11.3.1; MOF 2.5.1, 13.4).
use Rattle.std.proofs.Common.{◌≡◌, ◌<◌, ◌==◌, ℕ, Bool, true, false, List, [], ◌∷◌, map, length, Option, None, Some, refl, sym, ap, ◌∙◌, subst, inl, inr, if◌then◌else◌, arith}
use Rattle.std.specs.Prelude.{slice_get, slice_index_or, Contains, All, IsTrue, nat_lt}
use Rattle.std.specs.List.{range_with_len}
use Rattle.std.specs.Option.{option_map}
use Rattle.std.proofs.lemmas.Bool.{and_parts, true≢false, false≢true, eqb-true, ltb-true, cases_lt}
use Rattle.std.proofs.lemmas.Option.{none-some, same_Some, cond_some}
use Rattle.std.proofs.lemmas.List.{get_or_past}
use Rattle.std.proofs.lemmas.List.Folds.{Any-from_list_any}
use Rattle.std.proofs.lemmas.List.Elements.{All-head, All-weaker, All-map, All-contains_itself, filter_passes}
use Rattle.mof_metamodel.specs.declared.desc.MetaDesc.{MetaDesc}
use Rattle.mof_metamodel.specs.declared.desc.ClassId.{ClassId}
use Rattle.mof_metamodel.specs.declared.desc.EnumId.{EnumId}
use Rattle.mof_metamodel.specs.declared.desc.EnumDesc.{EnumDesc}
use Rattle.mof_metamodel.specs.declared.desc.PropId.{PropId}
use Rattle.mof_metamodel.specs.declared.desc.PropType.{PropType}
use Rattle.mof_metamodel.specs.declared.desc.PropType.TheVariants as props
use Rattle.mof_metamodel.specs.Metamodels.{class_count, lineage_of, props_of, type_of, enum_count, no_enum, enum_at, Conforms}
use Rattle.mof_metamodel.proofs.WellLemmas.{listed_conforms}
use Rattle.object_tables.specs.declared.value.Value.{Value}
use Rattle.object_tables.specs.declared.value.Value.TheVariants as values
use Rattle.object_tables.specs.Objects.{Object}
use Rattle.object_tables.specs.Models.{ModelData, object_at, class_at, values_at, partners_at, is_class_type, is_value_of, IsPartnerFor, ConformsTo as OfType}
use Rattle.object_tables.specs.Kept.{Kept}
use Rattle.qv_syntax.specs.declared.type_tree.Kind.TheVariants as kinds
use Rattle.qv_syntax.specs.declared.ty.Ty.{Ty}
use Rattle.qv_syntax.specs.declared.ty.Ty.TheVariants as types
use Rattle.qv_syntax.specs.declared.query.ModelSlot.{ModelSlot}
use Rattle.qv_syntax.specs.declared.operation.ClassOperation.{ClassOperation}
use Rattle.qv_syntax.specs.declared.operation.ClassOperation.TheVariants as tests
use Rattle.qv_syntax.specs.declared.typed.Values.{Values}
use Rattle.qv_syntax.specs.declared.typed.Values.TheVariants as gives
use Rattle.qv_syntax.specs.TypeRules.{HasProperty, ClassOperationGives, value_type, tested, navigated as navigated_type}
use Rattle.qvtr_semantics.specs.declared.datum.Datum.{Datum}
use Rattle.qvtr_semantics.specs.declared.datum.Datum.TheVariants.{Val}
use Rattle.qvtr_semantics.specs.declared.out.Out.{Out}
use Rattle.qvtr_semantics.specs.declared.out.Out.TheVariants as outs
use Rattle.qvtr_semantics.specs.Outs.{and_then, datum_of, boolean}
use Rattle.qvtr_semantics.specs.Objects.{Setting, ObjectClass, meta_number, meta_of, object_datum, value_datum, is_number_among, is_kind_of, data_at, held_at, single, navigated, property, class_of, is_type_of, is_of_kind, as_type, conforms_if, conforms_at, extent_of, extent}
use Rattle.qvtr_semantics.specs.Expressions.{class_operation}
use Rattle.evaluation_laws.specs.TypedValues.{IsModelFor, AreModels, IsDatumIn, IsValueIn}
use Rattle.evaluation_laws.proofs.ListLaws.{all_in_order}
use Rattle.evaluation_laws.proofs.ValueLaws.{of_given, of_other_class, is_boolean, datum_in}

-- ---- classes

pub among : (q : ℕ) (xs : List ℕ) → is_number_among q xs ≡ true → Contains xs q
among q xs h =
    let a = Any-from_list_any (λ k. k == q) xs h in
    let same : a.1 ≡ q = eqb-true a.1 q a.4 in
    (a.0, a.2, ap (λ d. slice_index_or xs a.0 d) (sym same) ∙ a.3 ∙ same)

class_within : (model : ModelData) (o : ℕ) (own : ℕ) → Kept model → (ob : Option Object) → object_at model o ≡ ob → option_map (λ (x : Object). x.class) ob ≡ Some own → own < class_count model.meta
class_within model o own kept None at is = absurd (none-some own is)
class_within model o own kept (Some object) at is = subst (λ c. c < class_count model.meta) (same_Some object.class own is) (kept.objects o object at).class

-- a live object's class conforms to those that are among its classes
pub kind_conforms : (model : ModelData) (o own class : ℕ) → Kept model → class_at model o ≡ Some own → is_kind_of model.meta own class ≡ true → Conforms model.meta own class
kind_conforms model o own class kept is listed =
    listed_conforms model.meta own class (class_within model o own kept (object_at model o) refl is) (among class (lineage_of model.meta own) listed)

-- an enumeration that has a literal is one of the metamodel's
enum_there : (meta : MetaDesc) (e n : ℕ) → n < length (enum_at meta e).literals → e < enum_count meta
enum_there meta e n below = elim (cases_lt e (enum_count meta)) [
  | inl within ↦ within
  | inr past ↦
      let none : enum_at meta e ≡ no_enum = get_or_past meta.enums e no_enum past in
      let empty : n < 0 = subst (λ (d : EnumDesc). n < length d.literals) none below in
      absurd (omega arith)
]

module _ (metas : List MetaDesc) (s : Setting) (models : AreModels metas s) (In : ℕ → Type 0) where
  abbrev IsOf : Ty → Out → Type 0
  IsOf ty x = IsValueIn metas s In ty x

  -- ---- the values of attributes

  value_is : (m k : ℕ) (meta : MetaDesc) (t : PropType) → slice_get metas m ≡ Some meta → meta_of s k ≡ m → is_class_type (Some t) ≡ false
      → (v : Value) → IsTrue (is_value_of meta (Some t) v) → IsDatumIn metas s In (value_type m t) (value_datum (meta_of s k) v)
  value_is m k meta props.Str found of plain (values.Str text) is = (text, refl, is)
  value_is m k meta props.Str found of plain v is = absurd (false≢true is)
  value_is m k meta props.Int found of plain (values.Int i) is = (i, refl)
  value_is m k meta props.Int found of plain v is = absurd (false≢true is)
  value_is m k meta props.Bool found of plain (values.Bool b) is = (b, refl)
  value_is m k meta props.Bool found of plain v is = absurd (false≢true is)
  value_is m k meta (props.Enum e) found of plain (values.Lit f n) is =
      let parts = and_parts (e.0 == f.0) (nat_lt n (length (enum_at meta e.0).literals)) is in
      let same : e ≡ f = ap (λ (x : ℕ). let id : EnumId = record { 0 = x } in id) (eqb-true e.0 f.0 parts.0) in
      let below : n < length (enum_at meta e.0).literals = ltb-true n (length (enum_at meta e.0).literals) parts.1 in
      (n, ap (λ x. Val x (values.Lit f n)) of ∙ ap (λ x. Val m (values.Lit x n)) (sym same), record { has = record { meta = meta; found = found; within = enum_there meta e.0 n below }; within = below })
  value_is m k meta (props.Enum e) found of plain v is = absurd (false≢true is)
  value_is m k meta (props.Class c) found of plain v is = absurd (true≢false plain)

  -- ---- the partners of references

  partner_is : (k : ℕ) (slot : ModelSlot) (model : ModelData) (c : ClassId) (p : ℕ) → slice_get s.slots k ≡ Some slot → slice_get s.models k ≡ Some model → In k
      → type_of model.meta p ≡ Some (props.Class c) → (b : ℕ) → IsPartnerFor model p b → IsDatumIn metas s In (types.Class slot.meta c) (object_datum k b)
  partner_is k slot model c p placed found here typed b partner = (
    k,
    record { 0 = b },
    refl,
    record {
      slot = slot;
      placed = placed;
      typed = refl;
      content = model;
      found = found;
      of_class = record { class = partner.class; class_is = partner.class_is; conforms = subst (OfType model.meta partner.class) typed partner.conforms };
    },
    here,
  )

  -- ---- what stands at a property

  -- the values or partners of an object at a property of its class
  all_held : (k o p own : ℕ) (slot : ModelSlot) (model : ModelData) (t : PropType) → slice_get s.slots k ≡ Some slot → slice_get s.models k ≡ Some model → In k
      → class_at model o ≡ Some own → Contains (props_of model.meta own) p → type_of model.meta p ≡ Some t
      → All (IsDatumIn metas s In (value_type slot.meta t)) (data_at s k model o p)
  all_held k o p own slot model t placed found here class_is has typed = by (is_class_type (Some t)) refl
    where
      is : IsModelFor metas slot model
      is = models k slot model placed found

      held : Bool → List Datum
      held b = if b then map (object_datum k) (partners_at model o p) else map (value_datum (meta_of s k)) (values_at model o p)

      which : (b : Bool) → is_class_type (Some t) ≡ b → is_class_type (type_of model.meta p) ≡ b
      which b at = ap is_class_type typed ∙ at

      by_reference : (u : PropType) → type_of model.meta p ≡ Some u → is_class_type (Some u) ≡ true
          → All (IsDatumIn metas s In (value_type slot.meta u)) (map (object_datum k) (partners_at model o p))
      by_reference (props.Class c) same at =
          let there = is.kept.references o p (record { class = own; class_is = class_is; has = has; reference = ap is_class_type same }) in
          All-map (IsDatumIn metas s In (types.Class slot.meta c)) (object_datum k) (partners_at model o p)
          (All-weaker (Contains (partners_at model o p)) (λ b. IsDatumIn metas s In (types.Class slot.meta c) (object_datum k b))
          (λ b linked. partner_is k slot model c p placed found here same b (there.partners b linked)) (partners_at model o p) (All-contains_itself (partners_at model o p)))
      by_reference u same at = absurd (false≢true at)

      by_attribute : is_class_type (Some t) ≡ false → All (IsDatumIn metas s In (value_type slot.meta t)) (map (value_datum (meta_of s k)) (values_at model o p))
      by_attribute at =
          let there = is.kept.attributes o p (record { class = own; class_is = class_is; has = has; attribute = which false at }) in
          All-map (IsDatumIn metas s In (value_type slot.meta t)) (value_datum (meta_of s k)) (values_at model o p)
          (All-weaker (λ v. IsTrue (is_value_of model.meta (type_of model.meta p) v)) (λ v. IsDatumIn metas s In (value_type slot.meta t) (value_datum (meta_of s k) v))
          (λ v fits. value_is slot.meta k model.meta t is.described (ap meta_number placed) at v (subst (λ u. IsTrue (is_value_of model.meta u v)) typed fits))
          (values_at model o p) there.values.typed)

      by : (b : Bool) → is_class_type (Some t) ≡ b → All (IsDatumIn metas s In (value_type slot.meta t)) (data_at s k model o p)
      by true at = subst (λ b. All (IsDatumIn metas s In (value_type slot.meta t)) (held b)) (sym (which true at)) (by_reference t typed at)
      by false at = subst (λ b. All (IsDatumIn metas s In (value_type slot.meta t)) (held b)) (sym (which false at)) (by_attribute at)

  -- what is held by an object of a class that has the property
  pub held_is : (object : Ty) (prop : PropId) (v : Values) (t : Ty) → HasProperty metas object prop v t → (d : Datum) → IsDatumIn metas s In object d
      → (ds : List Datum) → held_at s d prop.0 ≡ Some ds → All (IsDatumIn metas s In t) ds
  held_is object prop v t p d is ds held = by (subst (λ ty. IsDatumIn metas s In ty d) p.is is)
    where
      by : IsDatumIn metas s In (types.Class p.m p.class) d → All (IsDatumIn metas s In t) ds
      by (k, o, same, there, here) =
          let own = there.of_class.class in
          let of_model = models k there.slot there.content there.placed there.found in
          let content = data_at s k there.content o.0 prop.0 in
          let step = λ (class : ℕ). if is_number_among prop.0 (props_of there.content.meta class) then Some (data_at s k there.content o.0 prop.0) else None in
          let opened : (if is_number_among prop.0 (props_of there.content.meta own) then Some content else None) ≡ Some ds =
          ap (λ x. and_then x step) (sym there.of_class.class_is)
          ∙ ap (λ x. and_then x (λ model. and_then (class_at model o.0) (λ class. if is_number_among prop.0 (props_of model.meta class) then Some (data_at s k model o.0 prop.0) else None))) (sym there.found)
          ∙ ap (λ e. held_at s e prop.0) (sym same) ∙ held in
          let parts = cond_some (is_number_among prop.0 (props_of there.content.meta own)) content ds opened in
          let one : there.content.meta ≡ p.has.meta = same_Some there.content.meta p.has.meta (sym of_model.described ∙ ap (slice_get metas) there.typed ∙ p.has.found) in
          let typed : type_of there.content.meta prop.0 ≡ Some p.of = ap (λ meta. type_of meta prop.0) one ∙ p.typed in
          let all = all_held k o.0 prop.0 own there.slot there.content p.of there.placed there.found here there.of_class.class_is (among prop.0 (props_of there.content.meta own) parts.0) typed in
          let ty : value_type there.slot.meta p.of ≡ t = ap (λ m. value_type m p.of) there.typed ∙ sym p.value in
          subst (All (IsDatumIn metas s In t)) parts.1 (subst (λ u. All (IsDatumIn metas s In u) content) ty all)

  single_is : (ty : Ty) (ds : List Datum) → All (IsDatumIn metas s In ty) ds → IsOf ty (single ds)
  single_is ty [] all = tt
  single_is ty (d ∷ ds) all = All-head (IsDatumIn metas s In ty) d ds all

  pub navigated_is : (v : Values) (ty : Ty) (ds : List Datum) → All (IsDatumIn metas s In ty) ds → IsOf (navigated_type v ty) (navigated v ds)
  navigated_is gives.Single ty ds all = single_is ty ds all
  navigated_is gives.Set ty ds all = (ty, refl, all_in_order (IsDatumIn metas s In ty) ds all)
  navigated_is gives.OrderedSet ty ds all = (ty, refl, all)

  -- navigation from an object
  pub property_is : (object : Ty) (prop : PropId) (v : Values) (t : Ty) → HasProperty metas object prop v t → (d : Datum) → IsDatumIn metas s In object d
      → IsOf (navigated_type v t) (property s prop.0 v d)
  property_is object prop v t p d is = of_given (IsOf (navigated_type v t)) (held_at s d prop.0) (navigated v) tt (λ ds held. navigated_is v t ds (held_is object prop v t p d is ds held))

  -- ---- tests and casts

  cast_is : (m : ℕ) (own class : ClassId) (d : Datum) → IsDatumIn metas s In (types.Class m own) d → IsOf (types.Class m class) (as_type s class.0 d)
  cast_is m own class d (k, o, same, there, here) =
      of_given (IsOf (types.Class m class)) (class_of s d) (λ c. if is_kind_of c.meta c.class class.0 then outs.One d else outs.Invalid) tt (λ c has. by c has (is_kind_of c.meta c.class class.0) refl)
    where
      here_is : (c : ObjectClass) → class_of s d ≡ Some c → record { meta = there.content.meta; class = there.of_class.class } ≡ c
      here_is c has =
          same_Some (record { meta = there.content.meta; class = there.of_class.class }) c
          (ap (λ x. option_map (λ class. record { meta = there.content.meta; class = class }) x) (sym there.of_class.class_is)
          ∙ ap (λ x. and_then x (λ model. option_map (λ class. record { meta = model.meta; class = class }) (class_at model o.0))) (sym there.found)
          ∙ ap (class_of s) (sym same) ∙ has)

      by : (c : ObjectClass) → class_of s d ≡ Some c → (b : Bool) → is_kind_of c.meta c.class class.0 ≡ b → IsOf (types.Class m class) (if b then outs.One d else outs.Invalid)
      by c has false kind = tt
      by c has true kind =
          let own_kind : is_kind_of there.content.meta there.of_class.class class.0 ≡ true = ap (λ (x : ObjectClass). is_kind_of x.meta x.class class.0) (here_is c has) ∙ kind in
          let kept = (models k there.slot there.content there.placed there.found).kept in
          (k, o, same, of_other_class s m own class k o there (kind_conforms there.content o.0 there.of_class.class class.0 kept there.of_class.class_is own_kind), here)

  pub class_operation_is : (operation : ClassOperation) (class : ClassId) (a t : Ty) → ClassOperationGives metas operation class a t → (x : Out) → IsOf a x
      → IsOf t (class_operation s operation class.0 x)
  class_operation_is operation class a t g x is = subst (λ u. IsOf u (class_operation s operation class.0 x)) (sym g.gives) (by operation)
    where
      by : (o : ClassOperation) → IsOf (tested o g.m class) (class_operation s o class.0 x)
      by tests.IsTypeOf = of_given (IsOf types.Bool) (datum_of x) (is_type_of s class.0) tt (λ d has. of_given (IsOf types.Bool) (class_of s d) (λ c. boolean (c.class == class.0)) tt (λ c of. is_boolean metas s In (c.class == class.0)))
      by tests.IsKindOf = of_given (IsOf types.Bool) (datum_of x) (is_of_kind s class.0) tt (λ d has. of_given (IsOf types.Bool) (class_of s d) (λ c. boolean (is_kind_of c.meta c.class class.0)) tt (λ c of. is_boolean metas s In (is_kind_of c.meta c.class class.0)))
      by tests.AsType = of_given (IsOf (types.Class g.m class)) (datum_of x) (as_type s class.0) tt (λ d has.
          cast_is g.m g.own class d (datum_in metas s In (types.Class g.m g.own) x (subst (λ u. IsOf u x) g.is is) d has))

  -- ---- extents

  object_is : (k : ℕ) (slot : ModelSlot) (model : ModelData) (class : ClassId) → slice_get s.slots k ≡ Some slot → slice_get s.models k ≡ Some model → In k
      → (o : ℕ) → conforms_at model class.0 o ≡ true → IsDatumIn metas s In (types.Class slot.meta class) (object_datum k o)
  object_is k slot model class placed found here o conforms = by (class_at model o) refl conforms
    where
      by : (c : Option ℕ) → class_at model o ≡ c → conforms_if model.meta class.0 c ≡ true → IsDatumIn metas s In (types.Class slot.meta class) (object_datum k o)
      by None at is = absurd (false≢true is)
      by (Some own) at is = (
        k,
        record { 0 = o },
        refl,
        record {
          slot = slot;
          placed = placed;
          typed = refl;
          content = model;
          found = found;
          of_class = record { class = own; class_is = at; conforms = kind_conforms model o own class.0 (models k slot model placed found).kept at is };
        },
        here,
      )

  pub extent_is : (k : ℕ) (slot : ModelSlot) (class : ClassId) → slice_get s.slots k ≡ Some slot → In k → IsOf (types.Coll kinds.Set (types.Class slot.meta class)) (extent s k class.0)
  extent_is k slot class placed here =
      of_given (IsOf (types.Coll kinds.Set (types.Class slot.meta class))) (slice_get s.models k) (λ model. outs.Many kinds.Set (map (object_datum k) (extent_of model class.0))) tt (λ model found. (
        types.Class slot.meta class,
        refl,
        All-map (IsDatumIn metas s In (types.Class slot.meta class)) (object_datum k) (extent_of model class.0)
            (All-weaker (λ o. conforms_at model class.0 o ≡ true) (λ o. IsDatumIn metas s In (types.Class slot.meta class) (object_datum k o))
            (object_is k slot model class placed found here) (extent_of model class.0) (filter_passes (conforms_at model class.0) (range_with_len 0 (length model.objects)))),
      ))
