-- What it says of a value that a variable may have it; and what stands at the properties of the source's objects.
use Rattle.std.proofs.Common.{◌≡◌, ◌<◌, ℕ, Bool, true, false, ◌==◌, List, [], map, Option, None, Some, refl, sym, ap, ◌∙◌, subst, if◌then◌else◌}
use Rattle.std.specs.Option.{option_map, option_and_then}
use Rattle.std.proofs.lemmas.Bool.{false≢true, and_parts, eqb-true}
use Rattle.std.proofs.lemmas.Option.{none-some, same_Some}
use Rattle.mof_metamodel.specs.Metamodels.{props_of, type_of}
use Rattle.object_tables.specs.declared.value.Value.TheVariants as values
use Rattle.object_tables.specs.Objects.{Object}
use Rattle.object_tables.specs.Models.{object_at, slot_in, is_class_type}
use Rattle.qvtr_semantics.specs.declared.datum.Datum.{Datum}
use Rattle.qvtr_semantics.specs.declared.datum.Datum.TheVariants.{Obj, Val}
use Rattle.qvtr_semantics.specs.Outs.{and_then}
use Rattle.qvtr_semantics.specs.Objects.{Setting, object_datum, value_datum, is_number_among, held_at, ObjectClass}
use Rattle.qvtr_semantics.specs.Expressions.{setting}
use Rattle.qvtr_semantics.specs.Templates.{is_of_class, conforms}
use Rattle.qvtr_semantics.specs.Bindings.{is_value_for}
use Rattle.repair_semantics.specs.declared.term.Term.{Term}
use Rattle.repair_semantics.specs.declared.term.TermValue.{TermValue, out-TermValue, roll-TermValue, roll-out-TermValue}
use Rattle.repair_semantics.specs.declared.term.TermValue.TheOpen as layers
use Rattle.repair_semantics.specs.declared.term.TermValue.TheVariants as of
use Rattle.repair_semantics.specs.Terms.{datum_part, datum_in}
use Rattle.example_models.specs.ClsTable.{cls_desc}
use Rattle.example_models.specs.Source.{package_count, classes_in, attribute_count, package_number, class_number, package_object, class_object, attribute_object, source_data}
use Rattle.example_program.specs.Words.{text_variable, object_variable}
use Rattle.example_program.specs.MainProgram.{main_program_data}
use Rattle.example_laws.specs.ExampleModels.{first_models}
use Rattle.example_laws.specs.ExampleEntries.{source_value, attribute_number}
use Rattle.example_laws.proofs.PlainValues.{datum_itself}
use Rattle.example_laws.proofs.SourceObjects.{IsSourceObject, source_objects}

-- ---- data and terms

value_is : (x : TermValue) (d : Datum) → datum_in x ≡ Some d → x ≡ of.Val d
value_is x d h = by (out-TermValue x) (roll-out-TermValue x) h
  where
    by : (y : layers.TermValue-F TermValue Term) → roll-TermValue y ≡ x → datum_part y ≡ Some d → x ≡ of.Val d
    by (layers.Val e) is g = sym is ∙ of.rolls-Val e ∙ ap of.Val (same_Some e d g)
    by (layers.Term t) is g = absurd (none-some d g)

-- a value that is a datum
pub one_value : (x : Option TermValue) (d : Datum) → option_and_then datum_in x ≡ Some d → x ≡ Some (of.Val d)
one_value None d h = absurd (none-some d h)
one_value (Some x) d h = ap Some (value_is x d h)

-- one that is neither a datum nor a term is none
pub no_value : (x : Option TermValue) → ((d : Datum) → option_and_then datum_in x ≡ Some d → ⊥) → ((t : Term) → x ≡ Some (of.Term t) → ⊥) → x ≡ None
no_value None no_datum no_term = refl
no_value (Some x) no_datum no_term = by (out-TermValue x) (roll-out-TermValue x)
  where
    by : (y : layers.TermValue-F TermValue Term) → roll-TermValue y ≡ x → Some x ≡ None
    by (layers.Val d) is = absurd (no_datum d (ap datum_in (sym is ∙ of.rolls-Val d) ∙ datum_itself d))
    by (layers.Term t) is = absurd (no_term t (ap Some (sym is ∙ of.rolls-Term t)))

datum_of_object : Option Datum → ℕ
datum_of_object None = 0
datum_of_object (Some (Obj m o)) = o.0
datum_of_object (Some (Val m v)) = 0

-- different objects are different values
pub same_object : (o p : ℕ) → Some (source_value o) ≡ Some (source_value p) → o ≡ p
unfolding datum_of_object
same_object o p h =
    ap datum_of_object (sym (datum_itself (Obj 0 (record { 0 = o }))) ∙ ap (option_and_then datum_in) h ∙ datum_itself (Obj 0 (record { 0 = p })))

text_of : Option Datum → List ℕ
text_of None = []
text_of (Some (Obj m o)) = []
text_of (Some (Val m (values.Str t))) = t
text_of (Some (Val m v)) = []

pub same_text : (s t : List ℕ) → Val 0 (values.Str s) ≡ Val 0 (values.Str t) → s ≡ t
unfolding text_of
same_text s t h = ap (λ d. text_of (Some d)) h

pub same_number : (o p : ℕ) → Obj 0 (record { 0 = o }) ≡ Obj 0 (record { 0 = p }) → o ≡ p
unfolding datum_of_object
same_number o p h = ap (λ d. datum_of_object (Some d)) h

module _ (n seed : ℕ) where
  abbrev pub s : Setting
  s = setting main_program_data (first_models n seed)

  abbrev pub the : ℕ → Datum
  the o = Obj 0 (record { 0 = o })

  -- ---- values of variables

  -- a variable of texts has a text
  pub text_there : (name : List ℕ) (x : Option Datum) → is_value_for s (Some (text_variable name)) x ≡ true → (t : List ℕ) × (x ≡ Some (Val 0 (values.Str t)))
  text_there name None h = absurd (false≢true h)
  text_there name (Some (Obj m o)) h = absurd (false≢true h)
  text_there name (Some (Val m (values.Str t))) h = (t, ap (λ k. Some (Val k (values.Str t))) (eqb-true m 0 (and_parts (m == 0) true h).0))
  text_there name (Some (Val m (values.Int i))) h = absurd (false≢true (and_parts (m == 0) false h).1)
  text_there name (Some (Val m (values.Bool b))) h = absurd (false≢true (and_parts (m == 0) false h).1)
  text_there name (Some (Val m (values.Lit e l))) h = absurd (false≢true (and_parts (m == 0) false h).1)

  -- a variable for objects of the source has one, of its class
  pub object_there : (name : List ℕ) (class : ℕ) (x : Option Datum) → is_value_for s (Some (object_variable name 0 class)) x ≡ true
      → (o : ℕ) × (x ≡ Some (the o)) × (is_of_class s class (the o) ≡ true)
  object_there name class None h = absurd (false≢true h)
  object_there name class (Some (Val m v)) h = absurd (false≢true (and_parts (m == 0) false h).1)
  object_there name class (Some (Obj m o)) h =
      let parts = and_parts (0 == m) (is_of_class s class (Obj m o)) h in
      let model : m ≡ 0 = sym (eqb-true 0 m parts.0) in
      (o.0, ap (λ k. Some (Obj k o)) model, subst (λ k. is_of_class s class (Obj k o) ≡ true) model parts.1)

  -- ---- classes

  abbrev conforming : ℕ → Option Object → Bool
  conforming class x = conforms class (option_map (λ c. let k : ObjectClass = record { meta = cls_desc; class = c } in k) (option_map (λ (ob : Object). ob.class) x))

  -- a package of the source
  pub record IsPackage (o : ℕ) : Type 0 where
    pub which : ℕ
    pub below : which < package_count n
    pub number : o ≡ package_number seed which
    pub object : object_at (source_data n seed) o ≡ Some (package_object seed which (classes_in n which))

  pub record IsClass (o : ℕ) : Type 0 where
    pub class : ℕ
    pub below : class < n
    pub number : o ≡ class_number seed class
    pub object : object_at (source_data n seed) o ≡ Some (class_object seed class (attribute_count seed class))

  pub record IsAttribute (o : ℕ) : Type 0 where
    pub class : ℕ
    pub attribute : ℕ
    pub below : class < n
    pub few : attribute < attribute_count seed class
    pub number : o ≡ attribute_number seed class attribute
    pub object : object_at (source_data n seed) o ≡ Some (attribute_object seed class attribute)

  pub package_there : (o : ℕ) → is_of_class s 1 (the o) ≡ true → IsPackage o
  package_there o is = by (object_at (source_data n seed) o) refl is
    where
      of_kind : (ob : Object) → object_at (source_data n seed) o ≡ Some ob → conforming 1 (Some ob) ≡ true → IsSourceObject n seed o ob → IsPackage o
      of_kind ob h c (IsSourceObject.a_package k below number object) = record { which = k; below = below; number = number; object = h ∙ ap Some object }
      of_kind ob h c (IsSourceObject.a_class i below number object) = absurd (false≢true (ap (λ y. conforming 1 (Some y)) (sym object) ∙ c))
      of_kind ob h c (IsSourceObject.an_attribute i j below few number object) = absurd (false≢true (ap (λ y. conforming 1 (Some y)) (sym object) ∙ c))

      by : (x : Option Object) → object_at (source_data n seed) o ≡ x → conforming 1 x ≡ true → IsPackage o
      by None h c = absurd (false≢true c)
      by (Some ob) h c = of_kind ob h c (source_objects n seed o ob h)

  pub class_there : (o : ℕ) → is_of_class s 2 (the o) ≡ true → IsClass o
  class_there o is = by (object_at (source_data n seed) o) refl is
    where
      of_kind : (ob : Object) → object_at (source_data n seed) o ≡ Some ob → conforming 2 (Some ob) ≡ true → IsSourceObject n seed o ob → IsClass o
      of_kind ob h c (IsSourceObject.a_package k below number object) = absurd (false≢true (ap (λ y. conforming 2 (Some y)) (sym object) ∙ c))
      of_kind ob h c (IsSourceObject.a_class i below number object) = record { class = i; below = below; number = number; object = h ∙ ap Some object }
      of_kind ob h c (IsSourceObject.an_attribute i j below few number object) = absurd (false≢true (ap (λ y. conforming 2 (Some y)) (sym object) ∙ c))

      by : (x : Option Object) → object_at (source_data n seed) o ≡ x → conforming 2 x ≡ true → IsClass o
      by None h c = absurd (false≢true c)
      by (Some ob) h c = of_kind ob h c (source_objects n seed o ob h)

  pub attribute_there : (o : ℕ) → is_of_class s 3 (the o) ≡ true → IsAttribute o
  attribute_there o is = by (object_at (source_data n seed) o) refl is
    where
      of_kind : (ob : Object) → object_at (source_data n seed) o ≡ Some ob → conforming 3 (Some ob) ≡ true → IsSourceObject n seed o ob → IsAttribute o
      of_kind ob h c (IsSourceObject.a_package k below number object) = absurd (false≢true (ap (λ y. conforming 3 (Some y)) (sym object) ∙ c))
      of_kind ob h c (IsSourceObject.a_class i below number object) = absurd (false≢true (ap (λ y. conforming 3 (Some y)) (sym object) ∙ c))
      of_kind ob h c (IsSourceObject.an_attribute i j below few number object) =
          record { class = i; attribute = j; below = below; few = few; number = number; object = h ∙ ap Some object }

      by : (x : Option Object) → object_at (source_data n seed) o ≡ x → conforming 3 x ≡ true → IsAttribute o
      by None h c = absurd (false≢true c)
      by (Some ob) h c = of_kind ob h c (source_objects n seed o ob h)

  -- ---- slots

  -- what an object of the source has at a property
  abbrev pub held_in : Option Object → ℕ → Option (List Datum)
  held_in x p =
      and_then (option_map (λ (ob : Object). ob.class) x) (λ class.
      if is_number_among p (props_of cls_desc class) then
      Some (if is_class_type (type_of cls_desc p) then map (object_datum 0) (slot_in cls_desc p x).partners else map (value_datum 0) (slot_in cls_desc p x).values)
      else None)

  pub held_is : (o p : ℕ) (x : Option Object) → object_at (source_data n seed) o ≡ x → held_at s (the o) p ≡ held_in x p
  held_is o p x h = ap (λ y. held_in y p) h
