-- What each step of a source's making asks for holds: the next object may be added, and is a part of the one before.
use Rattle.std.proofs.Common.{◌≡◌, ◌<◌, ◌+◌, ◌*◌, ◌/◌, ◌%◌, ◌^◌, ◌==◌, ℕ, Bool, true, false, List, [], ◌∷◌, ◌++◌, length, get_or, map, Option, None, Some, IsTrue, refl, ap, sym, ◌∙◌, subst, arith, inl, inr}
use Rattle.std.specs.Prelude.{codes, is_some, option_map, if◌then◌else◌}
use Rattle.std.specs.List.{range_with_len}
use Rattle.std.specs.Fmt.{decimal}
use Rattle.std.proofs.lemmas.List.Sums.{count_by-le-length}
use Rattle.mof_metamodel.specs.Characters.{is_storable_text, is_identifier_text}
use Rattle.mof_metamodel.specs.Metamodels.{class_count, type_of, class_at as meta_class}
use Rattle.object_tables.specs.declared.value.ObjId.{ObjId}
use Rattle.object_tables.specs.Objects.{Object}
use Rattle.object_tables.specs.declared.value.Value.TheVariants as values
use Rattle.object_tables.specs.Models.{ModelData, class_at, is_value_of, HasId, IsFull, IsAddable, IsAttributeOf, added, new_object}
use Rattle.example_models.specs.declared.parts.Part.{Part}
use Rattle.example_models.specs.ClsTable.{cls_desc}
use Rattle.example_models.specs.Source.{package_count, package_name, class_name, attribute_name, class_id, attribute_id, package_number, class_number, attribute_count, package_object, class_object, attribute_object, classes_objects, packages_objects}
use Rattle.example_models.specs.Growing.{IsSize, model_of, with_text, with_part, up_to_class, before_class, up_to_attribute, class_part, attribute_part}
use Rattle.example_models.specs.Parts.{IsPart}
use Rattle.example_models.proofs.IdLaws.{fit_identifier, package_fits, class_name_fits, attribute_name_fits, class_fits, attribute_fits}
use Rattle.example_models.proofs.SizeLaws.{length_packages, few_attributes}
use Rattle.example_models.proofs.GrowLaws.{before_whole, length_before, length_up_to, package_put, class_put, attribute_put}
use Rattle.example_models.proofs.LabelLaws.{new_package, new_class, new_attribute}

-- ---- room

addable : (xs : List (Option Object)) (class : ℕ) (id : List ℕ) → length xs < 200_000 → (meta_class cls_desc class).is_abstract ≡ false → (HasId (model_of xs) id → ⊥)
    → IsAddable (model_of xs) class id
addable xs class id few concrete new = record { room = full; concrete = concrete; new = new }
  where
    full : IsFull (model_of xs) → ⊥
    full (inl many) = let live = count_by-le-length is_some xs in omega (arith, many, live, few)
    full (inr many) = omega (arith, many, few)

-- the object in the middle
middle : {X : Type 0} (us : List X) (x : X) (vs : List X) (d : X) → get_or (us ++ x ∷ vs) (length us) d ≡ x
middle [] x vs d = refl
middle (u ∷ us) x vs d = middle us x vs d

-- an object that may be the container of a reference's owner
container_at : (us : List (Option Object)) (ob : Object) (vs : List (Option Object)) (o class : ℕ) → o ≡ length us → ob.class ≡ class → class_at (model_of (us ++ Some ob ∷ vs)) o ≡ Some class
container_at us ob vs o class at is =
    ap (λ k. class_at (model_of (us ++ Some ob ∷ vs)) k) at ∙ ap (option_map (λ (x : Object). x.class)) (middle us (Some ob) vs None) ∙ ap (λ c. Some c) is

-- ---- a package

module _ (n seed : ℕ) (size : IsSize n seed) where
  pub package_addable : (k : ℕ) → k < package_count n → IsAddable (model_of (packages_objects n seed k)) 1 (package_name k)
  package_addable k less =
      let few = size.classes_few in
      let many = length_packages n seed k (omega (arith, less)) in
      let some = few_attributes seed (100 * k) in
      addable (packages_objects n seed k) 1 (package_name k) (omega (arith, few, less, many, some)) refl (new_package n seed k (omega (arith, few, less)))

  pub package_identifier : (k : ℕ) → k < 2 ^ 32 → IsTrue (is_identifier_text (package_name k))
  package_identifier k few = fit_identifier 112 (decimal k) (package_fits k (omega (arith, few)))

  pub package_storable : (k : ℕ) → k < 2 ^ 32 → IsTrue (is_storable_text (package_name k))
  package_storable k few = (package_fits k (omega (arith, few))).storable

  -- ---- a class

  pub class_addable : (i : ℕ) → i < n → IsAddable (model_of (up_to_class n seed (i / 100) (i % 100))) 2 (class_id i)
  class_addable i less =
      let few = size.classes_few in
      let many = before_whole n seed i less in
      let some = few_attributes seed i in
      addable (up_to_class n seed (i / 100) (i % 100)) 2 (class_id i) (omega (arith, few, less, many, some)) refl (new_class n seed i (omega (arith, few, less)))

  pub class_is_part : (i : ℕ) (owner : ObjId) → i < n → owner.0 ≡ package_number seed (i / 100)
      → IsPart (model_of (up_to_class n seed (i / 100) (i % 100))) (class_part i owner)
  class_is_part i owner less at =
      let few = size.classes_few in
      let low : i < 2 ^ 64 = omega (arith, few, less) in
      record {
        class = omega arith;
        identifier = fit_identifier 112 (decimal (i / 100) ++ 46 ∷ class_name i) (class_fits i low);
        name = record { has = (0, omega arith, refl); attribute_there = refl; typed = (class_name_fits i low).storable };
        text = record { has = (2, omega arith, refl); attribute_there = refl; typed = refl };
        has = (1, omega arith, refl);
        reference = refl;
        up = refl;
        container = record {
          class = 1;
          class_is = container_at (packages_objects n seed (i / 100)) (package_object seed (i / 100) (i % 100)) (classes_objects seed (100 * (i / 100)) (i % 100)) owner.0 1
              (at ∙ sym (length_packages n seed (i / 100) (omega (arith, less)))) refl;
          conforms = ([], refl);
        };
      }

  -- ---- an attribute

  prim_storable : (b : Bool) → is_storable_text (if b then codes "Integer" else codes "String") ≡ true
  prim_storable true = refl
  prim_storable false = refl

  pub attribute_addable : (i j : ℕ) → i < n → j < attribute_count seed i → IsAddable (model_of (up_to_attribute n seed i j)) 3 (attribute_id i j)
  attribute_addable i j less in_class =
      let few = size.classes_few in
      let many = length_up_to n seed i less j in
      let some = few_attributes seed i in
      addable (up_to_attribute n seed i j) 3 (attribute_id i j) (omega (arith, few, less, many, some, in_class)) refl
      (new_attribute n seed i j (omega (arith, few, less)) (omega (arith, in_class)))

  pub attribute_is_part : (i j : ℕ) (owner : ObjId) → i < n → j < attribute_count seed i → owner.0 ≡ class_number seed i
      → IsPart (model_of (up_to_attribute n seed i j)) (attribute_part seed i j owner)
  attribute_is_part i j owner less in_class at =
      let few = size.classes_few in
      let low : i < 2 ^ 64 = omega (arith, few, less) in
      let lower : j < 2 ^ 64 = omega (arith, in_class) in
      record {
        class = omega arith;
        identifier = fit_identifier 112 ((decimal (i / 100) ++ 46 ∷ class_name i) ++ 46 ∷ attribute_name j) (attribute_fits i j low lower);
        name = record { has = (0, omega arith, refl); attribute_there = refl; typed = (attribute_name_fits j lower).storable };
        text = record { has = (2, omega arith, refl); attribute_there = refl; typed = prim_storable (((i + j + seed) % 2) == 0) };
        has = (1, omega arith, refl);
        reference = refl;
        up = refl;
        container = record {
          class = 2;
          class_is = container_at (before_class n seed i) (class_object seed i j) (map (λ j. Some (attribute_object seed i j)) (range_with_len 0 j)) owner.0 2
              (at ∙ sym (length_before n seed i less)) refl;
          conforms = ([], refl);
        };
      }

  -- ---- the same of the code's values

  module _ (i : ℕ) (less : i < n) (owner : ObjId) (at : owner.0 ≡ package_number seed (i / 100)) (m : ModelData) (part : Part)
      (before : m ≡ model_of (up_to_class n seed (i / 100) (i % 100))) (is : part ≡ class_part i owner) where
    pub class_fitting : IsPart m part
    class_fitting =
        subst (λ z. IsPart z part) (sym before)
        (subst (λ z. IsPart (model_of (up_to_class n seed (i / 100) (i % 100))) z) (sym is) (class_is_part i owner less at))

    pub class_room : IsAddable m part.class.0 part.id
    class_room =
        subst (λ z. IsAddable z part.class.0 part.id) (sym before)
        (subst (λ (z : Part). IsAddable (model_of (up_to_class n seed (i / 100) (i % 100))) z.class.0 z.id) (sym is) (class_addable i less))

    pub class_made : (new : ModelData) → new ≡ with_part m part → new ≡ model_of (up_to_attribute n seed i 0)
    class_made new made =
        made ∙ ap (λ z. with_part z part) before ∙ ap (λ z. with_part (model_of (up_to_class n seed (i / 100) (i % 100))) z) is ∙ class_put n seed i less owner at

    pub class_numbered : (o : ℕ) → o ≡ length m.objects → o ≡ class_number seed i
    class_numbered o e = e ∙ ap (λ (z : ModelData). length z.objects) before ∙ before_whole n seed i less

  module _ (i j : ℕ) (less : i < n) (in_class : j < attribute_count seed i) (owner : ObjId) (at : owner.0 ≡ class_number seed i) (m : ModelData) (part : Part)
      (before : m ≡ model_of (up_to_attribute n seed i j)) (is : part ≡ attribute_part seed i j owner) where
    pub attribute_fitting : IsPart m part
    attribute_fitting =
        subst (λ z. IsPart z part) (sym before)
        (subst (λ z. IsPart (model_of (up_to_attribute n seed i j)) z) (sym is) (attribute_is_part i j owner less in_class at))

    pub attribute_room : IsAddable m part.class.0 part.id
    attribute_room =
        subst (λ z. IsAddable z part.class.0 part.id) (sym before)
        (subst (λ (z : Part). IsAddable (model_of (up_to_attribute n seed i j)) z.class.0 z.id) (sym is) (attribute_addable i j less in_class))

    pub attribute_made : (new : ModelData) → new ≡ with_part m part → new ≡ model_of (up_to_attribute n seed i (j + 1))
    attribute_made new made =
        made ∙ ap (λ z. with_part z part) before ∙ ap (λ z. with_part (model_of (up_to_attribute n seed i j)) z) is ∙ attribute_put n seed i less j owner at

  module _ (k : ℕ) (less : k < package_count n) (m : ModelData) (before : m ≡ model_of (packages_objects n seed k)) where
    pub package_room : (id : List ℕ) → id ≡ package_name k → IsAddable m 1 id
    package_room id is =
        subst (λ z. IsAddable z 1 id) (sym before) (subst (λ z. IsAddable (model_of (packages_objects n seed k)) 1 z) (sym is) (package_addable k less))

    pub package_known : 1 < class_count m.meta
    package_known = subst (λ (z : ModelData). 1 < class_count z.meta) (sym before) (omega arith)

    pub package_numbered : (o : ℕ) → o ≡ length m.objects → o ≡ package_number seed k
    package_numbered o e = e ∙ ap (λ (z : ModelData). length z.objects) before ∙ length_packages n seed k (omega (arith, less))

    last_attribute : (id : List ℕ) → IsAttributeOf (added (model_of (packages_objects n seed k)) 1 id) (length (packages_objects n seed k)) 0
    last_attribute id = record {
      class = 1;
      class_is = ap (option_map (λ (ob : Object). ob.class)) (middle (packages_objects n seed k) (Some (new_object cls_desc 1 id)) [] None);
      has = (0, omega arith, refl);
      attribute = refl;
    }

    pub package_named : (new : ModelData) (o : ℕ) (id : List ℕ) → new ≡ added m 1 id → o ≡ length m.objects → IsAttributeOf new o 0
    package_named new o id en eo =
        subst (λ z. IsAttributeOf z o 0) (sym (en ∙ ap (λ z. added z 1 id) before))
        (subst (λ a. IsAttributeOf (added (model_of (packages_objects n seed k)) 1 id) a 0) (sym (eo ∙ ap (λ (z : ModelData). length z.objects) before)) (last_attribute id))

    pub package_text : (new : ModelData) (id name : List ℕ) → new ≡ added m 1 id → name ≡ package_name k
        → IsTrue (is_value_of new.meta (type_of new.meta 0) (values.Str name))
    package_text new id name en is =
        let low : k < 2 ^ 32 = omega (arith, less, size.classes_few) in
        subst (λ (z : ModelData). IsTrue (is_value_of z.meta (type_of z.meta 0) (values.Str name))) (sym (en ∙ ap (λ z. added z 1 id) before))
        (ap is_storable_text is ∙ package_storable k low)

    pub package_made : (new last : ModelData) (o : ℕ) (id name : List ℕ) → new ≡ added m 1 id → o ≡ length m.objects → id ≡ package_name k → name ≡ package_name k
        → last ≡ with_text new o 0 name → last ≡ model_of (up_to_class n seed k 0)
    package_made new last o id name en eo ei is el =
        el ∙ ap (λ z. with_text z o 0 name) (en ∙ ap (λ z. added z 1 id) before ∙ ap (added (model_of (packages_objects n seed k)) 1) ei)
        ∙ ap (λ a. with_text (added (model_of (packages_objects n seed k)) 1 (package_name k)) a 0 name) (eo ∙ ap (λ (z : ModelData). length z.objects) before)
        ∙ ap (with_text (added (model_of (packages_objects n seed k)) 1 (package_name k)) (length (packages_objects n seed k)) 0) is
        ∙ package_put n seed k
