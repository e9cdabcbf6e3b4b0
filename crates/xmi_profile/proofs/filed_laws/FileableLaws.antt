-- The objects of bytes can be filed, and what they are filed to is what the bytes write.
use Rattle.std.proofs.Common.{◌≡◌, ◌≢◌, ℕ, ◌^◌, ◌<◌, ◌≤◌, Bool, true, false, List, [], ◌∷◌, map, length, refl, sym, ◌∙◌, ap, arith, subst, None, Some, Err}
use Rattle.std.specs.Prelude.{codes, if◌then◌else◌, is_some, position, All, AllPairs, Contains, IfSome, Option}
use Rattle.std.proofs.lemmas.List.{length-append, length-map}
use Rattle.std.proofs.lemmas.List.Elements.{All-nil, All-cons, All-push, All-head, All-tail}
use Rattle.std.proofs.lemmas.Option.{slice_get_within, none-some}
use Rattle.mof_metamodel.specs.declared.desc.MetaDesc.{MetaDesc}
use Rattle.object_tables.specs.declared.limit.TheConstants.{MAX_OBJECTS}
use Rattle.mof_metamodel.specs.Characters.{same_name, is_identifier_text}
use Rattle.mof_metamodel.specs.NameTables.{value_of as number_named}
use Rattle.xmi_profile.specs.declared.element.Element.{Element}
use Rattle.model_assembly.specs.declared.fault.Externs.{Externs}
use Rattle.model_assembly.specs.declared.fault.ModelFault.{ModelFault}
use Rattle.model_assembly.specs.declared.fault.ModelFault.TheVariants as faults
use Rattle.xmi_profile.specs.declared.fault.XmiError.{XmiError}
use Rattle.xmi_profile.specs.declared.fault.XmiError.TheVariants as errors
use Rattle.model_assembly.specs.declared.filed.Filed.{Filed}
use Rattle.xmi_profile.specs.declared.objects.Objects.{Objects}
use Rattle.model_assembly.specs.declared.role.Role.{Role}
use Rattle.model_assembly.specs.declared.role.ObjectRole.{ObjectRole}
use Rattle.model_assembly.specs.declared.role.Role.TheVariants.{Document, Skipped, AnObject, AValue, AReference, Neither, Alien, Stranger, Misplaced}
use Rattle.model_assembly.specs.Elements.{Item, object_of, object_items, concrete}
use Rattle.model_assembly.specs.Faults.{StandsAt}
use Rattle.model_assembly.specs.Filed.{IsFiled}
use Rattle.xmi_profile.specs.Filing.{Writings, no_writings, class_id, with_class, with_classes, with_class_each, filed_of, IsSmallTarget, IsSmall, AreFew, AreFileable}
use Rattle.xmi_profile.specs.Judging.{class_by}
use Rattle.model_assembly.specs.Judged.{IsAlien, type_place}
use Rattle.xmi_profile.specs.Known.{AreObjects, AreFiled, ReadsObjects, ReadsFiled}
use Rattle.xmi_profile.specs.Listing.{element_of}
use Rattle.xmi_profile.specs.Reads.{source_of}
use Rattle.xmi_profile.specs.Scanning.{IsWithin}
use Rattle.mof_metamodel.specs.declared.desc.ClassId.{ClassId}
use Rattle.mof_metamodel.specs.Metamodels.{type_of, class_count, class_at, class_number}
use Rattle.model_assembly.specs.SoundFiled.{IsTyped, HasInstances, IsSoundFiled}
use Rattle.object_tables.specs.Models.{is_class_type}
use Rattle.model_assembly.specs.declared.target.Target.{Target}
use Rattle.model_assembly.specs.declared.target.Target.TheVariants.{Named, Extern, Contained, Nowhere}
use Rattle.model_assembly.specs.Source.{Source, all_items, all_ids, file_ids, all_classes, added_names, item_class, class_in, primitive_class}
use Rattle.xmi_profile.proofs.filed_laws.FiledLaws.{all_entries, class_by_is, KnownItem, IsKnownClass, ids_length, count, more_ids, more_is, written, count_is, lists_are_filed}
use Rattle.xmi_profile.proofs.filed_laws.IdentifierLaws.{ids_proper, ids_distinct}
use Rattle.model_assembly.proofs.PlaceLaws.{IsNoPart, IsOwned, IsConcrete, IsPlaced, IsParent, placed_tree}
use Rattle.xmi_profile.proofs.Positions.{position_is, first_passes}
use Rattle.xmi_profile.proofs.SeenLaws.{element_kept}
use Rattle.model_assembly.proofs.assembling.ListLaws.{in_tail}
use Rattle.mof_metamodel.proofs.Facts.{contains_first}
use Rattle.xmi_profile.proofs.filed_laws.StorableLaws.{Stored, stored_tree}
use Rattle.xmi_profile.proofs.filed_laws.TypedLaws.{entries_typed, all_stored, added_names_stored}

few_objects : MAX_OBJECTS < 2 ^ 32
few_objects = omega arith

-- ---- classes

-- an object whose class is unknown is a fault
class_known : (s : Source) (item : Item) → ((fault : ModelFault) (place : ℕ) → ¬ StandsAt s fault place) → Contains (all_items s) item → KnownItem item
class_known s item none c = by item.role refl
  where
    in_object : (object : ObjectRole) → item.role ≡ AnObject object → (class : Option ℕ) → object.class ≡ class → is_some class ≡ true
    in_object object e (Some k) f = refl
    in_object object e None f =
        absurd (none (faults.UnknownClass object.named) (type_place item) (item, c, subst (λ (role : Role). IsAlien item role (type_place item) object.named) (sym e) (f, refl, refl)))

    by : (role : Role) → item.role ≡ role → IsKnownClass (object_of role)
    by Document e = tt
    by Skipped e = tt
    by (AnObject object) e = in_object object e object.class refl
    by (AValue o p) e = tt
    by (AReference o p target) e = tt
    by (Neither o p) e = tt
    by Alien e = tt
    by (Stranger o) e = tt
    by (Misplaced o p) e = tt

each_known : (items : List Item) → ((item : Item) → Contains items item → KnownItem item) → All KnownItem items
each_known [] f = All-nil KnownItem
each_known (item ∷ items) f = All-cons KnownItem item items (f item (contains_first item items)) (each_known items (λ i c. f i (in_tail item items i c)))

-- ---- numbers

module _ (meta : MetaDesc) (classes : List (Option ℕ)) (few : length classes < 2 ^ 32) where
  small_owned : (o p : ℕ) → IsOwned meta classes o p → o < 2 ^ 32
  small_owned o p h = let l = slice_get_within classes o (Some h.class) h.class_is in omega (arith, l, few)

  small_target : (target : Target) → IsNoPart target → IsSmallTarget target
  small_target (Named id) h = tt
  small_target (Extern name) h = tt
  small_target (Contained object) h = absurd h
  small_target (Nowhere text) h = tt

  small_within : (within : Option (ℕ × ℕ)) → IfSome within (λ c. IsOwned meta classes c.0 c.1 × (is_class_type (type_of meta c.1) ≡ true)) → IfSome within (λ container. container.0 < 2 ^ 32)
  small_within None h = tt
  small_within (Some c) h = small_owned c.0 c.1 h.0

  small_role : (role : Role) → IsPlaced meta classes role → IsParent classes role → IsSmall role
  small_role Document h i = tt
  small_role Skipped h i = tt
  small_role (AnObject object) h i =
      let l = slice_get_within classes object.number object.class i in (omega (arith, l, few), small_within object.within h.0)
  small_role (AValue o p) h i = small_owned o p h.0
  small_role (AReference o p target) h i = (small_owned o p h.0, small_target target h.2)
  small_role (Neither o p) h i = tt
  small_role Alien h i = tt
  small_role (Stranger o) h i = tt
  small_role (Misplaced o p) h i = tt

  abbrev Placed : Item → Type 0
  Placed item = IsPlaced meta classes item.role × IsParent classes item.role

  abbrev Small : Element → Type 0
  Small e = IsSmall e.role

  small_items : (items : List Item) → All Placed items → All Small (map element_of items)
  small_items [] a = All-nil Small
  small_items (item ∷ items) a =
      let h = All-head Placed item items a in
      All-cons Small (element_of item) (map element_of items)
      (subst Small (sym (element_kept item)) (small_role item.role h.0 h.1))
      (small_items items (All-tail Placed item items a))

-- ---- classes of lists

module _ (P : ClassId → Type 0) where
  abbrev Has : Option ℕ → Type 0
  Has class = IfSome class (λ c. P (class_id c))

  with_class_all : (classes : List ClassId) (class : Option ℕ) → All P classes → Has class → All P (with_class classes class)
  with_class_all classes None a h = a
  with_class_all classes (Some c) a h = All-push P classes (class_id c) a h

  abbrev ItemHas : Item → Type 0
  ItemHas item = Has (class_in (object_of item.role))

  classes_all : (items : List Item) (classes : List ClassId) → All P classes → All ItemHas items → All P (with_classes classes (map element_of items))
  classes_all [] classes a h = a
  classes_all (item ∷ items) classes a h =
      let e : class_by (element_of item).role ≡ class_in (object_of item.role) = ap (λ (e : Element). class_by e.role) (element_kept item) ∙ class_by_is item.role in
      subst (λ (c : Option ℕ). All P (with_classes (with_class classes c) (map element_of items))) (sym e)
      (classes_all items (with_class classes (class_in (object_of item.role)))
      (with_class_all classes (class_in (object_of item.role)) a (All-head ItemHas item items h)) (All-tail ItemHas item items h))

  each_all : (class : Option ℕ) (classes : List ClassId) (ids : List (List ℕ)) → All P classes → Has class → All P (with_class_each class classes ids)
  each_all class classes [] a h = a
  each_all class classes (id ∷ ids) a h = each_all class (with_class classes class) ids (with_class_all classes class a h) h

-- the class of primitive types
number_within : (meta : MetaDesc) (name : List ℕ) → IfSome (class_number meta name) (λ c. c < class_count meta)
number_within meta name = by (class_number meta name) refl
  where
    by : (o : Option ℕ) → class_number meta name ≡ o → IfSome o (λ c. c < class_count meta)
    by None e = tt
    by (Some i) e =
        let f = first_passes (λ c. same_name name c.name) meta.classes i (sym (position_is (λ c. same_name name c.name) meta.classes) ∙ e) in
        slice_get_within meta.classes i f.0 f.1

class_has_instances : (meta : MetaDesc) (class : Option ℕ) → IfSome class (λ c. c < class_count meta) → IfSome (concrete meta class) (λ c. HasInstances meta (class_id c))
class_has_instances meta None h = tt
class_has_instances meta (Some c) h = by (class_at meta c).is_abstract refl
  where
    by : (b : Bool) → (class_at meta c).is_abstract ≡ b → IfSome (if b then None else Some c) (λ d. HasInstances meta (class_id d))
    by true e = tt
    by false e = (h, e)

-- ---- all together

module _ (meta : MetaDesc) (outside : Externs) (bytes : List ℕ) (objects : Objects) (are : AreObjects meta outside bytes objects) where
  abbrev source : Source
  source = source_of meta outside are.tree

  abbrev elements : List Element
  elements = map element_of (all_items source)

  known : All KnownItem (all_items source)
  known = each_known (all_items source) (λ item c. class_known source item are.none_at c)

  counted : length (with_classes [] elements) ≡ length (file_ids source)
  counted = count_is source objects.numbers are.ids are.names known

  some_fewer : length (file_ids source) ≤ length (all_ids source)
  some_fewer = let a = length-append (file_ids source) (added_names source) in omega (arith, a)

  own_few : length (map item_class (object_items (all_items source))) < 2 ^ 32
  own_few =
      let a : length (map item_class (object_items (all_items source))) ≡ length (object_items (all_items source)) = length-map (object_items (all_items source)) item_class in
      let b : length (file_ids source) ≡ length (object_items (all_items source)) = ids_length 0 (object_items (all_items source)) in
      let c = are.fewer in
      let d = some_fewer in
      let e = few_objects in
      omega (arith, a, b, c, d, e)

  small_number : (id : List ℕ) → IfSome (number_named objects.numbers.names id) (λ number. number < 2 ^ 32)
  small_number id = subst (λ (o : Option ℕ). IfSome o (λ number. number < 2 ^ 32)) (sym (are.names id)) (by (position (same_name id) (all_ids source)) refl)
    where
      by : (o : Option ℕ) → position (same_name id) (all_ids source) ≡ o → IfSome o (λ number. number < 2 ^ 32)
      by None e = tt
      by (Some i) e =
          let f = first_passes (same_name id) (all_ids source) i (sym (position_is (same_name id) (all_ids source)) ∙ e) in
          let l = slice_get_within (all_ids source) i f.0 f.1 in
          let c = are.fewer in
          let d = few_objects in
          omega (arith, l, c, d)

  few : AreFew objects.numbers
  few = record { ids = subst (λ (ids : List (List ℕ)). length ids ≤ MAX_OBJECTS) (sym are.ids) are.fewer; names = small_number }

  pub objects_fileable : AreFileable meta objects.numbers objects.listing.elements
  objects_fileable =
      subst (λ (es : List Element). AreFileable meta objects.numbers es) (sym are.elements)
      (record {
        few = few;
        within = subst (λ (es : List Element). All (λ (e : Element). IsWithin meta e.role) es) are.elements are.within;
        small = small_items meta (map item_class (object_items (all_items source))) own_few (all_items source) (placed_tree meta outside are.tree).0;
        count = fewer_classes;
      })
    where
      fewer_classes : length (with_classes [] elements) ≤ length objects.numbers.ids
      fewer_classes =
          let a = counted in
          let b = some_fewer in
          let c : length objects.numbers.ids ≡ length (all_ids source) = ap (λ (ids : List (List ℕ)). length ids) are.ids in
          omega (arith, a, b, c)

  -- ---- values and classes

  typed_values : All (IsTyped meta) (filed_of meta objects.numbers elements).values
  typed_values =
      let n = objects.numbers in
      let more = more_ids source n are.ids are.names known in
      let first = count source n are.ids are.names known in
      subst (λ (w : Writings). All (IsTyped meta) w.values) (sym (written source n are.ids are.names known))
      (entries_typed meta n no_writings (all_entries meta (all_items source) first more) (All-nil (IsTyped meta))
      (all_stored meta (all_items source) first more (stored_tree meta outside bytes are.tree are.markup)
      (subst (λ (ids : List (List ℕ)). All Stored ids) (sym (more_is source n are.ids are.names known)) (added_names_stored source))))

  abbrev HasClass : Item → Type 0
  HasClass item = IfSome (class_in (object_of item.role)) (λ c. HasInstances meta (class_id c))

  class_has : (item : Item) → IsPlaced meta (map item_class (object_items (all_items source))) item.role → IsWithin meta item.role → HasClass item
  class_has item h w = by item.role h w
    where
      in_class : (class : Option ℕ) → IfSome class (IsConcrete meta) → IfSome class (λ c. c < class_count meta) → IfSome class (λ c. HasInstances meta (class_id c))
      in_class None h w = tt
      in_class (Some c) h w = (w, h)

      by : (role : Role) → IsPlaced meta (map item_class (object_items (all_items source))) role → IsWithin meta role → IfSome (class_in (object_of role)) (λ c. HasInstances meta (class_id c))
      by Document h w = tt
      by Skipped h w = tt
      by (AnObject object) h w = in_class object.class h.1 w.0
      by (AValue o p) h w = tt
      by (AReference o p target) h w = tt
      by (Neither o p) h w = tt
      by Alien h w = tt
      by (Stranger o) h w = tt
      by (Misplaced o p) h w = tt

  items_have : (items : List Item) → All (λ (item : Item). IsPlaced meta (map item_class (object_items (all_items source))) item.role × IsParent (map item_class (object_items (all_items source))) item.role) items
      → All (λ (e : Element). IsWithin meta e.role) (map element_of items) → All HasClass items
  items_have [] a w = All-nil HasClass
  items_have (item ∷ items) a w =
      let Q : Item → Type 0 = λ i. IsPlaced meta (map item_class (object_items (all_items source))) i.role × IsParent (map item_class (object_items (all_items source))) i.role in
      let W : Element → Type 0 = λ e. IsWithin meta e.role in
      All-cons HasClass item items
      (class_has item (All-head Q item items a).0 (subst W (element_kept item) (All-head W (element_of item) (map element_of items) w)))
      (items_have items (All-tail Q item items a) (All-tail W (element_of item) (map element_of items) w))

  known_classes : All (HasInstances meta) (filed_of meta objects.numbers elements).classes
  known_classes =
      each_all (HasInstances meta) (primitive_class meta) (with_classes [] elements) (more_ids source objects.numbers are.ids are.names known)
      (classes_all (HasInstances meta) (all_items source) [] (All-nil (HasInstances meta))
      (items_have (all_items source) (placed_tree meta outside are.tree).0 (subst (λ (es : List Element). All (λ (e : Element). IsWithin meta e.role) es) are.elements are.within)))
      (class_has_instances meta (class_number meta (codes "PrimitiveType")) (number_within meta (codes "PrimitiveType")))

  classes_count : length (all_classes source) ≡ length (all_ids source)
  classes_count =
      let own : List Item = object_items (all_items source) in
      let more : List (Option ℕ) = map (λ (name : List ℕ). primitive_class meta) (added_names source) in
      let a = length-append (map item_class own) more in
      let b : length (map item_class own) ≡ length own = length-map own item_class in
      let c : length more ≡ length (added_names source) = length-map (added_names source) (λ (name : List ℕ). primitive_class meta) in
      let d = length-append (file_ids source) (added_names source) in
      let e : length (file_ids source) ≡ length own = ids_length 0 own in
      omega (arith, a, b, c, d, e)

  same_count : length (filed_of meta objects.numbers elements).classes ≡ length objects.numbers.ids
  same_count =
      let f = lists_are_filed source objects.numbers are.ids are.names known in
      let some : ClassId → Option ℕ = λ c. Some c.0 in
      sym (length-map (filed_of meta objects.numbers elements).classes some)
      ∙ ap (λ (cs : List (Option ℕ)). length cs) f.classes ∙ classes_count ∙ ap (λ (ids : List (List ℕ)). length ids) (sym are.ids)

  sound : IsSoundFiled meta (filed_of meta objects.numbers elements)
  sound = record {
    typed = typed_values;
    classes = known_classes;
    same = same_count;
    identifiers = subst (λ (ids : List (List ℕ)). All (λ id. is_identifier_text id ≡ true) ids) (sym are.ids) (ids_proper source are.none_at are.fewer);
    distinct = subst (λ (ids : List (List ℕ)). AllPairs (λ x y. x ≢ y) ids) (sym are.ids) (ids_distinct source are.none_at are.fewer);
  }

  pub objects_are_filed : (filed : Filed) → filed ≡ filed_of meta objects.numbers objects.listing.elements → AreFiled meta outside bytes filed
  objects_are_filed filed e = record {
    tree = are.tree;
    markup = are.markup;
    filed = subst (IsFiled source) (sym (e ∙ ap (λ (es : List Element). filed_of meta objects.numbers es) are.elements)) (lists_are_filed source objects.numbers are.ids are.names known);
    sound = subst (IsSoundFiled meta) (sym (e ∙ ap (λ (es : List Element). filed_of meta objects.numbers es) are.elements)) sound;
    fewer = are.fewer;
    none_at = are.none_at;
  }

pub error_same : (meta : MetaDesc) (outside : Externs) (bytes : List ℕ) (e : XmiError) → ReadsObjects meta outside bytes (Err e) → ReadsFiled meta outside bytes (Err e)
error_same meta outside bytes (errors.Text fault) r = r
error_same meta outside bytes (errors.Content fault) r = r
error_same meta outside bytes errors.NoMemory r = tt
