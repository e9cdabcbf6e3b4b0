-- The lists that elements are filed to are what a source writes.
use Rattle.std.proofs.Common.{◌≡◌, ◌⊎◌, ℕ, zero, suc, ◌+◌, ◌-◌, ◌<◌, ◌≤◌, Bool, true, false, List, [], ◌∷◌, ◌++◌, map, length, drop, refl, sym, ◌∙◌, ap, arith, subst, append_assoc, append-nil, inl, inr, None, Some}
use Rattle.std.specs.Prelude.{◌==◌, ◌||◌, ◌&&◌, not, is_some, filter, filter_map, codes, slice_get, All, Contains, Option, if◌then◌else◌}
use Rattle.std.specs.List.{list_any}
use Rattle.std.specs.Option.{unwrap_or}
use Rattle.std.proofs.lemmas.Bool.{true≢false, cases_lt, ne_eqb}
use Rattle.std.proofs.lemmas.List.{length-append, length-map, map-append}
use Rattle.std.proofs.lemmas.List.Elements.{All-nil, All-head, All-tail, All-append, filter_map-append}
use Rattle.std.proofs.lemmas.Option.{slice_get_within, slice_get_past, none-some}
use Rattle.mof_metamodel.specs.declared.desc.ClassId.{ClassId}
use Rattle.mof_metamodel.specs.declared.desc.MetaDesc.{MetaDesc}
use Rattle.mof_metamodel.specs.Characters.{same_name}
use Rattle.mof_metamodel.specs.Metamodels.{props_of, type_of}
use Rattle.mof_metamodel.specs.NameTables.{value_of as number_named}
use Rattle.object_tables.specs.Models.{is_class_type}
use Rattle.object_tables.specs.declared.value.Value.{Value}
use Rattle.object_tables.specs.declared.value.Value.TheVariants as values
use Rattle.xmi_profile.specs.declared.element.Element.{Element}
use Rattle.model_assembly.specs.declared.filed.Filed.{Filed}
use Rattle.model_assembly.specs.declared.filed.WrittenReference.{WrittenReference}
use Rattle.model_assembly.specs.Attributes.{is_nil}
use Rattle.model_assembly.specs.Content.{values_of, written_values}
use Rattle.model_assembly.specs.declared.role.Role.{Role}
use Rattle.model_assembly.specs.declared.role.ObjectRole.{ObjectRole}
use Rattle.model_assembly.specs.declared.role.Role.TheVariants.{Document, Skipped, AnObject, AValue, AReference, Neither, Alien, Stranger, Misplaced}
use Rattle.model_assembly.specs.Elements.{Item, object_of, object_items}
use Rattle.model_assembly.specs.Filed.{IsAttributeIn, filed_values, reference_at, filed_references, reference_of, IsSaid, by_target, by_mention, IsFiled}
use Rattle.xmi_profile.specs.Filing.{Writings, no_writings, class_id, with_class, with_classes, with_class_each, with_elements, with_added_by, all_writings, filed_of, is_name_prop}
use Rattle.xmi_profile.specs.Judging.{class_by}
use Rattle.model_assembly.specs.Links.{is_some_target, speaks}
use Rattle.xmi_profile.specs.Listing.{element_of}
use Rattle.xmi_profile.specs.Numbering.{Numbers}
use Rattle.model_assembly.specs.Profile.{props_or_none}
use Rattle.model_assembly.specs.declared.target.Target.{Target}
use Rattle.model_assembly.specs.declared.target.Target.TheVariants.{Named, Extern, Contained, Nowhere}
use Rattle.model_assembly.specs.Source.{Source, all_items, class_in, item_class, ids_from, file_ids, is_added, added_names, primitive_class, all_ids, all_classes, object_count, id_of, class_of, attr_of, attr_text, listed, text_in, uses, is_at, is_value_at, element_text, texts_at, targets_of, element_targets, targets_at, number_of}
use Rattle.model_assembly.specs.Values.{value_of, without_repeats}
use Rattle.xmi_profile.proofs.filed_laws.EntryLaws.{Said, Entry, with_entries, entries-append, all_attr_entries, element_entries, added_entries, all_attrs_filed, elements_filed, added_filed, said_at, said-append, all_texts, all_targets, has_attr, is_mention_at, reference_pair, values_filed, references_filed, mentions_filed}
use Rattle.xmi_profile.proofs.filed_laws.NamedLaws.{name_values}
use Rattle.model_assembly.proofs.PlaceLaws.{IsOwned, IsPlaced, IsParent, AreNumberedFrom, placed_tree}
use Rattle.xmi_profile.proofs.filed_laws.PlacedLaws.{IsEntry, AreAt, ValueAt, ReferenceAt, MentionAt, nothing_at, entries_at, all_attrs_are, elements_are, added_are}
use Rattle.xmi_profile.proofs.filed_laws.SaidLaws.{attr_said, attr_texts, attr_targets, attr_is, attrs_at, texts-append, targets-append, attr-append, elements_texts, elements_targets, elements_attr, added_targets, added_attr, added_before, added_at}
use Rattle.xmi_profile.proofs.SeenLaws.{element_kept}
use Rattle.model_assembly.proofs.assembling.ListLaws.{in_tail, in_cons}
use Rattle.mof_metamodel.proofs.Facts.{contains_first}
use Rattle.mof_metamodel.proofs.Facts.{nothing_in}

get_left : {X : Type 0} (xs ys : List X) (j : ℕ) (x : X) → slice_get xs j ≡ Some x → slice_get (xs ++ ys) j ≡ Some x
get_left [] ys j x e = absurd (none-some x e)
get_left (z ∷ xs) ys zero x e = e
get_left (z ∷ xs) ys (suc j) x e = get_left xs ys j x e

pub get_right : {X : Type 0} (xs ys : List X) (j : ℕ) → slice_get (xs ++ ys) (length xs + j) ≡ slice_get ys j
get_right [] ys j = let z : 0 + j ≡ j = omega arith in ap (slice_get ys) z
get_right (z ∷ xs) ys j =
    let s : length (z ∷ xs) + j ≡ suc (length xs + j) = omega arith in
    ap (slice_get (z ∷ (xs ++ ys))) s ∙ get_right xs ys j

drop_left : {X : Type 0} (xs ys : List X) → drop (length xs) (xs ++ ys) ≡ ys
drop_left [] ys = refl
drop_left (x ∷ xs) ys = drop_left xs ys

within : {X : Type 0} (xs : List X) (i : ℕ) → i < length xs → (x : X) × (slice_get xs i ≡ Some x)
within [] i l = absurd (omega (arith, l))
within (x ∷ xs) zero l = (x, refl)
within (x ∷ xs) (suc i) l = within xs i (omega (arith, l))

any_in : {X : Type 0} (f : X → Bool) (xs : List X) → list_any f xs ≡ true → (x : X) × Contains xs x × (f x ≡ true)
any_in f [] h = absurd (true≢false (sym h))
any_in {X = X} f (x ∷ xs) h = by (f x) refl h (any_in f xs)
  where
    by : (b : Bool) → f x ≡ b → (b || list_any f xs) ≡ true → (list_any f xs ≡ true → (y : X) × Contains xs y × (f y ≡ true)) → (y : X) × Contains (x ∷ xs) y × (f y ≡ true)
    by true e t more = (x, contains_first x xs, e)
    by false e t more = let (y, c, g) = more t in (y, in_tail x xs y c, g)

pub in_any : {X : Type 0} (f : X → Bool) (xs : List X) (x : X) → Contains xs x → f x ≡ true → list_any f xs ≡ true
in_any f [] x c h = absurd (nothing_in x c)
in_any f (y ∷ xs) x c h = by (in_cons y xs x c) (λ d. in_any f xs x d h)
  where
    or_true : (b : Bool) → (b || true) ≡ true
    or_true true = refl
    or_true false = refl

    by : (y ≡ x) ⊎ Contains xs x → (Contains xs x → list_any f xs ≡ true) → list_any f (y ∷ xs) ≡ true
    by (inl e) more = ap (λ (b : Bool). b || list_any f xs) (ap f e ∙ h)
    by (inr d) more = ap (λ (b : Bool). f y || b) (more d) ∙ or_true (f y)

nothing_is_none : {X : Type 0} (y : X) (ys : List X) → [] ≡ y ∷ ys → ⊥
nothing_is_none y ys e = cc

abbrev first_or : {X : Type 0} → List X → X → X
first_or [] d = d
first_or (x ∷ xs) d = x

all_member : {X : Type 0} (P : X → Type 0) (xs : List X) (x : X) → All P xs → Contains xs x → P x
all_member P [] x a c = absurd (nothing_in x c)
all_member P (y ∷ ys) x a c = by (in_cons y ys x c) (λ d. all_member P ys x (All-tail P y ys a) d)
  where
    by : (y ≡ x) ⊎ Contains ys x → (Contains ys x → P x) → P x
    by (inl e) more = subst P e (All-head P y ys a)
    by (inr d) more = more d

filter_first : {X : Type 0} (f : X → Bool) (xs : List X) (y : X) (ys : List X) → filter f xs ≡ y ∷ ys → f y ≡ true
filter_first f [] y ys e = absurd (nothing_is_none y ys e)
filter_first {X = X} f (x ∷ xs) y ys e = by (f x) refl e (λ d. filter_first f xs y ys d)
  where
    by : (b : Bool) → f x ≡ b → (if b then x ∷ filter f xs else filter f xs) ≡ y ∷ ys → (filter f xs ≡ y ∷ ys → f y ≡ true) → f y ≡ true
    by true h d more = ap f (sym (ap (λ (zs : List X). first_or zs x) d)) ∙ h
    by false h d more = more d

some_class : (a b c : Bool) → (a && (b && c)) ≡ true → c ≡ true
some_class true true c h = h
some_class true false c h = absurd (true≢false (sym h))
some_class false b c h = absurd (true≢false (sym h))

-- ---- classes

abbrev some_of : ClassId → Option ℕ
some_of c = Some c.0

abbrev pub IsKnownClass : Option ObjectRole → Type 0
IsKnownClass None = Unit {0}
IsKnownClass (Some object) = is_some object.class ≡ true

abbrev pub KnownItem : Item → Type 0
KnownItem item = IsKnownClass (object_of item.role)

pub class_by_is : (role : Role) → class_by role ≡ class_in (object_of role)
class_by_is Document = refl
class_by_is Skipped = refl
class_by_is (AnObject object) = refl
class_by_is (AValue o p) = refl
class_by_is (AReference o p target) = refl
class_by_is (Neither o p) = refl
class_by_is Alien = refl
class_by_is (Stranger o) = refl
class_by_is (Misplaced o p) = refl

abbrev numbers : List ClassId → List (Option ℕ)
numbers classes = map some_of classes

class_some : (classes : List ClassId) (class : Option ℕ) → is_some class ≡ true → numbers (with_class classes class) ≡ numbers classes ++ class ∷ []
class_some classes None k = absurd (true≢false (sym k))
class_some classes (Some c) k = map-append some_of classes (class_id c ∷ [])

class_of_item : (classes : List ClassId) (item : Item) (items : List Item) (o : Option ObjectRole) → object_of item.role ≡ o → IsKnownClass o
    → numbers (with_class classes (class_in o)) ++ map item_class (object_items items) ≡ numbers classes ++ map item_class (if is_some o then item ∷ object_items items else object_items items)
class_of_item classes item items None h k = refl
class_of_item classes item items (Some object) h k =
    ap (λ (cs : List (Option ℕ)). cs ++ map item_class (object_items items)) (class_some classes object.class k)
    ∙ append_assoc (numbers classes) (object.class ∷ []) (map item_class (object_items items))
    ∙ ap (λ (r : Option ObjectRole). numbers classes ++ class_in r ∷ map item_class (object_items items)) (sym h)

classes_are : (items : List Item) (classes : List ClassId) → All KnownItem items → numbers (with_classes classes (map element_of items)) ≡ numbers classes ++ map item_class (object_items items)
classes_are [] classes a = sym (append-nil (numbers classes))
classes_are (item ∷ items) classes a =
    let r : Option ObjectRole = object_of item.role in
    ap (λ (e : Element). numbers (with_classes (with_class classes (class_by e.role)) (map element_of items))) (element_kept item)
    ∙ ap (λ (c : Option ℕ). numbers (with_classes (with_class classes c) (map element_of items))) (class_by_is item.role)
    ∙ classes_are items (with_class classes (class_in r)) (All-tail KnownItem item items a)
    ∙ class_of_item classes item items r refl (All-head KnownItem item items a)

each_are : (class : Option ℕ) (classes : List ClassId) (ids : List (List ℕ)) → is_some class ≡ true → numbers (with_class_each class classes ids) ≡ numbers classes ++ map (λ (name : List ℕ). class) ids
each_are class classes [] k = sym (append-nil (numbers classes))
each_are class classes (id ∷ ids) k =
    each_are class (with_class classes class) ids k
    ∙ ap (λ (cs : List (Option ℕ)). cs ++ map (λ (name : List ℕ). class) ids) (class_some classes class k)
    ∙ append_assoc (numbers classes) (class ∷ []) (map (λ (name : List ℕ). class) ids)

pub ids_length : (number : ℕ) (items : List Item) → length (ids_from number items) ≡ length items
ids_length number [] = refl
ids_length number (item ∷ items) = ap (λ (n : ℕ). suc n) (ids_length (suc number) items)

-- ---- what elements write, with the names of what is added

abbrev pub added_by : MetaDesc → Option ℕ → ℕ → List (List ℕ) → List Entry
added_by meta None o ids = []
added_by meta (Some c) o ids = added_entries meta c o ids

added_by_filed : (meta : MetaDesc) (n : Numbers) (class : Option ℕ) (w : Writings) (o : ℕ) (ids : List (List ℕ)) → with_added_by meta class w o ids ≡ with_entries meta n w (added_by meta class o ids)
added_by_filed meta n None w o ids = refl
added_by_filed meta n (Some c) w o ids = added_filed meta n c w o ids

abbrev pub all_entries : MetaDesc → List Item → ℕ → List (List ℕ) → List Entry
all_entries meta items o ids = (all_attr_entries meta items ++ element_entries items) ++ added_by meta (primitive_class meta) o ids

writings_are : (meta : MetaDesc) (n : Numbers) (items : List Item) (ids : List (List ℕ)) (o : ℕ)
    → all_writings meta n (map element_of items) ids o ≡ with_entries meta n no_writings (all_entries meta items o ids)
writings_are meta n items ids o =
    let a : List Entry = all_attr_entries meta items in
    let b : List Entry = element_entries items in
    let c : List Entry = added_by meta (primitive_class meta) o ids in
    ap (λ (w : Writings). with_added_by meta (primitive_class meta) (with_elements meta n w (map element_of items)) o ids) (all_attrs_filed meta n no_writings items)
    ∙ ap (λ (w : Writings). with_added_by meta (primitive_class meta) w o ids)
    (elements_filed meta n (with_entries meta n no_writings a) items ∙ sym (entries-append meta n no_writings a b))
    ∙ added_by_filed meta n (primitive_class meta) (with_entries meta n no_writings (a ++ b)) o ids
    ∙ sym (entries-append meta n no_writings (a ++ b) c)

-- ---- of a source

module _ (s : Source) (o p : ℕ) (first : ℕ) (ids : List (List ℕ)) where
  abbrev items : List Item
  items = all_items s

  abbrev added : List Entry
  added = added_by s.meta (primitive_class s.meta) first ids

  abbrev told : List Said
  told = said_at o p (all_entries s.meta items first ids)

  told_is : AreNumberedFrom 0 items → told ≡ (attr_said (attr_text s o p) ++ said_at o p (element_entries items)) ++ said_at o p added
  told_is a =
      let z : o ≡ 0 + o = omega arith in
      said-append o p (all_attr_entries s.meta items ++ element_entries items) added
      ∙ ap (λ (ss : List Said). ss ++ said_at o p added)
      (said-append o p (all_attr_entries s.meta items) (element_entries items)
      ∙ ap (λ (ss : List Said). ss ++ said_at o p (element_entries items)) (attrs_at s.meta o p 0 o items a z))

  added_texts : List (List ℕ)
  added_texts = all_texts (said_at o p added)

  told_texts : AreNumberedFrom 0 items → all_texts told ≡ texts_at s o p ++ all_texts (said_at o p added)
  told_texts a =
      ap all_texts (told_is a)
      ∙ texts-append (attr_said (attr_text s o p) ++ said_at o p (element_entries items)) (said_at o p added)
      ∙ ap (λ (ts : List (List ℕ)). ts ++ all_texts (said_at o p added))
      (texts-append (attr_said (attr_text s o p)) (said_at o p (element_entries items))
      ∙ ap (λ (ts : List (List ℕ)). ts ++ all_texts (said_at o p (element_entries items))) (attr_texts (attr_text s o p))
      ∙ ap (λ (ts : List (List ℕ)). listed (attr_text s o p) ++ ts) (elements_texts o p items))

  no_added_targets : (class : Option ℕ) → all_targets (said_at o p (added_by s.meta class first ids)) ≡ []
  no_added_targets None = refl
  no_added_targets (Some c) = added_targets o p s.meta c first ids

  told_targets : AreNumberedFrom 0 items → all_targets told ≡ targets_at s o p
  told_targets a =
      ap all_targets (told_is a)
      ∙ targets-append (attr_said (attr_text s o p) ++ said_at o p (element_entries items)) (said_at o p added)
      ∙ ap (λ (ts : List Target). all_targets (attr_said (attr_text s o p) ++ said_at o p (element_entries items)) ++ ts) (no_added_targets (primitive_class s.meta))
      ∙ append-nil (all_targets (attr_said (attr_text s o p) ++ said_at o p (element_entries items)))
      ∙ targets-append (attr_said (attr_text s o p)) (said_at o p (element_entries items))
      ∙ ap (λ (ts : List Target). ts ++ all_targets (said_at o p (element_entries items))) (attr_targets (attr_text s o p))
      ∙ ap (λ (ts : List Target). targets_of (attr_text s o p) ++ ts) (elements_targets o p items)

  no_added_attr : (class : Option ℕ) → has_attr (said_at o p (added_by s.meta class first ids)) ≡ false
  no_added_attr None = refl
  no_added_attr (Some c) = added_attr o p s.meta c first ids

  or_false : (x : Bool) → (x || false) ≡ x
  or_false true = refl
  or_false false = refl

  told_attr : AreNumberedFrom 0 items → has_attr told ≡ is_some (attr_text s o p)
  told_attr a =
      ap has_attr (told_is a)
      ∙ attr-append (attr_said (attr_text s o p) ++ said_at o p (element_entries items)) (said_at o p added)
      ∙ ap (λ (b : Bool). has_attr (attr_said (attr_text s o p) ++ said_at o p (element_entries items)) || b) (no_added_attr (primitive_class s.meta))
      ∙ or_false (has_attr (attr_said (attr_text s o p) ++ said_at o p (element_entries items)))
      ∙ attr-append (attr_said (attr_text s o p)) (said_at o p (element_entries items))
      ∙ ap (λ (b : Bool). has_attr (attr_said (attr_text s o p)) || b) (elements_attr o p items)
      ∙ or_false (has_attr (attr_said (attr_text s o p)))
      ∙ attr_is (attr_text s o p)

-- ---- references of a source

module _ (s : Source) (n : Numbers) (ids_are : n.ids ≡ all_ids s) (names_are : (id : List ℕ) → number_named n.names id ≡ number_of s id) where
  pair_is : (target : Target) → reference_pair n target ≡ reference_of s target
  pair_is (Named id) = ap (λ (o : Option ℕ). (o, id)) (names_are id)
  pair_is (Extern name) = ap (λ (o : Option ℕ). (o, name)) (names_are name)
  pair_is (Contained object) = ap (λ (ids : List (List ℕ)). (Some object, unwrap_or (slice_get ids object) [])) ids_are
  pair_is (Nowhere text) = refl

  pairs_are : (targets : List Target) → map (reference_pair n) targets ≡ map (reference_of s) targets
  pairs_are targets = λ i. map (λ target. pair_is target i) targets

-- some target, or none
abbrev has_pair : List (Option ℕ × List ℕ) → Bool
has_pair [] = false
has_pair (r ∷ rs) = true

abbrev is_reference_at : ℕ → ℕ → WrittenReference → Bool
is_reference_at o p r = is_at o p r.object r.property.0

pair_at : (o p : ℕ) (rs : List WrittenReference) → list_any (is_reference_at o p) rs ≡ has_pair (filed_references rs o p)
pair_at o p [] = refl
pair_at o p (r ∷ rs) = by (is_reference_at o p r) (pair_at o p rs) ∙ sym (ap has_pair (filter_map-append (reference_at o p) (r ∷ []) rs))
  where
    by : (b : Bool) → list_any (is_reference_at o p) rs ≡ has_pair (filed_references rs o p)
        → (b || list_any (is_reference_at o p) rs) ≡ has_pair (filter_map (λ (u : Option (Option ℕ × List ℕ)). u) ((if b then Some (r.target, r.text) else None) ∷ []) ++ filed_references rs o p)
    by true h = refl
    by false h = h

pair_mapped : (s : Source) (targets : List Target) → has_pair (map (reference_of s) targets) ≡ is_some_target targets
pair_mapped s [] = refl
pair_mapped s (target ∷ targets) = refl

some_right : (xs ys : List Target) → is_some_target ys ≡ true → is_some_target (xs ++ ys) ≡ true
some_right [] ys h = h
some_right (x ∷ xs) ys h = refl

speaks_if : (text : Option (List ℕ)) (targets : List Target) → is_some_target (targets_of text ++ targets) ≡ true → (is_some text || is_some_target targets) ≡ true
speaks_if None targets h = h
speaks_if (Some text) targets h = refl

-- ---- all together

module _ (s : Source) (n : Numbers) (ids_are : n.ids ≡ all_ids s) (names_are : (id : List ℕ) → number_named n.names id ≡ number_of s id) (known : All KnownItem (all_items s)) where
  abbrev objects : List Item
  objects = object_items (all_items s)

  abbrev own_classes : List (Option ℕ)
  own_classes = map item_class objects

  abbrev pub classes : List ClassId
  classes = with_classes [] (map element_of (all_items s))

  abbrev pub count : ℕ
  count = length classes

  abbrev pub more_ids : List (List ℕ)
  more_ids = drop count n.ids

  abbrev pub entries : List Entry
  entries = all_entries s.meta (all_items s) count more_ids

  abbrev pub filed : Filed
  filed = filed_of s.meta n (map element_of (all_items s))

  abbrev pub writings : Writings
  writings = all_writings s.meta n (map element_of (all_items s)) more_ids count

  own_are : numbers classes ≡ own_classes
  own_are = classes_are (all_items s) [] known

  numbered : AreNumberedFrom 0 (all_items s)
  numbered = (placed_tree s.meta s.outside s.tree).1

  placed : All (λ (item : Item). IsPlaced s.meta own_classes item.role × IsParent own_classes item.role) (all_items s)
  placed = (placed_tree s.meta s.outside s.tree).0

  pub count_is : count ≡ length (file_ids s)
  count_is =
      let a : length (numbers classes) ≡ length classes = length-map classes some_of in
      let b : length (numbers classes) ≡ length own_classes = ap (λ (cs : List (Option ℕ)). length cs) own_are in
      let c : length own_classes ≡ length objects = length-map objects item_class in
      let d : length (file_ids s) ≡ length objects = ids_length 0 objects in
      omega (arith, a, b, c, d)

  own_count : length own_classes ≡ count
  own_count =
      let a : length (numbers classes) ≡ length classes = length-map classes some_of in
      let b : length (numbers classes) ≡ length own_classes = ap (λ (cs : List (Option ℕ)). length cs) own_are in
      omega (arith, a, b)

  pub more_is : more_ids ≡ added_names s
  more_is =
      ap (λ (k : ℕ). drop k n.ids) count_is ∙ ap (λ (ids : List (List ℕ)). drop (length (file_ids s)) ids) ids_are
      ∙ drop_left (file_ids s) (added_names s)

  total : object_count s ≡ count + length (added_names s)
  total =
      let a : length (file_ids s ++ added_names s) ≡ length (file_ids s) + length (added_names s) = length-append (file_ids s) (added_names s) in
      let b = count_is in
      omega (arith, a, b)

  -- classes by number
  own_class : (o : ℕ) (class : Option ℕ) → slice_get own_classes o ≡ Some class → class_of s o ≡ class
  own_class o class e =
      ap (λ (c : Option (Option ℕ)). unwrap_or c None) (get_left own_classes (map (λ (name : List ℕ). primitive_class s.meta) (added_names s)) o class e)

  added_class : (j : ℕ) → j < length (added_names s) → class_of s (count + j) ≡ primitive_class s.meta
  added_class j l =
      let e : count + j ≡ length own_classes + j = omega (arith, own_count) in
      let more : List (Option ℕ) = map (λ (name : List ℕ). primitive_class s.meta) (added_names s) in
      let m : length more ≡ length (added_names s) = length-map (added_names s) (λ (name : List ℕ). primitive_class s.meta) in
      ap (λ (k : ℕ). unwrap_or (slice_get (own_classes ++ more) k) None) e
      ∙ ap (λ (c : Option (Option ℕ)). unwrap_or c None) (get_right own_classes more j)
      ∙ each (added_names s) j l
    where
      each : (names : List (List ℕ)) (i : ℕ) → i < length names → unwrap_or (slice_get (map (λ (name : List ℕ). primitive_class s.meta) names) i) None ≡ primitive_class s.meta
      each [] i l = absurd (omega (arith, l))
      each (name ∷ names) zero l = refl
      each (name ∷ names) (suc i) l = each names i (omega (arith, l))

  -- an object's property
  abbrev HasProp : ℕ → ℕ → Type 0
  HasProp o p = (o < object_count s) × Contains (props_or_none s.meta (class_of s o)) p

  owned_has : (o p : ℕ) → IsOwned s.meta own_classes o p → HasProp o p
  owned_has o p h =
      let l = slice_get_within own_classes o (Some h.class) h.class_is in
      let t = total in
      (omega (arith, l, t, own_count), subst (λ (c : Option ℕ). Contains (props_or_none s.meta c) p) (sym (own_class o (Some h.class) h.class_is)) h.has)

  added_has : (c : ℕ) → primitive_class s.meta ≡ Some c → (j p : ℕ) → j < length more_ids → Contains (props_of s.meta c) p → HasProp (count + j) p
  added_has c e j p l h =
      let m : length more_ids ≡ length (added_names s) = ap (λ (ids : List (List ℕ)). length ids) more_is in
      let t = total in
      (omega (arith, l, m, t), subst (λ (k : Option ℕ). Contains (props_or_none s.meta k) p) (sym (added_class j (omega (arith, l, m)) ∙ e)) h)

  added_entries_are : (class : Option ℕ) → primitive_class s.meta ≡ class → All (IsEntry s.meta HasProp) (added_by s.meta class count more_ids)
  added_entries_are None e = All-nil (IsEntry s.meta HasProp)
  added_entries_are (Some c) e = added_are s.meta HasProp c count more_ids (added_has c e)

  entries_are : All (IsEntry s.meta HasProp) entries
  entries_are =
      All-append (IsEntry s.meta HasProp) (all_attr_entries s.meta (all_items s) ++ element_entries (all_items s)) (added_by s.meta (primitive_class s.meta) count more_ids)
      (All-append (IsEntry s.meta HasProp) (all_attr_entries s.meta (all_items s)) (element_entries (all_items s))
      (all_attrs_are s.meta HasProp own_classes owned_has (all_items s) placed) (elements_are s.meta HasProp own_classes owned_has (all_items s) placed))
      (added_entries_are (primitive_class s.meta) refl)

  pub written : writings ≡ with_entries s.meta n no_writings entries
  written = writings_are s.meta n (all_items s) more_ids count

  filed_at : AreAt s.meta HasProp writings
  filed_at = subst (AreAt s.meta HasProp) (sym written) (entries_at s.meta HasProp n no_writings entries (nothing_at s.meta HasProp) entries_are)

  -- ---- clauses

  added_some : (name : List ℕ) (names : List (List ℕ)) → added_names s ≡ name ∷ names → is_some (primitive_class s.meta) ≡ true
  added_some name names e =
      some_class
      (list_any (λ (item : Item). uses name item.role) (all_items s)) (not (list_any (same_name name) (file_ids s))) (is_some (primitive_class s.meta))
      (filter_first (is_added s) (codes "String" ∷ codes "Integer" ∷ codes "Boolean" ∷ []) name names e)

  each_added : (names : List (List ℕ)) → added_names s ≡ names
      → numbers (with_class_each (primitive_class s.meta) classes names) ≡ own_classes ++ map (λ (name : List ℕ). primitive_class s.meta) names
  each_added [] e = own_are ∙ sym (append-nil own_classes)
  each_added (name ∷ names) e =
      each_are (primitive_class s.meta) classes (name ∷ names) (added_some name names e)
      ∙ ap (λ (cs : List (Option ℕ)). cs ++ map (λ (name : List ℕ). primitive_class s.meta) (name ∷ names)) own_are

  classes_clause : numbers filed.classes ≡ all_classes s
  classes_clause = ap (λ (ids : List (List ℕ)). numbers (with_class_each (primitive_class s.meta) classes ids)) more_is ∙ each_added (added_names s) refl

  -- the texts of an object's values
  module _ (o p : ℕ) where
    abbrev read : List (List ℕ) → List Value
    read texts = filter_map (value_of s.meta (type_of s.meta p)) texts

    abbrev behind : Option ℕ → List (List ℕ)
    behind class = all_texts (said_at o p (added_by s.meta class count more_ids))

    values_are : is_class_type (type_of s.meta p) ≡ false → filed_values filed.values o p ≡ read (texts_at s o p ++ behind (primitive_class s.meta))
    values_are t =
        ap (λ (w : Writings). filed_values w.values o p) written
        ∙ values_filed s.meta n o p t no_writings entries
        ∙ ap read (told_texts s o p count more_ids numbered)

    none_behind : (class : Option ℕ) → o < count → behind class ≡ []
    none_behind None l = refl
    none_behind (Some c) l = ap all_texts (added_before o p s.meta c count more_ids l)

    values_of_file : IsAttributeIn s o p → o < length (file_ids s) → without_repeats (filed_values filed.values o p) ≡ written_values s o p
    values_of_file h l =
        let f = within (file_ids s) o l in
        let c = count_is in
        ap without_repeats
        (values_are h.data_type
        ∙ ap (λ (ts : List (List ℕ)). read (texts_at s o p ++ ts)) (none_behind (primitive_class s.meta) (omega (arith, l, c)))
        ∙ ap read (append-nil (texts_at s o p)))
        ∙ sym (ap (values_of s o p) f.1)

    role_off : (role : Role) → length own_classes ≤ o → IsPlaced s.meta own_classes role → is_value_at o p role ≡ false
    role_off Document l h = refl
    role_off Skipped l h = refl
    role_off (AnObject object) l h = refl
    role_off (AValue object property) l h =
        let w = slice_get_within own_classes object (Some h.0.class) h.0.class_is in
        ap (λ (b : Bool). b && (property == p)) (ne_eqb object o (λ e. omega (arith, e, w, l)))
    role_off (AReference object property target) l h = refl
    role_off (Neither object property) l h = refl
    role_off Alien l h = refl
    role_off (Stranger object) l h = refl
    role_off (Misplaced object property) l h = refl

    abbrev Placed : Item → Type 0
    Placed item = IsPlaced s.meta own_classes item.role × IsParent own_classes item.role

    no_values : (items : List Item) → length own_classes ≤ o → All Placed items → filter_map (element_text o p) items ≡ []
    no_values [] l a = refl
    no_values (item ∷ items) l a =
        filter_map-append (element_text o p) (item ∷ []) items
        ∙ ap (λ (b : Bool). filter_map (λ (t : Option (List ℕ)). t) ((if b && not (is_nil item.attrs) then Some (text_in item.inner) else None) ∷ []) ++ filter_map (element_text o p) items)
        (role_off item.role l (All-head Placed item items a).0)
        ∙ no_values items l (All-tail Placed item items a)

    no_texts : length own_classes ≤ o → texts_at s o p ≡ []
    no_texts l =
        let m : length own_classes ≡ length objects = length-map objects item_class in
        ap (λ (item : Option Item). listed (attr_of s.meta p item) ++ filter_map (element_text o p) (all_items s)) (slice_get_past objects o (omega (arith, l, m)))
        ∙ no_values (all_items s) l placed

    named_values : (class : Option ℕ) (j : ℕ) (id : List ℕ) → Contains (props_or_none s.meta class) p → slice_get more_ids j ≡ Some id → o ≡ count + j
        → without_repeats (read (behind class)) ≡ (if is_name_prop s.meta p then values.Str id ∷ [] else [])
    named_values None j id h e f = absurd (nothing_in p h)
    named_values (Some c) j id h e f =
        ap (λ (ss : List Said). without_repeats (read (all_texts ss))) (added_at o p s.meta c count j more_ids id e f) ∙ name_values s.meta o p id (props_of s.meta c) h

    values_of_added : IsAttributeIn s o p → (j : ℕ) → o ≡ count + j → without_repeats (filed_values filed.values o p) ≡ written_values s o p
    values_of_added h j f =
        let c = count_is in
        let t = total in
        let l = h.object in
        let m : length more_ids ≡ length (added_names s) = ap (λ (ids : List (List ℕ)). length ids) more_is in
        let w = within more_ids j (omega (arith, l, t, m, f)) in
        let named = w.1 in
        let class : class_of s o ≡ primitive_class s.meta = ap (class_of s) f ∙ added_class j (omega (arith, l, t, f)) in
        let id_is : id_of s o ≡ w.0 =
        ap (λ (k : ℕ). unwrap_or (slice_get (all_ids s) k) []) (f ∙ ap (λ (k : ℕ). k + j) c)
        ∙ ap (λ (id : Option (List ℕ)). unwrap_or id []) (get_right (file_ids s) (added_names s) j ∙ ap (λ (ids : List (List ℕ)). slice_get ids j) (sym more_is) ∙ named) in
        ap without_repeats (values_are h.data_type ∙ ap (λ (ts : List (List ℕ)). read (ts ++ behind (primitive_class s.meta))) (no_texts (omega (arith, own_count, f))))
        ∙ named_values (primitive_class s.meta) j w.0 (subst (λ (k : Option ℕ). Contains (props_or_none s.meta k) p) class h.has) named f
        ∙ ap (λ (id : List ℕ). if is_name_prop s.meta p then values.Str id ∷ [] else []) (sym id_is)
        ∙ sym (ap (values_of s o p) (slice_get_past (file_ids s) o (omega (arith, c, f))))

    values_clause : IsAttributeIn s o p → without_repeats (filed_values filed.values o p) ≡ written_values s o p
    values_clause h = elim (cases_lt o (length (file_ids s))) [
      | inl l ↦ values_of_file h l
      | inr l ↦ let c = count_is in values_of_added h (o - count) (omega (arith, l, c))
    ]

    references_clause : is_class_type (type_of s.meta p) ≡ true → filed_references filed.references o p ≡ map (reference_of s) (targets_at s o p)
    references_clause t =
        ap (λ (w : Writings). filed_references w.references o p) written
        ∙ references_filed s.meta n o p t no_writings entries
        ∙ ap (λ (ts : List Target). map (reference_pair n) ts) (told_targets s o p count more_ids numbered)
        ∙ pairs_are s n ids_are names_are (targets_at s o p)

    mention_is : is_class_type (type_of s.meta p) ≡ true → list_any (is_mention_at o p) filed.mentions ≡ is_some (attr_text s o p)
    mention_is t =
        ap (λ (w : Writings). list_any (is_mention_at o p) w.mentions) written
        ∙ mentions_filed s.meta n o p t no_writings entries
        ∙ told_attr s o p count more_ids numbered

    reference_is : is_class_type (type_of s.meta p) ≡ true → list_any (is_reference_at o p) filed.references ≡ is_some_target (targets_at s o p)
    reference_is t = pair_at o p filed.references ∙ ap has_pair (references_clause t) ∙ pair_mapped s (targets_at s o p)

    said_where : is_class_type (type_of s.meta p) ≡ true → speaks s o p ≡ true → IsSaid filed o p
    said_where t h = by (is_some (attr_text s o p)) refl h
      where
        by : (b : Bool) → is_some (attr_text s o p) ≡ b → (b || is_some_target (element_targets s o p)) ≡ true → IsSaid filed o p
        by true e g = let (m, c, k) = any_in (is_mention_at o p) filed.mentions (mention_is t ∙ e) in by_mention m c k
        by false e g =
            let (r, c, k) = any_in (is_reference_at o p) filed.references (reference_is t ∙ some_right (targets_of (attr_text s o p)) (element_targets s o p) g) in by_target r c k

    speaks_where : is_class_type (type_of s.meta p) ≡ true → IsSaid filed o p → speaks s o p ≡ true
    speaks_where t (by_target r c k) =
        speaks_if (attr_text s o p) (element_targets s o p) (sym (reference_is t) ∙ in_any (is_reference_at o p) filed.references r c k)
    speaks_where t (by_mention m c k) =
        ap (λ (b : Bool). b || is_some_target (element_targets s o p)) (sym (mention_is t) ∙ in_any (is_mention_at o p) filed.mentions m c k)

  pub lists_are_filed : IsFiled s filed
  lists_are_filed = record {
    ids = ids_are;
    classes = classes_clause;
    values = λ o p h. values_clause o p h;
    value_place = λ v c. let h = all_member (ValueAt s.meta HasProp) writings.values v filed_at.values c in record { object = h.0.0; has = h.0.1; data_type = h.1 };
    references = λ o p h. references_clause o p h.class_type;
    reference_place = λ r c. let h = all_member (ReferenceAt s.meta HasProp) writings.references r filed_at.references c in record { object = h.0.0; has = h.0.1; class_type = h.1 };
    speaking = λ o p h. (said_where o p h.class_type, speaks_where o p h.class_type);
    mention_place = λ m c. let h = all_member (MentionAt s.meta HasProp) writings.mentions m filed_at.mentions c in record { object = h.0.0; has = h.0.1; class_type = h.1 };
  }
