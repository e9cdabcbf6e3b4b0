-- The objects of a tree are numbered in order, and what stands at a property of an object stands in one whose class has the property.
use Rattle.std.proofs.Common.{◌≡◌, ℕ, zero, suc, ◌+◌, Bool, true, false, cond, List, [], ◌∷◌, ◌++◌, map, length, filter, refl, sym, ◌∙◌, ap, arith, subst, None, Some}
use Rattle.std.specs.Prelude.{All, Contains, IfSome, Option, slice_get, if◌then◌else◌}
use Rattle.std.specs.Option.{option_map}
use Rattle.std.proofs.lemmas.List.{map-append, length-map}
use Rattle.std.proofs.lemmas.List.Elements.{All-nil, All-cons, All-append, filter-append}
use Rattle.mof_metamodel.specs.declared.desc.MetaDesc.{MetaDesc}
use Rattle.mof_metamodel.specs.declared.desc.PropId.{PropId}
use Rattle.mof_metamodel.specs.Metamodels.{class_number, class_at, prop_at, prop_number, props_of, type_of}
use Rattle.mof_metamodel.proofs.MetaLaws.{prop_named}
use Rattle.object_tables.specs.Models.{is_class_type}
use Rattle.xmi_text.specs.Trees.{Nodes, Ends, Run, Element as Inner, Tree}
use Rattle.model_assembly.specs.declared.fault.Externs.{Externs}
use Rattle.model_assembly.specs.declared.fault.Externs.TheVariants as externs
use Rattle.model_assembly.specs.Attributes.{Attrs, local_part, is_document_name, is_skipped_name, is_alien_name, value_where, is_idref_name, is_href_name, written_id}
use Rattle.model_assembly.specs.Elements.{Item, Role, ObjectRole, Document, Skipped, AnObject, AValue, AReference, Neither, Alien, Stranger, Misplaced, concrete, concrete_class, object_role, top_role, role_in_document, role_of_root, role_at_reference, role_at, role_in_property, role_in_class, role_in, class_named_by, type_class_name, object_of, is_object, number_in, number_behind, inner_place, behind_place, items_in, items, object_items}
use Rattle.model_assembly.specs.References.{Target, Named, Extern, Contained, Nowhere, is_primitive_type, divided, extern_target, fragment_target, parts_target, href_target, unless_identified, or_by_href, element_target}
use Rattle.model_assembly.specs.Source.{item_class}
use Rattle.std.proofs.lemmas.Option.{none-some}

-- ---- what an element names is no contained object

abbrev pub IsNoPart : Target → Type 0
IsNoPart (Named id) = Unit {0}
IsNoPart (Extern name) = Unit {0}
IsNoPart (Contained object) = ⊥
IsNoPart (Nowhere text) = Unit {0}

extern_no_part : (outside : Externs) (text fragment : List ℕ) → IsNoPart (extern_target outside text fragment)
extern_no_part externs.None text fragment = tt
extern_no_part externs.Primitives text fragment = by (is_primitive_type fragment)
  where
    by : (b : Bool) → IsNoPart (if b then Extern fragment else Nowhere text)
    by true = tt
    by false = tt

fragment_no_part : (outside : Externs) (text before fragment : List ℕ) → IsNoPart (fragment_target outside text before fragment)
fragment_no_part outside text [] fragment = tt
fragment_no_part outside text (c ∷ before) fragment = extern_no_part outside text fragment

parts_no_part : (outside : Externs) (text : List ℕ) (parts : Option (List ℕ × List ℕ)) → IsNoPart (parts_target outside text parts)
parts_no_part outside text None = tt
parts_no_part outside text (Some parts) = fragment_no_part outside text parts.0 parts.1

href_no_part : (outside : Externs) (written : Option (List ℕ)) (text : Option (List ℕ)) → IfSome (unless_identified written (option_map (href_target outside) text)) IsNoPart
href_no_part outside (Some id) text = tt
href_no_part outside None None = tt
href_no_part outside None (Some text) = parts_no_part outside text (divided text)

target_no_part : (outside : Externs) (attrs : Attrs) (id : Option (List ℕ)) → IfSome (or_by_href outside attrs id) IsNoPart
target_no_part outside attrs (Some id) = tt
target_no_part outside attrs None = href_no_part outside (written_id attrs) (value_where is_href_name attrs)

-- ---- places

-- the class of the object of this number has the property
pub record IsOwned (meta : MetaDesc) (classes : List (Option ℕ)) (o p : ℕ) : Type 0 where
  pub class : ℕ
  pub class_is : slice_get classes o ≡ Some (Some class)
  pub has : Contains (props_of meta class) p

abbrev pub IsConcrete : MetaDesc → ℕ → Type 0
IsConcrete meta c = (class_at meta c).is_abstract ≡ false

abbrev pub IsPlaced : MetaDesc → List (Option ℕ) → Role → Type 0
IsPlaced meta classes (AnObject object) =
    IfSome object.within (λ within. IsOwned meta classes within.0 within.1 × (is_class_type (type_of meta within.1) ≡ true)) × IfSome object.class (IsConcrete meta)
IsPlaced meta classes (AValue o p) = IsOwned meta classes o p × (is_class_type (type_of meta p) ≡ false)
IsPlaced meta classes (AReference o p target) = IsOwned meta classes o p × (is_class_type (type_of meta p) ≡ true) × IsNoPart target
IsPlaced meta classes Document = Unit {0}
IsPlaced meta classes Skipped = Unit {0}
IsPlaced meta classes (Neither o p) = Unit {0}
IsPlaced meta classes Alien = Unit {0}
IsPlaced meta classes (Stranger o) = Unit {0}
IsPlaced meta classes (Misplaced o p) = Unit {0}

abbrev pub IsNumbered : ℕ → Option ObjectRole → Type 0
IsNumbered number None = Unit {0}
IsNumbered number (Some object) = object.number ≡ number

-- objects go by their numbers, from this one
abbrev pub AreNumberedFrom : ℕ → List Item → Type 0
AreNumberedFrom number [] = Unit {0}
AreNumberedFrom number (item ∷ items) = IsNumbered number (object_of item.role) × AreNumberedFrom (number_in item.role number) items

-- ---- what a new element is

abbrev pub IsParent : List (Option ℕ) → Role → Type 0
IsParent classes (AnObject object) = slice_get classes object.number ≡ Some object.class
IsParent classes Document = Unit {0}
IsParent classes Skipped = Unit {0}
IsParent classes (AValue o p) = Unit {0}
IsParent classes (AReference o p target) = Unit {0}
IsParent classes (Neither o p) = Unit {0}
IsParent classes Alien = Unit {0}
IsParent classes (Stranger o) = Unit {0}
IsParent classes (Misplaced o p) = Unit {0}

module _ (meta : MetaDesc) (outside : Externs) (classes : List (Option ℕ)) (number : ℕ) where
  abbrev New : Role → Type 0
  New role = IsNumbered number (object_of role) × IsPlaced meta classes role

  concrete_is : (class : Option ℕ) → IfSome (concrete meta class) (IsConcrete meta)
  concrete_is None = tt
  concrete_is (Some c) = by (class_at meta c).is_abstract refl
    where
      by : (b : Bool) → (class_at meta c).is_abstract ≡ b → IfSome (if b then None else Some c) (IsConcrete meta)
      by true e = tt
      by false e = e

  concrete_named : (name : List ℕ) → IfSome (concrete_class meta name) (IsConcrete meta)
  concrete_named name = concrete_is (class_number meta name)

  document_new : (name : List ℕ) (attrs : Attrs) → New (role_in_document meta number name attrs)
  document_new name attrs = by (is_skipped_name name) (is_alien_name name)
    where
      by : (a b : Bool) → New (if a then Skipped else if b then Alien else top_role meta number name attrs)
      by true b = (tt, tt)
      by false true = (tt, tt)
      by false false = (refl, (tt, concrete_named (class_named_by attrs (local_part name))))

  reference_new : (o p : ℕ) (attrs : Attrs) (target : Option Target) → IsOwned meta classes o p → is_class_type (type_of meta p) ≡ true → IfSome target IsNoPart
      → New (role_at_reference meta number o p attrs target)
  reference_new o p attrs (Some target) owned t i = (tt, (owned, t, i))
  reference_new o p attrs None owned t i = by (prop_at meta p).composite
    where
      by : (b : Bool) → New (if b then object_role meta number (class_named_by attrs (type_class_name meta (type_of meta p))) (Some (o, p)) else Neither o p)
      by true = (refl, ((owned, t), concrete_named (class_named_by attrs (type_class_name meta (type_of meta p)))))
      by false = (tt, tt)

  abbrev property_at : ℕ → PropId
  property_at p = record { 0 = p }

  at_new : (o c : ℕ) (name : List ℕ) (attrs : Attrs) (q : Option ℕ) → slice_get classes o ≡ Some (Some c) → prop_number meta c name ≡ q → New (role_at meta outside number o attrs q)
  at_new o c name attrs None e h = (tt, tt)
  at_new o c name attrs (Some p) e h = by (is_class_type (type_of meta p)) refl
    where
      owned : IsOwned meta classes o p
      owned = record { class = c; class_is = e; has = (prop_named meta c name (Some (property_at p)) (sym h)).has }

      by : (b : Bool) → is_class_type (type_of meta p) ≡ b → New (if b then role_at_reference meta number o p attrs (element_target outside attrs) else AValue o p)
      by true t = reference_new o p attrs (element_target outside attrs) owned t (target_no_part outside attrs (value_where is_idref_name attrs))
      by false t = (tt, (owned, t))

  object_new : (o : ℕ) (class : Option ℕ) (name : List ℕ) (attrs : Attrs) → slice_get classes o ≡ Some class → New (role_in_class meta outside number o class name attrs)
  object_new o None name attrs e = (tt, tt)
  object_new o (Some c) name attrs e = by (is_skipped_name name) (is_alien_name name)
    where
      by : (a b : Bool) → New (if a then Skipped else if b then Alien else role_at meta outside number o attrs (prop_number meta c name))
      by true b = (tt, tt)
      by false true = (tt, tt)
      by false false = at_new o c name attrs (prop_number meta c name) e refl

  property_new : (o p : ℕ) (name : List ℕ) → New (role_in_property o p name)
  property_new o p name = by (is_skipped_name name) (is_alien_name name)
    where
      by : (a b : Bool) → New (if a then Skipped else if b then Alien else Misplaced o p)
      by true b = (tt, tt)
      by false true = (tt, tt)
      by false false = (tt, tt)

  new_role : (parent : Role) (name : List ℕ) (attrs : Attrs) → IsParent classes parent → New (role_in meta outside parent number name attrs)
  new_role Document name attrs i = document_new name attrs
  new_role Skipped name attrs i = (tt, tt)
  new_role (AnObject object) name attrs i = object_new object.number object.class name attrs i
  new_role (AValue o p) name attrs i = property_new o p name
  new_role (AReference o p target) name attrs i = property_new o p name
  new_role (Neither o p) name attrs i = (tt, tt)
  new_role Alien name attrs i = (tt, tt)
  new_role (Stranger o) name attrs i = (tt, tt)
  new_role (Misplaced o p) name attrs i = (tt, tt)

root_new : (meta : MetaDesc) (outside : Externs) (classes : List (Option ℕ)) (name : List ℕ) (attrs : Attrs) → New meta outside classes 0 (role_of_root meta name attrs)
root_new meta outside classes name attrs = by (is_document_name name)
  where
    by : (b : Bool) → New meta outside classes 0 (if b then Document else role_in_document meta 0 name attrs)
    by true = (tt, tt)
    by false = document_new meta outside classes 0 name attrs

-- ---- lists

pub counted : (item : Item) (inner : List Item) (number : ℕ) → number_behind inner (number_in item.role number) ≡ number_behind (item ∷ inner) number
counted item inner number = by (is_object item)
  where
    by : (b : Bool) → (if b then suc number else number) + length (filter is_object inner) ≡ number + length (cond b (item ∷ filter is_object inner) (filter is_object inner))
    by true = omega arith
    by false = refl

numbered_append : (number : ℕ) (xs ys : List Item) → AreNumberedFrom number xs → AreNumberedFrom (number_behind xs number) ys → AreNumberedFrom number (xs ++ ys)
numbered_append number [] ys a b = let e : number_behind [] number ≡ number = omega arith in subst (λ (k : ℕ). AreNumberedFrom k ys) e b
numbered_append number (x ∷ xs) ys a b =
    (a.0, numbered_append (number_in x.role number) xs ys a.1 (subst (λ (k : ℕ). AreNumberedFrom k ys) (sym (counted x xs number)) b))

-- the classes of objects from a number on
abbrev classes_of : List Item → List (Option ℕ)
classes_of items = map item_class (object_items items)

abbrev Begins : List (Option ℕ) → ℕ → List Item → Type 0
Begins classes number items = (j : ℕ) (x : Option ℕ) → slice_get (classes_of items) j ≡ Some x → slice_get classes (number + j) ≡ Some x

get_left : {X : Type 0} (xs ys : List X) (j : ℕ) (x : X) → slice_get xs j ≡ Some x → slice_get (xs ++ ys) j ≡ Some x
get_left [] ys j x e = absurd (none-some x e)
get_left (z ∷ xs) ys zero x e = e
get_left (z ∷ xs) ys (suc j) x e = get_left xs ys j x e

get_right : {X : Type 0} (xs ys : List X) (j : ℕ) (x : X) → slice_get ys j ≡ Some x → slice_get (xs ++ ys) (length xs + j) ≡ Some x
get_right [] ys j x e = let z : 0 + j ≡ j = omega arith in ap (slice_get ys) z ∙ e
get_right (z ∷ xs) ys j x e =
    let s : length (z ∷ xs) + j ≡ suc (length xs + j) = omega arith in
    ap (slice_get (z ∷ (xs ++ ys))) s ∙ get_right xs ys j x e

classes_append : (xs ys : List Item) → classes_of (xs ++ ys) ≡ classes_of xs ++ classes_of ys
classes_append xs ys = ap (map item_class) (filter-append is_object xs ys) ∙ map-append item_class (object_items xs) (object_items ys)

module _ (classes : List (Option ℕ)) (number : ℕ) where
  begins_left : (xs ys : List Item) → Begins classes number (xs ++ ys) → Begins classes number xs
  begins_left xs ys b j x e = b j x (ap (λ (cs : List (Option ℕ)). slice_get cs j) (classes_append xs ys) ∙ get_left (classes_of xs) (classes_of ys) j x e)

  begins_right : (xs ys : List Item) → Begins classes number (xs ++ ys) → Begins classes (number_behind xs number) ys
  begins_right xs ys b j x e =
      let len : length (classes_of xs) ≡ length (object_items xs) = length-map (object_items xs) item_class in
      let there : number_behind xs number + j ≡ number + (length (classes_of xs) + j) = omega (arith, len) in
      ap (slice_get classes) there
      ∙ b (length (classes_of xs) + j) x
      (ap (λ (cs : List (Option ℕ)). slice_get cs (length (classes_of xs) + j)) (classes_append xs ys) ∙ get_right (classes_of xs) (classes_of ys) j x e)

  begins_inner : (item : Item) (inner : List Item) → Begins classes number (item ∷ inner) → Begins classes (number_in item.role number) inner
  begins_inner item inner b = by (is_object item) refl
    where
      listed : Bool → List Item
      listed c = if c then item ∷ object_items inner else object_items inner

      by : (c : Bool) → is_object item ≡ c → (j : ℕ) (x : Option ℕ) → slice_get (classes_of inner) j ≡ Some x → slice_get classes ((if c then suc number else number) + j) ≡ Some x
      by true h j x e =
          let there : suc number + j ≡ number + suc j = omega arith in
          ap (slice_get classes) there ∙ b (suc j) x (ap (λ (c : Bool). slice_get (map item_class (listed c)) (suc j)) h ∙ e)
      by false h j x e = b j x (ap (λ (c : Bool). slice_get (map item_class (listed c)) j) h ∙ e)

  parent_new : (place : ℕ) (role : Role) (name : List ℕ) (attrs : Attrs) (nodes : Nodes) (inner : List Item) → IsNumbered number (object_of role)
      → Begins classes number (record { place = place; role = role; name = name; attrs = attrs; inner = nodes } ∷ inner) → IsParent classes role
  parent_new place (AnObject object) name attrs nodes inner n b =
      let there : object.number ≡ number + 0 = omega (arith, n) in ap (slice_get classes) there ∙ b 0 object.class refl
  parent_new place Document name attrs nodes inner n b = tt
  parent_new place Skipped name attrs nodes inner n b = tt
  parent_new place (AValue o p) name attrs nodes inner n b = tt
  parent_new place (AReference o p target) name attrs nodes inner n b = tt
  parent_new place (Neither o p) name attrs nodes inner n b = tt
  parent_new place Alien name attrs nodes inner n b = tt
  parent_new place (Stranger o) name attrs nodes inner n b = tt
  parent_new place (Misplaced o p) name attrs nodes inner n b = tt

-- ---- all elements

module _ (meta : MetaDesc) (outside : Externs) (classes : List (Option ℕ)) where
  abbrev pub IsPlacedItem : Item → Type 0
  IsPlacedItem item = IsPlaced meta classes item.role × IsParent classes item.role

  abbrev Known : ℕ → List Item → Type 0
  Known number items = All IsPlacedItem items × AreNumberedFrom number items

  known_item : (number : ℕ) (item : Item) (inner : List Item) → New meta outside classes number item.role → IsParent classes item.role → Known (number_in item.role number) inner
      → Known number (item ∷ inner)
  known_item number item inner n i k = (All-cons IsPlacedItem item inner (n.1, i) k.0, (n.0, k.1))

  known_both : (number : ℕ) (xs ys : List Item) → Known number xs → Known (number_behind xs number) ys → Known number (xs ++ ys)
  known_both number xs ys a b = (All-append IsPlacedItem xs ys a.0 b.0, numbered_append number xs ys a.1 b.1)

  placed_in : (parent : Role) (nodes : Nodes) (place number : ℕ) → IsParent classes parent → Begins classes number (items_in meta outside parent nodes place number)
      → Known number (items_in meta outside parent nodes place number)
  placed_in parent Ends place number i b = (All-nil IsPlacedItem, tt)
  placed_in parent (Run characters more) place number i b = placed_in parent more (suc place) number i b
  placed_in parent (Inner name attrs inner more) place number i b =
      let role : Role = role_in meta outside parent number name attrs in
      let item : Item = record { place = place; role = role; name = name; attrs = attrs; inner = inner } in
      let inners : List Item = items_in meta outside role inner (inner_place place attrs) (number_in role number) in
      let mores : List Item = items_in meta outside parent more (behind_place place attrs inner) (number_behind (item ∷ inners) number) in
      let n = new_role meta outside classes number parent name attrs i in
      let own = begins_left classes number (item ∷ inners) mores b in
      let p = parent_new classes number place role name attrs inner inners n.0 own in
      known_both number (item ∷ inners) mores
      (known_item number item inners n p (placed_in role inner (inner_place place attrs) (number_in role number) p (begins_inner classes number item inners own)))
      (placed_in parent more (behind_place place attrs inner) (number_behind (item ∷ inners) number) i (begins_right classes number (item ∷ inners) mores b))

-- all elements of a tree are placed in its own objects, which are numbered from 0
pub placed_tree : (meta : MetaDesc) (outside : Externs) (tree : Tree)
    → All (IsPlacedItem meta outside (map item_class (object_items (items meta outside tree)))) (items meta outside tree) × AreNumberedFrom 0 (items meta outside tree)
placed_tree meta outside tree =
    let role : Role = role_of_root meta tree.name tree.attrs in
    let item : Item = record { place = 0; role = role; name = tree.name; attrs = tree.attrs; inner = tree.inner } in
    let inners : List Item = items_in meta outside role tree.inner (inner_place 0 tree.attrs) (number_in role 0) in
    let classes : List (Option ℕ) = classes_of (item ∷ inners) in
    let n = root_new meta outside classes tree.name tree.attrs in
    let own : Begins classes 0 (item ∷ inners) = λ j x e. ap (slice_get classes) (from_zero j) ∙ e in
    let p = parent_new classes 0 0 role tree.name tree.attrs tree.inner inners n.0 own in
    known_item meta outside classes 0 item inners n p (placed_in meta outside classes role tree.inner (inner_place 0 tree.attrs) (number_in role 0) p (begins_inner classes 0 item inners own))
  where
    from_zero : (j : ℕ) → 0 + j ≡ j
    from_zero j = omega arith
