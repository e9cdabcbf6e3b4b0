-- An object names others, and speaks, only at properties of its class.
use Rattle.std.proofs.Common.{◌≡◌, ◌⊎◌, ℕ, zero, suc, ◌+◌, ◌<◌, Bool, true, false, List, [], ◌∷◌, ◌++◌, map, length, refl, sym, ap, arith, subst, inl, inr, Option, None, Some, true≢false}
use Rattle.std.specs.Prelude.{◌==◌, ◌||◌, is_some, filter_map, nat_eq, slice_get, All, Contains, IfSome, option_map, if◌then◌else◌}
use Rattle.std.specs.List.{list_any, cons_option}
use Rattle.std.specs.Option.{unwrap_or}
use Rattle.std.proofs.lemmas.Bool.{eqb-true, and_parts, or_cases}
use Rattle.std.proofs.lemmas.List.{length-append, length-map}
use Rattle.std.proofs.lemmas.List.Elements.{All-head, All-tail}
use Rattle.std.proofs.lemmas.Option.{slice_get_within}
use Rattle.mof_metamodel.specs.declared.desc.MetaDesc.{MetaDesc}
use Rattle.mof_metamodel.specs.declared.desc.PropId.{PropId}
use Rattle.mof_metamodel.specs.Metamodels.{prop_number, type_of, united}
use Rattle.mof_metamodel.proofs.MetaLaws.{prop_named}
use Rattle.object_tables.specs.Models.{is_class_type}
use Rattle.model_assembly.specs.Attributes.{Attrs, first_attr, later, value_where}
use Rattle.model_assembly.specs.Elements.{Item, Role, Document, Skipped, AnObject, AValue, AReference, Neither, Alien, Stranger, Misplaced, object_items}
use Rattle.model_assembly.specs.Filed.{IsReferenceIn}
use Rattle.model_assembly.specs.Links.{is_some_target, speaks}
use Rattle.model_assembly.specs.Profile.{props_or_none}
use Rattle.model_assembly.specs.References.{Target, Contained}
use Rattle.model_assembly.specs.Source.{Source, all_items, item_at, item_class, ids_from, file_ids, added_names, primitive_class, object_count, class_of, is_number, attr_in, attr_of, attr_text, is_at, target_if, part_target, element_target_at, element_targets, targets_of, targets_at, target_number, names}
use Rattle.model_assembly.proofs.assembling.ListLaws.{map_get}
use Rattle.std.proofs.lemmas.Option.{none-some}
use Rattle.model_assembly.proofs.PlaceLaws.{IsOwned, IsPlaced, IsParent, placed_tree}

abbrev own_classes : Source → List (Option ℕ)
own_classes s = map item_class (object_items (all_items s))

-- the object is one of the file's elements, and its class has the property
abbrev IsOwn : Source → ℕ → ℕ → Type 0
IsOwn s o p = IsOwned s.meta (own_classes s) o p

-- ---- attributes

abbrev property_at : ℕ → PropId
property_at p = record { 0 = p }

-- a value stands at a name that passes
name_passes : (passes : List ℕ → Bool) (attrs : Attrs) → is_some (value_where passes attrs) ≡ true → (name : List ℕ) × (passes name ≡ true)
name_passes passes [] h = absurd (true≢false (sym h))
name_passes passes (a ∷ attrs) h = by (passes a.0) refl (name_passes passes attrs) h
  where
    behind : (o : Option (ℕ × List ℕ)) → is_some (option_map (λ (found : ℕ × List ℕ). found.1) (option_map later o)) ≡ true → is_some (option_map (λ (found : ℕ × List ℕ). found.1) o) ≡ true
    behind None g = g
    behind (Some found) g = refl

    by : (b : Bool) → passes a.0 ≡ b → (is_some (value_where passes attrs) ≡ true → (name : List ℕ) × (passes name ≡ true))
        → is_some (option_map (λ (found : ℕ × List ℕ). found.1) (if b then Some (0, a.1) else option_map later (first_attr passes attrs))) ≡ true → (name : List ℕ) × (passes name ≡ true)
    by true e more g = (a.0, e)
    by false e more g = more (behind (first_attr passes attrs) g)

number_is : (n : Option ℕ) (p : ℕ) → is_number n p ≡ true → n ≡ Some p
number_is None p h = absurd (true≢false (sym h))
number_is (Some q) p h = ap (λ (k : ℕ). Some k) (eqb-true q p h)

attr_owned : (s : Source) (o p : ℕ) → is_some (attr_text s o p) ≡ true → IsOwn s o p
attr_owned s o p h = by (item_at s o) refl h
  where
    in_class : (item : Item) (class : Option ℕ) → slice_get (own_classes s) o ≡ Some class → is_some (attr_in s.meta class p item.attrs) ≡ true → IsOwn s o p
    in_class item None e g = absurd (true≢false (sym g))
    in_class item (Some c) e g =
        let found = name_passes (λ name. is_number (prop_number s.meta c name) p) item.attrs g in
        let number = number_is (prop_number s.meta c found.0) p found.1 in
        record { class = c; class_is = e; has = (prop_named s.meta c found.0 (Some (property_at p)) (sym number)).has }

    by : (x : Option Item) → item_at s o ≡ x → is_some (attr_of s.meta p x) ≡ true → IsOwn s o p
    by None e g = absurd (true≢false (sym g))
    by (Some item) e g = in_class item (item_class item) (map_get item_class (object_items (all_items s)) o item e) g

-- ---- elements

module _ (meta : MetaDesc) (classes : List (Option ℕ)) (o p : ℕ) where
  at_owned : (object property : ℕ) → IsOwned meta classes object property → is_at o p object property ≡ true → IsOwned meta classes o p
  at_owned object property h e =
      let parts = and_parts (object == o) (property == p) e in
      subst (λ (q : ℕ). IsOwned meta classes o q) (eqb-true property p parts.1)
      (subst (λ (a : ℕ). IsOwned meta classes a property) (eqb-true object o parts.0) h)

  holds_if : (b : Bool) (target : Target) → is_some (target_if b target) ≡ true → b ≡ true
  holds_if true target h = refl
  holds_if false target h = h

  role_owned : (role : Role) → IsPlaced meta classes role → is_some (element_target_at o p role) ≡ true → IsOwned meta classes o p
  role_owned Document h e = absurd (true≢false (sym e))
  role_owned Skipped h e = absurd (true≢false (sym e))
  role_owned (AnObject object) h e = by object.within h.0 e
    where
      by : (within : Option (ℕ × ℕ)) → IfSome within (λ container. IsOwned meta classes container.0 container.1 × (is_class_type (type_of meta container.1) ≡ true))
          → is_some (part_target o p object.number within) ≡ true → IsOwned meta classes o p
      by None k g = absurd (true≢false (sym g))
      by (Some container) k g = at_owned container.0 container.1 k.0 (holds_if (is_at o p container.0 container.1) (Contained object.number) g)
  role_owned (AValue object property) h e = absurd (true≢false (sym e))
  role_owned (AReference object property target) h e = at_owned object property h.0 (holds_if (is_at o p object property) target e)
  role_owned (Neither object property) h e = absurd (true≢false (sym e))
  role_owned Alien h e = absurd (true≢false (sym e))
  role_owned (Stranger object) h e = absurd (true≢false (sym e))
  role_owned (Misplaced object property) h e = absurd (true≢false (sym e))

  abbrev Placed : Item → Type 0
  Placed item = IsPlaced meta classes item.role × IsParent classes item.role

  elements_owned : (items : List Item) → All Placed items → is_some_target (filter_map (λ (item : Item). element_target_at o p item.role) items) ≡ true → IsOwned meta classes o p
  elements_owned [] a h = absurd (true≢false (sym h))
  elements_owned (item ∷ items) a h = by (element_target_at o p item.role) refl (elements_owned items (All-tail Placed item items a)) h
    where
      by : (t : Option Target) → element_target_at o p item.role ≡ t
          → (is_some_target (filter_map (λ (item : Item). element_target_at o p item.role) items) ≡ true → IsOwned meta classes o p)
          → is_some_target (cons_option t (filter_map (λ (item : Item). element_target_at o p item.role) items)) ≡ true → IsOwned meta classes o p
      by None e more g = more g
      by (Some t) e more g = role_owned item.role (All-head Placed item items a).0 (ap (λ (t : Option Target). is_some t) e)

-- ---- where an object speaks

speaks_owned : (s : Source) (o p : ℕ) → speaks s o p ≡ true → IsOwn s o p
speaks_owned s o p h = by (or_cases (is_some (attr_text s o p)) (is_some_target (element_targets s o p)) h)
  where
    by : (is_some (attr_text s o p) ≡ true) ⊎ (is_some_target (element_targets s o p) ≡ true) → IsOwn s o p
    by (inl e) = attr_owned s o p e
    by (inr e) = elements_owned s.meta (own_classes s) o p (all_items s) (placed_tree s.meta s.outside s.tree).0 e

-- an object of a source, and a property of its class
pub record IsPropertyIn (s : Source) (o p : ℕ) : Type 0 where
  pub object : o < object_count s
  pub has : Contains (props_or_none s.meta (class_of s o)) p

ids_length : (number : ℕ) (items : List Item) → length (ids_from number items) ≡ length items
ids_length number [] = refl
ids_length number (item ∷ items) = ap (λ (n : ℕ). suc n) (ids_length (suc number) items)

get_left : {X : Type 0} (xs ys : List X) (j : ℕ) (x : X) → slice_get xs j ≡ Some x → slice_get (xs ++ ys) j ≡ Some x
get_left [] ys j x e = absurd (none-some x e)
get_left (z ∷ xs) ys zero x e = e
get_left (z ∷ xs) ys (suc j) x e = get_left xs ys j x e

owned_place : (s : Source) (o p : ℕ) → IsOwn s o p → IsPropertyIn s o p
owned_place s o p h = record {
  object =
      let within = slice_get_within (own_classes s) o (Some h.class) h.class_is in
      let mapped : length (own_classes s) ≡ length (object_items (all_items s)) = length-map (object_items (all_items s)) item_class in
      let ids : length (file_ids s) ≡ length (object_items (all_items s)) = ids_length 0 (object_items (all_items s)) in
      let all : length (file_ids s ++ added_names s) ≡ length (file_ids s) + length (added_names s) = length-append (file_ids s) (added_names s) in
      omega (arith, within, mapped, ids, all);
  has = subst (λ (k : Option ℕ). Contains (props_or_none s.meta k) p) (sym class) h.has;
}
  where
    class : class_of s o ≡ Some h.class
    class =
        ap (λ (c : Option (Option ℕ)). unwrap_or c None)
        (get_left (own_classes s) (map (λ (name : List ℕ). primitive_class s.meta) (added_names s)) o (Some h.class) h.class_is)

-- an object speaks at properties of its class
pub speaks_place : (s : Source) (o p : ℕ) → speaks s o p ≡ true → IsPropertyIn s o p
speaks_place s o p h = owned_place s o p (speaks_owned s o p h)

-- ---- what an object names

some_targets : (s : Source) (b : ℕ) (ts : List Target) → list_any (nat_eq b) (united [] (filter_map (target_number s) ts)) ≡ true → is_some_target ts ≡ true
some_targets s b [] h = absurd (true≢false (sym h))
some_targets s b (t ∷ ts) h = refl

speaks_if : (text : Option (List ℕ)) (targets : List Target) → is_some_target (targets_of text ++ targets) ≡ true → (is_some text || is_some_target targets) ≡ true
speaks_if None targets h = h
speaks_if (Some text) targets h = refl

-- where an object names something it speaks
pub names_speaks : (s : Source) (o p b : ℕ) → names s o p b ≡ true → speaks s o p ≡ true
names_speaks s o p b h = speaks_if (attr_text s o p) (element_targets s o p) (some_targets s b (targets_at s o p) h)

-- an object names something at properties of its class
pub names_place : (s : Source) (o p b : ℕ) → names s o p b ≡ true → IsPropertyIn s o p
names_place s o p b h = speaks_place s o p (names_speaks s o p b h)

-- at a property of a class type that is a reference of its class
pub speaks_reference : (s : Source) (o p : ℕ) → is_class_type (type_of s.meta p) ≡ true → speaks s o p ≡ true → IsReferenceIn s o p
speaks_reference s o p t h = let place = speaks_place s o p h in record { object = place.object; has = place.has; class_type = t }

pub names_reference : (s : Source) (o p b : ℕ) → is_class_type (type_of s.meta p) ≡ true → names s o p b ≡ true → IsReferenceIn s o p
names_reference s o p b t h = speaks_reference s o p t (names_speaks s o p b h)
