-- Each step of a source's making: one more package, class or attribute.
use Rattle.std.proofs.Common.{◌≡◌, ◌<◌, ◌+◌, ◌*◌, ◌/◌, ◌%◌, ℕ, List, [], ◌∷◌, ◌++◌, length, map, Option, Some, refl, ap, sym, ◌∙◌, arith, append_assoc}
use Rattle.std.specs.Prelude.{codes}
use Rattle.std.specs.List.{range_with_len}
use Rattle.std.proofs.lemmas.List.{length-append}
use Rattle.std.proofs.lemmas.List.FromFn.{map-range_with_len_more}
use Rattle.mof_metamodel.specs.Metamodels.{opposite_of}
use Rattle.object_tables.specs.declared.value.ObjId.{ObjId}
use Rattle.object_tables.specs.declared.value.Value.TheVariants as values
use Rattle.object_tables.specs.Objects.{Object, Slot}
use Rattle.object_tables.specs.Models.{with_object_slot, new_object, added, linked, with_partner, at_opposite}
use Rattle.example_models.specs.declared.parts.Part.{Part}
use Rattle.example_models.specs.ClsTable.{cls_desc}
use Rattle.example_models.specs.Source.{package_name, class_name, attribute_name, package_number, class_number, attribute_count, attribute_prim, classes_in, package_object, class_object, attribute_object, class_objects, classes_objects, package_objects, packages_objects}
use Rattle.example_models.specs.Growing.{model_of, with_text, with_part, up_to_class, before_class, up_to_attribute, class_part, attribute_part}
use Rattle.example_models.proofs.RangeLaws.{range_more, flat_map_range_more, update_middle}
use Rattle.example_models.proofs.SizeLaws.{length_class, length_packages, length_up_to_class}

-- a text, and one more partner
abbrev text_put : List ℕ → Slot → Slot
text_put text s = record s { values = values.Str text ∷ [] }

abbrev partner_put : ℕ → Slot → Slot
partner_put b s = record s { partners = s.partners ++ b ∷ [] }

-- a text of the last object
text_last : (xs : List (Option Object)) (x : Option Object) (p : ℕ) (text : List ℕ)
    → with_text (model_of (xs ++ x ∷ [])) (length xs) p text ≡ model_of (xs ++ with_object_slot cls_desc p (text_put text) x ∷ [])
text_last xs x p text = ap model_of (update_middle xs x [] (with_object_slot cls_desc p (text_put text)))

-- the new object with its texts, and with its container
abbrev new_text : Part → Option Object
new_text part =
    with_object_slot cls_desc part.attribute.0 (text_put part.text) (with_object_slot cls_desc 0 (text_put part.name) (Some (new_object cls_desc part.class.0 part.id)))

abbrev new_part : Part → Option Object
new_part part = with_object_slot cls_desc part.reference.0 (partner_put part.container.0) (new_text part)

-- a part of an object in the middle
part_put : (us vs : List (Option Object)) (ob : Object) (part : Part) (q : ℕ) → part.container.0 ≡ length us → opposite_of cls_desc part.reference.0 ≡ Some q
    → with_part (model_of (us ++ Some ob ∷ vs)) part
    ≡ model_of (us ++ with_object_slot cls_desc q (partner_put (length (us ++ Some ob ∷ vs))) (Some ob) ∷ (vs ++ new_part part ∷ []))
part_put us vs ob part q at back =
    let xs : List (Option Object) = us ++ Some ob ∷ vs in
    let o : ℕ = length xs in
    let n0 : Option Object = Some (new_object cls_desc part.class.0 part.id) in
    let named = text_last xs n0 0 part.name in
    let texts = ap (λ m. with_text m o part.attribute.0 part.text) named ∙ text_last xs (with_object_slot cls_desc 0 (text_put part.name) n0) part.attribute.0 part.text in
    ap (λ m. linked m part.reference.0 o part.container.0) texts
    ∙ ap (λ z. at_opposite with_partner (with_partner (model_of (xs ++ new_text part ∷ [])) o part.reference.0 part.container.0) z part.container.0 o) back
    ∙ ap (λ ys. with_partner (model_of ys) part.container.0 q o) (update_middle xs (new_text part) [] (with_object_slot cls_desc part.reference.0 (partner_put part.container.0)))
    ∙ ap (λ b. with_partner (model_of (xs ++ new_part part ∷ [])) b q o) at
    ∙ ap (λ ys. with_partner (model_of ys) (length us) q o) (append_assoc us (Some ob ∷ vs) (new_part part ∷ []))
    ∙ ap model_of (update_middle us (Some ob) (vs ++ new_part part ∷ []) (with_object_slot cls_desc q (partner_put o)))

-- ---- a package

pub package_put : (n seed k : ℕ)
    → with_text (added (model_of (packages_objects n seed k)) 1 (package_name k)) (length (packages_objects n seed k)) 0 (package_name k) ≡ model_of (up_to_class n seed k 0)
package_put n seed k = text_last (packages_objects n seed k) (Some (new_object cls_desc 1 (package_name k))) 0 (package_name k)

pub package_whole : (n seed k : ℕ) → up_to_class n seed k (classes_in n k) ≡ packages_objects n seed (k + 1)
package_whole n seed k = sym (flat_map_range_more (λ k. package_objects seed k (classes_in n k)) 0 k k (omega arith))

-- ---- a class

module _ (n seed i : ℕ) (few : i < n) where
  abbrev us : List (Option Object)
  us = packages_objects n seed (i / 100)

  abbrev vs : List (Option Object)
  vs = classes_objects seed (100 * (i / 100)) (i % 100)

  pub before_whole : length (up_to_class n seed (i / 100) (i % 100)) ≡ class_number seed i
  before_whole =
      let whole : 100 * (i / 100) + i % 100 ≡ i = omega arith in
      length_up_to_class n seed (i / 100) (i % 100) (omega (arith, few)) (omega arith) ∙ ap (class_number seed) whole

  classes_more : map (class_number seed) (range_with_len (100 * (i / 100)) (i % 100 + 1)) ≡ map (class_number seed) (range_with_len (100 * (i / 100)) (i % 100)) ++ class_number seed i ∷ []
  classes_more = map-range_with_len_more (class_number seed) (100 * (i / 100)) (i % 100) i (omega arith)

  abbrev package_with : List ℕ → Object
  package_with classes = record (package_object seed (i / 100) 0) {
    slots = record { values = values.Str (package_name (i / 100)) ∷ []; partners = [] } ∷ record { values = []; partners = classes } ∷ [];
  }

  abbrev class_in : ℕ → Object
  class_in owner = record (class_object seed i 0) {
    slots =
        record { values = values.Str (class_name i) ∷ []; partners = [] } ∷ record { values = []; partners = owner ∷ [] }
        ∷ record { values = values.Str (codes "persistent") ∷ []; partners = [] }
        ∷ record { values = []; partners = [] } ∷ record { values = []; partners = [] } ∷ record { values = []; partners = [] }
        ∷ record { values = []; partners = [] } ∷ [];
  }

  pub class_put : (owner : ObjId) → owner.0 ≡ package_number seed (i / 100)
      → with_part (model_of (up_to_class n seed (i / 100) (i % 100))) (class_part i owner) ≡ model_of (up_to_attribute n seed i 0)
  class_put owner at =
      let numbered : owner.0 ≡ length us = at ∙ sym (length_packages n seed (i / 100) (omega (arith, few))) in
      let put = part_put us vs (package_object seed (i / 100) (i % 100)) (class_part i owner) 1 numbered refl in
      put
      ∙ ap (λ ids. model_of (us ++ Some (package_with ids) ∷ (vs ++ Some (class_in owner.0) ∷ [])))
      (ap (λ o. map (class_number seed) (range_with_len (100 * (i / 100)) (i % 100)) ++ o ∷ []) before_whole ∙ sym classes_more)
      ∙ ap (λ b. model_of (us ++ Some (package_object seed (i / 100) (i % 100 + 1)) ∷ (vs ++ Some (class_in b) ∷ []))) at
      ∙ ap model_of (sym (append_assoc us (Some (package_object seed (i / 100) (i % 100 + 1)) ∷ vs) (Some (class_object seed i 0) ∷ [])))

  -- ---- an attribute

  pub length_before : length (before_class n seed i) ≡ class_number seed i
  length_before =
      let one = length-append us (Some (package_object seed (i / 100) (i % 100 + 1)) ∷ vs) in
      let two = length-append us (Some (package_object seed (i / 100) (i % 100)) ∷ vs) in
      let whole = before_whole in
      omega (arith, one, two, whole)

  pub length_up_to : (j : ℕ) → length (up_to_attribute n seed i j) ≡ class_number seed i + 1 + j
  length_up_to j =
      let both = length-append (before_class n seed i) (class_objects seed i j) in
      let before = length_before in
      let here = length_class seed i j in
      omega (arith, both, before, here)

  abbrev class_having : List ℕ → Object
  class_having attrs = record (class_object seed i 0) {
    slots =
        record { values = values.Str (class_name i) ∷ []; partners = [] } ∷ record { values = []; partners = package_number seed (i / 100) ∷ [] }
        ∷ record { values = values.Str (codes "persistent") ∷ []; partners = [] }
        ∷ record { values = []; partners = [] } ∷ record { values = []; partners = [] } ∷ record { values = []; partners = [] }
        ∷ record { values = []; partners = attrs } ∷ [];
  }

  abbrev attribute_in : ℕ → ℕ → Object
  attribute_in j owner = record (attribute_object seed i j) {
    slots =
        record { values = values.Str (attribute_name j) ∷ []; partners = [] } ∷ record { values = []; partners = owner ∷ [] }
        ∷ record { values = values.Str (attribute_prim seed i j) ∷ []; partners = [] } ∷ record { values = []; partners = [] } ∷ [];
  }

  pub attribute_put : (j : ℕ) (owner : ObjId) → owner.0 ≡ class_number seed i
      → with_part (model_of (up_to_attribute n seed i j)) (attribute_part seed i j owner) ≡ model_of (up_to_attribute n seed i (j + 1))
  attribute_put j owner at =
      let ws : List (Option Object) = before_class n seed i in
      let attrs : List (Option Object) = map (λ j. Some (attribute_object seed i j)) (range_with_len 0 j) in
      let put = part_put ws attrs (class_object seed i j) (attribute_part seed i j owner) 7 (at ∙ sym length_before) refl in
      let ids : List ℕ = range_with_len (class_number seed i + 1) j in
      let more : ids ++ length (up_to_attribute n seed i j) ∷ [] ≡ range_with_len (class_number seed i + 1) (j + 1)
      = ap (λ o. ids ++ o ∷ []) (length_up_to j) ∙ sym (range_more (class_number seed i + 1) j (class_number seed i + 1 + j) refl) in
      let objects : attrs ++ Some (attribute_object seed i j) ∷ [] ≡ map (λ j. Some (attribute_object seed i j)) (range_with_len 0 (j + 1))
      = sym (map-range_with_len_more (λ j. Some (attribute_object seed i j)) 0 j j (omega arith)) in
      put
      ∙ ap (λ l. model_of (ws ++ Some (class_having l) ∷ (attrs ++ Some (attribute_in j owner.0) ∷ []))) more
      ∙ ap (λ b. model_of (ws ++ Some (class_object seed i (j + 1)) ∷ (attrs ++ Some (attribute_in j b) ∷ []))) at
      ∙ ap (λ l. model_of (ws ++ Some (class_object seed i (j + 1)) ∷ l)) objects

  pub class_whole : up_to_attribute n seed i (attribute_count seed i) ≡ up_to_class n seed (i / 100) (i % 100 + 1)
  class_whole =
      append_assoc us (Some (package_object seed (i / 100) (i % 100 + 1)) ∷ vs) (class_objects seed i (attribute_count seed i))
      ∙ ap (λ l. us ++ Some (package_object seed (i / 100) (i % 100 + 1)) ∷ l)
      (sym (flat_map_range_more (λ i. class_objects seed i (attribute_count seed i)) (100 * (i / 100)) (i % 100) i (omega arith)))
