-- The first fault of the elements of a tree is the first that stands at a place.
use Rattle.std.proofs.Common.{◌⊎◌, ℕ, List, [], ◌∷◌, map, sym, subst, inl, inr, None}
use Rattle.std.specs.Prelude.{All, Contains, Option}
use Rattle.std.proofs.lemmas.List.Elements.{All-head, All-tail}
use Rattle.xmi_profile.specs.declared.element.Element.{Element}
use Rattle.model_assembly.specs.declared.fault.ModelFault.{ModelFault}
use Rattle.model_assembly.specs.declared.fault.ModelFault.TheVariants as faults
use Rattle.model_assembly.specs.declared.role.Role.TheVariants as elements
use Rattle.model_assembly.specs.declared.role.Role.{Role}
use Rattle.model_assembly.specs.Elements.{Item}
use Rattle.model_assembly.specs.Faults.{StandsAt}
use Rattle.model_assembly.specs.Judged.{IsAlien, IsUnknownClass, IsUnknownProperty, IsWrong, IsWrongValue}
use Rattle.xmi_profile.specs.Judging.{Found, element_fault, first_fault, first_of}
use Rattle.xmi_profile.specs.Listing.{element_of}
use Rattle.xmi_profile.specs.Scanning.{IsWithin}
use Rattle.model_assembly.specs.Source.{Source, all_items, file_ids}
use Rattle.xmi_profile.proofs.ElementLaws.{OfElement, UnknownAttrs, IsWrongAttrOf, attributes_first}
use Rattle.xmi_profile.specs.Firsts.{Stands, FirstIn, Duplicates}
use Rattle.xmi_profile.proofs.FirstLaws.{Either, Never, first_as, first_of_both}
use Rattle.xmi_profile.proofs.RoleLaws.{NoClass, BothC, BothU, BothW, RoleProperties, RoleWrongs, of_as, of_both, role_first}
use Rattle.xmi_profile.proofs.SeenLaws.{kept, element_kept}
use Rattle.model_assembly.proofs.assembling.ListLaws.{in_cons, in_tail}
use Rattle.mof_metamodel.proofs.Facts.{contains_first}
use Rattle.mof_metamodel.proofs.Facts.{nothing_in}

-- ---- an element

abbrev StandsIn : Source → Item → Stands
StandsIn s item = OfElement (IsUnknownClass item) (IsUnknownProperty s item) (IsWrongValue s item)

module _ (s : Source) (item : Item) where
  wrong_there : (role : Role) (at : ℕ) (id : List ℕ) (prop : Option (List ℕ)) → IsWrongAttrOf s item role at id prop ⊎ RoleWrongs s item role at id prop → IsWrong s item role at id prop
  wrong_there (elements.AnObject object) at id prop (inl x) = inr (inl x)
  wrong_there (elements.AnObject object) at id prop (inr (inl x)) = inl x
  wrong_there (elements.AnObject object) at id prop (inr (inr x)) = inr (inr x)
  wrong_there elements.Document at id prop (inl x) = absurd x
  wrong_there elements.Document at id prop (inr x) = x
  wrong_there elements.Skipped at id prop (inl x) = absurd x
  wrong_there elements.Skipped at id prop (inr x) = x
  wrong_there (elements.AValue o p) at id prop (inl x) = absurd x
  wrong_there (elements.AValue o p) at id prop (inr x) = x
  wrong_there (elements.AReference o p target) at id prop (inl x) = absurd x
  wrong_there (elements.AReference o p target) at id prop (inr x) = x
  wrong_there (elements.Neither o p) at id prop (inl x) = absurd x
  wrong_there (elements.Neither o p) at id prop (inr x) = x
  wrong_there elements.Alien at id prop (inl x) = absurd x
  wrong_there elements.Alien at id prop (inr x) = x
  wrong_there (elements.Stranger o) at id prop (inl x) = absurd x
  wrong_there (elements.Stranger o) at id prop (inr x) = x
  wrong_there (elements.Misplaced o p) at id prop (inl x) = absurd x
  wrong_there (elements.Misplaced o p) at id prop (inr x) = x

  wrong_back : (role : Role) (at : ℕ) (id : List ℕ) (prop : Option (List ℕ)) → IsWrong s item role at id prop → IsWrongAttrOf s item role at id prop ⊎ RoleWrongs s item role at id prop
  wrong_back (elements.AnObject object) at id prop (inl x) = inr (inl x)
  wrong_back (elements.AnObject object) at id prop (inr (inl x)) = inl x
  wrong_back (elements.AnObject object) at id prop (inr (inr x)) = inr (inr x)
  wrong_back elements.Document at id prop x = inr x
  wrong_back elements.Skipped at id prop x = inr x
  wrong_back (elements.AValue o p) at id prop x = inr x
  wrong_back (elements.AReference o p target) at id prop x = inr x
  wrong_back (elements.Neither o p) at id prop x = inr x
  wrong_back elements.Alien at id prop x = inr x
  wrong_back (elements.Stranger o) at id prop x = inr x
  wrong_back (elements.Misplaced o p) at id prop x = inr x

  element_first : IsWithin s.meta item.role → FirstIn (StandsIn s item) (element_fault s.meta (file_ids s) (element_of item))
  element_first w =
      subst (λ (e : Element). FirstIn (StandsIn s item) (element_fault s.meta (file_ids s) e)) (sym (element_kept item))
      (of_as (BothC NoClass (IsAlien item item.role)) (IsUnknownClass item)
      (BothU (UnknownAttrs s item item.role) (RoleProperties s item item.role)) (IsUnknownProperty s item)
      (BothW (IsWrongAttrOf s item item.role) (RoleWrongs s item item.role)) (IsWrongValue s item)
      (element_fault s.meta (file_ids s) (kept item))
      (λ at n. (class_there at n, λ x. inr x))
      (λ at i q. (property_there at i q, property_back at i q))
      (λ at i q. (wrong_there item.role at i q, wrong_back item.role at i q))
      (of_both NoClass (IsAlien item item.role) (UnknownAttrs s item item.role) (RoleProperties s item item.role)
      (IsWrongAttrOf s item item.role) (RoleWrongs s item item.role) _ _ (attributes_first s item) (role_first s item item.role w)))
    where
      class_there : (at : ℕ) (n : List ℕ) → ⊥ ⊎ IsAlien item item.role at n → IsAlien item item.role at n
      class_there at n (inl x) = absurd x
      class_there at n (inr x) = x

      property_there : (at : ℕ) (i q : List ℕ) → UnknownAttrs s item item.role at i q ⊎ RoleProperties s item item.role at i q → IsUnknownProperty s item at i q
      property_there at i q (inl x) = (x.0, inr x.1)
      property_there at i q (inr x) = (x.0, inl x.1)

      property_back : (at : ℕ) (i q : List ℕ) → IsUnknownProperty s item at i q → UnknownAttrs s item item.role at i q ⊎ RoleProperties s item item.role at i q
      property_back at i q x = elim x.1 [ inl y ↦ inr (x.0, y) | inr y ↦ inl (x.0, y) ]

-- ---- elements

pub record Among (s : Source) (items : List Item) (g : ModelFault) (place : ℕ) : Type 0 where
  pub item : Item
  pub is_among : Contains items item
  pub stands : StandsIn s item g place

module _ (s : Source) where
  more_items : (P : Stands) (item : Item) (items : List Item) (g : ModelFault) (place : ℕ)
      → Either (Either P (StandsIn s item)) (Among s items) g place → Either P (Among s (item ∷ items)) g place
  more_items P item items g place (inl (inl x)) = inl x
  more_items P item items g place (inl (inr x)) = inr (record { item = item; is_among = contains_first item items; stands = x })
  more_items P item items g place (inr x) = inr (record { item = x.item; is_among = in_tail item items x.item x.is_among; stands = x.stands })

  fewer_items : (P : Stands) (item : Item) (items : List Item) (g : ModelFault) (place : ℕ)
      → Either P (Among s (item ∷ items)) g place → Either (Either P (StandsIn s item)) (Among s items) g place
  fewer_items P item items g place (inl x) = inl (inl x)
  fewer_items P item items g place (inr x) = elim (in_cons item items x.item x.is_among) [
    | inl e ↦ inl (inr (subst (λ (i : Item). StandsIn s i g place) (sym e) x.stands))
    | inr c ↦ inr (record { item = x.item; is_among = c; stands = x.stands })
  ]

  items_first : (P : Stands) (found : Option Found) (items : List Item) → FirstIn P found → All (λ (item : Item). IsWithin s.meta item.role) items
      → FirstIn (Either P (Among s items)) (first_fault s.meta (file_ids s) found (map element_of items))
  items_first P found [] h w = first_as P (Either P (Among s [])) (λ g place x. inl x) back found h
    where
      back : (g : ModelFault) (place : ℕ) → P g place ⊎ Among s [] g place → P g place
      back g place (inl x) = x
      back g place (inr x) = absurd (nothing_in x.item x.is_among)
  items_first P found (item ∷ items) h w =
      let W : Item → Type 0 = λ i. IsWithin s.meta i.role in
      let next : Option Found = first_of found (element_fault s.meta (file_ids s) (element_of item)) in
      first_as (Either (Either P (StandsIn s item)) (Among s items)) (Either P (Among s (item ∷ items))) (more_items P item items) (fewer_items P item items)
      (first_fault s.meta (file_ids s) next (map element_of items))
      (items_first (Either P (StandsIn s item)) next items
      (first_of_both P (StandsIn s item) found (element_fault s.meta (file_ids s) (element_of item)) h (element_first s item (All-head W item items w)))
      (All-tail W item items w))

  -- ---- all that stand at places

  all_there : (g : ModelFault) (place : ℕ) → Duplicates s g place ⊎ Among s (all_items s) g place → StandsAt s g place
  all_there (faults.UnknownClass name) place (inl x) = absurd x
  all_there (faults.UnknownClass name) place (inr x) = (x.item, x.is_among, x.stands)
  all_there (faults.UnknownProperty id prop) place (inl x) = absurd x
  all_there (faults.UnknownProperty id prop) place (inr x) = (x.item, x.is_among, x.stands)
  all_there (faults.WrongValue id prop) place (inl x) = absurd x
  all_there (faults.WrongValue id prop) place (inr x) = (x.item, x.is_among, x.stands)
  all_there (faults.DuplicateId id) place (inl x) = x
  all_there (faults.DuplicateId id) place (inr x) = absurd x.stands
  all_there (faults.Dangling id prop reference) place (inl x) = absurd x
  all_there (faults.Dangling id prop reference) place (inr x) = absurd x.stands
  all_there (faults.TwoContainers id) place (inl x) = absurd x
  all_there (faults.TwoContainers id) place (inr x) = absurd x.stands
  all_there (faults.Mismatch id prop other other_prop) place (inl x) = absurd x
  all_there (faults.Mismatch id prop other other_prop) place (inr x) = absurd x.stands
  all_there (faults.Invalid breach id) place (inl x) = absurd x
  all_there (faults.Invalid breach id) place (inr x) = absurd x.stands
  all_there (faults.Limit kind) place (inl x) = absurd x
  all_there (faults.Limit kind) place (inr x) = absurd x.stands

  all_back : (g : ModelFault) (place : ℕ) → StandsAt s g place → Duplicates s g place ⊎ Among s (all_items s) g place
  all_back (faults.UnknownClass name) place x = inr (record { item = x.0; is_among = x.1; stands = x.2 })
  all_back (faults.UnknownProperty id prop) place x = inr (record { item = x.0; is_among = x.1; stands = x.2 })
  all_back (faults.WrongValue id prop) place x = inr (record { item = x.0; is_among = x.1; stands = x.2 })
  all_back (faults.DuplicateId id) place x = inl x
  all_back (faults.Dangling id prop reference) place x = absurd x
  all_back (faults.TwoContainers id) place x = absurd x
  all_back (faults.Mismatch id prop other other_prop) place x = absurd x
  all_back (faults.Invalid breach id) place x = absurd x
  all_back (faults.Limit kind) place x = absurd x

  elements_first : All (λ (item : Item). IsWithin s.meta item.role) (all_items s)
      → FirstIn (Among s (all_items s)) (first_fault s.meta (file_ids s) None (map element_of (all_items s)))
  elements_first w =
      first_as (Either Never (Among s (all_items s))) (Among s (all_items s)) there (λ g place x. inr x)
      (first_fault s.meta (file_ids s) None (map element_of (all_items s)))
      (items_first Never None (all_items s) (λ g place x. x) w)
    where
      there : (g : ModelFault) (place : ℕ) → Either Never (Among s (all_items s)) g place → Among s (all_items s) g place
      there g place (inl x) = absurd x
      there g place (inr x) = x

  pub all_first : (repeated : Option Found) → FirstIn (Duplicates s) repeated → All (λ (item : Item). IsWithin s.meta item.role) (all_items s)
      → FirstIn (StandsAt s) (first_of repeated (first_fault s.meta (file_ids s) None (map element_of (all_items s))))
  all_first repeated h w =
      let found : Option Found = first_fault s.meta (file_ids s) None (map element_of (all_items s)) in
      first_as (Either (Duplicates s) (Among s (all_items s))) (StandsAt s) all_there all_back (first_of repeated found)
      (first_of_both (Duplicates s) (Among s (all_items s)) repeated found h (elements_first w))
