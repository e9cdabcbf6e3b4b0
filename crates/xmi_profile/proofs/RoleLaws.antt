-- The first fault of an element of a tree, without those of its attributes.
use Rattle.std.proofs.Common.{◌≡◌, ◌⊎◌, ◌↔◌, ℕ, suc, ◌+◌, ◌<◌, ◌≤◌, Bool, true, false, List, [], ◌∷◌, refl, sym, ◌∙◌, ap, arith, subst, inl, inr, None, Some}
use Rattle.std.specs.Prelude.{◌||◌, not, is_some, IfSome, Option, if◌then◌else◌}
use Rattle.std.specs.Option.{option_map, unwrap_or}
use Rattle.std.proofs.lemmas.Bool.{true≢false, cases_lt}
use Rattle.mof_metamodel.specs.declared.desc.PropType.{PropType}
use Rattle.mof_metamodel.specs.declared.desc.PropType.TheVariants as types
use Rattle.mof_metamodel.specs.Characters.{is_identifier_text}
use Rattle.mof_metamodel.specs.Metamodels.{class_count, type_of}
use Rattle.mof_metamodel.proofs.ReachLemmas.{steps_sound, steps_complete}
use Rattle.object_tables.specs.declared.value.Value.{Value}
use Rattle.object_tables.specs.Models.{ConformsTo}
use Rattle.xmi_profile.specs.declared.element.Element.{Element}
use Rattle.model_assembly.specs.declared.fault.ModelFault.{ModelFault}
use Rattle.model_assembly.specs.declared.fault.ModelFault.TheVariants as faults
use Rattle.model_assembly.specs.AssemblyFirsts.{conforms_to}
use Rattle.model_assembly.specs.Attributes.{Attrs, first_attr, later, value_where, is_id_name, is_type_name, is_nil}
use Rattle.model_assembly.specs.declared.role.Role.TheVariants as elements
use Rattle.model_assembly.specs.declared.role.Role.{Role}
use Rattle.model_assembly.specs.declared.role.ObjectRole.{ObjectRole}
use Rattle.model_assembly.specs.Elements.{Item, attr_place, inner_place}
use Rattle.model_assembly.specs.FirstFault.{rank}
use Rattle.model_assembly.specs.Judged.{IsTextAt, IsAlien, IsStranger, IsWrongId, IsTextInObject, IsWrongPart, IsWrongText, IsOfProperty, found_place, id_in, no_id, runs}
use Rattle.xmi_profile.specs.Judging as judging
use Rattle.xmi_profile.specs.Judging.{Found, found_at, found_if, first_of, place_by, place_of, wrong_of, role_fault, object_fault, fault_by_class, part_fault, value_fault, id_fault, id_fault_by, class_fault, is_no_value}
use Rattle.model_assembly.specs.Profile.{prop_name}
use Rattle.xmi_profile.specs.Scanning.{IsWithin, number_from}
use Rattle.model_assembly.specs.Source.{Source, file_ids, given_id, printed_id, text_in}
use Rattle.model_assembly.specs.Values.{value_of}
use Rattle.xmi_profile.proofs.ElementLaws.{Classes, Properties, Wrongs, OfElement}
use Rattle.xmi_profile.specs.Firsts.{Before, Stands, FirstIn}
use Rattle.xmi_profile.proofs.FirstLaws.{Either, first_as, first_of_both}
use Rattle.xmi_profile.proofs.SeenLaws.{kept, odd_from, odd_found, FirstOdd, text_at_is}
use Rattle.std.proofs.lemmas.Option.{none-some, same_Some}

-- ---- the three kinds

abbrev pub NoClass : Classes
NoClass = λ place name. ⊥

abbrev pub NoProperty : Properties
NoProperty = λ place id prop. ⊥

abbrev pub NoWrong : Wrongs
NoWrong = λ place id prop. ⊥

pub of_map : (C D : Classes) (U V : Properties) (W X : Wrongs)
    → ((place : ℕ) (name : List ℕ) → C place name → D place name)
    → ((place : ℕ) (id prop : List ℕ) → U place id prop → V place id prop)
    → ((place : ℕ) (id : List ℕ) (prop : Option (List ℕ)) → W place id prop → X place id prop)
    → (g : ModelFault) (place : ℕ) → OfElement C U W g place → OfElement D V X g place
of_map C D U V W X c u w (faults.UnknownClass name) place x = c place name x
of_map C D U V W X c u w (faults.UnknownProperty id prop) place x = u place id prop x
of_map C D U V W X c u w (faults.WrongValue id prop) place x = w place id prop x
of_map C D U V W X c u w (faults.DuplicateId id) place x = x
of_map C D U V W X c u w (faults.Dangling id prop reference) place x = x
of_map C D U V W X c u w (faults.TwoContainers id) place x = x
of_map C D U V W X c u w (faults.Mismatch id prop other other_prop) place x = x
of_map C D U V W X c u w (faults.Invalid breach id) place x = x
of_map C D U V W X c u w (faults.Limit kind) place x = x

pub of_before : (C : Classes) (U : Properties) (W : Wrongs) (n r : ℕ)
    → ((place : ℕ) (name : List ℕ) → C place name → Before n r place 2)
    → ((place : ℕ) (id prop : List ℕ) → U place id prop → Before n r place 3)
    → ((place : ℕ) (id : List ℕ) (prop : Option (List ℕ)) → W place id prop → Before n r place 4)
    → (g : ModelFault) (place : ℕ) → OfElement C U W g place → Before n r place (rank g)
of_before C U W n r c u w (faults.UnknownClass name) place x = c place name x
of_before C U W n r c u w (faults.UnknownProperty id prop) place x = u place id prop x
of_before C U W n r c u w (faults.WrongValue id prop) place x = w place id prop x
of_before C U W n r c u w (faults.DuplicateId id) place x = absurd x
of_before C U W n r c u w (faults.Dangling id prop reference) place x = absurd x
of_before C U W n r c u w (faults.TwoContainers id) place x = absurd x
of_before C U W n r c u w (faults.Mismatch id prop other other_prop) place x = absurd x
of_before C U W n r c u w (faults.Invalid breach id) place x = absurd x
of_before C U W n r c u w (faults.Limit kind) place x = absurd x

pub of_none : (C : Classes) (U : Properties) (W : Wrongs)
    → ((place : ℕ) (name : List ℕ) → ¬ C place name)
    → ((place : ℕ) (id prop : List ℕ) → ¬ U place id prop)
    → ((place : ℕ) (id : List ℕ) (prop : Option (List ℕ)) → ¬ W place id prop)
    → FirstIn (OfElement C U W) None
of_none C U W c u w = by
  where
    by : (g : ModelFault) (place : ℕ) → ¬ OfElement C U W g place
    by (faults.UnknownClass name) place = λ x. c place name x
    by (faults.UnknownProperty id prop) place = λ x. u place id prop x
    by (faults.WrongValue id prop) place = λ x. w place id prop x
    by (faults.DuplicateId id) place = λ x. x
    by (faults.Dangling id prop reference) place = λ x. x
    by (faults.TwoContainers id) place = λ x. x
    by (faults.Mismatch id prop other other_prop) place = λ x. x
    by (faults.Invalid breach id) place = λ x. x
    by (faults.Limit kind) place = λ x. x

-- of two elements' faults
abbrev pub BothC : Classes → Classes → Classes
BothC C D = λ place name. C place name ⊎ D place name

abbrev pub BothU : Properties → Properties → Properties
BothU U V = λ place id prop. U place id prop ⊎ V place id prop

abbrev pub BothW : Wrongs → Wrongs → Wrongs
BothW W X = λ place id prop. W place id prop ⊎ X place id prop

of_parts : (C D : Classes) (U V : Properties) (W X : Wrongs) (g : ModelFault) (place : ℕ)
    → OfElement (BothC C D) (BothU U V) (BothW W X) g place → OfElement C U W g place ⊎ OfElement D V X g place
of_parts C D U V W X (faults.UnknownClass name) place x = x
of_parts C D U V W X (faults.UnknownProperty id prop) place x = x
of_parts C D U V W X (faults.WrongValue id prop) place x = x
of_parts C D U V W X (faults.DuplicateId id) place x = absurd x
of_parts C D U V W X (faults.Dangling id prop reference) place x = absurd x
of_parts C D U V W X (faults.TwoContainers id) place x = absurd x
of_parts C D U V W X (faults.Mismatch id prop other other_prop) place x = absurd x
of_parts C D U V W X (faults.Invalid breach id) place x = absurd x
of_parts C D U V W X (faults.Limit kind) place x = absurd x

pub of_both : (C D : Classes) (U V : Properties) (W X : Wrongs) (a b : Option Found) → FirstIn (OfElement C U W) a → FirstIn (OfElement D V X) b
    → FirstIn (OfElement (BothC C D) (BothU U V) (BothW W X)) (first_of a b)
of_both C D U V W X a b h k =
    first_as (Either (OfElement C U W) (OfElement D V X)) (OfElement (BothC C D) (BothU U V) (BothW W X)) there (of_parts C D U V W X) (first_of a b)
    (first_of_both (OfElement C U W) (OfElement D V X) a b h k)
  where
    there : (g : ModelFault) (place : ℕ) → OfElement C U W g place ⊎ OfElement D V X g place → OfElement (BothC C D) (BothU U V) (BothW W X) g place
    there g place (inl x) = of_map C (BothC C D) U (BothU U V) W (BothW W X) (λ p n y. inl y) (λ p i q y. inl y) (λ p i q y. inl y) g place x
    there g place (inr x) = of_map D (BothC C D) V (BothU U V) X (BothW W X) (λ p n y. inr y) (λ p i q y. inr y) (λ p i q y. inr y) g place x

-- the same, said otherwise
pub of_as : (C D : Classes) (U V : Properties) (W X : Wrongs) (o : Option Found)
    → ((place : ℕ) (name : List ℕ) → C place name ↔ D place name)
    → ((place : ℕ) (id prop : List ℕ) → U place id prop ↔ V place id prop)
    → ((place : ℕ) (id : List ℕ) (prop : Option (List ℕ)) → W place id prop ↔ X place id prop)
    → FirstIn (OfElement C U W) o → FirstIn (OfElement D V X) o
of_as C D U V W X o c u w h =
    first_as (OfElement C U W) (OfElement D V X)
    (of_map C D U V W X (λ p n. (c p n).0) (λ p i q. (u p i q).0) (λ p i q. (w p i q).0))
    (of_map D C V U X W (λ p n. (c p n).1) (λ p i q. (u p i q).1) (λ p i q. (w p i q).1)) o h

-- ---- one fault

at_once : (n place r q : ℕ) → place ≡ n → r ≤ q → Before n r place q
at_once n place r q e l = inr (omega (arith, e), l)

one_class : (place : ℕ) (name : List ℕ) (C : Classes) (U : Properties) (W : Wrongs) → C place name
    → ((p : ℕ) (n : List ℕ) → C p n → p ≡ place) → ((p : ℕ) (i q : List ℕ) → ¬ U p i q) → ((p : ℕ) (i : List ℕ) (q : Option (List ℕ)) → ¬ W p i q)
    → FirstIn (OfElement C U W) (Some (found_at place (faults.UnknownClass name)))
one_class place name C U W x c u w = record {
  stands = x;
  first = of_before C U W place 2 (λ p n y. at_once place p 2 2 (c p n y) (omega arith)) (λ p i q y. absurd (u p i q y)) (λ p i q y. absurd (w p i q y));
}

one_property : (place : ℕ) (id prop : List ℕ) (C : Classes) (U : Properties) (W : Wrongs) → U place id prop
    → ((p : ℕ) (n : List ℕ) → ¬ C p n) → ((p : ℕ) (i q : List ℕ) → U p i q → p ≡ place) → ((p : ℕ) (i : List ℕ) (q : Option (List ℕ)) → ¬ W p i q)
    → FirstIn (OfElement C U W) (Some (found_at place (faults.UnknownProperty id prop)))
one_property place id prop C U W x c u w = record {
  stands = x;
  first = of_before C U W place 3 (λ p n y. absurd (c p n y)) (λ p i q y. at_once place p 3 3 (u p i q y) (omega arith)) (λ p i q y. absurd (w p i q y));
}

one_wrong : (place : ℕ) (id : List ℕ) (prop : Option (List ℕ)) (C : Classes) (U : Properties) (W : Wrongs) → W place id prop
    → ((p : ℕ) (n : List ℕ) → ¬ C p n) → ((p : ℕ) (i q : List ℕ) → ¬ U p i q) → ((p : ℕ) (i : List ℕ) (q : Option (List ℕ)) → W p i q → p ≡ place)
    → FirstIn (OfElement C U W) (Some (found_at place (faults.WrongValue id prop)))
one_wrong place id prop C U W x c u w = record {
  stands = x;
  first = of_before C U W place 4 (λ p n y. absurd (c p n y)) (λ p i q y. absurd (u p i q y)) (λ p i q y. at_once place p 4 4 (w p i q y) (omega arith));
}

-- characters that stand where none may
abbrev TextFaults : Item → List ℕ → Option (List ℕ) → Wrongs
TextFaults item id prop = λ place i p. IsTextAt item place × (i ≡ id) × (p ≡ prop)

text_first : (item : Item) (id : List ℕ) (prop : Option (List ℕ)) → FirstIn (OfElement NoClass NoProperty (TextFaults item id prop)) (found_if (odd_from None (runs item)) (faults.WrongValue id prop))
text_first item id prop = by (odd_from None (runs item)) (odd_found item.inner (inner_place item.place item.attrs))
  where
    by : (o : Option ℕ) → FirstOdd (runs item) o → FirstIn (OfElement NoClass NoProperty (TextFaults item id prop)) (found_if o (faults.WrongValue id prop))
    by None h = of_none NoClass NoProperty (TextFaults item id prop) (λ p n x. x) (λ p i q x. x) (λ p i q x. h p x.0)
    by (Some first) h = record {
      stands = (h.0, refl, refl);
      first = of_before NoClass NoProperty (TextFaults item id prop) first 4 (λ p n x. absurd x) (λ p i q x. absurd x) (λ p i q x. before p (h.1 p x.0));
    }
      where
        before : (p : ℕ) → first ≤ p → Before first 4 p 4
        before p l = elim (cases_lt first p) [ inl m ↦ inl m | inr m ↦ inr (omega (arith, l, m), omega arith) ]

-- ---- places

number_is : (passes : List ℕ → Bool) (n : ℕ) (attrs : Attrs) → number_from passes n attrs ≡ option_map (λ (found : ℕ × List ℕ). n + found.0) (first_attr passes attrs)
number_is passes n [] = refl
number_is passes n (a ∷ attrs) = by (passes a.0) (number_is passes (suc n) attrs)
  where
    more : (o : Option (ℕ × List ℕ)) → option_map (λ (found : ℕ × List ℕ). suc n + found.0) o ≡ option_map (λ (found : ℕ × List ℕ). n + found.0) (option_map later o)
    more None = refl
    more (Some found) = let e : suc n + found.0 ≡ n + suc found.0 = omega arith in ap (λ (k : ℕ). Some k) e

    by : (b : Bool) → number_from passes (suc n) attrs ≡ option_map (λ (found : ℕ × List ℕ). suc n + found.0) (first_attr passes attrs)
        → (if b then Some n else number_from passes (suc n) attrs) ≡ option_map (λ (found : ℕ × List ℕ). n + found.0) (if b then Some (0, a.1) else option_map later (first_attr passes attrs))
    by true h = let e : n ≡ n + 0 = omega arith in ap (λ (k : ℕ). Some k) e
    by false h = h ∙ more (first_attr passes attrs)

found_by : (place : ℕ) (o : Option (ℕ × List ℕ)) → place_by place (option_map (λ (found : ℕ × List ℕ). 0 + found.0) o) ≡ found_place place o
found_by place None = refl
found_by place (Some found) = omega arith

pub found_as : (place : ℕ) (passes : List ℕ → Bool) (attrs : Attrs) → place_by place (number_from passes 0 attrs) ≡ found_place place (first_attr passes attrs)
found_as place passes attrs = ap (place_by place) (number_is passes 0 attrs) ∙ found_by place (first_attr passes attrs)

-- ---- roles

abbrev pub RoleProperties : Source → Item → Role → Properties
RoleProperties s item role = λ place id prop. (id ≡ id_in s role) × IsStranger item role place prop

abbrev ObjectWrongs : Source → Item → ObjectRole → Wrongs
ObjectWrongs s item object = λ place id prop. IsWrongId item object place id prop ⊎ (IsTextInObject s item object place id prop ⊎ IsWrongPart s item object place id prop)

abbrev pub RoleWrongs : Source → Item → Role → Wrongs
RoleWrongs s item elements.Document place id prop = IsTextAt item place × (id ≡ no_id) × (prop ≡ None)
RoleWrongs s item (elements.AnObject object) place id prop = ObjectWrongs s item object place id prop
RoleWrongs s item (elements.AValue o p) place id prop = IsWrongText s item p place × IsOfProperty s o p id prop
RoleWrongs s item (elements.AReference o p target) place id prop = IsTextAt item place × IsOfProperty s o p id prop
RoleWrongs s item (elements.Neither o p) place id prop = (place ≡ item.place) × IsOfProperty s o p id prop
RoleWrongs s item (elements.Misplaced o p) place id prop = (place ≡ item.place) × IsOfProperty s o p id prop
RoleWrongs s item elements.Skipped place id prop = ⊥
RoleWrongs s item elements.Alien place id prop = ⊥
RoleWrongs s item (elements.Stranger o) place id prop = ⊥

abbrev pub RoleFaults : Source → Item → Role → Stands
RoleFaults s item role = OfElement (IsAlien item role) (RoleProperties s item role) (RoleWrongs s item role)

module _ (s : Source) (item : Item) where
  abbrev ids : List (List ℕ)
  ids = file_ids s

  abbrev here : Element
  here = kept item

  value_first : (o p : ℕ) → FirstIn (OfElement NoClass NoProperty (RoleWrongs s item (elements.AValue o p))) (value_fault s.meta ids here o p)
  value_first o p = by (is_nil item.attrs) refl (value_of s.meta (type_of s.meta p) (text_in item.inner)) refl
    where
      by : (n : Bool) → is_nil item.attrs ≡ n → (v : Option Value) → value_of s.meta (type_of s.meta p) (text_in item.inner) ≡ v
          → FirstIn (OfElement NoClass NoProperty (RoleWrongs s item (elements.AValue o p)))
          (if n || not (not (is_some v)) then None else Some (found_at (judging.text_place here) (wrong_of s.meta ids o p)))
      by true h v k =
          of_none NoClass NoProperty (RoleWrongs s item (elements.AValue o p)) (λ at n x. x) (λ at i q x. x) (λ at i q x. true≢false (sym h ∙ x.0.valued))
      by false h (Some v) k =
          of_none NoClass NoProperty (RoleWrongs s item (elements.AValue o p)) (λ at n x. x) (λ at i q x. x) (λ at i q x. none-some v (sym x.0.wrong ∙ k))
      by false h None k =
          let t = text_at_is (inner_place item.place item.attrs) (runs item) in
          one_wrong (judging.text_place here) (printed_id s o) (Some (prop_name s.meta p)) NoClass NoProperty (RoleWrongs s item (elements.AValue o p))
          (record { valued = h; wrong = k; place_is = t }, (refl, refl)) (λ at n x. x) (λ at i q x. x) (λ at i q x. x.0.place_is ∙ sym t)

  id_first : (object : ObjectRole) → FirstIn (OfElement NoClass NoProperty (IsWrongId item object)) (id_fault here object.number)
  id_first object = by (value_where is_id_name item.attrs) refl
    where
      by : (w : Option (List ℕ)) → value_where is_id_name item.attrs ≡ w → FirstIn (OfElement NoClass NoProperty (IsWrongId item object)) (id_fault_by here object.number w)
      by None h = of_none NoClass NoProperty (IsWrongId item object) (λ at n x. x) (λ at i q x. x) (λ at i q x. none-some x.written (sym h ∙ x.found))
      by (Some id) h = judged (is_identifier_text id) refl
        where
          judged : (b : Bool) → is_identifier_text id ≡ b
              → FirstIn (OfElement NoClass NoProperty (IsWrongId item object))
              (if b then None else Some (found_at (place_of is_id_name here) (faults.WrongValue (given_id object.number) None)))
          judged true e =
              of_none NoClass NoProperty (IsWrongId item object) (λ at n x. x) (λ at i q x. x)
              (λ at i q x. true≢false (sym e ∙ ap is_identifier_text (same_Some id x.written (sym h ∙ x.found)) ∙ x.wrong))
          judged false e =
              let t = found_as item.place is_id_name item.attrs in
              one_wrong (place_of is_id_name here) (given_id object.number) None NoClass NoProperty (IsWrongId item object)
              (record { written = id; found = h; wrong = e; place_is = t; id_is = refl; prop_is = refl }) (λ at n x. x) (λ at i q x. x) (λ at i q x. x.place_is ∙ sym t)

  -- whether a class conforms
  conforms_sound : (class : ℕ) (type : Option PropType) → conforms_to s.meta class type ≡ true → ConformsTo s.meta class type
  conforms_sound class (Some (types.Class c)) e = steps_sound s.meta (class_count s.meta) class c.0 e
  conforms_sound class (Some types.Str) e = absurd (true≢false (sym e))
  conforms_sound class (Some types.Int) e = absurd (true≢false (sym e))
  conforms_sound class (Some types.Bool) e = absurd (true≢false (sym e))
  conforms_sound class (Some (types.Enum f)) e = absurd (true≢false (sym e))
  conforms_sound class None e = absurd (true≢false (sym e))

  conforms_not : (class : ℕ) (type : Option PropType) → class < class_count s.meta → conforms_to s.meta class type ≡ false → ¬ ConformsTo s.meta class type
  conforms_not class (Some (types.Class c)) l e = λ h. true≢false (sym (steps_complete s.meta class c.0 l h) ∙ e)
  conforms_not class (Some types.Str) l e = λ h. h
  conforms_not class (Some types.Int) l e = λ h. h
  conforms_not class (Some types.Bool) l e = λ h. h
  conforms_not class (Some (types.Enum f)) l e = λ h. h
  conforms_not class None l e = λ h. h

  part_first : (object : ObjectRole) (class : ℕ) → object.class ≡ Some class → class < class_count s.meta
      → FirstIn (OfElement NoClass NoProperty (IsWrongPart s item object)) (part_fault s.meta ids here class object.within)
  part_first object class is l = by object.within refl
    where
      by : (w : Option (ℕ × ℕ)) → object.within ≡ w → FirstIn (OfElement NoClass NoProperty (IsWrongPart s item object)) (part_fault s.meta ids here class w)
      by None h = of_none NoClass NoProperty (IsWrongPart s item object) (λ at n x. x) (λ at i q x. x) (λ at i q x. none-some (x.container, x.property) (sym h ∙ x.within))
      by (Some w) h = typed (conforms_to s.meta class (type_of s.meta w.1)) refl
        where
          typed : (b : Bool) → conforms_to s.meta class (type_of s.meta w.1) ≡ b
              → FirstIn (OfElement NoClass NoProperty (IsWrongPart s item object)) (if b then None else Some (found_at item.place (wrong_of s.meta ids w.0 w.1)))
          typed true e =
              of_none NoClass NoProperty (IsWrongPart s item object) (λ at n x. x) (λ at i q x. x)
              (λ at i q x.
              let same : w ≡ (x.container, x.property) = same_Some w (x.container, x.property) (sym h ∙ x.within) in
              let c : class ≡ x.class = same_Some class x.class (sym is ∙ x.class_is) in
              x.other (subst (λ (k : ℕ). ConformsTo s.meta k (type_of s.meta x.property)) c
              (subst (λ (v : ℕ × ℕ). ConformsTo s.meta class (type_of s.meta v.1)) same (conforms_sound class (type_of s.meta w.1) e))))
          typed false e =
              one_wrong item.place (printed_id s w.0) (Some (prop_name s.meta w.1)) NoClass NoProperty (IsWrongPart s item object)
              (record {
                container = w.0;
                property = w.1;
                within = h;
                class = class;
                class_is = is;
                other = conforms_not class (type_of s.meta w.1) l e;
                place_is = refl;
                id_is = refl;
                prop_is = refl;
              }) (λ at n x. x) (λ at i q x. x) (λ at i q x. x.place_is)

  -- the faults of an object that its class tells
  abbrev Telling : ObjectRole → Wrongs
  Telling object = λ place id prop. IsTextInObject s item object place id prop ⊎ IsWrongPart s item object place id prop

  by_class : (object : ObjectRole) (class : Option ℕ) → object.class ≡ class → IsWithin s.meta (elements.AnObject object)
      → FirstIn (OfElement (IsAlien item (elements.AnObject object)) NoProperty (Telling object)) (fault_by_class s.meta ids here object class)
  by_class object None is w =
      let t = found_as item.place is_type_name item.attrs in
      one_class (place_of is_type_name here) object.named (IsAlien item (elements.AnObject object)) NoProperty (Telling object)
      (is, t, refl) (λ at n x. x.1 ∙ sym t) (λ at i q x. x) (λ at i q x. nothing at i q x)
    where
      nothing : (at : ℕ) (i : List ℕ) (q : Option (List ℕ)) → Telling object at i q → ⊥
      nothing at i q (inl x) = true≢false (sym x.known ∙ ap (λ (c : Option ℕ). is_some c) is)
      nothing at i q (inr x) = none-some x.class (sym is ∙ x.class_is)
  by_class object (Some class) is w =
      of_as (BothC NoClass NoClass) (IsAlien item (elements.AnObject object)) (BothU NoProperty NoProperty) NoProperty
      (BothW (TextFaults item (printed_id s object.number) None) (IsWrongPart s item object)) (Telling object)
      (first_of (found_if (odd_from None (runs item)) (faults.WrongValue (printed_id s object.number) None)) (part_fault s.meta ids here class object.within))
      (λ at n. (nothing, λ x. absurd (none-some class (sym x.0 ∙ is))))
      (λ at i q. (nothing, λ x. absurd x))
      (λ at i q. (there at i q, back at i q))
      (of_both NoClass NoClass NoProperty NoProperty (TextFaults item (printed_id s object.number) None) (IsWrongPart s item object)
      (found_if (odd_from None (runs item)) (faults.WrongValue (printed_id s object.number) None)) (part_fault s.meta ids here class object.within)
      (text_first item (printed_id s object.number) None)
      (part_first object class is (subst (λ (c : Option ℕ). IfSome c (λ k. k < class_count s.meta)) is w.0)))
    where
      nothing : {X : Type 0} → ⊥ ⊎ ⊥ → X
      nothing (inl x) = absurd x
      nothing (inr x) = absurd x

      there : (at : ℕ) (i : List ℕ) (q : Option (List ℕ)) → TextFaults item (printed_id s object.number) None at i q ⊎ IsWrongPart s item object at i q → Telling object at i q
      there at i q (inl x) = inl (record { known = ap (λ (c : Option ℕ). is_some c) is; text = x.0; id_is = x.1; prop_is = x.2 })
      there at i q (inr x) = inr x

      back : (at : ℕ) (i : List ℕ) (q : Option (List ℕ)) → Telling object at i q → TextFaults item (printed_id s object.number) None at i q ⊎ IsWrongPart s item object at i q
      back at i q (inl x) = inl (x.text, x.id_is, x.prop_is)
      back at i q (inr x) = inr x

  object_first : (object : ObjectRole) → IsWithin s.meta (elements.AnObject object)
      → FirstIn (RoleFaults s item (elements.AnObject object)) (object_fault s.meta ids here object)
  object_first object w =
      of_as (BothC NoClass (IsAlien item (elements.AnObject object))) (IsAlien item (elements.AnObject object))
      (BothU NoProperty NoProperty) (RoleProperties s item (elements.AnObject object))
      (BothW (IsWrongId item object) (Telling object)) (RoleWrongs s item (elements.AnObject object))
      (object_fault s.meta ids here object)
      (λ at n. (class_there at n, λ x. inr x))
      (λ at i q. (nothing, λ x. absurd x.1))
      (λ at i q. (λ x. x, λ x. x))
      (of_both NoClass (IsAlien item (elements.AnObject object)) NoProperty NoProperty (IsWrongId item object) (Telling object)
      (id_fault here object.number) (fault_by_class s.meta ids here object object.class)
      (id_first object) (by_class object object.class refl w))
    where
      nothing : {X : Type 0} → ⊥ ⊎ ⊥ → X
      nothing (inl x) = absurd x
      nothing (inr x) = absurd x

      class_there : (at : ℕ) (n : List ℕ) → ⊥ ⊎ IsAlien item (elements.AnObject object) at n → IsAlien item (elements.AnObject object) at n
      class_there at n (inl x) = absurd x
      class_there at n (inr x) = x

  pub role_first : (role : Role) → IsWithin s.meta role → FirstIn (RoleFaults s item role) (role_fault s.meta ids here role)
  role_first elements.Document w =
      of_as NoClass (IsAlien item elements.Document) NoProperty (RoleProperties s item elements.Document) (TextFaults item no_id None) (RoleWrongs s item elements.Document)
      (role_fault s.meta ids here elements.Document) (λ at n. (λ x. x, λ x. x)) (λ at i q. (λ x. absurd x, λ x. x.1)) (λ at i q. (λ x. x, λ x. x)) (text_first item no_id None)
  role_first (elements.AnObject object) w = object_first object w
  role_first (elements.AValue o p) w =
      of_as NoClass (IsAlien item (elements.AValue o p)) NoProperty (RoleProperties s item (elements.AValue o p)) (RoleWrongs s item (elements.AValue o p)) (RoleWrongs s item (elements.AValue o p))
      (value_fault s.meta ids here o p) (λ at n. (λ x. x, λ x. x)) (λ at i q. (λ x. absurd x, λ x. x.1)) (λ at i q. (λ x. x, λ x. x)) (value_first o p)
  role_first (elements.AReference o p target) w =
      of_as NoClass (IsAlien item (elements.AReference o p target)) NoProperty (RoleProperties s item (elements.AReference o p target))
      (TextFaults item (printed_id s o) (Some (prop_name s.meta p))) (RoleWrongs s item (elements.AReference o p target))
      (role_fault s.meta ids here (elements.AReference o p target)) (λ at n. (λ x. x, λ x. x)) (λ at i q. (λ x. absurd x, λ x. x.1))
      (λ at i q. (λ x. (x.0, (x.1, x.2)), λ x. (x.0, x.1.0, x.1.1))) (text_first item (printed_id s o) (Some (prop_name s.meta p)))
  role_first (elements.Neither o p) w =
      one_wrong item.place (printed_id s o) (Some (prop_name s.meta p)) (IsAlien item (elements.Neither o p)) (RoleProperties s item (elements.Neither o p)) (RoleWrongs s item (elements.Neither o p))
      (refl, (refl, refl)) (λ at n x. x) (λ at i q x. x.1) (λ at i q x. x.0)
  role_first (elements.Misplaced o p) w =
      one_wrong item.place (printed_id s o) (Some (prop_name s.meta p)) (IsAlien item (elements.Misplaced o p)) (RoleProperties s item (elements.Misplaced o p)) (RoleWrongs s item (elements.Misplaced o p))
      (refl, (refl, refl)) (λ at n x. x) (λ at i q x. x.1) (λ at i q x. x.0)
  role_first (elements.Stranger o) w =
      one_property item.place (printed_id s o) item.name (IsAlien item (elements.Stranger o)) (RoleProperties s item (elements.Stranger o)) (RoleWrongs s item (elements.Stranger o))
      (refl, (refl, refl)) (λ at n x. x) (λ at i q x. x.1.0) (λ at i q x. x)
  role_first elements.Alien w =
      one_class item.place item.name (IsAlien item elements.Alien) (RoleProperties s item elements.Alien) (RoleWrongs s item elements.Alien)
      (refl, refl) (λ at n x. x.0) (λ at i q x. x.1) (λ at i q x. x)
  role_first elements.Skipped w =
      of_none (IsAlien item elements.Skipped) (RoleProperties s item elements.Skipped) (RoleWrongs s item elements.Skipped) (λ at n x. x) (λ at i q x. x.1) (λ at i q x. x)
