-- The first fault of an element of a tree, seen by itself.
use Rattle.std.proofs.Common.{◌≡◌, ◌⊎◌, ℕ, zero, suc, ◌+◌, ◌≤◌, Bool, true, false, List, [], ◌∷◌, refl, sym, ◌∙◌, ap, arith, subst, inl, inr, None, Some}
use Rattle.std.specs.Prelude.{not, is_some, slice_get, Option, if◌then◌else◌}
use Rattle.std.specs.Option.{unwrap_or}
use Rattle.std.proofs.lemmas.Bool.{true≢false, cond-false}
use Rattle.std.proofs.lemmas.Option.{slice_get_within}
use Rattle.mof_metamodel.specs.declared.desc.MetaDesc.{MetaDesc}
use Rattle.mof_metamodel.specs.Metamodels.{prop_number, type_of}
use Rattle.object_tables.specs.declared.value.Value.{Value}
use Rattle.object_tables.specs.Models.{is_class_type}
use Rattle.xmi_profile.specs.declared.element.Element.{Element}
use Rattle.model_assembly.specs.declared.fault.ModelFault.{ModelFault}
use Rattle.model_assembly.specs.declared.fault.ModelFault.TheVariants as faults
use Rattle.model_assembly.specs.Attributes.{Attrs}
use Rattle.model_assembly.specs.declared.role.Role.TheVariants as elements
use Rattle.model_assembly.specs.declared.role.Role.{Role}
use Rattle.model_assembly.specs.declared.role.ObjectRole.{ObjectRole}
use Rattle.model_assembly.specs.Elements.{Item, attr_place}
use Rattle.model_assembly.specs.FirstFault.{rank}
use Rattle.model_assembly.specs.Judged.{IsUnknownAttr, IsWrongAttr, id_in}
use Rattle.xmi_profile.specs.Judging.{Found, or_later, id_by, class_by, is_unknown, is_wrong_attr, is_wrong_value, is_no_value, attr_fault, attrs_fault}
use Rattle.model_assembly.specs.Source.{Source, file_ids}
use Rattle.model_assembly.specs.Values.{value_of}
use Rattle.xmi_profile.specs.Firsts.{Before, Stands, FirstIn}
use Rattle.xmi_profile.proofs.FirstLaws.{first_as}
use Rattle.xmi_profile.proofs.SeenLaws.{kept}

-- ---- faults of the three kinds that an element has by itself

abbrev pub Classes : Type 1
Classes = ℕ → List ℕ → Type 0

abbrev pub Properties : Type 1
Properties = ℕ → List ℕ → List ℕ → Type 0

abbrev pub Wrongs : Type 1
Wrongs = ℕ → List ℕ → Option (List ℕ) → Type 0

abbrev pub OfElement : Classes → Properties → Wrongs → Stands
OfElement C U W (faults.UnknownClass name) place = C place name
OfElement C U W (faults.UnknownProperty id prop) place = U place id prop
OfElement C U W (faults.WrongValue id prop) place = W place id prop
OfElement C U W (faults.DuplicateId id) place = ⊥
OfElement C U W (faults.Dangling id prop reference) place = ⊥
OfElement C U W (faults.TwoContainers id) place = ⊥
OfElement C U W (faults.Mismatch id prop other other_prop) place = ⊥
OfElement C U W (faults.Invalid breach id) place = ⊥
OfElement C U W (faults.Limit kind) place = ⊥

-- ---- attributes

-- what an attribute may be told as
abbrev unknown_as : List (List ℕ) → Element → List ℕ × List ℕ → ModelFault
unknown_as ids e a = faults.UnknownProperty (id_by ids e.role) a.0

abbrev wrong_as : List (List ℕ) → Element → List ℕ × List ℕ → ModelFault
wrong_as ids e a = faults.WrongValue (id_by ids e.role) (Some a.0)

abbrev OfAttr : MetaDesc → List (List ℕ) → Element → List ℕ × List ℕ → ModelFault → Type 0
OfAttr meta ids e a g =
    ((is_unknown meta e a.0 ≡ true) × (g ≡ unknown_as ids e a)) ⊎ ((is_wrong_attr meta (class_by e.role) a.0 a.1 ≡ true) × (g ≡ wrong_as ids e a))

abbrev FirstOf : MetaDesc → List (List ℕ) → Element → List ℕ × List ℕ → Option ModelFault → Type 0
FirstOf meta ids e a None = (g : ModelFault) → ¬ OfAttr meta ids e a g
FirstOf meta ids e a (Some f) = OfAttr meta ids e a f × ((g : ModelFault) → OfAttr meta ids e a g → rank f ≤ rank g)

rank_same : (f g : ModelFault) → g ≡ f → rank f ≤ rank g
rank_same f g e = let r : rank g ≡ rank f = ap rank e in omega (arith, r)

rank_as : (n : ℕ) (f g : ModelFault) → rank f ≡ n → g ≡ f → n ≤ rank g
rank_as n f g r e = let h : rank g ≡ rank f = ap rank e in omega (arith, h, r)

attr_first : (meta : MetaDesc) (ids : List (List ℕ)) (e : Element) (a : List ℕ × List ℕ) → FirstOf meta ids e a (attr_fault meta ids e a)
attr_first meta ids e a = by (is_unknown meta e a.0) refl (is_wrong_attr meta (class_by e.role) a.0 a.1) refl
  where
    by : (u : Bool) → is_unknown meta e a.0 ≡ u → (w : Bool) → is_wrong_attr meta (class_by e.role) a.0 a.1 ≡ w
        → FirstOf meta ids e a (if u then Some (unknown_as ids e a) else if w then Some (wrong_as ids e a) else None)
    by true h w k = (inl (h, refl), least)
      where
        least : (g : ModelFault) → OfAttr meta ids e a g → 3 ≤ rank g
        least g (inl x) = rank_as 3 (unknown_as ids e a) g refl x.1
        least g (inr x) = let r : 4 ≤ rank g = rank_as 4 (wrong_as ids e a) g refl x.1 in omega (arith, r)
    by false h true k = (inr (k, refl), least)
      where
        least : (g : ModelFault) → OfAttr meta ids e a g → 4 ≤ rank g
        least g (inl x) = absurd (true≢false (sym x.0 ∙ h))
        least g (inr x) = rank_as 4 (wrong_as ids e a) g refl x.1
    by false h false k = none
      where
        none : (g : ModelFault) → OfAttr meta ids e a g → ⊥
        none g (inl x) = true≢false (sym x.0 ∙ h)
        none g (inr x) = true≢false (sym x.0 ∙ k)

-- the faults of attributes, of which the first has this number
pub record OfAttrs (meta : MetaDesc) (ids : List (List ℕ)) (e : Element) (number : ℕ) (attrs : Attrs) (g : ModelFault) (place : ℕ) : Type 0 where
  pub k : ℕ
  pub attr : List ℕ × List ℕ
  pub there : slice_get attrs k ≡ Some attr
  pub of_attr : OfAttr meta ids e attr g
  pub place_is : place ≡ suc (e.place + (number + k))

later_attrs : (meta : MetaDesc) (ids : List (List ℕ)) (e : Element) (number : ℕ) (a : List ℕ × List ℕ) (attrs : Attrs) (g : ModelFault) (place : ℕ)
    → OfAttrs meta ids e (suc number) attrs g place → OfAttrs meta ids e number (a ∷ attrs) g place
later_attrs meta ids e number a attrs g place x =
    let p = x.place_is in record { k = suc x.k; attr = x.attr; there = x.there; of_attr = x.of_attr; place_is = omega (arith, p) }

same_attr : (a b : List ℕ × List ℕ) → Some a ≡ Some b → a ≡ b
same_attr a b e = ap (λ (o : Option (List ℕ × List ℕ)). unwrap_or o a) e

abbrev AtHead : MetaDesc → List (List ℕ) → Element → ℕ → List ℕ × List ℕ → Attrs → ModelFault → ℕ → Type 0
AtHead meta ids e number a attrs g place = (OfAttr meta ids e a g × (place ≡ suc (e.place + number))) ⊎ OfAttrs meta ids e (suc number) attrs g place

at_head : (meta : MetaDesc) (ids : List (List ℕ)) (e : Element) (number : ℕ) (a : List ℕ × List ℕ) (attrs : Attrs) (g : ModelFault) (place : ℕ)
    → OfAttrs meta ids e number (a ∷ attrs) g place → AtHead meta ids e number a attrs g place
at_head meta ids e number a attrs g place x = by x.k x.attr x.there x.of_attr x.place_is
  where
    by : (k : ℕ) (b : List ℕ × List ℕ) → slice_get (a ∷ attrs) k ≡ Some b → OfAttr meta ids e b g → place ≡ suc (e.place + (number + k)) → AtHead meta ids e number a attrs g place
    by zero b h o p = inl (subst (λ (c : List ℕ × List ℕ). OfAttr meta ids e c g) (sym (same_attr a b h)) o, omega (arith, p))
    by (suc k) b h o p = inr (record { k = k; attr = b; there = h; of_attr = o; place_is = omega (arith, p) })

pub attrs_first : (meta : MetaDesc) (ids : List (List ℕ)) (e : Element) (number : ℕ) (attrs : Attrs) → FirstIn (OfAttrs meta ids e number attrs) (attrs_fault meta ids e number attrs)
attrs_first meta ids e number [] = λ g place x. nowhere x.k x.attr x.there
  where
    nowhere : (k : ℕ) (a : List ℕ × List ℕ) → slice_get [] k ≡ Some a → ⊥
    nowhere k a h = let l = slice_get_within [] k a h in omega (arith, l)
attrs_first meta ids e number (a ∷ attrs) = by (attr_fault meta ids e a) (attr_first meta ids e a) (attrs_fault meta ids e (suc number) attrs) (attrs_first meta ids e (suc number) attrs)
  where
    by : (o : Option ModelFault) → FirstOf meta ids e a o → (later : Option Found) → FirstIn (OfAttrs meta ids e (suc number) attrs) later
        → FirstIn (OfAttrs meta ids e number (a ∷ attrs)) (or_later (attr_place e.place number) o later)
    by None n later h = first_as (OfAttrs meta ids e (suc number) attrs) (OfAttrs meta ids e number (a ∷ attrs)) (later_attrs meta ids e number a attrs) back later h
      where
        behind : (g : ModelFault) (place : ℕ) → AtHead meta ids e number a attrs g place → OfAttrs meta ids e (suc number) attrs g place
        behind g place (inl x) = absurd (n g x.0)
        behind g place (inr x) = x

        back : (g : ModelFault) (place : ℕ) → OfAttrs meta ids e number (a ∷ attrs) g place → OfAttrs meta ids e (suc number) attrs g place
        back g place x = behind g place (at_head meta ids e number a attrs g place x)
    by (Some f) n later h = record {
      stands = record { k = 0; attr = a; there = refl; of_attr = n.0; place_is = omega arith };
      first = λ g place x. before g place (at_head meta ids e number a attrs g place x);
    }
      where
        before : (g : ModelFault) (place : ℕ) → AtHead meta ids e number a attrs g place → Before (attr_place e.place number) (rank f) place (rank g)
        before g place (inl x) = let p = x.1 in inr (omega (arith, p), n.1 g x.0)
        before g place (inr x) = let p = x.place_is in inl (omega (arith, p))

-- ---- attributes of an element of a tree

abbrev pub IsWrongAttrOf : Source → Item → Role → Wrongs
IsWrongAttrOf s item (elements.AnObject object) place id prop = IsWrongAttr s item object place id prop
IsWrongAttrOf s item elements.Document place id prop = ⊥
IsWrongAttrOf s item elements.Skipped place id prop = ⊥
IsWrongAttrOf s item (elements.AValue o p) place id prop = ⊥
IsWrongAttrOf s item (elements.AReference o p target) place id prop = ⊥
IsWrongAttrOf s item (elements.Neither o p) place id prop = ⊥
IsWrongAttrOf s item elements.Alien place id prop = ⊥
IsWrongAttrOf s item (elements.Stranger o) place id prop = ⊥
IsWrongAttrOf s item (elements.Misplaced o p) place id prop = ⊥

abbrev pub NoClass : Classes
NoClass place name = ⊥

abbrev pub UnknownAttrs : Source → Item → Role → Properties
UnknownAttrs s item role place id prop = (id ≡ id_in s role) × IsUnknownAttr s item place prop

abbrev pub AttrFaults : Source → Item → Role → Stands
AttrFaults s item role = OfElement NoClass (UnknownAttrs s item role) (IsWrongAttrOf s item role)

pub id_same : (s : Source) (role : Role) → id_by (file_ids s) role ≡ id_in s role
id_same s elements.Document = refl
id_same s elements.Skipped = refl
id_same s (elements.AnObject object) = refl
id_same s (elements.AValue o p) = refl
id_same s (elements.AReference o p target) = refl
id_same s (elements.Neither o p) = refl
id_same s elements.Alien = refl
id_same s (elements.Stranger o) = refl
id_same s (elements.Misplaced o p) = refl

-- a wrong attribute is one of an object
pub record IsWrongIn (meta : MetaDesc) (class : Option ℕ) (name text : List ℕ) : Type 0 where
  pub c : ℕ
  pub class_is : class ≡ Some c
  pub property : ℕ
  pub property_is : prop_number meta c name ≡ Some property
  pub attribute : is_class_type (type_of meta property) ≡ false
  pub wrong : value_of meta (type_of meta property) text ≡ None

no_class : (c : ℕ) → None ≡ Some c → ⊥
no_class c e = cc

not_some : {X : Type 0} (o : Option X) → not (is_some o) ≡ true → o ≡ None
not_some None e = refl
not_some (Some x) e = absurd (true≢false (sym e))

wrong_in : (meta : MetaDesc) (class : Option ℕ) (name text : List ℕ) → is_wrong_attr meta class name text ≡ true → IsWrongIn meta class name text
wrong_in meta None name text e = absurd (true≢false (sym e))
wrong_in meta (Some c) name text e = by (prop_number meta c name) refl e
  where
    by : (p : Option ℕ) → prop_number meta c name ≡ p → is_wrong_value meta text p ≡ true → IsWrongIn meta (Some c) name text
    by None h k = absurd (true≢false (sym k))
    by (Some p) h k = of_type (is_class_type (type_of meta p)) refl k
      where
        of_type : (b : Bool) → is_class_type (type_of meta p) ≡ b → (if b then false else is_no_value meta (type_of meta p) text) ≡ true → IsWrongIn meta (Some c) name text
        of_type true i j = absurd (true≢false (sym j))
        of_type false i j = record { c = c; class_is = refl; property = p; property_is = h; attribute = i; wrong = not_some (value_of meta (type_of meta p) text) j }

in_wrong : (meta : MetaDesc) (class : Option ℕ) (name text : List ℕ) → IsWrongIn meta class name text → is_wrong_attr meta class name text ≡ true
in_wrong meta class name text w =
    ap (λ (c : Option ℕ). is_wrong_attr meta c name text) w.class_is
    ∙ ap (is_wrong_value meta text) w.property_is
    ∙ cond-false (is_class_type (type_of meta w.property)) false (is_no_value meta (type_of meta w.property) text) w.attribute
    ∙ ap (λ (o : Option Value). not (is_some o)) w.wrong

-- the faults of attributes are those of the element's list
module _ (s : Source) (item : Item) where
  abbrev ids : List (List ℕ)
  ids = file_ids s

  told_wrong : (role : Role) (k place : ℕ) (name text : List ℕ) → slice_get item.attrs k ≡ Some (name, text) → place ≡ attr_place item.place k
      → IsWrongIn s.meta (class_by role) name text → IsWrongAttrOf s item role place (id_in s role) (Some name)
  told_wrong (elements.AnObject object) k place name text h p w = record {
    class = w.c;
    class_is = w.class_is;
    name = name;
    text = text;
    attr = (k, h, p);
    property = w.property;
    property_is = w.property_is;
    attribute = w.attribute;
    wrong = w.wrong;
    id_is = refl;
    prop_is = refl;
  }
  told_wrong elements.Document k place name text h p w = absurd (no_class w.c w.class_is)
  told_wrong elements.Skipped k place name text h p w = absurd (no_class w.c w.class_is)
  told_wrong (elements.AValue o q) k place name text h p w = absurd (no_class w.c w.class_is)
  told_wrong (elements.AReference o q target) k place name text h p w = absurd (no_class w.c w.class_is)
  told_wrong (elements.Neither o q) k place name text h p w = absurd (no_class w.c w.class_is)
  told_wrong elements.Alien k place name text h p w = absurd (no_class w.c w.class_is)
  told_wrong (elements.Stranger o) k place name text h p w = absurd (no_class w.c w.class_is)
  told_wrong (elements.Misplaced o q) k place name text h p w = absurd (no_class w.c w.class_is)

  abbrev here : Element
  here = kept item

  told : (g : ModelFault) (place : ℕ) → OfAttrs s.meta ids here 0 item.attrs g place → AttrFaults s item item.role g place
  told g place x = by x.of_attr
    where
      at : place ≡ attr_place item.place x.k
      at = let p = x.place_is in omega (arith, p)

      by : OfAttr s.meta ids here x.attr g → AttrFaults s item item.role g place
      by (inl u) = subst (λ (f : ModelFault). AttrFaults s item item.role f place) (sym u.1) (id_same s item.role, (x.attr.1, (x.k, x.there, at), u.0))
      by (inr w) =
          subst (λ (f : ModelFault). AttrFaults s item item.role f place) (sym w.1)
          (subst (λ (id : List ℕ). IsWrongAttrOf s item item.role place id (Some x.attr.0)) (sym (id_same s item.role))
          (told_wrong item.role x.k place x.attr.0 x.attr.1 x.there at (wrong_in s.meta (class_by item.role) x.attr.0 x.attr.1 w.0)))

  -- a wrong attribute by its number
  record IsWrongAt (role : Role) (place : ℕ) (id : List ℕ) (prop : Option (List ℕ)) : Type 0 where
    pub k : ℕ
    pub name : List ℕ
    pub text : List ℕ
    pub there : slice_get item.attrs k ≡ Some (name, text)
    pub place_is : place ≡ attr_place item.place k
    pub wrong : IsWrongIn s.meta (class_by role) name text
    pub id_is : id ≡ id_in s role
    pub prop_is : prop ≡ Some name

  wrong_at : (role : Role) (place : ℕ) (id : List ℕ) (prop : Option (List ℕ)) → IsWrongAttrOf s item role place id prop → IsWrongAt role place id prop
  wrong_at (elements.AnObject object) place id prop x = record {
    k = x.attr.0;
    name = x.name;
    text = x.text;
    there = x.attr.1;
    place_is = x.attr.2;
    wrong = record { c = x.class; class_is = x.class_is; property = x.property; property_is = x.property_is; attribute = x.attribute; wrong = x.wrong };
    id_is = x.id_is;
    prop_is = x.prop_is;
  }
  wrong_at elements.Document place id prop x = absurd x
  wrong_at elements.Skipped place id prop x = absurd x
  wrong_at (elements.AValue o q) place id prop x = absurd x
  wrong_at (elements.AReference o q target) place id prop x = absurd x
  wrong_at (elements.Neither o q) place id prop x = absurd x
  wrong_at elements.Alien place id prop x = absurd x
  wrong_at (elements.Stranger o) place id prop x = absurd x
  wrong_at (elements.Misplaced o q) place id prop x = absurd x

  back : (g : ModelFault) (place : ℕ) → AttrFaults s item item.role g place → OfAttrs s.meta ids here 0 item.attrs g place
  back (faults.UnknownProperty id prop) place x =
      let at = x.1.1 in
      let p = at.2 in
      record {
        k = at.0;
        attr = (prop, x.1.0);
        there = at.1;
        of_attr = inl (x.1.2, ap (λ (i : List ℕ). faults.UnknownProperty i prop) (x.0 ∙ sym (id_same s item.role)));
        place_is = omega (arith, p);
      }
  back (faults.WrongValue id prop) place x =
      let w = wrong_at item.role place id prop x in
      let p = w.place_is in
      record {
        k = w.k;
        attr = (w.name, w.text);
        there = w.there;
        of_attr = inr (
          in_wrong s.meta (class_by item.role) w.name w.text w.wrong,
          ap (λ (i : List ℕ). faults.WrongValue i prop) (w.id_is ∙ sym (id_same s item.role)) ∙ ap (λ (o : Option (List ℕ)). faults.WrongValue (id_by ids item.role) o) w.prop_is,
        );
        place_is = omega (arith, p);
      }
  back (faults.UnknownClass name) place x = absurd x
  back (faults.DuplicateId id) place x = absurd x
  back (faults.Dangling id prop reference) place x = absurd x
  back (faults.TwoContainers id) place x = absurd x
  back (faults.Mismatch id prop other other_prop) place x = absurd x
  back (faults.Invalid breach id) place x = absurd x
  back (faults.Limit kind) place x = absurd x

  pub attributes_first : FirstIn (AttrFaults s item item.role) (attrs_fault s.meta ids here 0 item.attrs)
  attributes_first =
      first_as (OfAttrs s.meta ids here 0 item.attrs) (AttrFaults s item item.role) told back (attrs_fault s.meta ids here 0 item.attrs)
      (attrs_first s.meta ids here 0 item.attrs)
