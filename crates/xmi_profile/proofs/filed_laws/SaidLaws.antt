-- The entries at a property of an object are what the elements of a tree write there.
use Rattle.std.proofs.Common.{◌≡◌, ℕ, zero, suc, ◌+◌, ◌<◌, Bool, true, false, List, [], ◌∷◌, ◌++◌, refl, sym, ◌∙◌, ap, arith, append_assoc, append-nil, None, Some}
use Rattle.std.specs.Prelude.{◌==◌, ◌||◌, ◌&&◌, not, nat_eq, is_some, filter_map, slice_get, Option, if◌then◌else◌}
use Rattle.std.specs.Option.{option_map, unwrap_or}
use Rattle.std.proofs.lemmas.Bool.{eqb-true, eq-eqb, ne_eqb}
use Rattle.std.proofs.lemmas.List.Elements.{filter_map-append}
use Rattle.mof_metamodel.specs.declared.desc.MetaDesc.{MetaDesc}
use Rattle.mof_metamodel.specs.Metamodels.{prop_number, props_of}
use Rattle.xmi_profile.specs.declared.element.Element.{Element}
use Rattle.model_assembly.specs.Attributes.{Attrs, later, first_attr, value_where, is_nil}
use Rattle.model_assembly.specs.declared.role.Role.{Role}
use Rattle.model_assembly.specs.declared.role.ObjectRole.{ObjectRole}
use Rattle.model_assembly.specs.declared.role.Role.TheVariants.{Document, Skipped, AnObject, AValue, AReference, Neither, Alien, Stranger, Misplaced}
use Rattle.model_assembly.specs.Elements.{Item, object_of, object_items}
use Rattle.xmi_profile.specs.Filing.{is_met, met_with, is_name_prop}
use Rattle.model_assembly.specs.declared.target.Target.{Target}
use Rattle.model_assembly.specs.declared.target.Target.TheVariants.{Contained}
use Rattle.model_assembly.specs.Source.{class_in, is_number, attr_in, attr_of, listed, is_at, is_value_at, element_text, target_if, part_target, element_target_at, targets_of}
use Rattle.xmi_profile.proofs.filed_laws.EntryLaws.{Said, OfAttr, OfInner, OfTarget, Entry, entry, attr_entries_if, attr_entry, attr_entries, own_entries_by, own_entries_of, own_entries, all_attr_entries, part_entries, role_entries, element_entries, name_entries_if, name_entries, added_entries, said_if, said_at, said-append, all_texts, all_targets, has_attr, said_texts, said_targets, is_attr}
use Rattle.xmi_profile.proofs.filed_laws.MetLaws.{met_push, equal_swap}
use Rattle.model_assembly.proofs.PlaceLaws.{IsNumbered, AreNumberedFrom}
use Rattle.xmi_profile.proofs.SeenLaws.{kept}
use Rattle.mof_metamodel.proofs.Facts.{or_false}
use Rattle.std.proofs.lemmas.Option.{none-some}

-- ---- joined

abbrev Saids : Type 0
Saids = List Said

pub texts-append : (xs ys : Saids) → all_texts (xs ++ ys) ≡ all_texts xs ++ all_texts ys
texts-append [] ys = refl
texts-append (x ∷ xs) ys = ap (λ ts. said_texts x ++ ts) (texts-append xs ys) ∙ sym (append_assoc (said_texts x) (all_texts xs) (all_texts ys))

pub targets-append : (xs ys : Saids) → all_targets (xs ++ ys) ≡ all_targets xs ++ all_targets ys
targets-append [] ys = refl
targets-append (x ∷ xs) ys = ap (λ ts. said_targets x ++ ts) (targets-append xs ys) ∙ sym (append_assoc (said_targets x) (all_targets xs) (all_targets ys))

or_assoc : (x y z : Bool) → ((x || y) || z) ≡ (x || (y || z))
or_assoc true y z = refl
or_assoc false y z = refl

pub attr-append : (xs ys : Saids) → has_attr (xs ++ ys) ≡ (has_attr xs || has_attr ys)
attr-append [] ys = refl
attr-append (x ∷ xs) ys = ap (λ b. is_attr x || b) (attr-append xs ys) ∙ sym (or_assoc (is_attr x) (has_attr xs) (has_attr ys))

-- ---- attributes of one object

abbrev pub attr_said : Option (List ℕ) → Saids
attr_said None = []
attr_said (Some text) = OfAttr text ∷ []

pub attr_texts : (text : Option (List ℕ)) → all_texts (attr_said text) ≡ listed text
attr_texts None = refl
attr_texts (Some text) = refl

pub attr_targets : (text : Option (List ℕ)) → all_targets (attr_said text) ≡ targets_of text
attr_targets None = refl
attr_targets (Some text) = append-nil (targets_of (Some text))

pub attr_is : (text : Option (List ℕ)) → has_attr (attr_said text) ≡ is_some text
attr_is None = refl
attr_is (Some text) = refl

value_behind : (found : Option (ℕ × List ℕ)) → option_map (λ (f : ℕ × List ℕ). f.1) (option_map later found) ≡ option_map (λ (f : ℕ × List ℕ). f.1) found
value_behind None = refl
value_behind (Some f) = refl

value_cons : (passes : List ℕ → Bool) (a : List ℕ × List ℕ) (attrs : Attrs) (b : Bool) → passes a.0 ≡ b
    → value_where passes (a ∷ attrs) ≡ (if b then Some a.1 else value_where passes attrs)
value_cons passes a attrs b e =
    ap (λ (c : Bool). option_map (λ (f : ℕ × List ℕ). f.1) (if c then Some (0, a.1) else option_map later (first_attr passes attrs))) e ∙ by b
  where
    by : (c : Bool) → option_map (λ (f : ℕ × List ℕ). f.1) (if c then Some (0, a.1) else option_map later (first_attr passes attrs)) ≡ (if c then Some a.1 else value_where passes attrs)
    by true = refl
    by false = value_behind (first_attr passes attrs)

module _ (meta : MetaDesc) (o p : ℕ) where
  entry_other : (object : ℕ) (met text : List ℕ) (q : Option ℕ) → (object == o) ≡ false → said_at o p (attr_entry object met text q) ≡ []
  entry_other object met text None e = refl
  entry_other object met text (Some r) e = by (is_met met r)
    where
      by : (b : Bool) → said_at o p (attr_entries_if b object r text) ≡ []
      by true = refl
      by false = ap (λ (c : Bool). said_if (c && (r == p)) (OfAttr text) []) e

  attrs_other : (object c : ℕ) (met : List ℕ) (attrs : Attrs) → (object == o) ≡ false → said_at o p (attr_entries meta object c met attrs) ≡ []
  attrs_other object c met [] e = refl
  attrs_other object c met (a ∷ attrs) e =
      let q : Option ℕ = prop_number meta c a.0 in
      said-append o p (attr_entry object met a.1 q) (attr_entries meta object c (met_with met q) attrs)
      ∙ ap (λ (ss : Saids). ss ++ said_at o p (attr_entries meta object c (met_with met q) attrs)) (entry_other object met a.1 q e)
      ∙ attrs_other object c (met_with met q) attrs e

  same_at : (r : ℕ) → (r == p) ≡ true → is_at o p o r ≡ true
  same_at r e = ap (λ (b : Bool). b && (r == p)) (eq-eqb o o refl) ∙ e

  other_at : (object r : ℕ) → (r == p) ≡ false → is_at o p object r ≡ false
  other_at object r e = by (object == o)
    where
      by : (b : Bool) → (b && (r == p)) ≡ false
      by true = e
      by false = refl

  module _ (c : ℕ) where
    abbrev passes : List ℕ → Bool
    passes name = is_number (prop_number meta c name) p

    abbrev unless_met : Bool → Option (List ℕ) → Saids
    unless_met met text = if met then [] else attr_said text

    abbrev Told : Attrs → Type 0
    Told attrs = (met : List ℕ) → said_at o p (attr_entries meta o c met attrs) ≡ unless_met (is_met met p) (value_where passes attrs)

    module _ (a : List ℕ × List ℕ) (attrs : Attrs) (told : Told attrs) (met : List ℕ) where
      abbrev rest : List ℕ → List Entry
      rest known = attr_entries meta o c known attrs

      passed : (b : Bool) → passes a.0 ≡ b → unless_met (is_met met p) (if b then Some a.1 else value_where passes attrs) ≡ unless_met (is_met met p) (value_where passes (a ∷ attrs))
      passed b e = ap (unless_met (is_met met p)) (sym (value_cons passes a attrs b e))

      known_same : (r : ℕ) (b : Bool) → (r == p) ≡ true → is_met met r ≡ b → is_met met p ≡ b
      known_same r b e m = ap (is_met met) (sym (eqb-true r p e)) ∙ m

      -- a property that was met
      met_again : (r : ℕ) (k : Bool) → (r == p) ≡ k → prop_number meta c a.0 ≡ Some r → is_met met r ≡ true
          → said_at o p (rest met) ≡ unless_met (is_met met p) (value_where passes (a ∷ attrs))
      met_again r true e h m =
          told met ∙ ap (λ (b : Bool). unless_met b (value_where passes attrs)) (known_same r true e m)
          ∙ sym (ap (λ (b : Bool). unless_met b (value_where passes (a ∷ attrs))) (known_same r true e m))
      met_again r false e h m = told met ∙ passed false (ap (λ (q : Option ℕ). is_number q p) h ∙ e)

      -- a new one
      met_first : (r : ℕ) (k : Bool) → (r == p) ≡ k → prop_number meta c a.0 ≡ Some r → is_met met r ≡ false
          → said_at o p (entry o r (OfAttr a.1) ∷ rest (met ++ r ∷ [])) ≡ unless_met (is_met met p) (value_where passes (a ∷ attrs))
      met_first r true e h m =
          ap (λ (b : Bool). said_if b (OfAttr a.1) (said_at o p (rest (met ++ r ∷ [])))) (same_at r e)
          ∙ ap (λ (ss : Saids). OfAttr a.1 ∷ ss) (told (met ++ r ∷ []) ∙ ap (λ (b : Bool). unless_met b (value_where passes attrs)) there)
          ∙ sym (ap (λ (b : Bool). unless_met b (Some a.1)) (known_same r false e m))
          ∙ passed true (ap (λ (q : Option ℕ). is_number q p) h ∙ e)
        where
          there : is_met (met ++ r ∷ []) p ≡ true
          there = met_push met r p ∙ ap (λ (b : Bool). b || nat_eq p r) (known_same r false e m) ∙ equal_swap p r ∙ e
      met_first r false e h m =
          ap (λ (b : Bool). said_if b (OfAttr a.1) (said_at o p (rest (met ++ r ∷ [])))) (other_at o r e)
          ∙ told (met ++ r ∷ []) ∙ ap (λ (b : Bool). unless_met b (value_where passes attrs)) same
          ∙ passed false (ap (λ (q : Option ℕ). is_number q p) h ∙ e)
        where
          same : is_met (met ++ r ∷ []) p ≡ is_met met p
          same = met_push met r p ∙ ap (λ (b : Bool). is_met met p || b) (equal_swap p r ∙ e) ∙ or_false (is_met met p)

      met_on : (q : Option ℕ) → prop_number meta c a.0 ≡ q
          → said_at o p (attr_entry o met a.1 q ++ rest (met_with met q)) ≡ unless_met (is_met met p) (value_where passes (a ∷ attrs))
      met_on None h = told met ∙ passed false (ap (λ (q : Option ℕ). is_number q p) h)
      met_on (Some r) h = by (is_met met r) refl
        where
          by : (b : Bool) → is_met met r ≡ b
              → said_at o p (attr_entries_if b o r a.1 ++ rest (if b then met else met ++ r ∷ [])) ≡ unless_met (is_met met p) (value_where passes (a ∷ attrs))
          by true m = met_again r (r == p) refl h m
          by false m = met_first r (r == p) refl h m

    attrs_same : (attrs : Attrs) → Told attrs
    attrs_same [] met = by (is_met met p)
      where
        by : (b : Bool) → [] ≡ unless_met b None
        by true = refl
        by false = refl
    attrs_same (a ∷ attrs) met = met_on a attrs (attrs_same attrs) met (prop_number meta c a.0) refl

  -- ---- attributes of all objects

  own_other : (object : ℕ) (attrs : Attrs) (class : Option ℕ) → (object == o) ≡ false → said_at o p (own_entries_by meta object attrs class) ≡ []
  own_other object attrs None e = refl
  own_other object attrs (Some c) e = attrs_other object c [] attrs e

  own_same : (attrs : Attrs) (class : Option ℕ) → said_at o p (own_entries_by meta o attrs class) ≡ attr_said (attr_in meta class p attrs)
  own_same attrs None = refl
  own_same attrs (Some c) = attrs_same c attrs []

  joined_none : (item : Item) (items : List Item) (ss : Saids) → said_at o p (own_entries meta item.attrs item.role) ≡ [] → said_at o p (all_attr_entries meta items) ≡ ss
      → said_at o p (all_attr_entries meta (item ∷ items)) ≡ ss
  joined_none item items ss e f =
      said-append o p (own_entries meta item.attrs item.role) (all_attr_entries meta items)
      ∙ ap (λ (rs : Saids). rs ++ said_at o p (all_attr_entries meta items)) e ∙ f

  attrs_before : (k : ℕ) (items : List Item) → AreNumberedFrom k items → o < k → said_at o p (all_attr_entries meta items) ≡ []
  attrs_before k [] a l = refl
  attrs_before k (item ∷ items) a l = by (object_of item.role) refl a.0 a.1 (λ m b i. attrs_before m items b i)
    where
      by : (role : Option ObjectRole) → object_of item.role ≡ role → IsNumbered k role → AreNumberedFrom (if is_some role then suc k else k) items
          → ((m : ℕ) → AreNumberedFrom m items → o < m → said_at o p (all_attr_entries meta items) ≡ [])
          → said_at o p (all_attr_entries meta (item ∷ items)) ≡ []
      by None h n b rest = joined_none item items [] (ap (λ (r : Option ObjectRole). said_at o p (own_entries_of meta item.attrs r)) h) (rest k b l)
      by (Some object) h n b rest =
          joined_none item items []
          (ap (λ (r : Option ObjectRole). said_at o p (own_entries_of meta item.attrs r)) h
          ∙ own_other object.number item.attrs object.class (ne_eqb object.number o (λ e. omega (arith, e, n, l))))
          (rest (suc k) b (omega (arith, l)))

  abbrev text_of : Option Item → Option (List ℕ)
  text_of item = attr_of meta p item

  -- the objects of elements, the first of which is this one or is none
  module _ (item : Item) (items : List Item) where
    abbrev listed_if : Bool → List Item
    listed_if b = if b then item ∷ object_items items else object_items items

    there : (role : Option ObjectRole) (i : ℕ) → object_of item.role ≡ role → attr_said (text_of (slice_get (listed_if (is_some role)) i)) ≡ attr_said (text_of (slice_get (object_items (item ∷ items)) i))
    there role i h = ap (λ (r : Option ObjectRole). attr_said (text_of (slice_get (listed_if (is_some r)) i))) (sym h)

    own : (role : Option ObjectRole) → object_of item.role ≡ role → said_at o p (own_entries meta item.attrs item.role) ≡ said_at o p (own_entries_of meta item.attrs role)
    own role h = ap (λ (r : Option ObjectRole). said_at o p (own_entries_of meta item.attrs r)) h

    abbrev Rest : ℕ → ℕ → Type 0
    Rest k i = said_at o p (all_attr_entries meta items) ≡ attr_said (text_of (slice_get (object_items items) i))

    at_object : (k : ℕ) (object : ObjectRole) (i : ℕ) → object_of item.role ≡ Some object → object.number ≡ k → AreNumberedFrom (suc k) items → o ≡ k + i
        → ((j : ℕ) → o ≡ suc k + j → Rest (suc k) j)
        → said_at o p (all_attr_entries meta (item ∷ items)) ≡ attr_said (text_of (slice_get (item ∷ object_items items) i))
    at_object k object zero h n b f rest =
        let same : object.number ≡ o = omega (arith, n, f) in
        said-append o p (own_entries meta item.attrs item.role) (all_attr_entries meta items)
        ∙ ap (λ (ss : Saids). said_at o p (own_entries meta item.attrs item.role) ++ ss) (attrs_before (suc k) items b (omega (arith, f)))
        ∙ append-nil (said_at o p (own_entries meta item.attrs item.role))
        ∙ own (Some object) h
        ∙ ap (λ (m : ℕ). said_at o p (own_entries_by meta m item.attrs object.class)) same
        ∙ own_same item.attrs object.class
        ∙ ap (λ (r : Option ObjectRole). attr_said (attr_in meta (class_in r) p item.attrs)) (sym h)
    at_object k object (suc i) h n b f rest =
        joined_none item items (attr_said (text_of (slice_get (object_items items) i)))
        (own (Some object) h ∙ own_other object.number item.attrs object.class (ne_eqb object.number o (λ g. omega (arith, g, n, f))))
        (rest i (omega (arith, f)))

    at_role : (k j : ℕ) (role : Option ObjectRole) → object_of item.role ≡ role → IsNumbered k role → AreNumberedFrom (if is_some role then suc k else k) items → o ≡ k + j
        → ((m i : ℕ) → AreNumberedFrom m items → o ≡ m + i → Rest m i)
        → said_at o p (all_attr_entries meta (item ∷ items)) ≡ attr_said (text_of (slice_get (object_items (item ∷ items)) j))
    at_role k j None h n b e rest = joined_none item items (attr_said (text_of (slice_get (object_items items) j))) (own None h) (rest k j b e) ∙ there None j h
    at_role k j (Some object) h n b e rest = at_object k object j h n b e (λ i f. rest (suc k) i b f) ∙ there (Some object) j h

  pub attrs_at : (k j : ℕ) (items : List Item) → AreNumberedFrom k items → o ≡ k + j → said_at o p (all_attr_entries meta items) ≡ attr_said (text_of (slice_get (object_items items) j))
  attrs_at k j [] a e = refl
  attrs_at k j (item ∷ items) a e = at_role item items k j (object_of item.role) refl a.0 a.1 e (λ m i b f. attrs_at m i items b f)

-- ---- elements

module _ (o p : ℕ) where
  abbrev texts_if : Option (List ℕ) → List (List ℕ)
  texts_if text = filter_map (λ (t : Option (List ℕ)). t) (text ∷ [])

  abbrev targets_if : Option Target → List Target
  targets_if target = filter_map (λ (t : Option Target). t) (target ∷ [])

  said_nil : (object property : ℕ) (e : Element) (nil : Bool)
      → said_at o p (if nil then [] else entry object property (OfInner e.text) ∷ []) ≡ (if nil then [] else said_if (is_at o p object property) (OfInner e.text) [])
  said_nil object property e true = refl
  said_nil object property e false = refl

  abbrev inner_said : Bool → Bool → List ℕ → Saids
  inner_said nil at text = if nil then [] else said_if at (OfInner text) []

  no_inner_targets : (nil at : Bool) (text : List ℕ) → all_targets (inner_said nil at text) ≡ []
  no_inner_targets true at text = refl
  no_inner_targets false true text = refl
  no_inner_targets false false text = refl

  no_inner_attr : (nil at : Bool) (text : List ℕ) → has_attr (inner_said nil at text) ≡ false
  no_inner_attr true at text = refl
  no_inner_attr false true text = refl
  no_inner_attr false false text = refl

  no_target_texts : (at : Bool) (target : Target) → all_texts (said_if at (OfTarget target) []) ≡ []
  no_target_texts true target = refl
  no_target_texts false target = refl

  target_targets : (at : Bool) (target : Target) → all_targets (said_if at (OfTarget target) []) ≡ targets_if (target_if at target)
  target_targets true target = refl
  target_targets false target = refl

  no_target_attr : (at : Bool) (target : Target) → has_attr (said_if at (OfTarget target) []) ≡ false
  no_target_attr true target = refl
  no_target_attr false target = refl

  part_texts : (number : ℕ) (within : Option (ℕ × ℕ)) → all_texts (said_at o p (part_entries number within)) ≡ []
  part_texts number None = refl
  part_texts number (Some within) = no_target_texts (is_at o p within.0 within.1) (Contained number)

  part_targets : (number : ℕ) (within : Option (ℕ × ℕ)) → all_targets (said_at o p (part_entries number within)) ≡ targets_if (part_target o p number within)
  part_targets number None = refl
  part_targets number (Some within) = target_targets (is_at o p within.0 within.1) (Contained number)

  part_attr : (number : ℕ) (within : Option (ℕ × ℕ)) → has_attr (said_at o p (part_entries number within)) ≡ false
  part_attr number None = refl
  part_attr number (Some within) = no_target_attr (is_at o p within.0 within.1) (Contained number)

  role_texts : (e : Element) (role : Role) → all_texts (said_at o p (role_entries e role)) ≡ texts_if (if is_value_at o p role && not (is_nil e.attrs) then Some e.text else None)
  role_texts e Document = refl
  role_texts e Skipped = refl
  role_texts e (AnObject object) = part_texts object.number object.within
  role_texts e (AValue object property) = ap all_texts (said_nil object property e (is_nil e.attrs)) ∙ by (is_nil e.attrs) (is_at o p object property)
    where
      by : (nil at : Bool) → all_texts (inner_said nil at e.text) ≡ texts_if (if at && not nil then Some e.text else None)
      by true true = refl
      by true false = refl
      by false true = refl
      by false false = refl
  role_texts e (AReference object property target) = no_target_texts (is_at o p object property) target
  role_texts e (Neither object property) = refl
  role_texts e Alien = refl
  role_texts e (Stranger object) = refl
  role_texts e (Misplaced object property) = refl

  role_targets : (e : Element) (role : Role) → all_targets (said_at o p (role_entries e role)) ≡ targets_if (element_target_at o p role)
  role_targets e Document = refl
  role_targets e Skipped = refl
  role_targets e (AnObject object) = part_targets object.number object.within
  role_targets e (AValue object property) = ap all_targets (said_nil object property e (is_nil e.attrs)) ∙ no_inner_targets (is_nil e.attrs) (is_at o p object property) e.text
  role_targets e (AReference object property target) = target_targets (is_at o p object property) target
  role_targets e (Neither object property) = refl
  role_targets e Alien = refl
  role_targets e (Stranger object) = refl
  role_targets e (Misplaced object property) = refl

  role_attr : (e : Element) (role : Role) → has_attr (said_at o p (role_entries e role)) ≡ false
  role_attr e Document = refl
  role_attr e Skipped = refl
  role_attr e (AnObject object) = part_attr object.number object.within
  role_attr e (AValue object property) = ap has_attr (said_nil object property e (is_nil e.attrs)) ∙ no_inner_attr (is_nil e.attrs) (is_at o p object property) e.text
  role_attr e (AReference object property target) = no_target_attr (is_at o p object property) target
  role_attr e (Neither object property) = refl
  role_attr e Alien = refl
  role_attr e (Stranger object) = refl
  role_attr e (Misplaced object property) = refl

  pub elements_texts : (items : List Item) → all_texts (said_at o p (element_entries items)) ≡ filter_map (element_text o p) items
  elements_texts [] = refl
  elements_texts (item ∷ items) =
      let own : List Entry = role_entries (kept item) item.role in
      ap all_texts (said-append o p own (element_entries items))
      ∙ texts-append (said_at o p own) (said_at o p (element_entries items))
      ∙ ap (λ (ts : List (List ℕ)). ts ++ all_texts (said_at o p (element_entries items))) (role_texts (kept item) item.role)
      ∙ ap (λ (ts : List (List ℕ)). filter_map (element_text o p) (item ∷ []) ++ ts) (elements_texts items)
      ∙ sym (filter_map-append (element_text o p) (item ∷ []) items)

  abbrev target_at : Item → Option Target
  target_at item = element_target_at o p item.role

  pub elements_targets : (items : List Item) → all_targets (said_at o p (element_entries items)) ≡ filter_map (λ item. element_target_at o p item.role) items
  elements_targets [] = refl
  elements_targets (item ∷ items) =
      let own : List Entry = role_entries (kept item) item.role in
      ap all_targets (said-append o p own (element_entries items))
      ∙ targets-append (said_at o p own) (said_at o p (element_entries items))
      ∙ ap (λ (ts : List Target). ts ++ all_targets (said_at o p (element_entries items))) (role_targets (kept item) item.role)
      ∙ ap (λ (ts : List Target). filter_map target_at (item ∷ []) ++ ts) (elements_targets items)
      ∙ sym (filter_map-append target_at (item ∷ []) items)

  pub elements_attr : (items : List Item) → has_attr (said_at o p (element_entries items)) ≡ false
  elements_attr [] = refl
  elements_attr (item ∷ items) =
      let own : List Entry = role_entries (kept item) item.role in
      ap has_attr (said-append o p own (element_entries items))
      ∙ attr-append (said_at o p own) (said_at o p (element_entries items))
      ∙ ap (λ (b : Bool). b || has_attr (said_at o p (element_entries items))) (role_attr (kept item) item.role)
      ∙ elements_attr items

  -- ---- primitive types that are added

  pub named_targets : (meta : MetaDesc) (object : ℕ) (id ps : List ℕ) → all_targets (said_at o p (name_entries meta object id ps)) ≡ []
  named_targets meta object id [] = refl
  named_targets meta object id (q ∷ ps) = by (is_name_prop meta q) (named_targets meta object id ps)
    where
      inside : (b : Bool) → all_targets (said_at o p (name_entries meta object id ps)) ≡ [] → all_targets (said_if b (OfInner id) (said_at o p (name_entries meta object id ps))) ≡ []
      inside true h = h
      inside false h = h

      by : (named : Bool) → all_targets (said_at o p (name_entries meta object id ps)) ≡ [] → all_targets (said_at o p (name_entries_if named object id q ++ name_entries meta object id ps)) ≡ []
      by false h = h
      by true h = inside (is_at o p object q) h

  pub named_attr : (meta : MetaDesc) (object : ℕ) (id ps : List ℕ) → has_attr (said_at o p (name_entries meta object id ps)) ≡ false
  named_attr meta object id [] = refl
  named_attr meta object id (q ∷ ps) = by (is_name_prop meta q) (named_attr meta object id ps)
    where
      inside : (b : Bool) → has_attr (said_at o p (name_entries meta object id ps)) ≡ false → has_attr (said_if b (OfInner id) (said_at o p (name_entries meta object id ps))) ≡ false
      inside true h = h
      inside false h = h

      by : (named : Bool) → has_attr (said_at o p (name_entries meta object id ps)) ≡ false → has_attr (said_at o p (name_entries_if named object id q ++ name_entries meta object id ps)) ≡ false
      by false h = h
      by true h = inside (is_at o p object q) h

  pub added_targets : (meta : MetaDesc) (c object : ℕ) (ids : List (List ℕ)) → all_targets (said_at o p (added_entries meta c object ids)) ≡ []
  added_targets meta c object [] = refl
  added_targets meta c object (id ∷ ids) =
      let own : List Entry = name_entries meta object id (props_of meta c) in
      ap all_targets (said-append o p own (added_entries meta c (suc object) ids))
      ∙ targets-append (said_at o p own) (said_at o p (added_entries meta c (suc object) ids))
      ∙ ap (λ (ts : List Target). ts ++ all_targets (said_at o p (added_entries meta c (suc object) ids))) (named_targets meta object id (props_of meta c))
      ∙ added_targets meta c (suc object) ids

  pub added_attr : (meta : MetaDesc) (c object : ℕ) (ids : List (List ℕ)) → has_attr (said_at o p (added_entries meta c object ids)) ≡ false
  added_attr meta c object [] = refl
  added_attr meta c object (id ∷ ids) =
      let own : List Entry = name_entries meta object id (props_of meta c) in
      ap has_attr (said-append o p own (added_entries meta c (suc object) ids))
      ∙ attr-append (said_at o p own) (said_at o p (added_entries meta c (suc object) ids))
      ∙ ap (λ (b : Bool). b || has_attr (said_at o p (added_entries meta c (suc object) ids))) (named_attr meta object id (props_of meta c))
      ∙ added_attr meta c (suc object) ids

  names_other : (meta : MetaDesc) (object : ℕ) (id ps : List ℕ) → (object == o) ≡ false → said_at o p (name_entries meta object id ps) ≡ []
  names_other meta object id [] e = refl
  names_other meta object id (q ∷ ps) e = by (is_name_prop meta q) (names_other meta object id ps e)
    where
      by : (named : Bool) → said_at o p (name_entries meta object id ps) ≡ [] → said_at o p (name_entries_if named object id q ++ name_entries meta object id ps) ≡ []
      by false h = h
      by true h = ap (λ (b : Bool). said_if (b && (q == p)) (OfInner id) (said_at o p (name_entries meta object id ps))) e ∙ h

  pub added_before : (meta : MetaDesc) (c object : ℕ) (ids : List (List ℕ)) → o < object → said_at o p (added_entries meta c object ids) ≡ []
  added_before meta c object [] l = refl
  added_before meta c object (id ∷ ids) l =
      said-append o p (name_entries meta object id (props_of meta c)) (added_entries meta c (suc object) ids)
      ∙ ap (λ (ss : Saids). ss ++ said_at o p (added_entries meta c (suc object) ids)) (names_other meta object id (props_of meta c) (ne_eqb object o (λ e. omega (arith, e, l))))
      ∙ added_before meta c (suc object) ids (omega (arith, l))

  pub added_at : (meta : MetaDesc) (c object j : ℕ) (ids : List (List ℕ)) (id : List ℕ) → slice_get ids j ≡ Some id → o ≡ object + j
      → said_at o p (added_entries meta c object ids) ≡ said_at o p (name_entries meta o id (props_of meta c))
  added_at meta c object j [] id e f = absurd (none-some id e)
  added_at meta c object zero (i ∷ ids) id e f =
      let same : object ≡ o = omega (arith, f) in
      let own : i ≡ id = ap (λ (x : Option (List ℕ)). unwrap_or x i) e in
      said-append o p (name_entries meta object i (props_of meta c)) (added_entries meta c (suc object) ids)
      ∙ ap (λ (ss : Saids). said_at o p (name_entries meta object i (props_of meta c)) ++ ss) (added_before meta c (suc object) ids (omega (arith, f)))
      ∙ append-nil (said_at o p (name_entries meta object i (props_of meta c)))
      ∙ ap (λ (m : ℕ). said_at o p (name_entries meta m i (props_of meta c))) same
      ∙ ap (λ (x : List ℕ). said_at o p (name_entries meta o x (props_of meta c))) own
  added_at meta c object (suc j) (i ∷ ids) id e f =
      said-append o p (name_entries meta object i (props_of meta c)) (added_entries meta c (suc object) ids)
      ∙ ap (λ (ss : Saids). ss ++ said_at o p (added_entries meta c (suc object) ids)) (names_other meta object i (props_of meta c) (ne_eqb object o (λ g. omega (arith, g, f))))
      ∙ added_at meta c (suc object) j ids id e (omega (arith, f))
