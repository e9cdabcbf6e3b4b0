-- What elements write, as one list of entries; its values, references and mentions at a property of an object are those of the entries
-- that stand there.
use Rattle.std.proofs.Common.{◌≡◌, ℕ, suc, Bool, true, false, List, [], ◌∷◌, ◌++◌, map, refl, sym, ◌∙◌, ap, append_assoc, append-nil, None, Some}
use Rattle.std.specs.Prelude.{◌==◌, ◌||◌, ◌&&◌, filter_map, Option, if◌then◌else◌}
use Rattle.std.specs.List.{list_any}
use Rattle.std.proofs.lemmas.Bool.{true≢false, eqb-true}
use Rattle.std.proofs.lemmas.List.{map-append}
use Rattle.std.proofs.lemmas.List.Folds.{list_any-append}
use Rattle.std.proofs.lemmas.List.Elements.{filter_map-append}
use Rattle.mof_metamodel.specs.declared.desc.MetaDesc.{MetaDesc}
use Rattle.mof_metamodel.specs.Metamodels.{prop_number, props_of, type_of}
use Rattle.object_tables.specs.Models.{is_class_type}
use Rattle.object_tables.specs.declared.value.Value.{Value}
use Rattle.xmi_profile.specs.declared.element.Element.{Element}
use Rattle.model_assembly.specs.declared.filed.Mention.{Mention}
use Rattle.model_assembly.specs.declared.filed.WrittenReference.{WrittenReference}
use Rattle.model_assembly.specs.declared.filed.WrittenValue.{WrittenValue}
use Rattle.model_assembly.specs.Attributes.{Attrs, is_nil}
use Rattle.model_assembly.specs.declared.role.Role.TheVariants as elements
use Rattle.model_assembly.specs.declared.role.Role.{Role}
use Rattle.model_assembly.specs.declared.role.ObjectRole.{ObjectRole}
use Rattle.model_assembly.specs.Elements.{Item, object_of}
use Rattle.model_assembly.specs.Filed.{value_at, filed_values, reference_at, filed_references}
use Rattle.xmi_profile.specs.Filing.{Writings, number_by, text_by, written_reference, with_target, with_words, mention_of, with_mention, written_value, with_value_if, with_value, with_text, is_met, met_with, with_attr, with_attrs, with_attrs_by, with_own_attrs, with_all_attrs, with_inner, with_part, with_element, with_elements, is_name_prop, with_name, with_names, with_added}
use Rattle.xmi_profile.specs.Listing.{element_of}
use Rattle.xmi_profile.specs.Numbering.{Numbers}
use Rattle.model_assembly.specs.declared.target.Target.{Target}
use Rattle.model_assembly.specs.declared.target.Target.TheVariants.{Named, Contained}
use Rattle.model_assembly.specs.References.{attribute_targets, words}
use Rattle.model_assembly.specs.Source.{is_at}
use Rattle.model_assembly.specs.Values.{value_of}
use Rattle.xmi_profile.proofs.SeenLaws.{kept, element_kept}
use Rattle.mof_metamodel.proofs.Facts.{second_true, first_true}

-- ---- entries

-- the text of an attribute, that of a value's element, or a target
pub data Said : Type 0 where
  OfAttr : (text : List ℕ) → Said
  OfInner : (text : List ℕ) → Said
  OfTarget : (target : Target) → Said

pub record Entry : Type 0 where
  pub object : ℕ
  pub property : ℕ
  pub said : Said

abbrev pub entry : ℕ → ℕ → Said → Entry
entry o p said = record { object = o; property = p; said = said }

abbrev pub with_said : MetaDesc → Numbers → Writings → ℕ → ℕ → Said → Writings
with_said meta n w o p (OfAttr text) = with_text meta n w o p text
with_said meta n w o p (OfInner text) = with_value meta w o p text
with_said meta n w o p (OfTarget target) = with_target n w o p target

abbrev pub with_entries : MetaDesc → Numbers → Writings → List Entry → Writings
with_entries meta n w [] = w
with_entries meta n w (e ∷ es) = with_entries meta n (with_said meta n w e.object e.property e.said) es

pub entries-append : (meta : MetaDesc) (n : Numbers) (w : Writings) (xs ys : List Entry) → with_entries meta n w (xs ++ ys) ≡ with_entries meta n (with_entries meta n w xs) ys
entries-append meta n w [] ys = refl
entries-append meta n w (x ∷ xs) ys = entries-append meta n (with_said meta n w x.object x.property x.said) xs ys

-- ---- of attributes

abbrev pub attr_entries_if : Bool → ℕ → ℕ → List ℕ → List Entry
attr_entries_if met o p text = if met then [] else entry o p (OfAttr text) ∷ []

abbrev pub attr_entry : ℕ → List ℕ → List ℕ → Option ℕ → List Entry
attr_entry o met text None = []
attr_entry o met text (Some p) = attr_entries_if (is_met met p) o p text

abbrev pub attr_entries : MetaDesc → ℕ → ℕ → List ℕ → Attrs → List Entry
attr_entries meta o c met [] = []
attr_entries meta o c met (a ∷ attrs) =
    attr_entry o met a.1 (prop_number meta c a.0) ++ attr_entries meta o c (met_with met (prop_number meta c a.0)) attrs

abbrev pub own_entries_by : MetaDesc → ℕ → Attrs → Option ℕ → List Entry
own_entries_by meta o attrs None = []
own_entries_by meta o attrs (Some c) = attr_entries meta o c [] attrs

abbrev pub own_entries_of : MetaDesc → Attrs → Option ObjectRole → List Entry
own_entries_of meta attrs None = []
own_entries_of meta attrs (Some object) = own_entries_by meta object.number attrs object.class

abbrev pub own_entries : MetaDesc → Attrs → Role → List Entry
own_entries meta attrs role = own_entries_of meta attrs (object_of role)

abbrev pub all_attr_entries : MetaDesc → List Item → List Entry
all_attr_entries meta [] = []
all_attr_entries meta (item ∷ items) = own_entries meta item.attrs item.role ++ all_attr_entries meta items

-- ---- of elements

abbrev pub inner_entries : ℕ → ℕ → Element → List Entry
inner_entries o p e = if is_nil e.attrs then [] else entry o p (OfInner e.text) ∷ []

abbrev pub part_entries : ℕ → Option (ℕ × ℕ) → List Entry
part_entries number None = []
part_entries number (Some within) = entry within.0 within.1 (OfTarget (Contained number)) ∷ []

abbrev pub role_entries : Element → Role → List Entry
role_entries e (elements.AValue o p) = inner_entries o p e
role_entries e (elements.AReference o p target) = entry o p (OfTarget target) ∷ []
role_entries e (elements.AnObject object) = part_entries object.number object.within
role_entries e role = []

abbrev pub element_entries : List Item → List Entry
element_entries [] = []
element_entries (item ∷ items) = role_entries (kept item) item.role ++ element_entries items

-- ---- of primitive types that are added

abbrev pub name_entries_if : Bool → ℕ → List ℕ → ℕ → List Entry
name_entries_if is_name o id p = if is_name then entry o p (OfInner id) ∷ [] else []

abbrev pub name_entries : MetaDesc → ℕ → List ℕ → List ℕ → List Entry
name_entries meta o id [] = []
name_entries meta o id (p ∷ ps) = name_entries_if (is_name_prop meta p) o id p ++ name_entries meta o id ps

abbrev pub added_entries : MetaDesc → ℕ → ℕ → List (List ℕ) → List Entry
added_entries meta c o [] = []
added_entries meta c o (id ∷ ids) = name_entries meta o id (props_of meta c) ++ added_entries meta c (suc o) ids

-- ---- what is filed is what the entries say

module _ (meta : MetaDesc) (n : Numbers) where
  abbrev Filled : Writings → List Entry → Writings
  Filled w es = with_entries meta n w es

  attr_filed_if : (w : Writings) (o p : ℕ) (text : List ℕ) (b : Bool) → (if b then w else with_text meta n w o p text) ≡ Filled w (attr_entries_if b o p text)
  attr_filed_if w o p text true = refl
  attr_filed_if w o p text false = refl

  attr_filed : (w : Writings) (o : ℕ) (met text : List ℕ) (q : Option ℕ) → with_attr meta n o w met text q ≡ Filled w (attr_entry o met text q)
  attr_filed w o met text None = refl
  attr_filed w o met text (Some p) = attr_filed_if w o p text (is_met met p)

  attrs_filed : (w : Writings) (o c : ℕ) (met : List ℕ) (attrs : Attrs) → with_attrs meta n o c w met attrs ≡ Filled w (attr_entries meta o c met attrs)
  attrs_filed w o c met [] = refl
  attrs_filed w o c met (a ∷ attrs) =
      let q : Option ℕ = prop_number meta c a.0 in
      ap (λ (v : Writings). with_attrs meta n o c v (met_with met q) attrs) (attr_filed w o met a.1 q)
      ∙ attrs_filed (Filled w (attr_entry o met a.1 q)) o c (met_with met q) attrs
      ∙ sym (entries-append meta n w (attr_entry o met a.1 q) (attr_entries meta o c (met_with met q) attrs))

  own_filed_by : (w : Writings) (o : ℕ) (attrs : Attrs) (c : Option ℕ) → with_attrs_by meta n w o attrs c ≡ Filled w (own_entries_by meta o attrs c)
  own_filed_by w o attrs None = refl
  own_filed_by w o attrs (Some c) = attrs_filed w o c [] attrs

  own_filed : (w : Writings) (attrs : Attrs) (role : Role) → with_own_attrs meta n w attrs role ≡ Filled w (own_entries meta attrs role)
  own_filed w attrs elements.Document = refl
  own_filed w attrs elements.Skipped = refl
  own_filed w attrs (elements.AnObject object) = own_filed_by w object.number attrs object.class
  own_filed w attrs (elements.AValue o p) = refl
  own_filed w attrs (elements.AReference o p target) = refl
  own_filed w attrs (elements.Neither o p) = refl
  own_filed w attrs elements.Alien = refl
  own_filed w attrs (elements.Stranger o) = refl
  own_filed w attrs (elements.Misplaced o p) = refl

  pub all_attrs_filed : (w : Writings) (items : List Item) → with_all_attrs meta n w (map element_of items) ≡ Filled w (all_attr_entries meta items)
  all_attrs_filed w [] = refl
  all_attrs_filed w (item ∷ items) =
      let own : List Entry = own_entries meta item.attrs item.role in
      ap (λ (e : Element). with_all_attrs meta n (with_own_attrs meta n w e.attrs e.role) (map element_of items)) (element_kept item)
      ∙ ap (λ (v : Writings). with_all_attrs meta n v (map element_of items)) (own_filed w item.attrs item.role)
      ∙ all_attrs_filed (Filled w own) items
      ∙ sym (entries-append meta n w own (all_attr_entries meta items))

  inner_filed : (w : Writings) (o p : ℕ) (e : Element) → with_inner meta w o p e ≡ Filled w (inner_entries o p e)
  inner_filed w o p e = by (is_nil e.attrs)
    where
      by : (b : Bool) → (if b then w else with_value meta w o p e.text) ≡ Filled w (if b then [] else entry o p (OfInner e.text) ∷ [])
      by true = refl
      by false = refl

  part_filed : (w : Writings) (number : ℕ) (within : Option (ℕ × ℕ)) → with_part n w number within ≡ Filled w (part_entries number within)
  part_filed w number None = refl
  part_filed w number (Some within) = refl

  role_filed : (w : Writings) (e : Element) (role : Role) → with_element meta n w e role ≡ Filled w (role_entries e role)
  role_filed w e elements.Document = refl
  role_filed w e elements.Skipped = refl
  role_filed w e (elements.AnObject object) = part_filed w object.number object.within
  role_filed w e (elements.AValue o p) = inner_filed w o p e
  role_filed w e (elements.AReference o p target) = refl
  role_filed w e (elements.Neither o p) = refl
  role_filed w e elements.Alien = refl
  role_filed w e (elements.Stranger o) = refl
  role_filed w e (elements.Misplaced o p) = refl

  pub elements_filed : (w : Writings) (items : List Item) → with_elements meta n w (map element_of items) ≡ Filled w (element_entries items)
  elements_filed w [] = refl
  elements_filed w (item ∷ items) =
      let own : List Entry = role_entries (kept item) item.role in
      ap (λ (e : Element). with_elements meta n (with_element meta n w e e.role) (map element_of items)) (element_kept item)
      ∙ ap (λ (v : Writings). with_elements meta n v (map element_of items)) (role_filed w (kept item) item.role)
      ∙ elements_filed (Filled w own) items
      ∙ sym (entries-append meta n w own (element_entries items))

  name_filed : (w : Writings) (o : ℕ) (id : List ℕ) (p : ℕ) → with_name meta w o id p ≡ Filled w (name_entries_if (is_name_prop meta p) o id p)
  name_filed w o id p = by (is_name_prop meta p)
    where
      by : (b : Bool) → (if b then with_value meta w o p id else w) ≡ Filled w (name_entries_if b o id p)
      by true = refl
      by false = refl

  names_filed : (w : Writings) (o : ℕ) (id ps : List ℕ) → with_names meta w o id ps ≡ Filled w (name_entries meta o id ps)
  names_filed w o id [] = refl
  names_filed w o id (p ∷ ps) =
      let own : List Entry = name_entries_if (is_name_prop meta p) o id p in
      ap (λ (v : Writings). with_names meta v o id ps) (name_filed w o id p)
      ∙ names_filed (Filled w own) o id ps
      ∙ sym (entries-append meta n w own (name_entries meta o id ps))

  pub added_filed : (c : ℕ) (w : Writings) (o : ℕ) (ids : List (List ℕ)) → with_added meta c w o ids ≡ Filled w (added_entries meta c o ids)
  added_filed c w o [] = refl
  added_filed c w o (id ∷ ids) =
      let own : List Entry = name_entries meta o id (props_of meta c) in
      ap (λ (v : Writings). with_added meta c v (suc o) ids) (names_filed w o id (props_of meta c))
      ∙ added_filed c (Filled w own) (suc o) ids
      ∙ sym (entries-append meta n w own (added_entries meta c (suc o) ids))

-- ---- what stands at a property of an object

abbrev pub said_if : Bool → Said → List Said → List Said
said_if holds said rest = if holds then said ∷ rest else rest

abbrev pub said_at : ℕ → ℕ → List Entry → List Said
said_at o p [] = []
said_at o p (e ∷ es) = said_if (is_at o p e.object e.property) e.said (said_at o p es)

pub said-append : (o p : ℕ) (xs ys : List Entry) → said_at o p (xs ++ ys) ≡ said_at o p xs ++ said_at o p ys
said-append o p [] ys = refl
said-append o p (x ∷ xs) ys = by (is_at o p x.object x.property) (said-append o p xs ys)
  where
    by : (b : Bool) → said_at o p (xs ++ ys) ≡ said_at o p xs ++ said_at o p ys → said_if b x.said (said_at o p (xs ++ ys)) ≡ said_if b x.said (said_at o p xs) ++ said_at o p ys
    by true h = ap (λ (ss : List Said). x.said ∷ ss) h
    by false h = h

abbrev pub said_texts : Said → List (List ℕ)
said_texts (OfAttr text) = text ∷ []
said_texts (OfInner text) = text ∷ []
said_texts (OfTarget target) = []

abbrev pub all_texts : List Said → List (List ℕ)
all_texts [] = []
all_texts (said ∷ rest) = said_texts said ++ all_texts rest

abbrev pub said_targets : Said → List Target
said_targets (OfAttr text) = attribute_targets text
said_targets (OfInner text) = []
said_targets (OfTarget target) = target ∷ []

abbrev pub all_targets : List Said → List Target
all_targets [] = []
all_targets (said ∷ rest) = said_targets said ++ all_targets rest

abbrev pub is_attr : Said → Bool
is_attr (OfAttr text) = true
is_attr (OfInner text) = false
is_attr (OfTarget target) = false

abbrev pub has_attr : List Said → Bool
has_attr [] = false
has_attr (said ∷ rest) = is_attr said || has_attr rest

abbrev pub is_mention_at : ℕ → ℕ → Mention → Bool
is_mention_at o p m = is_at o p m.object m.property.0

abbrev pub reference_pair : Numbers → Target → Option ℕ × List ℕ
reference_pair n target = (number_by n.names target, text_by n.ids target)

pub at_property : (o p object property : ℕ) → is_at o p object property ≡ true → property ≡ p
at_property o p object property h = eqb-true property p (second_true (object == o) (property == p) h)

pub at_object : (o p object property : ℕ) → is_at o p object property ≡ true → object ≡ o
at_object o p object property h = eqb-true object o (first_true (object == o) (property == p) h)

-- one more item of a filtered list
one_more : {X Y : Type 0} (f : X → Option Y) (xs : List X) (x : X) → filter_map f (xs ++ x ∷ []) ≡ filter_map f xs ++ filter_map f (x ∷ [])
one_more f xs x = filter_map-append f xs (x ∷ [])

nothing_more : {X : Type 0} (xs : List X) → xs ≡ xs ++ []
nothing_more xs = sym (append-nil xs)

or_false : (x : Bool) → x ≡ (x || false)
or_false true = refl
or_false false = refl

or_assoc : (x y z : Bool) → ((x || y) || z) ≡ (x || (y || z))
or_assoc true y z = refl
or_assoc false y z = refl

-- ---- words leave values and mentions as they are, and values leave references and mentions

pub words_values : (n : Numbers) (w : Writings) (o p : ℕ) (ws : List (List ℕ)) → (with_words n w o p ws).values ≡ w.values
words_values n w o p [] = refl
words_values n w o p (word ∷ ws) = words_values n (with_target n w o p (Named word)) o p ws

words_mentions : (n : Numbers) (w : Writings) (o p : ℕ) (ws : List (List ℕ)) → (with_words n w o p ws).mentions ≡ w.mentions
words_mentions n w o p [] = refl
words_mentions n w o p (word ∷ ws) = words_mentions n (with_target n w o p (Named word)) o p ws

value_references : (w : Writings) (o p : ℕ) (v : Option Value) → (with_value_if w o p v).references ≡ w.references
value_references w o p None = refl
value_references w o p (Some v) = refl

value_mentions : (w : Writings) (o p : ℕ) (v : Option Value) → (with_value_if w o p v).mentions ≡ w.mentions
value_mentions w o p None = refl
value_mentions w o p (Some v) = refl

-- ---- values

module _ (meta : MetaDesc) (n : Numbers) (o p : ℕ) where
  abbrev Values : Writings → List Value
  Values w = filed_values w.values o p

  abbrev read : List (List ℕ) → List Value
  read texts = filter_map (value_of meta (type_of meta p)) texts

  abbrev one : Option Value → List Value
  one v = filter_map (λ (u : Option Value). u) (v ∷ [])

  value_more : (w : Writings) (object property : ℕ) (v : Value) (b : Bool) → is_at o p object property ≡ b
      → Values (with_value_if w object property (Some v)) ≡ Values w ++ one (if b then Some v else None)
  value_more w object property v b e =
      one_more (value_at o p) w.values (written_value object property v) ∙ ap (λ (c : Bool). Values w ++ one (if c then Some v else None)) e

  value_on : (w : Writings) (object property : ℕ) (v : Option Value) → is_at o p object property ≡ true
      → Values (with_value_if w object property v) ≡ Values w ++ one v
  value_on w object property None e = nothing_more (Values w)
  value_on w object property (Some v) e = value_more w object property v true e

  value_off : (w : Writings) (object property : ℕ) (v : Option Value) → is_at o p object property ≡ false → Values (with_value_if w object property v) ≡ Values w
  value_off w object property None e = refl
  value_off w object property (Some v) e = value_more w object property v false e ∙ append-nil (Values w)

  values_on : (w : Writings) (object : ℕ) (said : Said) → is_class_type (type_of meta p) ≡ false → is_at o p object p ≡ true
      → Values (with_said meta n w object p said) ≡ Values w ++ read (said_texts said)
  values_on w object (OfAttr text) t e =
      ap (λ (b : Bool). Values (if b then with_words n (with_mention w object p) object p (words text) else with_value meta w object p text)) t
      ∙ value_on w object p (value_of meta (type_of meta p) text) e
  values_on w object (OfInner text) t e = value_on w object p (value_of meta (type_of meta p) text) e
  values_on w object (OfTarget target) t e = nothing_more (Values w)

  values_off : (w : Writings) (object property : ℕ) (said : Said) → is_at o p object property ≡ false → Values (with_said meta n w object property said) ≡ Values w
  values_off w object property (OfAttr text) e = by (is_class_type (type_of meta property))
    where
      by : (b : Bool) → Values (if b then with_words n (with_mention w object property) object property (words text) else with_value meta w object property text) ≡ Values w
      by true = ap (λ (vs : List WrittenValue). filed_values vs o p) (words_values n (with_mention w object property) object property (words text))
      by false = value_off w object property (value_of meta (type_of meta property) text) e
  values_off w object property (OfInner text) e = value_off w object property (value_of meta (type_of meta property) text) e
  values_off w object property (OfTarget target) e = refl

  pub values_filed : is_class_type (type_of meta p) ≡ false → (w : Writings) (es : List Entry) → Values (with_entries meta n w es) ≡ Values w ++ read (all_texts (said_at o p es))
  values_filed t w [] = nothing_more (Values w)
  values_filed t w (e ∷ es) = by (is_at o p e.object e.property) refl (values_filed t (with_said meta n w e.object e.property e.said) es)
    where
      rest : List (List ℕ)
      rest = all_texts (said_at o p es)

      by : (b : Bool) → is_at o p e.object e.property ≡ b
          → Values (with_entries meta n (with_said meta n w e.object e.property e.said) es) ≡ Values (with_said meta n w e.object e.property e.said) ++ read rest
          → Values (with_entries meta n (with_said meta n w e.object e.property e.said) es) ≡ Values w ++ read (all_texts (said_if b e.said (said_at o p es)))
      by true h i =
          i ∙ ap (λ (vs : List Value). vs ++ read rest) (here e.property (at_property o p e.object e.property h) h)
          ∙ append_assoc (Values w) (read (said_texts e.said)) (read rest)
          ∙ ap (λ (vs : List Value). Values w ++ vs) (sym (filter_map-append (value_of meta (type_of meta p)) (said_texts e.said) rest))
        where
          here : (q : ℕ) → q ≡ p → is_at o p e.object q ≡ true → Values (with_said meta n w e.object q e.said) ≡ Values w ++ read (said_texts e.said)
          here q same at =
              ap (λ (r : ℕ). Values (with_said meta n w e.object r e.said)) same
              ∙ values_on w e.object e.said t (sym (ap (λ (r : ℕ). is_at o p e.object r) same) ∙ at)
      by false h i = i ∙ ap (λ (vs : List Value). vs ++ read rest) (values_off w e.object e.property e.said h)

-- ---- references

module _ (meta : MetaDesc) (n : Numbers) (o p : ℕ) where
  abbrev Pairs : Type 0
  Pairs = List (Option ℕ × List ℕ)

  abbrev References : Writings → Pairs
  References w = filed_references w.references o p

  abbrev pairs : List Target → Pairs
  pairs targets = map (reference_pair n) targets

  abbrev single : Option (Option ℕ × List ℕ) → Pairs
  single r = filter_map (λ (u : Option (Option ℕ × List ℕ)). u) (r ∷ [])

  reference_more : (w : Writings) (object property : ℕ) (target : Target) (b : Bool) → is_at o p object property ≡ b
      → References (with_target n w object property target) ≡ References w ++ single (if b then Some (reference_pair n target) else None)
  reference_more w object property target b e =
      one_more (reference_at o p) w.references (written_reference object property (number_by n.names target) (text_by n.ids target))
      ∙ ap (λ (c : Bool). References w ++ single (if c then Some (reference_pair n target) else None)) e

  words_on : (w : Writings) (object property : ℕ) (ws : List (List ℕ)) → is_at o p object property ≡ true
      → References (with_words n w object property ws) ≡ References w ++ pairs (map Named ws)
  words_on w object property [] e = nothing_more (References w)
  words_on w object property (word ∷ ws) e =
      words_on (with_target n w object property (Named word)) object property ws e
      ∙ ap (λ (rs : Pairs). rs ++ pairs (map Named ws)) (reference_more w object property (Named word) true e)
      ∙ append_assoc (References w) (reference_pair n (Named word) ∷ []) (pairs (map Named ws))

  words_off : (w : Writings) (object property : ℕ) (ws : List (List ℕ)) → is_at o p object property ≡ false → References (with_words n w object property ws) ≡ References w
  words_off w object property [] e = refl
  words_off w object property (word ∷ ws) e =
      words_off (with_target n w object property (Named word)) object property ws e
      ∙ reference_more w object property (Named word) false e ∙ append-nil (References w)

  value_leaves : (w : Writings) (object property : ℕ) (v : Option Value) → References (with_value_if w object property v) ≡ References w
  value_leaves w object property v = ap (λ (rs : List WrittenReference). filed_references rs o p) (value_references w object property v)

  references_on : (w : Writings) (object : ℕ) (said : Said) → is_class_type (type_of meta p) ≡ true → is_at o p object p ≡ true
      → References (with_said meta n w object p said) ≡ References w ++ pairs (said_targets said)
  references_on w object (OfAttr text) t e =
      ap (λ (b : Bool). References (if b then with_words n (with_mention w object p) object p (words text) else with_value meta w object p text)) t
      ∙ words_on (with_mention w object p) object p (words text) e
  references_on w object (OfInner text) t e = value_leaves w object p (value_of meta (type_of meta p) text) ∙ nothing_more (References w)
  references_on w object (OfTarget target) t e = reference_more w object p target true e

  references_off : (w : Writings) (object property : ℕ) (said : Said) → is_at o p object property ≡ false → References (with_said meta n w object property said) ≡ References w
  references_off w object property (OfAttr text) e = by (is_class_type (type_of meta property))
    where
      by : (b : Bool) → References (if b then with_words n (with_mention w object property) object property (words text) else with_value meta w object property text) ≡ References w
      by true = words_off (with_mention w object property) object property (words text) e
      by false = value_leaves w object property (value_of meta (type_of meta property) text)
  references_off w object property (OfInner text) e = value_leaves w object property (value_of meta (type_of meta property) text)
  references_off w object property (OfTarget target) e = reference_more w object property target false e ∙ append-nil (References w)

  pub references_filed : is_class_type (type_of meta p) ≡ true → (w : Writings) (es : List Entry)
      → References (with_entries meta n w es) ≡ References w ++ pairs (all_targets (said_at o p es))
  references_filed t w [] = nothing_more (References w)
  references_filed t w (e ∷ es) = by (is_at o p e.object e.property) refl (references_filed t (with_said meta n w e.object e.property e.said) es)
    where
      rest : List Target
      rest = all_targets (said_at o p es)

      by : (b : Bool) → is_at o p e.object e.property ≡ b
          → References (with_entries meta n (with_said meta n w e.object e.property e.said) es) ≡ References (with_said meta n w e.object e.property e.said) ++ pairs rest
          → References (with_entries meta n (with_said meta n w e.object e.property e.said) es) ≡ References w ++ pairs (all_targets (said_if b e.said (said_at o p es)))
      by true h i =
          i ∙ ap (λ (rs : Pairs). rs ++ pairs rest) (here e.property (at_property o p e.object e.property h) h)
          ∙ append_assoc (References w) (pairs (said_targets e.said)) (pairs rest)
          ∙ ap (λ (rs : Pairs). References w ++ rs) (sym (map-append (reference_pair n) (said_targets e.said) rest))
        where
          here : (q : ℕ) → q ≡ p → is_at o p e.object q ≡ true → References (with_said meta n w e.object q e.said) ≡ References w ++ pairs (said_targets e.said)
          here q same at =
              ap (λ (r : ℕ). References (with_said meta n w e.object r e.said)) same
              ∙ references_on w e.object e.said t (sym (ap (λ (r : ℕ). is_at o p e.object r) same) ∙ at)
      by false h i = i ∙ ap (λ (rs : Pairs). rs ++ pairs rest) (references_off w e.object e.property e.said h)

-- ---- mentions

module _ (meta : MetaDesc) (n : Numbers) (o p : ℕ) where
  abbrev Mentions : List Mention → Bool
  Mentions ms = list_any (is_mention_at o p) ms

  mention_more : (w : Writings) (object property : ℕ) (b : Bool) → is_at o p object property ≡ b → Mentions (with_mention w object property).mentions ≡ (Mentions w.mentions || b)
  mention_more w object property b e =
      list_any-append (is_mention_at o p) w.mentions (mention_of object property ∷ []) ∙ ap (λ (c : Bool). Mentions w.mentions || c) (sym (or_false (is_at o p object property)) ∙ e)

  words_mention : (w : Writings) (object property : ℕ) (ws : List (List ℕ)) (b : Bool) → is_at o p object property ≡ b
      → Mentions (with_words n (with_mention w object property) object property ws).mentions ≡ (Mentions w.mentions || b)
  words_mention w object property ws b e = ap Mentions (words_mentions n (with_mention w object property) object property ws) ∙ mention_more w object property b e

  value_mention : (w : Writings) (object property : ℕ) (v : Option Value) → Mentions (with_value_if w object property v).mentions ≡ (Mentions w.mentions || false)
  value_mention w object property v = ap Mentions (value_mentions w object property v) ∙ or_false (Mentions w.mentions)

  mentions_on : (w : Writings) (object : ℕ) (said : Said) → is_class_type (type_of meta p) ≡ true → is_at o p object p ≡ true
      → Mentions (with_said meta n w object p said).mentions ≡ (Mentions w.mentions || is_attr said)
  mentions_on w object (OfAttr text) t e =
      ap (λ (b : Bool). Mentions (if b then with_words n (with_mention w object p) object p (words text) else with_value meta w object p text).mentions) t
      ∙ words_mention w object p (words text) true e
  mentions_on w object (OfInner text) t e = value_mention w object p (value_of meta (type_of meta p) text)
  mentions_on w object (OfTarget target) t e = or_false (Mentions w.mentions)

  mentions_off : (w : Writings) (object property : ℕ) (said : Said) → is_at o p object property ≡ false
      → Mentions (with_said meta n w object property said).mentions ≡ Mentions w.mentions
  mentions_off w object property (OfAttr text) e = by (is_class_type (type_of meta property))
    where
      by : (b : Bool) → Mentions (if b then with_words n (with_mention w object property) object property (words text) else with_value meta w object property text).mentions ≡ Mentions w.mentions
      by true = words_mention w object property (words text) false e ∙ sym (or_false (Mentions w.mentions))
      by false = ap Mentions (value_mentions w object property (value_of meta (type_of meta property) text))
  mentions_off w object property (OfInner text) e = ap Mentions (value_mentions w object property (value_of meta (type_of meta property) text))
  mentions_off w object property (OfTarget target) e = refl

  pub mentions_filed : is_class_type (type_of meta p) ≡ true → (w : Writings) (es : List Entry)
      → Mentions (with_entries meta n w es).mentions ≡ (Mentions w.mentions || has_attr (said_at o p es))
  mentions_filed t w [] = or_false (Mentions w.mentions)
  mentions_filed t w (e ∷ es) = by (is_at o p e.object e.property) refl (mentions_filed t (with_said meta n w e.object e.property e.said) es)
    where
      rest : Bool
      rest = has_attr (said_at o p es)

      by : (b : Bool) → is_at o p e.object e.property ≡ b
          → Mentions (with_entries meta n (with_said meta n w e.object e.property e.said) es).mentions ≡ (Mentions (with_said meta n w e.object e.property e.said).mentions || rest)
          → Mentions (with_entries meta n (with_said meta n w e.object e.property e.said) es).mentions ≡ (Mentions w.mentions || has_attr (said_if b e.said (said_at o p es)))
      by true h i =
          i ∙ ap (λ (b : Bool). b || rest) (here e.property (at_property o p e.object e.property h) h)
          ∙ or_assoc (Mentions w.mentions) (is_attr e.said) rest
        where
          here : (q : ℕ) → q ≡ p → is_at o p e.object q ≡ true → Mentions (with_said meta n w e.object q e.said).mentions ≡ (Mentions w.mentions || is_attr e.said)
          here q same at =
              ap (λ (r : ℕ). Mentions (with_said meta n w e.object r e.said).mentions) same
              ∙ mentions_on w e.object e.said t (sym (ap (λ (r : ℕ). is_at o p e.object r) same) ∙ at)
      by false h i = i ∙ ap (λ (b : Bool). b || rest) (mentions_off w e.object e.property e.said h)
