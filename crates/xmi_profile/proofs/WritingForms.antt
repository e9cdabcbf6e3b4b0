-- What the form of a property says of it, and what is written of it by its form.
use Rattle.std.proofs.Common.{◌≡◌, ℕ, suc, ◌+◌, ◌<◌, Bool, true, false, cond, List, [], ◌∷◌, ◌++◌, length, get_or, map, drop, refl, sym, ◌∙◌, ap, ap₂, subst, arith, Option, None, Some, append_assoc, add-one}
use Rattle.std.specs.Prelude.{◌==◌, ◌&&◌, ◌-◌, not, nat_lt, All, Contains, IsTrue, IsSome, filter, is_some}
use Rattle.std.specs.List.{flat_map, range_with_len}
use Rattle.std.proofs.lemmas.Bool.{and_parts, eqb-true, ltb-true}
use Rattle.std.proofs.lemmas.List.{get_or-map, length-map, get_or_default}
use Rattle.std.proofs.lemmas.List.Elements.{All-contains}
use Rattle.mof_metamodel.specs.declared.desc.MetaDesc.{MetaDesc}
use Rattle.mof_metamodel.specs.declared.desc.PropId.{PropId}
use Rattle.mof_metamodel.specs.declared.desc.PropType.{PropType}
use Rattle.mof_metamodel.specs.declared.desc.PropType.TheVariants as types
use Rattle.object_tables.specs.declared.limit.TheConstants.{MAX_DEPTH}
use Rattle.mof_metamodel.specs.Metamodels.{prop_count, props_of, prop_at, type_of, opposite_of, enum_at}
use Rattle.mof_metamodel.specs.Tables.{prop_numbers}
use Rattle.mof_metamodel.proofs.PropLemmas.{prop_known}
use Rattle.object_tables.specs.declared.value.Value.{Value}
use Rattle.object_tables.specs.declared.value.Value.TheVariants as values
use Rattle.object_tables.specs.Models.{ModelData, object_at, class_at, id_at, values_at, is_class_type, is_value_of, IsAttributeOf, IsReferenceOf, IsLive}
use Rattle.object_tables.specs.Objects.{Object}
use Rattle.object_tables.specs.Kept.{Kept}
use Rattle.object_tables.specs.Validity.{IsPropertyOf}
use Rattle.xmi_text.specs.Calls.{Call, Open, Attr, Data, Close, Line}
use Rattle.model_assembly.specs.declared.form.Form.{Form}
use Rattle.model_assembly.specs.declared.form.Form.TheVariants as forms
use Rattle.model_assembly.specs.Forms.{is_one, is_composite, form_of}
use Rattle.model_assembly.specs.Profile.{prop_name, id_or_none, id_text, object_props, props_or_none, is_part}
use Rattle.xmi_profile.specs.Canon.{value_text, depth_over, object_calls, children_by, value_element, spaced_behind, partners_attr, top_calls}
use Rattle.xmi_profile.specs.Writable.{IsTold, calls_at, is_top_object, chosen_form, AreLive, ids_of, has_some, text_value, value_elements, part_elements, calls_of}
use Rattle.xmi_profile.proofs.WritingSteps.{values_some, some_cons}
use Rattle.object_tables.specs.declared.value.ObjId.{ObjId}
use Rattle.object_tables.specs.Ids.{object_ids}

-- ---- forms

-- such a form is one of a reference
abbrev pub is_reference : Form → Bool
is_reference forms.Attribute = false
is_reference forms.Elements = false
is_reference forms.Identifiers = true
is_reference forms.Parts = true
is_reference forms.Nesting = true

formed : (t c q u : Bool) → is_reference (cond t (cond c forms.Parts (cond q forms.Nesting forms.Identifiers)) (cond u forms.Attribute forms.Elements)) ≡ t
formed true true q u = refl
formed true false true u = refl
formed true false false u = refl
formed false c q true = refl
formed false c q false = refl

pub class_typed : (meta : MetaDesc) (p : ℕ) (f : Form) → form_of meta p ≡ f → is_class_type (type_of meta p) ≡ is_reference f
class_typed meta p f e =
    sym (formed (is_class_type (type_of meta p)) (prop_at meta p).composite (is_composite meta (opposite_of meta p)) (is_one (prop_at meta p).upper)) ∙ ap is_reference e

pub attribute_at : (m : ModelData) (o p : ℕ) (f : Form) → IsPropertyOf m o p → form_of m.meta p ≡ f → is_reference f ≡ false → IsAttributeOf m o p
attribute_at m o p f r e n = record { class = r.class; class_is = r.class_is; has = r.has; attribute = class_typed m.meta p f e ∙ n }

pub reference_at : (m : ModelData) (o p : ℕ) (f : Form) → IsPropertyOf m o p → form_of m.meta p ≡ f → is_reference f ≡ true → IsReferenceOf m o p
reference_at m o p f r e n = record { class = r.class; class_is = r.class_is; has = r.has; reference = class_typed m.meta p f e ∙ n }

pub form_from : (meta : MetaDesc) (p : ℕ) (class composite opposed one : Bool) → class ≡ is_class_type (type_of meta p) → composite ≡ (prop_at meta p).composite
    → opposed ≡ is_composite meta (opposite_of meta p) → one ≡ is_one (prop_at meta p).upper → chosen_form class composite opposed one ≡ form_of meta p
form_from meta p class composite opposed one a b c d =
    ap₂ (λ s t. chosen_form s t opposed one) a b ∙ ap₂ (λ s t. chosen_form (is_class_type (type_of meta p)) (prop_at meta p).composite s t) c d

pub attribute_known : (m : ModelData) (o p : ℕ) → IsAttributeOf m o p → p < prop_count m.meta
attribute_known m o p a = prop_known m.meta a.class p a.has

pub reference_known : (m : ModelData) (o p : ℕ) → IsReferenceOf m o p → p < prop_count m.meta
reference_known m o p a = prop_known m.meta a.class p a.has

pub property_known : (m : ModelData) (o p : ℕ) → IsPropertyOf m o p → p < prop_count m.meta
property_known m o p a = prop_known m.meta a.class p a.has

-- ---- values whose texts the metamodel tells

told : (meta : MetaDesc) (t : Option PropType) (v : Value) → is_value_of meta t v ≡ true → IsTold meta v
told meta t (values.Str text) h = tt
told meta t (values.Int i) h = tt
told meta t (values.Bool b) h = tt
told meta (Some (types.Enum e)) (values.Lit f n) h =
    let both = and_parts (e.0 == f.0) (nat_lt n (length (enum_at meta e.0).literals)) h in
    subst (λ (x : ℕ). n < length (enum_at meta x).literals) (eqb-true e.0 f.0 both.0) (ltb-true n _ both.1)
told meta None (values.Lit f n) h = absurd cc
told meta (Some types.Str) (values.Lit f n) h = absurd cc
told meta (Some types.Int) (values.Lit f n) h = absurd cc
told meta (Some types.Bool) (values.Lit f n) h = absurd cc
told meta (Some (types.Class c)) (values.Lit f n) h = absurd cc

pub value_told : (m : ModelData) (o p i : ℕ) (v : Value) (vs : List Value) → Kept m → IsAttributeOf m o p → vs ≡ values_at m o p → i < length vs → v ≡ get_or vs i v → IsTold m.meta v
value_told m o p i v vs k a e l at =
    told m.meta (type_of m.meta p) v
    (All-contains (λ v. IsTrue (is_value_of m.meta (type_of m.meta p) v)) (values_at m o p) v (k.attributes o p a).values.typed
    (subst (λ (xs : List Value). Contains xs v) e (i, l, sym at)))

-- ---- properties of an object's class

pub props_here : (m : ModelData) (o c : ℕ) (props : List PropId) → class_at m o ≡ Some c → prop_numbers props ≡ props_of m.meta c → prop_numbers props ≡ object_props m o
props_here m o c props e same = same ∙ ap (props_or_none m.meta) (sym e)

pub property_here : (m : ModelData) (o c i : ℕ) (props : List PropId) (p d : PropId) → class_at m o ≡ Some c → prop_numbers props ≡ props_of m.meta c → i < length props → p ≡ get_or props i d → IsPropertyOf m o p.0
property_here m o c i props p d e same l at =
    let len : length (prop_numbers props) ≡ length props = length-map props (λ p. p.0) in
    let number : get_or (prop_numbers props) i p.0 ≡ p.0 = get_or-map (λ p. p.0) props i d p.0 l ∙ ap (λ p. p.0) (sym at) in
    let inside : i < length (prop_numbers props) = omega arith in
    record {
      class = c;
      class_is = e;
      has = subst (λ (xs : List ℕ). Contains xs p.0) same (i, inside, number);
    }

-- ---- identifiers

abbrev id_of : ℕ → ObjId
id_of o = record { 0 = o }

pub spaced_more : (a b : List ℕ) (others : List (List ℕ)) → spaced_behind (a ++ b) others ≡ a ++ spaced_behind b others
spaced_more a b [] = refl
spaced_more a b (next ∷ others) = append_assoc a b (32 ∷ spaced_behind next others)

pub spaced_step : (m : ModelData) (text pushed new id : List ℕ) (left rest : List ObjId) (b : ObjId) (end : List ℕ) → left ≡ b ∷ rest → id_at m b.0 ≡ Some id → pushed ≡ text ++ 32 ∷ [] → new ≡ pushed ++ id
    → spaced_behind text (ids_of m left) ≡ end → spaced_behind new (ids_of m rest) ≡ end
spaced_step m text pushed new id left rest b end e at p n h =
    ap (λ x. spaced_behind x (ids_of m rest)) (n ∙ ap (λ x. x ++ id) p ∙ append_assoc text (32 ∷ []) id)
    ∙ spaced_more text (32 ∷ id) (ids_of m rest)
    ∙ ap (λ x. text ++ x) (spaced_more (32 ∷ []) id (ids_of m rest))
    ∙ ap (λ x. text ++ 32 ∷ spaced_behind x (ids_of m rest)) (sym (ap id_or_none at))
    ∙ ap (λ xs. spaced_behind text (ids_of m xs)) (sym e) ∙ h

-- ---- partners

pub first_live : (m : ModelData) (left : List ObjId) (b : ObjId) (rest : List ObjId) → left ≡ b ∷ rest → AreLive m left → IsLive m b.0
first_live m left b rest e live = (subst (AreLive m) e live) 0 b (omega arith)

pub rest_live : (m : ModelData) (left : List ObjId) (b : ObjId) (rest : List ObjId) → left ≡ b ∷ rest → AreLive m left → AreLive m rest
rest_live m left b rest e live k d l = (subst (AreLive m) e live) (suc k) d (omega arith)

pub ids_live : (m : ModelData) (ns : List ℕ) (os : List ObjId) → os ≡ object_ids ns → All (IsLive m) ns → AreLive m os
ids_live m ns os e live = subst (AreLive m) (sym e) (λ k d l.
    let len : length (object_ids ns) ≡ length ns = length-map ns (λ (o : ℕ). id_of o) in
    let short : k < length ns = omega arith in
    subst (IsLive m) (sym (ap (λ o. o.0) (get_or-map id_of ns k d.0 d short))) (live k d.0 short))

pub numbers_back : (ns : List ℕ) → map (λ o. o.0) (object_ids ns) ≡ ns
numbers_back [] = refl
numbers_back (n ∷ ns) = ap (λ xs. n ∷ xs) (numbers_back ns)

ids_back : (m : ModelData) (ns : List ℕ) → ids_of m (object_ids ns) ≡ map (id_text m) ns
ids_back m [] = refl
ids_back m (n ∷ ns) = ap (λ xs. id_text m n ∷ xs) (ids_back m ns)

pub partners_written : (m : ModelData) (p : ℕ) (ns : List ℕ) (os : List ObjId) (first : ObjId) (rest : List ObjId) → os ≡ object_ids ns → os ≡ first ∷ rest
    → partners_attr m p ns ≡ Attr (prop_name m.meta p) (spaced_behind (id_text m first.0) (ids_of m rest)) ∷ []
partners_written m p [] os first rest e f = absurd cc
partners_written m p (b ∷ bs) os first rest e f =
    let same : object_ids (b ∷ bs) ≡ first ∷ rest = sym e ∙ f in
    let head : b ≡ first.0 = ap (λ (xs : List ObjId). (get_or xs 0 first).0) same in
    let tail : object_ids bs ≡ rest = ap (λ (xs : List ObjId). drop 1 xs) same in
    ap₂ (λ n xs. Attr (prop_name m.meta p) (spaced_behind (id_text m n) xs) ∷ []) head (sym (ids_back m bs) ∙ ap (ids_of m) tail)

-- ---- top objects

first_or_none : (f : ℕ → List Call) (t : Bool) (o : ℕ) (os : List ℕ) → flat_map f (cond t (o ∷ os) os) ≡ cond t (f o) [] ++ flat_map f os
first_or_none f true o os = refl
first_or_none f false o os = refl

live_or_none : (m : ModelData) (t : Bool) (o : ℕ) (live : List ℕ) → flat_map (top_calls m) (filter (λ o. not (is_part m o)) (cond t (o ∷ live) live))
    ≡ cond (t && not (is_part m o)) (top_calls m o) [] ++ flat_map (top_calls m) (filter (λ o. not (is_part m o)) live)
live_or_none m true o live = first_or_none (top_calls m) (not (is_part m o)) o (filter (λ o. not (is_part m o)) live)
live_or_none m false o live = refl

pub tops_by_number : (m : ModelData) (os : List ℕ) → flat_map (top_calls m) (filter (λ o. not (is_part m o)) (filter (λ o. is_some (object_at m o)) os)) ≡ flat_map (calls_at m) os
tops_by_number m [] = refl
tops_by_number m (o ∷ os) =
    live_or_none m (is_some (object_at m o)) o (filter (λ o. is_some (object_at m o)) os) ∙ ap (λ rest. calls_at m o ++ rest) (tops_by_number m os)

pub number_next : (f : ℕ → List Call) (i n : ℕ) → i < n → flat_map f (range_with_len i (n - i)) ≡ f i ++ flat_map f (range_with_len (i + 1) (n - (i + 1)))
number_next f i n l =
    let one : n - i ≡ suc (n - (i + 1)) = omega arith in
    ap (λ k. flat_map f (range_with_len i k)) one

-- ---- the values of an attribute as elements

pub values_told : (m : ModelData) (meta : MetaDesc) (o p : ℕ) (vs : List Value) → Kept m → IsAttributeOf m o p → vs ≡ values_at m o p → meta ≡ m.meta → All (IsTold meta) vs
values_told m meta o p vs k a e same i d l = subst (λ x. IsTold x (get_or vs i d)) (sym same) (value_told m o p i (get_or vs i d) vs k a e l (get_or_default vs i d (get_or vs i d) l))

pub elements_same : (m : ModelData) (meta : MetaDesc) (depth o p : ℕ) (name : List ℕ) (vs : List Value) → meta ≡ m.meta → name ≡ prop_name m.meta p → vs ≡ values_at m o p
    → flat_map (text_value meta depth name) vs ≡ value_elements m depth o p
elements_same m meta depth o p name vs a b e =
    ap₂ (λ x y. flat_map (text_value x depth y) vs) a b ∙ ap (λ xs. flat_map (text_value m.meta depth (prop_name m.meta p)) xs) e

pub elements_some : (m : ModelData) (depth o p : ℕ) (vs : List Value) → vs ≡ values_at m o p → not (length vs == 0) ≡ has_some (value_elements m depth o p)
elements_some m depth o p vs e = ap (λ xs. not (length xs == 0)) e ∙ sym (values_some (value_element m.meta depth p) (values_at m o p) (λ v. some_cons (Line depth) (Open (prop_name m.meta p) ∷ Data (value_text m.meta v) ∷ Close ∷ [])))

-- ---- what is written of a property in child elements

pub elements_of : (m : ModelData) (levels o p : ℕ) (meta : MetaDesc) → meta ≡ m.meta → forms.Elements ≡ form_of meta p → calls_of m levels o p ≡ value_elements m (MAX_DEPTH - levels + 1) o p
elements_of m levels o p meta same e =
    ap (children_by m (suc (depth_over levels)) (object_calls m levels) o p) (ap (λ x. form_of x p) (sym same) ∙ sym e)
    ∙ ap (λ d. value_elements m d o p) (sym (add-one (MAX_DEPTH - levels)))

pub parts_of : (m : ModelData) (levels o p : ℕ) (meta : MetaDesc) → meta ≡ m.meta → forms.Parts ≡ form_of meta p → calls_of m levels o p ≡ part_elements m levels o p
parts_of m levels o p meta same e = ap (children_by m (suc (depth_over levels)) (object_calls m levels) o p) (ap (λ x. form_of x p) (sym same) ∙ sym e)

pub none_of : (m : ModelData) (levels o p : ℕ) (meta : MetaDesc) (f : Form) → meta ≡ m.meta → f ≡ form_of meta p → children_by m (suc (depth_over levels)) (object_calls m levels) o p f ≡ [] → calls_of m levels o p ≡ []
none_of m levels o p meta f same e none = ap (children_by m (suc (depth_over levels)) (object_calls m levels) o p) (ap (λ x. form_of x p) (sym same) ∙ sym e) ∙ none

-- ---- top objects, by number

pub no_top : (m : ModelData) (o : ℕ) (b : Bool) → b ≡ is_top_object m o → b ≡ false → calls_at m o ≡ []
no_top m o b e f = ap (λ t. cond t (top_calls m o) []) (sym e ∙ f)

pub top_here : (m : ModelData) (o : ℕ) (b : Bool) → b ≡ is_top_object m o → b ≡ true → calls_at m o ≡ top_calls m o
top_here m o b e f = ap (λ t. cond t (top_calls m o) []) (sym e ∙ f)

pub top_is_live : (m : ModelData) (o : ℕ) → is_top_object m o ≡ true → IsLive m o
top_is_live m o h = by (object_at m o) (and_parts (is_some (object_at m o)) (not (is_part m o)) h).0
  where
    by : (x : Option Object) → is_some x ≡ true → IsSome x
    by None e = absurd cc
    by (Some x) e = refl
