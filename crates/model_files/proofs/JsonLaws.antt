-- Models as values of JSON: they have no float, and their parts are made one after another.
use Rattle.std.proofs.Common.{◌≡◌, ℕ, suc, ◌+◌, ◌==◌, ◌<◌, ◌≤◌, ◌||◌, ◌&&◌, Bool, true, false, cond, nat_lt, ℤ, pos, negsuc, List, [], ◌∷◌, ◌++◌, map, length, get_or, drop, Option, None, Some, IsSome, IsTrue, Vec, Global, arith, refl, sym, ap, subst, ◌∙◌, true≢false, add-one, drop-cons}
use Rattle.std.specs.Prelude.{encode_utf8_all, filter, is_some, Contains, All}
use Rattle.std.specs.List.{range_with_len}
use Rattle.std.specs.Ordering.{match_ordering, nat_cmp}
use Rattle.std.specs.Cmp.Lexicographic.{slice_cmp}
use Rattle.std.specs.declared.cmp.Ordering.{Ordering}
use Rattle.std.specs.declared.cmp.Ordering.TheVariants.{Less, Equal, Greater}
use Rattle.std.proofs.lemmas.Bool.Decides.{nat_tests}
use Rattle.std.proofs.lemmas.List.{get_or-map, map_push, map-append, length-map}
use Rattle.std.proofs.Math.ListN.{drop_of_length-le}
use Rattle.std.proofs.lemmas.List.Elements.{All-map}
use Rattle.serde_json.specs.declared.value.Value as json
use Rattle.serde_json.specs.declared.value.Value.{Array}
use Rattle.serde_json.proofs.Views.{view-Array}
use Rattle.serde_json.specs.Data.{Data, array, Members, no_members, member, put}
use Rattle.serde_json.specs.Find.{is_float, of_integer}
use Rattle.serde_json.specs.View.{view, items_of}
use Rattle.serde_json.specs.Written.{has_float, items_have_float, members_have_float}
use Rattle.mof_metamodel.specs.declared.desc.MetaDesc.{MetaDesc}
use Rattle.mof_metamodel.specs.declared.desc.PropId.{PropId}
use Rattle.mof_metamodel.specs.declared.desc.PropType.{PropType}
use Rattle.mof_metamodel.specs.declared.desc.PropType.TheVariants as types
use Rattle.mof_metamodel.specs.Metamodels.{props_of, prop_at, type_of, opposite_of, enum_at}
use Rattle.mof_metamodel.specs.Tables.{prop_numbers}
use Rattle.mof_metamodel.proofs.WalkLemmas.{filter_step}
use Rattle.object_tables.specs.declared.value.ObjId.{ObjId}
use Rattle.object_tables.specs.declared.value.Value.{Value}
use Rattle.object_tables.specs.declared.value.Value.TheVariants as values
use Rattle.object_tables.specs.Ids.{object_ids}
use Rattle.object_tables.specs.Objects.{Object}
use Rattle.object_tables.specs.Models.{ModelData, IsLive, IsAttributeOf, IsReferenceOf, object_at, class_at, values_at, partners_at, is_class_type, is_value_of}
use Rattle.object_tables.specs.Validity.{IsPropertyOf}
use Rattle.model_assembly.specs.declared.form.Form.{Form}
use Rattle.model_assembly.specs.declared.form.Form.TheVariants.{Attribute, Elements, Identifiers, Parts, Nesting}
use Rattle.model_assembly.specs.Forms.{form_of, reference_form, attribute_form, is_composite, is_one}
use Rattle.model_assembly.specs.Profile.{prop_name, object_props, props_or_none, live_numbers}
use Rattle.model_files.specs.CanonJson.{value_data, partner_data, data_by, slot_data, with_slot, with_slots, slots_data, object_data, live_data, model_data}
use Rattle.model_files.specs.Literals.{names_literal}

-- ---- no float

first_false : (a b : Bool) → a || b ≡ false → a ≡ false
first_false true b e = e
first_false false b e = refl

rest_false : (a b : Bool) → a || b ≡ false → b ≡ false
rest_false true b e = absurd (true≢false e)
rest_false false b e = e

both_false : (a b : Bool) → a ≡ false → b ≡ false → a || b ≡ false
both_false true b e f = e
both_false false b e f = f

items_without : {X : Type 0} (f : X → Data) → ((x : X) → has_float (f x) ≡ false) → (xs : List X) → items_have_float (items_of (map f xs)) ≡ false
items_without f none [] = refl
items_without f none (x ∷ xs) = both_false _ _ (none x) (items_without f none xs)

integer_without : (i : ℤ) → is_float (of_integer i) ≡ false
integer_without (pos n) = refl
integer_without (negsuc n) = refl

value_without : (meta : MetaDesc) (v : Value) → has_float (value_data meta v) ≡ false
value_without meta (values.Str text) = refl
value_without meta (values.Int i) = integer_without i
value_without meta (values.Bool b) = refl
value_without meta (values.Lit e n) = refl

data_without : (m : ModelData) (o p : ℕ) (form : Form) → items_have_float (items_of (data_by m o p form)) ≡ false
data_without m o p Attribute = items_without (value_data m.meta) (value_without m.meta) (values_at m o p)
data_without m o p Elements = items_without (value_data m.meta) (value_without m.meta) (values_at m o p)
data_without m o p Identifiers = items_without (partner_data m) (λ b. refl) (partners_at m o p)
data_without m o p Parts = items_without (partner_data m) (λ b. refl) (partners_at m o p)
data_without m o p Nesting = refl

put_by : (o : Ordering) (k l : List ℕ) (d e : Data) (ms : Members) → has_float d ≡ false → has_float e ≡ false → members_have_float ms ≡ false → members_have_float (put k d ms) ≡ false
    → members_have_float (match_ordering o (member k d (member l e ms)) (member l d ms) (member l e (put k d ms))) ≡ false
put_by Less k l d e ms f g h i = both_false _ _ f (both_false _ _ g h)
put_by Equal k l d e ms f g h i = both_false _ _ f h
put_by Greater k l d e ms f g h i = both_false _ _ g i

put_without : (k : List ℕ) (d : Data) (ms : Members) → has_float d ≡ false → members_have_float ms ≡ false → members_have_float (put k d ms) ≡ false
put_without k d no_members f h = both_false _ _ f refl
put_without k d (member l e ms) f h =
    let g = first_false (has_float e) (members_have_float ms) h in
    let rest = rest_false (has_float e) (members_have_float ms) h in
    put_by (slice_cmp nat_cmp k l) k l d e ms f g rest (put_without k d ms f rest)

slot_without : (name : List ℕ) (ds : List Data) (ms : Members) → items_have_float (items_of ds) ≡ false → members_have_float ms ≡ false → members_have_float (with_slot name ds ms) ≡ false
slot_without name [] ms f h = h
slot_without name (d ∷ ds) ms f h = put_without (encode_utf8_all name) (array (items_of (d ∷ ds))) ms f h

slots_without : (m : ModelData) (o : ℕ) (ps : List ℕ) (ms : Members) → members_have_float ms ≡ false → members_have_float (with_slots m o ps ms) ≡ false
slots_without m o [] ms h = h
slots_without m o (p ∷ ps) ms h = slots_without m o ps _ (slot_without (prop_name m.meta p) (slot_data m o p) ms (data_without m o p (form_of m.meta p)) h)

object_without : (m : ModelData) (o : ℕ) → has_float (object_data m o) ≡ false
object_without m o = both_false _ _ (slots_without m o (object_props m o) no_members refl) refl

pub model_without : (m : ModelData) → has_float (model_data m) ≡ false
model_without m = both_false _ _ (items_without (object_data m) (object_without m) (live_numbers m)) refl

-- ---- literals

named_first : (a b : Bool) → a && b ≡ true → a ≡ true
named_first true b e = refl
named_first false b e = e

named_rest : (a b : Bool) → a && b ≡ true → b ≡ true
named_rest true b e = e
named_rest false b e = absurd (true≢false (sym e))

literal_named : (meta : MetaDesc) (e f : ℕ) (n : ℕ) → e ≡ f → nat_lt n (length (enum_at meta e).literals) ≡ true → nat_lt n (length (enum_at meta f).literals) ≡ true
literal_named meta e f n same h = ap (λ g. nat_lt n (length (enum_at meta g).literals)) (sym same) ∙ h

-- a literal that may stand at an attribute is one of its enumeration
named_where_typed : (meta : MetaDesc) (t : Option PropType) (v : Value) → is_value_of meta t v ≡ true → names_literal meta v ≡ true
named_where_typed meta t (values.Str text) h = refl
named_where_typed meta t (values.Int i) h = refl
named_where_typed meta t (values.Bool b) h = refl
named_where_typed meta (Some (types.Enum e)) (values.Lit f n) h =
    let same : e.0 == f.0 ≡ true = named_first _ _ h in
    literal_named meta e.0 f.0 n (grind (arith, nat_tests)) (named_rest (e.0 == f.0) _ h)
named_where_typed meta (Some types.Str) (values.Lit f n) h = absurd (true≢false (sym h))
named_where_typed meta (Some types.Int) (values.Lit f n) h = absurd (true≢false (sym h))
named_where_typed meta (Some types.Bool) (values.Lit f n) h = absurd (true≢false (sym h))
named_where_typed meta (Some (types.Class c)) (values.Lit f n) h = absurd (true≢false (sym h))
named_where_typed meta None (values.Lit f n) h = absurd (true≢false (sym h))

pub all_named : (meta : MetaDesc) (t : Option PropType) (vs : List Value) → All (λ v. IsTrue (is_value_of meta t v)) vs → All (λ v. IsTrue (names_literal meta v)) vs
all_named meta t vs h = λ k d l. named_where_typed meta t (get_or vs k d) (h k d l)

-- ---- partners

pub all_live : (m : ModelData) (ns : List ℕ) → All (IsLive m) ns → All (λ b. IsLive m b.0) (object_ids ns)
all_live m ns h = All-map (λ (b : ObjId). IsLive m b.0) (λ o. record { 0 = o }) ns h

pub partners_data : (m : ModelData) (ns : List ℕ) → map (λ (b : ObjId). partner_data m b.0) (object_ids ns) ≡ map (partner_data m) ns
partners_data m [] = refl
partners_data m (n ∷ ns) = ap (λ ds. partner_data m n ∷ ds) (partners_data m ns)

-- ---- forms

abbrev pub is_reference_form : Form → Bool
is_reference_form Attribute = false
is_reference_form Elements = false
is_reference_form Identifiers = true
is_reference_form Parts = true
is_reference_form Nesting = true

attribute_is : (one : Bool) → is_reference_form (cond one Attribute Elements) ≡ false
attribute_is true = refl
attribute_is false = refl

reference_is : (whole part : Bool) → is_reference_form (cond whole Parts (cond part Nesting Identifiers)) ≡ true
reference_is true part = refl
reference_is false true = refl
reference_is false false = refl

either_is : (b : Bool) (f g : Form) → is_reference_form f ≡ true → is_reference_form g ≡ false → is_reference_form (cond b f g) ≡ b
either_is true f g h k = h
either_is false f g h k = k

form_is : (meta : MetaDesc) (p : ℕ) → is_reference_form (form_of meta p) ≡ is_class_type (type_of meta p)
form_is meta p =
    either_is (is_class_type (type_of meta p)) (reference_form meta p) (attribute_form meta p)
    (reference_is (prop_at meta p).composite (is_composite meta (opposite_of meta p))) (attribute_is (is_one (prop_at meta p).upper))

-- a property whose form is that of an attribute is one, and so with references
pub attribute_at : (m : ModelData) (o p : ℕ) (f g : Form) → f ≡ form_of m.meta p → f ≡ g → is_reference_form g ≡ false → IsPropertyOf m o p → IsAttributeOf m o p
attribute_at m o p f g e is r h =
    record { class = h.class; class_is = h.class_is; has = h.has; attribute = sym (form_is m.meta p) ∙ ap is_reference_form (sym e ∙ is) ∙ r }

pub reference_at : (m : ModelData) (o p : ℕ) (f g : Form) → f ≡ form_of m.meta p → f ≡ g → is_reference_form g ≡ true → IsPropertyOf m o p → IsReferenceOf m o p
reference_at m o p f g e is r h =
    record { class = h.class; class_is = h.class_is; has = h.has; reference = sym (form_is m.meta p) ∙ ap is_reference_form (sym e ∙ is) ∙ r }

-- what stands in a slot, by its form
pub slot_is : (m : ModelData) (o p : ℕ) (f g : Form) → f ≡ form_of m.meta p → f ≡ g → data_by m o p g ≡ slot_data m o p
slot_is m o p f g e is = ap (data_by m o p) (sym is ∙ e)

-- ---- slots

pub slot_empty : (name : List ℕ) (ds : List Data) (slots : Members) → ds ≡ [] → slots ≡ with_slot name ds slots
slot_empty name [] slots e = refl
slot_empty name (d ∷ ds) slots e = absurd (cc)

pub slot_filled : (name : List ℕ) (ds : List Data) (slots : Members) → (ds ≡ [] → ⊥) → put (encode_utf8_all name) (array (items_of ds)) slots ≡ with_slot name ds slots
slot_filled name [] slots h = absurd (h refl)
slot_filled name (d ∷ ds) slots h = refl

no_views : (vs : List json.Value) → map view vs ≡ [] → vs ≡ []
no_views [] e = refl
no_views (v ∷ vs) e = absurd (cc)

pub nothing_put : (m : ModelData) (o p : ℕ) (vs : List json.Value) (slots : Members) → map view vs ≡ slot_data m o p → vs ≡ [] → slots ≡ with_slot (prop_name m.meta p) (slot_data m o p) slots
nothing_put m o p vs slots is e = slot_empty (prop_name m.meta p) (slot_data m o p) slots (sym is ∙ ap (map view) e)

pub slot_put : (m : ModelData) (o p : ℕ) (vs : List json.Value) (vec : Vec json.Value Global) (key : List ℕ) (old new : Members)
    → map view vs ≡ slot_data m o p → vec.items ≡ vs → (vs ≡ [] → ⊥) → key ≡ encode_utf8_all (prop_name m.meta p) → new ≡ put key (view (Array vec)) old
    → new ≡ with_slot (prop_name m.meta p) (slot_data m o p) old
slot_put m o p vs vec key old new is items some named made =
    let value : view (Array vec) ≡ array (items_of (slot_data m o p)) = view-Array vec ∙ ap (λ ds. array (items_of (map view ds))) items ∙ ap (λ ds. array (items_of ds)) is in
    made ∙ ap (λ k. put k (view (Array vec)) old) named ∙ ap (λ d. put (encode_utf8_all (prop_name m.meta p)) d old) value
    ∙ slot_filled (prop_name m.meta p) (slot_data m o p) old (λ e. some (no_views vs (is ∙ e)))

-- one more slot
pub slots_step : (m : ModelData) (o : ℕ) (items : List PropId) (i : ℕ) (d : PropId) (p : ℕ) (old new : Members) → i < length items → (get_or items i d).0 ≡ p
    → new ≡ with_slot (prop_name m.meta p) (slot_data m o p) old
    → with_slots m o (drop (i + 1) (prop_numbers items)) new ≡ with_slots m o (drop i (prop_numbers items)) old
slots_step m o items i d p old new short is made =
    let ps = prop_numbers items in
    let within : i < length ps = omega (arith, length-map items (λ (q : PropId). q.0)) in
    let head : get_or ps i 0 ≡ p = get_or-map (λ (q : PropId). q.0) items i d 0 short ∙ is in
    let cut : drop i ps ≡ p ∷ drop (i + 1) ps = drop-cons ps i 0 within ∙ ap (λ x. x ∷ drop (suc i) ps) head ∙ ap (λ k. p ∷ drop k ps) (sym (add-one i)) in
    ap (with_slots m o (drop (i + 1) ps)) made ∙ sym (ap (λ qs. with_slots m o qs old) cut)

pub slots_begin : (m : ModelData) (o c : ℕ) (items : List PropId) → class_at m o ≡ Some c → prop_numbers items ≡ props_of m.meta c
    → with_slots m o (prop_numbers items) no_members ≡ slots_data m o
slots_begin m o c items class numbers = ap (λ ps. with_slots m o ps no_members) (numbers ∙ sym (ap (props_or_none m.meta) class))

pub slots_end : (m : ModelData) (o : ℕ) (items : List PropId) (i : ℕ) (slots : Members) → length items ≤ i → with_slots m o (drop i (prop_numbers items)) slots ≡ slots_data m o → slots ≡ slots_data m o
slots_end m o items i slots past is =
    let all : length (prop_numbers items) ≤ i = omega (arith, length-map items (λ (q : PropId). q.0)) in
    sym (ap (λ ps. with_slots m o ps slots) (drop_of_length-le (prop_numbers items) all)) ∙ is

-- a property of the object's class
pub property_at : (m : ModelData) (o c : ℕ) (items : List PropId) (i : ℕ) (d : PropId) (p : ℕ) → class_at m o ≡ Some c → prop_numbers items ≡ props_of m.meta c
    → i < length items → (get_or items i d).0 ≡ p → IsPropertyOf m o p
property_at m o c items i d p class numbers short is =
    let within : i < length (prop_numbers items) = omega (arith, length-map items (λ (q : PropId). q.0)) in
    record { class = c; class_is = class; has = subst (λ ps. Contains ps p) numbers (i, within, get_or-map (λ (q : PropId). q.0) items i d p short ∙ is) }

-- ---- objects

abbrev pub live_below : ModelData → ℕ → List ℕ
live_below m n = filter (λ o. is_some (object_at m o)) (range_with_len 0 n)

is_gone : (o : Option Object) → (IsSome o → ⊥) → is_some o ≡ false
is_gone None h = refl
is_gone (Some x) h = absurd (h refl)

pub live_is : (m : ModelData) (n : ℕ) → IsLive m n → live_data m n ≡ object_data m n ∷ []
live_is m n live = ap (λ b. cond b (object_data m n ∷ []) []) live

pub gone_is : (m : ModelData) (n : ℕ) → (IsLive m n → ⊥) → live_data m n ≡ []
gone_is m n gone = ap (λ b. cond b (object_data m n ∷ []) []) (is_gone (object_at m n) gone)

here : (m : ModelData) (n : ℕ) (b : Bool) → map (object_data m) (cond b (n ∷ []) []) ≡ cond b (object_data m n ∷ []) []
here m n true = refl
here m n false = refl

pub objects_more : (m : ModelData) (n : ℕ) (olds news : List Data) → news ≡ olds ++ live_data m n → olds ≡ map (object_data m) (live_below m n)
    → news ≡ map (object_data m) (live_below m (n + 1))
objects_more m n olds news made so_far =
    made ∙ ap (λ ds. ds ++ live_data m n) so_far ∙ ap (λ ds. map (object_data m) (live_below m n) ++ ds) (sym (here m n (is_some (object_at m n))))
    ∙ sym (ap (map (object_data m)) (filter_step (λ o. is_some (object_at m o)) n) ∙ map-append (object_data m) (live_below m n) (cond (is_some (object_at m n)) (n ∷ []) []))

pub pushed_data : (m : ModelData) (n : ℕ) (olds news : List json.Value) (v : json.Value) → news ≡ olds ++ v ∷ [] → view v ≡ object_data m n → IsLive m n
    → map view news ≡ map view olds ++ live_data m n
pushed_data m n olds news v made is live =
    ap (map view) made ∙ map_push view olds v ∙ ap (λ d. map view olds ++ d ∷ []) is ∙ ap (λ ds. map view olds ++ ds) (sym (live_is m n live))
