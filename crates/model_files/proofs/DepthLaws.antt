-- Models as values of JSON nest five levels at most, so their text is read back.
use Rattle.std.proofs.Common.{ℕ, ◌≤◌, List, [], ◌∷◌, map, arith}
use Rattle.std.specs.Prelude.{encode_utf8_all}
use Rattle.std.specs.Ordering.{match_ordering, nat_cmp}
use Rattle.std.specs.Cmp.Lexicographic.{slice_cmp}
use Rattle.std.specs.declared.cmp.Ordering.{Ordering}
use Rattle.std.specs.declared.cmp.Ordering.TheVariants.{Less, Equal, Greater}
use Rattle.serde_json.specs.Data.{Data, array, Members, no_members, member, put, depth, items_depth, members_depth}
use Rattle.serde_json.specs.Read.{max_depth}
use Rattle.serde_json.specs.View.{items_of}
use Rattle.mof_metamodel.specs.declared.desc.MetaDesc.{MetaDesc}
use Rattle.object_tables.specs.declared.value.Value.{Value}
use Rattle.object_tables.specs.declared.value.Value.TheVariants as values
use Rattle.object_tables.specs.Models.{ModelData, values_at, partners_at}
use Rattle.model_assembly.specs.declared.form.Form.{Form}
use Rattle.model_assembly.specs.declared.form.Form.TheVariants.{Attribute, Elements, Identifiers, Parts, Nesting}
use Rattle.model_assembly.specs.Forms.{form_of}
use Rattle.model_assembly.specs.Profile.{prop_name, object_props, live_numbers}
use Rattle.model_files.specs.CanonJson.{value_data, partner_data, data_by, slot_data, with_slot, with_slots, object_data, model_data}

items_below : {X : Type 0} (f : X → Data) (n : ℕ) → ((x : X) → depth (f x) ≤ n) → (xs : List X) → items_depth (items_of (map f xs)) ≤ n
items_below f n below [] = omega arith
items_below f n below (x ∷ xs) = let first = below x in let rest = items_below f n below xs in omega arith

value_below : (meta : MetaDesc) (v : Value) → depth (value_data meta v) ≤ 0
value_below meta (values.Str text) = omega arith
value_below meta (values.Int i) = omega arith
value_below meta (values.Bool b) = omega arith
value_below meta (values.Lit e n) = omega arith

data_below : (m : ModelData) (o p : ℕ) (form : Form) → items_depth (items_of (data_by m o p form)) ≤ 0
data_below m o p Attribute = items_below (value_data m.meta) 0 (value_below m.meta) (values_at m o p)
data_below m o p Elements = items_below (value_data m.meta) 0 (value_below m.meta) (values_at m o p)
data_below m o p Identifiers = items_below (partner_data m) 0 (λ b. omega arith) (partners_at m o p)
data_below m o p Parts = items_below (partner_data m) 0 (λ b. omega arith) (partners_at m o p)
data_below m o p Nesting = omega arith

put_by : (o : Ordering) (k l : List ℕ) (d e : Data) (ms : Members) (n : ℕ) → depth d ≤ n → depth e ≤ n → members_depth ms ≤ n → members_depth (put k d ms) ≤ n
    → members_depth (match_ordering o (member k d (member l e ms)) (member l d ms) (member l e (put k d ms))) ≤ n
put_by Less k l d e ms n f g h i = omega arith
put_by Equal k l d e ms n f g h i = omega arith
put_by Greater k l d e ms n f g h i = omega arith

put_below : (k : List ℕ) (d : Data) (ms : Members) (n : ℕ) → depth d ≤ n → members_depth ms ≤ n → members_depth (put k d ms) ≤ n
put_below k d no_members n f h = omega arith
put_below k d (member l e ms) n f h =
    let first : depth e ≤ n = omega arith in
    let rest : members_depth ms ≤ n = omega arith in
    put_by (slice_cmp nat_cmp k l) k l d e ms n f first rest (put_below k d ms n f rest)

slot_below : (name : List ℕ) (ds : List Data) (ms : Members) → items_depth (items_of ds) ≤ 0 → members_depth ms ≤ 1 → members_depth (with_slot name ds ms) ≤ 1
slot_below name [] ms f h = h
slot_below name (d ∷ ds) ms f h = put_below (encode_utf8_all name) (array (items_of (d ∷ ds))) ms 1 (omega arith) h

slots_below : (m : ModelData) (o : ℕ) (ps : List ℕ) (ms : Members) → members_depth ms ≤ 1 → members_depth (with_slots m o ps ms) ≤ 1
slots_below m o [] ms h = h
slots_below m o (p ∷ ps) ms h = slots_below m o ps _ (slot_below (prop_name m.meta p) (slot_data m o p) ms (data_below m o p (form_of m.meta p)) h)

object_below : (m : ModelData) (o : ℕ) → depth (object_data m o) ≤ 3
object_below m o = let slots = slots_below m o (object_props m o) no_members (omega arith) in omega arith

pub model_below : (m : ModelData) → depth (model_data m) ≤ max_depth
model_below m = let objects = items_below (object_data m) 3 (object_below m) (live_numbers m) in omega arith
