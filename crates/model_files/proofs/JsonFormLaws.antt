-- The value of JSON that a model is has the form of a model.
use Rattle.std.proofs.Common.{◌≡◌, ℕ, suc, Bool, true, List, [], ◌∷◌, map, refl, ap, ◌∙◌, Ordering, Less, Equal, Greater, nat_cmp, encode_utf8_all, Option, None}
use Rattle.std.specs.Cmp.Lexicographic.{slice_cmp}
use Rattle.std.specs.Option.{option_or}
use Rattle.std.specs.Ordering.{match_ordering}
use Rattle.serde_json.specs.Data.{Data, array, Members, no_members, member, put}
use Rattle.serde_json.specs.View.{items_of}
use Rattle.object_tables.specs.Models.{ModelData}
use Rattle.model_assembly.specs.Profile.{prop_name, object_props, live_numbers}
use Rattle.model_files.specs.CanonJson.{slot_data, with_slot, with_slots, slots_data, object_data, model_data}
use Rattle.model_files.specs.Shape.{Path, at_member, at_item, is_list, unless, amiss_slots_in, amiss_object, object_members, amiss_objects_in, first_amiss}
use Rattle.std.specs.Prelude.{codes}

-- each member is a list
abbrev AreLists : Members → Type 0
AreLists no_members = Unit {0}
AreLists (member name d ms) = (is_list d ≡ true) × AreLists ms

put_by : (o : Ordering) (k l : List ℕ) (d e : Data) (ms : Members) → is_list d ≡ true → is_list e ≡ true → AreLists ms → AreLists (put k d ms)
    → AreLists (match_ordering o (member k d (member l e ms)) (member l d ms) (member l e (put k d ms)))
put_by Less k l d e ms f g h i = (f, (g, h))
put_by Equal k l d e ms f g h i = (f, h)
put_by Greater k l d e ms f g h i = (g, i)

put_list : (k : List ℕ) (d : Data) (ms : Members) → is_list d ≡ true → AreLists ms → AreLists (put k d ms)
put_list k d no_members f h = (f, tt)
put_list k d (member l e ms) f h = put_by (slice_cmp nat_cmp k l) k l d e ms f h.0 h.1 (put_list k d ms f h.1)

slot_list : (name : List ℕ) (ds : List Data) (ms : Members) → AreLists ms → AreLists (with_slot name ds ms)
slot_list name [] ms h = h
slot_list name (d ∷ ds) ms h = put_list (encode_utf8_all name) (array (items_of (d ∷ ds))) ms refl h

slots_list : (m : ModelData) (o : ℕ) (ps : List ℕ) (ms : Members) → AreLists ms → AreLists (with_slots m o ps ms)
slots_list m o [] ms h = h
slots_list m o (p ∷ ps) ms h = slots_list m o ps _ (slot_list (prop_name m.meta p) (slot_data m o p) ms h)

lists_right : (path : Path) (ms : Members) → AreLists ms → amiss_slots_in path ms ≡ None
lists_right path no_members h = refl
lists_right path (member name d ms) h =
    ap (λ (b : Bool). option_or (unless b (at_member path name)) (amiss_slots_in path ms)) h.0 ∙ lists_right path ms h.1

object_right : (m : ModelData) (o : ℕ) (path : Path) → amiss_object object_members path (object_data m o) ≡ None
object_right m o path =
    ap (λ (x : Option Path). option_or x None) (lists_right (at_member path (codes "slots")) (slots_data m o) (slots_list m o (object_props m o) no_members tt))

objects_right : (m : ModelData) (os : List ℕ) (path : Path) (place : ℕ) → amiss_objects_in path place (items_of (map (object_data m) os)) ≡ None
objects_right m [] path place = refl
objects_right m (o ∷ os) path place =
    ap (λ (x : Option Path). option_or x (amiss_objects_in path (suc place) (items_of (map (object_data m) os)))) (object_right m o (at_item path place))
    ∙ objects_right m os path (suc place)

-- each model is written in the form of a model
pub written_right : (m : ModelData) → first_amiss (model_data m) ≡ None
written_right m = ap (λ (x : Option Path). option_or x None) (objects_right m (live_numbers m) (at_member [] (codes "objects")) 0)
