-- The numbers of a value of JSON that was read: a negative one that is no float fits 64 bits.
use Rattle.std.proofs.Common.{◌≡◌, ℕ, zero, suc, ◌^◌, ◌≤◌, Bool, true, false, cond, List, [], ◌∷◌, map, refl, subst, Option, None, Some}
use Rattle.std.specs.Prelude.{◌==◌, ◌&&◌, nat_lt, nat_le, negsuc, codes, drop, slice_index}
use Rattle.std.specs.List.{AllByRecursion}
use Rattle.std.specs.Option.{option_map, option_and_then}
use Rattle.std.specs.Ordering.{nat_cmp, match_ordering}
use Rattle.std.specs.Cmp.Lexicographic.{slice_cmp}
use Rattle.std.specs.declared.cmp.Ordering.{Ordering}
use Rattle.std.specs.declared.cmp.Ordering.TheVariants.{Less, Equal, Greater}
use Rattle.std.proofs.lemmas.Bool.{and_parts, leb-true}
use Rattle.fast_float.specs.Text.{minus, Parts, scan, digits_of, nearest, with_sign}
use Rattle.std.specs.Float.{binary64, float_is_finite}
use Rattle.json.specs.Json as json
use Rattle.json.specs.Lex.{tokens}
use Rattle.serde_json.specs.Data.{Num, unsigned, negative, float, Data, null, boolean, number, string, array, object, Items, no_items, item, Members, no_members, member, put}
use Rattle.serde_json.specs.Find.{get_member}
use Rattle.serde_json.specs.Read.{is_integer, float_of, number_from, number_of, of_json, of_items, of_members, read, max_depth}
use Rattle.model_files.specs.JsonContent.{Written, items_list, in_list, slots_list, in_slots, slots_of, written_of, list_at, objects_of}
use Rattle.model_files.specs.JsonText.{without_mark, in_utf8, value_in}
use Rattle.std.proofs.lemmas.Option.{same_Some}

-- a negative integer is one of 64 bits
abbrev pub FitsNumber : Num → Type 0
FitsNumber (unsigned n) = Unit {0}
FitsNumber (negative z) = (k : ℕ) × (z ≡ negsuc k) × (suc k ≤ 2 ^ 63)
FitsNumber (float x) = Unit {0}

abbrev mutual
  pub Fits : Data → Type 0
  Fits null = Unit {0}
  Fits (boolean b) = Unit {0}
  Fits (number n) = FitsNumber n
  Fits (string s) = Unit {0}
  Fits (array ds) = ItemsFit ds
  Fits (object ms) = MembersFit ms

  pub ItemsFit : Items → Type 0
  ItemsFit no_items = Unit {0}
  ItemsFit (item d ds) = Fits d × ItemsFit ds

  pub MembersFit : Members → Type 0
  MembersFit no_members = Unit {0}
  MembersFit (member k d ms) = Fits d × MembersFit ms

below_zero : (n : ℕ) → nat_lt 0 n ≡ true → nat_le n (2 ^ 63) ≡ true → FitsNumber (negative (with_sign true n))
below_zero zero l h = absurd cc
below_zero (suc k) l h = (k, refl, leb-true (suc k) (2 ^ 63) h)

float_fits : (sign : Bool) (p : Parts) (n : Num) → float_of sign p ≡ Some n → FitsNumber n
float_fits sign p n e = by (float_is_finite (nearest binary64 sign p)) e
  where
    by : (b : Bool) → cond b (Some (float (nearest binary64 sign p))) None ≡ Some n → FitsNumber n
    by true f = subst FitsNumber (same_Some _ _ f) tt
    by false f = absurd cc

number_fits_from : (sign : Bool) (p : Parts) (n : Num) → number_from sign p ≡ Some n → FitsNumber n
number_fits_from false p n e = by (is_integer p && nat_lt (digits_of p) (2 ^ 64)) e
  where
    by : (b : Bool) → cond b (Some (unsigned (digits_of p))) (float_of false p) ≡ Some n → FitsNumber n
    by true f = subst FitsNumber (same_Some _ _ f) tt
    by false f = float_fits false p n f
number_fits_from true p n e = by (is_integer p && nat_lt 0 (digits_of p) && nat_le (digits_of p) (2 ^ 63)) refl e
  where
    by : (b : Bool) → (is_integer p && nat_lt 0 (digits_of p) && nat_le (digits_of p) (2 ^ 63)) ≡ b
        → cond b (Some (negative (with_sign true (digits_of p)))) (float_of true p) ≡ Some n → FitsNumber n
    by true g f =
        let both = and_parts (is_integer p && nat_lt 0 (digits_of p)) (nat_le (digits_of p) (2 ^ 63)) g in
        subst FitsNumber (same_Some _ _ f) (below_zero (digits_of p) (and_parts (is_integer p) (nat_lt 0 (digits_of p)) both.0).1 both.1)
    by false g f = float_fits true p n f

number_fits : (s : List ℕ) (n : Num) → number_of s ≡ Some n → FitsNumber n
unfolding number_of
number_fits s n e = by (slice_index s 0 == minus) e
  where
    by : (b : Bool) → cond b (number_from true (scan (drop 1 s))) (number_from false (scan s)) ≡ Some n → FitsNumber n
    by true f = number_fits_from true (scan (drop 1 s)) n f
    by false f = number_fits_from false (scan s) n f

-- ---- values

put_by : (o : Ordering) (k l : List ℕ) (d e : Data) (ms : Members) → Fits d → Fits e → MembersFit ms → MembersFit (put k d ms)
    → MembersFit (match_ordering o (member k d (member l e ms)) (member l d ms) (member l e (put k d ms)))
put_by Less k l d e ms f g h i = (f, (g, h))
put_by Equal k l d e ms f g h i = (f, h)
put_by Greater k l d e ms f g h i = (g, i)

put_fits : (k : List ℕ) (d : Data) (ms : Members) → Fits d → MembersFit ms → MembersFit (put k d ms)
put_fits k d no_members f h = (f, tt)
put_fits k d (member l e ms) f h = put_by (slice_cmp nat_cmp k l) k l d e ms f h.0 h.1 (put_fits k d ms f h.1)

mapped : {X Y : Type 0} (f : X → Y) (o : Option X) (y : Y) → option_map f o ≡ Some y → (x : X) × (o ≡ Some x) × (f x ≡ y)
mapped f None y e = absurd cc
mapped f (Some x) y e = (x, refl, same_Some _ _ e)

chained : {X Y : Type 0} (f : X → Option Y) (o : Option X) (y : Y) → option_and_then f o ≡ Some y → (x : X) × (o ≡ Some x) × (f x ≡ Some y)
chained f None y e = absurd cc
chained f (Some x) y e = (x, refl, e)

mutual
  json_fits : (j : json.Json) (d : Data) → of_json j ≡ Some d → Fits d
  json_fits json.null d e = subst Fits (same_Some _ _ e) tt
  json_fits (json.boolean b) d e = subst Fits (same_Some _ _ e) tt
  json_fits (json.number s) d e = let n = mapped number (number_of s) d e in subst Fits n.2 (number_fits s n.0 n.1)
  json_fits (json.string s) d e = subst Fits (same_Some _ _ e) tt
  json_fits (json.array js) d e = let ds = mapped array (of_items js) d e in subst Fits ds.2 (items_fit js ds.0 ds.1)
  json_fits (json.object ms) d e = let found = mapped object (of_members ms no_members) d e in subst Fits found.2 (members_fit ms no_members found.0 tt found.1)

  items_fit : (js : json.Items) (ds : Items) → of_items js ≡ Some ds → ItemsFit ds
  items_fit json.no_items ds e = subst ItemsFit (same_Some _ _ e) tt
  items_fit (json.item j js) ds e =
      let first = chained (λ d. option_map (item d) (of_items js)) (of_json j) ds e in
      let rest = mapped (item first.0) (of_items js) ds first.2 in
      subst ItemsFit rest.2 (json_fits j first.0 first.1, items_fit js rest.0 rest.1)

  members_fit : (ms : json.Members) (found all : Members) → MembersFit found → of_members ms found ≡ Some all → MembersFit all
  members_fit json.no_members found all f e = subst MembersFit (same_Some _ _ e) f
  members_fit (json.member k j ms) found all f e =
      let first = chained (λ d. of_members ms (put k d found)) (of_json j) all e in
      members_fit ms (put k first.0 found) all (put_fits k first.0 found (json_fits j first.0 first.1) f) first.2

-- a value that was read fits
pub value_fits : (bytes : List ℕ) (d : Data) → value_in bytes ≡ Some d → Fits d
value_fits bytes d e =
    let text = chained read (in_utf8 (without_mark bytes)) d e in
    let tree = chained of_json (option_and_then (λ p. json.if_last p.0 p.1) (json.value max_depth (tokens text.0))) d text.2 in
    json_fits tree.0 d tree.2

-- ---- the items of its slots

abbrev pub SlotFits : List ℕ × List Data → Type 0
SlotFits slot = AllByRecursion Fits slot.1

abbrev pub ObjectFits : Written → Type 0
ObjectFits written = AllByRecursion SlotFits written.slots

abbrev OptionFits : Option Data → Type 0
OptionFits None = Unit {0}
OptionFits (Some d) = Fits d

member_by : (o : Ordering) (found : Option Data) (e : Data) → OptionFits found → Fits e → OptionFits (match_ordering o found (Some e) found)
member_by Less found e f g = f
member_by Equal found e f g = g
member_by Greater found e f g = f

member_fits : (k : List ℕ) (ms : Members) → MembersFit ms → OptionFits (get_member k ms)
member_fits k no_members f = tt
member_fits k (member l e ms) f = member_by (slice_cmp nat_cmp k l) (get_member k ms) e (member_fits k ms f.1) f.0

items_all : (ds : Items) → ItemsFit ds → AllByRecursion Fits (items_list ds)
items_all no_items f = tt
items_all (item d ds) f = (f.0, items_all ds f.1)

list_fits : (d : Data) → Fits d → AllByRecursion Fits (in_list d)
list_fits null f = tt
list_fits (boolean b) f = tt
list_fits (number n) f = tt
list_fits (string s) f = tt
list_fits (array ds) f = items_all ds f
list_fits (object ms) f = tt

slots_all : (ms : Members) → MembersFit ms → AllByRecursion SlotFits (slots_list ms)
slots_all no_members f = tt
slots_all (member k d ms) f = (list_fits d f.0, slots_all ms f.1)

slots_in_fit : (d : Data) → Fits d → AllByRecursion SlotFits (in_slots d)
slots_in_fit null f = tt
slots_in_fit (boolean b) f = tt
slots_in_fit (number n) f = tt
slots_in_fit (string s) f = tt
slots_in_fit (array ds) f = tt
slots_in_fit (object ms) f = slots_all ms f

slots_fit : (o : Option Data) → OptionFits o → AllByRecursion SlotFits (slots_of o)
slots_fit None f = tt
slots_fit (Some d) f = slots_in_fit d f

written_fits : (d : Data) → Fits d → ObjectFits (written_of d)
written_fits null f = tt
written_fits (boolean b) f = tt
written_fits (number n) f = tt
written_fits (string s) f = tt
written_fits (array ds) f = tt
written_fits (object ms) f = slots_fit (get_member (codes "slots") ms) (member_fits (codes "slots") ms f)

each_written : (ds : List Data) → AllByRecursion Fits ds → AllByRecursion ObjectFits (map written_of ds)
each_written [] f = tt
each_written (d ∷ ds) f = (written_fits d f.0, each_written ds f.1)

list_at_fits : (o : Option Data) → OptionFits o → AllByRecursion Fits (list_at o)
list_at_fits None f = tt
list_at_fits (Some d) f = list_fits d f

pub objects_fit : (d : Data) → Fits d → AllByRecursion ObjectFits (objects_of d)
objects_fit null f = tt
objects_fit (boolean b) f = tt
objects_fit (number n) f = tt
objects_fit (string s) f = tt
objects_fit (array ds) f = tt
objects_fit (object ms) f = each_written (list_at (get_member (codes "objects") ms)) (list_at_fits (get_member (codes "objects") ms) (member_fits (codes "objects") ms f))
