-- The objects of a value of JSON that was read have each name once: so have the slots of the objects of a model.
use Rattle.std.proofs.Common.{◌≡◌, ℕ, zero, suc, Bool, true, false, cond, List, [], ◌∷◌, length, map, chars, encode_utf8_all, IsUtf8, refl, sym, ap, ◌∙◌, subst, Option, None, Some}
use Rattle.std.specs.Prelude.{codes}
use Rattle.std.specs.List.{AllByRecursion}
use Rattle.std.specs.Option.{option_map, option_and_then}
use Rattle.std.specs.Ordering.{nat_cmp, match_ordering}
use Rattle.std.specs.Cmp.Lexicographic.{slice_cmp}
use Rattle.std.specs.Str.{is_utf8}
use Rattle.std.specs.declared.cmp.Ordering.{Ordering}
use Rattle.std.specs.declared.cmp.Ordering.TheVariants.{Less, Equal, Greater}
use Rattle.std.proofs.lemmas.Str.{IsUtf8-from_is_utf8, encodes-chars}
use Rattle.json.specs.Json as json
use Rattle.json.specs.Lex.{tokens}
use Rattle.json.specs.Token.{Token, begin_object, end_object, begin_array, end_array, key, string, number, boolean, null, bad}
use Rattle.serde_json.specs.Data as values
use Rattle.serde_json.specs.Data.{Data, Items, no_items, item, Members, no_members, member, put}
use Rattle.serde_json.specs.Find.{get_member}
use Rattle.serde_json.specs.Read.{number_of, of_json, of_items, of_members, read, max_depth}
use Rattle.model_files.specs.JsonContent.{Written, items_list, in_list, in_slots, slots_of, written_of, list_at, objects_of}
use Rattle.model_files.specs.JsonFiled.{AreApart, HasApart}
use Rattle.model_files.specs.JsonText.{without_mark, in_utf8, value_in}
use Rattle.model_files.proofs.JsonStringLaws.{IsWellToken, AreWellTokens, tokens_well}
use Rattle.model_files.proofs.read_back.Members.{AreInOrder, AreSpelled, IsSpelled, put_each, put_order, slots_apart}
use Rattle.std.proofs.lemmas.Option.{same_Some}

mapped : {X Y : Type 0} (f : X → Y) (o : Option X) (y : Y) → option_map f o ≡ Some y → (x : X) × (o ≡ Some x) × (f x ≡ y)
mapped f None y e = absurd cc
mapped f (Some x) y e = (x, refl, same_Some _ _ e)

chained : {X Y : Type 0} (f : X → Option Y) (o : Option X) (y : Y) → option_and_then f o ≡ Some y → (x : X) × (o ≡ Some x) × (f x ≡ Some y)
chained f None y e = absurd cc
chained f (Some x) y e = (x, refl, e)

-- ---- the names of a value of the grammar are in UTF-8

abbrev mutual
  IsNamed : json.Json → Type 0
  IsNamed json.null = Unit {0}
  IsNamed (json.boolean b) = Unit {0}
  IsNamed (json.number s) = Unit {0}
  IsNamed (json.string s) = Unit {0}
  IsNamed (json.array js) = ItemsNamed js
  IsNamed (json.object ms) = MembersNamed ms

  ItemsNamed : json.Items → Type 0
  ItemsNamed json.no_items = Unit {0}
  ItemsNamed (json.item j js) = IsNamed j × ItemsNamed js

  MembersNamed : json.Members → Type 0
  MembersNamed json.no_members = Unit {0}
  MembersNamed (json.member k j ms) = IsUtf8 k × IsNamed j × MembersNamed ms

-- what is parsed of tokens whose strings are in UTF-8, and what is left of them
abbrev Parsed : {A : Type 0} → (A → Type 0) → json.Parse A → Type 0
Parsed {A = A} P f = (ts : List Token) (a : A) (rest : List Token) → AreWellTokens ts → f ts ≡ Some (a, rest) → P a × AreWellTokens rest

given : {A : Type 0} (P : A → Type 0) (a b : A) (ts rest : List Token) → P a → AreWellTokens ts → ◌≡◌ {A = Option (A × List Token)} (Some (a, ts)) (Some (b, rest)) → P b × AreWellTokens rest
given {A = A} P a b ts rest p h e =
    let x : A × List Token = (a, ts) in
    let y : A × List Token = (b, rest) in
    let same : x ≡ y = same_Some x y e in
    (subst P (ap (λ (z : A × List Token). z.0) same) p, subst AreWellTokens (ap (λ (z : A × List Token). z.1) same) h)

parse_mapped : {A B : Type 0} (P : A → Type 0) (Q : B → Type 0) (f : A → B) → ((a : A) → P a → Q (f a)) → (o : Option (A × List Token)) (b : B) (rest : List Token)
    → ((a : A) (left : List Token) → o ≡ Some (a, left) → P a × AreWellTokens left) → json.parse_map f o ≡ Some (b, rest) → Q b × AreWellTokens rest
parse_mapped P Q f g None b rest h e = absurd cc
parse_mapped P Q f g (Some (a, left)) b rest h e = (let both = h a left refl in given Q (f a) b left rest (g a both.0) both.1 e)

after_well : (ts rest : List Token) → AreWellTokens ts → json.after_end_array ts ≡ Some rest → AreWellTokens rest
after_well [] rest h e = absurd cc
after_well (begin_object ∷ ts) rest h e = absurd cc
after_well (end_object ∷ ts) rest h e = absurd cc
after_well (begin_array ∷ ts) rest h e = absurd cc
after_well (end_array ∷ ts) rest h e = subst AreWellTokens (same_Some ts rest e) h.1
after_well (key s ∷ ts) rest h e = absurd cc
after_well (string s ∷ ts) rest h e = absurd cc
after_well (number s ∷ ts) rest h e = absurd cc
after_well (boolean b ∷ ts) rest h e = absurd cc
after_well (null ∷ ts) rest h e = absurd cc
after_well (bad ∷ ts) rest h e = absurd cc

items_named : (value : json.Parse json.Json) → Parsed IsNamed value → (n : ℕ) → Parsed ItemsNamed (json.items value n)
unfolding json.items
items_named value h zero ts a rest well e = absurd cc
items_named value h (suc n) ts a rest well e = by (items_named value h n) (json.after_end_array ts) refl e
  where
    by : Parsed ItemsNamed (json.items value n) → (o : Option (List Token)) → json.after_end_array ts ≡ o → json.items_step value (json.items value n) ts o ≡ Some (a, rest) → ItemsNamed a × AreWellTokens rest
    by others (Some left) f g = given ItemsNamed json.no_items a left rest tt (after_well ts left well f) g
    by others None f g =
        let (p, is, more) = chained (λ p. json.parse_map (json.item p.0) (json.items value n p.1)) (value ts) (a, rest) g in
        let first = h ts p.0 p.1 well is in
        parse_mapped ItemsNamed ItemsNamed (json.item p.0) (λ js k. (first.0, k)) (json.items value n p.1) a rest (λ js left k. others p.1 js left first.1 k) more

abbrev KeyNamed : Option (List ℕ) → Type 0
KeyNamed None = Unit {0}
KeyNamed (Some k) = IsUtf8 k

key_named : Parsed KeyNamed json.read_key
key_named [] a rest h e = absurd cc
key_named (begin_object ∷ ts) a rest h e = absurd cc
key_named (end_object ∷ ts) a rest h e = given KeyNamed None a ts rest tt h.1 e
key_named (begin_array ∷ ts) a rest h e = absurd cc
key_named (end_array ∷ ts) a rest h e = absurd cc
key_named (key s ∷ ts) a rest h e = given KeyNamed (Some s) a ts rest h.0 h.1 e
key_named (string s ∷ ts) a rest h e = absurd cc
key_named (number s ∷ ts) a rest h e = absurd cc
key_named (boolean b ∷ ts) a rest h e = absurd cc
key_named (null ∷ ts) a rest h e = absurd cc
key_named (bad ∷ ts) a rest h e = absurd cc

members_named : (value : json.Parse json.Json) → Parsed IsNamed value → (n : ℕ) → Parsed MembersNamed (json.members value n)
unfolding json.members
members_named value h zero ts a rest well e = absurd cc
members_named value h (suc n) ts a rest well e =
    let (p, is, more) = chained (λ p. json.members_step value (json.members value n) p.0 p.1) (json.read_key ts) (a, rest) e in
    let first = key_named ts p.0 p.1 well is in
    by (members_named value h n) p.0 p.1 first.0 first.1 more
  where
    by : Parsed MembersNamed (json.members value n) → (k : Option (List ℕ)) (left : List Token) → KeyNamed k → AreWellTokens left → json.members_step value (json.members value n) k left ≡ Some (a, rest) → MembersNamed a × AreWellTokens rest
    by others None left named w g = given MembersNamed json.no_members a left rest tt w g
    by others (Some k) left named w g =
        let (q, at, last) = chained (λ q. json.parse_map (json.member k q.0) (json.members value n q.1)) (value left) (a, rest) g in
        let here = h left q.0 q.1 w at in
        parse_mapped MembersNamed MembersNamed (json.member k q.0) (λ ms m. (named, here.0, m)) (json.members value n q.1) a rest (λ ms more_left m. others q.1 ms more_left here.1 m) last

value_with_named : (a : json.Parse json.Items) (o : json.Parse json.Members) → Parsed ItemsNamed a → Parsed MembersNamed o → Parsed IsNamed (json.value_with a o)
value_with_named a o f g [] j rest h e = absurd cc
value_with_named a o f g (begin_object ∷ ts) j rest h e = parse_mapped MembersNamed IsNamed json.object (λ ms m. m) (o ts) j rest (λ ms left m. g ts ms left h.1 m) e
value_with_named a o f g (end_object ∷ ts) j rest h e = absurd cc
value_with_named a o f g (begin_array ∷ ts) j rest h e = parse_mapped ItemsNamed IsNamed json.array (λ js m. m) (a ts) j rest (λ js left m. f ts js left h.1 m) e
value_with_named a o f g (end_array ∷ ts) j rest h e = absurd cc
value_with_named a o f g (key s ∷ ts) j rest h e = absurd cc
value_with_named a o f g (string s ∷ ts) j rest h e = given IsNamed (json.string s) j ts rest tt h.1 e
value_with_named a o f g (number s ∷ ts) j rest h e = given IsNamed (json.number s) j ts rest tt h.1 e
value_with_named a o f g (boolean b ∷ ts) j rest h e = given IsNamed (json.boolean b) j ts rest tt h.1 e
value_with_named a o f g (null ∷ ts) j rest h e = given IsNamed json.null j ts rest tt h.1 e
value_with_named a o f g (bad ∷ ts) j rest h e = absurd cc

value_named : (n : ℕ) → Parsed IsNamed (json.value n)
unfolding json.value
value_named zero = value_with_named (λ ts. None) (λ ts. None) (λ ts a rest h e. absurd cc) (λ ts a rest h e. absurd cc)
value_named (suc n) =
    value_with_named (λ ts. json.items (json.value n) (length ts) ts) (λ ts. json.members (json.value n) (length ts) ts)
    (λ ts. items_named (json.value n) (value_named n) (length ts) ts) (λ ts. members_named (json.value n) (value_named n) (length ts) ts)

-- ---- the objects of a value have their names in order, each in UTF-8

abbrev mutual
  IsOrdered : Data → Type 0
  IsOrdered values.null = Unit {0}
  IsOrdered (values.boolean b) = Unit {0}
  IsOrdered (values.number n) = Unit {0}
  IsOrdered (values.string s) = Unit {0}
  IsOrdered (values.array ds) = ItemsOrdered ds
  IsOrdered (values.object ms) = AreInOrder ms × AreSpelled ms × MembersOrdered ms

  ItemsOrdered : Items → Type 0
  ItemsOrdered no_items = Unit {0}
  ItemsOrdered (item d ds) = IsOrdered d × ItemsOrdered ds

  MembersOrdered : Members → Type 0
  MembersOrdered no_members = Unit {0}
  MembersOrdered (member k d ms) = IsOrdered d × MembersOrdered ms

put_by : (o : Ordering) (k l : List ℕ) (d e : Data) (ms : Members) → IsOrdered d → IsOrdered e → MembersOrdered ms → MembersOrdered (put k d ms)
    → MembersOrdered (match_ordering o (member k d (member l e ms)) (member l d ms) (member l e (put k d ms)))
put_by Less k l d e ms f g h i = (f, (g, h))
put_by Equal k l d e ms f g h i = (f, h)
put_by Greater k l d e ms f g h i = (g, i)

put_ordered : (k : List ℕ) (d : Data) (ms : Members) → IsOrdered d → MembersOrdered ms → MembersOrdered (put k d ms)
put_ordered k d no_members f h = (f, tt)
put_ordered k d (member l e ms) f h = put_by (slice_cmp nat_cmp k l) k l d e ms f h.0 h.1 (put_ordered k d ms f h.1)

mutual
  json_ordered : (j : json.Json) (d : Data) → IsNamed j → of_json j ≡ Some d → IsOrdered d
  json_ordered json.null d h e = subst IsOrdered (same_Some _ _ e) tt
  json_ordered (json.boolean b) d h e = subst IsOrdered (same_Some _ _ e) tt
  json_ordered (json.number s) d h e = let n = mapped values.number (number_of s) d e in subst IsOrdered n.2 tt
  json_ordered (json.string s) d h e = subst IsOrdered (same_Some _ _ e) tt
  json_ordered (json.array js) d h e = let ds = mapped values.array (of_items js) d e in subst IsOrdered ds.2 (items_ordered js ds.0 h ds.1)
  json_ordered (json.object ms) d h e = let found = mapped values.object (of_members ms no_members) d e in subst IsOrdered found.2 (members_ordered ms no_members found.0 h (tt, tt, tt) found.1)

  items_ordered : (js : json.Items) (ds : Items) → ItemsNamed js → of_items js ≡ Some ds → ItemsOrdered ds
  items_ordered json.no_items ds h e = subst ItemsOrdered (same_Some _ _ e) tt
  items_ordered (json.item j js) ds h e =
      let first = chained (λ d. option_map (item d) (of_items js)) (of_json j) ds e in
      let rest = mapped (item first.0) (of_items js) ds first.2 in
      subst ItemsOrdered rest.2 (json_ordered j first.0 h.0 first.1, items_ordered js rest.0 h.1 rest.1)

  members_ordered : (ms : json.Members) (found all : Members) → MembersNamed ms → AreInOrder found × AreSpelled found × MembersOrdered found → of_members ms found ≡ Some all
      → AreInOrder all × AreSpelled all × MembersOrdered all
  members_ordered json.no_members found all h f e = subst (λ (ms : Members). AreInOrder ms × AreSpelled ms × MembersOrdered ms) (same_Some _ _ e) f
  members_ordered (json.member k j ms) found all h f e =
      let first = chained (λ d. of_members ms (put k d found)) (of_json j) all e in
      members_ordered ms (put k first.0 found) all h.2
      (put_order k first.0 found f.0, put_each (λ k d. IsSpelled k) k first.0 found (encodes-chars k h.0) f.1, put_ordered k first.0 found (json_ordered j first.0 h.1 first.1) f.2) first.2

last_named : (j k : json.Json) (ts : List Token) → IsNamed j → json.if_last j ts ≡ Some k → IsNamed k
last_named j k [] h e = subst IsNamed (same_Some j k e) h
last_named j k (t ∷ ts) h e = absurd cc

in_utf8_is : (bytes text : List ℕ) → in_utf8 bytes ≡ Some text → IsUtf8 text
in_utf8_is bytes text e = by (is_utf8 bytes) refl e
  where
    by : (b : Bool) → is_utf8 bytes ≡ b → cond b (Some bytes) None ≡ Some text → IsUtf8 text
    by true f g = subst IsUtf8 (same_Some bytes text g) (IsUtf8-from_is_utf8 bytes f)
    by false f g = absurd cc

value_ordered : (bytes : List ℕ) (d : Data) → value_in bytes ≡ Some d → IsOrdered d
value_ordered bytes d e =
    let text = chained read (in_utf8 (without_mark bytes)) d e in
    let tree = chained of_json (option_and_then (λ p. json.if_last p.0 p.1) (json.value max_depth (tokens text.0))) d text.2 in
    let parsed = chained (λ p. json.if_last p.0 p.1) (json.value max_depth (tokens text.0)) tree.0 tree.1 in
    let first = value_named max_depth (tokens text.0) parsed.0.0 parsed.0.1 (tokens_well text.0 (in_utf8_is (without_mark bytes) text.0 text.1)) parsed.1 in
    json_ordered tree.0 d (last_named parsed.0.0 tree.0 parsed.0.1 first.0 parsed.2) tree.2

-- ---- the slots of its objects

abbrev OptionOrdered : Option Data → Type 0
OptionOrdered None = Unit {0}
OptionOrdered (Some d) = IsOrdered d

member_by : (o : Ordering) (found : Option Data) (e : Data) → OptionOrdered found → IsOrdered e → OptionOrdered (match_ordering o found (Some e) found)
member_by Less found e f g = f
member_by Equal found e f g = g
member_by Greater found e f g = f

member_ordered : (k : List ℕ) (ms : Members) → MembersOrdered ms → OptionOrdered (get_member k ms)
member_ordered k no_members f = tt
member_ordered k (member l e ms) f = member_by (slice_cmp nat_cmp k l) (get_member k ms) e (member_ordered k ms f.1) f.0

in_slots_apart : (d : Data) → IsOrdered d → AreApart (in_slots d)
in_slots_apart values.null h = tt
in_slots_apart (values.boolean b) h = tt
in_slots_apart (values.number n) h = tt
in_slots_apart (values.string s) h = tt
in_slots_apart (values.array ds) h = tt
in_slots_apart (values.object ms) h = slots_apart ms h.1 h.0

slots_of_apart : (o : Option Data) → OptionOrdered o → AreApart (slots_of o)
slots_of_apart None h = tt
slots_of_apart (Some d) h = in_slots_apart d h

written_apart : (d : Data) → IsOrdered d → AreApart (written_of d).slots
written_apart values.null h = tt
written_apart (values.boolean b) h = tt
written_apart (values.number n) h = tt
written_apart (values.string s) h = tt
written_apart (values.array ds) h = tt
written_apart (values.object ms) h = slots_of_apart (get_member (codes "slots") ms) (member_ordered (codes "slots") ms h.2)

items_apart : (ds : Items) → ItemsOrdered ds → HasApart (map written_of (items_list ds))
items_apart no_items h = tt
items_apart (item d ds) h = (written_apart d h.0, items_apart ds h.1)

list_apart : (o : Option Data) → OptionOrdered o → HasApart (map written_of (list_at o))
list_apart None h = tt
list_apart (Some values.null) h = tt
list_apart (Some (values.boolean b)) h = tt
list_apart (Some (values.number n)) h = tt
list_apart (Some (values.string s)) h = tt
list_apart (Some (values.array ds)) h = items_apart ds h
list_apart (Some (values.object ms)) h = tt

objects_apart : (d : Data) → IsOrdered d → HasApart (objects_of d)
objects_apart values.null h = tt
objects_apart (values.boolean b) h = tt
objects_apart (values.number n) h = tt
objects_apart (values.string s) h = tt
objects_apart (values.array ds) h = tt
objects_apart (values.object ms) h = list_apart (get_member (codes "objects") ms) (member_ordered (codes "objects") ms h.2)

-- the slots of each object of a value that was read have different names
pub has_apart : (bytes : List ℕ) (d : Data) → value_in bytes ≡ Some d → HasApart (objects_of d)
has_apart bytes d e = objects_apart d (value_ordered bytes d e)
