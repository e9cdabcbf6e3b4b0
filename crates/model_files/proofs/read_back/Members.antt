-- Members of an object of JSON that were put one after another: in order by name, and found by name.
use Rattle.std.proofs.Common.{◌≡◌, ◌≢◌, ℕ, Bool, true, false, List, [], ◌∷◌, ◌++◌, Option, Some, None, chars, encode_utf8_all, option_and_then, is_eq, nat_cmp, Ordering, Less, Equal, Greater, refl, sym, ap, subst, ◌∙◌}
use Rattle.std.specs.Cmp.Lexicographic.{slice_cmp}
use Rattle.std.specs.List.{AllByRecursion}
use Rattle.std.specs.Ordering.{match_ordering, ordering_reverse}
use Rattle.std.proofs.lemmas.Cmp.{nat_list_cmp_total, tied_itself}
use Rattle.std.proofs.lemmas.Map.Text.{is_eq-slice_cmp}
use Rattle.std.proofs.lemmas.Slice.Eq.{bytes_eq-Decides}
use Rattle.serde_json.specs.Data.{Data, Members, no_members, member, put}
use Rattle.serde_json.specs.Read.{of_json, of_members}
use Rattle.serde_json.specs.Written.{outline, members_outline}
use Rattle.model_files.specs.JsonContent.{slots_list, in_list}
use Rattle.model_files.specs.JsonFiled.{AreApart}

-- ---- names

pub tied : (k l : List ℕ) → slice_cmp nat_cmp k l ≡ Equal → k ≡ l
tied k l e = (bytes_eq-Decides k l).0 (sym (is_eq-slice_cmp k l) ∙ ap is_eq e)

less_equal : Less ≡ Equal → ⊥
less_equal e = cc

not_itself : (k : List ℕ) → slice_cmp nat_cmp k k ≡ Less → ⊥
not_itself k e = less_equal (sym e ∙ tied_itself nat_list_cmp_total k)

turned : (k l : List ℕ) (o : Ordering) → slice_cmp nat_cmp k l ≡ o → slice_cmp nat_cmp l k ≡ ordering_reverse o
turned k l o e = nat_list_cmp_total.antisymm l k ∙ ap ordering_reverse e

-- ---- what holds of each member

abbrev pub EachMember : (List ℕ → Data → Type 0) → Members → Type 0
EachMember P no_members = Unit {0}
EachMember P (member k d ms) = P k d × EachMember P ms

pub each_member : (P Q : List ℕ → Data → Type 0) → ((k : List ℕ) (d : Data) → P k d → Q k d) → (ms : Members) → EachMember P ms → EachMember Q ms
each_member P Q f no_members h = tt
each_member P Q f (member k d ms) h = (f k d h.0, each_member P Q f ms h.1)

put_each_by : (P : List ℕ → Data → Type 0) (o : Ordering) (k l : List ℕ) (d e : Data) (ms : Members) → slice_cmp nat_cmp k l ≡ o → P k d → P l e → EachMember P ms → EachMember P (put k d ms)
    → EachMember P (match_ordering o (member k d (member l e ms)) (member l d ms) (member l e (put k d ms)))
put_each_by P Less k l d e ms is p q h i = (p, (q, h))
put_each_by P Equal k l d e ms is p q h i = (subst (λ (x : List ℕ). P x d) (tied k l is) p, h)
put_each_by P Greater k l d e ms is p q h i = (q, i)

pub put_each : (P : List ℕ → Data → Type 0) (k : List ℕ) (d : Data) (ms : Members) → P k d → EachMember P ms → EachMember P (put k d ms)
put_each P k d no_members p h = (p, tt)
put_each P k d (member l e ms) p h = put_each_by P (slice_cmp nat_cmp k l) k l d e ms refl p h.0 h.1 (put_each P k d ms p h.1)

-- ---- order

-- the members stand behind a name
abbrev pub AreBehind : List ℕ → Members → Type 0
AreBehind k ms = EachMember (λ l e. slice_cmp nat_cmp k l ≡ Less) ms

abbrev pub AreInOrder : Members → Type 0
AreInOrder no_members = Unit {0}
AreInOrder (member k d ms) = AreBehind k ms × AreInOrder ms

put_order_by : (o : Ordering) (k l : List ℕ) (d e : Data) (ms : Members) → slice_cmp nat_cmp k l ≡ o → AreBehind l ms → AreInOrder ms → AreInOrder (put k d ms)
    → AreInOrder (match_ordering o (member k d (member l e ms)) (member l d ms) (member l e (put k d ms)))
put_order_by Less k l d e ms is b h i =
    ((is, each_member (λ x y. slice_cmp nat_cmp l x ≡ Less) (λ x y. slice_cmp nat_cmp k x ≡ Less) (λ x y less. nat_list_cmp_total.trans k l x is less) ms b), (b, h))
put_order_by Equal k l d e ms is b h i = (b, h)
put_order_by Greater k l d e ms is b h i = (put_each (λ x y. slice_cmp nat_cmp l x ≡ Less) k d ms (turned k l Greater is) b, i)

pub put_order : (k : List ℕ) (d : Data) (ms : Members) → AreInOrder ms → AreInOrder (put k d ms)
put_order k d no_members h = (tt, tt)
put_order k d (member l e ms) h = put_order_by (slice_cmp nat_cmp k l) k l d e ms refl h.0 h.1 (put_order k d ms h.1)

-- ---- members in order are put again as they are

abbrev both : Members → Members → Members
both no_members others = others
both (member k d ms) others = member k d (both ms others)

both_none : (ms : Members) → both ms no_members ≡ ms
both_none no_members = refl
both_none (member k d ms) = ap (member k d) (both_none ms)

both_more : (found ms : Members) (k : List ℕ) (d : Data) → both (both found (member k d no_members)) ms ≡ both found (member k d ms)
both_more no_members ms k d = refl
both_more (member l e found) ms k d = ap (member l e) (both_more found ms k d)

-- each stands before a name
abbrev AreBefore : List ℕ → Members → Type 0
AreBefore k ms = EachMember (λ l e. slice_cmp nat_cmp l k ≡ Less) ms

put_last : (found : Members) (k : List ℕ) (d : Data) → AreBefore k found → put k d found ≡ both found (member k d no_members)
put_last no_members k d h = refl
put_last (member l e found) k d h =
    ap (λ (o : Ordering). match_ordering o (member k d (member l e found)) (member l d found) (member l e (put k d found))) (turned l k Less h.0)
    ∙ ap (member l e) (put_last found k d h.1)

one_more : (P : List ℕ → Data → Type 0) (found : Members) (k : List ℕ) (d : Data) → EachMember P found → P k d → EachMember P (both found (member k d no_members))
one_more P no_members k d h p = (p, tt)
one_more P (member l e found) k d h p = (h.0, one_more P found k d h.1 p)

-- the members before those that are left
abbrev AreAllBefore : Members → Members → Type 0
AreAllBefore found ms = EachMember (λ k d. AreBefore k found) ms

before_more : (found : Members) (l : List ℕ) (e : Data) (ms : Members) → AreAllBefore found ms → AreBehind l ms → AreAllBefore (both found (member l e no_members)) ms
before_more found l e no_members h b = tt
before_more found l e (member k d ms) h b =
    (one_more (λ x y. slice_cmp nat_cmp x k ≡ Less) found l e h.0 b.0, before_more found l e ms h.1 b.1)

-- the members that are written of values that are read back
abbrev pub AreReadBack : Members → Type 0
AreReadBack ms = EachMember (λ k d. of_json (outline d) ≡ Some d) ms

put_again : (found ms : Members) → AreInOrder ms → AreReadBack ms → AreAllBefore found ms → of_members (members_outline ms) found ≡ Some (both found ms)
put_again found no_members order back before = ap Some (sym (both_none found))
put_again found (member k d ms) order back before =
    ap (option_and_then (λ x. of_members (members_outline ms) (put k x found))) back.0
    ∙ ap (of_members (members_outline ms)) (put_last found k d before.0)
    ∙ put_again (both found (member k d no_members)) ms order.1 back.1 (before_more found k d ms before.1 order.0)
    ∙ ap Some (both_more found ms k d)

none_before : (ms : Members) → AreAllBefore no_members ms
none_before no_members = tt
none_before (member k d ms) = (tt, none_before ms)

pub members_back : (ms : Members) → AreInOrder ms → AreReadBack ms → of_members (members_outline ms) no_members ≡ Some ms
members_back ms order back = put_again no_members ms order back (none_before ms)

-- ---- slots

-- the bytes of a name are those of its characters
abbrev pub IsSpelled : List ℕ → Type 0
IsSpelled k = encode_utf8_all (chars k) ≡ k

abbrev pub AreSpelled : Members → Type 0
AreSpelled ms = EachMember (λ k d. IsSpelled k) ms

pub same_spelled : (k l : List ℕ) → IsSpelled k → IsSpelled l → chars k ≡ chars l → k ≡ l
same_spelled k l f g e = sym f ∙ ap encode_utf8_all e ∙ g

apart_from : (k : List ℕ) (ms : Members) → IsSpelled k → AreSpelled ms → AreBehind k ms → AllByRecursion (λ other. other.0 ≢ chars k) (slots_list ms)
apart_from k no_members f g b = tt
apart_from k (member l e ms) f g b =
    ((λ same. not_itself k (subst (λ (x : List ℕ). slice_cmp nat_cmp k x ≡ Less) (same_spelled l k g.0 f same) b.0)), apart_from k ms f g.1 b.1)

-- no two slots have one name
pub slots_apart : (ms : Members) → AreSpelled ms → AreInOrder ms → AreApart (slots_list ms)
slots_apart no_members g h = tt
slots_apart (member k d ms) g h = (apart_from k ms g.0 g.1 h.0, slots_apart ms g.1 h.1)

-- what holds of each member holds of each slot
pub each_slot : (P : List ℕ → Data → Type 0) (Q : List ℕ × List Data → Type 0) → ((k : List ℕ) (d : Data) → P k d → Q (chars k, in_list d)) → (ms : Members) → EachMember P ms
    → AllByRecursion Q (slots_list ms)
each_slot P Q f no_members h = tt
each_slot P Q f (member k d ms) h = (f k d h.0, each_slot P Q f ms h.1)
