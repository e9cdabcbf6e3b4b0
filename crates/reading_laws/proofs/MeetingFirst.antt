-- The first item of a template at a property, in the list of all items; which items stand in that list; and where templates stand.
use Rattle.std.specs.Prelude.{◌≡◌, ◌⊎◌, ◌<◌, ◌==◌, ℕ, zero, suc, Bool, true, false, List, [], ◌∷◌, ◌++◌, map, Option, None, Some, slice_get, Contains, if◌then◌else◌}
use Rattle.std.specs.List.{flat_map, find}
use Rattle.std.proofs.Common.{refl, sym, ap, subst, ◌∙◌, arith, inl, inr, eq-eqb}
use Rattle.std.proofs.lemmas.Bool.{and_parts, true≢false, eqb-true}
use Rattle.mof_metamodel.specs.declared.desc.PropId.{PropId}
use Rattle.mof_metamodel.proofs.PropLemmas.{to_flat_map}
use Rattle.qv_syntax.specs.declared.program.Tmpl.{Tmpl, out-Tmpl, roll-Tmpl, map-Tmpl, ind-Tmpl, fold-roll-Tmpl, out-roll-Tmpl, roll-out-Tmpl}
use Rattle.qv_syntax.specs.declared.program.Item.{Item, roll-Item, map-Item, fold-roll-Item}
use Rattle.qv_syntax.specs.declared.program.ItemValue.{ItemValue, roll-ItemValue, out-ItemValue, roll-out-ItemValue, map-ItemValue, fold-roll-ItemValue}
use Rattle.qv_syntax.specs.declared.program.ItemValue.TheVariants as items
use Rattle.qv_syntax.specs.declared.program.ItemValue.TheOpen as layers
use Rattle.qv_syntax.specs.Parts.{IsNested, HasItem}
use Rattle.enforcement_rules.specs.declared.standing.Place.{Place}
use Rattle.enforcement_rules.specs.TargetParts.{Stands}
use Rattle.repair_semantics.specs.TargetItems.{Content, TargetItem, ContentPart, TemplatePart, ItemPart, content_part, item_part, template_part, parts}
use Rattle.repair_semantics.specs.Making.{is_item_at}
use Rattle.repair_semantics.proofs.ItemLaws.{content_of, item_of, item_is, template_is, of_nothing, of_expression, of_template}
use Rattle.template_match.proofs.ListLaws.{contains_later, find_none}
use Rattle.mof_metamodel.proofs.Facts.{contains_map}
use Rattle.mof_metamodel.proofs.Facts.{contains_first}
use Rattle.reading_laws.proofs.MeetingValues.{nothing_some}
use Rattle.std.proofs.lemmas.Option.{same_Some}
use Rattle.std.proofs.lemmas.Bool.{and_from}
use Rattle.reading_laws.proofs.MeetingPlaces.{IsContentOf, var_of_parts}
use Rattle.mof_metamodel.proofs.Facts.{contains_at}

-- ---- contents

content_by : (value : ItemValue) (l : layers.ItemValue-F ItemValue Item Tmpl) → roll-ItemValue l ≡ value → IsContentOf value (content_of value).content
content_by value layers.Null is =
    IsContentOf.empty (sym is ∙ items.rolls-Null) (ap (λ v. (content_of v).content) (sym is) ∙ ap (λ (p : ContentPart). p.content) of_nothing)
content_by value (layers.Expr e) is =
    IsContentOf.expression e (sym is ∙ items.rolls-Expr e) (ap (λ v. (content_of v).content) (sym is) ∙ ap (λ (p : ContentPart). p.content) (of_expression e))
content_by value (layers.Nested t) is =
    IsContentOf.template t (sym is ∙ items.rolls-Nested t)
    (ap (λ v. (content_of v).content) (sym is) ∙ ap (λ (p : ContentPart). p.content) (of_template t) ∙ ap Content.template (var_of_parts t))

content_is : (value : ItemValue) → IsContentOf value (content_of value).content
content_is value = content_by value (out-ItemValue value) (roll-out-ItemValue value)

-- an item as it stands in the list
pub entry_of : ℕ → Item → TargetItem
entry_of owner item = record { owner = owner; prop = item.prop; content = (content_of item.value).content }

pub entry_owner : (owner : ℕ) (item : Item) → (entry_of owner item).owner ≡ owner
unfolding entry_of
entry_owner owner item = refl

pub entry_prop : (owner : ℕ) (item : Item) → (entry_of owner item).prop ≡ item.prop
unfolding entry_of
entry_prop owner item = refl

pub entry_content : (owner : ℕ) (item : Item) → IsContentOf item.value (entry_of owner item).content
unfolding entry_of
entry_content owner item = content_is item.value

pub entry_nested : (owner : ℕ) (prop : PropId) (t : Tmpl) → (entry_of owner (record { prop = prop; value = items.Nested t })).content ≡ Content.template (out-Tmpl t).var
unfolding entry_of
entry_nested owner prop t =
    ap (λ v. (content_of v).content) (sym (items.rolls-Nested t)) ∙ ap (λ (p : ContentPart). p.content) (of_template t) ∙ ap Content.template (var_of_parts t)

items_are : (owner : ℕ) (item : Item) → item_of item owner ≡ entry_of owner item ∷ (content_of item.value).within
unfolding entry_of
items_are owner item = ap (λ (f : ItemPart). f owner) (item_is item.prop item.value)

all_items : (t : Tmpl) → (parts t).items ≡ flat_map (λ (f : ItemPart). f (out-Tmpl t).var) (map item_of (out-Tmpl t).items)
all_items t = ap (λ x. (parts x).items) (sym (roll-out-Tmpl t)) ∙ ap (λ (p : TemplatePart). p.items) (template_is (out-Tmpl t).var (out-Tmpl t).class (out-Tmpl t).items)

-- ---- each item of a nested template stands in the list

item_listed : (t : Tmpl) (item : Item) (i : TargetItem) → HasItem t item → Contains (item_of item (out-Tmpl t).var) i → Contains (parts t).items i
item_listed t item i has within =
    subst (λ xs. Contains xs i) (sym (all_items t))
    (to_flat_map (λ (f : ItemPart). f (out-Tmpl t).var) (map item_of (out-Tmpl t).items) (item_of item) i (contains_map item_of (out-Tmpl t).items item has) within)

pub entry_listed : (root t : Tmpl) → IsNested root t → (item : Item) → HasItem t item → Contains (parts root).items (entry_of (out-Tmpl t).var item)
entry_listed root t (IsNested.whole _) item has =
    item_listed root item (entry_of (out-Tmpl root).var item) has
    (subst (λ xs. Contains xs (entry_of (out-Tmpl root).var item)) (sym (items_are (out-Tmpl root).var item)) (contains_first (entry_of (out-Tmpl root).var item) (content_of item.value).within))
entry_listed root t (IsNested.inside _ prop part _ among nested) item has =
    let outer : Item = record { prop = prop; value = items.Nested part } in
    let i = entry_of (out-Tmpl t).var item in
    let inner : Contains (parts part).items i = entry_listed part t nested item has in
    let within : (content_of (items.Nested part)).within ≡ (parts part).items =
    ap (λ v. (content_of v).within) (sym (items.rolls-Nested part)) ∙ ap (λ (p : ContentPart). p.within) (of_template part) in
    item_listed root outer i among
    (subst (λ xs. Contains xs i) (sym (items_are (out-Tmpl root).var outer))
    (contains_later i (entry_of (out-Tmpl root).var outer) (content_of (items.Nested part)).within (subst (λ xs. Contains xs i) (sym within) inner)))

-- ---- the first item at a property

pub record FirstIn (root : Tmpl) (v p : ℕ) (i : TargetItem) : Type 0 where
  pub template : Tmpl
  pub nested : IsNested root template
  pub var : (out-Tmpl template).var ≡ v
  pub place : ℕ
  pub item : Item
  pub at : slice_get (out-Tmpl template).items place ≡ Some item
  pub prop : item.prop.0 ≡ p
  pub content : IsContentOf item.value i.content
  pub first : (earlier : ℕ) (other : Item) → earlier < place → slice_get (out-Tmpl template).items earlier ≡ Some other → other.prop.0 ≡ p → ⊥

record OwnFirst (item : Item) (owner v p : ℕ) (i : TargetItem) : Type 0 where
  owned : owner ≡ v
  prop : item.prop.0 ≡ p
  content : IsContentOf item.value i.content

record ValueFirst (value : ItemValue) (v p : ℕ) (i : TargetItem) : Type 0 where
  part : Tmpl
  is : value ≡ items.Nested part
  first : FirstIn part v p i

ValueHolds : ItemValue → Type 0
ValueHolds value = (v p : ℕ) (i : TargetItem) → find (is_item_at v p) (content_of value).within ≡ Some i → ValueFirst value v p i

ItemHolds : Item → Type 0
ItemHolds item = (owner v p : ℕ) (i : TargetItem) → find (is_item_at v p) (item_of item owner) ≡ Some i → OwnFirst item owner v p i ⊎ ValueFirst item.value v p i

TmplHolds : Tmpl → Type 0
TmplHolds t = (v p : ℕ) (i : TargetItem) → find (is_item_at v p) (parts t).items ≡ Some i → FirstIn t v p i

abbrev V : Type 0
V = (v : ItemValue) × ValueHolds v

abbrev I : Type 0
I = (i : Item) × ItemHolds i

abbrev T : Type 0
T = (t : Tmpl) × TmplHolds t

value_layer : (y : layers.ItemValue-F V I T) → ValueHolds (roll-ItemValue (map-ItemValue V I T ItemValue Item Tmpl (λ x. x.0) (λ x. x.0) (λ x. x.0) y))
unfolding ValueHolds TmplHolds
value_layer layers.Null v p i h =
    let part = fold-roll-ItemValue ContentPart ItemPart TemplatePart content_part item_part template_part layers.Null in
    absurd (nothing_some i (sym (ap (λ (q : ContentPart). find (is_item_at v p) q.within) part) ∙ h))
value_layer (layers.Expr x) v p i h =
    let part = fold-roll-ItemValue ContentPart ItemPart TemplatePart content_part item_part template_part (layers.Expr x) in
    absurd (nothing_some i (sym (ap (λ (q : ContentPart). find (is_item_at v p) q.within) part) ∙ h))
value_layer (layers.Nested t) v p i h =
    let part = fold-roll-ItemValue ContentPart ItemPart TemplatePart content_part item_part template_part (layers.Nested t.0) in
    record { part = t.0; is = items.rolls-Nested t.0; first = t.1 v p i (sym (ap (λ (q : ContentPart). find (is_item_at v p) q.within) part) ∙ h) }

item_layer : (y : layers.Item-F V I T) → ItemHolds (roll-Item (map-Item V I T ItemValue Item Tmpl (λ x. x.0) (λ x. x.0) (λ x. x.0) y))
unfolding ItemHolds ValueHolds
item_layer y owner v p i h =
    let d = map-Item V I T ItemValue Item Tmpl (λ x. x.0) (λ x. x.0) (λ x. x.0) y in
    let part = fold-roll-Item ContentPart ItemPart TemplatePart content_part item_part template_part d in
    by (is_item_at v p (record { owner = owner; prop = y.prop; content = (content_of y.value.0).content })) refl
    (sym (ap (λ (f : ItemPart). find (is_item_at v p) (f owner)) part) ∙ h)
  where
    by : (b : Bool) → is_item_at v p (record { owner = owner; prop = y.prop; content = (content_of y.value.0).content }) ≡ b
        → (if b then Some (record { owner = owner; prop = y.prop; content = (content_of y.value.0).content }) else find (is_item_at v p) (content_of y.value.0).within) ≡ Some i
        → OwnFirst (roll-Item (map-Item V I T ItemValue Item Tmpl (λ x. x.0) (λ x. x.0) (λ x. x.0) y)) owner v p i ⊎ ValueFirst y.value.0 v p i
    by true is found =
        let both = and_parts (owner == v) (y.prop.0 == p) is in
        inl (record {
          owned = eqb-true owner v both.0;
          prop = eqb-true y.prop.0 p both.1;
          content = subst (λ (x : TargetItem). IsContentOf y.value.0 x.content) (same_Some (record { owner = owner; prop = y.prop; content = (content_of y.value.0).content }) i found) (content_is y.value.0);
        })
    by false is found = inr (y.value.1 v p i found)

abbrev items_of : List I → List Item
items_of is = map (λ i. i.0) is

find_append : {X : Type 0} (test : X → Bool) (xs ys : List X) (x : X) → find test (xs ++ ys) ≡ Some x → (find test xs ≡ Some x) ⊎ ((find test xs ≡ None) × (find test ys ≡ Some x))
find_append test [] ys x h = inr (refl, h)
find_append test (z ∷ xs) ys x h = by (test z) (find_append test xs ys x) h
  where
    by : (b : Bool) → (find test (xs ++ ys) ≡ Some x → (find test xs ≡ Some x) ⊎ ((find test xs ≡ None) × (find test ys ≡ Some x)))
        → (if b then Some z else find test (xs ++ ys)) ≡ Some x
        → ((if b then Some z else find test xs) ≡ Some x) ⊎ (((if b then Some z else find test xs) ≡ None) × (find test ys ≡ Some x))
    by true rest found = inl found
    by false rest found = rest found

-- the item in whose list it is found, and that it is in none before
record FoundIn (u v p : ℕ) (is : List I) (i : TargetItem) : Type 0 where
  place : ℕ
  x : I
  at : slice_get (items_of is) place ≡ Some x.0
  found : find (is_item_at v p) (item_of x.0 u) ≡ Some i
  before : (earlier : ℕ) (other : Item) → earlier < place → slice_get (items_of is) earlier ≡ Some other → find (is_item_at v p) (item_of other u) ≡ None

found_in : (u v p : ℕ) (is : List I) (i : TargetItem) → find (is_item_at v p) (flat_map (λ (f : ItemPart). f u) (map item_of (items_of is))) ≡ Some i → FoundIn u v p is i
found_in u v p [] i h = absurd (nothing_some i h)
found_in u v p (x ∷ is) i h =
    by (found_in u v p is i) (find_append (is_item_at v p) (item_of x.0 u) (flat_map (λ (f : ItemPart). f u) (map item_of (items_of is))) i h)
  where
    by : (find (is_item_at v p) (flat_map (λ (f : ItemPart). f u) (map item_of (items_of is))) ≡ Some i → FoundIn u v p is i)
        → (find (is_item_at v p) (item_of x.0 u) ≡ Some i)
        ⊎ ((find (is_item_at v p) (item_of x.0 u) ≡ None) × (find (is_item_at v p) (flat_map (λ (f : ItemPart). f u) (map item_of (items_of is))) ≡ Some i))
        → FoundIn u v p (x ∷ is) i
    by rest (inl found) = record { place = 0; x = x; at = refl; found = found; before = λ earlier other less at. absurd (omega (arith, less)) }
    by rest (inr (none, later)) =
        let r = rest later in
        record { place = suc r.place; x = r.x; at = r.at; found = r.found; before = λ earlier other less at. passed r earlier other less at }
      where
        passed : (r : FoundIn u v p is i) (earlier : ℕ) (other : Item) → earlier < suc r.place → slice_get (items_of (x ∷ is)) earlier ≡ Some other → find (is_item_at v p) (item_of other u) ≡ None
        passed r zero other less at = ap (λ (y : Item). find (is_item_at v p) (item_of y u)) (sym (same_Some x.0 other at)) ∙ none
        passed r (suc n) other less at = r.before n other (omega (arith, less)) at

-- an item in whose list none is found is not at the property
not_at : (item : Item) (owner v p : ℕ) → find (is_item_at v p) (item_of item owner) ≡ None → owner ≡ v → item.prop.0 ≡ p → ⊥
unfolding entry_of
not_at item owner v p none owned prop =
    let there : Contains (item_of item owner) (entry_of owner item) =
    subst (λ xs. Contains xs (entry_of owner item)) (sym (items_are owner item)) (contains_first (entry_of owner item) (content_of item.value).within) in
    true≢false (sym (and_from (owner == v) (item.prop.0 == p) (eq-eqb owner v owned) (eq-eqb item.prop.0 p prop)) ∙ find_none (is_item_at v p) (item_of item owner) (entry_of owner item) none there)

tmpl_layer : (y : layers.Tmpl-F V I T) → TmplHolds (roll-Tmpl (map-Tmpl V I T ItemValue Item Tmpl (λ x. x.0) (λ x. x.0) (λ x. x.0) y))
unfolding TmplHolds ItemHolds
tmpl_layer y v p i h =
    let t = map-Tmpl V I T ItemValue Item Tmpl (λ x. x.0) (λ x. x.0) (λ x. x.0) y in
    let part = fold-roll-Tmpl ContentPart ItemPart TemplatePart content_part item_part template_part t in
    let f = found_in y.var v p y.items i (sym (ap (λ (q : TemplatePart). find (is_item_at v p) q.items) part) ∙ h) in
    by f (f.x.1 y.var v p i f.found)
  where
    by : (f : FoundIn y.var v p y.items i) → OwnFirst f.x.0 y.var v p i ⊎ ValueFirst f.x.0.value v p i
        → FirstIn (roll-Tmpl (map-Tmpl V I T ItemValue Item Tmpl (λ x. x.0) (λ x. x.0) (λ x. x.0) y)) v p i
    by f (inl own) =
        let t = map-Tmpl V I T ItemValue Item Tmpl (λ x. x.0) (λ x. x.0) (λ x. x.0) y in
        record {
          template = roll-Tmpl t;
          nested = IsNested.whole (roll-Tmpl t);
          var = ap (λ z. z.var) (out-roll-Tmpl t) ∙ own.owned;
          place = f.place;
          item = f.x.0;
          at = ap (λ z. slice_get z.items f.place) (out-roll-Tmpl t) ∙ f.at;
          prop = own.prop;
          content = own.content;
          first = λ earlier other less at same. not_at other y.var v p (f.before earlier other less (sym (ap (λ z. slice_get z.items earlier) (out-roll-Tmpl t)) ∙ at)) own.owned same;
        }
    by f (inr w) =
        let t = map-Tmpl V I T ItemValue Item Tmpl (λ x. x.0) (λ x. x.0) (λ x. x.0) y in
        let has : HasItem (roll-Tmpl t) f.x.0 = subst (λ z. Contains z.items f.x.0) (sym (out-roll-Tmpl t)) (contains_at (items_of y.items) f.place f.x.0 f.at) in
        record {
          template = w.first.template;
          nested = IsNested.inside (roll-Tmpl t) f.x.0.prop w.part w.first.template (subst (λ u. HasItem (roll-Tmpl t) (record { prop = f.x.0.prop; value = u })) w.is has) w.first.nested;
          var = w.first.var;
          place = w.first.place;
          item = w.first.item;
          at = w.first.at;
          prop = w.first.prop;
          content = w.first.content;
          first = w.first.first;
        }

all_first : (t : Tmpl) → TmplHolds t
all_first = ind-Tmpl ValueHolds ItemHolds TmplHolds
    (λ x y is. subst (λ z. ValueHolds (roll-ItemValue z)) is (value_layer y))
    (λ x y is. subst (λ z. ItemHolds (roll-Item z)) is (item_layer y))
    (λ x y is. subst (λ z. TmplHolds (roll-Tmpl z)) is (tmpl_layer y))

-- the first item in the list is the first one of its template
pub first_in : (t : Tmpl) (v p : ℕ) (i : TargetItem) → find (is_item_at v p) (parts t).items ≡ Some i → FirstIn t v p i
unfolding TmplHolds
first_in t v p i h = all_first t v p i h

-- ---- places

pub stands_somewhere : (t inner : Tmpl) (at : Option Place) → IsNested t inner → (place : Option Place) × Stands t at inner place
stands_somewhere t inner at (IsNested.whole _) = (at, Stands.whole t at)
stands_somewhere t inner at (IsNested.inside _ prop part _ among nested) =
    let (place, stands) = stands_somewhere part inner (Some (record { parent = (out-Tmpl t).var; prop = prop })) nested in
    (place, Stands.inside t at prop part inner place among stands)

pub stands_at : (t outer inner : Tmpl) (at : Option Place) (prop : PropId) → IsNested t outer → HasItem outer (record { prop = prop; value = items.Nested inner })
    → Stands t at inner (Some (record { parent = (out-Tmpl outer).var; prop = prop }))
stands_at t outer inner at prop (IsNested.whole _) has =
    Stands.inside t at prop inner inner (Some (record { parent = (out-Tmpl t).var; prop = prop })) has (Stands.whole inner (Some (record { parent = (out-Tmpl t).var; prop = prop })))
stands_at t outer inner at prop (IsNested.inside _ own part _ among nested) has =
    Stands.inside t at own part inner (Some (record { parent = (out-Tmpl outer).var; prop = prop })) among
    (stands_at part outer inner (Some (record { parent = (out-Tmpl t).var; prop = own })) prop nested has)

pub stands_nested : (t inner : Tmpl) (at place : Option Place) → Stands t at inner place → IsNested t inner
stands_nested t inner at place (Stands.whole _ _) = IsNested.whole t
stands_nested t inner at place (Stands.inside _ _ prop part _ _ has stands) = IsNested.inside t prop part inner has (stands_nested part inner (Some (record { parent = (out-Tmpl t).var; prop = prop })) place stands)

-- the template around
pub record Around (t inner : Tmpl) (place : Option Place) : Type 0 where
  pub outer : Tmpl
  pub nested : IsNested t outer
  pub prop : PropId
  pub has : HasItem outer (record { prop = prop; value = items.Nested inner })
  pub is : place ≡ Some (record { parent = (out-Tmpl outer).var; prop = prop })

pub stands_around : (t inner : Tmpl) (at place : Option Place) → Stands t at inner place → ((t ≡ inner) × (at ≡ place)) ⊎ Around t inner place
stands_around t inner at place (Stands.whole _ _) = inl (refl, refl)
stands_around t inner at place (Stands.inside _ _ prop part _ _ has stands) =
    by (stands_around part inner (Some (record { parent = (out-Tmpl t).var; prop = prop })) place stands)
  where
    by : ((part ≡ inner) × (Some (record { parent = (out-Tmpl t).var; prop = prop }) ≡ place)) ⊎ Around part inner place → ((t ≡ inner) × (at ≡ place)) ⊎ Around t inner place
    by (inl (same, here)) = inr (record {
      outer = t;
      nested = IsNested.whole t;
      prop = prop;
      has = subst (λ x. HasItem t (record { prop = prop; value = items.Nested x })) same has;
      is = sym here;
    })
    by (inr a) = inr (record { outer = a.outer; nested = IsNested.inside t prop part a.outer has a.nested; prop = a.prop; has = a.has; is = a.is })
