-- The items of a template that are listed each stand in one of the templates within it.
use Rattle.std.specs.Prelude.{◌≡◌, ◌⊎◌, ℕ, true, zero, suc, List, [], ◌∷◌, map, Option, None, Some, Contains}
use Rattle.std.specs.List.{flat_map}
use Rattle.std.specs.Option.{option_map_or, option_and_then}
use Rattle.std.proofs.Common.{refl, sym, ap, subst, ◌∙◌, arith, inl, inr}
use Rattle.std.proofs.lemmas.List.Elements.{Contains-append_cases}
use Rattle.qv_syntax.specs.declared.program.Program.{Program}
use Rattle.qv_syntax.specs.declared.program.Rel.{Rel}
use Rattle.qv_syntax.specs.declared.program.Dom.{Dom}
use Rattle.qv_syntax.specs.declared.program.Tmpl.{Tmpl, out-Tmpl, roll-Tmpl, map-Tmpl, ind-Tmpl, fold-roll-Tmpl, out-roll-Tmpl, roll-out-Tmpl}
use Rattle.qv_syntax.specs.declared.program.Item.{Item, roll-Item, map-Item}
use Rattle.qv_syntax.specs.declared.program.ItemValue.{ItemValue, roll-ItemValue, out-ItemValue, roll-out-ItemValue, map-ItemValue}
use Rattle.qv_syntax.specs.declared.program.ItemValue.TheVariants as items
use Rattle.qv_syntax.specs.declared.program.ItemValue.TheOpen as layers
use Rattle.qv_syntax.specs.declared.typed.Typed.{Typed}
use Rattle.qv_syntax.specs.Parts.{IsNested, HasItem}
use Rattle.qvtr_semantics.specs.Bindings.{is_target_domain}
use Rattle.repair_semantics.specs.TargetItems.{Content, TargetItem, ContentPart, TemplatePart, ItemPart, content_part, item_part, template_part, parts, target_domain, target_items}
use Rattle.repair_semantics.proofs.ItemLaws.{content_of, item_of, of_nothing, of_expression, of_template, item_is}
use Rattle.mof_metamodel.proofs.PropLemmas.{to_flat_map}
use Rattle.mof_metamodel.proofs.Facts.{contains_map}
use Rattle.mof_metamodel.proofs.Facts.{nothing_in}
use Rattle.template_match.proofs.ListLaws.{contains_later, find_some}
use Rattle.mof_metamodel.proofs.Facts.{contains_first}

-- an item that is listed, with the template in which it stands; this is the whole one, or an item that is listed has it
pub record IsListed (root : Tmpl) (i : TargetItem) : Type 0 where
  pub template : Tmpl
  pub nested : IsNested root template
  pub owner : (out-Tmpl template).var ≡ i.owner
  pub item : Item
  pub has : HasItem template item
  pub prop : item.prop ≡ i.prop
  pub content : (content_of item.value).content ≡ i.content
  pub above : ((out-Tmpl root).var ≡ i.owner) ⊎ ((j : TargetItem) × Contains (parts root).items j × (j.content ≡ Content.template i.owner))

-- ---- what a value is

pub parts_var : (t : Tmpl) → (parts t).var ≡ (out-Tmpl t).var
parts_var t = ap (λ (x : Tmpl). (parts x).var) (sym (roll-out-Tmpl t)) ∙ ap (λ (p : TemplatePart). p.var) (fold-roll-Tmpl ContentPart ItemPart TemplatePart content_part item_part template_part (out-Tmpl t))

pub content_nested : (t : Tmpl) → (content_of (items.Nested t)).content ≡ Content.template (out-Tmpl t).var
content_nested t =
    ap (λ (x : ItemValue). (content_of x).content) (sym (items.rolls-Nested t)) ∙ ap (λ (p : ContentPart). p.content) (of_template t) ∙ ap (λ n. Content.template n) (parts_var t)

no_expression : (e : Typed) → ◌≡◌ {A = Content} Content.empty (Content.expression e) → ⊥
no_expression e h = cc

no_template : (v : ℕ) → ◌≡◌ {A = Content} Content.empty (Content.template v) → ⊥
no_template v h = cc

not_both : (v : ℕ) (e : Typed) → ◌≡◌ {A = Content} (Content.template v) (Content.expression e) → ⊥
not_both v e h = cc

one_expression : (x e : Typed) → ◌≡◌ {A = Content} (Content.expression x) (Content.expression e) → x ≡ e
one_expression x e h = cc

one_template : (v w : ℕ) → ◌≡◌ {A = Content} (Content.template v) (Content.template w) → v ≡ w
one_template v w h = cc

-- the value of which an expression is the content, and that of which a template is
pub expression_value : (value : ItemValue) (e : Typed) → (content_of value).content ≡ Content.expression e → value ≡ items.Expr e
expression_value value e h = by (out-ItemValue value) (roll-out-ItemValue value)
  where
    by : (x : layers.ItemValue-F ItemValue Item Tmpl) → roll-ItemValue x ≡ value → value ≡ items.Expr e
    by layers.Null is = absurd (no_expression e (sym (ap (λ (p : ContentPart). p.content) of_nothing) ∙ ap (λ x. (content_of x).content) is ∙ h))
    by (layers.Expr x) is =
        let same : x ≡ e = one_expression x e (sym (ap (λ (p : ContentPart). p.content) (of_expression x)) ∙ ap (λ y. (content_of y).content) is ∙ h) in
        sym is ∙ items.rolls-Expr x ∙ ap items.Expr same
    by (layers.Nested t) is = absurd (not_both (parts t).var e (sym (ap (λ (p : ContentPart). p.content) (of_template t)) ∙ ap (λ x. (content_of x).content) is ∙ h))

pub template_value : (value : ItemValue) (v : ℕ) → (content_of value).content ≡ Content.template v → (t : Tmpl) × (value ≡ items.Nested t) × ((out-Tmpl t).var ≡ v)
template_value value v h = by (out-ItemValue value) (roll-out-ItemValue value)
  where
    by : (x : layers.ItemValue-F ItemValue Item Tmpl) → roll-ItemValue x ≡ value → (t : Tmpl) × (value ≡ items.Nested t) × ((out-Tmpl t).var ≡ v)
    by layers.Null is = absurd (no_template v (sym (ap (λ (p : ContentPart). p.content) of_nothing) ∙ ap (λ x. (content_of x).content) is ∙ h))
    by (layers.Expr x) is = absurd (not_both v x (sym h ∙ sym (ap (λ y. (content_of y).content) is) ∙ ap (λ (p : ContentPart). p.content) (of_expression x)))
    by (layers.Nested t) is =
        let same : (parts t).var ≡ v = one_template (parts t).var v (sym (ap (λ (p : ContentPart). p.content) (of_template t)) ∙ ap (λ y. (content_of y).content) is ∙ h) in
        (t, sym is ∙ items.rolls-Nested t, sym (parts_var t) ∙ same)

-- ---- the recursion: what is listed of a value, an item or a template

ValueListed : ItemValue → Type 0
ValueListed value = (i : TargetItem) → Contains (content_of value).within i → (t : Tmpl) × (value ≡ items.Nested t) × IsListed t i

data InItem (owner : ℕ) (item : Item) (i : TargetItem) : Type 0 where
  own : owner ≡ i.owner → item.prop ≡ i.prop → (content_of item.value).content ≡ i.content → InItem owner item i
  nested : (t : Tmpl) → item.value ≡ items.Nested t → IsListed t i → InItem owner item i

ItemListed : Item → Type 0
ItemListed item = (owner : ℕ) (i : TargetItem) → Contains (item_of item owner) i → InItem owner item i

TmplListed : Tmpl → Type 0
TmplListed t = (i : TargetItem) → Contains (parts t).items i → IsListed t i

abbrev V : Type 0
V = (v : ItemValue) × ValueListed v

abbrev I : Type 0
I = (i : Item) × ItemListed i

abbrev T : Type 0
T = (t : Tmpl) × TmplListed t

value_layer : (y : layers.ItemValue-F V I T) → ValueListed (roll-ItemValue (map-ItemValue V I T ItemValue Item Tmpl (λ x. x.0) (λ x. x.0) (λ x. x.0) y))
unfolding ValueListed TmplListed
value_layer layers.Null i c = absurd (nothing_in i (subst (λ (p : ContentPart). Contains p.within i) of_nothing c))
value_layer (layers.Expr x) i c = absurd (nothing_in i (subst (λ (p : ContentPart). Contains p.within i) (of_expression x) c))
value_layer (layers.Nested t) i c = (t.0, items.rolls-Nested t.0, t.1 i (subst (λ (p : ContentPart). Contains p.within i) (of_template t.0) c))

-- what an item lists: itself, and what its value does
abbrev listed_with : Item → ℕ → List TargetItem
listed_with item owner = record { owner = owner; prop = item.prop; content = (content_of item.value).content } ∷ (content_of item.value).within

item_lists : (item : Item) (owner : ℕ) → item_of item owner ≡ listed_with item owner
item_lists item owner = ap (λ (f : ItemPart). f owner) (item_is item.prop item.value)

item_layer : (y : layers.Item-F V I T) → ItemListed (roll-Item (map-Item V I T ItemValue Item Tmpl (λ x. x.0) (λ x. x.0) (λ x. x.0) y))
unfolding ItemListed ValueListed
item_layer y owner i c =
    let d = map-Item V I T ItemValue Item Tmpl (λ x. x.0) (λ x. x.0) (λ x. x.0) y in
    by (subst (λ (is : List TargetItem). Contains is i) (item_lists (roll-Item d) owner) c)
  where
    by : Contains (listed_with (record { prop = y.prop; value = y.value.0 }) owner) i → InItem owner (record { prop = y.prop; value = y.value.0 }) i
    by (zero, below, same) = InItem.own (ap (λ (x : TargetItem). x.owner) same) (ap (λ (x : TargetItem). x.prop) same) (ap (λ (x : TargetItem). x.content) same)
    by (suc k, below, same) = let listed = y.value.1 i (k, omega (arith, below), same) in InItem.nested listed.0 listed.1 listed.2

abbrev items_of : List I → List Item
items_of is = map (λ i. i.0) is

abbrev all_listed : ℕ → List Item → List TargetItem
all_listed u is = flat_map (λ (f : ItemPart). f u) (map item_of is)

-- an element of lists that are joined is one of a list
in_flat : (u : ℕ) (is : List I) (i : TargetItem) → Contains (all_listed u (items_of is)) i → (x : I) × Contains (items_of is) x.0 × Contains (item_of x.0 u) i
in_flat u [] i c = absurd (nothing_in i c)
in_flat u (x ∷ is) i c =
    by (λ d. in_flat u is i d) (Contains-append_cases (item_of x.0 u) (all_listed u (items_of is)) i c)
  where
    by : (Contains (all_listed u (items_of is)) i → (y : I) × Contains (items_of is) y.0 × Contains (item_of y.0 u) i)
        → Contains (item_of x.0 u) i ⊎ Contains (all_listed u (items_of is)) i
        → (y : I) × Contains (items_of (x ∷ is)) y.0 × Contains (item_of y.0 u) i
    by rest (inl d) = (x, contains_first x.0 (items_of is), d)
    by rest (inr d) = let (y, among, within) = rest d in (y, contains_later y.0 x.0 (items_of is) among, within)

flat_in : (u : ℕ) (is : List Item) (item : Item) (j : TargetItem) → Contains is item → Contains (item_of item u) j → Contains (all_listed u is) j
flat_in u is item j among within = to_flat_map (λ (f : ItemPart). f u) (map item_of is) (item_of item) j (contains_map item_of is item among) within

listed_part : (u : ℕ) (is : List Item) (item : Item) (j : TargetItem) → Contains is item → Contains (listed_with item u) j → Contains (all_listed u is) j
listed_part u is item j among within = flat_in u is item j among (subst (λ (l : List TargetItem). Contains l j) (sym (item_lists item u)) within)

tmpl_layer : (y : layers.Tmpl-F V I T) → TmplListed (roll-Tmpl (map-Tmpl V I T ItemValue Item Tmpl (λ x. x.0) (λ x. x.0) (λ x. x.0) y))
unfolding TmplListed ItemListed
tmpl_layer y i c =
    let t = map-Tmpl V I T ItemValue Item Tmpl (λ x. x.0) (λ x. x.0) (λ x. x.0) y in
    let part = fold-roll-Tmpl ContentPart ItemPart TemplatePart content_part item_part template_part t in
    let (x, among, within) = in_flat y.var y.items i (subst (λ (p : TemplatePart). Contains p.items i) part c) in
    listed_by (roll-Tmpl t) y.var (items_of y.items) (ap (λ z. z.var) (out-roll-Tmpl t)) (ap (λ z. z.items) (out-roll-Tmpl t)) (λ j d. subst (λ (p : TemplatePart). Contains p.items j) (sym part) d)
    x.0 i among (x.1 y.var i within)
  where
    listed_by : (root : Tmpl) (u : ℕ) (is : List Item) → (out-Tmpl root).var ≡ u → (out-Tmpl root).items ≡ is → ((j : TargetItem) → Contains (all_listed u is) j → Contains (parts root).items j)
        → (item : Item) (i : TargetItem) → Contains is item → InItem u item i → IsListed root i
    listed_by root u is var its back item i among (InItem.own owner prop content) = record {
      template = root;
      nested = IsNested.whole root;
      owner = var ∙ owner;
      item = item;
      has = subst (λ l. Contains l item) (sym its) among;
      prop = prop;
      content = content;
      above = inl (var ∙ owner);
    }
    listed_by root u is var its back item i among (InItem.nested t value s) = record {
      template = s.template;
      nested = IsNested.inside root item.prop t s.template (subst (λ v. HasItem root (record { prop = item.prop; value = v })) value (subst (λ l. Contains l item) (sym its) among)) s.nested;
      owner = s.owner;
      item = s.item;
      has = s.has;
      prop = s.prop;
      content = s.content;
      above = inr (by s.above);
    }
      where
        by : ((out-Tmpl t).var ≡ i.owner) ⊎ ((j : TargetItem) × Contains (parts t).items j × (j.content ≡ Content.template i.owner))
            → (j : TargetItem) × Contains (parts root).items j × (j.content ≡ Content.template i.owner)
        by (inl same) = (
          record { owner = u; prop = item.prop; content = (content_of item.value).content },
          back (record { owner = u; prop = item.prop; content = (content_of item.value).content })
              (listed_part u is item (record { owner = u; prop = item.prop; content = (content_of item.value).content }) among
              (contains_first (record { owner = u; prop = item.prop; content = (content_of item.value).content }) (content_of item.value).within)),
          ap (λ v. (content_of v).content) value ∙ content_nested t ∙ ap (λ n. Content.template n) same,
        )
        by (inr (j, there, is_one)) = (
          j,
          back j (listed_part u is item j among (contains_later j (record { owner = u; prop = item.prop; content = (content_of item.value).content }) (content_of item.value).within
              (subst (λ (p : ContentPart). Contains p.within j) (sym (ap content_of value ∙ ap content_of (sym (items.rolls-Nested t)) ∙ of_template t)) there))),
          is_one,
        )

pub all_are_listed : (t : Tmpl) (i : TargetItem) → Contains (parts t).items i → IsListed t i
unfolding TmplListed
all_are_listed = ind-Tmpl ValueListed ItemListed TmplListed
    (λ x y is. subst (λ z. ValueListed (roll-ItemValue z)) is (value_layer y))
    (λ x y is. subst (λ z. ItemListed (roll-Item z)) is (item_layer y))
    (λ x y is. subst (λ z. TmplListed (roll-Tmpl z)) is (tmpl_layer y))

-- ---- the target template

-- an item of the target template, with the domain and the template in which it stands
pub record IsOfTargetDomain (program : Program) (rel : Rel) (i : TargetItem) : Type 0 where
  pub dom : Dom
  pub found : target_domain program rel ≡ Some dom
  pub among : Contains rel.domains dom
  pub target : is_target_domain program dom ≡ true
  pub root : Tmpl
  pub has : dom.template ≡ Some root
  pub listed : IsListed root i
  pub above : ((out-Tmpl root).var ≡ i.owner) ⊎ ((j : TargetItem) × Contains (target_items program rel) j × (j.content ≡ Content.template i.owner))

template_items : (program : Program) (rel : Rel) (dom : Dom) (o : Option Tmpl) (i : TargetItem) → target_domain program rel ≡ Some dom → Contains rel.domains dom → is_target_domain program dom ≡ true
    → dom.template ≡ o → target_items program rel ≡ option_map_or (λ t. (parts t).items) o [] → Contains (option_map_or (λ t. (parts t).items) o []) i → IsOfTargetDomain program rel i
template_items program rel dom None i found within target has are c = absurd (nothing_in i c)
template_items program rel dom (Some root) i found within target has are c = record {
  dom = dom;
  found = found;
  among = within;
  target = target;
  root = root;
  has = has;
  listed = all_are_listed root i c;
  above = by (all_are_listed root i c).above;
}
  where
    by : ((out-Tmpl root).var ≡ i.owner) ⊎ ((j : TargetItem) × Contains (parts root).items j × (j.content ≡ Content.template i.owner))
        → ((out-Tmpl root).var ≡ i.owner) ⊎ ((j : TargetItem) × Contains (target_items program rel) j × (j.content ≡ Content.template i.owner))
    by (inl same) = inl same
    by (inr (j, there, is)) = inr (j, subst (λ l. Contains l j) (sym are) there, is)

pub target_item : (program : Program) (rel : Rel) (i : TargetItem) → Contains (target_items program rel) i → IsOfTargetDomain program rel i
target_item program rel i c = by (target_domain program rel) refl c
  where
    by : (o : Option Dom) → target_domain program rel ≡ o → Contains (option_map_or (λ t. (parts t).items) (option_and_then (λ (dom : Dom). dom.template) o) []) i → IsOfTargetDomain program rel i
    by None found d = absurd (nothing_in i d)
    by (Some dom) found d =
        let is = find_some (is_target_domain program) rel.domains dom found in
        template_items program rel dom dom.template i found is.0 is.1 refl (ap (λ (x : Option Dom). option_map_or (λ t. (parts t).items) (option_and_then (λ (e : Dom). e.template) x) []) found) d
