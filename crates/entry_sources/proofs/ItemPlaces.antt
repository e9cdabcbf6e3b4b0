-- The expression of an item of the target template is one of the relation.
use Rattle.std.specs.Prelude.{◌≡◌, ◌⊎◌, ℕ, zero, suc, List, [], ◌∷◌, ◌++◌, map, Option, None, Some, Contains}
use Rattle.std.specs.List.{flat_map, find}
use Rattle.std.specs.Option.{option_map, option_map_or, option_and_then}
use Rattle.std.proofs.Common.{refl, sym, ap, subst, ◌∙◌, arith, inl, inr}
use Rattle.std.proofs.lemmas.List.Elements.{Contains-append_cases}
use Rattle.mof_metamodel.specs.declared.desc.PropId.{PropId}
use Rattle.qv_syntax.specs.declared.program.Program.{Program}
use Rattle.qv_syntax.specs.declared.program.Rel.{Rel}
use Rattle.qv_syntax.specs.declared.program.Dom.{Dom}
use Rattle.qv_syntax.specs.declared.program.Tmpl.{Tmpl, out-Tmpl, roll-Tmpl, map-Tmpl, ind-Tmpl, fold-roll-Tmpl, out-roll-Tmpl}
use Rattle.qv_syntax.specs.declared.program.Item.{Item, roll-Item, map-Item, fold-roll-Item}
use Rattle.qv_syntax.specs.declared.program.ItemValue.{ItemValue, roll-ItemValue, map-ItemValue, fold-roll-ItemValue}
use Rattle.qv_syntax.specs.declared.program.ItemValue.TheVariants as items
use Rattle.qv_syntax.specs.declared.program.ItemValue.TheOpen as layers
use Rattle.qv_syntax.specs.declared.typed.Typed.{Typed}
use Rattle.qv_syntax.specs.Parts.{IsNested, HasItem}
use Rattle.qv_syntax.specs.Relations.{IsItemExpression}
use Rattle.qvtr_semantics.specs.Bindings.{is_target_domain}
use Rattle.repair_semantics.specs.TargetItems.{Content, TargetItem, ContentPart, TemplatePart, ItemPart, content_part, item_part, template_part, parts, target_domain, target_items}
use Rattle.repair_semantics.proofs.ItemLaws.{content_of, item_of}
use Rattle.template_match.proofs.ListLaws.{contains_later, find_some}
use Rattle.mof_metamodel.proofs.Facts.{contains_first}
use Rattle.source_laws.specs.TargetRule.{IsExpressionOf}
use Rattle.mof_metamodel.proofs.Facts.{nothing_in}

-- the expression of an item stands in the template, at any depth
record Stands (root : Tmpl) (e : Typed) : Type 0 where
  template : Tmpl
  item : Item
  nested : IsNested root template
  has : HasItem template item
  is : item.value ≡ items.Expr e

AllStand : Tmpl → List TargetItem → Type 0
AllStand root its = (i : TargetItem) (e : Typed) → Contains its i → i.content ≡ Content.expression e → Stands root e

-- ---- the recursion: what stands within a value, an item or a template

-- the expression is the value, or stands within the template that is
data InValue (value : ItemValue) (e : Typed) : Type 0 where
  own : value ≡ items.Expr e → InValue value e
  nested : (t : Tmpl) → value ≡ items.Nested t → Stands t e → InValue value e

ValueHolds : ItemValue → Type 0
ValueHolds value = ((e : Typed) → (content_of value).content ≡ Content.expression e → value ≡ items.Expr e)
    × ((i : TargetItem) (e : Typed) → Contains (content_of value).within i → i.content ≡ Content.expression e → InValue value e)

ItemHolds : Item → Type 0
ItemHolds item = (owner : ℕ) (i : TargetItem) (e : Typed) → Contains (item_of item owner) i → i.content ≡ Content.expression e → InValue item.value e

TmplHolds : Tmpl → Type 0
TmplHolds t = AllStand t (parts t).items

abbrev V : Type 0
V = (v : ItemValue) × ValueHolds v

abbrev I : Type 0
I = (i : Item) × ItemHolds i

abbrev T : Type 0
T = (t : Tmpl) × TmplHolds t

no_expression : (c : Content) (e : Typed) → ◌≡◌ {A = Content} Content.empty (Content.expression e) → ⊥
no_expression c e h = cc

template_expression : (v : ℕ) (e : Typed) → ◌≡◌ {A = Content} (Content.template v) (Content.expression e) → ⊥
template_expression v e h = cc

one_expression : (x e : Typed) → ◌≡◌ {A = Content} (Content.expression x) (Content.expression e) → x ≡ e
one_expression x e h = cc

value_layer : (y : layers.ItemValue-F V I T) → ValueHolds (roll-ItemValue (map-ItemValue V I T ItemValue Item Tmpl (λ x. x.0) (λ x. x.0) (λ x. x.0) y))
unfolding ValueHolds TmplHolds AllStand
value_layer layers.Null =
    let part = fold-roll-ItemValue ContentPart ItemPart TemplatePart content_part item_part template_part layers.Null in (
      λ e is. absurd (no_expression Content.empty e (sym (ap (λ (p : ContentPart). p.content) part) ∙ is)),
      λ i e c is. absurd (nothing_in i (subst (λ (p : ContentPart). Contains p.within i) part c)),
    )
value_layer (layers.Expr x) =
    let part = fold-roll-ItemValue ContentPart ItemPart TemplatePart content_part item_part template_part (layers.Expr x) in (
      λ e is. items.rolls-Expr x ∙ ap items.Expr (one_expression x e (sym (ap (λ (p : ContentPart). p.content) part) ∙ is)),
      λ i e c is. absurd (nothing_in i (subst (λ (p : ContentPart). Contains p.within i) part c)),
    )
value_layer (layers.Nested t) =
    let part = fold-roll-ItemValue ContentPart ItemPart TemplatePart content_part item_part template_part (layers.Nested t.0) in (
      λ e is. absurd (template_expression (parts t.0).var e (sym (ap (λ (p : ContentPart). p.content) part) ∙ is)),
      λ i e c is. InValue.nested t.0 (items.rolls-Nested t.0) (t.1 i e (subst (λ (p : ContentPart). Contains p.within i) part c) is),
    )

item_layer : (y : layers.Item-F V I T) → ItemHolds (roll-Item (map-Item V I T ItemValue Item Tmpl (λ x. x.0) (λ x. x.0) (λ x. x.0) y))
unfolding ItemHolds ValueHolds
item_layer y owner i e c is =
    let d = map-Item V I T ItemValue Item Tmpl (λ x. x.0) (λ x. x.0) (λ x. x.0) y in
    let part = fold-roll-Item ContentPart ItemPart TemplatePart content_part item_part template_part d in
    by (subst (λ (f : ItemPart). Contains (f owner) i) part c)
  where
    by : Contains (item_part (record { prop = y.prop; value = content_of y.value.0 }) owner) i → InValue y.value.0 e
    by (zero, below, same) = InValue.own (y.value.1.0 e (ap (λ (x : TargetItem). x.content) same ∙ is))
    by (suc k, below, same) = y.value.1.1 i e (k, omega (arith, below), same) is

abbrev items_of : List I → List Item
items_of is = map (λ i. i.0) is

-- an element of lists that are joined is one of a list
in_flat : (u : ℕ) (is : List I) (i : TargetItem) → Contains (flat_map (λ (f : ItemPart). f u) (map item_of (items_of is))) i
    → (x : I) × Contains (items_of is) x.0 × Contains (item_of x.0 u) i
in_flat u [] i c = absurd (nothing_in i c)
in_flat u (x ∷ is) i c =
    by (λ d. in_flat u is i d) (Contains-append_cases (item_of x.0 u) (flat_map (λ (f : ItemPart). f u) (map item_of (items_of is))) i c)
  where
    by : (Contains (flat_map (λ (f : ItemPart). f u) (map item_of (items_of is))) i → (y : I) × Contains (items_of is) y.0 × Contains (item_of y.0 u) i)
        → Contains (item_of x.0 u) i ⊎ Contains (flat_map (λ (f : ItemPart). f u) (map item_of (items_of is))) i
        → (y : I) × Contains (items_of (x ∷ is)) y.0 × Contains (item_of y.0 u) i
    by rest (inl d) = (x, contains_first x.0 (items_of is), d)
    by rest (inr d) = let (y, among, within) = rest d in (y, contains_later y.0 x.0 (items_of is) among, within)

stands_in : (root : Tmpl) (item : Item) (e : Typed) → HasItem root item → InValue item.value e → Stands root e
stands_in root item e has (InValue.own is) = record { template = root; item = item; nested = IsNested.whole root; has = has; is = is }
stands_in root item e has (InValue.nested t is stands) = record {
  template = stands.template;
  item = stands.item;
  nested = IsNested.inside root item.prop t stands.template (subst (λ v. HasItem root (record { prop = item.prop; value = v })) is has) stands.nested;
  has = stands.has;
  is = stands.is;
}

tmpl_layer : (y : layers.Tmpl-F V I T) → TmplHolds (roll-Tmpl (map-Tmpl V I T ItemValue Item Tmpl (λ x. x.0) (λ x. x.0) (λ x. x.0) y))
unfolding TmplHolds AllStand ItemHolds
tmpl_layer y i e c is =
    let t = map-Tmpl V I T ItemValue Item Tmpl (λ x. x.0) (λ x. x.0) (λ x. x.0) y in
    let part = fold-roll-Tmpl ContentPart ItemPart TemplatePart content_part item_part template_part t in
    let (x, among, within) = in_flat y.var y.items i (subst (λ (p : TemplatePart). Contains p.items i) part c) in
    stands_in (roll-Tmpl t) x.0 e (subst (λ z. Contains z.items x.0) (sym (out-roll-Tmpl t)) among) (x.1 y.var i e within is)

all_stand : (t : Tmpl) → TmplHolds t
all_stand = ind-Tmpl ValueHolds ItemHolds TmplHolds
    (λ x y is. subst (λ z. ValueHolds (roll-ItemValue z)) is (value_layer y))
    (λ x y is. subst (λ z. ItemHolds (roll-Item z)) is (item_layer y))
    (λ x y is. subst (λ z. TmplHolds (roll-Tmpl z)) is (tmpl_layer y))

-- ---- the target template

template_items : (rel : Rel) (dom : Dom) (o : Option Tmpl) (i : TargetItem) (e : Typed) → Contains rel.domains dom → dom.template ≡ o
    → Contains (option_map_or (λ t. (parts t).items) o []) i → i.content ≡ Content.expression e → IsExpressionOf rel e
unfolding TmplHolds AllStand
template_items rel dom None i e within has c is = absurd (nothing_in i c)
template_items rel dom (Some root) i e within has c is =
    let stands = all_stand root i e c is in
    IsExpressionOf.item dom within (record {
      item = stands.item;
      of = record { template = stands.template; of = record { root = root; has = has; nested = stands.nested }; has = stands.has };
      is = stands.is;
    })

domain_items : (program : Program) (rel : Rel) (o : Option Dom) (i : TargetItem) (e : Typed) → target_domain program rel ≡ o
    → Contains (option_map_or (λ t. (parts t).items) (option_and_then (λ (dom : Dom). dom.template) o) []) i → i.content ≡ Content.expression e → IsExpressionOf rel e
domain_items program rel None i e found c is = absurd (nothing_in i c)
domain_items program rel (Some dom) i e found c is =
    template_items rel dom dom.template i e (find_some (is_target_domain program) rel.domains dom found).0 refl c is

pub item_expression : (program : Program) (rel : Rel) (i : TargetItem) (e : Typed) → Contains (target_items program rel) i → i.content ≡ Content.expression e → IsExpressionOf rel e
item_expression program rel i e c is = domain_items program rel (target_domain program rel) i e refl c is
