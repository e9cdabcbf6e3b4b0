-- Each item of a target template stands in a template of its domain, whose variable owns it.
use Rattle.std.specs.Prelude.{◌≡◌, ◌⊎◌, ℕ, false, zero, suc, List, [], ◌∷◌, map, Option, None, Some, Contains, AllPairs}
use Rattle.std.specs.List.{flat_map}
use Rattle.std.specs.Option.{option_map_or, option_and_then}
use Rattle.std.proofs.Common.{refl, sym, ap, subst, ◌∙◌, arith, inl, inr, eq-eqb}
use Rattle.std.proofs.lemmas.List.Elements.{Contains-append_cases}
use Rattle.std.proofs.lemmas.Bool.{true≢false}
use Rattle.qv_syntax.specs.declared.typed.Typed.{Typed}
use Rattle.qv_syntax.specs.declared.program.Program.{Program}
use Rattle.qv_syntax.specs.declared.program.Rel.{Rel}
use Rattle.qv_syntax.specs.declared.program.Dom.{Dom}
use Rattle.qv_syntax.specs.declared.program.Tmpl.{Tmpl, out-Tmpl, roll-Tmpl, map-Tmpl, ind-Tmpl, fold-roll-Tmpl, out-roll-Tmpl, roll-out-Tmpl}
use Rattle.qv_syntax.specs.declared.program.Item.{Item, roll-Item, map-Item, fold-roll-Item}
use Rattle.qv_syntax.specs.declared.program.ItemValue.{ItemValue, roll-ItemValue, map-ItemValue, fold-roll-ItemValue}
use Rattle.qv_syntax.specs.declared.program.ItemValue.TheVariants as items
use Rattle.qv_syntax.specs.declared.program.ItemValue.TheOpen as layers
use Rattle.qv_syntax.specs.Parts.{IsNested, HasItem}
use Rattle.qv_syntax.specs.Relations.{IsTargetDomain}
use Rattle.qv_syntax.specs.Directions.{AreOfTwoModels}
use Rattle.qvtr_semantics.specs.Bindings.{is_model, is_target_domain}
use Rattle.repair_semantics.specs.TargetItems.{Content, TargetItem, ContentPart, TemplatePart, ItemPart, content_part, item_part, template_part, parts, target_domain, target_items}
use Rattle.repair_semantics.proofs.ItemLaws.{content_of, item_of, template_is}
use Rattle.template_match.proofs.ListLaws.{contains_later, find_some, find_none}
use Rattle.mof_metamodel.proofs.Facts.{contains_first}
use Rattle.source_laws.proofs.RuleLaws.{target_is}
use Rattle.reading_laws.proofs.MeetingValues.{one_of}
use Rattle.mof_metamodel.proofs.Facts.{nothing_in}

-- a content is that of a value
pub data IsContentOf (value : ItemValue) (c : Content) : Type 0 where
  empty : value ≡ items.Null → c ≡ Content.empty → IsContentOf value c
  expression : (e : Typed) → value ≡ items.Expr e → c ≡ Content.expression e → IsContentOf value c
  template : (t : Tmpl) → value ≡ items.Nested t → c ≡ Content.template (out-Tmpl t).var → IsContentOf value c

-- the template in which an item stands, within another one
pub record StandsIn (root : Tmpl) (i : TargetItem) : Type 0 where
  pub template : Tmpl
  pub nested : IsNested root template
  pub var : (out-Tmpl template).var ≡ i.owner
  pub item : Item
  pub has : HasItem template item
  pub prop : item.prop ≡ i.prop
  pub content : IsContentOf item.value i.content

pub var_of_parts : (t : Tmpl) → (parts t).var ≡ (out-Tmpl t).var
var_of_parts t = ap (λ x. (parts x).var) (sym (roll-out-Tmpl t)) ∙ ap (λ (p : TemplatePart). p.var) (template_is (out-Tmpl t).var (out-Tmpl t).class (out-Tmpl t).items)

-- ---- the recursion

record Within (value : ItemValue) (i : TargetItem) : Type 0 where
  part : Tmpl
  is : value ≡ items.Nested part
  stands : StandsIn part i

record Own (item : Item) (owner : ℕ) (i : TargetItem) : Type 0 where
  owned : i.owner ≡ owner
  prop : item.prop ≡ i.prop
  content : IsContentOf item.value i.content

ValueHolds : ItemValue → Type 0
ValueHolds value = IsContentOf value (content_of value).content × ((i : TargetItem) → Contains (content_of value).within i → Within value i)

ItemHolds : Item → Type 0
ItemHolds item = (owner : ℕ) (i : TargetItem) → Contains (item_of item owner) i → Own item owner i ⊎ Within item.value i

TmplHolds : Tmpl → Type 0
TmplHolds t = (i : TargetItem) → Contains (parts t).items i → StandsIn t i

abbrev V : Type 0
V = (v : ItemValue) × ValueHolds v

abbrev I : Type 0
I = (i : Item) × ItemHolds i

abbrev T : Type 0
T = (t : Tmpl) × TmplHolds t

value_layer : (y : layers.ItemValue-F V I T) → ValueHolds (roll-ItemValue (map-ItemValue V I T ItemValue Item Tmpl (λ x. x.0) (λ x. x.0) (λ x. x.0) y))
unfolding ValueHolds TmplHolds
value_layer layers.Null =
    let part = fold-roll-ItemValue ContentPart ItemPart TemplatePart content_part item_part template_part layers.Null in (
      IsContentOf.empty items.rolls-Null (ap (λ (p : ContentPart). p.content) part),
      λ i c. absurd (nothing_in i (subst (λ (p : ContentPart). Contains p.within i) part c)),
    )
value_layer (layers.Expr x) =
    let part = fold-roll-ItemValue ContentPart ItemPart TemplatePart content_part item_part template_part (layers.Expr x) in (
      IsContentOf.expression x (items.rolls-Expr x) (ap (λ (p : ContentPart). p.content) part),
      λ i c. absurd (nothing_in i (subst (λ (p : ContentPart). Contains p.within i) part c)),
    )
value_layer (layers.Nested t) =
    let part = fold-roll-ItemValue ContentPart ItemPart TemplatePart content_part item_part template_part (layers.Nested t.0) in (
      IsContentOf.template t.0 (items.rolls-Nested t.0) (ap (λ (p : ContentPart). p.content) part ∙ ap Content.template (var_of_parts t.0)),
      λ i c. record { part = t.0; is = items.rolls-Nested t.0; stands = t.1 i (subst (λ (p : ContentPart). Contains p.within i) part c) },
    )

item_layer : (y : layers.Item-F V I T) → ItemHolds (roll-Item (map-Item V I T ItemValue Item Tmpl (λ x. x.0) (λ x. x.0) (λ x. x.0) y))
unfolding ItemHolds ValueHolds
item_layer y owner i c =
    let d = map-Item V I T ItemValue Item Tmpl (λ x. x.0) (λ x. x.0) (λ x. x.0) y in
    let part = fold-roll-Item ContentPart ItemPart TemplatePart content_part item_part template_part d in
    by (subst (λ (f : ItemPart). Contains (f owner) i) part c)
  where
    by : Contains (item_part (record { prop = y.prop; value = content_of y.value.0 }) owner) i
        → Own (roll-Item (map-Item V I T ItemValue Item Tmpl (λ x. x.0) (λ x. x.0) (λ x. x.0) y)) owner i ⊎ Within y.value.0 i
    by (zero, below, same) = inl (record {
      owned = sym (ap (λ (x : TargetItem). x.owner) same);
      prop = ap (λ (x : TargetItem). x.prop) same;
      content = subst (IsContentOf y.value.0) (ap (λ (x : TargetItem). x.content) same) y.value.1.0;
    })
    by (suc k, below, same) = inr (y.value.1.1 i (k, omega (arith, below), same))

abbrev items_of : List I → List Item
items_of is = map (λ i. i.0) is

-- an element of lists that are joined is one of a list
in_flat : (u : ℕ) (is : List I) (i : TargetItem) → Contains (flat_map (λ (f : ItemPart). f u) (map item_of (items_of is))) i
    → (x : I) × Contains (items_of is) x.0 × Contains (item_of x.0 u) i
in_flat u [] i c = absurd (nothing_in i c)
in_flat u (x ∷ is) i c =
    by (λ d. in_flat u is i d) (Contains-append_cases (item_of x.0 u) (flat_map (λ (f : ItemPart). f u) (map item_of (items_of is))) i c)
  where
    by : (Contains (flat_map (λ (f : ItemPart). f u) (map item_of (items_of is))) i → (y : I) × Contains (items_of is) y.0 × Contains (item_of y.0 u) i)
        → Contains (item_of x.0 u) i ⊎ Contains (flat_map (λ (f : ItemPart). f u) (map item_of (items_of is))) i
        → (y : I) × Contains (items_of (x ∷ is)) y.0 × Contains (item_of y.0 u) i
    by rest (inl d) = (x, contains_first x.0 (items_of is), d)
    by rest (inr d) = let (y, among, within) = rest d in (y, contains_later y.0 x.0 (items_of is) among, within)

stands_in : (root : Tmpl) (item : Item) (i : TargetItem) → HasItem root item → Own item (out-Tmpl root).var i ⊎ Within item.value i → StandsIn root i
stands_in root item i has (inl own) = record { template = root; nested = IsNested.whole root; var = sym own.owned; item = item; has = has; prop = own.prop; content = own.content }
stands_in root item i has (inr w) = record {
  template = w.stands.template;
  nested = IsNested.inside root item.prop w.part w.stands.template (subst (λ v. HasItem root (record { prop = item.prop; value = v })) w.is has) w.stands.nested;
  var = w.stands.var;
  item = w.stands.item;
  has = w.stands.has;
  prop = w.stands.prop;
  content = w.stands.content;
}

tmpl_layer : (y : layers.Tmpl-F V I T) → TmplHolds (roll-Tmpl (map-Tmpl V I T ItemValue Item Tmpl (λ x. x.0) (λ x. x.0) (λ x. x.0) y))
unfolding TmplHolds ItemHolds
tmpl_layer y i c =
    let t = map-Tmpl V I T ItemValue Item Tmpl (λ x. x.0) (λ x. x.0) (λ x. x.0) y in
    let part = fold-roll-Tmpl ContentPart ItemPart TemplatePart content_part item_part template_part t in
    let (x, among, within) = in_flat y.var y.items i (subst (λ (p : TemplatePart). Contains p.items i) part c) in
    stands_in (roll-Tmpl t) x.0 i (subst (λ z. Contains z.items x.0) (sym (out-roll-Tmpl t)) among)
    (x.1 (out-Tmpl (roll-Tmpl t)).var i (subst (λ z. Contains (item_of x.0 z.var) i) (sym (out-roll-Tmpl t)) within))

all_stand : (t : Tmpl) → TmplHolds t
all_stand = ind-Tmpl ValueHolds ItemHolds TmplHolds
    (λ x y is. subst (λ z. ValueHolds (roll-ItemValue z)) is (value_layer y))
    (λ x y is. subst (λ z. ItemHolds (roll-Item z)) is (item_layer y))
    (λ x y is. subst (λ z. TmplHolds (roll-Tmpl z)) is (tmpl_layer y))

-- each item of a template stands in a template within it
pub item_stands : (t : Tmpl) (i : TargetItem) → Contains (parts t).items i → StandsIn t i
unfolding TmplHolds
item_stands t i c = all_stand t i c

-- a template within one that is nested is nested
pub joined : (root t part : Tmpl) → IsNested root t → (item : Item) → HasItem t item → item.value ≡ items.Nested part → IsNested root part
joined root t part (IsNested.whole _) item has is = IsNested.inside root item.prop part part (subst (λ v. HasItem root (record { prop = item.prop; value = v })) is has) (IsNested.whole part)
joined root t part (IsNested.inside _ prop between _ among nested) item has is = IsNested.inside root prop between part among (joined between t part nested item has is)

-- ---- the domain of the target

-- the first domain of the target, with its template
pub record IsFirstTarget (program : Program) (rel : Rel) (dom : Dom) (root : Tmpl) : Type 0 where
  pub of : IsTargetDomain program rel dom
  pub first : target_domain program rel ≡ Some dom
  pub has : dom.template ≡ Some root

pub record StandsInTarget (program : Program) (rel : Rel) (i : TargetItem) : Type 0 where
  pub dom : Dom
  pub root : Tmpl
  pub is : IsFirstTarget program rel dom root
  pub stands : StandsIn root i

pub target_item_stands : (program : Program) (rel : Rel) (i : TargetItem) → Contains (target_items program rel) i → StandsInTarget program rel i
target_item_stands program rel i c = by (target_domain program rel) refl c
  where
    by_template : (dom : Dom) → target_domain program rel ≡ Some dom → (o : Option Tmpl) → dom.template ≡ o → Contains (option_map_or (λ t. (parts t).items) o []) i → StandsInTarget program rel i
    by_template dom first None has there = absurd (nothing_in i there)
    by_template dom first (Some root) has there =
        let found = find_some (is_target_domain program) rel.domains dom first in
        record {
          dom = dom;
          root = root;
          is = record { of = record { is = found.0; target = target_is program.target dom.model found.1 }; first = first; has = has };
          stands = item_stands root i there;
        }

    by : (o : Option Dom) → target_domain program rel ≡ o → Contains (option_map_or (λ t. (parts t).items) (option_and_then (λ (dom : Dom). dom.template) o) []) i → StandsInTarget program rel i
    by None first there = absurd (nothing_in i there)
    by (Some dom) first there = by_template dom first dom.template refl there

-- a relation has one domain of the target
pub one_target : (program : Program) (rel : Rel) (a b : Dom) → AllPairs AreOfTwoModels rel.domains → IsTargetDomain program rel a → IsTargetDomain program rel b → a ≡ b
one_target program rel a b apart one other =
    one_of AreOfTwoModels rel.domains a b apart (λ differ. differ program.target one.target other.target) (λ differ. differ program.target other.target one.target) one.is other.is

-- the template of the domain of the target is that of which the items are
pub target_template : (program : Program) (rel : Rel) (dom : Dom) (root : Tmpl) → AllPairs AreOfTwoModels rel.domains → IsTargetDomain program rel dom → dom.template ≡ Some root
    → target_items program rel ≡ (parts root).items
target_template program rel dom root apart of has = by (target_domain program rel) refl
  where
    by : (o : Option Dom) → target_domain program rel ≡ o → option_map_or (λ t. (parts t).items) (option_and_then (λ (x : Dom). x.template) o) [] ≡ (parts root).items
    by None none = absurd (never (find_none (is_target_domain program) rel.domains dom none of.is))
      where
        never : is_target_domain program dom ≡ false → ⊥
        never outside = true≢false (sym (eq-eqb program.target program.target refl) ∙ sym (ap (λ m. is_model m program.target) of.target) ∙ outside)
    by (Some first) is =
        let found = find_some (is_target_domain program) rel.domains first is in
        let same : first ≡ dom = one_target program rel first dom apart (record { is = found.0; target = target_is program.target first.model found.1 }) of in
        ap (λ (o : Option Tmpl). option_map_or (λ t. (parts t).items) o []) (ap (λ (x : Dom). x.template) same ∙ has)
