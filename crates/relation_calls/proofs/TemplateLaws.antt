-- A template matches alike in two bindings that agree on its variables and on the values of its expressions: by recursion on the template.
use Rattle.std.specs.Prelude.{◌≡◌, ℕ, Bool, ◌&&◌, List, [], ◌∷◌, map, Option, None, Some, Contains}
use Rattle.std.specs.List.{list_all}
use Rattle.std.proofs.Common.{refl, sym, ap, subst, ◌∙◌}
use Rattle.object_tables.specs.Models.{ModelData}
use Rattle.qv_syntax.specs.declared.program.Program.{Program}
use Rattle.qv_syntax.specs.declared.program.Tmpl.{Tmpl, out-Tmpl, roll-Tmpl, map-Tmpl, ind-Tmpl, fold-roll-Tmpl, out-roll-Tmpl}
use Rattle.qv_syntax.specs.declared.program.Item.{Item, roll-Item, map-Item, fold-roll-Item}
use Rattle.qv_syntax.specs.declared.program.ItemValue.{ItemValue, roll-ItemValue, map-ItemValue, fold-roll-ItemValue}
use Rattle.qv_syntax.specs.declared.program.ItemValue.TheVariants as items
use Rattle.qv_syntax.specs.declared.program.ItemValue.TheOpen as layers
use Rattle.qv_syntax.specs.declared.typed.Typed.{Typed}
use Rattle.qv_syntax.specs.Parts.{IsNested, HasItem}
use Rattle.qvtr_semantics.specs.declared.datum.Datum.{Datum}
use Rattle.qvtr_semantics.specs.Outs.{datum_of}
use Rattle.qvtr_semantics.specs.Objects.{held_at}
use Rattle.qvtr_semantics.specs.Expressions.{setting, value_for}
use Rattle.qvtr_semantics.specs.Templates.{Values, SlotMeaning, ItemMeaning, Pattern, value_at, has, is_of_class, object_matches, slot_meaning, item_meaning, tmpl_meaning, pattern, meets}
use Rattle.qvtr_semantics.proofs.TemplateLaws.{slot_of, item_of}
use Rattle.template_match.proofs.ListLaws.{contains_later}
use Rattle.mof_metamodel.proofs.Facts.{contains_first}

module _ (program : Program) (ms : List ModelData) (b c : Values) where
  -- ---- what is asked of a template

  -- the variables of the templates within it have the same values, and so have the expressions of their items
  record Fine (t : Tmpl) : Type 0 where
    same : (inner : Tmpl) → IsNested t inner → value_at b (out-Tmpl inner).var ≡ value_at c (out-Tmpl inner).var
    expressions : (inner : Tmpl) (item : Item) (e : Typed) → IsNested t inner → HasItem inner item → item.value ≡ items.Expr e
        → value_for program ms e b ≡ value_for program ms e c

  -- the same of the value of an item
  record FineValue (value : ItemValue) : Type 0 where
    expression : (e : Typed) → value ≡ items.Expr e → value_for program ms e b ≡ value_for program ms e c
    nested : (t : Tmpl) → value ≡ items.Nested t → Fine t

  item_fine : (t : Tmpl) (item : Item) → Fine t → HasItem t item → FineValue item.value
  item_fine t item fine has_item =
      let inside : (part inner : Tmpl) → item.value ≡ items.Nested part → IsNested part inner → IsNested t inner =
      λ part inner is nested. IsNested.inside t item.prop part inner (subst (λ v. HasItem t (record { prop = item.prop; value = v })) is has_item) nested in
      record {
        expression = λ e is. fine.expressions t item e (IsNested.whole t) has_item is;
        nested = λ part is. record {
          same = λ inner nested. fine.same inner (inside part inner is nested);
          expressions = λ inner other e nested has_other same. fine.expressions inner other e (inside part inner is nested) has_other same;
        };
      }

  -- ---- the recursion

  ValueSame : ItemValue → Type 0
  ValueSame value = FineValue value → (held : Option (List Datum)) → slot_of program ms value b held ≡ slot_of program ms value c held

  ItemSame : Item → Type 0
  ItemSame item = FineValue item.value → (d : Datum) → item_of program ms item b d ≡ item_of program ms item c d

  TmplSame : Tmpl → Type 0
  TmplSame t = Fine t → ((pattern program ms t).var ≡ (out-Tmpl t).var) × (meets program ms t b ≡ meets program ms t c)

  abbrev V : Type 0
  V = (v : ItemValue) × ValueSame v

  abbrev I : Type 0
  I = (i : Item) × ItemSame i

  abbrev T : Type 0
  T = (t : Tmpl) × TmplSame t

  value_by : (d : layers.ItemValue-F ItemValue Item Tmpl)
      → (FineValue (roll-ItemValue d) → (held : Option (List Datum))
      → slot_meaning program ms (map-ItemValue ItemValue Item Tmpl SlotMeaning ItemMeaning Pattern (slot_of program ms) (item_of program ms) (pattern program ms) d) b held
      ≡ slot_meaning program ms (map-ItemValue ItemValue Item Tmpl SlotMeaning ItemMeaning Pattern (slot_of program ms) (item_of program ms) (pattern program ms) d) c held)
      → ValueSame (roll-ItemValue d)
  unfolding ValueSame
  value_by d h fine held =
      let is = fold-roll-ItemValue SlotMeaning ItemMeaning Pattern (slot_meaning program ms) (item_meaning (setting program ms)) (tmpl_meaning (setting program ms)) d in
      ap (λ (m : SlotMeaning). m b held) is ∙ h fine held ∙ sym (ap (λ (m : SlotMeaning). m c held) is)

  value_layer : (y : layers.ItemValue-F V I T) → ValueSame (roll-ItemValue (map-ItemValue V I T ItemValue Item Tmpl (λ x. x.0) (λ x. x.0) (λ x. x.0) y))
  unfolding TmplSame
  value_layer layers.Null = value_by layers.Null (λ fine held. refl)
  value_layer (layers.Expr e) = value_by (layers.Expr e) (λ fine held. ap (λ o. has held (datum_of o)) (fine.expression e (items.rolls-Expr e)))
  value_layer (layers.Nested t) = value_by (layers.Nested t.0) (λ fine held.
      let inner : Fine t.0 = fine.nested t.0 (items.rolls-Nested t.0) in
      let same = t.1 inner in
      ap (λ v. has held (value_at b v) && meets program ms t.0 b) same.0
      ∙ ap (λ o. has held o && meets program ms t.0 b) (inner.same t.0 (IsNested.whole t.0))
      ∙ ap (λ v. has held (value_at c v) && meets program ms t.0 b) (sym same.0)
      ∙ ap (λ m. has held (value_at c (pattern program ms t.0).var) && m) same.1)

  item_layer : (y : layers.Item-F V I T) → ItemSame (roll-Item (map-Item V I T ItemValue Item Tmpl (λ x. x.0) (λ x. x.0) (λ x. x.0) y))
  unfolding ItemSame ValueSame
  item_layer y fine d =
      let i = map-Item V I T ItemValue Item Tmpl (λ x. x.0) (λ x. x.0) (λ x. x.0) y in
      let is = fold-roll-Item SlotMeaning ItemMeaning Pattern (slot_meaning program ms) (item_meaning (setting program ms)) (tmpl_meaning (setting program ms)) i in
      ap (λ (m : ItemMeaning). m b d) is ∙ y.value.1 fine (held_at (setting program ms) d y.prop.0) ∙ sym (ap (λ (m : ItemMeaning). m c d) is)

  abbrev items_of : List I → List Item
  items_of is = map (λ i. i.0) is

  abbrev all_hold : Values → List I → Datum → Bool
  all_hold a is d = list_all (λ (item : ItemMeaning). item a d) (map (item_of program ms) (items_of is))

  items_same : (is : List I) → ((item : Item) → Contains (items_of is) item → FineValue item.value) → (d : Datum) → all_hold b is d ≡ all_hold c is d
  unfolding ItemSame
  items_same [] fine d = refl
  items_same (i ∷ is) fine d =
      ap (λ x. x && all_hold b is d) (i.1 (fine i.0 (contains_first i.0 (items_of is))) d)
      ∙ ap (λ x. item_of program ms i.0 c d && x) (items_same is (λ item within. fine item (contains_later item i.0 (items_of is) within)) d)

  object_same : (class : ℕ) (is : List I) → ((item : Item) → Contains (items_of is) item → FineValue item.value) → (o : Option Datum)
      → object_matches (setting program ms) class (map (item_of program ms) (items_of is)) b o ≡ object_matches (setting program ms) class (map (item_of program ms) (items_of is)) c o
  object_same class is fine None = refl
  object_same class is fine (Some d) = ap (λ x. is_of_class (setting program ms) class d && x) (items_same is fine d)

  tmpl_layer : (y : layers.Tmpl-F V I T) → TmplSame (roll-Tmpl (map-Tmpl V I T ItemValue Item Tmpl (λ x. x.0) (λ x. x.0) (λ x. x.0) y))
  unfolding TmplSame
  tmpl_layer y fine =
      let t = map-Tmpl V I T ItemValue Item Tmpl (λ x. x.0) (λ x. x.0) (λ x. x.0) y in
      let one = fold-roll-Tmpl SlotMeaning ItemMeaning Pattern (slot_meaning program ms) (item_meaning (setting program ms)) (tmpl_meaning (setting program ms)) t in
      let whole : Tmpl = roll-Tmpl t in
      let var : (out-Tmpl whole).var ≡ y.var = ap (λ (x : layers.Tmpl-F ItemValue Item Tmpl). x.var) (out-roll-Tmpl t) in
      let parts : (item : Item) → Contains (items_of y.items) item → FineValue item.value =
      λ item within. item_fine whole item fine (subst (λ x. Contains x.items item) (sym (out-roll-Tmpl t)) within) in
      let same : value_at b y.var ≡ value_at c y.var = ap (value_at b) (sym var) ∙ fine.same whole (IsNested.whole whole) ∙ ap (value_at c) var in (
        ap (λ (m : Pattern). m.var) one ∙ sym var,
        ap (λ (m : Pattern). m.matches b) one
            ∙ object_same y.class.0 y.items parts (value_at b y.var)
            ∙ ap (object_matches (setting program ms) y.class.0 (map (item_of program ms) (items_of y.items)) c) same
            ∙ sym (ap (λ (m : Pattern). m.matches c) one),
      )

  same_by : (t : Tmpl) → TmplSame t
  same_by = ind-Tmpl ValueSame ItemSame TmplSame
      (λ x y is. subst (λ z. ValueSame (roll-ItemValue z)) is (value_layer y))
      (λ x y is. subst (λ z. ItemSame (roll-Item z)) is (item_layer y))
      (λ x y is. subst (λ z. TmplSame (roll-Tmpl z)) is (tmpl_layer y))

  pub template_same : (t : Tmpl) → ((inner : Tmpl) → IsNested t inner → value_at b (out-Tmpl inner).var ≡ value_at c (out-Tmpl inner).var)
      → ((inner : Tmpl) (item : Item) (e : Typed) → IsNested t inner → HasItem inner item → item.value ≡ items.Expr e → value_for program ms e b ≡ value_for program ms e c)
      → meets program ms t b ≡ meets program ms t c
  unfolding TmplSame
  template_same t same expressions = (same_by t (record { same = same; expressions = expressions })).1
