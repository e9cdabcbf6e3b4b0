-- A template matches alike over models that agree but for the target, in two bindings in which its variables have the same values, no
-- objects of the target, and the expressions within it have the same values: by recursion on the template.
use Rattle.std.specs.Prelude.{◌≡◌, ℕ, Bool, ◌&&◌, List, [], ◌∷◌, map, Option, None, Some, Contains}
use Rattle.std.specs.List.{list_all}
use Rattle.std.proofs.Common.{refl, sym, ap, subst, ◌∙◌}
use Rattle.object_tables.specs.Models.{ModelData}
use Rattle.qv_syntax.specs.declared.program.Program.{Program}
use Rattle.qv_syntax.specs.declared.program.Tmpl.{Tmpl, out-Tmpl, roll-Tmpl, map-Tmpl, ind-Tmpl, fold-roll-Tmpl, out-roll-Tmpl}
use Rattle.qv_syntax.specs.declared.program.Item.{Item, roll-Item, map-Item, fold-roll-Item}
use Rattle.qv_syntax.specs.declared.program.ItemValue.{ItemValue, roll-ItemValue, map-ItemValue, fold-roll-ItemValue}
use Rattle.qv_syntax.specs.declared.program.ItemValue.TheVariants as items
use Rattle.qv_syntax.specs.declared.program.ItemValue.TheOpen as layers
use Rattle.qv_syntax.specs.declared.typed.Typed.{Typed}
use Rattle.qv_syntax.specs.Parts.{IsNested, HasItem}
use Rattle.qvtr_semantics.specs.declared.datum.Datum.{Datum}
use Rattle.qvtr_semantics.specs.Outs.{datum_of}
use Rattle.qvtr_semantics.specs.Objects.{held_at}
use Rattle.qvtr_semantics.specs.Expressions.{setting, value_for}
use Rattle.qvtr_semantics.specs.Templates.{Values, SlotMeaning, ItemMeaning, Pattern, value_at, has, conforms, is_of_class, object_matches, slot_meaning, item_meaning, tmpl_meaning, pattern, meets}
use Rattle.qvtr_semantics.proofs.TemplateLaws.{slot_of, item_of}
use Rattle.template_match.proofs.ListLaws.{contains_later}
use Rattle.mof_metamodel.proofs.Facts.{contains_first}
use Rattle.source_laws.specs.Agreement.{AgreeBut}
use Rattle.source_laws.specs.SourceValues.{IsOfSources}
use Rattle.source_laws.proofs.SettingLaws.{held_same, class_same}

module _ (program : Program) (ms ns : List ModelData) (agree : AgreeBut program.target ms ns) (b c : Values) where
  -- ---- what is asked of a template

  -- the variables of the templates within it have no objects of the target, and the expressions of their items the same values
  record Fine (t : Tmpl) : Type 0 where
    same : (inner : Tmpl) → IsNested t inner → value_at b (out-Tmpl inner).var ≡ value_at c (out-Tmpl inner).var
    variables : (inner : Tmpl) (d : Datum) → IsNested t inner → value_at b (out-Tmpl inner).var ≡ Some d → IsOfSources program.target d
    expressions : (inner : Tmpl) (item : Item) (e : Typed) → IsNested t inner → HasItem inner item → item.value ≡ items.Expr e
        → value_for program ms e b ≡ value_for program ns e c

  -- the same of the value of an item
  record FineValue (value : ItemValue) : Type 0 where
    expression : (e : Typed) → value ≡ items.Expr e → value_for program ms e b ≡ value_for program ns e c
    nested : (t : Tmpl) → value ≡ items.Nested t → Fine t

  item_fine : (t : Tmpl) (item : Item) → Fine t → HasItem t item → FineValue item.value
  item_fine t item fine has_item =
      let inside : (part inner : Tmpl) → item.value ≡ items.Nested part → IsNested part inner → IsNested t inner =
      λ part inner is nested. IsNested.inside t item.prop part inner (subst (λ v. HasItem t (record { prop = item.prop; value = v })) is has_item) nested in
      record {
        expression = λ e is. fine.expressions t item e (IsNested.whole t) has_item is;
        nested = λ part is. record {
          same = λ inner nested. fine.same inner (inside part inner is nested);
          variables = λ inner d nested at. fine.variables inner d (inside part inner is nested) at;
          expressions = λ inner other e nested has_other same. fine.expressions inner other e (inside part inner is nested) has_other same;
        };
      }

  -- ---- the recursion

  ValueSame : ItemValue → Type 0
  ValueSame value = FineValue value → (held : Option (List Datum)) → slot_of program ms value b held ≡ slot_of program ns value c held

  ItemSame : Item → Type 0
  ItemSame item = FineValue item.value → (d : Datum) → IsOfSources program.target d → item_of program ms item b d ≡ item_of program ns item c d

  TmplSame : Tmpl → Type 0
  TmplSame t = Fine t → ((pattern program ms t).var ≡ (out-Tmpl t).var) × ((pattern program ns t).var ≡ (out-Tmpl t).var) × (meets program ms t b ≡ meets program ns t c)

  abbrev V : Type 0
  V = (v : ItemValue) × ValueSame v

  abbrev I : Type 0
  I = (i : Item) × ItemSame i

  abbrev T : Type 0
  T = (t : Tmpl) × TmplSame t

  value_by : (d : layers.ItemValue-F ItemValue Item Tmpl)
      → (FineValue (roll-ItemValue d) → (held : Option (List Datum))
      → slot_meaning program ms (map-ItemValue ItemValue Item Tmpl SlotMeaning ItemMeaning Pattern (slot_of program ms) (item_of program ms) (pattern program ms) d) b held
      ≡ slot_meaning program ns (map-ItemValue ItemValue Item Tmpl SlotMeaning ItemMeaning Pattern (slot_of program ns) (item_of program ns) (pattern program ns) d) c held)
      → ValueSame (roll-ItemValue d)
  unfolding ValueSame
  value_by d h fine held =
      ap (λ (m : SlotMeaning). m b held) (fold-roll-ItemValue SlotMeaning ItemMeaning Pattern (slot_meaning program ms) (item_meaning (setting program ms)) (tmpl_meaning (setting program ms)) d)
      ∙ h fine held
      ∙ sym (ap (λ (m : SlotMeaning). m c held) (fold-roll-ItemValue SlotMeaning ItemMeaning Pattern (slot_meaning program ns) (item_meaning (setting program ns)) (tmpl_meaning (setting program ns)) d))

  value_layer : (y : layers.ItemValue-F V I T) → ValueSame (roll-ItemValue (map-ItemValue V I T ItemValue Item Tmpl (λ x. x.0) (λ x. x.0) (λ x. x.0) y))
  unfolding TmplSame
  value_layer layers.Null = value_by layers.Null (λ fine held. refl)
  value_layer (layers.Expr e) = value_by (layers.Expr e) (λ fine held. ap (λ o. has held (datum_of o)) (fine.expression e (items.rolls-Expr e)))
  value_layer (layers.Nested t) = value_by (layers.Nested t.0) (λ fine held.
      let inner : Fine t.0 = fine.nested t.0 (items.rolls-Nested t.0) in
      let same = t.1 inner in
      ap (λ v. has held (value_at b v) && meets program ms t.0 b) same.0
      ∙ ap (λ o. has held o && meets program ms t.0 b) (inner.same t.0 (IsNested.whole t.0))
      ∙ ap (λ v. has held (value_at c v) && meets program ms t.0 b) (sym same.1)
      ∙ ap (λ m. has held (value_at c (pattern program ns t.0).var) && m) same.2)

  item_layer : (y : layers.Item-F V I T) → ItemSame (roll-Item (map-Item V I T ItemValue Item Tmpl (λ x. x.0) (λ x. x.0) (λ x. x.0) y))
  unfolding ItemSame ValueSame
  item_layer y fine d apart =
      let i = map-Item V I T ItemValue Item Tmpl (λ x. x.0) (λ x. x.0) (λ x. x.0) y in
      ap (λ (m : ItemMeaning). m b d) (fold-roll-Item SlotMeaning ItemMeaning Pattern (slot_meaning program ms) (item_meaning (setting program ms)) (tmpl_meaning (setting program ms)) i)
      ∙ ap (slot_of program ms y.value.0 b) (held_same program.target program.models ms ns agree d y.prop.0 apart)
      ∙ y.value.1 fine (held_at (setting program ns) d y.prop.0)
      ∙ sym (ap (λ (m : ItemMeaning). m c d) (fold-roll-Item SlotMeaning ItemMeaning Pattern (slot_meaning program ns) (item_meaning (setting program ns)) (tmpl_meaning (setting program ns)) i))

  abbrev items_of : List I → List Item
  items_of is = map (λ i. i.0) is

  abbrev all_hold : List ModelData → Values → List I → Datum → Bool
  all_hold models a is d = list_all (λ (item : ItemMeaning). item a d) (map (item_of program models) (items_of is))

  items_same : (is : List I) → ((item : Item) → Contains (items_of is) item → FineValue item.value) → (d : Datum) → IsOfSources program.target d
      → all_hold ms b is d ≡ all_hold ns c is d
  unfolding ItemSame
  items_same [] fine d apart = refl
  items_same (i ∷ is) fine d apart =
      ap (λ x. x && all_hold ms b is d) (i.1 (fine i.0 (contains_first i.0 (items_of is))) d apart)
      ∙ ap (λ x. item_of program ns i.0 c d && x) (items_same is (λ item within. fine item (contains_later item i.0 (items_of is) within)) d apart)

  object_same : (class : ℕ) (is : List I) → ((item : Item) → Contains (items_of is) item → FineValue item.value) → (o : Option Datum)
      → ((d : Datum) → o ≡ Some d → IsOfSources program.target d)
      → object_matches (setting program ms) class (map (item_of program ms) (items_of is)) b o ≡ object_matches (setting program ns) class (map (item_of program ns) (items_of is)) c o
  object_same class is fine None apart = refl
  object_same class is fine (Some d) apart =
      ap (λ x. x && all_hold ms b is d) (ap (conforms class) (class_same program.target program.models ms ns agree d (apart d refl)))
      ∙ ap (λ x. is_of_class (setting program ns) class d && x) (items_same is fine d (apart d refl))

  tmpl_layer : (y : layers.Tmpl-F V I T) → TmplSame (roll-Tmpl (map-Tmpl V I T ItemValue Item Tmpl (λ x. x.0) (λ x. x.0) (λ x. x.0) y))
  unfolding TmplSame
  tmpl_layer y fine =
      let t = map-Tmpl V I T ItemValue Item Tmpl (λ x. x.0) (λ x. x.0) (λ x. x.0) y in
      let one = fold-roll-Tmpl SlotMeaning ItemMeaning Pattern (slot_meaning program ms) (item_meaning (setting program ms)) (tmpl_meaning (setting program ms)) t in
      let other = fold-roll-Tmpl SlotMeaning ItemMeaning Pattern (slot_meaning program ns) (item_meaning (setting program ns)) (tmpl_meaning (setting program ns)) t in
      let whole : Tmpl = roll-Tmpl t in
      let var : (out-Tmpl whole).var ≡ y.var = ap (λ (x : layers.Tmpl-F ItemValue Item Tmpl). x.var) (out-roll-Tmpl t) in
      let parts : (item : Item) → Contains (items_of y.items) item → FineValue item.value =
      λ item within. item_fine whole item fine (subst (λ x. Contains x.items item) (sym (out-roll-Tmpl t)) within) in
      let own : (d : Datum) → value_at b y.var ≡ Some d → IsOfSources program.target d =
      λ d at. fine.variables whole d (IsNested.whole whole) (ap (value_at b) var ∙ at) in
      let same : value_at b y.var ≡ value_at c y.var = ap (value_at b) (sym var) ∙ fine.same whole (IsNested.whole whole) ∙ ap (value_at c) var in (
        ap (λ (m : Pattern). m.var) one ∙ sym var,
        ap (λ (m : Pattern). m.var) other ∙ sym var,
        ap (λ (m : Pattern). m.matches b) one
            ∙ object_same y.class.0 y.items parts (value_at b y.var) own
            ∙ ap (object_matches (setting program ns) y.class.0 (map (item_of program ns) (items_of y.items)) c) same
            ∙ sym (ap (λ (m : Pattern). m.matches c) other),
      )

  same_by : (t : Tmpl) → TmplSame t
  same_by = ind-Tmpl ValueSame ItemSame TmplSame
      (λ x y is. subst (λ z. ValueSame (roll-ItemValue z)) is (value_layer y))
      (λ x y is. subst (λ z. ItemSame (roll-Item z)) is (item_layer y))
      (λ x y is. subst (λ z. TmplSame (roll-Tmpl z)) is (tmpl_layer y))

  pub template_same : (t : Tmpl) → ((inner : Tmpl) → IsNested t inner → value_at b (out-Tmpl inner).var ≡ value_at c (out-Tmpl inner).var)
      → ((inner : Tmpl) (d : Datum) → IsNested t inner → value_at b (out-Tmpl inner).var ≡ Some d → IsOfSources program.target d)
      → ((inner : Tmpl) (item : Item) (e : Typed) → IsNested t inner → HasItem inner item → item.value ≡ items.Expr e → value_for program ms e b ≡ value_for program ns e c)
      → meets program ms t b ≡ meets program ns t c
  unfolding TmplSame
  template_same t same variables expressions = (same_by t (record { same = same; variables = variables; expressions = expressions })).2
