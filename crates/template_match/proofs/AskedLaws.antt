-- What the items of a template ask by expressions stands in each binding that meets the template.
use Rattle.std.specs.Prelude.{◌≡◌, ℕ, Bool, true, false, ◌&&◌, if◌then◌else◌, List, [], ◌∷◌, map, Option, None, Some, is_some}
use Rattle.std.specs.List.{AllByRecursion, flat_map, list_all}
use Rattle.std.specs.Option.{option_map_or}
use Rattle.std.proofs.Common.{refl, sym, ap, subst, ◌∙◌}
use Rattle.std.proofs.lemmas.Bool.{and_parts, true≢false}
use Rattle.mof_metamodel.specs.declared.desc.PropId.{PropId}
use Rattle.object_tables.specs.Models.{ModelData}
use Rattle.qv_syntax.specs.declared.program.Program.{Program}
use Rattle.qv_syntax.specs.declared.program.Dom.{Dom}
use Rattle.qv_syntax.specs.declared.program.Tmpl.{Tmpl, roll-Tmpl, map-Tmpl, ind-Tmpl, fold-roll-Tmpl}
use Rattle.qv_syntax.specs.declared.program.Item.{Item, roll-Item, map-Item, fold-roll-Item}
use Rattle.qv_syntax.specs.declared.program.ItemValue.{ItemValue, roll-ItemValue, map-ItemValue, fold-roll-ItemValue}
use Rattle.qv_syntax.specs.declared.program.ItemValue.TheOpen as layers
use Rattle.qv_syntax.specs.declared.typed.Typed.{Typed}
use Rattle.qv_syntax.specs.declared.typed.Node.{out-Node}
use Rattle.qvtr_semantics.specs.declared.datum.Datum.{Datum}
use Rattle.qvtr_semantics.specs.Outs.{datum_of}
use Rattle.qvtr_semantics.specs.Objects.{held_at}
use Rattle.qvtr_semantics.specs.Expressions.{setting, value_for}
use Rattle.qvtr_semantics.specs.Templates.{Values, SlotMeaning, ItemMeaning, Pattern, slot_meaning, item_meaning, tmpl_meaning, object_matches, is_of_class, pattern, meets, value_at, has}
use Rattle.qvtr_semantics.specs.Bindings.{template_meets}
use Rattle.template_match.specs.declared.side.Side.{Side}
use Rattle.template_match.specs.Asked.{Asker, AskedValue, asked_unless, value_asked, item_asked, tmpl_asked, asked_in, asked_in_item, asked_in_value, domain_asked}
use Rattle.template_match.specs.Links.{variable_alone}
use Rattle.template_match.specs.Meeting.{slot_of, item_of}
use Rattle.template_match.specs.Settled.{asked_datum}
use Rattle.template_match.specs.Sides.{is_of_side, domain_meets}
use Rattle.template_match.proofs.LinkLaws.{asked_of}
use Rattle.template_match.proofs.ListLaws.{all_append}

module _ (program : Program) (models : List ModelData) (b : Values) where
  -- the object is bound, and what is asked for stands in its slot; a condition whose other side is no single value asks for nothing
  abbrev pub is_asked_for : Asker → Bool
  is_asked_for (Asker.item e) = true
  is_asked_for (Asker.condition e) = is_some (datum_of (value_for program models e b))
  is_asked_for (Asker.equation v) = true

  abbrev pub Stands : AskedValue → Type 0
  Stands t = is_asked_for t.by ≡ true → (d : Datum) × (value_at b t.holder ≡ Some d) × (has (held_at (setting program models) d t.prop.0) (asked_datum program models b t.by) ≡ true)

  abbrev AllStand : List AskedValue → Type 0
  AllStand ts = AllByRecursion Stands ts

  abbrev OfValue : Type 0
  OfValue = ℕ → PropId → List AskedValue

  abbrev OfItem : Type 0
  OfItem = ℕ → List AskedValue

  ValueStands : ItemValue → Type 0
  ValueStands v = (u : ℕ) (d : Datum) (prop : PropId) → value_at b u ≡ Some d
      → slot_of program models v b (held_at (setting program models) d prop.0) ≡ true → AllStand (asked_in_value v u prop)

  ItemStands : Item → Type 0
  ItemStands i = (u : ℕ) (d : Datum) → value_at b u ≡ Some d → item_of program models i b d ≡ true → AllStand (asked_in_item i u)

  TmplStands : Tmpl → Type 0
  TmplStands t = meets program models t b ≡ true → AllStand (asked_in t)

  abbrev V : Type 0
  V = (v : ItemValue) × ValueStands v

  abbrev I : Type 0
  I = (i : Item) × ItemStands i

  abbrev T : Type 0
  T = (t : Tmpl) × TmplStands t

  -- ---- values

  asked_is : (d : layers.ItemValue-F ItemValue Item Tmpl) → asked_in_value (roll-ItemValue d) ≡ value_asked (map-ItemValue ItemValue Item Tmpl OfValue OfItem (List AskedValue) asked_in_value asked_in_item asked_in d)
  asked_is d = fold-roll-ItemValue OfValue OfItem (List AskedValue) value_asked item_asked tmpl_asked d

  slot_is : (d : layers.ItemValue-F ItemValue Item Tmpl)
      → slot_of program models (roll-ItemValue d) ≡ slot_meaning program models (map-ItemValue ItemValue Item Tmpl SlotMeaning ItemMeaning Pattern (slot_of program models) (item_of program models) (pattern program models) d)
  slot_is d = fold-roll-ItemValue SlotMeaning ItemMeaning Pattern (slot_meaning program models) (item_meaning (setting program models)) (tmpl_meaning (setting program models)) d

  own_stands : (u : ℕ) (d : Datum) (prop : PropId) (e : Typed) (o : Option ℕ) → value_at b u ≡ Some d
      → has (held_at (setting program models) d prop.0) (datum_of (value_for program models e b)) ≡ true → AllStand (asked_unless o u prop e)
  own_stands u d prop e (Some v) at h = tt
  own_stands u d prop e None at h = (λ _. (d, at, h), tt)

  value_layer : (y : layers.ItemValue-F V I T) → ValueStands (roll-ItemValue (map-ItemValue V I T ItemValue Item Tmpl (λ x. x.0) (λ x. x.0) (λ x. x.0) y))
  unfolding ValueStands TmplStands
  value_layer layers.Null u d prop at h = subst (λ (k : OfValue). AllStand (k u prop)) (sym (asked_is layers.Null)) tt
  value_layer (layers.Expr e) u d prop at h =
      let slot = held_at (setting program models) d prop.0 in
      let asked : has slot (datum_of (value_for program models e b)) ≡ true = sym (ap (λ (m : SlotMeaning). m b slot) (slot_is (layers.Expr e))) ∙ h in
      subst (λ (k : OfValue). AllStand (k u prop)) (sym (asked_is (layers.Expr e))) (own_stands u d prop e (variable_alone (out-Node e.node)) at asked)
  value_layer (layers.Nested t) u d prop at h =
      let slot = held_at (setting program models) d prop.0 in
      let asked : (has slot (value_at b (pattern program models t.0).var) && meets program models t.0 b) ≡ true = sym (ap (λ (m : SlotMeaning). m b slot) (slot_is (layers.Nested t.0))) ∙ h in
      subst (λ (k : OfValue). AllStand (k u prop)) (sym (asked_is (layers.Nested t.0)))
      (t.1 (and_parts (has slot (value_at b (pattern program models t.0).var)) (meets program models t.0 b) asked).1)

  -- ---- items

  item_layer : (y : layers.Item-F V I T) → ItemStands (roll-Item (map-Item V I T ItemValue Item Tmpl (λ x. x.0) (λ x. x.0) (λ x. x.0) y))
  unfolding ItemStands ValueStands
  item_layer y u d at h =
      let i = map-Item V I T ItemValue Item Tmpl (λ x. x.0) (λ x. x.0) (λ x. x.0) y in
      subst AllStand (sym (ap (λ (f : OfItem). f u) (fold-roll-Item OfValue OfItem (List AskedValue) value_asked item_asked tmpl_asked i)))
      (y.value.1 u d y.prop at
      (sym (ap (λ (m : ItemMeaning). m b d) (fold-roll-Item SlotMeaning ItemMeaning Pattern (slot_meaning program models) (item_meaning (setting program models)) (tmpl_meaning (setting program models)) i)) ∙ h))

  -- ---- templates

  abbrev items_of : List I → List Item
  items_of is = map (λ i. i.0) is

  items_stand : (is : List I) (u : ℕ) (d : Datum) → value_at b u ≡ Some d → list_all (λ (item : ItemMeaning). item b d) (map (item_of program models) (items_of is)) ≡ true
      → AllStand (flat_map (λ (f : OfItem). f u) (map asked_in_item (items_of is)))
  unfolding ItemStands
  items_stand [] u d at h = tt
  items_stand (i ∷ is) u d at h =
      let both = and_parts (item_of program models i.0 b d) (list_all (λ (item : ItemMeaning). item b d) (map (item_of program models) (items_of is))) h in
      all_append Stands (asked_in_item i.0 u) (flat_map (λ (f : OfItem). f u) (map asked_in_item (items_of is))) (i.1 u d at both.0) (items_stand is u d at both.1)

  matched : (is : List I) (u class : ℕ) (o : Option Datum) → value_at b u ≡ o → object_matches (setting program models) class (map (item_of program models) (items_of is)) b o ≡ true
      → AllStand (flat_map (λ (f : OfItem). f u) (map asked_in_item (items_of is)))
  matched is u class None at h = absurd (true≢false (sym h))
  matched is u class (Some d) at h =
      items_stand is u d at (and_parts (is_of_class (setting program models) class d) (list_all (λ (item : ItemMeaning). item b d) (map (item_of program models) (items_of is))) h).1

  tmpl_layer : (y : layers.Tmpl-F V I T) → TmplStands (roll-Tmpl (map-Tmpl V I T ItemValue Item Tmpl (λ x. x.0) (λ x. x.0) (λ x. x.0) y))
  unfolding TmplStands
  tmpl_layer y h =
      let t = map-Tmpl V I T ItemValue Item Tmpl (λ x. x.0) (λ x. x.0) (λ x. x.0) y in
      subst AllStand (sym (fold-roll-Tmpl OfValue OfItem (List AskedValue) value_asked item_asked tmpl_asked t))
      (matched y.items y.var y.class.0 (value_at b y.var) refl
      (sym (ap (λ (m : Pattern). m.matches b) (fold-roll-Tmpl SlotMeaning ItemMeaning Pattern (slot_meaning program models) (item_meaning (setting program models)) (tmpl_meaning (setting program models)) t)) ∙ h))

  template_stands : (t : Tmpl) → TmplStands t
  template_stands = ind-Tmpl ValueStands ItemStands TmplStands
      (λ x y is. subst (λ z. ValueStands (roll-ItemValue z)) is (value_layer y))
      (λ x y is. subst (λ z. ItemStands (roll-Item z)) is (item_layer y))
      (λ x y is. subst (λ z. TmplStands (roll-Tmpl z)) is (tmpl_layer y))

  -- ---- the domains of a side

  optional_stands : (t : Option Tmpl) → template_meets program models t b ≡ true → AllStand (option_map_or asked_in t [])
  unfolding TmplStands
  optional_stands None h = tt
  optional_stands (Some t) h = template_stands t h

  domain_asks : (side : Side) (dom : Dom) → domain_meets side program models b dom ≡ true → AllStand (domain_asked side program dom)
  domain_asks side dom h = by (is_of_side side program dom) refl
    where
      by : (x : Bool) → is_of_side side program dom ≡ x → AllStand (if x then option_map_or asked_in dom.template [] else [])
      by true is = optional_stands dom.template (asked_of program models b side dom is h)
      by false is = tt

  pub domains_ask : (side : Side) (doms : List Dom) → list_all (domain_meets side program models b) doms ≡ true → AllByRecursion Stands (flat_map (domain_asked side program) doms)
  domains_ask side [] h = tt
  domains_ask side (dom ∷ doms) h =
      let both = and_parts (domain_meets side program models b dom) (list_all (domain_meets side program models b) doms) h in
      all_append Stands (domain_asked side program dom) (flat_map (domain_asked side program) doms) (domain_asks side dom both.0) (domains_ask side doms both.1)
