-- What a template asks of the objects of its variables alone holds in each binding that meets the template.
use Rattle.std.specs.Prelude.{◌≡◌, ℕ, Bool, true, false, ◌&&◌, if◌then◌else◌, List, [], ◌∷◌, map, Option, None, Some}
use Rattle.std.specs.List.{AllByRecursion, flat_map, list_all}
use Rattle.std.specs.Option.{option_map_or}
use Rattle.std.proofs.Common.{refl, sym, ap, subst, ◌∙◌}
use Rattle.std.proofs.lemmas.Bool.{and_parts, true≢false}
use Rattle.mof_metamodel.specs.declared.desc.ClassId.{ClassId}
use Rattle.mof_metamodel.specs.declared.desc.PropId.{PropId}
use Rattle.object_tables.specs.Models.{ModelData}
use Rattle.qv_syntax.specs.declared.program.Program.{Program}
use Rattle.qv_syntax.specs.declared.program.Dom.{Dom}
use Rattle.qv_syntax.specs.declared.program.Tmpl.{Tmpl, roll-Tmpl, map-Tmpl, ind-Tmpl, fold-roll-Tmpl}
use Rattle.qv_syntax.specs.declared.program.Item.{Item, roll-Item, map-Item, fold-roll-Item}
use Rattle.qv_syntax.specs.declared.program.ItemValue.{ItemValue, roll-ItemValue, map-ItemValue, fold-roll-ItemValue}
use Rattle.qv_syntax.specs.declared.program.ItemValue.TheOpen as layers
use Rattle.qvtr_semantics.specs.declared.datum.Datum.{Datum}
use Rattle.qvtr_semantics.specs.Objects.{held_at}
use Rattle.qvtr_semantics.specs.Expressions.{setting}
use Rattle.qvtr_semantics.specs.Templates.{Values, SlotMeaning, ItemMeaning, Pattern, slot_meaning, item_meaning, tmpl_meaning, object_matches, is_of_class, pattern, meets, value_at, has}
use Rattle.qvtr_semantics.specs.Bindings.{template_meets}
use Rattle.template_match.specs.declared.side.Side.{Side}
use Rattle.template_match.specs.declared.shape.Feature.TheVariants.{Class}
use Rattle.template_match.specs.declared.shape.Shape.{Shape}
use Rattle.template_match.specs.Meeting.{slot_of, item_of}
use Rattle.template_match.specs.Shapes.{value_shapes, item_shapes, tmpl_shapes, shapes_in, shapes_in_item, shapes_in_value, domain_shapes, has_feature}
use Rattle.template_match.specs.Sides.{is_of_side, domain_meets}
use Rattle.template_match.proofs.LinkLaws.{asked_of}
use Rattle.template_match.proofs.ListLaws.{all_append}

module _ (program : Program) (models : List ModelData) (b : Values) where
  -- the object is bound, and has the feature
  abbrev pub Has : Shape → Type 0
  Has s = (d : Datum) × (value_at b s.holder ≡ Some d) × (has_feature (setting program models) d s.feature ≡ true)

  abbrev AllHave : List Shape → Type 0
  AllHave ss = AllByRecursion Has ss

  abbrev OfValue : Type 0
  OfValue = ℕ → PropId → List Shape

  abbrev OfItem : Type 0
  OfItem = ℕ → List Shape

  ValueHas : ItemValue → Type 0
  ValueHas v = (u : ℕ) (d : Datum) (prop : PropId) → value_at b u ≡ Some d
      → slot_of program models v b (held_at (setting program models) d prop.0) ≡ true → AllHave (shapes_in_value v u prop)

  ItemHas : Item → Type 0
  ItemHas i = (u : ℕ) (d : Datum) → value_at b u ≡ Some d → item_of program models i b d ≡ true → AllHave (shapes_in_item i u)

  TmplHas : Tmpl → Type 0
  TmplHas t = meets program models t b ≡ true → AllHave (shapes_in t)

  abbrev V : Type 0
  V = (v : ItemValue) × ValueHas v

  abbrev I : Type 0
  I = (i : Item) × ItemHas i

  abbrev T : Type 0
  T = (t : Tmpl) × TmplHas t

  -- ---- values

  shapes_are : (d : layers.ItemValue-F ItemValue Item Tmpl) → shapes_in_value (roll-ItemValue d) ≡ value_shapes (map-ItemValue ItemValue Item Tmpl OfValue OfItem (List Shape) shapes_in_value shapes_in_item shapes_in d)
  shapes_are d = fold-roll-ItemValue OfValue OfItem (List Shape) value_shapes item_shapes tmpl_shapes d

  slot_is : (d : layers.ItemValue-F ItemValue Item Tmpl)
      → slot_of program models (roll-ItemValue d) ≡ slot_meaning program models (map-ItemValue ItemValue Item Tmpl SlotMeaning ItemMeaning Pattern (slot_of program models) (item_of program models) (pattern program models) d)
  slot_is d = fold-roll-ItemValue SlotMeaning ItemMeaning Pattern (slot_meaning program models) (item_meaning (setting program models)) (tmpl_meaning (setting program models)) d

  value_layer : (y : layers.ItemValue-F V I T) → ValueHas (roll-ItemValue (map-ItemValue V I T ItemValue Item Tmpl (λ x. x.0) (λ x. x.0) (λ x. x.0) y))
  unfolding ValueHas TmplHas
  value_layer layers.Null u d prop at h =
      let slot = held_at (setting program models) d prop.0 in
      subst (λ (k : OfValue). AllHave (k u prop)) (sym (shapes_are layers.Null)) ((d, at, sym (ap (λ (m : SlotMeaning). m b slot) (slot_is layers.Null)) ∙ h), tt)
  value_layer (layers.Expr e) u d prop at h = subst (λ (k : OfValue). AllHave (k u prop)) (sym (shapes_are (layers.Expr e))) tt
  value_layer (layers.Nested t) u d prop at h =
      let slot = held_at (setting program models) d prop.0 in
      let asked : (has slot (value_at b (pattern program models t.0).var) && meets program models t.0 b) ≡ true = sym (ap (λ (m : SlotMeaning). m b slot) (slot_is (layers.Nested t.0))) ∙ h in
      subst (λ (k : OfValue). AllHave (k u prop)) (sym (shapes_are (layers.Nested t.0)))
      (t.1 (and_parts (has slot (value_at b (pattern program models t.0).var)) (meets program models t.0 b) asked).1)

  -- ---- items

  item_layer : (y : layers.Item-F V I T) → ItemHas (roll-Item (map-Item V I T ItemValue Item Tmpl (λ x. x.0) (λ x. x.0) (λ x. x.0) y))
  unfolding ItemHas ValueHas
  item_layer y u d at h =
      let i = map-Item V I T ItemValue Item Tmpl (λ x. x.0) (λ x. x.0) (λ x. x.0) y in
      subst AllHave (sym (ap (λ (f : OfItem). f u) (fold-roll-Item OfValue OfItem (List Shape) value_shapes item_shapes tmpl_shapes i)))
      (y.value.1 u d y.prop at
      (sym (ap (λ (m : ItemMeaning). m b d) (fold-roll-Item SlotMeaning ItemMeaning Pattern (slot_meaning program models) (item_meaning (setting program models)) (tmpl_meaning (setting program models)) i)) ∙ h))

  -- ---- templates

  abbrev items_of : List I → List Item
  items_of is = map (λ i. i.0) is

  items_have : (is : List I) (u : ℕ) (d : Datum) → value_at b u ≡ Some d → list_all (λ (item : ItemMeaning). item b d) (map (item_of program models) (items_of is)) ≡ true
      → AllHave (flat_map (λ (f : OfItem). f u) (map shapes_in_item (items_of is)))
  unfolding ItemHas
  items_have [] u d at h = tt
  items_have (i ∷ is) u d at h =
      let both = and_parts (item_of program models i.0 b d) (list_all (λ (item : ItemMeaning). item b d) (map (item_of program models) (items_of is))) h in
      all_append Has (shapes_in_item i.0 u) (flat_map (λ (f : OfItem). f u) (map shapes_in_item (items_of is))) (i.1 u d at both.0) (items_have is u d at both.1)

  matched : (is : List I) (u : ℕ) (class : ClassId) (o : Option Datum) → value_at b u ≡ o → object_matches (setting program models) class.0 (map (item_of program models) (items_of is)) b o ≡ true
      → AllHave (record { holder = u; feature = Class class } ∷ flat_map (λ (f : OfItem). f u) (map shapes_in_item (items_of is)))
  matched is u class None at h = absurd (true≢false (sym h))
  matched is u class (Some d) at h =
      let both = and_parts (is_of_class (setting program models) class.0 d) (list_all (λ (item : ItemMeaning). item b d) (map (item_of program models) (items_of is))) h in
      ((d, at, both.0), items_have is u d at both.1)

  tmpl_layer : (y : layers.Tmpl-F V I T) → TmplHas (roll-Tmpl (map-Tmpl V I T ItemValue Item Tmpl (λ x. x.0) (λ x. x.0) (λ x. x.0) y))
  unfolding TmplHas
  tmpl_layer y h =
      let t = map-Tmpl V I T ItemValue Item Tmpl (λ x. x.0) (λ x. x.0) (λ x. x.0) y in
      subst AllHave (sym (fold-roll-Tmpl OfValue OfItem (List Shape) value_shapes item_shapes tmpl_shapes t))
      (matched y.items y.var y.class (value_at b y.var) refl
      (sym (ap (λ (m : Pattern). m.matches b) (fold-roll-Tmpl SlotMeaning ItemMeaning Pattern (slot_meaning program models) (item_meaning (setting program models)) (tmpl_meaning (setting program models)) t)) ∙ h))

  template_has : (t : Tmpl) → TmplHas t
  template_has = ind-Tmpl ValueHas ItemHas TmplHas
      (λ x y is. subst (λ z. ValueHas (roll-ItemValue z)) is (value_layer y))
      (λ x y is. subst (λ z. ItemHas (roll-Item z)) is (item_layer y))
      (λ x y is. subst (λ z. TmplHas (roll-Tmpl z)) is (tmpl_layer y))

  -- ---- the domains of a side

  optional_has : (t : Option Tmpl) → template_meets program models t b ≡ true → AllHave (option_map_or shapes_in t [])
  unfolding TmplHas
  optional_has None h = tt
  optional_has (Some t) h = template_has t h

  domain_has : (side : Side) (dom : Dom) → domain_meets side program models b dom ≡ true → AllHave (domain_shapes side program dom)
  domain_has side dom h = by (is_of_side side program dom) refl
    where
      by : (x : Bool) → is_of_side side program dom ≡ x → AllHave (if x then option_map_or shapes_in dom.template [] else [])
      by true is = optional_has dom.template (asked_of program models b side dom is h)
      by false is = tt

  pub domains_have : (side : Side) (doms : List Dom) → list_all (domain_meets side program models b) doms ≡ true → AllByRecursion Has (flat_map (domain_shapes side program) doms)
  domains_have side [] h = tt
  domains_have side (dom ∷ doms) h =
      let both = and_parts (domain_meets side program models b dom) (list_all (domain_meets side program models b) doms) h in
      all_append Has (domain_shapes side program dom) (flat_map (domain_shapes side program) doms) (domain_has side dom both.0) (domains_have side doms both.1)
