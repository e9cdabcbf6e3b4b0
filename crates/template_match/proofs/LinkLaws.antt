-- The links of a template hold in each binding that meets the template.
use Rattle.std.specs.Prelude.{◌≡◌, ℕ, zero, suc, Bool, true, false, ◌&&◌, ◌||◌, not, if◌then◌else◌, List, [], ◌∷◌, ◌++◌, map, Option, None, Some, length}
use Rattle.std.specs.List.{AllByRecursion, flat_map, list_all}
use Rattle.std.specs.Option.{option_map_or}
use Rattle.std.proofs.Common.{refl, sym, ap, subst, ◌∙◌}
use Rattle.std.proofs.lemmas.Bool.{and_parts, true≢false}
use Rattle.mof_metamodel.specs.declared.desc.PropId.{PropId}
use Rattle.object_tables.specs.Models.{ModelData}
use Rattle.qv_syntax.specs.declared.program.Program.{Program}
use Rattle.qv_syntax.specs.declared.program.Dom.{Dom}
use Rattle.qv_syntax.specs.declared.program.Tmpl.{Tmpl, out-Tmpl, roll-Tmpl, map-Tmpl, ind-Tmpl, fold-roll-Tmpl, roll-out-Tmpl}
use Rattle.qv_syntax.specs.declared.program.Item.{Item, roll-Item, map-Item, fold-roll-Item}
use Rattle.qv_syntax.specs.declared.program.ItemValue.{ItemValue, roll-ItemValue, map-ItemValue, fold-roll-ItemValue}
use Rattle.qv_syntax.specs.declared.program.ItemValue.TheOpen as layers
use Rattle.qv_syntax.specs.declared.typed.Typed.{Typed}
use Rattle.qv_syntax.specs.declared.typed.Node.{Node, roll-Node, out-Node, roll-out-Node}
use Rattle.qv_syntax.specs.declared.typed.Call.{Call}
use Rattle.qv_syntax.specs.declared.typed.Call.TheOpen as nodes
use Rattle.qv_syntax.specs.declared.typed.TypedInfix.{TypedInfix}
use Rattle.qv_syntax.specs.declared.typed.TypedPostfix.{TypedPostfix}
use Rattle.qvtr_semantics.specs.declared.datum.Datum.{Datum}
use Rattle.qvtr_semantics.specs.Outs.{datum_of}
use Rattle.qvtr_semantics.specs.Objects.{held_at}
use Rattle.qvtr_semantics.specs.Expressions.{Queries, setting, queries_within, scope_of, variable, value_for}
use Rattle.qvtr_semantics.specs.Templates.{Values, SlotMeaning, ItemMeaning, Pattern, slot_meaning, item_meaning, tmpl_meaning, object_matches, is_of_class, pattern, meets, value_at, has}
use Rattle.qvtr_semantics.specs.Bindings.{template_meets, is_target_domain}
use Rattle.qvtr_semantics.proofs.ExpressionLaws.{typed_is, variable_is, node_of}
use Rattle.template_match.specs.declared.side.Side.{Side}
use Rattle.template_match.specs.declared.side.Side.TheVariants.{Source, Target}
use Rattle.template_match.specs.declared.link.Link.{Link}
use Rattle.template_match.specs.Meeting.{slot_of, item_of}
use Rattle.template_match.specs.Links.{Held, Linked, variable_alone, own_link, value_links, item_links, tmpl_links, linked, links_of_item, held_in, links_of, domain_links}
use Rattle.template_match.specs.Sides.{is_of_side, domain_meets}
use Rattle.template_match.proofs.ListLaws.{all_append}

-- ---- an expression that is a variable alone

pub bound_at : (b : Values) (v : ℕ) → datum_of (variable (scope_of b) v) ≡ value_at b v
bound_at [] v = refl
bound_at (None ∷ b) zero = refl
bound_at (Some d ∷ b) zero = refl
bound_at (o ∷ b) (suc v) = bound_at b v

some_same : (x y : ℕ) → Some x ≡ Some y → x ≡ y
some_same x y e = cc

pub alone_by : (d : nodes.Node-F Call Node Typed TypedInfix TypedPostfix) (v : ℕ) → variable_alone d ≡ Some v → d ≡ nodes.Variable v
alone_by (nodes.Variable n) v h = ap (λ x. nodes.Variable x) (some_same n v h)
alone_by (nodes.Number value) v h = absurd (cc)
alone_by (nodes.Str value) v h = absurd (cc)
alone_by (nodes.Bool value) v h = absurd (cc)
alone_by nodes.Null v h = absurd (cc)
alone_by nodes.Invalid v h = absurd (cc)
alone_by (nodes.EnumLiteral m e l) v h = absurd (cc)
alone_by (nodes.Let n value body) v h = absurd (cc)
alone_by (nodes.Chain first rest) v h = absurd (cc)
alone_by (nodes.Not operand) v h = absurd (cc)
alone_by (nodes.Negated operand) v h = absurd (cc)
alone_by (nodes.Calls part calls) v h = absurd (cc)
alone_by (nodes.If condition one other) v h = absurd (cc)
alone_by (nodes.Coll kind elements) v h = absurd (cc)
alone_by (nodes.Extent m c) v h = absurd (cc)
alone_by (nodes.Query n args) v h = absurd (cc)

pub alone_value : (program : Program) (models : List ModelData) (e : Typed) (v : ℕ) (b : Values) → variable_alone (out-Node e.node) ≡ Some v
    → datum_of (value_for program models e b) ≡ value_at b v
alone_value program models e v b h =
    let s = setting program models in
    let q : Queries = queries_within program.queries s (length program.queries) in
    let node : e.node ≡ roll-Node (nodes.Variable v) = sym (roll-out-Node e.node) ∙ ap roll-Node (alone_by (out-Node e.node) v h) in
    ap (λ m. datum_of (m (scope_of b))) (typed_is s q e.ty e.node ∙ ap (node_of s q) node ∙ variable_is s q v) ∙ bound_at b v

module _ (program : Program) (models : List ModelData) (b : Values) where
  -- the object of the link is bound, and the variable's value stands in its slot
  abbrev pub Holds : Link → Type 0
  Holds l = (d : Datum) × (value_at b l.holder ≡ Some d) × (has (held_at (setting program models) d l.prop.0) (value_at b l.variable) ≡ true)

  abbrev AllHold : List Link → Type 0
  AllHold ls = AllByRecursion Holds ls

  abbrev links_in : ℕ → PropId → Held → List Link
  links_in u prop h = own_link u prop h.var ++ h.links

  ValueHolds : ItemValue → Type 0
  ValueHolds v = (u : ℕ) (d : Datum) (prop : PropId) → value_at b u ≡ Some d
      → slot_of program models v b (held_at (setting program models) d prop.0) ≡ true → AllHold (links_in u prop (held_in v))

  ItemHolds : Item → Type 0
  ItemHolds i = (u : ℕ) (d : Datum) → value_at b u ≡ Some d → item_of program models i b d ≡ true → AllHold (links_of_item i u)

  TmplHolds : Tmpl → Type 0
  TmplHolds t = meets program models t b ≡ true → AllHold (links_of t)

  abbrev V : Type 0
  V = (v : ItemValue) × ValueHolds v

  abbrev I : Type 0
  I = (i : Item) × ItemHolds i

  abbrev T : Type 0
  T = (t : Tmpl) × TmplHolds t

  -- ---- values

  held_is : (d : layers.ItemValue-F ItemValue Item Tmpl) → held_in (roll-ItemValue d) ≡ value_links (map-ItemValue ItemValue Item Tmpl Held (ℕ → List Link) Linked held_in links_of_item linked d)
  held_is d = fold-roll-ItemValue Held (ℕ → List Link) Linked value_links item_links tmpl_links d

  slot_is : (d : layers.ItemValue-F ItemValue Item Tmpl)
      → slot_of program models (roll-ItemValue d) ≡ slot_meaning program models (map-ItemValue ItemValue Item Tmpl SlotMeaning ItemMeaning Pattern (slot_of program models) (item_of program models) (pattern program models) d)
  slot_is d = fold-roll-ItemValue SlotMeaning ItemMeaning Pattern (slot_meaning program models) (item_meaning (setting program models)) (tmpl_meaning (setting program models)) d

  own_holds : (u : ℕ) (d : Datum) (prop : PropId) (o : Option ℕ) → value_at b u ≡ Some d
      → ((v : ℕ) → o ≡ Some v → has (held_at (setting program models) d prop.0) (value_at b v) ≡ true) → AllHold (own_link u prop o)
  own_holds u d prop None at h = tt
  own_holds u d prop (Some v) at h = ((d, at, h v refl), tt)

  one_variable : (t : Tmpl) → (pattern program models t).var ≡ (linked t).var
  one_variable t =
      let again : roll-Tmpl (out-Tmpl t) ≡ t = roll-out-Tmpl t in
      ap (λ x. (pattern program models x).var) (sym again)
      ∙ ap (λ (x : Pattern). x.var) (fold-roll-Tmpl SlotMeaning ItemMeaning Pattern (slot_meaning program models) (item_meaning (setting program models)) (tmpl_meaning (setting program models)) (out-Tmpl t))
      ∙ sym (ap (λ (x : Linked). x.var) (fold-roll-Tmpl Held (ℕ → List Link) Linked value_links item_links tmpl_links (out-Tmpl t)))
      ∙ ap (λ x. (linked x).var) again

  value_layer : (y : layers.ItemValue-F V I T) → ValueHolds (roll-ItemValue (map-ItemValue V I T ItemValue Item Tmpl (λ x. x.0) (λ x. x.0) (λ x. x.0) y))
  unfolding ValueHolds TmplHolds
  value_layer layers.Null u d prop at h = subst (λ k. AllHold (links_in u prop k)) (sym (held_is layers.Null)) tt
  value_layer (layers.Expr e) u d prop at h =
      let slot = held_at (setting program models) d prop.0 in
      let asked : has slot (datum_of (value_for program models e b)) ≡ true = sym (ap (λ (m : SlotMeaning). m b slot) (slot_is (layers.Expr e))) ∙ h in
      subst (λ k. AllHold (links_in u prop k)) (sym (held_is (layers.Expr e)))
      (all_append Holds (own_link u prop (variable_alone (out-Node e.node))) []
      (own_holds u d prop (variable_alone (out-Node e.node)) at (λ v is. ap (has slot) (sym (alone_value program models e v b is)) ∙ asked)) tt)
  value_layer (layers.Nested t) u d prop at h =
      let slot = held_at (setting program models) d prop.0 in
      let asked : (has slot (value_at b (pattern program models t.0).var) && meets program models t.0 b) ≡ true = sym (ap (λ (m : SlotMeaning). m b slot) (slot_is (layers.Nested t.0))) ∙ h in
      let both = and_parts (has slot (value_at b (pattern program models t.0).var)) (meets program models t.0 b) asked in
      subst (λ k. AllHold (links_in u prop k)) (sym (held_is (layers.Nested t.0)))
      ((d, at, ap (λ v. has slot (value_at b v)) (sym (one_variable t.0)) ∙ both.0), t.1 both.1)

  -- ---- items

  item_layer : (y : layers.Item-F V I T) → ItemHolds (roll-Item (map-Item V I T ItemValue Item Tmpl (λ x. x.0) (λ x. x.0) (λ x. x.0) y))
  unfolding ItemHolds ValueHolds
  item_layer y u d at h =
      let i = map-Item V I T ItemValue Item Tmpl (λ x. x.0) (λ x. x.0) (λ x. x.0) y in
      subst AllHold (sym (ap (λ (f : ℕ → List Link). f u) (fold-roll-Item Held (ℕ → List Link) Linked value_links item_links tmpl_links i)))
      (y.value.1 u d y.prop at
      (sym (ap (λ (m : ItemMeaning). m b d) (fold-roll-Item SlotMeaning ItemMeaning Pattern (slot_meaning program models) (item_meaning (setting program models)) (tmpl_meaning (setting program models)) i)) ∙ h))

  -- ---- templates

  abbrev items_of : List I → List Item
  items_of is = map (λ i. i.0) is

  items_hold : (is : List I) (u : ℕ) (d : Datum) → value_at b u ≡ Some d → list_all (λ (item : ItemMeaning). item b d) (map (item_of program models) (items_of is)) ≡ true
      → AllHold (flat_map (λ (f : ℕ → List Link). f u) (map links_of_item (items_of is)))
  unfolding ItemHolds
  items_hold [] u d at h = tt
  items_hold (i ∷ is) u d at h =
      let both = and_parts (item_of program models i.0 b d) (list_all (λ (item : ItemMeaning). item b d) (map (item_of program models) (items_of is))) h in
      all_append Holds (links_of_item i.0 u) (flat_map (λ (f : ℕ → List Link). f u) (map links_of_item (items_of is))) (i.1 u d at both.0) (items_hold is u d at both.1)

  matched : (is : List I) (u class : ℕ) (o : Option Datum) → value_at b u ≡ o → object_matches (setting program models) class (map (item_of program models) (items_of is)) b o ≡ true
      → AllHold (flat_map (λ (f : ℕ → List Link). f u) (map links_of_item (items_of is)))
  matched is u class None at h = absurd (true≢false (sym h))
  matched is u class (Some d) at h =
      items_hold is u d at (and_parts (is_of_class (setting program models) class d) (list_all (λ (item : ItemMeaning). item b d) (map (item_of program models) (items_of is))) h).1

  tmpl_layer : (y : layers.Tmpl-F V I T) → TmplHolds (roll-Tmpl (map-Tmpl V I T ItemValue Item Tmpl (λ x. x.0) (λ x. x.0) (λ x. x.0) y))
  unfolding TmplHolds
  tmpl_layer y h =
      let t = map-Tmpl V I T ItemValue Item Tmpl (λ x. x.0) (λ x. x.0) (λ x. x.0) y in
      subst AllHold (sym (ap (λ (l : Linked). l.links) (fold-roll-Tmpl Held (ℕ → List Link) Linked value_links item_links tmpl_links t)))
      (matched y.items y.var y.class.0 (value_at b y.var) refl
      (sym (ap (λ (m : Pattern). m.matches b) (fold-roll-Tmpl SlotMeaning ItemMeaning Pattern (slot_meaning program models) (item_meaning (setting program models)) (tmpl_meaning (setting program models)) t)) ∙ h))

  template_holds_by : (t : Tmpl) → TmplHolds t
  template_holds_by = ind-Tmpl ValueHolds ItemHolds TmplHolds
      (λ x y is. subst (λ z. ValueHolds (roll-ItemValue z)) is (value_layer y))
      (λ x y is. subst (λ z. ItemHolds (roll-Item z)) is (item_layer y))
      (λ x y is. subst (λ z. TmplHolds (roll-Tmpl z)) is (tmpl_layer y))

  pub template_holds : (t : Tmpl) → meets program models t b ≡ true → AllByRecursion Holds (links_of t)
  unfolding TmplHolds
  template_holds t h = template_holds_by t h

  -- ---- the domains of a side

  optional_holds : (t : Option Tmpl) → template_meets program models t b ≡ true → AllHold (option_map_or links_of t [])
  optional_holds None h = tt
  optional_holds (Some t) h = template_holds t h

  pub asked_of : (side : Side) (dom : Dom) → is_of_side side program dom ≡ true → domain_meets side program models b dom ≡ true → template_meets program models dom.template b ≡ true
  asked_of Source dom is h = by (is_target_domain program dom) is h
    where
      by : (x : Bool) → not x ≡ true → x || template_meets program models dom.template b ≡ true → template_meets program models dom.template b ≡ true
      by true is h = absurd (true≢false (sym is))
      by false is h = h
  asked_of Target dom is h = by (is_target_domain program dom) is h
    where
      by : (x : Bool) → x ≡ true → not x || template_meets program models dom.template b ≡ true → template_meets program models dom.template b ≡ true
      by true is h = h
      by false is h = absurd (true≢false (sym is))

  domain_holds : (side : Side) (dom : Dom) → domain_meets side program models b dom ≡ true → AllHold (domain_links side program dom)
  domain_holds side dom h = by (is_of_side side program dom) refl
    where
      by : (x : Bool) → is_of_side side program dom ≡ x → AllHold (if x then option_map_or links_of dom.template [] else [])
      by true is = optional_holds dom.template (asked_of side dom is h)
      by false is = tt

  pub domains_hold : (side : Side) (doms : List Dom) → list_all (domain_meets side program models b) doms ≡ true → AllByRecursion Holds (flat_map (domain_links side program) doms)
  domains_hold side [] h = tt
  domains_hold side (dom ∷ doms) h =
      let both = and_parts (domain_meets side program models b dom) (list_all (domain_meets side program models b) doms) h in
      all_append Holds (domain_links side program dom) (flat_map (domain_links side program) doms) (domain_holds side dom both.0) (domains_hold side doms both.1)
