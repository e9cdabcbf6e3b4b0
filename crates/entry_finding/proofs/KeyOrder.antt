-- The variables in key values have no cycle (rule E8), where keys are those of target items in the list of all.
use Rattle.std.specs.Prelude.{◌≡◌, ◌≢◌, ◌<◌, ◌==◌, ℕ, Bool, true, false, if◌then◌else◌, List, map, length, Option, None, Some, slice_get, Contains}
use Rattle.std.specs.List.{find}
use Rattle.std.specs.Option.{option_map, option_and_then}
use Rattle.std.proofs.Common.{refl, sym, ap, subst, ◌∙◌, eq-eqb}
use Rattle.std.proofs.lemmas.Bool.{and_from, true≢false, eqb-true}
use Rattle.std.proofs.lemmas.Option.{same_Some}
use Rattle.mof_metamodel.specs.declared.desc.MetaDesc.{MetaDesc}
use Rattle.mof_metamodel.specs.declared.desc.PropId.{PropId}
use Rattle.mof_metamodel.specs.Metamodels.{opposite_of}
use Rattle.object_tables.specs.Models.{ModelData}
use Rattle.qv_syntax.specs.declared.typed.Typed.{Typed}
use Rattle.qv_syntax.specs.declared.program.Program.{Program}
use Rattle.qv_syntax.specs.declared.program.Rel.{Rel}
use Rattle.qv_syntax.specs.declared.program.Dom.{Dom}
use Rattle.qv_syntax.specs.declared.program.Tmpl.{Tmpl, out-Tmpl}
use Rattle.qv_syntax.specs.declared.program.Item.{Item}
use Rattle.qv_syntax.specs.declared.program.ItemValue.TheVariants as items
use Rattle.qv_syntax.specs.Parts.{IsWithin, IsNested, HasItem}
use Rattle.qv_syntax.specs.Relations.{IsTemplateOf}
use Rattle.template_match.proofs.ListLaws.{find_some, find_none}
use Rattle.enforcement_rules.specs.declared.standing.Place.{Place}
use Rattle.enforcement_rules.specs.TargetParts.{target_desc, Stands}
use Rattle.enforcement_rules.specs.Keys.{IsKeyOf, IsOpposite, HasVariable, IsInKeyValue, DependsOn, DependsThrough}
use Rattle.enforcement_rules.specs.Rules.{Breaks}
use Rattle.repair_semantics.specs.EntryValues.{variable_alone}
use Rattle.repair_semantics.specs.TargetItems.{Content, TargetItem, variable_of, class_of_variable, target_metamodel, target_items, parts, key_of}
use Rattle.repair_semantics.specs.Making.{is_item_at, first_item, is_option_of, item_around}
use Rattle.reading_laws.proofs.MeetingValues.{nothing_some}
use Rattle.reading_laws.proofs.MeetingKeyed.{class_id, prop_id}
use Rattle.reading_laws.proofs.MeetingHolds.{alone_is}
use Rattle.reading_laws.proofs.MeetingPlaces.{IsContentOf, IsFirstTarget, StandsIn, target_item_stands, target_template}
use Rattle.reading_laws.proofs.MeetingFirst.{FirstIn, first_in, entry_of, entry_owner, entry_prop, entry_listed, stands_somewhere, stands_at, stands_nested}
use Rattle.entry_bindings.proofs.ListLaws.{mapped_from}
use Rattle.entry_making.specs.Orders.{LeadsThrough, HasNoCycle}
use Rattle.entry_making.specs.Orderable.{WaitsForKey}
use Rattle.entry_making.specs.Givers.{Giver, KeyGivers, giver_by, content_giver, parent_giver, key_giver_by, key_giver, givers_of_class, key_givers, is_made}
use Rattle.entry_finding.specs.Premises.{CanBeEnforced}
use Rattle.entry_finding.proofs.RelationLaws.{option_is, IsKeyWith, meta_is, key_with, meant, declared_class, made_below, made_template}
use Rattle.entry_finding.proofs.EquationOrder.{first_edge}

same_variable : (v w : ℕ) → Giver.variable v ≡ Giver.variable w → v ≡ w
same_variable v w h = let same : v ≡ w = cc in same

nothing_variable : (v : ℕ) → Giver.nothing ≡ Giver.variable v → ⊥
nothing_variable v h = absurd (cc)

expression_variable : (e : Typed) (v : ℕ) → Giver.expression e ≡ Giver.variable v → ⊥
expression_variable e v h = absurd (cc)

-- the variable gives the value of the key property
record IsKeyGiver (program : Program) (desc : MetaDesc) (its : List TargetItem) (rel : Rel) (v w : ℕ) : Type 0 where
  class : ℕ
  class_is : class_of_variable rel v ≡ Some class
  props : List PropId
  key : key_of program class ≡ Some props
  prop : PropId
  among : Contains props prop
  giver : key_giver desc its v prop ≡ Giver.variable w

givers_open : (program : Program) (desc : MetaDesc) (its : List TargetItem) (rel : Rel) (v w : ℕ) (g : KeyGivers) → key_givers program desc rel its v ≡ Some g → Contains g.keys (Giver.variable w)
    → IsKeyGiver program desc its rel v w
givers_open program desc its rel v w g are among = by (class_of_variable rel v) refl are
  where
    by_key : (class : ℕ) → class_of_variable rel v ≡ Some class → (o : Option (List PropId)) → key_of program class ≡ o
        → option_map (λ (props : List PropId). let k : KeyGivers = record { class = class; keys = map (key_giver desc its v) props } in k) o ≡ Some g → IsKeyGiver program desc its rel v w
    by_key class class_is None at is = absurd (nothing_some g is)
    by_key class class_is (Some props) at is =
        let keys : map (key_giver desc its v) props ≡ g.keys = ap (λ (k : KeyGivers). k.keys) (same_Some _ g is) in
        let (prop, there, giver) = mapped_from (key_giver desc its v) props (Giver.variable w) (subst (λ xs. Contains xs (Giver.variable w)) (sym keys) among) in
        record { class = class; class_is = class_is; props = props; key = at; prop = prop; among = there; giver = giver }

    by : (o : Option ℕ) → class_of_variable rel v ≡ o → option_and_then (givers_of_class program desc its v) o ≡ Some g → IsKeyGiver program desc its rel v w
    by None at is = absurd (nothing_some g is)
    by (Some class) at is = by_key class at (key_of program class) refl is

-- the template around gives it
record IsParentGiver (desc : MetaDesc) (its : List TargetItem) (v p w : ℕ) : Type 0 where
  item : TargetItem
  around : item_around its v ≡ Some item
  opposite : opposite_of desc item.prop.0 ≡ Some p
  owner : item.owner ≡ w

parent_open : (desc : MetaDesc) (its : List TargetItem) (v p w : ℕ) → parent_giver desc p (item_around its v) ≡ Giver.variable w → IsParentGiver desc its v p w
parent_open desc its v p w h = by (item_around its v) refl h
  where
    by_test : (i : TargetItem) → item_around its v ≡ Some i → (b : Bool) → is_option_of (opposite_of desc i.prop.0) p ≡ b → (if b then Giver.variable i.owner else Giver.nothing) ≡ Giver.variable w
        → IsParentGiver desc its v p w
    by_test i at true test is = record { item = i; around = at; opposite = option_is (opposite_of desc i.prop.0) p test; owner = same_variable i.owner w is }
    by_test i at false test is = absurd (nothing_variable w is)

    by : (o : Option TargetItem) → item_around its v ≡ o → parent_giver desc p o ≡ Giver.variable w → IsParentGiver desc its v p w
    by None at is = absurd (nothing_variable w is)
    by (Some i) at is = by_test i at (is_option_of (opposite_of desc i.prop.0) p) refl is

module _ (metas : List MetaDesc) (program : Program) (models : List ModelData) (p : CanBeEnforced metas program models)
    (place : ℕ) (rel : Rel) (found : slice_get program.rels place ≡ Some rel) (direction : rel.in_direction ≡ true) where
  abbrev desc : MetaDesc
  desc = target_metamodel program models

  abbrev its : List TargetItem
  its = target_items program rel

  module _ (v w : ℕ) (within : w < length rel.vars) (made : is_made program rel v ≡ true) (k : IsKeyGiver program desc its rel v w) where
    key_is : IsKeyWith program k.class k.props
    key_is = key_with metas program models p k.class k.props k.key

    among : Contains key_is.key.props k.prop
    among = subst (λ ps. Contains ps k.prop) (sym key_is.props_are) k.among

    module _ (dom : Dom) (root : Tmpl) (first : IsFirstTarget program rel dom root) where
      its_are : its ≡ (parts root).items
      its_are = target_template program rel dom root (meant metas program models p place rel found).domains.models first.of first.has

      nested_in : (t : Tmpl) → IsNested root t → IsTemplateOf dom t
      nested_in t nested = record { root = root; has = first.has; nested = nested }

      -- the key is that of a template of the variable
      its_key : (t : Tmpl) → IsNested root t → (out-Tmpl t).var ≡ v → IsKeyOf program (out-Tmpl t).class key_is.key
      its_key t nested var =
          let class_same : k.class ≡ (out-Tmpl t).class.0
          = same_Some k.class (out-Tmpl t).class.0 (sym k.class_is ∙ ap (class_of_variable rel) (sym var) ∙ declared_class metas program models p place rel found dom first.of t (nested_in t nested)) in
          record { among = key_is.among; meta = key_is.meta; of = class_id key_is.key.class (out-Tmpl t).class (key_is.class_is ∙ class_same) }

      its_made : (t : Tmpl) → (out-Tmpl t).var ≡ v → is_made program rel (out-Tmpl t).var ≡ true
      its_made t var = ap (is_made program rel) var ∙ made

      -- no item of a template of the variable is at the property
      no_item : first_item its v k.prop.0 ≡ None → (t : Tmpl) → IsNested root t → (out-Tmpl t).var ≡ v → (item : Item) → HasItem t item → item.prop ≢ k.prop
      no_item nothing t nested var item has_item same =
          let i = entry_of (out-Tmpl t).var item in
          let there : Contains its i = subst (λ xs. Contains xs i) (sym its_are) (entry_listed root t nested item has_item) in
          true≢false (sym (and_from (i.owner == v) (i.prop.0 == k.prop.0) (eq-eqb i.owner v (entry_owner (out-Tmpl t).var item ∙ var))
          (eq-eqb i.prop.0 k.prop.0 (ap (λ (q : PropId). q.0) (entry_prop (out-Tmpl t).var item ∙ same))))
          ∙ find_none (is_item_at v k.prop.0) its i nothing there)

      -- the variable stands in the first item
      by_first : (i : TargetItem) → first_item its v k.prop.0 ≡ Some i → content_giver i.content ≡ Giver.variable w → DependsOn metas program rel v w
      by_first i at giver = let (own_place, own_stands) = stands_somewhere root f.template None f.nested in record {
        t = f.template;
        at = own_place;
        made = made_template metas program models p place rel found dom root first f.template own_place own_stands (its_made f.template f.var);
        var = f.var;
        key = key_is.key;
        is = its_key f.template f.nested f.var;
        prop = k.prop;
        among = among;
        stands = IsInKeyValue.by_item f.item (record {
          place = f.place;
          found = f.at;
          is = prop_id f.item.prop k.prop f.prop;
          first = λ earlier other less at_earlier same. f.first earlier other less at_earlier (ap (λ (q : PropId). q.0) same);
        }) (has f.content);
      }
        where
          f : FirstIn root v k.prop.0 i
          f = first_in root v k.prop.0 i (ap (find (is_item_at v k.prop.0)) (sym its_are) ∙ at)

          alone : (e : Typed) → f.item.value ≡ items.Expr e → (o : Option ℕ) → variable_alone e ≡ o → giver_by e o ≡ Giver.variable w → HasVariable rel f.item.value w
          alone e value_is None none is = absurd (expression_variable e w is)
          alone e value_is (Some u) one is =
              let it : variable_alone e ≡ Some w = one ∙ ap (λ x. Some x) (same_variable u w is) in
              HasVariable.expression e value_is (record { own = within; names = (e.ty, subst (IsWithin e) (alone_is e w it) (IsWithin.whole e)) })

          has : IsContentOf f.item.value i.content → HasVariable rel f.item.value w
          has (IsContentOf.empty value_is content_is) = absurd (nothing_variable w (sym (ap content_giver content_is) ∙ giver))
          has (IsContentOf.expression e value_is content_is) = alone e value_is (variable_alone e) refl (sym (ap content_giver content_is) ∙ giver)
          has (IsContentOf.template part value_is content_is) = HasVariable.nested part value_is (same_variable (out-Tmpl part).var w (sym (ap content_giver content_is) ∙ giver))

      -- it is that of the template around
      by_parent : first_item its v k.prop.0 ≡ None → (g : IsParentGiver desc its v k.prop.0 w) → is_option_of (variable_of g.item.content) v ≡ true → StandsIn root g.item → DependsOn metas program rel v w
      by_parent nothing g around st = by st.content
        where
          no_variable : (c : Content) → g.item.content ≡ c → variable_of c ≡ None → ⊥
          no_variable c is none = true≢false (sym around ∙ ap (λ (x : Content). is_option_of (variable_of x) v) is ∙ ap (λ o. is_option_of o v) none)

          of_part : (part : Tmpl) → st.item.value ≡ items.Nested part → (out-Tmpl part).var ≡ v → DependsOn metas program rel v w
          of_part part value_is var = record {
            t = part;
            at = Some here;
            made = made_template metas program models p place rel found dom root first part (Some here) part_stands (its_made part var);
            var = var;
            key = key_is.key;
            is = its_key part nested var;
            prop = k.prop;
            among = among;
            stands = IsInKeyValue.by_parent (λ item has_item. no_item nothing part nested var item has_item) opposite (st.var ∙ g.owner);
          }
            where
              here : Place
              here = record { parent = (out-Tmpl st.template).var; prop = st.item.prop }

              part_stands : Stands root None part (Some here)
              part_stands = stands_at root st.template part None st.item.prop st.nested (subst (λ x. HasItem st.template (record { prop = st.item.prop; value = x })) value_is st.has)

              nested : IsNested root part
              nested = stands_nested root part None (Some here) part_stands

              opposite : IsOpposite (target_desc metas program) (Some here) k.prop
              opposite = record {
                place = here;
                is = refl;
                opposite = ap (λ (d : MetaDesc). opposite_of d st.item.prop.0) (meta_is metas program models p) ∙ ap (λ (q : PropId). opposite_of desc q.0) st.prop ∙ g.opposite;
              }

          by : IsContentOf st.item.value g.item.content → DependsOn metas program rel v w
          by (IsContentOf.empty value_is content_is) = absurd (no_variable Content.empty content_is refl)
          by (IsContentOf.expression e value_is content_is) = absurd (no_variable (Content.expression e) content_is refl)
          by (IsContentOf.template part value_is content_is) =
              of_part part value_is (eqb-true (out-Tmpl part).var v (sym (ap (λ (x : Content). is_option_of (variable_of x) v) content_is) ∙ around))

    of_first : (i : TargetItem) → first_item its v k.prop.0 ≡ Some i → content_giver i.content ≡ Giver.variable w → DependsOn metas program rel v w
    of_first i at giver =
        let st = target_item_stands program rel i (find_some (is_item_at v k.prop.0) its i at).0 in by_first st.dom st.root st.is i at giver

    of_parent : first_item its v k.prop.0 ≡ None → IsParentGiver desc its v k.prop.0 w → DependsOn metas program rel v w
    of_parent nothing g =
        let (there, passes) = find_some (λ (item : TargetItem). is_option_of (variable_of item.content) v) its g.item g.around in
        let st = target_item_stands program rel g.item there in by_parent st.dom st.root st.is nothing g passes st.stands

    depends : DependsOn metas program rel v w
    depends = by (first_item its v k.prop.0) refl k.giver
      where
        by : (o : Option TargetItem) → first_item its v k.prop.0 ≡ o → key_giver_by desc k.prop.0 o (item_around its v) ≡ Giver.variable w → DependsOn metas program rel v w
        by None nothing is = of_parent nothing (parent_open desc its v k.prop.0 w is)
        by (Some i) at is = of_first i at is

  -- ---- no cycle

  edge : (v w : ℕ) → w < length rel.vars → WaitsForKey program desc rel v w → DependsOn metas program rel v w
  edge v w within e = depends v w within e.made (givers_open program desc its rel v w e.givers e.are e.among)

  from_below : (v w : ℕ) → LeadsThrough (WaitsForKey program desc rel) v w → v < length rel.vars
  from_below v w path = let (u, first, rest) = first_edge (WaitsForKey program desc rel) v w path in made_below metas program models p place rel found v first.made

  through : (v w : ℕ) → w < length rel.vars → LeadsThrough (WaitsForKey program desc rel) v w → DependsThrough metas program rel v w
  through v w within (LeadsThrough.direct _ _ first) = DependsThrough.direct v w (edge v w within first)
  through v w within (LeadsThrough.more _ u _ first rest) = DependsThrough.more v u w (edge v u (from_below u w rest) first) (through u w within rest)

  pub keys_end : HasNoCycle (WaitsForKey program desc rel)
  keys_end v path =
      p.enforceable place 8 (record {
        rel = rel;
        found = found;
        in_direction = direction;
        breaks = Breaks.e8 refl (record { v = v; cycle = through v v (from_below v v path) path });
      })
