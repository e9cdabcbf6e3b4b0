-- The templates within a template that is told plainly, each with its place; its items; its variables.
use Rattle.std.proofs.Common.{◌≡◌, ℕ, zero, suc, List, [], ◌∷◌, ◌++◌, map, Option, refl, sym, ap, ◌∙◌, subst, arith, None, Some}
use Rattle.std.specs.Prelude.{Contains}
use Rattle.std.specs.List.{flat_map}
use Rattle.std.specs.Option.{option_map}
use Rattle.std.proofs.lemmas.List.Elements.{Contains-append_left, Contains-append_right}
use Rattle.mof_metamodel.specs.declared.desc.PropId.{PropId}
use Rattle.mof_metamodel.proofs.Facts.{nothing_in, contains_first}
use Rattle.qv_syntax.specs.declared.typed.Typed.{Typed}
use Rattle.qv_syntax.specs.declared.program.Tmpl.{Tmpl, out-Tmpl, out-roll-Tmpl, fold-roll-Tmpl}
use Rattle.qv_syntax.specs.declared.program.Item.{Item, fold-Item, fold-roll-Item}
use Rattle.qv_syntax.specs.declared.program.ItemValue.{ItemValue, out-ItemValue, out-roll-ItemValue, fold-roll-ItemValue}
use Rattle.qv_syntax.specs.declared.program.ItemValue.TheVariants as items
use Rattle.qv_syntax.specs.declared.program.ItemValue.TheOpen as layers
use Rattle.qv_syntax.specs.Parts.{IsNested, HasItem}
use Rattle.enforcement_rules.specs.declared.standing.Place.{Place}
use Rattle.enforcement_rules.specs.TargetParts.{Stands}
use Rattle.example_program.specs.Words.{text, the_text, value_item, object_item, template}
use Rattle.example_program.proofs.Tests.{each_of}
use Rattle.example_program.proofs.Plain.{Pattern, Parts, shape, no_more, has_text, has_word, has_object, tmpl, items_of, root_of, class_of_pattern, parts_of_pattern, Part, a_text, a_word, an_object, item_of, list_of, parts_in, Spot, standings, standings_in}

-- ---- values of items

pub out_expr : (e : Typed) → out-ItemValue (items.Expr e) ≡ layers.Expr e
out_expr e = ap out-ItemValue (sym (items.rolls-Expr e)) ∙ out-roll-ItemValue (layers.Expr e)

pub out_nested : (t : Tmpl) → out-ItemValue (items.Nested t) ≡ layers.Nested t
out_nested t = ap out-ItemValue (sym (items.rolls-Nested t)) ∙ out-roll-ItemValue (layers.Nested t)

pub same_expr : (e f : Typed) → items.Expr e ≡ items.Expr f → e ≡ f
same_expr e f h = by (sym (out_expr e) ∙ ap out-ItemValue h ∙ out_expr f)
  where
    by : ◌≡◌ {A = layers.ItemValue-F ItemValue Item Tmpl} (layers.Expr e) (layers.Expr f) → e ≡ f
    by h = cc

pub same_nested : (t u : Tmpl) → items.Nested t ≡ items.Nested u → t ≡ u
same_nested t u h = by (sym (out_nested t) ∙ ap out-ItemValue h ∙ out_nested u)
  where
    by : ◌≡◌ {A = layers.ItemValue-F ItemValue Item Tmpl} (layers.Nested t) (layers.Nested u) → t ≡ u
    by h = cc

pub expr_not_nested : (e : Typed) (t : Tmpl) → items.Expr e ≡ items.Nested t → ⊥
expr_not_nested e t h = by (sym (out_expr e) ∙ ap out-ItemValue h ∙ out_nested t)
  where
    by : ◌≡◌ {A = layers.ItemValue-F ItemValue Item Tmpl} (layers.Expr e) (layers.Nested t) → ⊥
    by h = cc

pub expr_not_null : (e : Typed) → items.Expr e ≡ items.Null → ⊥
expr_not_null e h = by (sym (out_expr e) ∙ ap out-ItemValue h ∙ ap out-ItemValue (sym items.rolls-Null) ∙ out-roll-ItemValue layers.Null)
  where
    by : ◌≡◌ {A = layers.ItemValue-F ItemValue Item Tmpl} (layers.Expr e) layers.Null → ⊥
    by h = cc

-- ---- the parts of a template

pub variable_is : (p : Pattern) → (out-Tmpl (tmpl p)).var ≡ root_of p
variable_is (shape v c ps) = ap (λ t. t.var) (out-roll-Tmpl (record { var = v; class = record { 0 = c }; items = items_of ps }))

pub class_is : (p : Pattern) → (out-Tmpl (tmpl p)).class ≡ record { 0 = class_of_pattern p }
class_is (shape v c ps) = ap (λ t. t.class) (out-roll-Tmpl (record { var = v; class = record { 0 = c }; items = items_of ps }))

pub items_are : (p : Pattern) → (out-Tmpl (tmpl p)).items ≡ items_of (parts_of_pattern p)
items_are (shape v c ps) = ap (λ t. t.items) (out-roll-Tmpl (record { var = v; class = record { 0 = c }; items = items_of ps }))

items_listed : (ps : Parts) → items_of ps ≡ map item_of (list_of ps)
items_listed no_more = refl
items_listed (has_text prop v ps) = ap (λ is. value_item prop (the_text v) ∷ is) (items_listed ps)
items_listed (has_word prop w ps) = ap (λ is. value_item prop (text w) ∷ is) (items_listed ps)
items_listed (has_object prop p ps) = ap (λ is. object_item prop (tmpl p) ∷ is) (items_listed ps)

pub listed_items : (p : Pattern) → (out-Tmpl (tmpl p)).items ≡ map item_of (parts_in p)
listed_items p = items_are p ∙ items_listed (parts_of_pattern p)

-- ---- templates within

abbrev pub place_of : Spot → Option Place
place_of spot = option_map (λ (s : ℕ × ℕ). let p : Place = record { parent = s.0; prop = record { 0 = s.1 } } in p) spot

-- a template that is among these, at its place
pub record IsAmong (list : List (Pattern × Spot)) (t : Tmpl) (at : Option Place) : Type 0 where
  pub which : Pattern × Spot
  pub among : Contains list which
  pub is : tmpl which.0 ≡ t
  pub place : place_of which.1 ≡ at

later_among : (x : Pattern × Spot) (list : List (Pattern × Spot)) (t : Tmpl) (at : Option Place) → IsAmong list t at → IsAmong (x ∷ list) t at
later_among x list t at h = record { which = h.which; among = Contains-append_right (x ∷ []) list h.which h.among; is = h.is; place = h.place }

left_among : (some more : List (Pattern × Spot)) (t : Tmpl) (at : Option Place) → IsAmong some t at → IsAmong (some ++ more) t at
left_among some more t at h = record { which = h.which; among = Contains-append_left some more h.which h.among; is = h.is; place = h.place }

right_among : (some more : List (Pattern × Spot)) (t : Tmpl) (at : Option Place) → IsAmong more t at → IsAmong (some ++ more) t at
right_among some more t at h = record { which = h.which; among = Contains-append_right some more h.which h.among; is = h.is; place = h.place }

mutual
  stands_by : (p : Pattern) (spot : Spot) (root t : Tmpl) (at place : Option Place) → tmpl p ≡ root → place_of spot ≡ at → Stands root at t place → IsAmong (standings spot p) t place
  stands_by (shape v c ps) spot root t at place e f (Stands.whole _ _) = record { which = (shape v c ps, spot); among = (0, omega arith, refl); is = e; place = f }
  stands_by (shape v c ps) spot root t at place e f (Stands.inside _ _ prop part _ _ has inner) =
      later_among (shape v c ps, spot) (standings_in v ps) t place
      (stands_in ps v prop part t place
      (subst (λ is. Contains is (record { prop = prop; value = items.Nested part })) (items_are (shape v c ps))
      (subst (λ r. HasItem r (record { prop = prop; value = items.Nested part })) (sym e) has))
      (subst (λ n. Stands part (Some (record { parent = n; prop = prop })) t place) (sym (ap (λ r. (out-Tmpl r).var) e) ∙ variable_is (shape v c ps)) inner))

  stands_in : (ps : Parts) (v : ℕ) (prop : PropId) (part t : Tmpl) (place : Option Place) → Contains (items_of ps) (record { prop = prop; value = items.Nested part })
      → Stands part (Some (record { parent = v; prop = prop })) t place → IsAmong (standings_in v ps) t place
  stands_in no_more v prop part t place has inner = absurd (nothing_in (record { prop = prop; value = items.Nested part }) has)
  stands_in (has_text p w ps) v prop part t place (zero, within, is) inner = absurd (expr_not_nested (the_text w) part (ap (λ (i : Item). i.value) is))
  stands_in (has_text p w ps) v prop part t place (suc k, within, is) inner = stands_in ps v prop part t place (k, omega (arith, within), is) inner
  stands_in (has_word p w ps) v prop part t place (zero, within, is) inner = absurd (expr_not_nested (text w) part (ap (λ (i : Item). i.value) is))
  stands_in (has_word p w ps) v prop part t place (suc k, within, is) inner = stands_in ps v prop part t place (k, omega (arith, within), is) inner
  stands_in (has_object p q ps) v prop part t place (zero, within, is) inner =
      left_among (standings (Some (v, p)) q) (standings_in v ps) t place
      (stands_by q (Some (v, p)) part t (Some (record { parent = v; prop = prop })) place (same_nested (tmpl q) part (ap (λ (i : Item). i.value) is))
      (ap (λ (i : Item). let x : Place = record { parent = v; prop = i.prop } in Some x) is) inner)
  stands_in (has_object p q ps) v prop part t place (suc k, within, is) inner =
      right_among (standings (Some (v, p)) q) (standings_in v ps) t place (stands_in ps v prop part t place (k, omega (arith, within), is) inner)

-- a template that stands within is one of the list
pub standing_is : (p : Pattern) (t : Tmpl) (place : Option Place) → Stands (tmpl p) None t place → IsAmong (standings None p) t place
standing_is p t place h = stands_by p None (tmpl p) t None place refl refl h

-- what is nested stands at some place
stands_somewhere : (root t : Tmpl) (at : Option Place) → IsNested root t → (place : Option Place) × Stands root at t place
stands_somewhere root t at (IsNested.whole _) = (at, Stands.whole t at)
stands_somewhere root t at (IsNested.inside _ prop part _ has nested) =
    let more = stands_somewhere part t (Some (record { parent = (out-Tmpl root).var; prop = prop })) nested in
    (more.0, Stands.inside root at prop part t more.0 has more.1)

pub nested_is : (p : Pattern) (t : Tmpl) → IsNested (tmpl p) t → (which : Pattern × Spot) × Contains (standings None p) which × (tmpl which.0 ≡ t)
nested_is p t nested =
    let stands = stands_somewhere (tmpl p) t None nested in
    let h = standing_is p t stands.0 stands.1 in
    (h.which, h.among, h.is)
