-- What is in the list of a template's parts stands within it; its items; the variables of templates.
use Rattle.std.proofs.Common.{◌≡◌, ℕ, zero, suc, List, [], ◌∷◌, ◌++◌, map, Option, refl, sym, ap, ◌∙◌, subst, arith, None, Some, inl, inr}
use Rattle.std.specs.Prelude.{Contains}
use Rattle.std.specs.List.{flat_map}
use Rattle.std.proofs.lemmas.List.{map-append}
use Rattle.std.proofs.lemmas.List.Elements.{Contains-append_left, Contains-append_right, Contains-append_cases}
use Rattle.mof_metamodel.specs.declared.desc.PropId.{PropId}
use Rattle.mof_metamodel.proofs.Facts.{nothing_in, contains_first, contains_map}
use Rattle.qv_syntax.specs.declared.typed.Typed.{Typed}
use Rattle.qv_syntax.specs.declared.program.Tmpl.{Tmpl, out-Tmpl, fold-Tmpl, fold-roll-Tmpl}
use Rattle.qv_syntax.specs.declared.program.Item.{Item, fold-Item, fold-roll-Item}
use Rattle.qv_syntax.specs.declared.program.ItemValue.{ItemValue, fold-ItemValue, fold-roll-ItemValue}
use Rattle.qv_syntax.specs.declared.program.ItemValue.TheVariants as items
use Rattle.qv_syntax.specs.declared.program.ItemValue.TheOpen as layers
use Rattle.qv_syntax.specs.Parts.{IsNested, HasItem, template_variables, value_variables, item_variables, template_step}
use Rattle.enforcement_rules.specs.declared.standing.Place.{Place}
use Rattle.enforcement_rules.specs.TargetParts.{Stands}
use Rattle.example_program.specs.Words.{text, the_text, value_item, object_item, template}
use Rattle.example_program.proofs.Tests.{image_of}
use Rattle.example_program.proofs.Plain.{Pattern, Parts, shape, no_more, has_text, has_word, has_object, tmpl, items_of, root_of, parts_of_pattern, Part, item_of, list_of, parts_in, Spot, standings, standings_in}
use Rattle.example_program.proofs.StandingLaws.{items_are, listed_items, variable_is, place_of}

-- ---- what is listed stands within

record IsReached (ps : Parts) (v : ℕ) (which : Pattern × Spot) : Type 0 where
  prop : ℕ
  part : Pattern
  has : Contains (items_of ps) (object_item prop (tmpl part))
  inner : Stands (tmpl part) (Some (record { parent = v; prop = record { 0 = prop } })) (tmpl which.0) (place_of which.1)

later : (ps qs : Parts) (item : Item) (v : ℕ) (which : Pattern × Spot) → items_of qs ≡ item ∷ items_of ps → IsReached ps v which → IsReached qs v which
later ps qs item v which e h = record {
  prop = h.prop;
  part = h.part;
  has = subst (λ is. Contains is (object_item h.prop (tmpl h.part))) (sym e) (Contains-append_right (item ∷ []) (items_of ps) (object_item h.prop (tmpl h.part)) h.has);
  inner = h.inner;
}

mutual
  stands_from : (p : Pattern) (spot : Spot) (which : Pattern × Spot) → Contains (standings spot p) which → Stands (tmpl p) (place_of spot) (tmpl which.0) (place_of which.1)
  stands_from (shape v c ps) spot which (zero, within, is) =
      subst (λ (w : Pattern × Spot). Stands (tmpl (shape v c ps)) (place_of spot) (tmpl w.0) (place_of w.1)) is (Stands.whole (tmpl (shape v c ps)) (place_of spot))
  stands_from (shape v c ps) spot which (suc k, within, is) =
      let h = within_from ps v which (k, omega (arith, within), is) in
      Stands.inside (tmpl (shape v c ps)) (place_of spot) (record { 0 = h.prop }) (tmpl h.part) (tmpl which.0) (place_of which.1)
      (subst (λ is. Contains is (object_item h.prop (tmpl h.part))) (sym (items_are (shape v c ps))) h.has)
      (subst (λ n. Stands (tmpl h.part) (Some (record { parent = n; prop = record { 0 = h.prop } })) (tmpl which.0) (place_of which.1)) (sym (variable_is (shape v c ps))) h.inner)

  within_from : (ps : Parts) (v : ℕ) (which : Pattern × Spot) → Contains (standings_in v ps) which → IsReached ps v which
  within_from no_more v which c = absurd (nothing_in which c)
  within_from (has_text p w ps) v which c = later ps (has_text p w ps) (value_item p (the_text w)) v which refl (within_from ps v which c)
  within_from (has_word p w ps) v which c = later ps (has_word p w ps) (value_item p (text w)) v which refl (within_from ps v which c)
  within_from (has_object p q ps) v which c =
      elim (Contains-append_cases (standings (Some (v, p)) q) (standings_in v ps) which c) [
        | inl here ↦ record { prop = p; part = q; has = contains_first (object_item p (tmpl q)) (items_of ps); inner = stands_from q (Some (v, p)) which here }
        | inr there ↦ later ps (has_object p q ps) (object_item p (tmpl q)) v which refl (within_from ps v which there)
      ]

pub stands_within : (p : Pattern) (which : Pattern × Spot) → Contains (standings None p) which → Stands (tmpl p) None (tmpl which.0) (place_of which.1)
stands_within p which c = stands_from p None which c

nested_from : (root : Tmpl) (at : Option Place) (t : Tmpl) (place : Option Place) → Stands root at t place → IsNested root t
nested_from _ _ _ _ (Stands.whole t at) = IsNested.whole t
nested_from _ _ _ _ (Stands.inside t at prop part inner place has stands) = IsNested.inside t prop part inner has (nested_from part (Some (record { parent = (out-Tmpl t).var; prop = prop })) inner place stands)

pub nested_within : (p : Pattern) (which : Pattern × Spot) → Contains (standings None p) which → IsNested (tmpl p) (tmpl which.0)
nested_within p which c = nested_from (tmpl p) None (tmpl which.0) (place_of which.1) (stands_within p which c)

-- ---- items

pub item_is : (p : Pattern) (item : Item) → HasItem (tmpl p) item → (part : Part) × Contains (parts_in p) part × (item_of part ≡ item)
item_is p item has = image_of item_of (parts_in p) item (subst (λ is. Contains is item) (listed_items p) has)

pub has_part : (p : Pattern) (part : Part) → Contains (parts_in p) part → HasItem (tmpl p) (item_of part)
has_part p part c = subst (λ is. Contains is (item_of part)) (sym (listed_items p)) (contains_map item_of (parts_in p) part c)

-- ---- the variables of templates

abbrev variables_in_item : Item → List ℕ
variables_in_item = fold-Item (List ℕ) (List ℕ) (List ℕ) value_variables item_variables template_step

abbrev variables_in_value : ItemValue → List ℕ
variables_in_value = fold-ItemValue (List ℕ) (List ℕ) (List ℕ) value_variables item_variables template_step

in_value : (prop : ℕ) (value : ItemValue) → variables_in_item (record { prop = record { 0 = prop }; value = value }) ≡ variables_in_value value
in_value prop value = fold-roll-Item (List ℕ) (List ℕ) (List ℕ) value_variables item_variables template_step (record { prop = record { 0 = prop }; value = value })

in_expr : (e : Typed) → variables_in_value (items.Expr e) ≡ []
in_expr e = ap variables_in_value (sym (items.rolls-Expr e)) ∙ fold-roll-ItemValue (List ℕ) (List ℕ) (List ℕ) value_variables item_variables template_step (layers.Expr e)

in_nested : (t : Tmpl) → variables_in_value (items.Nested t) ≡ template_variables t
in_nested t = ap variables_in_value (sym (items.rolls-Nested t)) ∙ fold-roll-ItemValue (List ℕ) (List ℕ) (List ℕ) value_variables item_variables template_step (layers.Nested t)

abbrev pub root_at : Pattern × Spot → ℕ
root_at which = root_of which.0

mutual
  variables_from : (p : Pattern) (spot : Spot) → template_variables (tmpl p) ≡ map root_at (standings spot p)
  variables_from (shape v c ps) spot =
      fold-roll-Tmpl (List ℕ) (List ℕ) (List ℕ) value_variables item_variables template_step (record { var = v; class = record { 0 = c }; items = items_of ps })
      ∙ ap (λ vs. v ∷ vs) (variables_in ps v)

  variables_in : (ps : Parts) (v : ℕ) → flat_map (λ vs. vs) (map variables_in_item (items_of ps)) ≡ map root_at (standings_in v ps)
  variables_in no_more v = refl
  variables_in (has_text p w ps) v = ap (λ vs. vs ++ flat_map (λ us. us) (map variables_in_item (items_of ps))) (in_value p (items.Expr (the_text w)) ∙ in_expr (the_text w)) ∙ variables_in ps v
  variables_in (has_word p w ps) v = ap (λ vs. vs ++ flat_map (λ us. us) (map variables_in_item (items_of ps))) (in_value p (items.Expr (text w)) ∙ in_expr (text w)) ∙ variables_in ps v
  variables_in (has_object p q ps) v =
      ap (λ vs. vs ++ flat_map (λ us. us) (map variables_in_item (items_of ps))) (in_value p (items.Nested (tmpl q)) ∙ in_nested (tmpl q) ∙ variables_from q (Some (v, p)))
      ∙ ap (λ vs. map root_at (standings (Some (v, p)) q) ++ vs) (variables_in ps v)
      ∙ sym (map-append root_at (standings (Some (v, p)) q) (standings_in v ps))

pub variables_are : (p : Pattern) → template_variables (tmpl p) ≡ map root_at (standings None p)
variables_are p = variables_from p None
