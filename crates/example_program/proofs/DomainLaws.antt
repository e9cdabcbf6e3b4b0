-- The domains of a relation that is told plainly, and where its templates and their items come from.
use Rattle.std.proofs.Common.{◌≡◌, ◌≢◌, ℕ, zero, suc, Bool, true, false, List, [], ◌∷◌, map, Option, None, Some, refl, sym, ap, ◌∙◌, subst, arith, inl, inr}
use Rattle.std.specs.Prelude.{◌⊎◌, slice_get, Contains}
use Rattle.std.proofs.lemmas.Option.{same_Some, none-some}
use Rattle.std.proofs.lemmas.List.Elements.{Contains-append_right}
use Rattle.mof_metamodel.proofs.Facts.{nothing_in, contains_map}
use Rattle.qv_syntax.specs.declared.query.ModelSlot.{ModelSlot}
use Rattle.qv_syntax.specs.declared.typed.Typed.{Typed}
use Rattle.qv_syntax.specs.declared.program.Program.{Program}
use Rattle.qv_syntax.specs.declared.program.Rel.{Rel}
use Rattle.qv_syntax.specs.declared.program.Dom.{Dom}
use Rattle.qv_syntax.specs.declared.program.Tmpl.{Tmpl}
use Rattle.qv_syntax.specs.declared.program.Item.{Item}
use Rattle.qv_syntax.specs.declared.program.ItemValue.TheVariants as items
use Rattle.qv_syntax.specs.Parts.{HasItem, IsNested}
use Rattle.qv_syntax.specs.Relations.{IsModelDomain, IsTargetDomain, IsSourceDomain, IsTemplateOf, IsItemOf, IsItemExpression}
use Rattle.example_program.specs.Words.{text, the_text, source_domain, target_domain, primitive_domain}
use Rattle.example_program.specs.MainProgram.{main_models}
use Rattle.example_program.proofs.Tests.{image_of}
use Rattle.example_program.proofs.Plain.{Pattern, root_of, tmpl, Part, a_text, a_word, an_object, item_of, parts_in, Spot, standings, Relation, domains_of, rel_of, program_of}
use Rattle.example_program.proofs.StandingLaws.{nested_is, same_expr, expr_not_nested}
use Rattle.example_program.proofs.PatternLaws.{item_is}

-- ---- the domains, one by one

pub data WhichDomain (r : Relation) : Dom → Type 0 where
  of_source : WhichDomain r (source_domain (root_of r.from) (tmpl r.from))
  of_target : WhichDomain r (target_domain (root_of r.to) (tmpl r.to))
  of_prefix : (v : ℕ) → Contains r.prefix v → WhichDomain r (primitive_domain v)

pub which_domain : (r : Relation) (dom : Dom) → Contains (domains_of r) dom → WhichDomain r dom
which_domain r dom (zero, within, is) = subst (WhichDomain r) is of_source
which_domain r dom (suc zero, within, is) = subst (WhichDomain r) is of_target
which_domain r dom (suc (suc k), within, is) =
    let v = image_of primitive_domain r.prefix dom (k, omega (arith, within), is) in
    subst (WhichDomain r) v.2 (of_prefix v.0 v.1)

pub source_there : (r : Relation) → Contains (domains_of r) (source_domain (root_of r.from) (tmpl r.from))
source_there r = (0, omega arith, refl)

pub target_there : (r : Relation) → Contains (domains_of r) (target_domain (root_of r.to) (tmpl r.to))
target_there r = (1, omega arith, refl)

pub prefix_there : (r : Relation) (v : ℕ) → Contains r.prefix v → Contains (domains_of r) (primitive_domain v)
prefix_there r v c =
    Contains-append_right (source_domain (root_of r.from) (tmpl r.from) ∷ target_domain (root_of r.to) (tmpl r.to) ∷ []) (map primitive_domain r.prefix) (primitive_domain v)
    (contains_map primitive_domain r.prefix v c)

-- ---- templates of domains: their model, its metamodel, and which they are

pub data IsPlaced (r : Relation) : ℕ → ℕ → Tmpl → Type 0 where
  in_source : (which : Pattern × Spot) → Contains (standings None r.from) which → IsPlaced r 0 0 (tmpl which.0)
  in_target : (which : Pattern × Spot) → Contains (standings None r.to) which → IsPlaced r 1 1 (tmpl which.0)

module _ (rs : List Relation) (r : Relation) where
  -- the number of the metamodel of a model is its own
  meta_of_model : (m : ℕ) (slot : ModelSlot) → slice_get main_models m ≡ Some slot → slot.meta ≡ m
  meta_of_model zero slot e = sym (ap (λ (s : ModelSlot). s.meta) (same_Some _ slot e))
  meta_of_model (suc zero) slot e = sym (ap (λ (s : ModelSlot). s.meta) (same_Some _ slot e))
  meta_of_model (suc (suc m)) slot e = absurd (none-some slot e)

  template_from : (p : Pattern) (t : Tmpl) (dom : Dom) → dom.template ≡ Some (tmpl p) → IsTemplateOf dom t → (which : Pattern × Spot) × Contains (standings None p) which × (tmpl which.0 ≡ t)
  template_from p t dom e h = nested_is p t (subst (λ x. IsNested x t) (sym (same_Some (tmpl p) h.root (sym e ∙ h.has))) h.nested)

  placed_by : (dom : Dom) → WhichDomain r dom → (d : IsModelDomain (program_of rs) (rel_of r) dom) (t : Tmpl) → IsTemplateOf dom t → IsPlaced r d.model d.slot.meta t
  placed_by _ of_source d t h =
      let w = template_from r.from t (source_domain (root_of r.from) (tmpl r.from)) refl h in
      let is : 0 ≡ d.model = same_Some 0 d.model d.of_model in
      let meta : 0 ≡ d.slot.meta = is ∙ sym (meta_of_model d.model d.slot d.found) in
      subst (λ x. IsPlaced r d.model d.slot.meta x) w.2 (subst (λ n. IsPlaced r d.model n (tmpl w.0.0)) meta (subst (λ n. IsPlaced r n 0 (tmpl w.0.0)) is (in_source w.0 w.1)))
  placed_by _ of_target d t h =
      let w = template_from r.to t (target_domain (root_of r.to) (tmpl r.to)) refl h in
      let is : 1 ≡ d.model = same_Some 1 d.model d.of_model in
      let meta : 1 ≡ d.slot.meta = is ∙ sym (meta_of_model d.model d.slot d.found) in
      subst (λ x. IsPlaced r d.model d.slot.meta x) w.2 (subst (λ n. IsPlaced r d.model n (tmpl w.0.0)) meta (subst (λ n. IsPlaced r n 1 (tmpl w.0.0)) is (in_target w.0 w.1)))
  placed_by _ (of_prefix v c) d t h = absurd (none-some d.model d.of_model)

  pub placed : (dom : Dom) (d : IsModelDomain (program_of rs) (rel_of r) dom) (t : Tmpl) → IsTemplateOf dom t → IsPlaced r d.model d.slot.meta t
  placed dom d t h = placed_by dom (which_domain r dom d.is) d t h

-- ---- items that are expressions

-- the expression of an item, and the template in which it stands
pub data IsValue (e : Typed) (part : Part) : Type 0 where
  a_variable : (prop v : ℕ) → part ≡ a_text prop v → the_text v ≡ e → IsValue e part
  a_literal : (prop : ℕ) (word : List ℕ) → part ≡ a_word prop word → text word ≡ e → IsValue e part

value_is : (part : Part) (item : Item) (e : Typed) → item_of part ≡ item → item.value ≡ items.Expr e → IsValue e part
value_is (a_text prop v) item e is value = a_variable prop v refl (same_expr (the_text v) e (ap (λ (i : Item). i.value) is ∙ value))
value_is (a_word prop word) item e is value = a_literal prop word refl (same_expr (text word) e (ap (λ (i : Item). i.value) is ∙ value))
value_is (an_object prop p) item e is value = absurd (expr_not_nested e (tmpl p) (sym value ∙ sym (ap (λ (i : Item). i.value) is)))

pub record IsItemIn (p : Pattern) (e : Typed) : Type 0 where
  pub which : Pattern × Spot
  pub among : Contains (standings None p) which
  pub part : Part
  pub has : Contains (parts_in which.0) part
  pub value : IsValue e part

item_from : (p : Pattern) (dom : Dom) (e : Typed) → dom.template ≡ Some (tmpl p) → IsItemExpression dom e → IsItemIn p e
item_from p dom e is h =
    let w = nested_is p h.of.template (subst (λ x. IsNested x h.of.template) (sym (same_Some (tmpl p) h.of.of.root (sym is ∙ h.of.of.has))) h.of.of.nested) in
    let i = item_is w.0.0 h.item (subst (λ t. HasItem t h.item) (sym w.2) h.of.has) in
    record { which = w.0; among = w.1; part = i.0; has = i.1; value = value_is i.0 h.item e i.2 h.is }

-- an item stands in the source or in the target
item_by : (r : Relation) (dom : Dom) (e : Typed) → WhichDomain r dom → IsItemExpression dom e → IsItemIn r.from e ⊎ IsItemIn r.to e
item_by r _ e of_source h = inl (item_from r.from (source_domain (root_of r.from) (tmpl r.from)) e refl h)
item_by r _ e of_target h = inr (item_from r.to (target_domain (root_of r.to) (tmpl r.to)) e refl h)
item_by r _ e (of_prefix v c) h = absurd (none-some h.of.of.root h.of.of.has)

pub item_expression : (r : Relation) (dom : Dom) (e : Typed) → Contains (domains_of r) dom → IsItemExpression dom e → IsItemIn r.from e ⊎ IsItemIn r.to e
item_expression r dom e c h = item_by r dom e (which_domain r dom c) h

pub source_item : (r : Relation) (e : Typed) → IsItemExpression (source_domain (root_of r.from) (tmpl r.from)) e → IsItemIn r.from e
source_item r e h = item_from r.from (source_domain (root_of r.from) (tmpl r.from)) e refl h
