-- Where templates stand in the target template, and that enforcement makes objects of the classes of those whose objects an entry makes.
use Rattle.std.specs.Prelude.{◌≡◌, ◌≢◌, ◌<◌, ◌⊎◌, ℕ, zero, suc, Bool, true, false, List, [], ◌∷◌, ◌++◌, map, length, Option, None, Some, slice_index_or, Contains, if◌then◌else◌}
use Rattle.std.specs.List.{flat_map, filter_map, cons_option}
use Rattle.std.specs.Option.{option_map, option_map_or, option_and_then, option_to_list}
use Rattle.std.proofs.Common.{refl, sym, ap, subst, ◌∙◌, arith, inl, inr}
use Rattle.std.proofs.lemmas.Bool.{true≢false, eq-eqb, cases_lt}
use Rattle.mof_metamodel.specs.declared.desc.MetaDesc.{MetaDesc}
use Rattle.mof_metamodel.specs.declared.desc.PropId.{PropId}
use Rattle.object_tables.specs.Models.{ModelData}
use Rattle.object_tables.proofs.SlotLemmas.{Contains-to_filter}
use Rattle.qv_syntax.specs.declared.program.Program.{Program}
use Rattle.qv_syntax.specs.declared.program.Rel.{Rel}
use Rattle.qv_syntax.specs.declared.program.Var.{Var}
use Rattle.qv_syntax.specs.declared.program.Dom.{Dom}
use Rattle.qv_syntax.specs.declared.program.Tmpl.{Tmpl, out-Tmpl, roll-out-Tmpl, fold-roll-Tmpl}
use Rattle.qv_syntax.specs.declared.program.Item.{Item}
use Rattle.qv_syntax.specs.declared.program.ItemValue.TheVariants as items
use Rattle.qv_syntax.specs.Parts.{HasItem}
use Rattle.qv_syntax.specs.Relations.{IsTargetDomain, IsUniversal}
use Rattle.qvtr_semantics.specs.Objects.{is_number_among}
use Rattle.qvtr_semantics.specs.Bindings.{is_model, is_target_domain}
use Rattle.qvtr_semantics.specs.Templates.{Values}
use Rattle.template_match.specs.Sources.{is_target_variable}
use Rattle.template_match.proofs.ListLaws.{contains_later, contains_left, contains_right, find_some, find_none}
use Rattle.mof_metamodel.proofs.Facts.{contains_first}
use Rattle.template_match.proofs.SideLaws.{Valued}
use Rattle.enforcement_rules.specs.declared.standing.Place.{Place}
use Rattle.enforcement_rules.specs.TargetParts.{Stands}
use Rattle.enforcement_rules.specs.Patterns.{HasConcreteTemplate}
use Rattle.enforcement_rules.specs.Rules.{Breaks}
use Rattle.evaluation_laws.proofs.NavigationLaws.{among as among_number}
use Rattle.mof_metamodel.proofs.Facts.{contains_at}
use Rattle.source_laws.proofs.RuleLaws.{target_is}
use Rattle.repair_semantics.specs.declared.term.Term.{Term}
use Rattle.repair_semantics.specs.EntryValues.{TermValues, value_of}
use Rattle.repair_semantics.specs.TargetItems.{Content, TargetItem, ContentPart, TemplatePart, ItemPart, content_part, item_part, template_part, parts, target_domain, target_root, target_items, variable_of, nested_variables, class_in, class_of_variable}
use Rattle.repair_semantics.specs.Deletions.{root_if_top, managed_variables, classes_in, managed_classes}
use Rattle.repair_semantics.proofs.ItemLaws.{content_of, item_of, item_is, of_template}
use Rattle.reading_laws.specs.Readings.{Numbering}
use Rattle.reading_laws.proofs.MeetingValues.{nothing_some}
use Rattle.std.proofs.lemmas.Option.{same_Some}
use Rattle.reading_laws.proofs.PartnerValues.{stable, there_number, class_of_type, IsPartnered, meant, kind_of, universal_given, target_of_model, root_template}
use Rattle.mof_metamodel.proofs.Facts.{nothing_in}

contains_filter_map : {X Y : Type 0} (f : X → Option Y) (xs : List X) (x : X) (y : Y) → Contains xs x → f x ≡ Some y → Contains (filter_map f xs) y
contains_filter_map f [] x y c is = absurd (nothing_in x c)
contains_filter_map {X} {Y} f (z ∷ xs) x y (zero, below, same) is = subst (λ o. Contains (cons_option o (filter_map f xs)) y) (sym (ap f same ∙ is)) (contains_first y (filter_map f xs))
contains_filter_map {X} {Y} f (z ∷ xs) x y (suc k, below, same) is = by (f z) (contains_filter_map f xs x y (k, omega (arith, below), same) is)
  where
    by : (o : Option Y) → Contains (filter_map f xs) y → Contains (cons_option o (filter_map f xs)) y
    by None c = c
    by (Some w) c = contains_later y w (filter_map f xs) c

contains_flat : {X Y : Type 0} (f : X → List Y) (xs : List X) (x : X) (y : Y) → Contains xs x → Contains (f x) y → Contains (flat_map f xs) y
contains_flat f [] x y c d = absurd (nothing_in x c)
contains_flat f (z ∷ xs) x y (zero, below, same) d = contains_left y (f z) (flat_map f xs) (subst (λ w. Contains (f w) y) (sym same) d)
contains_flat f (z ∷ xs) x y (suc k, below, same) d = contains_right y (f z) (flat_map f xs) (contains_flat f xs x y (k, omega (arith, below), same) d)

flat_in : (u : ℕ) (is : List Item) (item : Item) (i : TargetItem) → Contains is item → Contains (item_of item u) i → Contains (flat_map (λ (f : ItemPart). f u) (map item_of is)) i
flat_in u [] item i c d = absurd (nothing_in item c)
flat_in u (x ∷ is) item i (zero, below, same) d =
    contains_left i (item_of x u) (flat_map (λ (f : ItemPart). f u) (map item_of is)) (subst (λ y. Contains (item_of y u) i) (sym same) d)
flat_in u (x ∷ is) item i (suc k, below, same) d =
    contains_right i (item_of x u) (flat_map (λ (f : ItemPart). f u) (map item_of is)) (flat_in u is item i (k, omega (arith, below), same) d)

default_free : {X : Type 0} (xs : List X) (i : ℕ) (d e : X) → i < length xs → slice_index_or xs i d ≡ slice_index_or xs i e
default_free [] i d e h = absurd (omega (arith, h))
default_free (x ∷ xs) zero d e h = refl
default_free (x ∷ xs) (suc i) d e h = default_free xs i d e (omega (arith, h))

-- ---- items of templates

pub parts_are : (t : Tmpl) → parts t ≡ record { var = (out-Tmpl t).var; items = flat_map (λ (f : ItemPart). f (out-Tmpl t).var) (map item_of (out-Tmpl t).items) }
parts_are t = ap parts (sym (roll-out-Tmpl t)) ∙ fold-roll-Tmpl ContentPart ItemPart TemplatePart content_part item_part template_part (out-Tmpl t)

-- a template that stands at a property of another one, as an item
abbrev pub item_at : ℕ → PropId → Tmpl → TargetItem
item_at owner prop t = record { owner = owner; prop = prop; content = Content.template (out-Tmpl t).var }

nested_items : (u : ℕ) (prop : PropId) (t : Tmpl) → item_of (record { prop = prop; value = items.Nested t }) u ≡ item_at u prop t ∷ (parts t).items
nested_items u prop t =
    ap (λ (f : ItemPart). f u) (item_is prop (items.Nested t))
    ∙ ap (λ (c : ContentPart). item_part (record { prop = prop; value = c }) u) (ap content_of (sym (items.rolls-Nested t)) ∙ of_template t)
    ∙ ap (λ v. let i : TargetItem = record { owner = u; prop = prop; content = Content.template v } in i ∷ (parts t).items) (ap (λ (q : TemplatePart). q.var) (parts_are t))

item_within : (t part : Tmpl) (prop : PropId) (i : TargetItem) → HasItem t (record { prop = prop; value = items.Nested part })
    → Contains (item_at (out-Tmpl t).var prop part ∷ (parts part).items) i → Contains (parts t).items i
item_within t part prop i has c =
    subst (λ (q : TemplatePart). Contains q.items i) (sym (parts_are t))
    (flat_in (out-Tmpl t).var (out-Tmpl t).items (record { prop = prop; value = items.Nested part }) i has (subst (λ is. Contains is i) (sym (nested_items (out-Tmpl t).var prop part)) c))

-- a template is the whole, or an item of the whole has it
pub data IsPlaced (root : Tmpl) (at : Option Place) (t : Tmpl) (place : Option Place) : Type 0 where
  whole : place ≡ at → root ≡ t → IsPlaced root at t place
  inside : (p : Place) → place ≡ Some p → Contains (parts root).items (item_at p.parent p.prop t) → IsPlaced root at t place

pub placed : (root : Tmpl) (at : Option Place) (t : Tmpl) (place : Option Place) → Stands root at t place → IsPlaced root at t place
placed root at t place (Stands.whole _ _) = IsPlaced.whole refl refl
placed root at t place (Stands.inside _ _ prop part _ _ has stands) = by (placed part (Some (record { parent = (out-Tmpl root).var; prop = prop })) t place stands)
  where
    by : IsPlaced part (Some (record { parent = (out-Tmpl root).var; prop = prop })) t place → IsPlaced root at t place
    by (IsPlaced.whole there same) =
        IsPlaced.inside (record { parent = (out-Tmpl root).var; prop = prop }) there
        (item_within root part prop (item_at (out-Tmpl root).var prop t) has
        (subst (λ x. Contains (item_at (out-Tmpl root).var prop part ∷ (parts part).items) (item_at (out-Tmpl root).var prop x)) same (contains_first (item_at (out-Tmpl root).var prop part) (parts part).items)))
    by (IsPlaced.inside p there c) =
        IsPlaced.inside p there (item_within root part prop (item_at p.parent p.prop t) has (contains_later (item_at p.parent p.prop t) (item_at (out-Tmpl root).var prop part) (parts part).items c))

-- ---- the target domain

module _ (metas : List MetaDesc) (program : Program) (sources models : List ModelData) (m : ModelData) (terms : List Term) (number : Numbering) (rel : Rel) (roots b : TermValues) (c g : Values)
    (p : IsPartnered metas program sources models m terms number rel roots b c g) where
  -- two domains of the target are one
  apart : (a d : Dom) (i j : ℕ) → IsTargetDomain program rel a → IsTargetDomain program rel d → i < j → j < length rel.domains
      → slice_index_or rel.domains i a ≡ a → slice_index_or rel.domains j d ≡ d → ⊥
  apart a d i j of_a of_d before below here there =
      (meant metas program sources models m terms number rel roots b c g p).domains.models i j a before below program.target (ap (λ (x : Dom). x.model) here ∙ of_a.target)
      (ap (λ (x : Dom). x.model) (default_free rel.domains j a d below ∙ there) ∙ of_d.target)

  one_domain : (a d : Dom) → IsTargetDomain program rel a → IsTargetDomain program rel d → a ≡ d
  one_domain a d of_a of_d =
      let (i, under, here) = of_a.is in
      let (j, below, there) = of_d.is in
      elim (cases_lt i j) [
        | inl l ↦ absurd (apart a d i j of_a of_d l below here there)
        | inr le ↦ elim (cases_lt j i) [
          | inl l ↦ absurd (apart d a j i of_d of_a l under there here)
          | inr ge ↦ (let same : i ≡ j = omega (arith, le, ge) in sym here ∙ ap (λ k. slice_index_or rel.domains k a) same ∙ default_free rel.domains j a d below ∙ there)
        ]
      ]

  pub target_found : (dom : Dom) → IsTargetDomain program rel dom → target_domain program rel ≡ Some dom
  target_found dom of = by (target_domain program rel) refl
    where
      by : (o : Option Dom) → target_domain program rel ≡ o → o ≡ Some dom
      by None is =
          absurd (true≢false (sym (ap (λ x. is_model x program.target) of.target ∙ eq-eqb program.target program.target refl) ∙ find_none (is_target_domain program) rel.domains dom is of.is))
      by (Some other) is =
          let (among, test) = find_some (is_target_domain program) rel.domains other is in
          ap (λ d. Some d) (one_domain other dom (record { is = among; target = target_is program.target other.model test }) of)

  pub items_are : (dom : Dom) (root : Tmpl) → IsTargetDomain program rel dom → dom.template ≡ Some root → target_items program rel ≡ (parts root).items
  items_are dom root of has =
      ap (λ o. option_map_or (λ t. (parts t).items) (option_and_then (λ (d : Dom). d.template) o) []) (target_found dom of)
      ∙ ap (λ o. option_map_or (λ t. (parts t).items) o []) has

  -- ---- templates whose objects the entry makes

  place_of : (v : ℕ) → value_of b v ≡ None → HasConcreteTemplate metas program rel v → Contains (root_if_top program rel ++ nested_variables program rel) v
  place_of v none made =
      let is = made.is in
      by is.dom is.root is.of is.has (placed is.root None made.t made.at is.stands)
    where
      top_root : (x : Bool) → rel.top ≡ x → (dom : Dom) → IsTargetDomain program rel dom → dom.root ≡ v → Contains (if x then option_to_list (target_root program rel) else []) v
      top_root true is dom of root =
          subst (λ o. Contains (option_to_list o) v) (sym (ap (option_map (λ (d : Dom). d.root)) (target_found dom of) ∙ ap (λ k. Some k) root)) (contains_first v [])
      top_root false is dom of root = let (x, at) = p.handed is dom of in absurd (nothing_some x (sym none ∙ ap (value_of b) (sym root) ∙ at))

      by : (dom : Dom) (root : Tmpl) → IsTargetDomain program rel dom → dom.template ≡ Some root → IsPlaced root None made.t made.at → Contains (root_if_top program rel ++ nested_variables program rel) v
      by dom root of has (IsPlaced.whole there same) =
          let (t, has_t, var) = root_template metas program sources models m terms number rel roots b c g p dom of in
          let one : t ≡ root = same_Some t root (sym has_t ∙ has) in
          contains_left v (root_if_top program rel) (nested_variables program rel)
          (top_root rel.top refl dom of (sym var ∙ ap (λ x. (out-Tmpl x).var) (one ∙ same) ∙ made.var))
      by dom root of has (IsPlaced.inside place there among) =
          contains_right v (root_if_top program rel) (nested_variables program rel)
          (contains_filter_map (λ (i : TargetItem). variable_of i.content) (target_items program rel) (item_at place.parent place.prop made.t) v
          (subst (λ is. Contains is (item_at place.parent place.prop made.t)) (sym (items_are dom root of has)) among) (ap (λ k. Some k) made.var))

  -- an object variable without a value is one of the target's, and enforcement makes objects of its class
  pub record IsMadeHere (v class : ℕ) : Type 0 where
    pub target : is_target_variable program rel v ≡ true
    pub existential : ¬ IsUniversal program rel v
    pub managed : Contains (managed_classes program) class
    pub valued : Valued program models rel g v
    pub typed : class_in valued.var.ty ≡ Some class

  pub made_here : (v class : ℕ) → v < length rel.vars → value_of b v ≡ None → class_of_variable rel v ≡ Some class → IsMadeHere v class
  made_here v class below none typed = by (kind_of metas program sources models m terms number rel roots b c g p v below)
    where
      by : (Contains rel.universal v) ⊎ ((¬ IsUniversal program rel v) × Valued program models rel g v) → IsMadeHere v class
      by (inl among) = let (x, at) = universal_given metas program sources models m terms number rel roots b c g p v among in absurd (nothing_some x (sym none ∙ at))
      by (inr (existential, x)) =
          let of_type : class_in x.var.ty ≡ Some class = sym (ap (option_and_then (λ (y : Var). class_in y.ty)) x.found) ∙ typed in
          let (meta, own, is, same) = class_of_type x.var.ty class of_type in
          let made : ¬ (¬ HasConcreteTemplate metas program rel v) =
          λ no. p.over.enforceable p.place 4 (record {
            rel = rel;
            found = p.found;
            in_direction = p.direction;
            breaks = Breaks.e4 refl (record {
              v = v;
              object = record { var = x.var; found = x.found; meta = meta; class = own; typed = is };
              existential = existential;
              own = λ on. let (y, at) = p.handed on.called on.dom on.of in nothing_some y (sym none ∙ ap (value_of b) (sym on.root) ∙ at);
              unmade = no;
            });
          }) in
          let listed : Contains (root_if_top program rel ++ nested_variables program rel) v =
          among_number v (root_if_top program rel ++ nested_variables program rel)
          (stable (is_number_among v (root_if_top program rel ++ nested_variables program rel))
          (λ no. made (λ t. no (there_number v (root_if_top program rel ++ nested_variables program rel) (place_of v none t))))) in
          let variable : Contains (managed_variables program rel (nested_variables program rel)) v =
          Contains-to_filter (λ w. is_number_among w rel.existential) (root_if_top program rel ++ nested_variables program rel) v
          (there_number v rel.existential (((meant metas program sources models m terms number rel roots b c g p).variables.existential v x.var x.found).1 existential)) listed in
          let classes : Contains (classes_in program rel (nested_variables program rel)) class =
          subst (λ y. Contains (if y then filter_map (class_of_variable rel) (managed_variables program rel (nested_variables program rel)) else []) class) (sym p.direction)
          (contains_filter_map (class_of_variable rel) (managed_variables program rel (nested_variables program rel)) v class variable typed) in
          record {
            target = stable (is_target_variable program rel v)
                (λ no. made (λ t. no (target_of_model metas program sources models m terms number rel roots b c g p v t.of_target.var t.of_target.found t.of_target.target)));
            existential = existential;
            managed = contains_flat (λ r. classes_in program r (nested_variables program r)) program.rels rel class (contains_at program.rels p.place rel p.found) classes;
            valued = x;
            typed = of_type;
          }
