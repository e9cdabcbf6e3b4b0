-- What it says that an entry is not unmet: no item, equation or argument lacks its value, and each condition is true.
use Rattle.std.specs.Prelude.{◌≡◌, ◌<◌, ℕ, suc, Bool, true, false, List, [], ◌∷◌, ◌++◌, length, Option, None, Some, is_some, Contains, if◌then◌else◌}
use Rattle.std.specs.List.{filter_map, cons_option}
use Rattle.std.proofs.Common.{refl, sym, ap, subst, ◌∙◌, arith, zero, get_or}
use Rattle.std.proofs.lemmas.Bool.{true≢false}
use Rattle.object_tables.specs.Models.{ModelData}
use Rattle.qv_syntax.specs.declared.program.Program.{Program}
use Rattle.qv_syntax.specs.declared.program.Rel.{Rel}
use Rattle.qv_syntax.specs.declared.program.Conj.{Conj}
use Rattle.repair_semantics.specs.declared.entry.Place.{Place}
use Rattle.repair_semantics.specs.declared.entry.Place.TheVariants as places
use Rattle.repair_semantics.specs.declared.demand.Demand.{Demand}
use Rattle.repair_semantics.specs.EntryValues.{Known}
use Rattle.repair_semantics.specs.TargetItems.{TargetItem, target_items}
use Rattle.repair_semantics.specs.Unmet.{is_content_lacking, item_places, is_conjunct_unmet, conjunct_places, first_place, unmet_places, is_unmet}
use Rattle.repair_semantics.specs.Demands.{item_demand, item_demands, demands_where}
use Rattle.template_match.proofs.ListLaws.{contains_later}
use Rattle.mof_metamodel.proofs.Facts.{contains_first}

none_first : (ps : List Place) → is_some (first_place ps) ≡ false → ps ≡ []
none_first [] h = refl
none_first (p ∷ ps) h = absurd (true≢false h)

left_empty : (ps qs : List Place) → ps ++ qs ≡ [] → ps ≡ []
left_empty [] qs h = refl
left_empty (p ∷ ps) qs h = absurd (cc)

right_empty : (ps qs : List Place) → ps ++ qs ≡ [] → qs ≡ []
right_empty [] qs h = h
right_empty (p ∷ ps) qs h = absurd (cc)

no_place : (p : Place) (ps : List Place) → p ∷ ps ≡ [] → ⊥
no_place p ps h = cc

module _ (program : Program) (models : List ModelData) (rel : Rel) (k : Known) where
  items_met : (its : List TargetItem) → item_places program models rel k its ≡ [] → (i : TargetItem) → Contains its i → is_content_lacking program models rel k i.content ≡ false
  items_met [] h i (n, below, is) = absurd (omega (arith, below))
  items_met (j ∷ its) h i c = by (λ empty n below is. items_met its empty i (n, below, is)) (is_content_lacking program models rel k j.content) refl h c
    where
      by : (item_places program models rel k its ≡ [] → (n : ℕ) → n < length its → get_or its n i ≡ i → is_content_lacking program models rel k i.content ≡ false) → (x : Bool) → is_content_lacking program models rel k j.content ≡ x
          → (if x then places.Item j.prop ∷ item_places program models rel k its else item_places program models rel k its) ≡ []
          → Contains (j ∷ its) i → is_content_lacking program models rel k i.content ≡ false
      by rest true lacks empty there = absurd (no_place (places.Item j.prop) (item_places program models rel k its) empty)
      by rest false lacks empty (zero, below, is) = ap (λ (y : TargetItem). is_content_lacking program models rel k y.content) (sym is) ∙ lacks
      by rest false lacks empty (suc n, below, is) = rest empty n (omega (arith, below)) is

  conjuncts_met : (before : ℕ) (cs : List Conj) → conjunct_places program models rel k before cs ≡ [] → (c : Conj) → Contains cs c → is_conjunct_unmet program models rel k c ≡ false
  conjuncts_met before [] h c (n, below, is) = absurd (omega (arith, below))
  conjuncts_met before (d ∷ cs) h c among = by (λ empty n below is. conjuncts_met (suc before) cs empty c (n, below, is)) (is_conjunct_unmet program models rel k d) refl h among
    where
      by : (conjunct_places program models rel k (suc before) cs ≡ [] → (n : ℕ) → n < length cs → get_or cs n c ≡ c → is_conjunct_unmet program models rel k c ≡ false) → (x : Bool) → is_conjunct_unmet program models rel k d ≡ x
          → (if x then places.Where (suc before) ∷ conjunct_places program models rel k (suc before) cs else conjunct_places program models rel k (suc before) cs) ≡ []
          → Contains (d ∷ cs) c → is_conjunct_unmet program models rel k c ≡ false
      by rest true unmet empty there = absurd (no_place (places.Where (suc before)) (conjunct_places program models rel k (suc before) cs) empty)
      by rest false unmet empty (zero, below, is) = ap (is_conjunct_unmet program models rel k) (sym is) ∙ unmet
      by rest false unmet empty (suc n, below, is) = rest empty n (omega (arith, below)) is

  module _ (met : is_unmet program models rel k ≡ false) where
    none : unmet_places program models rel k (target_items program rel) ≡ []
    none = none_first (unmet_places program models rel k (target_items program rel)) met

    -- no item lacks its value
    pub item_met : (i : TargetItem) → Contains (target_items program rel) i → is_content_lacking program models rel k i.content ≡ false
    item_met = items_met (target_items program rel) (left_empty (item_places program models rel k (target_items program rel)) (conjunct_places program models rel k 0 rel.wheres) none)

    -- and no conjunct of the where clause is unmet
    pub conjunct_met : (c : Conj) → Contains rel.wheres c → is_conjunct_unmet program models rel k c ≡ false
    conjunct_met = conjuncts_met 0 rel.wheres (right_empty (item_places program models rel k (target_items program rel)) (conjunct_places program models rel k 0 rel.wheres) none)

    -- what an item demands is demanded
    pub demanded : (number : ℕ) (i : TargetItem) (d : Demand) → Contains (target_items program rel) i → item_demand program models k number i ≡ Some d → Contains (demands_where program models number rel k) d
    demanded number i d there is =
        subst (λ x. Contains (if x then [] else item_demands program models k number (target_items program rel)) d) (sym met) (through (target_items program rel) there)
      where
        kept : (o : Option Demand) (ds : List Demand) → Contains ds d → Contains (cons_option o ds) d
        kept None ds c = c
        kept (Some e) ds c = contains_later d e ds c

        through : (its : List TargetItem) → Contains its i → Contains (filter_map (item_demand program models k number) its) d
        through [] (n, below, at) = absurd (omega (arith, below))
        through (j ∷ its) (zero, below, at) =
            subst (λ o. Contains (cons_option o (filter_map (item_demand program models k number) its)) d) (sym (ap (item_demand program models k number) at ∙ is))
            (contains_first d (filter_map (item_demand program models k number) its))
        through (j ∷ its) (suc n, below, at) =
            kept (item_demand program models k number j) (filter_map (item_demand program models k number) its) (through its (n, omega (arith, below), at))
