-- A conflict that was found by number, as it is told with trees.
use Rattle.std.specs.Prelude.{◌≡◌, ◌<◌, ℕ, zero, suc, List, [], ◌∷◌, map, length, Option, None, Some, All, slice_get}
use Rattle.std.specs.Option.{option_map}
use Rattle.std.proofs.Common.{refl, sym, ap, subst, ◌∙◌, arith}
use Rattle.std.proofs.lemmas.List.{length-map}
use Rattle.std.proofs.lemmas.List.Elements.{All-nil, All-cons, All-head, All-tail}
use Rattle.std.proofs.lemmas.Option.{slice_get-map, same_Some}
use Rattle.mof_metamodel.specs.declared.desc.MetaDesc.{MetaDesc}
use Rattle.mof_metamodel.specs.declared.desc.PropId.{PropId}
use Rattle.mof_metamodel.specs.Tables.{IsPropOf}
use Rattle.repair_semantics.specs.declared.term.Term.{Term}
use Rattle.repair_semantics.specs.declared.entry.Entry.{Entry}
use Rattle.repair_semantics.specs.declared.demand.Demand.{Demand}
use Rattle.repair_semantics.specs.declared.demand.Clash.{Clash}
use Rattle.repair_semantics.specs.Claims.{Spot}
use Rattle.repair_semantics.specs.Conflicts.{IsToldPlace, IsClash}
use Rattle.term_table.specs.TermTables.{term_at, value_in}
use Rattle.demand_conflicts.specs.declared.demand.NumberedDemand.{NumberedDemand}
use Rattle.demand_conflicts.specs.declared.conflict.FoundConflict.{FoundConflict}
use Rattle.demand_conflicts.specs.NumberedDemands.{demand_in, demands_in, IsDemandOf, IsFound}

-- a place at which something stands is within the list
pub found_below : {X : Type 0} (xs : List X) (i : ℕ) (x : X) → slice_get xs i ≡ Some x → i < length xs
found_below [] i x h = absurd (cc)
found_below (y ∷ xs) zero x h = omega arith
found_below (y ∷ xs) (suc i) x h = let less : i < length xs = found_below xs i x h in omega (arith, less)

pub listed_below : (terms : List Term) (ds : List NumberedDemand) (i : ℕ) (d : Demand) → slice_get (demands_in terms ds) i ≡ Some d → i < length ds
listed_below terms ds i d h = let less : i < length (demands_in terms ds) = found_below (demands_in terms ds) i d h in omega (arith, less, length-map ds (demand_in terms))

-- the demand at a place, by its number
pub demand_at : (terms : List Term) (ds : List NumberedDemand) (i : ℕ) (d : NumberedDemand) (x : Demand) → slice_get ds i ≡ Some d → slice_get (demands_in terms ds) i ≡ Some x → x ≡ demand_in terms d
demand_at terms ds i d x at is =
    same_Some x (demand_in terms d) (sym is ∙ slice_get-map (demand_in terms) ds i ∙ ap (option_map (demand_in terms)) at)

-- their properties are those of the demands by number
pub props_known : (meta : MetaDesc) (terms : List Term) (ds : List NumberedDemand) → All (λ (d : Demand). IsPropOf meta d.prop) (demands_in terms ds) → All (IsDemandOf meta) ds
props_known meta terms [] all = All-nil (IsDemandOf meta)
props_known meta terms (d ∷ ds) all =
    All-cons (IsDemandOf meta) d ds (All-head (λ (x : Demand). IsPropOf meta x.prop) (demand_in terms d) (demands_in terms ds) all)
    (props_known meta terms ds (All-tail (λ (x : Demand). IsPropOf meta x.prop) (demand_in terms d) (demands_in terms ds) all))

-- what is told of a conflict that was found
pub told_clash : (meta : MetaDesc) (terms : List Term) (entries : List Entry) (ds : List NumberedDemand) (found : FoundConflict) (first second : NumberedDemand) (clash : Clash)
    → slice_get ds found.first ≡ Some first → slice_get ds found.second ≡ Some second
    → clash.owner ≡ term_at terms found.owner → clash.prop ≡ found.prop
    → slice_get entries first.entry ≡ Some clash.first → clash.first_item ≡ first.prop → clash.first_value ≡ value_in terms first.value
    → slice_get entries second.entry ≡ Some clash.second → clash.second_item ≡ second.prop → clash.second_value ≡ value_in terms second.value
    → IsFound meta terms ds found → IsClash meta entries (demands_in terms ds) clash
told_clash meta terms entries ds found first second clash first_at second_at owner prop first_entry first_item first_value second_entry second_item second_value f =
    let one : f.first ≡ demand_in terms first = demand_at terms ds found.first first f.first first_at f.first_is in
    let other : f.second ≡ demand_in terms second = demand_at terms ds found.second second f.second second_at f.second_is in
    record {
      first = f.first;
      second = f.second;
      c = f.c;
      d = f.d;
      conflict = f.conflict;
      place = placed f.c.spot f.first f.place;
      first_entry = ap (λ (d : Demand). slice_get entries d.entry) one ∙ first_entry;
      first_item = first_item ∙ sym (ap (λ (d : Demand). d.prop) one);
      first_value = first_value ∙ sym (ap (λ (d : Demand). d.value) one);
      second_entry = ap (λ (d : Demand). slice_get entries d.entry) other ∙ second_entry;
      second_item = second_item ∙ sym (ap (λ (d : Demand). d.prop) other);
      second_value = second_value ∙ sym (ap (λ (d : Demand). d.value) other);
    }
  where
    placed : (spot : Spot Term) (d : Demand) → IsToldPlace spot d (term_at terms found.owner) found.prop → IsToldPlace spot d clash.owner clash.prop
    placed spot d h = subst (λ o. IsToldPlace spot d o clash.prop) (sym owner) (subst (λ p. IsToldPlace spot d (term_at terms found.owner) p) (sym prop) h)
