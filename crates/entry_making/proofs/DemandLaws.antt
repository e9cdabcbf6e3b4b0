-- What is demanded by numbers is what is demanded of terms.
use Rattle.std.specs.Prelude.{◌≡◌, ◌++◌, ℕ, List, [], ◌∷◌, map, Option, None, Some, slice_index_or}
use Rattle.std.specs.List.{flat_map, cons_option}
use Rattle.std.specs.Option.{option_map, option_and_then, option_to_list}
use Rattle.std.proofs.Common.{refl, sym, ap, ◌∙◌}
use Rattle.object_tables.specs.Models.{ModelData}
use Rattle.qv_syntax.specs.declared.program.Program.{Program}
use Rattle.repair_semantics.specs.declared.term.Term.{Term}
use Rattle.repair_semantics.specs.declared.term.TermValue.{TermValue, out-TermValue}
use Rattle.repair_semantics.specs.declared.demand.Demand.{Demand}
use Rattle.repair_semantics.specs.Terms.{term_part, term_in}
use Rattle.repair_semantics.specs.EntryValues.{Known, value_of, term_of}
use Rattle.repair_semantics.specs.TargetItems.{TargetItem}
use Rattle.repair_semantics.specs.Making.{content_value}
use Rattle.repair_semantics.specs.Demands.{demand_by, item_demand, item_demands}
use Rattle.term_table.specs.declared.numbered.NumberedValue.{NumberedValue}
use Rattle.term_table.specs.declared.numbered.NumberedValue.TheVariants as numbered
use Rattle.term_table.specs.TermTables.{term_at, value_in, values_in}
use Rattle.term_table.proofs.TermTableLaws.{out_datum, out_term}
use Rattle.entry_making.specs.declared.item_demand.ItemDemand.{ItemDemand}
use Rattle.entry_making.specs.declared.numbered_known.NumberedKnown.{NumberedKnown}
use Rattle.entry_making.specs.Givers.{content_giver}
use Rattle.entry_making.specs.Numbered.{known_of, giver_number}
use Rattle.entry_making.specs.DemandNumbers.{term_number, owner_demand, number_demand, number_demands, demand_of}
use Rattle.entry_making.proofs.KeyedLaws.{content_given}
use Rattle.entry_making.proofs.DecodedLaws.{giver_shown, value_shown}

module _ (program : Program) (models : List ModelData) (terms : List Term) (k : NumberedKnown) (entry : ℕ) where
  abbrev all : Known
  all = known_of terms k

  term_shown : (o : Option NumberedValue) → option_and_then term_in (option_map (value_in terms) o) ≡ option_map (term_at terms) (option_and_then term_number o)
  term_shown None = refl
  term_shown (Some (numbered.Val d)) = ap term_part (out_datum d)
  term_shown (Some (numbered.Term n)) = ap term_part (out_term (term_at terms n))

  owner_shown : (v : ℕ) → term_of all.values v ≡ option_map (term_at terms) (option_and_then term_number (slice_index_or k.values v None))
  owner_shown v = ap (option_and_then term_in) (sym (value_shown terms k.values v)) ∙ term_shown (slice_index_or k.values v None)

  value_is : (item : TargetItem) → content_value program models all item.content ≡ option_map (value_in terms) (giver_number program models k.values k.scope (content_giver item.content))
  value_is item = content_given program models all item.content ∙ sym (giver_shown program models terms k.values k.scope (content_giver item.content))

  demand_is : (item : TargetItem) → item_demand program models all entry item ≡ option_map (demand_of terms entry) (number_demand program models k item)
  demand_is item =
      ap (λ o. demand_by entry item o (content_value program models all item.content)) (owner_shown item.owner)
      ∙ ap (demand_by entry item (option_map (term_at terms) (option_and_then term_number (slice_index_or k.values item.owner None)))) (value_is item)
      ∙ by (option_and_then term_number (slice_index_or k.values item.owner None)) (giver_number program models k.values k.scope (content_giver item.content))
    where
      by : (o : Option ℕ) (v : Option NumberedValue) → demand_by entry item (option_map (term_at terms) o) (option_map (value_in terms) v)
          ≡ option_map (demand_of terms entry) (option_and_then (λ owner. option_map (λ x. record { owner = owner; prop = item.prop; value = x }) v) o)
      by None None = refl
      by None (Some x) = refl
      by (Some n) None = refl
      by (Some n) (Some x) = refl

  pub demands_are : (items : List TargetItem) → map (demand_of terms entry) (number_demands program models k items) ≡ item_demands program models all entry items
  demands_are [] = refl
  demands_are (item ∷ items) = by (number_demand program models k item) (item_demand program models all entry item) (demand_is item) (demands_are items)
    where
      by : (o : Option ItemDemand) (q : Option Demand) → q ≡ option_map (demand_of terms entry) o
          → map (demand_of terms entry) (number_demands program models k items) ≡ item_demands program models all entry items
          → map (demand_of terms entry) (option_to_list o ++ number_demands program models k items) ≡ cons_option q (item_demands program models all entry items)
      by None q same h = h ∙ ap (λ (z : Option Demand). cons_option z (item_demands program models all entry items)) (sym same)
      by (Some d) q same h =
          ap (λ (zs : List Demand). demand_of terms entry d ∷ zs) h ∙ ap (λ (z : Option Demand). cons_option z (item_demands program models all entry items)) (sym same)
