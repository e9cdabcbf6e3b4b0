-- What the items of the target template demand for an entry, by the numbers of terms.
use Rattle.std.specs.Prelude.{ℕ, List, Option, None, Some, slice_index_or}
use Rattle.std.specs.List.{flat_map}
use Rattle.std.specs.Option.{option_map, option_and_then, option_to_list}
use Rattle.object_tables.specs.Models.{ModelData}
use Rattle.qv_syntax.specs.declared.program.Program.{Program}
use Rattle.repair_semantics.specs.declared.term.Term.{Term}
use Rattle.repair_semantics.specs.declared.demand.Demand.{Demand}
use Rattle.repair_semantics.specs.TargetItems.{TargetItem}
use Rattle.term_table.specs.declared.numbered.NumberedValue.{NumberedValue}
use Rattle.term_table.specs.declared.numbered.NumberedValue.TheVariants as numbered
use Rattle.term_table.specs.TermTables.{term_at, value_in}
use Rattle.entry_making.specs.declared.item_demand.ItemDemand.{ItemDemand}
use Rattle.entry_making.specs.declared.numbered_known.NumberedKnown.{NumberedKnown}
use Rattle.entry_making.specs.Givers.{content_giver}
use Rattle.entry_making.specs.Numbered.{giver_number}

-- the number of the term, if the value is one
abbrev pub term_number : NumberedValue → Option ℕ
term_number (numbered.Val d) = None
term_number (numbered.Term n) = Some n

-- what an item demands of its owner, if it has a value
abbrev pub owner_demand : Program → List ModelData → NumberedKnown → TargetItem → ℕ → Option ItemDemand
owner_demand program models k item owner =
    option_map (λ v. record { owner = owner; prop = item.prop; value = v }) (giver_number program models k.values k.scope (content_giver item.content))

-- what an item demands: that the object of its template has its value
abbrev pub number_demand : Program → List ModelData → NumberedKnown → TargetItem → Option ItemDemand
number_demand program models k item = option_and_then (owner_demand program models k item) (option_and_then term_number (slice_index_or k.values item.owner None))

-- the demands of items in their order
abbrev pub number_demands : Program → List ModelData → NumberedKnown → List TargetItem → List ItemDemand
number_demands program models k items = flat_map (λ item. option_to_list (number_demand program models k item)) items

-- the demand of an entry with terms for the numbers
abbrev pub demand_of : List Term → ℕ → ItemDemand → Demand
demand_of terms entry d = record { entry = entry; owner = term_at terms d.owner; prop = d.prop; value = value_in terms d.value }
