-- Demands: what the items of target templates ask of the target for the entries (QVT 1.3, sections 7.2.3 and 7.2 on enforcement), and the
-- objects of the target that they speak of.
use Rattle.std.specs.Prelude.{ℕ, suc, List, [], ◌∷◌, ◌++◌, Option, None, Some, slice_get, if◌then◌else◌}
use Rattle.std.specs.List.{filter_map, flat_map}
use Rattle.std.specs.Option.{option_map_or, option_to_list}
use Rattle.object_tables.specs.Models.{ModelData}
use Rattle.qv_syntax.specs.declared.program.Program.{Program}
use Rattle.qv_syntax.specs.declared.program.Rel.{Rel}
use Rattle.repair_semantics.specs.declared.term.Term.{Term}
use Rattle.repair_semantics.specs.declared.term.TermValue.{TermValue}
use Rattle.repair_semantics.specs.declared.entry.Entry.{Entry}
use Rattle.repair_semantics.specs.declared.demand.Demand.{Demand}
use Rattle.repair_semantics.specs.Terms.{term_in, term_order, each_once}
use Rattle.repair_semantics.specs.EntryValues.{Known, term_of}
use Rattle.repair_semantics.specs.TargetItems.{TargetItem, target_items}
use Rattle.repair_semantics.specs.Making.{content_value, entry_known}
use Rattle.repair_semantics.specs.Unmet.{is_unmet}

-- the demand, where there are an owner and a value
abbrev pub demand_by : ℕ → TargetItem → Option Term → Option TermValue → Option Demand
demand_by number item (Some owner) (Some v) = Some (record { entry = number; owner = owner; prop = item.prop; value = v })
demand_by number item owner v = None

-- what an item demands for the entry of this number: that the object of its template has its value
abbrev pub item_demand : Program → List ModelData → Known → ℕ → TargetItem → Option Demand
item_demand program models k number item = demand_by number item (term_of k.values item.owner) (content_value program models k item.content)

-- the demands of items in their order
abbrev pub item_demands : Program → List ModelData → Known → ℕ → List TargetItem → List Demand
item_demands program models k number items = filter_map (item_demand program models k number) items

-- the demands of an entry in which so much is known
abbrev pub demands_where : Program → List ModelData → ℕ → Rel → Known → List Demand
demands_where program models number rel k = if is_unmet program models rel k then [] else item_demands program models k number (target_items program rel)

-- the demands of an entry in text order; one that is unmet makes none
abbrev pub entry_demands : Program → List ModelData → ℕ → Entry → List Demand
entry_demands program models number e = option_map_or (λ rel. demands_where program models number rel (entry_known program models rel e.values)) (slice_get program.rels e.rel) []

-- the demands of entries, of which so many stand before these
abbrev pub demands_from : Program → List ModelData → ℕ → List Entry → List Demand
demands_from program models before [] = []
demands_from program models before (e ∷ es) = entry_demands program models before e ++ demands_from program models (suc before) es

-- the demands of a list of entries, in their order
abbrev pub demands_of : Program → List ModelData → List Entry → List Demand
demands_of program models entries = demands_from program models 0 entries

-- the owner of a demand, and its value where that is a term
abbrev pub terms_in : Demand → List Term
terms_in d = d.owner ∷ option_to_list (term_in d.value)

-- the terms that are demanded: each that owns a demand or is the value of one, once, in order
abbrev pub demanded_terms : List Demand → List Term
demanded_terms ds = each_once term_order (flat_map terms_in ds)
