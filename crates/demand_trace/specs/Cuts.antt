-- Demands in the order of their entries, cut into those of each.
use Rattle.std.specs.Prelude.{◌≤◌, ℕ, suc, List, [], ◌∷◌, take, drop}
use Rattle.std.specs.List.{prefix_len}
use Rattle.repair_semantics.specs.declared.demand.Demand.{Demand}
use Rattle.repair_semantics.specs.declared.entry.Entry.{Entry}
use Rattle.trace_log.specs.declared.trace.TraceEntry.{TraceEntry}
use Rattle.demand_trace.specs.Traces.{World, entry_trace, is_of}

-- they stand in the order of their entries, from the entry of this number on
abbrev pub AreFrom : ℕ → List Demand → Type 0
AreFrom number [] = Unit {0}
AreFrom number (d ∷ ds) = (number ≤ d.entry) × AreFrom d.entry ds

-- how many of them, from the first on, are of the entry of this number
abbrev pub own_count : ℕ → List Demand → ℕ
own_count number ds = prefix_len (is_of number) ds

-- entries from a number on, each with the first of the demands that are left, as many as are its own
abbrev pub entries_cut : World → List Demand → ℕ → List Entry → List TraceEntry
entries_cut w ds number [] = []
entries_cut w ds number (e ∷ es) = entry_trace w e (take (own_count number ds) ds) ∷ entries_cut w (drop (own_count number ds) ds) (suc number) es
