use Rattle.std.proofs.Common.{◌≡◌, ◌∙◌, List, ap}
use Rattle.std.proofs.lemmas.Result.{IfOk-weaker}
use Rattle.repair_semantics.specs.declared.demand.Demand.{Demand}
use Rattle.repair_semantics.specs.declared.entry.Entry.{Entry}
use Rattle.trace_log.specs.declared.trace.TraceEntry.{TraceEntry}
use Rattle.demand_trace.specs.Traces.{entries_trace}
use Rattle.demand_trace.specs.Naming.{world}
use Rattle.demand_trace.specs.Cuts.{entries_cut}
use Rattle.demand_trace.proofs.CutLaws.{cut_whole}
use Rattle.demand_trace.proofs.names.Names.all_entries.Goals as goal

pub returns-2 : goal.returns-2
returns-2 c =
    let w = world c.args.self.now in
    let demands = c.args.demands.now in
    IfOk-weaker c.entries-traced.result (λ (es : List TraceEntry). es ≡ entries_cut w c.as_slice-2.result.now 0 c.as_slice.result.now)
    (λ (es : List TraceEntry). es ≡ entries_trace w demands.list 0 demands.entries)
    (λ es same.
    same ∙ ap (λ ds. entries_cut w ds 0 c.as_slice.result.now) (c.as_slice-2.ensures ∙ c.in-Ok-or_drop.ensures)
    ∙ ap (entries_cut w demands.list 0) (c.as_slice.ensures ∙ c.in_ok-entries.ensures) ∙ cut_whole w demands.list demands.entries c.requires.order)
    c.entries-traced.ensures
