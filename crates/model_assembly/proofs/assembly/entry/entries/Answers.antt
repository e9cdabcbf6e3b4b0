use Rattle.std.proofs.Common.{◌∙◌, ℕ, ◌+◌, ◌++◌, ap, arith, drop}
use Rattle.model_assembly.specs.declared.assembly.entry.Entry.{Entry}
use Rattle.model_assembly.specs.AssemblyEntries.{entries_from}
use Rattle.model_assembly.proofs.assembling.EntrySteps.{entries_step}
use Rattle.model_assembly.proofs.assembly.entry.entries.Goals as goal

pub loop-i-preserved : goal.loop-i-preserved
loop-i-preserved c =
    let r = c.index-references-i.result in
    let made : ℕ → Entry = λ k. record { object = r.object; place = k; property = r.property; target = r.target; written = c.loop-i.i } in
    ap (λ es. es ++ entries_from c.args.meta.now c.args.classes.now (c.loop-i.i + 1) (drop (c.loop-i.i + 1) c.args.references.now)) c.in_ok-push.ensures.items
    ∙ entries_step c.args.meta.now c.args.classes.now c.args.references.now c.loop-i.i r c.loop-i.entries.items (made c.place_of.result) (entries_from c.args.meta.now c.args.classes.now 0 c.args.references.now) (omega arith) c.index-references-i.is
    (ap made c.place_of.ensures) c.loop-i.invariant
