use Rattle.std.proofs.Common.{List}
use Rattle.repair_semantics.specs.declared.term.Term.{Term}
use Rattle.term_table.specs.TermTables.{values_in}
use Rattle.entry_making.specs.Numbered.{known_of}
use Rattle.entry_making.proofs.ResultLaws.{told_more}
use Rattle.entry_finding.specs.Made.{IsOutcomeBy, IsOutcome}
use Rattle.entry_finding.proofs.GrownLaws.{values_grown, values_stay}
use Rattle.entry_finding.proofs.MadeLaws.{outcome_in}
use Rattle.entry_finding.proofs.making.entry_made.Goals as goal

pub returns-clause-made : goal.returns-clause-made
returns-clause-made c =
    let task = c.args.task.now in
    let program = task.program.now in
    let models = task.models.now in
    let rel = task.recipe.now.rel.now in
    let before = c.args.table.now in
    let after = c.known_in.new.table in
    let b = c.args.b.now in
    let known = c.in_ok-known.known in
    let grown = c.in_ok-known.ensures.grown in
    let within = c.requires.binding.within in
    told_more c.made_by.result (λ m. (ts : List Term) → IsOutcomeBy program models task.rel rel task.called (values_in ts b) (known_of ts known) ts m)
    (IsOutcome program models after task.rel rel task.called (values_in before b))
    c.made_by.ensures
    (λ m by. outcome_in program models task.rel rel task.called c.requires.found after b known (values_in before b) (values_grown before after grown b within) c.in_ok-known.ensures.known
    (values_stay before after grown b within) c.in_ok-known.ensures.within m by)
