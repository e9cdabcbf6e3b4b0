use Rattle.std.proofs.Common.{◌≡◌, List, ap, ◌∙◌}
use Rattle.std.specs.Prelude.{Option}
use Rattle.repair_semantics.specs.declared.term.Term.{Term}
use Rattle.repair_semantics.specs.Entries.{calls_in}
use Rattle.entry_making.specs.declared.numbered_call.NumberedCall.{NumberedCall}
use Rattle.entry_making.specs.Numbered.{known_of}
use Rattle.entry_making.specs.CallNumbers.{number_calls, calls_of}
use Rattle.entry_making.proofs.CallLaws.{calls_are}
use Rattle.entry_making.proofs.ResultLaws.{told_more}
use Rattle.entry_making.proofs.calls.calls_made.Goals as goal

pub returns-clause-calls : goal.returns-clause-calls
returns-clause-calls c =
    let program = c.args.program.now in
    let models = c.args.models.now in
    let known = c.args.known.now in
    let clause = c.args.clause.now in
    told_more c.put_calls.result (λ cs. cs ≡ number_calls program models known clause) (λ cs. (terms : List Term) → calls_of terms cs ≡ calls_in program models (known_of terms known) clause)
    c.put_calls.ensures.value (λ cs is terms. ap (λ (xs : List (Option NumberedCall)). calls_of terms xs) is ∙ calls_are terms program models known clause)
