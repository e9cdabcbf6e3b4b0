use Rattle.std.proofs.Common.{◌≡◌, List, map, ap, ◌∙◌}
use Rattle.std.specs.List.{filter_map}
use Rattle.qv_syntax.specs.declared.program.Conj.{Conj}
use Rattle.repair_semantics.specs.declared.term.Term.{Term}
use Rattle.repair_semantics.specs.Entries.{calls_in}
use Rattle.entry_making.specs.declared.numbered_call.NumberedCall.{NumberedCall}
use Rattle.entry_making.specs.Numbered.{known_of}
use Rattle.entry_making.specs.CallNumbers.{call_of}
use Rattle.entry_making.proofs.ResultLaws.{told_more}
use Rattle.entry_finding.proofs.MadeLaws.{calls_given}
use Rattle.entry_finding.proofs.making.where_calls.Goals as goal

pub returns-clause-calls : goal.returns-clause-calls
returns-clause-calls c =
    let program = c.args.task.now.program.now in
    let models = c.args.task.now.models.now in
    let known = c.args.known.now in
    let calls = c.in_ok-calls.calls in
    let clause = c.args.task.now.recipe.now.rel.now.wheres in
    told_more c.given_calls.result (λ given. given ≡ filter_map (λ x. x) calls)
    (λ given. (terms : List Term) → map (call_of terms) given ≡ filter_map (λ x. x) (calls_in program models (known_of terms known) clause))
    c.given_calls.ensures
    (λ given is terms.
    ap (λ (cs : List NumberedCall). map (call_of terms) cs) is ∙ calls_given terms calls
    ∙ ap (filter_map (λ x. x)) (c.in_ok-calls.ensures.calls terms ∙ ap (λ (cs : List Conj). calls_in program models (known_of terms known) cs) c.as_slice-clause.ensures))
