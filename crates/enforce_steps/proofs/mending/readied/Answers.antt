use Rattle.std.proofs.Common.{sym, refl}
use Rattle.repair_semantics.specs.Candidates.{candidate}
use Rattle.answer_texts.specs.AskedView.{asked_view}
use Rattle.enforce_steps.specs.Endings.{output_view}
use Rattle.enforce_steps.proofs.AskableLaws.{can_be_enforced, target_within}
use Rattle.enforce_steps.proofs.MakingLaws.{is_made, is_ready}
use Rattle.enforce_steps.proofs.RefusalLaws.{stops_made}
use Rattle.enforce_steps.proofs.mending.readied.Goals as goal

pub target_of-target-requires : goal.target_of-target-requires
target_of-target-requires c = target_within (asked_view c.args.asked.now) c.requires.askable

pub prepare-requires-clause-valid : goal.prepare-requires-clause-valid
prepare-requires-clause-valid c = (c.requires.askable.target c.target_of-target.result.now c.target_of-target.ensures).valid

pub prepare-requires-clause-numbers : goal.prepare-requires-clause-numbers
prepare-requires-clause-numbers c = (c.requires.askable.target c.target_of-target.result.now c.target_of-target.ensures).numbers

pub prepare-requires-clause-demands : goal.prepare-requires-clause-demands
prepare-requires-clause-demands c =
    let q = asked_view c.args.asked.now in
    c.demand_sets_are_demands.ensures q.metas q.program q.models c.target_of-target.result.now c.args.found.now
    (can_be_enforced q c.requires.askable c.requires.demanded.enforceable) c.target_of-target.ensures c.requires.demanded.are

pub returns-in-Ok-clause-ok : goal.returns-in-Ok-clause-ok
returns-in-Ok-clause-ok c =
    is_ready (asked_view c.args.asked.now) c.target_of-target.result.now c.args.found.now c.target_of-target.ensures c.requires.demanded c.requires.askable c.in-Ok.edits c.in-Ok.ensures.made
    c.in-Ok.ensures.sound c.in-Ok.ensures.report

pub made_refusal-refused-requires : goal.made_refusal-refused-requires
made_refusal-refused-requires c =
    (candidate c.args.asked.now.program.now c.target_of-target.result.now c.args.found.now.list, sym c.meta.ensures, c.in-Err.ensures.against)

pub returns-in-Err-clause-err : goal.returns-in-Err-clause-err
returns-in-Err-clause-err c =
    let q = asked_view c.args.asked.now in
    let m = c.target_of-target.result.now in
    let made = candidate q.program m c.args.found.now.list in
    stops_made q (output_view c.args.output.now) made c.made_refusal-refused.result
    (is_made q m c.args.found.now c.target_of-target.ensures c.requires.demanded made refl)
    (c.made_refusal-refused.ensures made (sym c.meta.ensures) c.in-Err.ensures.against)
