use Rattle.std.proofs.Common.{◌≤◌, List, length, subst}
use Rattle.qvtr_semantics.specs.declared.binding.Binding.{Binding}
use Rattle.relation_calls.proofs.FrameLaws.{pushed_resumed}
use Rattle.relation_calls.proofs.stepping.resume.Goals as goal

pub returns-in_err-keep_answer-clause-told : goal.returns-in_err-keep_answer-clause-told
returns-in_err-keep_answer-clause-told c =
    let v = c.args.visit.now in
    let past = subst (λ (bs : List Binding). length bs ≤ length c.args.last.progress.outcomes) c.as_slice.ensures (c.is_finished.ensures c.if-is_finished.true) in
    c.in_err-keep_answer.ensures.told v.program.now v.models.now c.requires.visit.formed c.requires.told c.requires.frame past

pub returns-then-is_finished-clause-told : goal.returns-then-is_finished-clause-told
returns-then-is_finished-clause-told c =
    let v = c.args.visit.now in
    let past = subst (λ (bs : List Binding). length bs ≤ length c.args.last.progress.outcomes) c.as_slice.ensures (c.is_finished.ensures c.if-is_finished.true) in
    c.in_ok-keep_answer.ensures.told v.program.now v.models.now c.requires.visit.formed c.requires.told c.requires.frame past

pub returns-clause-frames : goal.returns-clause-frames
returns-clause-frames c =
    let v = c.args.visit.now in
    pushed_resumed v.program.now v.models.now c.args.frames.now c.push.new.self c.push_begun.new.frames c.args.last _ c.in_ok-begun.begun c.in_ok-push.ensures.ok c.in_ok-begun.ensures.frame
    c.in_ok-begun.ensures.begun c.in_ok-push_begun.ensures
