use Rattle.std.proofs.Common.{◌≡◌, ◌∙◌, subst}
use Rattle.std.specs.Prelude.{chars}
use Rattle.std.proofs.lemmas.Result.{err_from_is_err_and, IfOk-weaker, IfErr-weaker}
use Rattle.qvtr_engine.specs.CheckedModels.{numbered_models}
use Rattle.qvtr_engine.specs.ExecutionAnswer.{last_answer}
use Rattle.qvtr_engine.specs.FoundFiles.{items_of}
use Rattle.qvtr_engine.specs.LastSteps.{AnswerRead}
use Rattle.qvtr_engine.specs.Outcome.{reply_of}
use Rattle.qvtr_engine.specs.RequestView.{request_view}
use Rattle.qvtr_engine.specs.Stops.{OnStop}
use Rattle.qvtr_engine.specs.Target.{target_path}
use Rattle.qvtr_types.specs.ResolvedScripts.{setting_of}
use Rattle.qvtr_engine.proofs.ExecutingLaws.{script_refused, script_resolved}
use Rattle.qvtr_engine.proofs.LastStepLaws.{mended_for}
use Rattle.qvtr_engine.proofs.NumberingLaws.{models_distinct, models_each, models_numbered}
use Rattle.qvtr_engine.proofs.ReadModelLaws.{read_question}
use Rattle.qvtr_engine.proofs.StopLaws.{on_stop_wider}
use Rattle.qvtr_engine.proofs.TargetLaws.{target_named}
use Rattle.qvtr_engine.proofs.executing.execute_read.Goals as goal

pub returns-in_err-program-clause-err : goal.returns-in_err-program-clause-err
returns-in_err-program-clause-err c =
    let p = err_from_is_err_and c.from_residual.result c.from_residual.ensures.1 in
    let w = request_view c.args.request.now in
    let s = c.args.script.now in
    let metas = c.args.metas.now in
    let models = numbered_models w s (items_of c.args.read.found.items) in
    rw (p.1, p.2) (on_stop_wider c.in_err-program.field-0.0 _ (AnswerRead c.args.mode w s metas models c.args.read.form)
    (script_refused c.args.mode w s metas models c.args.read.form) c.in_err-program.ensures.err)

pub number_models-requires-clause-distinct : goal.number_models-requires-clause-distinct
number_models-requires-clause-distinct c = rw c.as_slice.ensures (models_distinct c.args.script.now c.in_ok-program.ensures.distinct)

pub number_models-requires-clause-each : goal.number_models-requires-clause-each
number_models-requires-clause-each c =
    rw c.as_slice.ensures (models_each (request_view c.args.request.now) c.args.script.now c.requires.fits c.in_ok-program.ensures.distinct c.args.read.found.items c.requires.names)

pub last_steps-requires-clause-read : goal.last_steps-requires-clause-read
last_steps-requires-clause-read c =
    let w = request_view c.args.request.now in
    let s = c.args.script.now in
    let metas = c.args.metas.now in
    let target = chars c.args.request.now.target.now in
    let program = c.in_ok-program.program in
    let distinct = models_distinct s c.in_ok-program.ensures.distinct in
    let is = c.in_ok-program.ensures.ok in
    read_question s metas c.args.read.found.items c.requires.count distinct c.requires.read
    (models_each w s c.requires.fits c.in_ok-program.ensures.distinct c.args.read.found.items c.requires.names)
    target program is c.in_ok-program.ensures.few c.in_ok-program.ensures.few_queries
    (c.clauses_are_short.ensures.few c.requires.spelled.0 (setting_of metas s target program.queries) program c.requires.spelled.1 is.resolution.program_of)
    c.in_ok-models.models (rw c.as_slice.ensures at c.in_ok-models.ensures)

pub returns-clause-ok : goal.returns-clause-ok
returns-clause-ok c =
    let w = request_view c.args.request.now in
    let s = c.args.script.now in
    let metas = c.args.metas.now in
    let mode = c.args.mode in
    let form = c.args.read.form in
    let program = c.in_ok-program.program in
    let numbered = numbered_models w s (items_of c.args.read.found.items) in
    let is : c.in_ok-models.models ≡ numbered = (rw c.as_slice.ensures at c.in_ok-models.ensures) ∙ models_numbered w s c.args.read.found.items c.requires.names in
    IfOk-weaker c.last_steps.result _ _
    (λ o a. script_resolved mode w s metas numbered form program c.requires.fits c.in_ok-program.ensures.distinct c.in_ok-program.ensures.ok (reply_of o)
    (subst (λ models. last_answer mode form (target_path w) (record { metas = metas; program = program; models = models }) (reply_of o)) is
    (subst (λ path. last_answer mode form path (record { metas = metas; program = program; models = c.in_ok-models.models }) (reply_of o)) c.target_path.ensures a)))
    c.last_steps.ensures.ok

pub returns-clause-mended : goal.returns-clause-mended
returns-clause-mended c =
    let w = request_view c.args.request.now in
    IfOk-weaker c.last_steps.result _ _
    (λ o at. mended_for c.args.mode w c.target_path.result.now o c.target_path.ensures (target_named w c.args.script.now c.requires.fits c.in_ok-program.ensures.distinct) at)
    c.last_steps.ensures.mended

pub returns-clause-err : goal.returns-clause-err
returns-clause-err c =
    let w = request_view c.args.request.now in
    let s = c.args.script.now in
    let metas = c.args.metas.now in
    let mode = c.args.mode in
    let form = c.args.read.form in
    let program = c.in_ok-program.program in
    let numbered = numbered_models w s (items_of c.args.read.found.items) in
    let is : c.in_ok-models.models ≡ numbered = (rw c.as_slice.ensures at c.in_ok-models.ensures) ∙ models_numbered w s c.args.read.found.items c.requires.names in
    IfErr-weaker c.last_steps.result _ _
    (λ stop on. on_stop_wider stop (last_answer mode form (target_path w) (record { metas = metas; program = program; models = numbered })) (AnswerRead mode w s metas numbered form)
    (script_resolved mode w s metas numbered form program c.requires.fits c.in_ok-program.ensures.distinct c.in_ok-program.ensures.ok)
    (subst (λ models. OnStop stop (last_answer mode form (target_path w) (record { metas = metas; program = program; models = models }))) is
    (subst (λ path. OnStop stop (last_answer mode form path (record { metas = metas; program = program; models = c.in_ok-models.models }))) c.target_path.ensures on)))
    c.last_steps.ensures.err
