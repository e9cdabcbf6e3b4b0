use Rattle.std.proofs.lemmas.Result.{err_from_is_err_and, IfErr-weaker}
use Rattle.qvtr_engine.specs.CheckWords.{check_paths}
use Rattle.qvtr_engine.specs.CheckedModels.{ModelsStop, numbered_models}
use Rattle.qvtr_engine.specs.ExecutionAnswer.{last_over}
use Rattle.qvtr_engine.specs.FoundFiles.{items_of}
use Rattle.qvtr_engine.specs.LastSteps.{AnswerRead}
use Rattle.qvtr_engine.specs.RequestView.{request_view}
use Rattle.qvtr_engine.specs.StepsAnswer.{AnswerWith}
use Rattle.qvtr_engine.proofs.ExecutingLaws.{ok_wider, ok_told, models_stop, models_go_on}
use Rattle.qvtr_engine.proofs.StopLaws.{stopped_wider, on_stop_stopped}
use Rattle.qvtr_engine.proofs.executing.execute_models.Goals as goal

pub returns-in_err-read-clause-err : goal.returns-in_err-read-clause-err
returns-in_err-read-clause-err g c =
    let p = err_from_is_err_and c.from_residual.result c.from_residual.ensures.1 in
    let told = g.F.Vault.files c.args.vault.now in
    let w = request_view c.args.request.now in
    let mode = c.args.mode in
    let s = c.args.script.now in
    let metas = c.args.metas.now in
    rw (p.1, p.2) (stopped_wider c.in_err-read.field-0.0 told (λ files. ModelsStop files w s metas) (λ files. AnswerWith (last_over mode files w) files w s metas) _ _ (check_paths w) (check_paths w)
    (models_stop mode told w s metas) (λ x. x) (λ path is. is) c.in_err-read.ensures.err)

pub returns-clause-ok : goal.returns-clause-ok
returns-clause-ok g c =
    let told = g.F.Vault.files c.args.vault.now in
    let w = request_view c.args.request.now in
    let mode = c.args.mode in
    let s = c.args.script.now in
    let metas = c.args.metas.now in
    let models = items_of c.in_ok-read.read.found.items in
    let form = c.in_ok-read.read.form in
    ok_wider c.execute_read.result told (λ files. AnswerRead mode w s metas (numbered_models w s models) form) (λ files. AnswerWith (last_over mode files w) files w s metas)
    (models_go_on mode told w s metas models form c.in_ok-read.ensures.ok c.in_ok-read.ensures.form)
    (ok_told c.execute_read.result told (AnswerRead mode w s metas (numbered_models w s models) form) c.execute_read.ensures.ok)

pub returns-clause-err : goal.returns-clause-err
returns-clause-err g c =
    let told = g.F.Vault.files c.args.vault.now in
    let w = request_view c.args.request.now in
    let mode = c.args.mode in
    let s = c.args.script.now in
    let metas = c.args.metas.now in
    let models = items_of c.in_ok-read.read.found.items in
    let form = c.in_ok-read.read.form in
    IfErr-weaker c.execute_read.result _ _
    (λ stop on. on_stop_stopped stop told (AnswerRead mode w s metas (numbered_models w s models) form) (λ files. AnswerWith (last_over mode files w) files w s metas) _ (check_paths w)
    (models_go_on mode told w s metas models form c.in_ok-read.ensures.ok c.in_ok-read.ensures.form) on) c.execute_read.ensures.err
