use Rattle.std.proofs.Common.{subst}
use Rattle.std.specs.Prelude.{IfOk, IfErr, IfSome}
use Rattle.std.proofs.lemmas.Result.{err_from_is_err_and}
use Rattle.vault_io.specs.Counts.{Rose}
use Rattle.qvtr_engine.specs.CheckWords.{check_paths}
use Rattle.qvtr_engine.specs.CheckedMetamodels.{MetamodelsStop}
use Rattle.qvtr_engine.specs.ExecutionAnswer.{last_over}
use Rattle.qvtr_engine.specs.Outcome.{reply_of}
use Rattle.qvtr_engine.specs.RequestView.{request_view}
use Rattle.qvtr_engine.specs.StepsAnswer.{AnswerOver, AnswerWith}
use Rattle.qvtr_engine.specs.Stops.{StoppedBy}
use Rattle.qvtr_engine.proofs.ExecutingLaws.{ok_wider, err_wider, metamodels_stop, metamodels_go_on}
use Rattle.qvtr_engine.proofs.StopLaws.{rose_from, stopped_wider}
use Rattle.qvtr_engine.proofs.executing.execute_files.Goals as goal

pub returns-in_err-metas-clause-err : goal.returns-in_err-metas-clause-err
returns-in_err-metas-clause-err g c =
    let p = err_from_is_err_and c.from_residual.result c.from_residual.ensures.1 in
    let told = g.F.Vault.files c.args.vault.now in
    let w = request_view c.args.request.now in
    let mode = c.args.mode in
    let s = c.args.script.now in
    rw (p.1, p.2) (stopped_wider c.in_err-metas.field-0.0 told (λ files. MetamodelsStop files w s) (λ files. AnswerOver (last_over mode files w) files w s) _ _ (check_paths w) (check_paths w)
    (metamodels_stop mode told w s) (λ x. x) (λ path is. is) c.in_err-metas.ensures.err)

pub returns-clause-ok : goal.returns-clause-ok
returns-clause-ok g c =
    let told = g.F.Vault.files c.args.vault.now in
    let w = request_view c.args.request.now in
    let mode = c.args.mode in
    let s = c.args.script.now in
    let metas = c.in_ok-metas.metas in
    ok_wider c.execute_models.result told (λ files. AnswerWith (last_over mode files w) files w s metas) (λ files. AnswerOver (last_over mode files w) files w s)
    (metamodels_go_on mode told w s metas c.in_ok-metas.ensures.ok)
    (subst (λ t. IfOk c.execute_models.result (λ o. IfSome t (λ files. AnswerWith (last_over mode files w) files w s metas (reply_of o)))) c.in_ok-metas.ensures.files c.execute_models.ensures.ok)

pub returns-clause-err : goal.returns-clause-err
returns-clause-err g c =
    let told = g.F.Vault.files c.args.vault.now in
    let before = g.F.Vault.faults c.args.vault.now in
    let mid = g.F.Vault.faults c.read_metamodels.new.vault in
    let after = g.F.Vault.faults c.execute_models.new.vault in
    let w = request_view c.args.request.now in
    let mode = c.args.mode in
    let s = c.args.script.now in
    let metas = c.in_ok-metas.metas in
    err_wider c.execute_models.result told (λ files. AnswerWith (last_over mode files w) files w s metas) (λ files. AnswerOver (last_over mode files w) files w s) (Rose mid after) (Rose before after) (check_paths w)
    (metamodels_go_on mode told w s metas c.in_ok-metas.ensures.ok) (rose_from before mid after c.in_ok-metas.ensures.faults)
    (subst (λ t. IfErr c.execute_models.result (λ stop. StoppedBy stop t (λ files. AnswerWith (last_over mode files w) files w s metas) (Rose mid after) (check_paths w)))
    c.in_ok-metas.ensures.files c.execute_models.ensures.err)
