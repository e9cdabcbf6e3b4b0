use Rattle.std.proofs.Common.{subst}
use Rattle.std.specs.Prelude.{IfOk, IfErr, IfSome}
use Rattle.std.proofs.lemmas.Result.{err_from_is_err_and}
use Rattle.vault_io.specs.Counts.{Rose}
use Rattle.qvtr_engine.specs.CheckWords.{check_paths}
use Rattle.qvtr_engine.specs.CheckedNames.{NamesStop}
use Rattle.qvtr_engine.specs.ExecutionAnswer.{ExecutionAnswer, last_over}
use Rattle.qvtr_engine.specs.Outcome.{reply_of}
use Rattle.qvtr_engine.specs.RequestView.{request_view}
use Rattle.qvtr_engine.specs.ScriptFile.{ScriptStops}
use Rattle.qvtr_engine.specs.StepsAnswer.{AnswerOver}
use Rattle.qvtr_engine.specs.Stops.{StoppedBy}
use Rattle.qvtr_engine.proofs.ExecutingLaws.{ok_wider, err_wider, script_stops, names_stop, names_go_on}
use Rattle.qvtr_engine.proofs.StopLaws.{rose_from, stopped_wider, on_stop_stopped, among_front}
use Rattle.qvtr_engine.proofs.executing.execute.Goals as goal

pub returns-in_err-script-clause-err : goal.returns-in_err-script-clause-err
returns-in_err-script-clause-err g c =
    let p = err_from_is_err_and c.from_residual.result c.from_residual.ensures.1 in
    let told = g.F.Vault.files c.args.vault.now in
    let w = request_view c.args.request.now in
    let mode = c.args.mode in
    rw (p.1, p.2) (stopped_wider c.in_err-script.field-0.0 told (λ files. ScriptStops files w.script) (λ files. ExecutionAnswer mode files w) _ _ _ (check_paths w)
    (script_stops mode told w) (λ x. x) (λ path is. among_front w.script _ path is) c.in_err-script.ensures.err)

pub returns-in_err-fit_names-clause-err : goal.returns-in_err-fit_names-clause-err
returns-in_err-fit_names-clause-err g c =
    let p = err_from_is_err_and c.from_residual-in_err-fit_names.result c.from_residual-in_err-fit_names.ensures.1 in
    let told = g.F.Vault.files c.args.vault.now in
    let w = request_view c.args.request.now in
    let mode = c.args.mode in
    rw (p.1, p.2) (on_stop_stopped c.in_err-fit_names.field-0.0 told (NamesStop w c.in_ok-script.script) (λ files. ExecutionAnswer mode files w) _ (check_paths w)
    (names_stop mode told w c.in_ok-script.script c.in_ok-script.ensures.ok) c.in_err-fit_names.ensures.err)

pub returns-clause-ok : goal.returns-clause-ok
returns-clause-ok g c =
    let told = g.F.Vault.files c.args.vault.now in
    let w = request_view c.args.request.now in
    let mode = c.args.mode in
    let s = c.in_ok-script.script in
    ok_wider c.execute_files.result told (λ files. AnswerOver (last_over mode files w) files w s) (λ files. ExecutionAnswer mode files w)
    (names_go_on mode told w s c.in_ok-script.ensures.ok c.in_ok-fit_names.ensures.ok)
    (subst (λ t. IfOk c.execute_files.result (λ o. IfSome t (λ files. AnswerOver (last_over mode files w) files w s (reply_of o)))) c.in_ok-script.ensures.files c.execute_files.ensures.ok)

pub returns-clause-err : goal.returns-clause-err
returns-clause-err g c =
    let told = g.F.Vault.files c.args.vault.now in
    let before = g.F.Vault.faults c.args.vault.now in
    let mid = g.F.Vault.faults c.script_at.new.vault in
    let after = g.F.Vault.faults c.execute_files.new.vault in
    let w = request_view c.args.request.now in
    let mode = c.args.mode in
    let s = c.in_ok-script.script in
    err_wider c.execute_files.result told (λ files. AnswerOver (last_over mode files w) files w s) (λ files. ExecutionAnswer mode files w) (Rose mid after) (Rose before after) (check_paths w)
    (names_go_on mode told w s c.in_ok-script.ensures.ok c.in_ok-fit_names.ensures.ok) (rose_from before mid after c.in_ok-script.ensures.faults)
    (subst (λ t. IfErr c.execute_files.result (λ stop. StoppedBy stop t (λ files. AnswerOver (last_over mode files w) files w s) (Rose mid after) (check_paths w)))
    c.in_ok-script.ensures.files c.execute_files.ensures.err)
