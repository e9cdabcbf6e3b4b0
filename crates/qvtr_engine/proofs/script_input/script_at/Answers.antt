use Rattle.std.proofs.Common.{sym, subst}
use Rattle.std.specs.Prelude.{IfSome}
use Rattle.std.proofs.lemmas.Result.{IfOk-weaker}
use Rattle.qvtr_engine.specs.ScriptFile.{HasShortScript}
use Rattle.qvtr_engine.proofs.ScriptInputLaws.{script_ok, script_err}
use Rattle.qvtr_engine.proofs.script_input.script_at.Goals as goal

pub returns-clause-ok : goal.returns-clause-ok
returns-clause-ok g c =
    let told = g.F.Vault.files c.args.vault.now in
    script_ok c.script_in.result told c.args.path.now c.as_slice.result.now
    (subst (λ b. IfSome told (λ files. HasShortScript files c.args.path.now b)) (sym c.as_slice.ensures) c.in_ok-bytes.ensures.ok) c.script_in.ensures.ok

pub returns-clause-spelled : goal.returns-clause-spelled
returns-clause-spelled g c = IfOk-weaker c.script_in.result _ _ (λ script h. (c.as_slice.result.now, h)) c.script_in.ensures.ok

pub returns-clause-err : goal.returns-clause-err
returns-clause-err g c =
    let told = g.F.Vault.files c.args.vault.now in
    script_err c.script_in.result told c.args.path.now c.as_slice.result.now _ _
    (subst (λ b. IfSome told (λ files. HasShortScript files c.args.path.now b)) (sym c.as_slice.ensures) c.in_ok-bytes.ensures.ok) c.script_in.ensures.err
