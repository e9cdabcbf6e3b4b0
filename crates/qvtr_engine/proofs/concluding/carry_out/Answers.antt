use Rattle.std.proofs.Common.{subst}
use Rattle.vault_io.specs.Counts.{Rose}
use Rattle.qvtr_engine.specs.CommandEnds.{stopped}
use Rattle.qvtr_engine.specs.Concluding.{OutcomeEnds}
use Rattle.qvtr_engine.specs.RequestView.{request_view}
use Rattle.qvtr_engine.proofs.LastStepLaws.{execution_ended}
use Rattle.qvtr_engine.proofs.StopLaws.{rose_from}
use Rattle.qvtr_engine.proofs.concluding.carry_out.Goals as goal

pub returns-in-Ok-clause-ends : goal.returns-in-Ok-clause-ends
returns-in-Ok-clause-ends g c =
    let told = g.F.Vault.files c.args.vault.now in
    let before = g.F.Vault.faults c.args.vault.now in
    let mid = g.F.Vault.faults c.execute.new.vault in
    let after = g.F.Vault.faults c.conclude.new.vault in
    let out = c.args.out.now in
    let out_after = c.conclude.new.out in
    let w = request_view c.args.request.now in
    let o = c.in-Ok.outcome in
    let faulted = Rose (g.K.Sink.faults out) (g.K.Sink.faults out_after) in
    execution_ended told c.args.mode w o (Rose mid after) (Rose before after) faulted (g.K.Sink.told out) (g.K.Sink.told out_after) (g.F.Vault.files c.conclude.new.vault) c.conclude.result
    c.in-Ok.ensures.ok c.in-Ok.ensures.mended (rose_from before mid after c.in-Ok.ensures.faults)
    (subst (λ t. OutcomeEnds t o (Rose mid after) faulted (g.K.Sink.told out) (g.K.Sink.told out_after) (g.F.Vault.files c.conclude.new.vault) c.conclude.result)
    c.in-Ok.ensures.files c.conclude.ensures.ends)

pub returns-in-Err-clause-ends : goal.returns-in-Err-clause-ends
returns-in-Err-clause-ends g c = stopped c.in-Err.stop c.in-Err.ensures.err c.in-Err.ensures.files c.report_stop.ensures.ends
