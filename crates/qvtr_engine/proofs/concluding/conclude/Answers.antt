use Rattle.std.proofs.Common.{refl, subst}
use Rattle.vault_io.specs.Counts.{Rose}
use Rattle.qvtr_engine.specs.Concluding.{MendedEnds}
use Rattle.qvtr_engine.proofs.LastStepLaws.{unput_ended}
use Rattle.qvtr_engine.proofs.concluding.conclude.Goals as goal

pub returns-in-Mended-clause-ends : goal.returns-in-Mended-clause-ends
returns-in-Mended-clause-ends g c =
    let vault = c.args.vault.now in
    let vault_after = c.put_mended.new.vault in
    let out = c.args.out.now in
    let out_after = c.put_mended.new.out in
    let vault_faulted = Rose (g.F.Vault.faults vault) (g.F.Vault.faults vault_after) in
    let sink_faulted = Rose (g.K.Sink.faults out) (g.K.Sink.faults out_after) in
    rw c.in-Mended.is (subst
    (λ bytes. MendedEnds (g.F.Vault.files vault) c.in-Mended.path.now bytes c.in-Mended.report vault_faulted sink_faulted (g.K.Sink.told out) (g.K.Sink.told out_after) (g.F.Vault.files vault_after) c.put_mended.result)
    c.as_slice.ensures c.put_mended.ensures.ends)

pub returns-in_default-clause-ends : goal.returns-in_default-clause-ends
returns-in_default-clause-ends g c =
    let vault = c.args.vault.now in
    let out = c.args.out.now in
    let out_after = c.report_outcome.new.out in
    let vault_faulted = Rose (g.F.Vault.faults vault) (g.F.Vault.faults vault) in
    let sink_faulted = Rose (g.K.Sink.faults out) (g.K.Sink.faults out_after) in
    unput_ended (g.F.Vault.files vault) c.args.outcome.now vault_faulted sink_faulted (g.K.Sink.told out) (g.K.Sink.told out_after) (g.F.Vault.files vault) c.report_outcome.result c.in_default.not-Mended
    (record { kept = refl; reported = c.report_outcome.ensures.ends })
