use Rattle.std.proofs.Common.{subst}
use Rattle.vault_io.specs.Counts.{Rose}
use Rattle.qvtr_engine.specs.ConvertView.{convert_view}
use Rattle.qvtr_engine.specs.CommandEnds.{stopped}
use Rattle.qvtr_engine.specs.Putting.{PutEnds}
use Rattle.qvtr_engine.specs.Reply.{done_text}
use Rattle.qvtr_engine.proofs.ConvertingLaws.{put_ended}
use Rattle.qvtr_engine.proofs.StopLaws.{rose_from}
use Rattle.qvtr_engine.proofs.converting.convert.Goals as goal

pub returns-in-Ok-clause-ends : goal.returns-in-Ok-clause-ends
returns-in-Ok-clause-ends g c =
    let told = g.F.Vault.files c.args.vault.now in
    let before = g.F.Vault.faults c.args.vault.now in
    let mid = g.F.Vault.faults c.prepare.new.vault in
    let after = g.F.Vault.faults c.put.new.vault in
    let out = c.args.out.now in
    let out_after = c.put.new.out in
    let words = convert_view c.args.request.now in
    let faulted = Rose (g.K.Sink.faults out) (g.K.Sink.faults out_after) in
    put_ended told words c.in-Ok.conversion (Rose mid after) (Rose before after) faulted (g.K.Sink.told out) (g.K.Sink.told out_after) (g.F.Vault.files c.put.new.vault) c.put.result
    c.in-Ok.ensures.ok c.in-Ok.ensures.failure (rose_from before mid after c.in-Ok.ensures.faults)
    (subst (λ t. PutEnds t words.output c.in-Ok.conversion.text done_text c.in-Ok.conversion.failure (Rose mid after) faulted (g.K.Sink.told out) (g.K.Sink.told out_after) (g.F.Vault.files c.put.new.vault) c.put.result)
    c.in-Ok.ensures.files (rw (c.as_slice.ensures, c.as_slice-in-Ok.ensures) at c.put.ensures.ends))

pub returns-in-Err-clause-ends : goal.returns-in-Err-clause-ends
returns-in-Err-clause-ends g c = stopped c.in-Err.stop c.in-Err.ensures.err c.in-Err.ensures.files c.report_stop.ensures.ends
