use Rattle.std.proofs.Common.{sym, subst, Err}
use Rattle.xmi_profile.specs.declared.fault.XmiError.{XmiError}
use Rattle.xmi_profile.specs.Known.{ReadsObjects}
use Rattle.xmi_profile.proofs.filed_laws.ObjectLaws.{reads_judged, reads_text}
use Rattle.xmi_profile.proofs.objects.read_objects.Goals as goal

pub returns-in-Ok : goal.returns-in-Ok
returns-in-Ok c =
    reads_judged c.args.profile.now.meta.now c.args.profile.now.outside c.args.bytes.now c.in-Ok.listing c.in-Ok.ensures.gives c.in-Ok.ensures.known
    c.with_numbers.result c.with_numbers.ensures

pub returns-in-Err : goal.returns-in-Err
returns-in-Err c =
    subst (λ (e : XmiError). ReadsObjects c.args.profile.now.meta.now c.args.profile.now.outside c.args.bytes.now (Err e)) (sym c.from.ensures)
    (reads_text c.args.profile.now.meta.now c.args.profile.now.outside c.args.bytes.now c.in-Err.error c.in-Err.ensures.gives)
