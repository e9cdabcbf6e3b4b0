use Rattle.xmi_profile.proofs.filed_laws.FileableLaws.{objects_fileable, objects_are_filed}
use Rattle.xmi_profile.proofs.filed_objects.read_filed.Goals as goal

pub filed_of-requires : goal.filed_of-requires
filed_of-requires c = objects_fileable c.args.profile.now.meta.now c.args.profile.now.outside c.args.bytes.now c.in-Ok.objects c.in-Ok.ensures

pub returns-in_ok-filed_of-in-Ok : goal.returns-in_ok-filed_of-in-Ok
returns-in_ok-filed_of-in-Ok c =
    objects_are_filed c.args.profile.now.meta.now c.args.profile.now.outside c.args.bytes.now c.in-Ok.objects c.in-Ok.ensures c.in_ok-filed_of-in-Ok.field-0
    c.in_ok-filed_of-in-Ok.ensures
