use Rattle.std.proofs.Common.{sym}
use Rattle.ocl_eval.proofs.ClassLaws.{gone_class}
use Rattle.staying_objects.proofs.FateLaws.{gone_unmanaged}
use Rattle.staying_objects.proofs.fates.is_managed.Goals as goal

pub returns-then-not-is_live : goal.returns-then-not-is_live
returns-then-not-is_live c =
    sym (gone_unmanaged c.args.repair.now c.args.o.0
    (gone_class c.args.repair.now.target.now c.args.o.0 c.is_live.result c.is_live.ensures c.if-not-is_live.true))
