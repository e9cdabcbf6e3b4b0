use Rattle.xmi_profile.proofs.written.Ordering.{order_all_once, order_live, order_has}
use Rattle.xmi_profile.proofs.writing_laws.objects_are_written_once.Goals as goal

pub returns-clause-once : goal.returns-clause-once
returns-clause-once c m v = order_all_once m v.kept v.acyclic

pub returns-clause-live : goal.returns-clause-live
returns-clause-live c m o v h = order_live m v.kept o h

pub returns-clause-all : goal.returns-clause-all
returns-clause-all c m o v shallow live = order_has m v.kept v.acyclic shallow o live
