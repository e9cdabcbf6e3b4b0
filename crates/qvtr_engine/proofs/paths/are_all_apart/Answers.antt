use Rattle.qvtr_engine.proofs.PathLaws.{apart_of_set, none_apart}
use Rattle.qvtr_engine.proofs.RequestLaws.{texts_in}
use Rattle.qvtr_engine.proofs.paths.are_all_apart.Goals as goal

pub returns-in-Some : goal.returns-in-Some
returns-in-Some c =
    apart_of_set (texts_in c.args.paths.now) c.is_none_new-apart.result c.in_ok-set.field-0 c.in-Some.set c.in_ok-set.ensures.distinct c.in-Some.is c.is_none_new-apart.ensures

pub returns-in-None : goal.returns-in-None
returns-in-None c = none_apart (texts_in c.args.paths.now) c.in_ok-set.field-0 c.in_ok-set.ensures.distinct c.in-None.is
