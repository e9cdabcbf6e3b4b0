use Rattle.object_tables.proofs.ModelLemmas.{id_found, id_absent, live_from_id}
use Rattle.object_tables.proofs.model.Model.by_id.Goals as goal

pub returns-in-Some-clause-found : goal.returns-in-Some-clause-found
returns-in-Some-clause-found c = id_found _ _ _ _ _ c.self.view_is c.in-Some.ensures.found

pub returns-in-Some-clause-live : goal.returns-in-Some-clause-live
returns-in-Some-clause-live c = live_from_id c.args.self.now c.in-Some.o _ (id_found _ _ _ _ _ c.self.view_is c.in-Some.ensures.found)

pub returns-in-None-clause-none : goal.returns-in-None-clause-none
returns-in-None-clause-none c = λ o. id_absent _ _ _ _ o _ _ c.self.invariant.tied c.self.view_is c.utf8.id (c.in-None.ensures.none o)
