use Rattle.ocl_environments.proofs.ClassifierIndexLemmas.{empty_index, empty_tables}
use Rattle.ocl_environments.proofs.classifier_index.ClassifierIndex.new.Goals as goal

pub returns : goal.returns
returns c =
    empty_index (record { all = c.new.result; metas = c.new-2.result; own = c.new-3.result }) (empty_tables (record { all = c.new.result; metas = c.new-2.result; own = c.new-3.result }) c.new.ensures.parallel c.new-3.ensures.items c.new-2.ensures) c.new.ensures.empty c.new-2.ensures
