use Rattle.std.proofs.Common.{refl, arith}
use Rattle.std.specs.Vec.{with_item}
use Rattle.ocl_environments.proofs.MeaningLemmas.{on_ok, number_within}
use Rattle.ocl_environments.proofs.ClassifierIndexLemmas.{index_added}
use Rattle.ocl_environments.proofs.classifier_index.ClassifierIndex.add_meta.Goals as goal

pub returns-clause-added : goal.returns-clause-added
returns-clause-added c =
    on_ok c.add_classifiers-2.result _ _
    (index_added c.args.self.now c.own_table.new.self
    (record { all = c.add_classifiers-2.new.table; metas = c.own_table.new.self.metas; own = with_item c.own_table.new.self.own c.in_ok-i.i c.add_classifiers.new.table })
    c.in_ok-i.i c.index_mut.result.now c.add_classifiers.new.table c.args.name.now c.args.m c.args.meta.now c.in_ok-i.ensures.same
    (let within = number_within c.own_table.new.self.metas c.args.name.now c.in_ok-i.i c.in_ok-i.ensures.place in omega (arith, within, c.in_ok-i.ensures.index.long))
    c.in_ok-i.ensures.place c.index_mut.ensures.value c.in_ok-add_classifiers.ensures.added refl refl)
    c.add_classifiers-2.ensures.added
