use Rattle.std.proofs.Common.{◌∙◌, arith}
use Rattle.ocl_environments.specs.ClassifierIndexes.{index_meaning}
use Rattle.ocl_environments.specs.Meanings.{found_as}
use Rattle.ocl_environments.proofs.FindLaws.{found-end}
use Rattle.ocl_environments.proofs.ClassifierIndexLemmas.{over_init, over_step}
use Rattle.ocl_environments.proofs.classifier_index.ClassifierIndex.over.Goals as goal

pub loop-m-init : goal.loop-m-init
loop-m-init c = (c.new-index.ensures.tables, over_init c.args.metas.now c.args.names.now c.new-index.result c.new-index.ensures)

pub loop-m-preserved : goal.loop-m-preserved
loop-m-preserved c = (
  c.in-Ok-or_drop.ensures.index,
  λ w q n.
      over_step c.loop-m.index c.add_meta.new.self c.args.metas.now c.args.names.now c.loop-m.m c.index-metas-m.result c.index-names-m.result (omega arith) (omega arith)
      c.index-metas-m.is c.index-names-m.is c.in-Ok-or_drop.ensures.added w q n ∙ c.loop-m.invariant.1 w q n,
)

pub returns : goal.returns
returns c = record {
  tables = c.loop-m.invariant.0;
  found = λ w q n. found-end w c.args.names.now q n (found_as w (index_meaning c.loop-m.index q n)) _ c.args.metas.now c.loop-m.m (omega arith) (c.loop-m.invariant.1 w q n);
}
