use Rattle.std.proofs.Common.{sym, subst, [], refl, ap, ◌∙◌, Some}
use Rattle.std.specs.Prelude.{All}
use Rattle.std.proofs.lemmas.List.Elements.{All-push}
use Rattle.ocl_environments.specs.Meanings.{IsParallel}
use Rattle.ocl_environments.proofs.MeaningLemmas.{no_value}
use Rattle.ocl_environments.proofs.ClassifierIndexLemmas.{own_more, number_of_new, long_more, index_same}
use Rattle.ocl_environments.proofs.classifier_index.ClassifierIndex.new_table.Goals as goal

pub put-requires : goal.put-requires
put-requires c = no_value c.args.self.now.metas ([], tt) c.args.name.now c.in_ok-name.name c.in_ok-name.ensures (sym c.requires.absent)

pub returns-clause-index : goal.returns-clause-index
returns-clause-index c = record {
  all = c.requires.index.all;
  own = subst (All IsParallel) (sym c.in_ok-push.ensures.items) (All-push IsParallel _ _ c.requires.index.own c.new.ensures.parallel);
  long = long_more _ _ _ _ _ _ c.requires.index.long c.in_ok-push.ensures.items c.in_ok-put.ensures.ok;
}

pub returns-clause-place : goal.returns-clause-place
returns-clause-place c =
    number_of_new _ _ _ _ _ c.requires.absent c.in_ok-name.ensures c.in_ok-put.ensures.ok ∙ ap Some (sym c.len-i.ensures)

pub returns-clause-same : goal.returns-clause-same
returns-clause-same c =
    index_same c.args.self.now (record { all = c.args.self.now.all; metas = c.put.new.self; own = c.push.new.self }) refl
    (own_more _ _ _ _ c.new.result c.args.name.now _ c.requires.index.long (sym c.requires.absent) c.in_ok-name.ensures c.in_ok-put.ensures.ok c.in_ok-push.ensures.items c.new.ensures.empty)
