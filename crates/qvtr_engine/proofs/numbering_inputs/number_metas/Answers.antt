use Rattle.std.proofs.Common.{[], ◌∷◌, ◌++◌, sym, ◌∙◌, ap}
use Rattle.ocl_environments.specs.Environments.{no_meta}
use Rattle.qvtr_engine.proofs.NumberingLaws.{still_named, remains_more, numbered_more, not_missing}
use Rattle.qvtr_engine.proofs.RequestLaws.{item_at}
use Rattle.qvtr_engine.proofs.numbering_inputs.number_metas.Goals as goal

pub unreachable-requires : goal.unreachable-requires
unreachable-requires c =
    not_missing c.args.found.items c.loop-name.found.items c.args.names.now c.loop-name.name-index c.name-item.result c.requires.distinct
    (item_at c.args.names.now c.loop-name.name-index c.name-item.result c.loop-name-test.true c.name-item.is)
    c.loop-name.invariant.rest c.requires.each (sym c.take_named.ensures.item ∙ c.in-None.is)

pub loop-name-preserved : goal.loop-name-preserved
loop-name-preserved c =
    let at = item_at c.args.names.now c.loop-name.name-index c.name-item.result c.loop-name-test.true c.name-item.is in
    let still = still_named c.args.found.items c.loop-name.found.items c.args.names.now c.loop-name.name-index c.name-item.result c.requires.distinct at c.loop-name.invariant.rest in
    record {
      numbered = c.in_ok-push-in-Some.ensures.ok ∙ ap (λ xs. xs ++ c.in-Some.meta ∷ []) c.loop-name.invariant.numbered
          ∙ numbered_more no_meta c.args.found.items c.args.names.now c.loop-name.name-index c.name-item.result c.in-Some.meta at
          (sym still ∙ sym c.take_named.ensures.item ∙ c.in-Some.is);
      rest = remains_more c.args.found.items c.loop-name.found.items c.take_named.new.found.items c.args.names.now c.loop-name.name-index c.name-item.result at
          c.loop-name.invariant.rest c.take_named.ensures.others;
    }
