use Rattle.std.proofs.Common.{◌≡◌, ◌<◌, ◌∙◌, List, length, ap, take, drop, arith, subst, sym, All}
use Rattle.std.proofs.lemmas.List.Elements.{All-drop}
use Rattle.mof_metamodel.specs.Tables.{IsPropOf}
use Rattle.repair_semantics.specs.declared.demand.Demand.{Demand}
use Rattle.demand_trace.specs.Naming.{world}
use Rattle.demand_trace.proofs.EntryLaws.{cut_more}
use Rattle.demand_trace.proofs.names.Names.entries.Goals as goal

pub loop-number-preserved : goal.loop-number-preserved
loop-number-preserved c =
    let left = c.loop-number.left.now in
    let below : c.loop-number.number < length c.args.entries.now = omega (arith, c.loop-number-test.true) in
    record {
      cut = cut_more (world c.args.self.now) c.args.demands.now c.args.entries.now c.loop-number.number left c.loop-number.traced c.loop-number.invariant.cut c.push.new.self
          c.index-entries-number.result c.split_at.result.0.now c.split_at.result.1.now c.in_ok-entry.field-0 below c.index-entries-number.is
          (c.split_at.ensures.front ∙ ap (λ n. take n left) c.own_count.ensures) (c.split_at.ensures.back ∙ ap (λ n. drop n left) c.own_count.ensures)
          c.in_ok-entry.ensures c.in_ok-push.ensures.ok;
      props = subst (λ (ds : List Demand). All (λ (d : Demand). IsPropOf c.args.self.now.target.now d.prop) ds) (sym c.split_at.ensures.back)
          (All-drop (λ (d : Demand). IsPropOf c.args.self.now.target.now d.prop) c.own_count.result left c.loop-number.invariant.props);
    }
