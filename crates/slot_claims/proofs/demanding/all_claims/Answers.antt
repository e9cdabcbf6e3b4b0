use Rattle.std.specs.Prelude.{◌++◌}
use Rattle.std.proofs.Common.{◌∙◌, ap, sym, arith}
use Rattle.slot_claims.specs.DemandClaims.{demand_claims}
use Rattle.slot_claims.proofs.DemandLaws.{claims_more}
use Rattle.slot_claims.proofs.demanding.all_claims.Goals as goal

pub loop-demand-preserved : goal.loop-demand-preserved
loop-demand-preserved c =
    let meta = c.args.meta.now in
    let numbers = c.args.numbers.now in
    let demand = c.demand-item.result in
    c.in_ok-add_demand.ensures ∙ ap (λ cs. cs ++ demand_claims meta numbers demand) c.loop-demand.invariant
    ∙ sym (claims_more meta numbers c.args.demands.now c.loop-demand.demand-index demand (omega arith) c.demand-item.is)
