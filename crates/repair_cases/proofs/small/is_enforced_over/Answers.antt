use Rattle.std.specs.Prelude.{◌<◌, All}
use Rattle.std.proofs.Common.{subst}
use Rattle.std.proofs.lemmas.Bool.{ltb-true}
use Rattle.repair_cases.specs.Small.{IsSmall}
use Rattle.repair_cases.proofs.InputLaws.{can_be_enforced}
use Rattle.repair_cases.proofs.small.is_enforced_over.Goals as goal

pub returns : goal.returns
returns c = λ metas evaluable enforceable rels within.
    can_be_enforced metas c.args.program.now c.args.models.now evaluable enforceable
    (subst (λ n. c.args.program.now.target < n) c.len.ensures (ltb-true c.args.program.now.target c.len.result within)) rels
    (subst (All IsSmall) c.as_slice.ensures (c.is_small.ensures c.if-not-is_small.false))
