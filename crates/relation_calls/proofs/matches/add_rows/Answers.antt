use Rattle.std.proofs.Common.{ℕ, ◌<◌, ◌+◌, arith, length}
use Rattle.relation_calls.specs.Tables.{HasRow}
use Rattle.relation_calls.proofs.TableLaws.{row_stays, more_have}
use Rattle.relation_calls.proofs.matches.add_rows.Goals as goal

pub loop-g-preserved : goal.loop-g-preserved
loop-g-preserved c =
    let i : ℕ = c.loop-g.g-index in
    let within : i < length c.args.gs.now = omega arith in
    record {
      kept = λ row has. c.in_ok-add_row.ensures.kept row (c.loop-g.invariant.kept row has);
      added = more_have (HasRow c.args.domains.now) (row_stays c.args.domains.now) c.args.gs.now i c.g-item.result within c.g-item.is (i + 1) (omega arith) c.loop-g.rows _
          c.in_ok-add_row.ensures.kept c.loop-g.invariant.added (c.in_ok-add_row.ensures.added c.if-not-branch.false);
    }
