use Rattle.std.proofs.Common.{◌≡◌, ◌<◌, ℕ, length, get_or, sym, subst, arith}
use Rattle.enforcement_rules.specs.Edges.{Edge}
use Rattle.enforcement_rules.proofs.EdgeLaws.{one_put}
use Rattle.enforcement_rules.proofs.ListLaws.{at_place}
use Rattle.enforcement_rules.proofs.edges.put_edges.Goals as goal

pub put_edge-requires : goal.put_edge-requires
put_edge-requires c =
    let kept : length c.loop-edge.rows ≡ length c.args.rows.now = c.loop-edge.auto.rows in
    let e : Edge = get_or c.args.edges.now c.loop-edge.edge-index (0, 0) in
    subst (λ (n : ℕ). e.0 < n) (sym kept) (c.requires e (at_place c.args.edges.now c.loop-edge.edge-index (0, 0) (omega arith)))

pub loop-edge-preserved : goal.loop-edge-preserved
loop-edge-preserved c =
    one_put c.args.edges.now c.loop-edge.edge-index (0, 0) c.loop-edge.rows c.args.rows.now c.put_edge.new.rows (omega arith) c.loop-edge.invariant c.in_ok-put_edge.ensures
