use Rattle.std.proofs.Common.{◌≡◌, ◌∙◌, length, arith, sym, subst}
use Rattle.enforcement_rules.specs.Edges.{HasEdges}
use Rattle.enforcement_rules.proofs.DerivationSteps.{written_over}
use Rattle.enforcement_rules.proofs.EdgeLaws.{edges_put, begun_within}
use Rattle.enforcement_rules.proofs.edges.rows_of.Goals as goal

pub put_edges-requires : goal.put_edges-requires
put_edges-requires c = begun_within c.args.count c.as_mut_slice.result.now c.args.edges.now (c.as_mut_slice.ensures.value ∙ c.in_ok-rows.ensures) c.requires

pub returns : goal.returns
returns c =
    let long : length c.as_mut_slice.result.now ≡ c.in_ok-rows.rows.len = c.as_mut_slice.ensures.len in
    let kept : length c.put_edges.new.rows ≡ length c.as_mut_slice.result.now = c.put_edges.auto.rows in
    let same : c.in_ok-rows.rows.len ≡ length c.put_edges.new.rows = omega (arith, long, kept) in
    subst (HasEdges c.args.count c.args.edges.now) (sym (written_over c.put_edges.new.rows _ c.in_ok-rows.rows.len same))
    (edges_put c.args.count c.as_mut_slice.result.now c.put_edges.new.rows c.args.edges.now (c.as_mut_slice.ensures.value ∙ c.in_ok-rows.ensures) c.in_ok-put_edges.ensures c.requires)
