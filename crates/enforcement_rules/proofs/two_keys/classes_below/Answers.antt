use Rattle.std.proofs.Common.{List, sym, subst}
use Rattle.enforcement_rules.specs.Edges.{Edge, BeginWithin, HasEdges}
use Rattle.enforcement_rules.specs.TwoKeys.{AreBelow}
use Rattle.enforcement_rules.proofs.ListLaws.{if_ok}
use Rattle.enforcement_rules.proofs.TwoKeyLaws.{below_begins, below_are}
use Rattle.enforcement_rules.proofs.two_keys.classes_below.Goals as goal

pub rows_of-requires : goal.rows_of-requires
rows_of-requires c =
    subst (BeginWithin c.class_count-count.result) (sym c.as_slice.ensures) (below_begins c.args.meta.now c.class_count-count.result c.in_ok-edges.edges c.class_count-count.ensures.count c.in_ok-edges.ensures)

pub returns : goal.returns
returns c =
    if_ok c.rows_of.result (λ rows. HasEdges c.class_count-count.result c.as_slice.result.now rows.items) (λ below. AreBelow c.args.meta.now below.items)
    (λ rows h. below_are c.args.meta.now c.class_count-count.result c.in_ok-edges.edges c.class_count-count.ensures.count c.in_ok-edges.ensures rows.items
    (subst (λ (es : List Edge). HasEdges c.class_count-count.result es rows.items) c.as_slice.ensures h))
    c.rows_of.ensures
