-- What is kept at a number is the term there.
use Rattle.std.proofs.Common.{ap, sym, ◌∙◌, map, slice_index_or}
use Rattle.std.proofs.lemmas.Option.{slice_get-get_or}
use Rattle.term_table.specs.declared.kept.Kept.{Kept}
use Rattle.term_table.specs.TermTables.{keyed, value_in}
use Rattle.term_table.specs.Kept.{trees}
use Rattle.term_table.proofs.KeptLaws.{tree_is}
use Rattle.term_table.proofs.trees.+tree.Goals as goal

pub tree_of-returns : goal.tree_of-returns
tree_of-returns t c =
    let kept = c.args.kept.now in
    let k : Kept = slice_index_or kept c.args.number c.index-kept-number.result in
    ap (keyed k.term.class) (c.in_ok-keys.ensures ∙ ap (map (value_in (trees kept))) c.as_slice.ensures)
    ∙ sym (tree_is kept c.args.number k c.requires.grounded (slice_get-get_or kept c.args.number c.index-kept-number.result c.requires.within))
