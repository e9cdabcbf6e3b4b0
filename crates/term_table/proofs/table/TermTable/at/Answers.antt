-- What is kept at the number is the term there.
use Rattle.std.specs.Prelude.{◌≡◌, List, map, length}
use Rattle.std.proofs.Common.{ap, sym, subst, refl, arith}
use Rattle.std.proofs.lemmas.Option.{slice_get_read}
use Rattle.repair_semantics.specs.declared.term.Term.{Term}
use Rattle.term_table.specs.TermTables.{keyed, term_at, value_in}
use Rattle.term_table.proofs.KeptLaws.{length_trees, tree_is}
use Rattle.term_table.proofs.table.TermTable.at.Goals as goal

pub index-requires : goal.index-requires
index-requires c = omega (arith, ap length c.self.view_is, length_trees c.self.inside.kept.items, c.requires)

pub returns-clause-below : goal.returns-clause-below
returns-clause-below c =
    let kept = c.self.inside.kept.items in
    c.self.invariant.grounded c.args.number c.index.result.now
    (slice_get_read kept (length kept) c.args.number c.index.result.now refl (omega (arith, ap length c.self.view_is, length_trees kept, c.requires)) c.index.ensures)

pub returns-clause-term : goal.returns-clause-term
returns-clause-term c =
    let kept = c.self.inside.kept.items in
    let k = c.index.result.now in
    let P : List Term → Type 0 = λ ts. keyed k.term.class (map (value_in ts) k.term.keys) ≡ term_at ts c.args.number in
    subst P c.self.view_is
    (sym (tree_is kept c.args.number k c.self.invariant.grounded
    (slice_get_read kept (length kept) c.args.number k refl (omega (arith, ap length c.self.view_is, length_trees kept, c.requires)) c.index.ensures)))
