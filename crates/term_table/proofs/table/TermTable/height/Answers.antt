-- What is kept at the number is the term there.
use Rattle.std.specs.Prelude.{length}
use Rattle.std.proofs.Common.{ap, ◌∙◌, refl, arith}
use Rattle.std.proofs.lemmas.Option.{slice_get_read}
use Rattle.repair_semantics.specs.Terms.{height}
use Rattle.term_table.specs.TermTables.{term_at}
use Rattle.term_table.proofs.KeptLaws.{length_trees}
use Rattle.term_table.proofs.table.TermTable.height.Goals as goal

pub index-requires : goal.index-requires
index-requires c = omega (arith, ap length c.self.view_is, length_trees c.self.inside.kept.items, c.requires)

pub returns : goal.returns
returns c =
    let kept = c.self.inside.kept.items in
    c.self.invariant.heights c.args.number c.index.result.now
    (slice_get_read kept (length kept) c.args.number c.index.result.now refl (omega (arith, ap length c.self.view_is, length_trees kept, c.requires)) c.index.ensures)
    ∙ ap (λ ts. height (term_at ts c.args.number)) c.self.view_is
