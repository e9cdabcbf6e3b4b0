-- The terms that are looked at stand as the two that were asked for.
use Rattle.std.proofs.Common.{sym, ap, ◌∙◌}
use Rattle.repair_semantics.specs.Terms.{term_order}
use Rattle.term_table.specs.TermTables.{term_at}
use Rattle.term_table.specs.Kept.{trees}
use Rattle.term_table.specs.Compared.{order_in}
use Rattle.term_table.proofs.ComparedLaws.{tie_itself, terms_law, terms_smaller}
use Rattle.term_table.proofs.comparing.order_of.Goals as goal

pub returns-in-Decided : goal.returns-in-Decided
returns-in-Decided c =
    ap (order_in (trees c.args.kept.now)) c.in-Decided.ensures ∙ terms_law c.args.kept.now c.loop-one.one c.loop-one.other c.requires.grounded c.requires.distinct ∙ c.loop-one.invariant

pub loop-one-smaller : goal.loop-one-smaller
loop-one-smaller c = terms_smaller c.args.kept.now c.loop-one.one c.loop-one.other c.in-As.m c.in-As.n c.requires.grounded (sym c.in-As.ensures)

pub loop-one-preserved : goal.loop-one-preserved
loop-one-preserved c =
    ap (order_in (trees c.args.kept.now)) c.in-As.ensures ∙ terms_law c.args.kept.now c.loop-one.one c.loop-one.other c.requires.grounded c.requires.distinct ∙ c.loop-one.invariant

pub returns : goal.returns
returns c =
    sym (tie_itself (term_at (trees c.args.kept.now) c.loop-one.one))
    ∙ ap (λ n. term_order (term_at (trees c.args.kept.now) c.loop-one.one) (term_at (trees c.args.kept.now) n)) c.loop-one-test.false
    ∙ c.loop-one.invariant
