use Rattle.std.specs.Prelude.{◌<◌, length, map, All}
use Rattle.std.proofs.Common.{ap, sym, subst, ◌∙◌}
use Rattle.repair_semantics.specs.Terms.{term_order, each_once}
use Rattle.term_table.specs.TermTables.{term_at}
use Rattle.demand_set.proofs.ListingLaws.{terms_told, numbers_within}
use Rattle.demand_set.proofs.terms.demanded_numbers.Goals as goal

pub sorted-requires : goal.sorted-requires
sorted-requires c =
    subst (All (λ n. n < length c.args.table.now)) (sym c.in_ok-numbers.ensures) (numbers_within c.args.table.now c.args.demands.now c.requires)

pub returns-clause-terms : goal.returns-clause-terms
returns-clause-terms c =
    c.sorted.ensures.terms ∙ ap (λ ns. each_once term_order (map (term_at c.args.table.now) ns)) c.in_ok-numbers.ensures
    ∙ ap (each_once term_order) (terms_told c.args.table.now c.args.demands.now)
