use Rattle.std.proofs.Common.{◌≡◌}
use Rattle.object_tables.specs.Models.{ModelData}
use Rattle.object_tables.proofs.SamenessLemmas.{same_as_equal}
use Rattle.repair_semantics.specs.Candidates.{candidate}
use Rattle.enforcement_laws.proofs.Repairing.{repair, of_demands, needed_by}
use Rattle.enforcement_laws.proofs.UnchangedReports.{equal_is_unchanged}
use Rattle.enforcement_laws.proofs.staying.satisfied_models_stay.Goals as goal

pub returns-clause-equal : goal.returns-clause-equal
returns-clause-equal c = λ metas program models m d can target valid are room sound satisfied needed.
    of_demands metas program models m d can target are (λ (made : ModelData). made ≡ m)
    (c.satisfied_targets_stay.ensures.equal metas program models m d.entries (repair metas program models m d can target are valid room sound) satisfied
    (needed_by metas program models m d can target are needed))

pub returns-clause-same : goal.returns-clause-same
returns-clause-same c = λ metas program models m d can target valid are room sound satisfied needed.
    same_as_equal m (candidate program m d.list) (returns-clause-equal c metas program models m d can target valid are room sound satisfied needed)

pub returns-clause-report : goal.returns-clause-report
returns-clause-report c = λ metas program models m d report can target valid are room sound satisfied needed is.
    equal_is_unchanged program m d.list report is room (returns-clause-equal c metas program models m d can target valid are room sound satisfied needed)
