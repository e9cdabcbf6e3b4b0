use Rattle.enforcement_laws.proofs.Repairing.{repair, again_for}
use Rattle.enforcement_laws.proofs.UnchangedReports.{equal_is_unchanged}
use Rattle.enforcement_laws.proofs.staying.made_models_stay.Goals as goal

pub returns-clause-equal : goal.returns-clause-equal
returns-clause-equal c = λ metas program models m d can target valid are room sound n same valid_there again are_again.
    again_for metas program models m d can target are (c.repairs_stay.ensures metas program models m d.entries (repair metas program models m d can target are valid room sound))
    n same valid_there again are_again

pub returns-clause-report : goal.returns-clause-report
returns-clause-report c = λ metas program models m d can target valid are room sound n same valid_there room_there again report are_again is.
    equal_is_unchanged program n again.list report is room_there
    (returns-clause-equal c metas program models m d can target valid are room sound n same valid_there again are_again)
