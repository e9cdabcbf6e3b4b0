use Rattle.std.proofs.Common.{◌≡◌, drop, map}
use Rattle.serde_json.specs.View.{view}
use Rattle.model_files.specs.JsonContent.{written_of, wrong_from, first_wrong}
use Rattle.model_files.specs.JsonSteps.{met_ids}
use Rattle.model_files.proofs.json_faults.first_wrong.Given as goal

abbrev pub invariant-loop-number : goal.invariant-loop-number
invariant-loop-number l =
    wrong_from l.meta (met_ids l.ids) l.number (map (λ v. written_of (view v)) (drop l.number l.values))
    ≡ first_wrong l.meta (map (λ v. written_of (view v)) l.values)
