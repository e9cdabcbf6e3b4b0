use Rattle.std.proofs.Common.{◌≡◌}
use Rattle.serde_json.specs.View.{members_view}
use Rattle.model_files.specs.Shape.{amiss_in, model_members}
use Rattle.model_files.specs.ShapeSteps.{model_from}
use Rattle.model_files.proofs.shape.amiss_model_members.Given as goal

abbrev pub invariant-loop-name : goal.invariant-loop-name
invariant-loop-name l = amiss_in l.path (model_from l.wanted) (members_view l.name-iterator) ≡ amiss_in l.path model_members (members_view l.members.entries)
