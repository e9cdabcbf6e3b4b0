use Rattle.model_files.specs.JsonSteps.{met_ids}
use Rattle.model_files.proofs.JsonStepLaws.{named_some, on_ok, some_values}
use Rattle.model_files.proofs.json_filed.add_named.Goals as goal

pub returns : goal.returns
returns c =
    on_ok c.add_references.result _ _
    (named_some (met_ids c.args.ids.now) c.args.slot c.args.values.now c.args.filed.now c.add_references.new.references
    (some_values c.args.values.now c.is_empty.result c.is_empty.ensures c.if-is_empty.false))
    c.add_references.ensures
