use Rattle.std.proofs.Common.{◌∙◌, sym, ap}
use Rattle.std.specs.List.{list_any}
use Rattle.mof_metamodel.specs.Characters.{same_name}
use Rattle.serde_json.specs.View.{view}
use Rattle.model_files.specs.JsonSteps.{met_ids}
use Rattle.model_files.proofs.JsonFaultLaws.{id_is, met_by_name}
use Rattle.model_files.proofs.json_faults.add_id.Goals as goal

pub put-requires : goal.put-requires
put-requires c =
    met_by_name c.args.ids.now c.in_ok-id.id
    ∙ ap (λ id. list_any (same_name id) (met_ids c.args.ids.now)) (c.in_ok-id.ensures.characters ∙ c.member_text.ensures ∙ sym (id_is (view c.args.value.now)))
    ∙ c.requires
