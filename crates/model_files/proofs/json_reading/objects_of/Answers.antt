use Rattle.std.proofs.Common.{◌∙◌, map, sym, ap}
use Rattle.serde_json.specs.View.{view}
use Rattle.model_files.specs.JsonContent.{written_of, list_at}
use Rattle.model_files.proofs.JsonReadingLaws.{objects_listed, items_viewed, written_items}
use Rattle.model_files.proofs.json_reading.objects_of.Goals as goal

pub returns-in-Some : goal.returns-in-Some
returns-in-Some c =
    written_items c.in_list.result.now ∙ ap (map written_of) (sym (items_viewed c.in_list.result.now) ∙ c.in_list.ensures ∙ ap list_at c.in-Some.ensures) ∙ sym (objects_listed (view c.args.value.now))
