use Rattle.std.proofs.Common.{map}
use Rattle.serde_json.specs.View.{view}
use Rattle.model_files.specs.JsonContent.{written_of}
use Rattle.model_files.specs.JsonSteps.{met_ids}
use Rattle.model_files.proofs.JsonLinkLaws.{sound_from, new_ids, all_classed, few_ids, filed_from}
use Rattle.model_files.proofs.JsonTypedLaws.{all_typed, sound_filed}
use Rattle.model_files.proofs.json_filed.filed_of.Goals as goal

pub table_of-requires : goal.table_of-requires
table_of-requires c =
    let (bytes, h) = c.requires in
    new_ids c.args.meta.now (view c.args.value.now) c.objects_of-values.result.now
    (sound_from c.args.meta.now c.class_count.ensures.well bytes (view c.args.value.now) h) c.objects_of-values.ensures

pub classes_of-requires : goal.classes_of-requires
classes_of-requires c =
    let (bytes, h) = c.requires in
    all_classed c.args.meta.now (view c.args.value.now) c.objects_of-values.result.now
    (sound_from c.args.meta.now c.class_count.ensures.well bytes (view c.args.value.now) h) c.objects_of-values.ensures

pub add_objects-requires-clause-few : goal.add_objects-requires-clause-few
add_objects-requires-clause-few c =
    let (bytes, h) = c.requires in
    few_ids c.in_ok-ids.ids (view c.args.value.now) c.objects_of-values.result.now c.in_ok-ids.ensures c.objects_of-values.ensures h.fewer

pub add_objects-requires-clause-known : goal.add_objects-requires-clause-known
add_objects-requires-clause-known c =
    let (bytes, h) = c.requires in
    all_classed c.args.meta.now (view c.args.value.now) c.objects_of-values.result.now
    (sound_from c.args.meta.now c.class_count.ensures.well bytes (view c.args.value.now) h) c.objects_of-values.ensures

pub returns-4-clause-filed : goal.returns-4-clause-filed
returns-4-clause-filed c =
    let (bytes, h) = c.requires in
    filed_from c.args.meta.now (view c.args.value.now) c.objects_of-values.result.now c.in_ok-ids.ids
    (record { ids = c.in-Ok-or_drop.field-0; classes = c.in-Ok-or_drop-classes.field-0; values = c.new.result; references = c.new-2.result; mentions = c.new-3.result })
    c.add_objects.new.filed (sound_from c.args.meta.now c.class_count.ensures.well bytes (view c.args.value.now) h) c.objects_of-values.ensures c.in_ok-ids.ensures
    c.in-Ok-or_drop.ensures c.in-Ok-or_drop-classes.ensures c.new.ensures c.new-2.ensures c.new-3.ensures c.in-Ok-or_drop-2.ensures.filed c.in-Ok-or_drop-2.ensures.apart

pub returns-4-clause-sound : goal.returns-4-clause-sound
returns-4-clause-sound c =
    let (bytes, h) = c.requires in
    sound_filed c.args.meta.now (view c.args.value.now) _ (sound_from c.args.meta.now c.class_count.ensures.well bytes (view c.args.value.now) h)
    (filed_from c.args.meta.now (view c.args.value.now) c.objects_of-values.result.now c.in_ok-ids.ids
    (record { ids = c.in-Ok-or_drop.field-0; classes = c.in-Ok-or_drop-classes.field-0; values = c.new.result; references = c.new-2.result; mentions = c.new-3.result })
    c.add_objects.new.filed (sound_from c.args.meta.now c.class_count.ensures.well bytes (view c.args.value.now) h) c.objects_of-values.ensures c.in_ok-ids.ensures
    c.in-Ok-or_drop.ensures c.in-Ok-or_drop-classes.ensures c.new.ensures c.new-2.ensures c.new-3.ensures c.in-Ok-or_drop-2.ensures.filed c.in-Ok-or_drop-2.ensures.apart)
    (all_typed c.args.meta.now (met_ids c.in_ok-ids.ids) (map (λ v. written_of (view v)) c.objects_of-values.result.now)
    (record { ids = c.in-Ok-or_drop.field-0; classes = c.in-Ok-or_drop-classes.field-0; values = c.new.result; references = c.new-2.result; mentions = c.new-3.result })
    c.add_objects.new.filed c.new.ensures c.in-Ok-or_drop-2.ensures.filed)
