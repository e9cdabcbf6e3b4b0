use Rattle.std.proofs.Common.{◌++◌, ap, sym, ◌∙◌}
use Rattle.std.specs.List.{flat_map}
use Rattle.object_tables.proofs.ListLemmas.{on_ok}
use Rattle.staying_objects.specs.Nested.{item_variables}
use Rattle.staying_objects.proofs.NestedLaws.{variables_of_template}
use Rattle.staying_objects.proofs.nested.+nested.Goals as goal

pub put_template-returns : goal.put_template-returns
put_template-returns t c =
    on_ok c.put_items.result
    (λ put. put ∙ ap (λ vs. c.args.out.now ++ vs) (ap (flat_map item_variables) c.as_slice.ensures ∙ sym (variables_of_template c.args.template.now)))
    c.put_items.ensures
