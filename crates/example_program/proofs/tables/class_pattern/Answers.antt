use Rattle.std.proofs.Common.{◌≡◌, List, [], ◌∷◌, ◌++◌, ap, ◌∙◌}
use Rattle.std.specs.Prelude.{codes}
use Rattle.qv_syntax.specs.declared.program.Tmpl.{Tmpl}
use Rattle.qv_syntax.specs.declared.program.Item.{Item}
use Rattle.example_program.specs.Words.{text, the_text, value_item, object_item, template}
use Rattle.example_program.proofs.tables.class_pattern.Goals as goal

pub returns-3 : goal.returns-3
returns-3 c =
    let rest : List Item = value_item 3 (text (codes "persistent")) ∷ value_item 0 (the_text 0) ∷ [] in
    c.template.ensures
    ∙ ap (λ (items : List Item). template 1 2 items)
    (c.in-Ok-or_drop-2.ensures
    ∙ ap (λ (items : List Item). items ++ rest)
    (c.in-Ok-or_drop.ensures ∙ ap (λ (items : List Item). items ++ object_item 2 c.bare.result ∷ []) c.new-items.ensures ∙ ap (λ (t : Tmpl). object_item 2 t ∷ []) c.bare.ensures))
