-- The target templates of the example's relations as lists of items.
use Rattle.std.proofs.Common.{◌≡◌, ℕ, List, [], ◌∷◌, map, refl, sym, ap, ◌∙◌}
use Rattle.qv_syntax.specs.declared.program.Tmpl.{Tmpl}
use Rattle.qv_syntax.specs.declared.program.Item.{Item}
use Rattle.qv_syntax.specs.declared.program.ItemValue.TheVariants as items
use Rattle.qv_syntax.specs.declared.program.ItemValue.TheOpen as of
use Rattle.qv_syntax.specs.declared.typed.Typed.{Typed}
use Rattle.repair_semantics.specs.TargetItems.{Content, ContentPart, TemplatePart, ItemPart, TargetItem, content_part, item_part, template_part, parts, target_items}
use Rattle.repair_semantics.proofs.ItemLaws.{content_of, item_of, of_expression, of_template, item_is, template_is}
use Rattle.example_program.specs.Words.{the_text, value_item, object_item, template}
use Rattle.example_program.specs.MainProgram.{package_to_schema, class_to_table, attr_to_column, prim_to_column, prim_column, main_program_data}

abbrev item_with : ℕ → ContentPart → ItemPart
item_with p c = item_part (record { prop = record { 0 = p }; value = c })

abbrev template_with : ℕ → ℕ → List ItemPart → TemplatePart
template_with v c ps = template_part (record { var = v; class = record { 0 = c }; items = ps })

abbrev valued : ℕ → Typed → ItemPart
valued p e = item_with p (record { content = Content.expression e; within = [] })

value_asks : (p : ℕ) (e : Typed) → item_of (value_item p e) ≡ valued p e
value_asks p e = item_is (record { 0 = p }) (items.Expr e) ∙ ap (item_with p) (ap content_of (sym (items.rolls-Expr e)) ∙ of_expression e)

object_asks : (p : ℕ) (t : Tmpl) (x : TemplatePart) → parts t ≡ x → item_of (object_item p t) ≡ item_with p (content_part (of.Nested x))
object_asks p t x is =
    item_is (record { 0 = p }) (items.Nested t)
    ∙ ap (item_with p) (ap content_of (sym (items.rolls-Nested t)) ∙ of_template t ∙ ap (λ (y : TemplatePart). content_part (of.Nested y)) is)

template_asks : (v c : ℕ) (its : List Item) (ps : List ItemPart) → map item_of its ≡ ps → parts (template v c its) ≡ template_with v c ps
template_asks v c its ps h = template_is v (record { 0 = c }) its ∙ ap (template_with v c) h

one_asks : (i : Item) (p : ItemPart) → item_of i ≡ p → map item_of (i ∷ []) ≡ p ∷ []
one_asks i p h = ap (λ (x : ItemPart). x ∷ []) h

two_ask : (i j : Item) (p q : ItemPart) → item_of i ≡ p → item_of j ≡ q → map item_of (i ∷ j ∷ []) ≡ p ∷ q ∷ []
two_ask i j p q h k = ap (λ (x : ItemPart). x ∷ item_of j ∷ []) h ∙ ap (λ (x : ItemPart). p ∷ x ∷ []) k

-- ---- items

abbrev pub valued_item : ℕ → ℕ → ℕ → TargetItem
valued_item owner prop variable = record { owner = owner; prop = record { 0 = prop }; content = Content.expression (the_text variable) }

abbrev pub nested_item : ℕ → ℕ → ℕ → TargetItem
nested_item owner prop variable = record { owner = owner; prop = record { 0 = prop }; content = Content.template variable }

abbrev pub schema_items : List TargetItem
schema_items = valued_item 2 0 0 ∷ []

abbrev pub table_items : List TargetItem
table_items = nested_item 3 2 4 ∷ valued_item 3 0 0 ∷ []

abbrev pub column_items : List TargetItem
column_items = nested_item 5 5 6 ∷ valued_item 6 0 2 ∷ valued_item 6 7 1 ∷ []

abbrev items_in : TemplatePart → List TargetItem
items_in x = x.items

pub schema_items_are : target_items main_program_data package_to_schema ≡ schema_items
schema_items_are =
    ap items_in (template_asks 2 1 (value_item 0 (the_text 0) ∷ []) (valued 0 (the_text 0) ∷ []) (one_asks (value_item 0 (the_text 0)) (valued 0 (the_text 0)) (value_asks 0 (the_text 0))))

bare_asks : parts (template 4 1 []) ≡ template_with 4 1 []
bare_asks = template_asks 4 1 [] [] refl

pub table_items_are : target_items main_program_data class_to_table ≡ table_items
table_items_are =
    ap items_in (template_asks 3 2 (object_item 2 (template 4 1 []) ∷ value_item 0 (the_text 0) ∷ []) (item_with 2 (content_part (of.Nested (template_with 4 1 []))) ∷ valued 0 (the_text 0) ∷ [])
    (two_ask (object_item 2 (template 4 1 [])) (value_item 0 (the_text 0)) (item_with 2 (content_part (of.Nested (template_with 4 1 [])))) (valued 0 (the_text 0))
    (object_asks 2 (template 4 1 []) (template_with 4 1 []) bare_asks) (value_asks 0 (the_text 0))))

pub columns_items_are : target_items main_program_data attr_to_column ≡ []
columns_items_are = ap items_in (template_asks 1 2 [] [] refl)

abbrev column_parts : TemplatePart
column_parts = template_with 6 3 (valued 0 (the_text 2) ∷ valued 7 (the_text 1) ∷ [])

column_asks : parts prim_column ≡ column_parts
column_asks =
    template_asks 6 3 (value_item 0 (the_text 2) ∷ value_item 7 (the_text 1) ∷ []) (valued 0 (the_text 2) ∷ valued 7 (the_text 1) ∷ [])
    (two_ask (value_item 0 (the_text 2)) (value_item 7 (the_text 1)) (valued 0 (the_text 2)) (valued 7 (the_text 1)) (value_asks 0 (the_text 2)) (value_asks 7 (the_text 1)))

pub column_items_are : target_items main_program_data prim_to_column ≡ column_items
column_items_are =
    ap items_in (template_asks 5 2 (object_item 5 prim_column ∷ []) (item_with 5 (content_part (of.Nested column_parts)) ∷ [])
    (one_asks (object_item 5 prim_column) (item_with 5 (content_part (of.Nested column_parts))) (object_asks 5 prim_column column_parts column_asks)))
