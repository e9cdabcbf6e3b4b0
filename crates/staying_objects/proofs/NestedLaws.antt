-- The variables of the templates within a template are those that its items bring, one after another.
use Rattle.std.proofs.Common.{◌≡◌, ℕ, List, [], ◌∷◌, ◌++◌, Option, None, Some, refl, sym, ap, ◌∙◌, cond, map}
use Rattle.std.specs.List.{flat_map, cons_option}
use Rattle.std.specs.Option.{option_map, option_map_or, option_and_then, option_to_list}
use Rattle.std.proofs.lemmas.List.Elements.{filter_map-append}
use Rattle.qv_syntax.specs.declared.program.Dom.{Dom}
use Rattle.qv_syntax.specs.declared.program.Item.{Item}
use Rattle.qv_syntax.specs.declared.program.Program.{Program}
use Rattle.qv_syntax.specs.declared.program.Rel.{Rel}
use Rattle.qv_syntax.specs.declared.program.Tmpl.{Tmpl, out-Tmpl, fold-roll-Tmpl, roll-out-Tmpl}
use Rattle.repair_semantics.specs.TargetItems.{TargetItem, ContentPart, ItemPart, TemplatePart, content_part, item_part, template_part, parts, variable_of, target_domain, nested_variables}
use Rattle.repair_semantics.specs.Deletions.{root_if_top}
use Rattle.repair_semantics.proofs.ItemLaws.{content_of, item_of, item_is}
use Rattle.staying_objects.specs.Nested.{variables_in, item_variables, root_if, variables_within}

-- what an item brings comes first
pub put_first : (o : Option ℕ) (xs : List ℕ) → cons_option o xs ≡ option_to_list o ++ xs
put_first None xs = refl
put_first (Some x) xs = refl

variables_of_item : (owner : ℕ) (i : Item) → variables_in (item_of i owner) ≡ item_variables i
variables_of_item owner i =
    ap (λ (part : ItemPart). variables_in (part owner)) (item_is i.prop i.value)
    ∙ put_first (variable_of (content_of i.value).content) (variables_in (content_of i.value).within)

variables_of_items : (owner : ℕ) (its : List Item)
    → variables_in (flat_map (λ (part : ItemPart). part owner) (map item_of its)) ≡ flat_map item_variables its
variables_of_items owner [] = refl
variables_of_items owner (i ∷ its) =
    filter_map-append (λ (item : TargetItem). variable_of item.content) (item_of i owner)
    (flat_map (λ (part : ItemPart). part owner) (map item_of its))
    ∙ ap (λ vs. vs ++ variables_in (flat_map (λ (part : ItemPart). part owner) (map item_of its))) (variables_of_item owner i)
    ∙ ap (λ vs. item_variables i ++ vs) (variables_of_items owner its)

part_is : (t : Tmpl) → parts t ≡ template_part (record { var = (out-Tmpl t).var; class = (out-Tmpl t).class; items = map item_of (out-Tmpl t).items })
part_is t = ap parts (sym (roll-out-Tmpl t)) ∙ fold-roll-Tmpl ContentPart ItemPart TemplatePart content_part item_part template_part (out-Tmpl t)

-- the variables within a template
pub variables_of_template : (t : Tmpl) → variables_in (parts t).items ≡ flat_map item_variables (out-Tmpl t).items
variables_of_template t = ap (λ (p : TemplatePart). variables_in p.items) (part_is t) ∙ variables_of_items (out-Tmpl t).var (out-Tmpl t).items

-- ---- the target domain

within_is : (t : Option Tmpl) → variables_in (option_map_or (λ u. (parts u).items) t []) ≡ option_map_or (λ u. variables_in (parts u).items) t []
within_is None = refl
within_is (Some t) = refl

-- the variables of the template of the target domain
pub variables_of_domain : (program : Program) (rel : Rel) (dom : Dom) → Some dom ≡ target_domain program rel
    → root_if rel.top dom ++ variables_within dom ≡ root_if_top program rel ++ nested_variables program rel
variables_of_domain program rel dom same =
    ap (λ vs. vs ++ variables_within dom) (ap (λ d. cond rel.top (option_to_list (option_map (λ (x : Dom). x.root) d)) []) same)
    ∙ ap (λ vs. root_if_top program rel ++ vs)
    (sym (within_is dom.template)
    ∙ ap (λ d. variables_in (option_map_or (λ t. (parts t).items) (option_and_then (λ (x : Dom). x.template) d) [])) same)
