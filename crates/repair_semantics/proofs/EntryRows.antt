-- Entries of two relations computed: what they make of a package with a persistent class.
use Rattle.std.specs.Prelude.{◌≡◌, ℕ, List, [], ◌∷◌, map, codes, None, Some}
use Rattle.std.specs.Option.{option_map}
use Rattle.std.proofs.Common.{ap, ◌∙◌}
use Rattle.qv_syntax.specs.declared.program.Rel.{Rel}
use Rattle.qv_syntax.specs.declared.ty.Ty.{Ty}
use Rattle.qv_syntax.specs.declared.ty.Ty.TheVariants as types
use Rattle.qv_syntax.specs.declared.typed.Node.{out-roll-Node}
use Rattle.qv_syntax.specs.declared.typed.Call.TheOpen as nodes
use Rattle.qvtr_semantics.specs.Outs.{all_given}
use Rattle.qvtr_semantics.specs.SmallModels.{var, package_to_schema, class_to_table}
use Rattle.repair_semantics.specs.EntryValues.{TermValues, Known, variable_at, variable_alone, given_by}
use Rattle.repair_semantics.specs.TargetItems.{TargetItem}
use Rattle.repair_semantics.specs.Making.{variables, entry_scope, value_or_datum, values_within, keyed, known_by, others_in, made_values}
use Rattle.repair_semantics.specs.SmallRepairs.{two_relations, term_value, schema, packages_of_shop, package_values, class_values, package_made, class_made}
use Rattle.repair_semantics.proofs.RepairRows.{template_with, named, within, schema_parts, table_parts}

-- a variable alone
pub variable_is : (number : ℕ) (ty : Ty) → variable_alone (var number ty) ≡ Some number
variable_is number ty = ap variable_at (out-roll-Node (nodes.Variable number))

abbrev made_by : Rel → TermValues → List TargetItem → TermValues
made_by rel b items = others_in rel b (known_by two_relations packages_of_shop rel items b (entry_scope two_relations packages_of_shop rel b)).values

abbrev schema_items : List TargetItem
schema_items = (template_with 2 1 (named 0 ∷ [])).items

abbrev table_items : List TargetItem
table_items = (template_with 3 2 (within ∷ named 0 ∷ [])).items

-- what is known after so many rounds
abbrev known_after : Rel → TermValues → List TargetItem → ℕ → Known
known_after rel b items n = record {
  values = values_within two_relations packages_of_shop rel items (entry_scope two_relations packages_of_shop rel b) (map (value_or_datum b (entry_scope two_relations packages_of_shop rel b)) (variables rel)) n;
  scope = entry_scope two_relations packages_of_shop rel b;
}

-- a schema by its name
pub schema_is_made : made_values two_relations packages_of_shop package_to_schema package_values ≡ package_made
schema_is_made =
    ap (λ p. made_by package_to_schema package_values p.items) schema_parts
    ∙ ap (λ a. None ∷ None ∷ option_map (keyed 1) (all_given (given_by two_relations packages_of_shop (known_after package_to_schema package_values schema_items 2) (var 0 types.Str) a ∷ [])) ∷ [])
    (variable_is 0 types.Str)

-- a table by its schema and its name
pub table_is_made : made_values two_relations packages_of_shop class_to_table class_values ≡ class_made
table_is_made =
    ap (λ p. made_by class_to_table class_values p.items) table_parts
    ∙ ap (λ a. None ∷ None ∷ None ∷ option_map (keyed 2) (all_given (Some (term_value (schema (codes "shop")))
    ∷ given_by two_relations packages_of_shop (known_after class_to_table class_values table_items 4) (var 0 types.Str) a ∷ [])) ∷ None ∷ [])
    (variable_is 0 types.Str)
