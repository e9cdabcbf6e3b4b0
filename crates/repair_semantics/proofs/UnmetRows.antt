-- Places at which entries are unmet, computed: a condition that isn't true, and an item whose value is null.
use Rattle.std.specs.Prelude.{◌≡◌, ℕ, false, ◌&&◌, ◌++◌, not, List, [], ◌∷◌, Option, Some, is_none, if◌then◌else◌}
use Rattle.std.proofs.Common.{ap, ◌∙◌}
use Rattle.qv_syntax.specs.declared.program.ItemValue.{roll-ItemValue}
use Rattle.qv_syntax.specs.declared.program.ItemValue.TheOpen as items
use Rattle.qv_syntax.specs.declared.ty.Ty.TheVariants as types
use Rattle.qv_syntax.specs.declared.typed.Typed.{Typed}
use Rattle.qv_syntax.specs.declared.typed.Node.{roll-Node, out-roll-Node, fold-roll-Node}
use Rattle.qv_syntax.specs.declared.typed.Call.TheOpen as nodes
use Rattle.qvtr_semantics.specs.declared.out.Out.{Out}
use Rattle.qvtr_semantics.specs.declared.out.Out.TheVariants as outs
use Rattle.qvtr_semantics.specs.Outs.{boolean, boolean_of}
use Rattle.qvtr_semantics.specs.Equality.{is_known_true}
use Rattle.qvtr_semantics.specs.Objects.{Setting}
use Rattle.qvtr_semantics.specs.Expressions.{Scope, Meaning, Operated, Called, Queries, setting, queries_within, node_meaning, typed_meaning, infix_meaning, call_meaning, postfix_meaning, value}
use Rattle.qvtr_semantics.proofs.ExpressionLaws.{typed_is}
use Rattle.qvtr_semantics.specs.SmallModels.{var, item, template}
use Rattle.repair_semantics.specs.declared.entry.Place.{Place}
use Rattle.repair_semantics.specs.declared.entry.Place.TheVariants as places
use Rattle.repair_semantics.specs.EntryValues.{Known, known, variable_at, is_target_one, given_by, given_out}
use Rattle.repair_semantics.specs.TargetItems.{ContentPart, content_part, parts}
use Rattle.repair_semantics.specs.Unmet.{first_place, unmet_places, unmet_at}
use Rattle.repair_semantics.specs.SmallRepairs.{two_relations, packages_of_shop, package_values, never, nothing, nameless}
use Rattle.repair_semantics.proofs.ItemLaws.{of_expression}
use Rattle.repair_semantics.proofs.RepairRows.{item_with, template_with, item_asks, template_asks, schema_parts}
use Rattle.repair_semantics.proofs.EntryRows.{variable_is}

abbrev sets : Setting
sets = setting two_relations packages_of_shop

abbrev queries : Queries
queries = queries_within [] sets 0

false_means : (scope : Scope) → value two_relations packages_of_shop (record { ty = types.Bool; node = roll-Node (nodes.Bool false) }) scope ≡ boolean false
false_means scope = ap (λ (m : Meaning). m scope) (typed_is sets queries types.Bool (roll-Node (nodes.Bool false))
    ∙ fold-roll-Node Called Meaning Meaning Operated Called (call_meaning sets) (node_meaning sets queries) typed_meaning infix_meaning postfix_meaning (nodes.Bool false))

null_means : (scope : Scope) → value two_relations packages_of_shop nothing scope ≡ outs.Null
null_means scope = ap (λ (m : Meaning). m scope) (typed_is sets queries types.Str (roll-Node nodes.Null)
    ∙ fold-roll-Node Called Meaning Meaning Operated Called (call_meaning sets) (node_meaning sets queries) typed_meaning infix_meaning postfix_meaning nodes.Null)

abbrev k : Known
k = known package_values

-- ---- where { false; }

abbrev name_places : Option ℕ → List Place
name_places alone =
    if not (is_target_one two_relations never alone) && is_none (given_by two_relations packages_of_shop k (var 0 types.Str) alone)
    then places.Item (record { 0 = 0 }) ∷ [] else []

abbrev condition_places : Out → List Place
condition_places out = if not (is_known_true (boolean_of out)) then places.Where 1 ∷ [] else []

abbrev condition : Typed
condition = record { ty = types.Bool; node = roll-Node (nodes.Bool false) }

pub never_holds : unmet_at two_relations packages_of_shop never k ≡ Some (places.Where 1)
never_holds =
    ap (λ p. first_place (unmet_places two_relations packages_of_shop never k p.items)) schema_parts
    ∙ ap (λ a. first_place (name_places a ++ condition_places (value two_relations packages_of_shop condition k.scope))) (variable_is 0 types.Str)
    ∙ ap (λ out. first_place (condition_places out)) (false_means k.scope)

-- ---- name = null

abbrev null_part : ContentPart
null_part = content_part (items.Expr nothing)

nameless_parts : parts (template 2 1 (item 0 (roll-ItemValue (items.Expr nothing)) ∷ [])) ≡ template_with 2 1 (item_with 0 null_part ∷ [])
nameless_parts = template_asks 2 1 (item 0 (roll-ItemValue (items.Expr nothing)) ∷ []) (item_with 0 null_part ∷ [])
    (ap (λ i. i ∷ []) (item_asks 0 (roll-ItemValue (items.Expr nothing)) null_part (of_expression nothing)))

abbrev null_places : Option ℕ → List Place
null_places alone =
    if not (is_target_one two_relations nameless alone) && is_none (given_by two_relations packages_of_shop k nothing alone) then places.Item (record { 0 = 0 }) ∷ [] else []

pub name_is_null : unmet_at two_relations packages_of_shop nameless k ≡ Some (places.Item (record { 0 = 0 }))
name_is_null =
    ap (λ p. first_place (unmet_places two_relations packages_of_shop nameless k p.items)) nameless_parts
    ∙ ap (λ a. first_place (null_places a ++ [])) (ap variable_at (out-roll-Node nodes.Null))
    ∙ ap (λ out. first_place ((if is_none (given_out out) then places.Item (record { 0 = 0 }) ∷ [] else []) ++ [])) (null_means k.scope)
