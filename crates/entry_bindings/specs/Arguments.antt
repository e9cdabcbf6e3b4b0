-- What a binding gives the arguments of a call in a when clause (QVT 1.3, sections 7.3 and 7.10.2).
use Rattle.std.specs.Prelude.{ℕ, List, [], ◌∷◌, map, length, replicate, Option, None, Some, slice_index_or, slice_set, if◌then◌else◌}
use Rattle.std.specs.List.{filter_map}
use Rattle.std.specs.Option.{option_map}
use Rattle.object_tables.specs.Models.{ModelData}
use Rattle.qv_syntax.specs.declared.program.Program.{Program}
use Rattle.qv_syntax.specs.declared.program.Rel.{Rel}
use Rattle.qv_syntax.specs.declared.program.Dom.{Dom}
use Rattle.qv_syntax.specs.declared.typed.Typed.{Typed}
use Rattle.qvtr_semantics.specs.Outs.{datum_of, all_given}
use Rattle.qvtr_semantics.specs.Expressions.{value_for}
use Rattle.qvtr_semantics.specs.Templates.{Values}
use Rattle.template_match.specs.Sources.{is_target_variable}
use Rattle.repair_semantics.specs.EntryValues.{variable_alone}
use Rattle.term_table.specs.declared.numbered.NumberedValue.{NumberedValue}
use Rattle.term_table.specs.declared.numbered.NumberedValue.TheVariants as numbered
use Rattle.entry_bindings.specs.declared.argument.Argument.{Argument}
use Rattle.entry_bindings.specs.declared.argument.Argument.TheVariants as arguments
use Rattle.entry_bindings.specs.Starts.{NumberedValues, number_of}

-- a variable alone: its value, or the variable where it is one for objects of the target
abbrev pub variable_argument : Program → Rel → ℕ → Option NumberedValue → Option Argument
variable_argument program rel v (Some x) = Some (arguments.Given x)
variable_argument program rel v None = if is_target_variable program rel v then Some (arguments.Open v) else None

-- an expression, which may be this variable alone, with these data and values
abbrev pub argument_by : Program → List ModelData → Rel → Values → NumberedValues → Typed → Option ℕ → Option Argument
argument_by program models rel d b e None = option_map (λ x. arguments.Given (numbered.Val x)) (datum_of (value_for program models e d))
argument_by program models rel d b e (Some v) = variable_argument program rel v (number_of b v)

abbrev pub argument_of : Program → List ModelData → Rel → Values → NumberedValues → Typed → Option Argument
argument_of program models rel d b e = argument_by program models rel d b e (variable_alone e)

-- all of them, if none is missing
abbrev pub arguments_of : Program → List ModelData → Rel → Values → NumberedValues → List Typed → Option (List Argument)
arguments_of program models rel d b args = all_given (map (argument_of program models rel d b) args)

-- ---- what the roots of the called relation get

-- each root has what is given to its domain: where two domains have one root, the last
abbrev pub put_roots : {X : Type 0} → List (Option X) → List Dom → List X → List (Option X)
put_roots b [] xs = b
put_roots b doms [] = b
put_roots b (dom ∷ doms) (x ∷ xs) = put_roots (slice_set b dom.root (Some x)) doms xs

abbrev pub lasts : {X : Type 0} → Rel → List X → List (Option X)
lasts rel xs = put_roots (replicate (length rel.vars) None) rel.domains xs

-- for each domain what its root has
abbrev pub bound : {X : Type 0} → Rel → List X → List X
bound rel xs = filter_map (λ dom. slice_index_or (lasts rel xs) dom.root None) rel.domains
