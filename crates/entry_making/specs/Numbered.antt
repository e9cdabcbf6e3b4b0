-- What is known in an entry, by the numbers of terms.
use Rattle.std.specs.Prelude.{◌≡◌, ℕ, List, [], ◌∷◌, map, Option, None, Some, slice_index_or}
use Rattle.std.specs.Option.{option_map, option_or}
use Rattle.qvtr_semantics.specs.declared.out.Out.{Out}
use Rattle.qvtr_semantics.specs.declared.out.Out.TheVariants as outs
use Rattle.object_tables.specs.Models.{ModelData}
use Rattle.qv_syntax.specs.declared.program.Program.{Program}
use Rattle.qvtr_semantics.specs.Outs.{datum_of, all_given}
use Rattle.qvtr_semantics.specs.Expressions.{Scope, value, variable}
use Rattle.repair_semantics.specs.declared.term.Term.{Term}
use Rattle.repair_semantics.specs.EntryValues.{Known}
use Rattle.term_table.specs.declared.numbered.NumberedValue.{NumberedValue}
use Rattle.term_table.specs.declared.numbered.NumberedValue.TheVariants as numbered
use Rattle.term_table.specs.TermTables.{IsWithin, values_in}
use Rattle.entry_making.specs.Givers.{Giver}
use Rattle.entry_making.specs.declared.numbered_known.NumberedKnown.{NumberedKnown}

-- each term among the values is one of the table
abbrev pub IsValueWithin : List Term → Option NumberedValue → Type 0
IsValueWithin terms None = Unit {0}
IsValueWithin terms (Some v) = IsWithin terms v

-- the terms for the numbers
abbrev pub known_of : List Term → NumberedKnown → Known
known_of terms k = record { values = values_in terms k.values; scope = k.scope }

-- the value of a variable as that of an expression: a term is none
abbrev pub bound_out : Option NumberedValue → Out
bound_out None = outs.Invalid
bound_out (Some (numbered.Val d)) = outs.One d
bound_out (Some (numbered.Term n)) = outs.Invalid

-- a value of an expression that is neither null nor invalid
abbrev pub given_number : Out → Option NumberedValue
given_number out = option_map (λ d. numbered.Val d) (datum_of out)

-- the value of a variable, or else the datum that its equation gives
abbrev pub number_or_datum : List (Option NumberedValue) → Scope → ℕ → Option NumberedValue
number_or_datum b scope v = option_or (slice_index_or b v None) (given_number (variable scope v))

-- the number that a giver gives
abbrev pub giver_number : Program → List ModelData → List (Option NumberedValue) → Scope → Giver → Option NumberedValue
giver_number program models values scope Giver.nothing = None
giver_number program models values scope (Giver.variable v) = slice_index_or values v None
giver_number program models values scope (Giver.expression e) = given_number (value program models e scope)

-- the numbers that all give, if each gives one
abbrev pub giver_numbers : Program → List ModelData → List (Option NumberedValue) → Scope → List Giver → Option (List NumberedValue)
giver_numbers program models values scope gs = all_given (map (giver_number program models values scope) gs)
