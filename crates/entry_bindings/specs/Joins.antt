-- The bindings of a relation, call by call of its when clause: each is joined with the matches that agree with what it gives the arguments
-- (QVT 1.3, sections 7.3 and 7.10.2).
use Rattle.std.specs.Prelude.{ℕ, Bool, true, false, ◌&&◌, ◌==◌, List, [], ◌∷◌, Option, None, Some, slice_get, slice_set, if◌then◌else◌}
use Rattle.std.specs.List.{filter, filter_map, flat_map}
use Rattle.std.specs.Option.{option_and_then}
use Rattle.std.specs.Ordering.{eq_by_cmp}
use Rattle.object_tables.specs.Models.{ModelData}
use Rattle.qv_syntax.specs.declared.program.Program.{Program}
use Rattle.qv_syntax.specs.declared.program.Rel.{Rel}
use Rattle.qv_syntax.specs.declared.program.Conj.{Conj}
use Rattle.qv_syntax.specs.declared.program.Conj.TheVariants as conjuncts
use Rattle.qv_syntax.specs.declared.typed.Typed.{Typed}
use Rattle.qvtr_semantics.specs.Templates.{Values}
use Rattle.term_table.specs.declared.numbered.NumberedValue.{NumberedValue}
use Rattle.term_table.specs.NumberOrder.{numbered_value_order}
use Rattle.entry_bindings.specs.declared.argument.Argument.{Argument}
use Rattle.entry_bindings.specs.declared.argument.Argument.TheVariants as arguments
use Rattle.entry_bindings.specs.declared.matching.Match.{Match}
use Rattle.entry_bindings.specs.Starts.{NumberedValues, number_of, is_term, data_beside, start_of}
use Rattle.entry_bindings.specs.Arguments.{arguments_of, bound}

-- two values are one
abbrev pub same_number : NumberedValue → NumberedValue → Bool
same_number = eq_by_cmp numbered_value_order

-- ---- matches

-- a match may have this value at the root of an argument
abbrev pub agrees : Argument → NumberedValue → Bool
agrees (arguments.Given x) y = same_number x y
agrees (arguments.Open v) y = is_term y

abbrev pub agree : List Argument → List NumberedValue → Bool
agree [] [] = true
agree (a ∷ gs) (y ∷ ys) = agrees a y && agree gs ys
agree gs ys = false

-- the match is of the relation and agrees with what its roots get
abbrev pub is_match : ℕ → List Argument → Match → Bool
is_match number gs m = (m.rel == number) && agree gs m.roots

-- the matches of a call
abbrev pub matching : List Match → ℕ → List Argument → List Match
matching ms number gs = filter (is_match number gs) ms

-- ---- bindings

-- a variable takes its value, if it has none or that one
abbrev pub opened : NumberedValues → ℕ → NumberedValue → Option NumberedValue → Option NumberedValues
opened b v y None = Some (slice_set b v (Some y))
opened b v y (Some x) = if same_number x y then Some b else None

abbrev pub taken : NumberedValues → Argument → NumberedValue → Option NumberedValues
taken b (arguments.Given x) y = Some b
taken b (arguments.Open v) y = opened b v y (number_of b v)

-- the binding with the values that its open arguments have in a match
abbrev pub filled : NumberedValues → List Argument → List NumberedValue → Option NumberedValues
filled b [] ys = Some b
filled b gs [] = Some b
filled b (a ∷ gs) (y ∷ ys) = option_and_then (λ c. filled c gs ys) (taken b a y)

-- one for each match of a call
abbrev pub extended : List Match → NumberedValues → ℕ → List Argument → List NumberedValues
extended ms b number gs = filter_map (λ m. filled b gs m.roots) (matching ms number gs)

abbrev pub extended_by : List Match → NumberedValues → ℕ → Option Rel → Option (List Argument) → List NumberedValues
extended_by ms b number (Some called) (Some gs) = extended ms b number (bound called gs)
extended_by ms b number called gs = []

-- for a call with these arguments; none where it isn't made
abbrev pub call_extended : Program → List ModelData → List Match → Rel → Values → ℕ → List Typed → NumberedValues → List NumberedValues
call_extended program models ms rel d number args b = extended_by ms b number (slice_get program.rels number) (arguments_of program models rel d b args)

-- bindings with these data, joined with the matches of the calls of a clause
abbrev pub joined : Program → List ModelData → List Match → Rel → Values → List Conj → List NumberedValues → List NumberedValues
joined program models ms rel d [] bs = bs
joined program models ms rel d (conjuncts.Call number args ∷ cs) bs = joined program models ms rel d cs (flat_map (call_extended program models ms rel d number args) bs)
joined program models ms rel d (c ∷ cs) bs = joined program models ms rel d cs bs

-- the bindings with these data
abbrev pub joined_for : Program → List ModelData → List Match → Rel → NumberedValues → Values → List NumberedValues
joined_for program models ms rel roots d = joined program models ms rel d rel.whens (start_of roots d ∷ [])

-- the bindings by all that the sources give
abbrev pub all_joined : Program → List ModelData → List Match → Rel → NumberedValues → List Values → List NumberedValues
all_joined program models ms rel roots ds = flat_map (λ d. joined_for program models ms rel roots (data_beside roots d)) ds
