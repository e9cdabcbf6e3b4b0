-- The calls of a clause by the numbers of terms.
use Rattle.std.specs.Prelude.{ℕ, List, [], ◌∷◌, map, length, replicate, Option, None, Some, slice_get, slice_index_or, slice_set}
use Rattle.std.specs.List.{flat_map}
use Rattle.std.specs.Option.{option_map, option_and_then, option_to_list}
use Rattle.object_tables.specs.Models.{ModelData}
use Rattle.qv_syntax.specs.declared.program.Program.{Program}
use Rattle.qv_syntax.specs.declared.program.Rel.{Rel}
use Rattle.qv_syntax.specs.declared.program.Dom.{Dom}
use Rattle.qv_syntax.specs.declared.program.Conj.{Conj}
use Rattle.qv_syntax.specs.declared.program.Conj.TheVariants as conjuncts
use Rattle.qv_syntax.specs.declared.typed.Typed.{Typed}
use Rattle.repair_semantics.specs.declared.term.Term.{Term}
use Rattle.repair_semantics.specs.declared.entry.EntryName.{EntryName}
use Rattle.term_table.specs.declared.numbered.NumberedValue.{NumberedValue}
use Rattle.term_table.specs.TermTables.{value_in}
use Rattle.entry_making.specs.declared.numbered_call.NumberedCall.{NumberedCall}
use Rattle.entry_making.specs.declared.numbered_known.NumberedKnown.{NumberedKnown}
use Rattle.entry_making.specs.Givers.{expression_giver}
use Rattle.entry_making.specs.Numbered.{giver_numbers}

-- values with one for a variable, if there is one
abbrev pub with_root : List (Option NumberedValue) → ℕ → Option NumberedValue → List (Option NumberedValue)
with_root b root None = b
with_root b root (Some x) = slice_set b root (Some x)

-- values with those of the roots of some domains
abbrev pub with_numbers : List (Option NumberedValue) → List Dom → List NumberedValue → List (Option NumberedValue)
with_numbers b [] xs = b
with_numbers b doms [] = b
with_numbers b (dom ∷ doms) (x ∷ xs) = with_numbers (slice_set b dom.root (Some x)) doms xs

-- the values that the roots of domains have
abbrev pub roots_among : List (Option NumberedValue) → List Dom → List NumberedValue
roots_among b doms = flat_map (λ (dom : Dom). option_to_list (slice_index_or b dom.root None)) doms

-- what the roots of the domains are bound to
abbrev pub root_numbers : Rel → List NumberedValue → List NumberedValue
root_numbers rel xs = roots_among (with_numbers (replicate (length rel.vars) None) rel.domains xs) rel.domains

abbrev pub number_call_to : ℕ → List NumberedValue → Rel → NumberedCall
number_call_to number xs rel = record { rel = number; roots = root_numbers rel xs }

-- the call that arguments make; one that has no value makes none
abbrev pub number_call : Program → List ModelData → NumberedKnown → ℕ → List Typed → Option NumberedCall
number_call program models k number args =
    option_and_then (λ xs. option_map (number_call_to number xs) (slice_get program.rels number)) (giver_numbers program models k.values k.scope (map expression_giver args))

-- the call of a conjunct, if it is one
abbrev pub conjunct_calls : Program → List ModelData → NumberedKnown → Conj → List (Option NumberedCall)
conjunct_calls program models k (conjuncts.Cond e) = []
conjunct_calls program models k (conjuncts.Equation v e) = []
conjunct_calls program models k (conjuncts.Call number args) = number_call program models k number args ∷ []

abbrev pub number_calls : Program → List ModelData → NumberedKnown → List Conj → List (Option NumberedCall)
number_calls program models k clause = flat_map (conjunct_calls program models k) clause

-- the call with terms for the numbers
abbrev pub call_of : List Term → NumberedCall → EntryName
call_of terms c = record { rel = c.rel; roots = map (value_in terms) c.roots }

abbrev pub calls_of : List Term → List (Option NumberedCall) → List (Option EntryName)
calls_of terms cs = map (option_map (call_of terms)) cs
