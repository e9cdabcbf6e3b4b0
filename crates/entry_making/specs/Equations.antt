-- Equations that are computed one after another.
use Rattle.std.specs.Prelude.{◌≡◌, ◌<◌, ℕ, List, [], ◌∷◌, map, length, slice_set, slice_index_or, Option, None, Some, is_none, ◌&&◌, nat_lt, if◌then◌else◌}
use Rattle.std.specs.Option.{option_map, option_to_list}
use Rattle.std.specs.List.{flat_map, AllByRecursion}
use Rattle.object_tables.specs.Models.{ModelData}
use Rattle.qv_syntax.specs.declared.program.Program.{Program}
use Rattle.qv_syntax.specs.declared.program.Rel.{Rel}
use Rattle.qv_syntax.specs.declared.program.Conj.{Conj}
use Rattle.qv_syntax.specs.declared.program.Conj.TheVariants as conjuncts
use Rattle.qv_syntax.specs.declared.typed.Typed.{Typed}
use Rattle.qvtr_semantics.specs.Expressions.{Scope, value}
use Rattle.enforcement_rules.specs.Mentions.{variables_of}
use Rattle.repair_semantics.specs.Making.{variables, equation_of, scope_within}
use Rattle.entry_making.specs.declared.origin.Equation.{Equation}

-- a variable, with the expression of its equation
abbrev pub Equated : Type 0
Equated = ℕ × Typed

abbrev pub shown_equation : Equation → Equated
shown_equation q = (q.variable, q.expression.now)

-- the equation of a variable, if there is one
abbrev pub equated : List Conj → ℕ → Option Equated
equated cs v = option_map (λ e. (v, e)) (equation_of cs v)

-- with the equation of a conjunct in its place, if it is one and the place is empty
abbrev pub with_equated : List (Option Equated) → Equated → List (Option Equated)
with_equated table q = if nat_lt q.0 (length table) && is_none (slice_index_or table q.0 None) then slice_set table q.0 (Some q) else table

abbrev pub with_conjunct : List (Option Equated) → Conj → List (Option Equated)
with_conjunct table (conjuncts.Cond e) = table
with_conjunct table (conjuncts.Equation v e) = with_equated table (v, e)
with_conjunct table (conjuncts.Call number args) = table

-- the same of conjuncts, one after another
abbrev pub with_conjuncts : List (Option Equated) → List Conj → List (Option Equated)
with_conjuncts table [] = table
with_conjuncts table (c ∷ cs) = with_conjuncts (with_conjunct table c) cs

-- what a table has for a variable
abbrev pub at_node : List (Option Equated) → ℕ → Option Equated
at_node table v = slice_index_or table v None

-- the equations of a table for these variables, in their order
abbrev pub picked : List (Option Equated) → List ℕ → List Equated
picked table order = flat_map (λ v. option_to_list (at_node table v)) order

-- the variables of a relation with so many that an equation names
abbrev pub row_of : ℕ → Option Equated → List ℕ
row_of count None = []
row_of count (Some q) = variables_of count q.1

-- one equation after another gives its variable the value of its expression
abbrev pub computed : Program → List ModelData → Scope → List Equated → Scope
computed program models scope [] = scope
computed program models scope (q ∷ qs) = computed program models (slice_set scope q.0 (value program models q.1 scope)) qs

-- the variables of these equations are ones of the relation
abbrev pub AreOfRelation : Rel → List Equated → Type 0
AreOfRelation rel qs = AllByRecursion (λ (q : Equated). q.0 < length rel.vars) qs

-- computed one after another, these equations give what all of them give in as many rounds as there are conjuncts
abbrev pub AreInOrder : Program → Rel → List Equated → Type 0
AreInOrder program rel qs = (models : List ModelData) (before : Scope) → length before ≡ length rel.vars
    → computed program models before qs ≡ scope_within program models rel before (length rel.wheres)
