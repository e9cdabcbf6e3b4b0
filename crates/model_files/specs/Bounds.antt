-- The bounds of a property as a model of EMOF has them (MOF 2.5.1, 12.4; UML 2.5.1, 7.5): `lower` is an Integer, and `upper` a text: a number
-- in decimal digits, or `*` or `-1` for no bound. Where one isn't written it is 1.
use Rattle.std.specs.Prelude.{ℕ, ◌+◌, ◌-◌, ◌*◌, ◌||◌, nat_le, ℤ, pos, negsuc, List, [], ◌∷◌, codes, Option, None, Some, if◌then◌else◌}
use Rattle.std.specs.Option.{option_map}
use Rattle.mof_metamodel.specs.Metamodels.{same_name}
use Rattle.mof_metamodel.specs.WellMeta.{is_digit}
use Rattle.object_tables.specs.declared.value.Value.{Value}
use Rattle.object_tables.specs.declared.value.Value.TheVariants as values
use Rattle.model_assembly.specs.Values.{spelled_number, at_most}
use Rattle.model_files.specs.declared.bounds.Bounds.{Bounds}
use Rattle.model_files.specs.declared.bounds.TheConstants.{MAX_BOUND}

abbrev pub bound_of : ℤ → Option ℕ
bound_of (pos n) = if nat_le n MAX_BOUND then Some n else None
bound_of (negsuc n) = None

-- the lower bound that the values say, if they say one
abbrev pub lower_of : List Value → Option ℕ
lower_of [] = Some 1
lower_of ((values.Int i) ∷ others) = bound_of i
lower_of others = None

-- A number read from left to right, as long as it can be a bound

abbrev pub digit_of : ℕ → Option ℕ
digit_of c = if is_digit c then Some (c - 48) else None

abbrev pub further : ℕ → ℕ → Option ℕ
further n c = if is_digit c then at_most MAX_BOUND (Some (10 * n + (c - 48))) else None

abbrev pub spelled_on : Option ℕ → ℕ → Option ℕ
spelled_on None c = None
spelled_on (Some n) c = further n c

-- the upper bound that a text says, if it says one; an upper bound of None is unbounded
abbrev pub upper_in : List ℕ → Option (Option ℕ)
upper_in text =
    if same_name text (codes "*") || same_name text (codes "-1") then Some None
    else option_map (λ n. Some n) (at_most MAX_BOUND (spelled_number text))

abbrev pub upper_of : List Value → Option (Option ℕ)
upper_of [] = Some (Some 1)
upper_of ((values.Str text) ∷ others) = upper_in text
upper_of others = None

-- no number of values is within these
abbrev pub no_bounds : Bounds
no_bounds = record { lower = 0; upper = Some 0 }

-- both bounds; where one of them says nothing, bounds that no metamodel may have
abbrev pub bounds_from : Option ℕ → Option (Option ℕ) → Bounds
bounds_from (Some lower) (Some upper) = record { lower = lower; upper = upper }
bounds_from (Some lower) None = no_bounds
bounds_from None upper = no_bounds
