-- Variables for which a relation makes terms, and terms that are made one after another.
use Rattle.std.specs.Prelude.{◌≡◌, ◌<◌, ℕ, Bool, true, false, List, [], ◌∷◌, map, length, Option, None, Some, is_some, slice_set, if◌then◌else◌}
use Rattle.std.specs.Option.{option_map, option_or, option_map_or, option_to_list}
use Rattle.std.specs.List.{flat_map, AllByRecursion}
use Rattle.mof_metamodel.specs.declared.desc.MetaDesc.{MetaDesc}
use Rattle.object_tables.specs.Models.{ModelData}
use Rattle.qv_syntax.specs.declared.program.Program.{Program}
use Rattle.qv_syntax.specs.declared.program.Rel.{Rel}
use Rattle.qvtr_semantics.specs.Expressions.{Scope}
use Rattle.repair_semantics.specs.EntryValues.{TermValues, value_of}
use Rattle.repair_semantics.specs.TargetItems.{TargetItem, class_of_variable, target_items, target_metamodel}
use Rattle.repair_semantics.specs.Making.{values_within}
use Rattle.entry_making.specs.declared.origin.Keyed.{Keyed}
use Rattle.entry_making.specs.Givers.{Giver, KeyGivers, shown_origin, key_givers, given_term, is_made}

-- a variable, with the class of its terms and what gives the values of their key properties
abbrev pub KeyedVariable : Type 0
KeyedVariable = ℕ × KeyGivers

abbrev pub shown_keyed : Keyed → KeyedVariable
shown_keyed k = (k.variable, record { class = k.class.0; keys = map shown_origin k.keys })

-- the variable with its key, if the relation makes it and its class has one
abbrev pub keyed_if : Bool → ℕ → Option KeyGivers → Option KeyedVariable
keyed_if made v givers = if made then option_map (λ g. (v, g)) givers else None

abbrev pub keyed_at : Program → MetaDesc → Rel → List TargetItem → ℕ → Option KeyedVariable
keyed_at program desc rel items v = keyed_if (is_made program rel v) v (key_givers program desc rel items v)

-- the variable that gives a value, if one does
abbrev pub variables_in : Giver → List ℕ
variables_in Giver.nothing = []
variables_in (Giver.variable v) = v ∷ []
variables_in (Giver.expression e) = []

-- the variables that stand in the key values of a variable
abbrev pub key_row : Option KeyedVariable → List ℕ
key_row None = []
key_row (Some k) = flat_map variables_in k.1.keys

-- those of these variables that have keys
abbrev pub keyed_among : Program → MetaDesc → Rel → List TargetItem → List ℕ → List KeyedVariable
keyed_among program desc rel items order = flat_map (λ v. option_to_list (keyed_at program desc rel items v)) order

-- ---- one after another

-- a variable that has no value gets the term that its key gives
abbrev pub with_term_of : Program → List ModelData → Scope → TermValues → KeyedVariable → TermValues
with_term_of program models scope x k = slice_set x k.0 (option_or (value_of x k.0) (given_term program models (record { values = x; scope = scope }) k.1))

abbrev pub terms_made : Program → List ModelData → Scope → TermValues → List KeyedVariable → TermValues
terms_made program models scope x [] = x
terms_made program models scope x (k ∷ ks) = terms_made program models scope (with_term_of program models scope x k) ks

-- each object variable that the relation doesn't make has a value
abbrev pub AreGiven : Program → Rel → TermValues → Type 0
AreGiven program rel b = (v : ℕ) → v < length rel.vars → is_made program rel v ≡ false → is_some (class_of_variable rel v) ≡ true → is_some (value_of b v) ≡ true

-- the variables are ones of the relation
abbrev pub AreVariablesOf : Rel → List KeyedVariable → Type 0
AreVariablesOf rel ks = AllByRecursion (λ (k : KeyedVariable). k.0 < length rel.vars) ks

-- made one after another, these terms are what all give in as many rounds as there are variables
abbrev pub AreMadeInOrder : Program → MetaDesc → Rel → List KeyedVariable → Type 0
AreMadeInOrder program desc rel ks = (models : List ModelData) (scope : Scope) (before : TermValues) → target_metamodel program models ≡ desc
    → length before ≡ length rel.vars → AreGiven program rel before
    → terms_made program models scope before ks ≡ values_within program models rel (target_items program rel) scope before (length rel.vars)
