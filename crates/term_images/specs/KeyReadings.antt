-- Values by which objects are told apart (QVT 1.3, section 7.10.2), as they are compared: an object of the target goes by its number in the
-- model, in the place of the number of a term.
use Rattle.std.specs.Prelude.{◌≡◌, ℕ, Bool, List, [], ◌∷◌, map, Option, Some, None, Contains}
use Rattle.std.specs.List.{list_any}
use Rattle.mof_metamodel.specs.declared.desc.PropId.{PropId}
use Rattle.object_tables.specs.declared.value.Value.{Value}
use Rattle.object_tables.specs.Models.{ModelData}
use Rattle.qv_syntax.specs.declared.program.Program.{Program}
use Rattle.qvtr_semantics.specs.Objects.{value_datum}
use Rattle.repair_semantics.specs.Claims.{Held, same_held}
use Rattle.repair_semantics.specs.Images.{same_number, held_in}
use Rattle.term_table.specs.declared.numbered.NumberedValue.{NumberedValue}
use Rattle.term_table.specs.declared.numbered.NumberedValue.TheVariants as numbered

-- a value, or an object by its number, as what a slot holds
abbrev pub as_held : NumberedValue → Held ℕ
as_held (numbered.Val d) = Held.datum d
as_held (numbered.Term n) = Held.object n

-- a value that is asked for
abbrev pub asked_value : NumberedValue → Option (Held ℕ)
asked_value w = Some (as_held w)

-- the values that are asked for
abbrev pub asked : List NumberedValue → List (Option (Held ℕ))
asked ws = map asked_value ws

-- ---- what objects hold

-- the values of an attribute
abbrev pub read_values : ℕ → List Value → List NumberedValue
read_values meta vs = map (λ v. numbered.Val (value_datum meta v)) vs

-- the partners at a reference
abbrev pub read_partners : List ℕ → List NumberedValue
read_partners bs = map (λ b. numbered.Term b) bs

-- the value is among those that are held
abbrev pub is_held : NumberedValue → List NumberedValue → Bool
is_held v held = list_any (same_held same_number (as_held v)) (map as_held held)

-- what an object holds at each property of a key
abbrev pub held_at_each : Program → ModelData → ℕ → List PropId → List (List (Held ℕ))
held_at_each program m o ps = map (λ p. held_in program m o p.0) ps

-- a slot with this value alone
abbrev pub alone : NumberedValue → List (Held ℕ)
alone v = as_held v ∷ []

-- an object has these values at the properties of a key, one at each; or it has none at one of them
abbrev pub HasKeyValues : Program → ModelData → ℕ → List PropId → Option (List NumberedValue) → Type 0
HasKeyValues program m o ps (Some vs) = held_at_each program m o ps ≡ map alone vs
HasKeyValues program m o ps None = Contains (held_at_each program m o ps) []
