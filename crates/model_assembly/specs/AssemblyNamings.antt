-- Which objects a file names at references, and what that makes part of what (UML 2.5.1, 9.5.3: composition; 11.5: links have two ends).
use Rattle.std.specs.Prelude.{◌≡◌, ◌≢◌, ℕ, ◌<◌, List, ◌++◌, map, slice_index_or, Option, None, Some, if◌then◌else◌}
use Rattle.std.specs.Option.{unwrap_or}
use Rattle.mof_metamodel.specs.declared.desc.MetaDesc.{MetaDesc}
use Rattle.mof_metamodel.specs.Metamodels.{prop_at, opposite_of}
use Rattle.model_assembly.specs.declared.filed.Mention.{Mention}
use Rattle.model_assembly.specs.declared.assembly.entry.Entry.{Entry}
use Rattle.model_assembly.specs.declared.assembly.naming.Naming.{Naming}
use Rattle.model_assembly.specs.declared.assembly.naming.Saying.{Saying}
use Rattle.model_assembly.specs.declared.assembly.first.Part.{Part}

abbrev pub naming_of : Entry → Naming
naming_of e = record { object = e.object; property = e.property.0; target = unwrap_or e.target 0 }

abbrev pub naming : ℕ → ℕ → ℕ → Naming
naming o p b = record { object = o; property = p; target = b }

abbrev pub saying : ℕ → ℕ → Saying
saying o p = record { object = o; property = p }

abbrev pub saying_of : Naming → Saying
saying_of n = saying n.object n.property

abbrev pub saying_of_mention : Mention → Saying
saying_of_mention m = saying m.object m.property.0

-- the references at which objects speak: where they name something, and where they are mentioned
abbrev pub sayings_of : List Naming → List Mention → List Saying
sayings_of xs ms = map saying_of xs ++ map saying_of_mention ms

-- the naming at a place of a list
abbrev pub at : List Naming → ℕ → Naming
at xs i = slice_index_or xs i (naming 0 0 0)

-- the first place of n that has a property, if one has it
abbrev pub IsFirstPlace : (ℕ → Type 0) → ℕ → Option ℕ → Type 0
IsFirstPlace P n None = (i : ℕ) → i < n → P i → ⊥
IsFirstPlace P n (Some i) = (i < n) × P i × ((j : ℕ) → j < i → P j → ⊥)

-- Parts

abbrev pub part_by_opposite : MetaDesc → Naming → Option ℕ → Option Part
part_by_opposite meta n None = None
part_by_opposite meta n (Some q) = if (prop_at meta q).composite then Some (record { part = n.object; whole = n.target; property = q }) else None

-- what a naming makes a part of what, and by which composite property: the one at which it stands, or its opposite
abbrev pub part_of : MetaDesc → Naming → Option Part
part_of meta n =
    if (prop_at meta n.property).composite then Some (record { part = n.target; whole = n.object; property = n.property })
    else part_by_opposite meta n (opposite_of meta n.property)

-- a naming makes an object a part of another one, or by another property, than an earlier one
pub record IsSecondWhole (meta : MetaDesc) (xs : List Naming) (i : ℕ) : Type 0 where
  pub part : Part
  pub part_is : part_of meta (at xs i) ≡ Some part
  pub earlier : ℕ
  pub before : earlier < i
  pub other : Part
  pub other_is : part_of meta (at xs earlier) ≡ Some other
  pub same : other.part ≡ part.part
  pub differs : other ≢ part
