-- The first of the faults that references have, as they are looked for (MOF 2.5.1, 12.4; UML 2.5.1, 9.5.3 and 11.5).
use Rattle.std.specs.Prelude.{◌≡◌, ℕ, ◌<◌, ◌==◌, ◌&&◌, Bool, true, false, not, All, HoldsAt, List, length, take, slice_get, slice_index_or, Option, None, Some, MatchOption}
use Rattle.mof_metamodel.specs.declared.desc.MetaDesc.{MetaDesc}
use Rattle.mof_metamodel.specs.declared.desc.ClassId.{ClassId}
use Rattle.mof_metamodel.specs.declared.desc.PropType.{PropType}
use Rattle.mof_metamodel.specs.declared.desc.PropType.TheVariants as types
use Rattle.std.specs.List.{list_any}
use Rattle.mof_metamodel.specs.Metamodels.{class_count, type_of, opposite_of, conforms_within}
use Rattle.object_tables.specs.Lists.{update_at}
use Rattle.model_assembly.specs.declared.assembly.entry.Entry.{Entry}
use Rattle.model_assembly.specs.declared.assembly.naming.Naming.{Naming}
use Rattle.model_assembly.specs.declared.assembly.first.Part.{Part}
use Rattle.model_assembly.specs.declared.assembly.naming.Saying.{Saying}
use Rattle.model_assembly.specs.AssemblyNamings.{part_of, naming, saying}

-- Dangling

-- the class conforms to the type
abbrev pub conforms_to : MetaDesc → ℕ → Option PropType → Bool
conforms_to meta class (Some (types.Class c)) = conforms_within meta (class_count meta) class c.0
conforms_to meta class type = false

abbrev pub is_unfit : MetaDesc → ℕ → Option ClassId → Bool
is_unfit meta p None = true
is_unfit meta p (Some class) = not (conforms_to meta class.0 (type_of meta p))

abbrev pub is_astray : MetaDesc → List ClassId → ℕ → Option ℕ → Bool
is_astray meta classes p None = true
is_astray meta classes p (Some b) = is_unfit meta p (slice_get classes b)

-- what is named is no object of the property's type
abbrev pub is_dangling : MetaDesc → List ClassId → Entry → Bool
is_dangling meta classes e = is_astray meta classes e.property.0 e.target

abbrev pub IsFirstDangling : MetaDesc → List ClassId → List Entry → Option ℕ → Type 0
IsFirstDangling meta classes es found =
    MatchOption found (All (λ e. is_dangling meta classes e ≡ false) es)
    (λ i. (i < length es) × HoldsAt (λ e. is_dangling meta classes e ≡ true) es i × All (λ e. is_dangling meta classes e ≡ false) (take i es))

-- Parts by their numbers

abbrev pub is_other : Part → Option Part → Bool
is_other part None = false
is_other part (Some other) = not ((other.part == part.part) && ((other.whole == part.whole) && (other.property == part.property)))

abbrev pub is_contradicted : List (Option Part) → Part → Bool
is_contradicted parts part = is_other part (slice_index_or parts part.part None)

abbrev pub or_part : Part → Option Part → Option Part
or_part part None = Some part
or_part part (Some other) = Some other

abbrev pub with_part : List (Option Part) → Part → List (Option Part)
with_part parts part = update_at parts part.part (or_part part)

abbrev pub is_contradicted_if : List (Option Part) → Option Part → Bool
is_contradicted_if parts None = false
is_contradicted_if parts (Some part) = is_contradicted parts part

abbrev pub is_contradicted_by : MetaDesc → List (Option Part) → Naming → Bool
is_contradicted_by meta parts n = is_contradicted_if parts (part_of meta n)

abbrev pub with_part_if : List (Option Part) → Option Part → List (Option Part)
with_part_if parts None = parts
with_part_if parts (Some part) = with_part parts part

abbrev pub with_naming : MetaDesc → List (Option Part) → Naming → List (Option Part)
with_naming meta parts n = with_part_if parts (part_of meta n)

-- Ends

abbrev pub same_naming : Naming → Naming → Bool
same_naming a b = (a.object == b.object) && ((a.property == b.property) && (a.target == b.target))

abbrev pub same_saying : Saying → Saying → Bool
same_saying a b = (a.object == b.object) && (a.property == b.property)

abbrev pub is_unanswered_at : List Naming → List Saying → Naming → Option ℕ → Bool
is_unanswered_at xs says n None = false
is_unanswered_at xs says n (Some q) = list_any (same_saying (saying n.target q)) says && not (list_any (same_naming (naming n.target q n.object)) xs)

abbrev pub is_unanswered : MetaDesc → List Naming → List Saying → Naming → Bool
is_unanswered meta xs says n = is_unanswered_at xs says n (opposite_of meta n.property)

abbrev pub IsFirstUnanswered : MetaDesc → List Naming → List Saying → Option ℕ → Type 0
IsFirstUnanswered meta xs says found =
    MatchOption found (All (λ n. is_unanswered meta xs says n ≡ false) xs)
    (λ i. (i < length xs) × HoldsAt (λ n. is_unanswered meta xs says n ≡ true) xs i × All (λ n. is_unanswered meta xs says n ≡ false) (take i xs))
