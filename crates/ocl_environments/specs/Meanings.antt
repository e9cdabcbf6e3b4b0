-- Names with what they mean, in tables: what is found under a name where a type, a class or an enumeration is asked for.
use Rattle.std.specs.Prelude.{◌≡◌, ℕ, ◌==◌, nat_lt, List, Option, None, Some, if◌then◌else◌, length, slice_index_or}
use Rattle.std.specs.Option.{option_map, option_map_or}
use Rattle.mof_metamodel.specs.declared.desc.MetaDesc.{MetaDesc}
use Rattle.ocl_environments.specs.declared.classifier.Classifier.{Classifier}
use Rattle.ocl_environments.specs.declared.classifier.Classifier.TheVariants.{Class, Enum}
use Rattle.ocl_environments.specs.declared.classifier.Found.{Found}
use Rattle.ocl_environments.specs.declared.classifier.Found.TheVariants.{Nothing}
use Rattle.ocl_environments.specs.declared.classifier.Wanted.{Wanted}
use Rattle.ocl_environments.specs.declared.classifier.Wanted.TheVariants.{Types, Classes, Enums}
use Rattle.ocl_environments.specs.declared.meaning.Meaning.{Meaning}
use Rattle.ocl_environments.specs.declared.meaning.MeaningTable.{MeaningTable}
use Rattle.ocl_environments.specs.Environments.{number_of}
use Rattle.ocl_environments.specs.Classifiers.{class_in, enum_in}
use Rattle.ocl_environments.specs.Finding.{next_found}

-- ---- what one name means

abbrev pub no_meaning : Meaning
no_meaning = record { types = Nothing; classes = Nothing; enums = Nothing }

-- what is found of the kind that is asked for
abbrev pub found_as : Wanted → Meaning → Found
found_as Types m = m.types
found_as Classes m = m.classes
found_as Enums m = m.enums

-- with a class or an enumeration more
abbrev pub with_classifier : Meaning → Classifier → Meaning
with_classifier meaning (Class m c) = record { types = next_found meaning.types (Class m c); classes = next_found meaning.classes (Class m c); enums = meaning.enums }
with_classifier meaning (Enum m e) = record { types = next_found meaning.types (Enum m e); classes = meaning.classes; enums = next_found meaning.enums (Enum m e) }

-- with one more, if there is one
abbrev pub with_option : Meaning → Option Classifier → Meaning
with_option meaning None = meaning
with_option meaning (Some c) = with_classifier meaning c

-- with the class and the enumeration that the name has in the metamodel of number m
abbrev pub with_meta : Meaning → ℕ → MetaDesc → List ℕ → Meaning
with_meta meaning m meta name = with_option (with_option meaning (class_in m meta name)) (enum_in m meta name)

-- ---- tables

-- of where the name stands among the names
abbrev pub meaning_at : List Meaning → Option ℕ → Meaning
meaning_at meanings place = option_map_or (λ i. slice_index_or meanings i no_meaning) place no_meaning

-- what the name means in the table; a name that isn't there means nothing
abbrev pub meaning_in : MeaningTable → List ℕ → Meaning
meaning_in t name = meaning_at t.meanings.items (number_of t.names name)

-- each name has what it means
abbrev pub IsParallel : MeaningTable → Type 0
IsParallel t = length t.meanings.items ≡ length t.names

-- ---- on the way through the classes, or the enumerations, of a metamodel

-- the number, if it is this one
abbrev pub at_number : ℕ → Option ℕ → Option ℕ
at_number n None = None
at_number n (Some i) = if i == n then Some i else None

-- the number, if it is below this one
abbrev pub below : ℕ → Option ℕ → Option ℕ
below n None = None
below n (Some i) = if nat_lt i n then Some i else None

abbrev pub class_of_number : ℕ → Option ℕ → Option Classifier
class_of_number m number = option_map (λ c. Class m (record { 0 = c })) number

abbrev pub enum_of_number : ℕ → Option ℕ → Option Classifier
enum_of_number m number = option_map (λ e. Enum m (record { 0 = e })) number
