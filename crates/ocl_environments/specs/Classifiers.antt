-- What the names of a script name: classes and enumerations of its metamodels (OCL 2.4, section 9.4.1).
use Rattle.std.specs.Prelude.{ℕ, ◌+◌, Bool, true, if◌then◌else◌, List, [], ◌∷◌, ◌++◌, Option, None, Some, slice_index_or, position}
use Rattle.std.specs.Option.{option_map, option_map_or, option_to_list, option_and_then}
use Rattle.mof_metamodel.specs.declared.desc.MetaDesc.{MetaDesc}
use Rattle.mof_metamodel.specs.declared.desc.ClassId.{ClassId}
use Rattle.mof_metamodel.specs.declared.desc.EnumId.{EnumId}
use Rattle.mof_metamodel.specs.Metamodels.{same_name, class_number, enum_number, enum_at}
use Rattle.qv_syntax.specs.declared.ty.Ty.{Ty}
use Rattle.qv_syntax.specs.declared.ty.Ty.TheVariants as types
use Rattle.ocl_environments.specs.declared.classifier.Classifier.{Classifier}
use Rattle.ocl_environments.specs.declared.classifier.Classifier.TheVariants.{Class, Enum}
use Rattle.ocl_environments.specs.declared.classifier.Wanted.{Wanted}
use Rattle.ocl_environments.specs.declared.classifier.Wanted.TheVariants.{Types, Classes, Enums}
use Rattle.ocl_environments.specs.Environments.{Environment, meta_at}
pub use Rattle.ocl_environments.specs.Environments.{only}

-- the class of this name in the metamodel of number m
abbrev pub class_in : ℕ → MetaDesc → List ℕ → Option Classifier
class_in m meta name = option_map (λ c. Class m (record { 0 = c })) (class_number meta name)

-- and the enumeration
abbrev pub enum_in : ℕ → MetaDesc → List ℕ → Option Classifier
enum_in m meta name = option_map (λ e. Enum m (record { 0 = e })) (enum_number meta name)

-- the metamodel of number m is meant: no name of a metamodel is written, or its own
abbrev pub is_meant : List (List ℕ) → Option (List ℕ) → ℕ → Bool
is_meant names qualifier m = option_map_or (λ q. same_name q (slice_index_or names m [])) qualifier true

-- the classes that are asked for, and the enumerations
abbrev pub wanted_classes : Wanted → Option Classifier → List Classifier
wanted_classes Types class = option_to_list class
wanted_classes Classes class = option_to_list class
wanted_classes Enums class = []

abbrev pub wanted_enums : Wanted → Option Classifier → List Classifier
wanted_enums Types enumeration = option_to_list enumeration
wanted_enums Classes enumeration = []
wanted_enums Enums enumeration = option_to_list enumeration

-- what is asked for of this name in the metamodel of number m, if that is meant
abbrev pub classifiers_in : Wanted → List (List ℕ) → Option (List ℕ) → List ℕ → ℕ → MetaDesc → List Classifier
classifiers_in wanted names qualifier name m meta =
    if is_meant names qualifier m then wanted_classes wanted (class_in m meta name) ++ wanted_enums wanted (enum_in m meta name) else []

-- the same in the metamodels from number m on
unfoldable pub classifiers_from : Wanted → ℕ → List MetaDesc → List (List ℕ) → Option (List ℕ) → List ℕ → List Classifier
classifiers_from wanted m [] names qualifier name = []
classifiers_from wanted m (meta ∷ metas) names qualifier name =
    classifiers_in wanted names qualifier name m meta ++ classifiers_from wanted (m + 1) metas names qualifier name

-- those that a path names: `C` in all metamodels, `M::C` in those of the name M
unfoldable pub path_classifiers : Wanted → List MetaDesc → List (List ℕ) → List (List ℕ) → List Classifier
path_classifiers wanted metas names [] = []
path_classifiers wanted metas names (c ∷ []) = classifiers_from wanted 0 metas names None c
path_classifiers wanted metas names (m ∷ c ∷ []) = classifiers_from wanted 0 metas names (Some m) c
path_classifiers wanted metas names (a ∷ b ∷ c ∷ more) = []

abbrev pub classifier_type : Classifier → Ty
classifier_type (Class m c) = types.Class m c
classifier_type (Enum m e) = types.Enum m e

-- the type that a path names: a class or an enumeration, if it names one alone
abbrev pub named_type : Environment → List (List ℕ) → Option Ty
named_type env names = option_map classifier_type (only (path_classifiers Types env.metas env.names names))

abbrev pub class_alone : Classifier → Option (ℕ × ClassId)
class_alone (Class m c) = Some (m, c)
class_alone (Enum m e) = None

-- the class that a path names, if it names one class alone, with the number of its metamodel
abbrev pub named_class : Environment → List (List ℕ) → Option (ℕ × ClassId)
named_class env names = option_and_then class_alone (only (path_classifiers Classes env.metas env.names names))

-- the literal of this name, if that is an enumeration which has it: the metamodel, the enumeration and the literal's place
abbrev pub literal_in : List MetaDesc → List ℕ → Classifier → Option (ℕ × EnumId × ℕ)
literal_in metas literal (Class m c) = None
literal_in metas literal (Enum m e) = option_map (λ i. (m, e, i)) (position (same_name literal) (enum_at (meta_at metas m) e.0).literals)

-- the literal that a path names: `E::literal` or `M::E::literal`, the enumeration named alone
unfoldable pub path_literal : List MetaDesc → List (List ℕ) → List (List ℕ) → Option (ℕ × EnumId × ℕ)
path_literal metas names [] = None
path_literal metas names (a ∷ []) = None
path_literal metas names (e ∷ literal ∷ []) = option_and_then (literal_in metas literal) (only (classifiers_from Enums 0 metas names None e))
path_literal metas names (m ∷ e ∷ literal ∷ []) = option_and_then (literal_in metas literal) (only (classifiers_from Enums 0 metas names (Some m) e))
path_literal metas names (a ∷ b ∷ c ∷ d ∷ more) = None

abbrev pub named_literal : Environment → List (List ℕ) → Option (ℕ × EnumId × ℕ)
named_literal env names = path_literal env.metas env.names names
