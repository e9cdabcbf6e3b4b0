-- What is kept of the names of classes and enumerations: one table over all metamodels, and one for each name of a metamodel.
use Rattle.std.specs.Prelude.{◌≡◌, ℕ, List, [], ◌∷◌, Option, None, Some, if◌then◌else◌, true, All, map, length, slice_index_or}
use Rattle.std.specs.Option.{option_map_or, option_and_then}
use Rattle.mof_metamodel.specs.declared.desc.MetaDesc.{MetaDesc}
use Rattle.mof_metamodel.specs.declared.desc.EnumId.{EnumId}
use Rattle.mof_metamodel.specs.Metamodels.{same_name}
use Rattle.ocl_environments.specs.declared.classifier.Found.{Found}
use Rattle.ocl_environments.specs.declared.classifier.Found.TheVariants.{Nothing}
use Rattle.ocl_environments.specs.declared.classifier.Wanted.{Wanted}
use Rattle.ocl_environments.specs.declared.classifier.Wanted.TheVariants.{Enums}
use Rattle.ocl_environments.specs.declared.meaning.Meaning.{Meaning}
use Rattle.ocl_environments.specs.declared.meaning.MeaningTable.{MeaningTable}
use Rattle.ocl_environments.specs.declared.classifier_index.ClassifierIndex.{ClassifierIndex}
use Rattle.ocl_environments.specs.Environments.{number_of}
use Rattle.ocl_environments.specs.Classifiers.{classifiers_from, literal_in}
use Rattle.ocl_environments.specs.Finding.{with_found, one_of}
use Rattle.ocl_environments.specs.Meanings.{no_meaning, meaning_in, IsParallel, found_as, with_meta}

-- what the name means in the table of this place
abbrev pub own_meaning : List MeaningTable → List ℕ → Option ℕ → Meaning
own_meaning own name place = option_map_or (λ i. slice_index_or (map (λ t. meaning_in t name) own) i no_meaning) place no_meaning

-- what the name means in all metamodels, or in those of the name that is written before it
abbrev pub index_meaning : ClassifierIndex → Option (List ℕ) → List ℕ → Meaning
index_meaning index None name = meaning_in index.all name
index_meaning index (Some q) name = own_meaning index.own.items name (number_of index.metas q)

-- with what the name has in a metamodel of this name, if that is meant
abbrev pub with_meta_of : List ℕ → Option (List ℕ) → Meaning → ℕ → MetaDesc → List ℕ → Meaning
with_meta_of own q meaning m meta name = if option_map_or (λ q. same_name q own) q true then with_meta meaning m meta name else meaning

-- each table has what its names mean, and each name of a metamodel has a table
pub record IsIndex (index : ClassifierIndex) : Type 0 where
  pub all : IsParallel index.all
  pub own : All IsParallel index.own.items
  pub long : length index.own.items ≡ length index.metas

-- what is found of each name is what the metamodels have of it
pub record IsIndexOf (metas : List MetaDesc) (names : List (List ℕ)) (index : ClassifierIndex) : Type 0 where
  pub tables : IsIndex index
  pub found : (wanted : Wanted) (q : Option (List ℕ)) (n : List ℕ)
      → found_as wanted (index_meaning index q n) ≡ with_found Nothing (classifiers_from wanted 0 metas names q n)

-- what is found of a path: `C` or `M::C`
unfoldable pub path_found : ClassifierIndex → Wanted → List (List ℕ) → Found
path_found index wanted [] = Nothing
path_found index wanted (c ∷ []) = found_as wanted (index_meaning index None c)
path_found index wanted (m ∷ c ∷ []) = found_as wanted (index_meaning index (Some m) c)
path_found index wanted (a ∷ b ∷ c ∷ more) = Nothing

-- the literal of this name of the enumeration that is found alone
abbrev pub literal_found : List MetaDesc → List ℕ → Found → Option (ℕ × EnumId × ℕ)
literal_found metas literal found = option_and_then (literal_in metas literal) (one_of found)

-- the literal of a path: `E::literal` or `M::E::literal`
unfoldable pub path_literal_found : ClassifierIndex → List MetaDesc → List (List ℕ) → Option (ℕ × EnumId × ℕ)
path_literal_found index metas [] = None
path_literal_found index metas (a ∷ []) = None
path_literal_found index metas (e ∷ literal ∷ []) = literal_found metas literal (found_as Enums (index_meaning index None e))
path_literal_found index metas (m ∷ e ∷ literal ∷ []) = literal_found metas literal (found_as Enums (index_meaning index (Some m) e))
path_literal_found index metas (a ∷ b ∷ c ∷ d ∷ more) = None
