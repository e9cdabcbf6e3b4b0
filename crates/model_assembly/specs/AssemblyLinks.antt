-- The links of a file, made one by one (UML 2.5.1, 11.5: a link of an association has two ends).
use Rattle.std.specs.Prelude.{◌≡◌, ℕ, ◌<◌, ◌||◌, Bool, true, false, nat_eq, ⊤, List, [], ◌∷◌, Option, None, Some, if◌then◌else◌}
use Rattle.std.specs.List.{list_any}
use Rattle.mof_metamodel.specs.declared.desc.MetaDesc.{MetaDesc}
use Rattle.mof_metamodel.specs.Metamodels.{opposite_of}
use Rattle.object_tables.specs.Kept.{Kept}
use Rattle.object_tables.specs.Models.{ModelData, class_at, partners_at, linked, IsReferenceOf, IsPartnerFor, IsFree}
use Rattle.model_assembly.specs.declared.assembly.naming.Naming.{Naming}
use Rattle.model_assembly.specs.AssemblyFirsts.{same_naming}
use Rattle.model_assembly.specs.AssemblyNamings.{naming, at}

-- what is named is a partner
abbrev pub has_partner : ModelData → Naming → Bool
has_partner m n = list_any (nat_eq n.target) (partners_at m n.object n.property)

-- the two may be linked
pub record IsLinkable (m : ModelData) (n : Naming) : Type 0 where
  pub reference : IsReferenceOf m n.object n.property
  pub partner : IsPartnerFor m n.property n.target
  pub free : IsFree m n.property n.object n.target

-- the two are linked, if they weren't
abbrev pub linked_once : ModelData → Naming → ModelData
linked_once m n = if has_partner m n then m else linked m n.property n.object n.target

abbrev pub linked_all : ModelData → List Naming → ModelData
linked_all m [] = m
linked_all m (n ∷ ns) = linked_all (linked_once m n) ns

-- each may be linked where it isn't yet
abbrev pub MayBeLinked : ModelData → List Naming → Type 0
MayBeLinked m [] = ⊤
MayBeLinked m (n ∷ ns) = (has_partner m n ≡ false → IsLinkable m n) × MayBeLinked (linked_once m n) ns

-- the pair of a naming, seen from both ends
abbrev pub is_back : Naming → Naming → Option ℕ → Bool
is_back n other None = false
is_back n other (Some q) = same_naming (naming n.target q n.object) other

abbrev pub is_pair_of : MetaDesc → Naming → Naming → Bool
is_pair_of meta n other = same_naming n other || is_back n other (opposite_of meta n.property)

-- the keys are the pairs of the model, each seen from both ends
abbrev pub ArePairs : ModelData → List Naming → Type 0
ArePairs m keys = (n : Naming) → list_any (same_naming n) keys ≡ has_partner m n

-- the model m is the model without partners in which the first namings of a list are linked
pub record IsLinkedTo (start : ModelData) (xs : List Naming) (i : ℕ) (m : ModelData) : Type 0 where
  pub meta : m.meta ≡ start.meta
  pub classes : (o : ℕ) → class_at m o ≡ class_at start o
  pub kept : Kept m
  pub known : (o : Naming) → has_partner m o ≡ true → (j : ℕ) × (j < i) × (is_pair_of start.meta (at xs j) o ≡ true)
  pub all : (j : ℕ) (o : Naming) → j < i → is_pair_of start.meta (at xs j) o ≡ true → has_partner m o ≡ true
