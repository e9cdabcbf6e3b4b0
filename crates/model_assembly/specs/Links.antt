-- Links as a file writes them (XMI 2.5.1, 7.10; UML 2.5.1, 11.5: a link of an association has two ends). An object speaks at a reference
-- where it writes it in any form. A pair of objects is linked where one that speaks names the other.
use Rattle.std.specs.Prelude.{◌≡◌, ◌⊎◌, ℕ, ◌<◌, ◌||◌, Bool, true, false, is_some, List, [], ◌∷◌, AllPairs, Some}
use Rattle.mof_metamodel.specs.Metamodels.{opposite_of}
use Rattle.object_tables.specs.Models.{ModelData, IsLinked, partners_at}
use Rattle.model_assembly.specs.References.{Target}
use Rattle.model_assembly.specs.Source.{Source, attr_text, element_targets, named_at, names}

abbrev pub is_some_target : List Target → Bool
is_some_target [] = false
is_some_target (target ∷ targets) = true

-- the object writes the reference, by an empty attribute too
abbrev pub speaks : Source → ℕ → ℕ → Bool
speaks s o p = is_some (attr_text s o p) || is_some_target (element_targets s o p)

-- the object a names b at p
abbrev pub Names : Source → ℕ → ℕ → ℕ → Type 0
Names s p a b = names s a p b ≡ true

-- b names a at the opposite of p
abbrev pub NamesBack : Source → ℕ → ℕ → ℕ → Type 0
NamesBack s p a b = (q : ℕ) × (opposite_of s.meta p ≡ Some q) × Names s q b a

-- the pair is linked by the association of p
abbrev pub IsPair : Source → ℕ → ℕ → ℕ → Type 0
IsPair s p a b = Names s p a b ⊎ NamesBack s p a b

-- a pair is linked that one of the two, which speaks, doesn't name: at p the object a names b, which at q, the opposite, names others
pub record IsDisputed (s : Source) (p a b q : ℕ) : Type 0 where
  pub opposite : opposite_of s.meta p ≡ Some q
  pub named : Names s p a b
  pub speaking : speaks s b q ≡ true
  pub unnamed : names s b q a ≡ false

-- the partners of an object stand in the order in which it writes them, or by number where it doesn't speak
abbrev pub AreOrdered : Source → ModelData → ℕ → ℕ → Type 0
AreOrdered s m a p = (speaks s a p ≡ true → partners_at m a p ≡ named_at s a p) × (speaks s a p ≡ false → AllPairs (λ b c. b < c) (partners_at m a p))

-- the links of a model are the pairs, each seen from both of its ends
pub record HasLinks (s : Source) (m : ModelData) (a p : ℕ) : Type 0 where
  pub all : (b : ℕ) → IsPair s p a b → IsLinked m p a b
  pub only : (b : ℕ) → IsLinked m p a b → IsPair s p a b
  pub order : AreOrdered s m a p
