-- The classes of a metamodel that are some classes or inherit from them (MOF 2.5.1, 13.4), as marks.
use Rattle.std.specs.Prelude.{◌≡◌, ◌<◌, ◌||◌, ℕ, Bool, List, length}
use Rattle.std.specs.List.{list_any}
use Rattle.mof_metamodel.specs.declared.desc.MetaDesc.{MetaDesc}
use Rattle.mof_metamodel.specs.Metamodels.{class_count}
use Rattle.qvtr_semantics.specs.Objects.{is_kind_of}
use Rattle.template_match.specs.Marks.{is_marked}

-- the class is one of these or inherits from one
abbrev pub is_kind_of_any : MetaDesc → List ℕ → ℕ → Bool
is_kind_of_any meta classes c = list_any (is_kind_of meta c) classes

-- a mark for each class: whether it is one of these or inherits from one
pub record AreKinds (meta : MetaDesc) (classes : List ℕ) (marks : List Bool) : Type 0 where
  pub count : length marks ≡ class_count meta
  pub each : (c : ℕ) → c < class_count meta → is_marked marks c ≡ is_kind_of_any meta classes c

-- the class and those that inherit from it are marked too
abbrev pub AddsKinds : MetaDesc → ℕ → List Bool → List Bool → Type 0
AddsKinds meta class old new = (c : ℕ) → c < class_count meta → is_marked new c ≡ (is_marked old c || is_kind_of meta c class)
