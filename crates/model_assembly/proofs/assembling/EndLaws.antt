-- What was met of namings and sayings tells which naming is unanswered.
use Rattle.std.proofs.Common.{◌≡◌, ℕ, List, refl, Option, Some, None}
use Rattle.std.specs.Prelude.{◌&&◌, not}
use Rattle.std.specs.List.{list_any}
use Rattle.mof_metamodel.specs.declared.desc.MetaDesc.{MetaDesc}
use Rattle.mof_metamodel.specs.Metamodels.{opposite_of}
use Rattle.model_assembly.specs.declared.assembly.naming.Naming.{Naming}
use Rattle.model_assembly.specs.declared.assembly.naming.Saying.{Saying}
use Rattle.model_assembly.specs.AssemblyFirsts.{same_naming, same_saying, is_unanswered, is_unanswered_at}
use Rattle.model_assembly.specs.AssemblyNamings.{naming, saying}

pub unanswered_alike : (meta : MetaDesc) (xs ys : List Naming) (ss ts : List Saying) → ((n : Naming) → list_any (same_naming n) xs ≡ list_any (same_naming n) ys)
    → ((t : Saying) → list_any (same_saying t) ss ≡ list_any (same_saying t) ts) → (n : Naming) → is_unanswered meta xs ss n ≡ is_unanswered meta ys ts n
unanswered_alike meta xs ys ss ts h k n = by (opposite_of meta n.property)
  where
    by : (o : Option ℕ) → is_unanswered_at xs ss n o ≡ is_unanswered_at ys ts n o
    by None = refl
    by (Some q) = λ i. k (saying n.target q) i && not (h (naming n.target q n.object) i)
