-- Wrong answers that the definitions exclude, each on a small case: what the definition gives, and that it isn't what the wrong
-- code would answer. A contract says that the code's result is what the definition gives, so it refuses that code.
use Rattle.std.specs.Prelude.{◌≡◌, ℕ, List, [], ◌∷◌, All, AllPairs}
use Rattle.std.proofs.Common.{refl, arith}
use Rattle.qv_syntax.specs.declared.program.Conj.{Conj}
use Rattle.qv_syntax.specs.declared.program.Dom.{Dom}
use Rattle.qv_syntax.specs.declared.program.Key.{Key}
use Rattle.qv_syntax.specs.declared.program.Rel.{Rel}
use Rattle.qv_syntax.specs.declared.program.Var.{Var}
use Rattle.qv_syntax.specs.declared.script.RelationTree.{RelationTree}
use Rattle.qv_syntax.specs.Keys.{AreOfTwoClasses}
use Rattle.script_scopes.specs.Conjuncts.{clause_conjuncts}
use Rattle.script_scopes.specs.Environments.{Setting}
use Rattle.qvtr_types.specs.ResolvedRelations.{IsMadeOf}
use Rattle.qvtr_types.specs.LoneArguments.{CallsRelated}
use Rattle.qvtr_types.specs.ScriptScopes.{HasRelatedArguments, reach_before}

-- ---- keys

-- of the class 1 of the metamodel 0
abbrev key : Key
key = record { meta = 0; class = record { 0 = 1 }; props = record { 0 = 0 } ∷ [] }

-- a second key of one class
pub second_key_kept : AllPairs AreOfTwoClasses (key ∷ key ∷ []) → ⊥
second_key_kept apart = apart 0 1 key (omega arith) (omega arith) refl refl

-- ---- strata

-- a relation of the stratum 1 as one of the stratum 0
pub first_stratum_for_all : (target : List ℕ) (r : RelationTree) (vars : List Var) (domains : List Dom) (whens wheres : List Conj) (rel : Rel)
    → IsMadeOf target r 1 vars domains whens wheres rel → rel.stratum ≡ 0 → ⊥
first_stratum_for_all target r vars domains whens wheres rel made e = let one = made.layer in absurd (omega (arith, one, e))

-- ---- arguments of calls

-- no fault of a call in the when clause whose arguments are of types that its relation can't have
pub when_not_looked_through : (s : Setting) (r : RelationTree) (vars : List Var) (roots : List (List Var))
    → (All (CallsRelated (reach_before s roots r) vars) (clause_conjuncts r.when) → ⊥) → HasRelatedArguments s r vars roots → ⊥
when_not_looked_through s r vars roots unrelated related = unrelated related.whens
