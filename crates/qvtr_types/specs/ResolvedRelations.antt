-- A relation that is made of its parts (QVT 1.3, section 7.11.1.3).
use Rattle.std.specs.Prelude.{◌≡◌, ◌↔◌, ℕ, List, true}
use Rattle.qv_syntax.specs.declared.program.Rel.{Rel}
use Rattle.qv_syntax.specs.declared.program.Var.{Var}
use Rattle.qv_syntax.specs.declared.program.Dom.{Dom}
use Rattle.qv_syntax.specs.declared.program.Conj.{Conj}
use Rattle.qv_syntax.specs.declared.script.RelationTree.{RelationTree}
use Rattle.script_scopes.specs.Conjuncts.{clause_conjuncts}
use Rattle.script_scopes.specs.Environments.{Setting}
use Rattle.script_scopes.specs.Divisions.{IsUniversal, IsWhenEquation, IsWhereEquation}
use Rattle.script_scopes.specs.Directions.{IsInDirection}
use Rattle.script_scopes.specs.Resolutions.{IsData, AreThose, AreDomains, AreConjuncts}

-- in the direction towards the model of this name
pub record IsMadeOf (target : List ℕ) (r : RelationTree) (stratum : ℕ) (vars : List Var) (domains : List Dom) (whens wheres : List Conj) (rel : Rel) : Type 0 where
  pub named : rel.name ≡ r.name.text
  pub top : rel.top ≡ r.top
  pub direction : (rel.in_direction ≡ true) ↔ IsInDirection target r
  pub layer : rel.stratum ≡ stratum
  pub variables : rel.vars ≡ vars
  pub universal : AreThose r (IsUniversal target r) rel.universal
  pub existential : AreThose r (λ v. ¬ IsUniversal target r v) rel.existential
  pub asked : rel.domains ≡ domains
  pub asked_first : rel.whens ≡ whens
  pub asked_then : rel.wheres ≡ wheres

-- the parts are those of the relation
pub record AreParts (s : Setting) (r : RelationTree) (vars : List Var) (doms : List Dom) (firsts thens : List Conj) : Type 0 where
  pub domains : AreDomains s r vars doms
  pub whens : AreConjuncts s r vars (IsWhenEquation (IsData s r) s.target r) (clause_conjuncts r.when) firsts
  pub wheres : AreConjuncts s r vars (IsWhereEquation (IsData s r) s.target r) (clause_conjuncts r.wheres) thens
