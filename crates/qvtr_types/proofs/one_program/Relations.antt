-- A relation resolves to one relation (QVT 1.3, section 7.11.1.4), where it has one list of variables and each expression has one typed tree.
use Rattle.std.proofs.Common.{◌≡◌, ℕ, Bool, true, false, List, refl, sym, ◌∙◌, subst, arith, true≢false}
use Rattle.std.specs.Prelude.{Option, Some, Contains, slice_get, ◌↔◌}
use Rattle.qv_syntax.specs.declared.expr.Expr.{Expr}
use Rattle.qv_syntax.specs.declared.typed.Typed.{Typed}
use Rattle.qv_syntax.specs.declared.script.BlockTree.{BlockTree}
use Rattle.qv_syntax.specs.declared.script.Script.{Script}
use Rattle.qv_syntax.specs.declared.script.RelationTree.{RelationTree}
use Rattle.qv_syntax.specs.declared.program.Rel.{Rel}
use Rattle.qv_syntax.specs.declared.program.Var.{Var}
use Rattle.ocl_types.specs.HasType.{HasTree}
use Rattle.script_scopes.specs.Conjuncts.{clause_conjuncts, equation_of}
use Rattle.script_scopes.specs.Occurrences.{variables_of}
use Rattle.script_scopes.specs.Divisions.{IsUniversal, IsEquation, IsWhenEquation, IsWhereEquation}
use Rattle.script_scopes.specs.Directions.{IsInDirection, IsStratum}
use Rattle.script_scopes.specs.Environments.{Setting, in_relation}
use Rattle.script_scopes.specs.Resolutions.{IsData, AreThose, AreDomains, AreConjuncts, IsRelation}
use Rattle.script_scopes.specs.Faults.{AreVariables}
use Rattle.script_scopes.proofs.CallRowLaws.{within_some}
use Rattle.qvtr_types.proofs.one_program.Lists.{one_ascending}
use Rattle.qvtr_types.proofs.one_program.Templates.{one_domains}
use Rattle.qvtr_types.proofs.one_program.Conjuncts.{one_conjuncts}

-- the numbers of the variables of which something holds
module _ (r : RelationTree) (Holds : List ℕ → Type 0) where
  among_both : (xs ys : List ℕ) → AreThose r Holds xs → AreThose r Holds ys → (n : ℕ) → Contains xs n → Contains ys n
  among_both xs ys one other n c =
      let (name, found) = within_some (variables_of r) n (one.within n c) in
      (other.those n name found).1 ((one.those n name found).0 c)

  pub one_numbers : (xs ys : List ℕ) → AreThose r Holds xs → AreThose r Holds ys → xs ≡ ys
  one_numbers xs ys one other = one_ascending xs ys one.order other.order (among_both xs ys one other) (among_both ys xs other one)

-- what is true where the same holds
pub one_test : (a b : Bool) (P : Type 0) → (a ≡ true) ↔ P → (b ≡ true) ↔ P → a ≡ b
one_test true true P one other = refl
one_test true false P one other = absurd (true≢false (sym (other.1 (one.0 refl))))
one_test false true P one other = absurd (true≢false (sym (one.1 (other.0 refl))))
one_test false false P one other = refl

pub one_stratum : (script : Script) (r : RelationTree) (m n : ℕ) → IsStratum script r m → IsStratum script r n → m ≡ n
one_stratum script r m n one other =
    let below = other.greatest one.reached.0 m one.reached.1 in
    let above = one.greatest other.reached.0 n other.reached.1 in
    omega (arith, below, above)

-- the conjunct of an equation
given_at : (IsSingle IsSought : List ℕ → Type 0) (target : List ℕ) (r : RelationTree) (clause : Option BlockTree) (place : ℕ) (v : List ℕ) (e : Expr)
    → IsEquation IsSingle target r IsSought clause place v e → (c : Expr) × (slice_get (clause_conjuncts clause) place ≡ Some c) × (equation_of c ≡ Some (v, e))
given_at IsSingle IsSought target r clause place v e is = (is.given.conjunct, is.given.found, is.given.is)

module _ (s : Setting) (r : RelationTree) (one_list : (xs ys : List Var) → AreVariables s r xs → AreVariables s r ys → xs ≡ ys)
    (trees : (vars : List Var) → AreVariables s r vars → (e : Expr) (t u : Typed) → HasTree (in_relation s r vars) e t → HasTree (in_relation s r vars) e u → t ≡ u) where
  pub one_relation : (a b : Rel) → IsRelation s r a → IsRelation s r b → a ≡ b
  one_relation a b one other =
      let vars : a.vars ≡ b.vars = one_list a.vars b.vars one.vars other.vars in
      let name : a.name ≡ b.name = one.named ∙ sym other.named in
      let top : a.top ≡ b.top = one.top ∙ sym other.top in
      let direction : a.in_direction ≡ b.in_direction = one_test a.in_direction b.in_direction (IsInDirection s.target r) one.direction other.direction in
      let stratum : a.stratum ≡ b.stratum = one_stratum s.script r a.stratum b.stratum one.stratum other.stratum in
      let universal : a.universal ≡ b.universal = one_numbers r (IsUniversal s.target r) a.universal b.universal one.universal other.universal in
      let existential : a.existential ≡ b.existential = one_numbers r (λ v. ¬ IsUniversal s.target r v) a.existential b.existential one.existential other.existential in
      let domains : a.domains ≡ b.domains = one_domains s r a.vars (trees a.vars one.vars) a.domains b.domains one.domains
      (subst (λ (vs : List Var). AreDomains s r vs b.domains) (sym vars) other.domains) in
      let whens : a.whens ≡ b.whens = one_conjuncts s r a.vars (trees a.vars one.vars) (IsWhenEquation (IsData s r) s.target r) (clause_conjuncts r.when)
      (given_at (IsData s r) (λ w. IsUniversal s.target r w) s.target r r.when) a.whens b.whens one.whens
      (subst (λ (vs : List Var). AreConjuncts s r vs (IsWhenEquation (IsData s r) s.target r) (clause_conjuncts r.when) b.whens) (sym vars) other.whens) in
      let wheres : a.wheres ≡ b.wheres = one_conjuncts s r a.vars (trees a.vars one.vars) (IsWhereEquation (IsData s r) s.target r) (clause_conjuncts r.wheres)
      (given_at (IsData s r) (λ w. ¬ IsUniversal s.target r w) s.target r r.wheres) a.wheres b.wheres one.wheres
      (subst (λ (vs : List Var). AreConjuncts s r vs (IsWhereEquation (IsData s r) s.target r) (clause_conjuncts r.wheres) b.wheres) (sym vars) other.wheres) in
      λ i. record {
        name = name i;
        top = top i;
        in_direction = direction i;
        stratum = stratum i;
        vars = vars i;
        universal = universal i;
        existential = existential i;
        domains = domains i;
        whens = whens i;
        wheres = wheres i;
      }
