-- The conjuncts of a clause resolve to one list (QVT 1.3, section 7.11.1.4), where each expression has one typed tree: a call, an equation and a
-- condition exclude each other.
use Rattle.std.proofs.Common.{◌≡◌, ℕ, List, sym, ◌∙◌, ap, subst, arith}
use Rattle.std.specs.Prelude.{Some, position, slice_get}
use Rattle.std.specs.List.{AllZip}
use Rattle.std.proofs.lemmas.Option.{same_Some, slice_get_within}
use Rattle.mof_metamodel.specs.Characters.{same_name}
use Rattle.qv_syntax.specs.declared.expr.Expr.{Expr, out-Expr}
use Rattle.qv_syntax.specs.declared.typed.Typed.{Typed}
use Rattle.qv_syntax.specs.declared.script.RelationTree.{RelationTree}
use Rattle.qv_syntax.specs.declared.program.Conj.{Conj}
use Rattle.qv_syntax.specs.declared.program.Conj.TheVariants as conjs
use Rattle.qv_syntax.specs.declared.program.Var.{Var}
use Rattle.ocl_types.specs.HasType.{HasTree}
use Rattle.script_scopes.specs.Conjuncts.{call_of, equation_of}
use Rattle.script_scopes.specs.Occurrences.{variables_of}
use Rattle.script_scopes.specs.Directions.{IsRelationName}
use Rattle.script_scopes.specs.Declarations.{relation_names}
use Rattle.script_scopes.specs.Environments.{Setting, in_relation, place_of}
use Rattle.script_scopes.specs.Resolutions.{IsConjunct, AreConjuncts}
use Rattle.script_scopes.proofs.CallLaws.{named_relation}
use Rattle.script_scopes.proofs.CallRowLaws.{within_some}
use Rattle.mof_metamodel.proofs.Facts.{contains_at}
use Rattle.script_variables.proofs.BindingLaws.{number_at}
use Rattle.script_variables.proofs.VariableLaws.{zip_one}
use Rattle.qvtr_types.proofs.ProgramCallLaws.{apart}
use Rattle.qvtr_types.proofs.one_program.Lists.{by_place}

module _ (s : Setting) (r : RelationTree) (vars : List Var) (same_tree : (e : Expr) (t u : Typed) → HasTree (in_relation s r vars) e t → HasTree (in_relation s r vars) e u → t ≡ u)
    (IsEquation : ℕ → List ℕ → Expr → Type 0) (exprs : List Expr)
    (gives : (place : ℕ) (v : List ℕ) (e : Expr) → IsEquation place v e → (c : Expr) × (slice_get exprs place ≡ Some c) × (equation_of c ≡ Some (v, e))) where
  -- the conjunct at the place of an equation is that equation
  equation_at : (place : ℕ) (c : Expr) → slice_get exprs place ≡ Some c → (v : List ℕ) (e : Expr) → IsEquation place v e → equation_of c ≡ Some (v, e)
  equation_at place c at v e is = let (d, found, given) = gives place v e is in ap equation_of (same_Some c d (sym at ∙ found)) ∙ given

  -- a name with a number is one of a relation
  numbered : (name : List ℕ) (number : ℕ) → position (same_name name) (relation_names s.script) ≡ Some number → IsRelationName s.script name
  numbered name number at = named_relation s.script name (contains_at (relation_names s.script) number name (number_at (relation_names s.script) name number at))

  module _ (place : ℕ) (c : Expr) (at : slice_get exprs place ≡ Some c) where
    one_call : (name other : List ℕ) (args more : List Expr) (m n : ℕ) (ts us : List Typed) → call_of c ≡ Some (name, args) → call_of c ≡ Some (other, more)
        → position (same_name name) (relation_names s.script) ≡ Some m → position (same_name other) (relation_names s.script) ≡ Some n
        → AllZip (HasTree (in_relation s r vars)) args ts → AllZip (HasTree (in_relation s r vars)) more us → conjs.Call m ts ≡ conjs.Call n us
    one_call name other args more m n ts us is its first second all their =
        let one : List ℕ × List Expr = (name, args) in
        let two : List ℕ × List Expr = (other, more) in
        let same : one ≡ two = same_Some one two (sym is ∙ its) in
        let number : m ≡ n = same_Some m n (sym first ∙ ap (λ (p : List ℕ × List Expr). position (same_name p.0) (relation_names s.script)) same ∙ second) in
        let list : ts ≡ us = zip_one (HasTree (in_relation s r vars)) same_tree args ts us all
        (subst (λ (p : List ℕ × List Expr). AllZip (HasTree (in_relation s r vars)) p.1 us) (sym same) their) in
        λ i. conjs.Call (number i) (list i)

    one_equation : (v w : List ℕ) (e f : Expr) (t u : Typed) → IsEquation place v e → IsEquation place w f → HasTree (in_relation s r vars) e t → HasTree (in_relation s r vars) f u
        → conjs.Equation (place_of v (variables_of r)) t ≡ conjs.Equation (place_of w (variables_of r)) u
    one_equation v w e f t u is its has other =
        let one : List ℕ × Expr = (v, e) in
        let two : List ℕ × Expr = (w, f) in
        let same : one ≡ two = same_Some one two (sym (equation_at place c at v e is) ∙ equation_at place c at w f its) in
        let number : place_of v (variables_of r) ≡ place_of w (variables_of r) = ap (λ (p : List ℕ × Expr). place_of p.0 (variables_of r)) same in
        let tree : t ≡ u = same_tree e t u has (subst (λ (p : List ℕ × Expr). HasTree (in_relation s r vars) p.1 u) (sym same) other) in
        λ i. conjs.Equation (number i) (tree i)

    one_conjunct : (x y : Conj) → IsConjunct s r vars IsEquation place c x → IsConjunct s r vars IsEquation place c y → x ≡ y
    one_conjunct _ _ (IsConjunct.call name args m ts is first all) (IsConjunct.call other more n us its second their) =
        one_call name other args more m n ts us is its first second all their
    one_conjunct _ _ (IsConjunct.call name args m ts is first all) (IsConjunct.equation v e t eq has) = absurd (apart (out-Expr c) (v, e) (name, args) (equation_at place c at v e eq) is)
    one_conjunct _ _ (IsConjunct.call name args m ts is first all) (IsConjunct.condition t none free has) = absurd (none name args is (numbered name m first))
    one_conjunct _ _ (IsConjunct.equation v e t eq has) (IsConjunct.call name args m ts is first all) = absurd (apart (out-Expr c) (v, e) (name, args) (equation_at place c at v e eq) is)
    one_conjunct _ _ (IsConjunct.equation v e t eq has) (IsConjunct.equation w f u other given) = one_equation v w e f t u eq other has given
    one_conjunct _ _ (IsConjunct.equation v e t eq has) (IsConjunct.condition u none free given) = absurd (free v e eq)
    one_conjunct _ _ (IsConjunct.condition t none free has) (IsConjunct.call name args m ts is first all) = absurd (none name args is (numbered name m first))
    one_conjunct _ _ (IsConjunct.condition t none free has) (IsConjunct.equation v e u eq given) = absurd (free v e eq)
    one_conjunct _ _ (IsConjunct.condition t none free has) (IsConjunct.condition u nothing without given) = ap (λ (x : Typed). conjs.Cond x) (same_tree c t u has given)

  pub one_conjuncts : (xs ys : List Conj) → AreConjuncts s r vars IsEquation exprs xs → AreConjuncts s r vars IsEquation exprs ys → xs ≡ ys
  one_conjuncts xs ys one other = by_place xs ys (sym one.count ∙ other.count) (λ i x y at there.
      let below = slice_get_within xs i x at in
      let count = one.count in
      let (c, found) = within_some exprs i (omega (arith, below, count)) in
      one_conjunct i c found x y (one.each i c x found at) (other.each i c y found there))
