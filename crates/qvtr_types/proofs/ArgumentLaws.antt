-- Arguments of a call, one for each root of the called relation.
use Rattle.std.proofs.Common.{◌≡◌, ◌<◌, ℕ, zero, suc, List, [], ◌∷◌, ◌++◌, Bor, map, refl, sym, ap, subst, ◌∙◌, ◌⊎◌, ⊎_elim, inl, inr, length, get_or, arith}
use Rattle.std.specs.Prelude.{Some, IsTrue, slice_get}
use Rattle.std.specs.Option.{option_map}
use Rattle.std.proofs.lemmas.Option.{same_Some, none-some, slice_get-get_or, slice_get-map}
use Rattle.std.proofs.lemmas.List.{get_or-map, length-map}
use Rattle.mof_metamodel.specs.declared.desc.MetaDesc.{MetaDesc}
use Rattle.qv_syntax.specs.declared.expr.Expr.{Expr}
use Rattle.qv_syntax.specs.declared.typed.Typed.{Typed}
use Rattle.qv_syntax.specs.declared.program.Var.{Var}
use Rattle.ocl_environments.specs.Environments.{is_over}
use Rattle.qvtr_types.specs.Expressions.{HaveTypes}

-- what stands in a list with one item more stood before, or is that item
pub slice_get_push_cases : {X : Type 0} (xs : List X) (y : X) (p : ℕ) (t : X) → slice_get (xs ++ y ∷ []) p ≡ Some t → (slice_get xs p ≡ Some t) ⊎ ((p ≡ length xs) × (y ≡ t))
slice_get_push_cases [] y zero t found = inr (refl, same_Some y t found)
slice_get_push_cases [] y (suc p) t found = absurd (none-some t found)
slice_get_push_cases (x ∷ xs) y zero t found = inl found
slice_get_push_cases (x ∷ xs) y (suc p) t found = ⊎_elim
    (λ before. inl before)
    (λ last. let at : p ≡ length xs = last.0 in let one : suc p ≡ length (x ∷ xs) = omega arith in inr (one, last.1))
    (slice_get_push_cases xs y p t found)

-- ---- roots, as references

module _ (roots : List (Bor Var)) (i : ℕ) (root : Bor Var) (within : i < length roots) (is : root ≡ get_or roots i root) where
  abbrev shown : List (Bor Var) → List Var
  shown rs = map {A = Bor Var} {B = Var} (λ r. r.now) rs

  pub root_at : slice_get (shown roots) i ≡ Some root.now
  root_at = slice_get-map (λ (r : Bor Var). r.now) roots i ∙ ap (option_map (λ (r : Bor Var). r.now)) (slice_get-get_or roots i root within ∙ ap Some (sym is))

  pub root_typed : (metas : List MetaDesc) → HaveTypes metas (shown roots) → IsTrue (is_over metas root.now.ty)
  root_typed metas typed =
      let at : get_or (shown roots) i root.now ≡ root.now = get_or-map {X = Bor Var} {Y = Var} (λ r. r.now) roots i root root.now within ∙ ap (λ (r : Bor Var). r.now) (sym is) in
      let l : i < length (shown roots) = omega (arith, within, length-map {A = Bor Var} {B = Var} roots (λ r. r.now)) in
      subst (λ (v : Var). IsTrue (is_over metas v.ty)) at (typed i root.now l)

-- ---- one argument more

module _ (Is : Var → Expr → Typed → Type 0) (roots : List Var) (args : List Expr) where
  abbrev AreEach : List Typed → Type 0
  AreEach trees = (p : ℕ) (root : Var) (e : Expr) (tree : Typed) → slice_get roots p ≡ Some root → slice_get args p ≡ Some e → slice_get trees p ≡ Some tree → Is root e tree

  pub each_more : (trees : List Typed) (root : Var) (e : Expr) (tree : Typed) → AreEach trees → slice_get roots (length trees) ≡ Some root → slice_get args (length trees) ≡ Some e → Is root e tree
      → AreEach (trees ++ tree ∷ [])
  each_more trees root e tree each here arg is p r x t at_root at_arg at_tree = ⊎_elim
      (λ before. each p r x t at_root at_arg before)
      (λ last.
      let one : root ≡ r = same_Some root r (sym here ∙ ap (slice_get roots) (sym last.0) ∙ at_root) in
      let other : e ≡ x = same_Some e x (sym arg ∙ ap (slice_get args) (sym last.0) ∙ at_arg) in
      subst (λ (v : Var). Is v x t) one (subst (λ (y : Expr). Is root y t) other (subst (Is root e) last.1 is)))
      (slice_get_push_cases trees tree p t at_tree)
