-- The roots of the domains of a relation are among its variables: there is one variable for each, and it has one type.
use Rattle.std.proofs.Common.{◌≡◌, ℕ, zero, suc, List, [], ◌∷◌, refl, sym, ap, ◌∙◌, arith, false, true≢false}
use Rattle.std.specs.Prelude.{Some, slice_get, Contains}
use Rattle.std.specs.List.{AllZip, AllByRecursion, IsDistinct}
use Rattle.std.proofs.lemmas.Option.{same_Some, none-some, slice_get-get_or}
use Rattle.std.proofs.lemmas.Map.Keys.{IsDistinct-head, IsDistinct-tail}
use Rattle.mof_metamodel.specs.Characters.{same_name}
use Rattle.qv_syntax.specs.declared.script.RelationTree.{RelationTree}
use Rattle.qv_syntax.specs.declared.script.DomainTree.{DomainTree}
use Rattle.qv_syntax.specs.declared.program.Var.{Var}
use Rattle.qv_syntax.specs.TypedTrees.{Typing}
use Rattle.qv_syntax.specs.ProgramTypes.{typing_of}
use Rattle.script_scopes.specs.Occurrences.{occurrences, variables_of, root_of}
use Rattle.script_scopes.specs.Environments.{Setting}
use Rattle.script_scopes.specs.Resolutions.{IsVariable}
use Rattle.script_scopes.specs.Faults.{AreVariables, IsRoot}
use Rattle.qvtr_types.specs.PlacedFaults.{AreRoots}
use Rattle.script_scopes.proofs.NameLemmas.{is_same}
use Rattle.script_scopes.proofs.OnceLemmas.{new_names-distinct}
use Rattle.script_scopes.proofs.CallRowLaws.{among_some}
use Rattle.qvtr_types.proofs.OccurrenceLaws.{root_occurs}
use Rattle.qvtr_types.proofs.ZipLemmas.{zip_right}

pub root_among : (r : RelationTree) (d : DomainTree) → Contains r.domains d → Contains (variables_of r) (root_of d)
root_among r d among = let (place, found) = among_some r.domains d among in root_occurs r (root_of d) place d found refl

-- ---- where the relation has variables

module _ (s : Setting) (r : RelationTree) (vars : List Var) (are : AreVariables s r vars) where
  -- a variable for the root of a domain
  root_for : (d : DomainTree) → Contains r.domains d → (v : Var) × IsRoot s r d (typing_of v)
  root_for d among =
      let (k, within, at) = root_among r d among in
      let named : slice_get (variables_of r) k ≡ Some (root_of d) = slice_get-get_or (variables_of r) k (root_of d) within ∙ ap Some at in
      let (v, found, is) = zip_right (IsVariable s r) (variables_of r) vars k (root_of d) are named in
      (v, record { vars = vars; are = are; place = k; var = v; named = named; found = found; is = refl })

  roots_for : (ds : List DomainTree) → ((d : DomainTree) → Contains ds d → Contains r.domains d) → (roots : List Var) × AllZip (λ d root. IsRoot s r d (typing_of root)) ds roots
  roots_for [] within = ([], tt)
  roots_for (d ∷ ds) within =
      let (v, is) = root_for d (within d (0, omega arith, refl)) in
      let (more, all) = roots_for ds (λ e (k, l, at). within e (suc k, omega arith, at)) in
      (v ∷ more, (is, all))

  pub some_roots : (roots : List Var) × AreRoots s r roots
  some_roots = roots_for r.domains (λ d among. among)

-- ---- a root has one type

all_other : (y : List ℕ) (ys : List (List ℕ)) (j : ℕ) (x : List ℕ) → AllByRecursion (λ z. same_name y z ≡ false) ys → slice_get ys j ≡ Some x → same_name y x ≡ false
all_other y [] j x all at = absurd (none-some x at)
all_other y (z ∷ ys) zero x all at = ap (same_name y) (sym (same_Some z x at)) ∙ all.0
all_other y (z ∷ ys) (suc j) x all at = all_other y ys j x all.1 at

not_there : (y : List ℕ) (ys : List (List ℕ)) (j : ℕ) (x : List ℕ) → AllByRecursion (λ z. same_name y z ≡ false) ys → y ≡ x → slice_get ys j ≡ Some x → ⊥
not_there y ys j x all same at = true≢false (sym (is_same y x same) ∙ all_other y ys j x all at)

pub one_place : (xs : List (List ℕ)) (i j : ℕ) (x : List ℕ) → IsDistinct same_name xs → slice_get xs i ≡ Some x → slice_get xs j ≡ Some x → i ≡ j
one_place [] i j x apart one other = absurd (none-some x one)
one_place (y ∷ ys) zero zero x apart one other = refl
one_place (y ∷ ys) zero (suc j) x apart one other = absurd (not_there y ys j x (IsDistinct-head same_name y ys apart) (same_Some y x one) other)
one_place (y ∷ ys) (suc i) zero x apart one other = absurd (not_there y ys i x (IsDistinct-head same_name y ys apart) (same_Some y x other) one)
one_place (y ∷ ys) (suc i) (suc j) x apart one other = ap suc (one_place ys i j x (IsDistinct-tail same_name y ys apart) one other)

pub one_root : (s : Setting) (r : RelationTree) → ((a b : List Var) → AreVariables s r a → AreVariables s r b → a ≡ b) → (d : DomainTree) (t u : Typing) → IsRoot s r d t → IsRoot s r d u → t ≡ u
one_root s r same d t u one other =
    let place : one.place ≡ other.place = one_place (variables_of r) one.place other.place (root_of d) (new_names-distinct [] (occurrences r)) one.named other.named in
    let vars : one.vars ≡ other.vars = same one.vars other.vars one.are other.are in
    let found : Some one.var ≡ Some other.var = sym one.found ∙ ap (λ (vs : List Var). slice_get vs one.place) vars ∙ ap (slice_get other.vars) place ∙ other.found in
    one.is ∙ ap typing_of (same_Some one.var other.var found) ∙ sym other.is
