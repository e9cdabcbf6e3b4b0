-- The variables that are found for the roots of domains are those of the roots, of one relation after another.
use Rattle.std.proofs.Common.{◌≡◌, ℕ, List, [], ◌∷◌, ◌++◌, map, true, length, get_or, arith, refl, sym, ◌∙◌, subst}
use Rattle.std.specs.Prelude.{All, Contains, is_some}
use Rattle.std.proofs.lemmas.List.Elements.{Contains-get_or}
use Rattle.std.proofs.lemmas.Map.Made.{is_some-lookup}
use Rattle.mof_metamodel.specs.Characters.{same_name}
use Rattle.mof_metamodel.specs.NameTables.{NamesWith, value_of}
use Rattle.qv_syntax.specs.ProgramTypes.{typing_of}
use Rattle.qv_syntax.specs.declared.program.Var.{Var}
use Rattle.qv_syntax.specs.declared.script.DomainTree.{DomainTree}
use Rattle.qv_syntax.specs.declared.script.RelationTree.{RelationTree}
use Rattle.script_scopes.specs.Occurrences.{variables_of, root_of}
use Rattle.script_scopes.specs.Environments.{Setting}
use Rattle.script_scopes.specs.Faults.{AreVariables, IsRoot}
use Rattle.qvtr_types.specs.PlacedFaults.{AreRoots}
use Rattle.qvtr_types.specs.RootVariables.{IsNamed, HasRoots, AreRootsOf}
use Rattle.script_variables.proofs.BindingLaws.{number_at}
use Rattle.script_scopes.proofs.NameLemmas.{name_had}
use Rattle.qvtr_types.proofs.RootLaws.{root_among}
use Rattle.script_variables.proofs.VariableLaws.{zip_weaker}

module _ (s : Setting) where
  pub roots_are : (r : RelationTree) (vars roots : List Var) → AreVariables s r vars → HasRoots r vars roots → AreRoots s r roots
  roots_are r vars roots are all =
      zip_weaker (λ d root. IsNamed (variables_of r) vars (root_of d) root) (λ domain root. IsRoot s r domain (typing_of root))
      (λ domain root n. record { vars = vars; are = are; place = n.place; var = root; named = number_at (variables_of r) (root_of domain) n.place n.named; found = n.found; is = refl })
      r.domains roots all

-- one relation more
pub roots_more : (relations : List RelationTree) (vars roots : List (List Var)) (r : RelationTree) (vs rs : List Var) → length vars ≡ length relations → AreRootsOf relations vars roots → HasRoots r vs rs
    → AreRootsOf (relations ++ r ∷ []) (vars ++ vs ∷ []) (roots ++ rs ∷ [])
roots_more [] [] [] r vs rs long all h = (h, tt)
roots_more [] [] (its ∷ roots) r vs rs long all h = absurd all
roots_more [] (ws ∷ vars) roots r vs rs long all h = absurd (omega (arith, long))
roots_more (q ∷ relations) [] roots r vs rs long all h = absurd (omega (arith, long))
roots_more (q ∷ relations) (ws ∷ vars) [] r vs rs long all h = absurd all
roots_more (q ∷ relations) (ws ∷ vars) (its ∷ roots) r vs rs long all h = (all.0, roots_more relations vars roots r vs rs (omega (arith, long)) all.1 h)

-- each root has a number
pub roots_known : (r : RelationTree) (numbers : NamesWith ℕ) → map (λ e. e.0) numbers ≡ variables_of r → All (λ d. is_some (value_of numbers (root_of d)) ≡ true) r.domains
roots_known r numbers named i d l =
    let domain : DomainTree = get_or r.domains i d in
    is_some-lookup (same_name (root_of domain)) numbers
    ∙ name_had (map (λ e. e.0) numbers) (root_of domain) (subst (λ (ns : List (List ℕ)). Contains ns (root_of domain)) (sym named) (root_among r domain (Contains-get_or r.domains i d l)))
