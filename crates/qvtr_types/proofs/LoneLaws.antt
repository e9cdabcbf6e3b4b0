-- Variables that stand alone as arguments are found by their names, and roots by the numbers of relations.
use Rattle.std.proofs.Common.{◌≡◌, ℕ, List, sym, ◌∙◌, ap}
use Rattle.std.specs.Prelude.{Some, position, slice_get}
use Rattle.std.proofs.lemmas.Option.{same_Some}
use Rattle.mof_metamodel.specs.Characters.{same_name}
use Rattle.qv_syntax.specs.declared.program.Var.{Var}
use Rattle.qvtr_types.specs.RootVariables.{IsNamed}

-- a name is that of one variable
pub named_one : (names : List (List ℕ)) (vars : List Var) (v : List ℕ) (place : ℕ) (var : Var) → position (same_name v) names ≡ Some place → slice_get vars place ≡ Some var
    → (other : Var) → IsNamed names vars v other → var ≡ other
named_one names vars v place var at found other n = same_Some var other (sym found ∙ ap (slice_get vars) (same_Some place n.place (sym at ∙ n.named)) ∙ n.found)

-- what stands at one place is one thing
pub one_there : {X : Type 0} (xs : List X) (i j : ℕ) (x y : X) → i ≡ j → slice_get xs i ≡ Some x → slice_get xs j ≡ Some y → x ≡ y
one_there xs i j x y same one other = same_Some x y (sym one ∙ ap (slice_get xs) same ∙ other)
