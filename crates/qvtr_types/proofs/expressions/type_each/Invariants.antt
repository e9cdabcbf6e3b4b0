use Rattle.std.proofs.Common.{◌≡◌, ℕ, length, map}
use Rattle.std.specs.Prelude.{Some, slice_get}
use Rattle.qv_syntax.specs.declared.expr.Expr.{Expr}
use Rattle.qv_syntax.specs.declared.typed.Typed.{Typed}
use Rattle.qv_syntax.specs.declared.program.Var.{Var}
use Rattle.qv_syntax.specs.ProgramTypes.{typing_of}
use Rattle.qvtr_types.specs.Expressions.{IsGiven}
use Rattle.qvtr_types.proofs.expressions.type_each.Given as goal

-- the arguments so far fit their roots
abbrev pub invariant-loop-place : goal.invariant-loop-place
invariant-loop-place l = (length l.trees ≡ l.place)
    × ((p : ℕ) (root : Var) (e : Expr) (tree : Typed) → slice_get (map (λ r. r.now) l.roots) p ≡ Some root → slice_get l.args p ≡ Some e → slice_get l.trees p ≡ Some tree
    → IsGiven l.env (typing_of root) e tree)
