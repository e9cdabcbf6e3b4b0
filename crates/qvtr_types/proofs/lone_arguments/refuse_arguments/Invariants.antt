use Rattle.std.proofs.Common.{◌≡◌, ◌<◌, ℕ, List, map}
use Rattle.std.specs.Prelude.{Some, slice_get}
use Rattle.qv_syntax.specs.declared.expr.Expr.{Expr}
use Rattle.qv_syntax.specs.declared.program.Var.{Var}
use Rattle.qvtr_types.specs.LoneArguments.{IsRelated}
use Rattle.qvtr_types.proofs.lone_arguments.refuse_arguments.Given as goal

-- the arguments so far are related to their roots
abbrev pub invariant-loop-place : goal.invariant-loop-place
invariant-loop-place l = (p : ℕ) → p < l.place → (arg : Expr) (root : Var) → slice_get l.args p ≡ Some arg → slice_get (map (λ r. r.now) l.roots) p ≡ Some root
    → IsRelated l.metas (map {A = List ℕ × ℕ} {B = List ℕ} (λ e. e.0) l.variables.numbers.now) l.variables.vars.now arg root
