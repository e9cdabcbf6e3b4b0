-- Laws about parts and what is called on them.
use Rattle.std.proofs.Common.{◌≡◌, List, [], ◌∷◌, refl}
use Rattle.qv_syntax.specs.declared.expr.Expr.TheVariants as exprs
use Rattle.qv_syntax.specs.declared.expr.Postfix.{Postfix}
use Rattle.ocl_parser.specs.Moves.{subtree_by}
use Rattle.ocl_parser.specs.declared.frame.Base.{Base}

-- a part with calls
pub called_subtree : (base : Base) (steps : List Postfix) → (steps ≡ [] → ⊥) → subtree_by base steps ≡ record { tree = exprs.Calls base.of steps base.span; span = base.span }
called_subtree base [] some = absurd (some refl)
called_subtree base (step ∷ steps) some = refl
