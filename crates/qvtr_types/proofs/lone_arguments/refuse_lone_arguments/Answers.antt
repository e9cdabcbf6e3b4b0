use Rattle.std.proofs.Common.{List, Bor, map, ap, subst, ◌∙◌}
use Rattle.std.specs.Prelude.{All, OnOk}
use Rattle.qv_syntax.specs.declared.expr.Expr.{Expr}
use Rattle.qvtr_types.specs.ResolvedConjuncts.{reach_of}
use Rattle.qvtr_types.specs.LoneArguments.{CallsRelated}
use Rattle.qvtr_types.proofs.lone_arguments.refuse_lone_arguments.Goals as goal

pub returns-clause-related : goal.returns-clause-related
returns-clause-related c =
    subst (λ (es : List Expr). OnOk c.refuse_listed.result (All (CallsRelated (reach_of c.args.scope.now) c.args.scope.now.variables.vars.now) es))
    (ap (λ (es : List (Bor Expr)). map (λ e. e.now) es) c.as_slice.ensures ∙ c.in_ok-conjuncts.ensures) c.refuse_listed.ensures.related
