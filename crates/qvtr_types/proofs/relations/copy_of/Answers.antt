use Rattle.std.proofs.Common.{ℕ, List, ap, ◌∙◌}
use Rattle.qv_syntax.specs.declared.ty.Ty.{Ty}
use Rattle.qv_syntax.specs.declared.program.Var.{Var}
use Rattle.qvtr_types.proofs.relations.copy_of.Goals as goal

pub returns : goal.returns
returns c =
    let model = c.args.var.now.model in
    let with_name : List ℕ → Var = λ n. record { name = n; ty = c.in_ok-ty.ty; model = model } in
    let with_type : Ty → Var = λ t. record { name = c.args.var.now.name; ty = t; model = model } in
    ap with_name c.in_ok-name.ensures ∙ ap with_type c.in_ok-ty.ensures
