use Rattle.std.proofs.Common.{ℕ, List, map, sym, subst, ◌∙◌}
use Rattle.std.proofs.lemmas.Option.{same_Some, none-some}
use Rattle.std.proofs.lemmas.Result.{on_ok_weaker}
use Rattle.ocl_types.proofs.QueryLemmas.{fault_of_result}
use Rattle.qvtr_types.specs.RootVariables.{IsNamed}
use Rattle.qvtr_types.specs.LoneArguments.{IsUnrelatedName, IsUnrelated}
use Rattle.qvtr_types.proofs.lone_arguments.refuse_argument.Goals as goal

pub returns-in-Some-clause-related : goal.returns-in-Some-clause-related
returns-in-Some-clause-related c =
    let names : List (List ℕ) = map {A = List ℕ × ℕ} {B = List ℕ} (λ e. e.0) c.args.variables.now.numbers.now in
    let name : List ℕ = c.in-Some.name.now in
    on_ok_weaker c.refuse_name.result
    (λ related var alone. related var (subst (λ (v : List ℕ). IsNamed names c.args.variables.now.vars.now v var) (same_Some alone.v name (sym alone.alone ∙ sym c.in-Some.ensures)) alone.named))
    c.refuse_name.ensures.related

pub returns-in-Some-clause-fault : goal.returns-in-Some-clause-fault
returns-in-Some-clause-fault c =
    let names : List (List ℕ) = map {A = List ℕ × ℕ} {B = List ℕ} (λ e. e.0) c.args.variables.now.numbers.now in
    fault_of_result c.refuse_name.result
    (IsUnrelatedName c.args.metas.now names c.args.variables.now.vars.now c.in-Some.name.now c.args.root.now)
    (IsUnrelated c.args.metas.now names c.args.variables.now.vars.now c.args.arg.now c.args.root.now)
    (λ f h. record { var = h.var; alone = record { v = c.in-Some.name.now; alone = sym c.in-Some.ensures; named = h.named }; unrelated = h.unrelated; is = h.is })
    c.refuse_name.ensures.fault

pub returns-in-None-clause-related : goal.returns-in-None-clause-related
returns-in-None-clause-related c = λ var alone. absurd (none-some alone.v (c.in-None.ensures ∙ alone.alone))
