use Rattle.std.proofs.Common.{ℕ, List, ◌+◌, ◌++◌, ◌∷◌, [], map, take, arith, sym, ap, subst, ◌∙◌}
use Rattle.std.specs.List.{AllZip}
use Rattle.std.proofs.lemmas.List.{take_more}
use Rattle.script_variables.specs.Variables.{IsVarOf}
use Rattle.script_scopes.proofs.LoopLemmas.{zip_push}
use Rattle.script_variables.proofs.variables.variables.Goals as goal

pub loop-name-preserved : goal.loop-name-preserved
loop-name-preserved c =
    let numbers : List (List ℕ) = map {A = List ℕ × ℕ} {B = List ℕ} (λ e. e.0) c.args.names.now.models in
    let so_far : List (List ℕ) = take c.loop-name.name-index c.args.listed.now in
    let next : List (List ℕ) = take (c.loop-name.name-index + 1) c.args.listed.now in
    subst (AllZip (IsVarOf c.args.types.now c.args.models.now numbers) next) (sym c.in_ok-push.ensures.ok)
    (subst (λ (ns : List (List ℕ)). AllZip (IsVarOf c.args.types.now c.args.models.now numbers) ns (c.loop-name.out ++ c.in_ok-var.var ∷ []))
    (sym (take_more c.args.listed.now c.loop-name.name-index c.name-item.result (omega arith) ∙ ap (λ (n : List ℕ). so_far ++ n ∷ []) (sym c.name-item.is)))
    (zip_push (IsVarOf c.args.types.now c.args.models.now numbers) so_far c.loop-name.out c.name-item.result c.in_ok-var.var c.loop-name.invariant c.in_ok-var.ensures.var))
