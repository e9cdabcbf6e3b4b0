use Rattle.std.proofs.Common.{ℕ, List, Bool, false, get_or, ap, sym, ◌∙◌, true≢false}
use Rattle.std.specs.Prelude.{All, chars}
use Rattle.std.proofs.lemmas.List.Elements.{All-weaker}
use Rattle.std.proofs.lemmas.Result.{on_ok_weaker}
use Rattle.ocl_types.proofs.QueryLemmas.{fault_of_result}
use Rattle.script_scopes.specs.ScriptNames.{each_once}
use Rattle.script_scopes.specs.UniversalNames.{universal_names}
use Rattle.script_variables.specs.Bindings.{IsBoundData, IsUnboundFault, IsBoundVariable, IsUnboundVariable}
use Rattle.script_variables.proofs.resolved_variables.refuse_data.Goals as goal

pub returns-clause-bound : goal.returns-clause-bound
returns-clause-bound c =
    let target : List ℕ = chars c.args.target.now in
    let universal : List (List ℕ) = each_once (universal_names target c.args.r.now) in
    on_ok_weaker c.refuse_unbound.result
    (λ all. All-weaker (IsBoundData c.args.types.now c.as_slice.result.now) (IsBoundVariable c.args.types.now universal target c.args.r.now)
    (λ v h n has. (c.in_ok-bound.ensures n).0 (ap (λ (bs : List Bool). get_or bs n false) (sym c.as_slice.ensures.value) ∙ h n has)) c.args.listed.now all)
    c.refuse_unbound.ensures.bound

pub returns-clause-fault : goal.returns-clause-fault
returns-clause-fault c =
    let target : List ℕ = chars c.args.target.now in
    let universal : List (List ℕ) = each_once (universal_names target c.args.r.now) in
    fault_of_result c.refuse_unbound.result (IsUnboundFault c.args.types.now c.as_slice.result.now c.args.listed.now) (IsUnboundVariable c.args.types.now universal target c.args.r.now c.args.listed.now)
    (λ f h. record {
      name = h.name;
      among = h.among;
      number = h.unbound.number;
      has = h.unbound.has;
      unbound = λ d. true≢false (sym (ap (λ (bs : List Bool). get_or bs h.unbound.number false) c.as_slice.ensures.value ∙ (c.in_ok-bound.ensures h.unbound.number).1 d) ∙ h.unbound.unbound);
      is = h.unbound.is;
    })
    c.refuse_unbound.ensures.fault
