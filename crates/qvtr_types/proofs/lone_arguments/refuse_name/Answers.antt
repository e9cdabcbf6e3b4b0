use Rattle.std.proofs.Common.{◌≡◌, ℕ, List, map, get_or, sym, ap, subst, ◌∙◌, arith}
use Rattle.std.specs.Prelude.{Some, IsTrue, slice_get}
use Rattle.std.proofs.lemmas.Option.{none-some, slice_get-get_or}
use Rattle.std.proofs.lemmas.Result.{on_ok_weaker}
use Rattle.std.proofs.lemmas.List.Elements.{All-contains}
use Rattle.qv_syntax.specs.declared.program.Var.{Var}
use Rattle.qv_syntax.specs.Types.{AreRelated}
use Rattle.ocl_environments.specs.declared.fault.TypeFault.{TypeFault}
use Rattle.ocl_environments.specs.Environments.{is_over}
use Rattle.ocl_environments.specs.Outcomes.{wrong_type}
use Rattle.ocl_types.proofs.QueryLemmas.{fault_of_result}
use Rattle.qvtr_types.specs.LoneArguments.{IsUnrelatedName}
use Rattle.qvtr_types.proofs.LoneLaws.{named_one}
use Rattle.qvtr_types.proofs.lone_arguments.refuse_name.Goals as goal

pub refuse_unrelated-requires-clause-found : goal.refuse_unrelated-requires-clause-found
refuse_unrelated-requires-clause-found c =
    All-contains (λ (v : Var). IsTrue (is_over c.args.metas.now v.ty)) c.args.variables.now.vars.now (get_or c.args.variables.now.vars.now c.in-Some.place c.index-variables-place.result) c.requires.types
    (c.in-Some.place, omega (arith, c.requires.count, c.in-Some.ensures.within), ap (get_or c.args.variables.now.vars.now c.in-Some.place) (sym c.index-variables-place.is))

pub returns-in-Some-clause-related : goal.returns-in-Some-clause-related
returns-in-Some-clause-related c =
    let names : List (List ℕ) = map {A = List ℕ × ℕ} {B = List ℕ} (λ e. e.0) c.args.variables.now.numbers.now in
    let var : Var = get_or c.args.variables.now.vars.now c.in-Some.place c.index-variables-place.result in
    let found : slice_get c.args.variables.now.vars.now c.in-Some.place ≡ Some var =
    slice_get-get_or c.args.variables.now.vars.now c.in-Some.place c.index-variables-place.result (omega (arith, c.requires.count, c.in-Some.ensures.within)) in
    on_ok_weaker c.refuse_unrelated.result
    (λ related other named. subst (λ (x : Var). AreRelated c.args.metas.now x.ty c.args.root.now.ty)
    (named_one names c.args.variables.now.vars.now c.args.name.now c.in-Some.place var (sym c.in-Some.ensures.number) found other named) related)
    c.refuse_unrelated.ensures.related

pub returns-in-Some-clause-fault : goal.returns-in-Some-clause-fault
returns-in-Some-clause-fault c =
    let names : List (List ℕ) = map {A = List ℕ × ℕ} {B = List ℕ} (λ e. e.0) c.args.variables.now.numbers.now in
    let var : Var = get_or c.args.variables.now.vars.now c.in-Some.place c.index-variables-place.result in
    fault_of_result c.refuse_unrelated.result
    (λ (f : TypeFault). (¬ AreRelated c.args.metas.now var.ty c.args.root.now.ty) × (f ≡ wrong_type c.args.metas.now c.args.root.now.ty var.ty))
    (IsUnrelatedName c.args.metas.now names c.args.variables.now.vars.now c.args.name.now c.args.root.now)
    (λ f h. record {
      var = var;
      named = record {
        place = c.in-Some.place;
        named = sym c.in-Some.ensures.number;
        found = slice_get-get_or c.args.variables.now.vars.now c.in-Some.place c.index-variables-place.result (omega (arith, c.requires.count, c.in-Some.ensures.within));
      };
      unrelated = h.0;
      is = h.1;
    })
    c.refuse_unrelated.ensures.fault

pub returns-in-None-clause-related : goal.returns-in-None-clause-related
returns-in-None-clause-related c = λ var named. absurd (none-some named.place (c.in-None.ensures.number ∙ named.named))
