use Rattle.std.proofs.Common.{ℕ, List, map, arith, ap, sym, subst, ◌∙◌}
use Rattle.std.specs.Prelude.{All, Contains}
use Rattle.std.proofs.lemmas.List.{take_all}
use Rattle.std.proofs.lemmas.List.Elements.{All-more}
use Rattle.ocl_environments.specs.declared.fault.TypeFault.TheVariants.{CallShape}
use Rattle.script_scopes.proofs.NameLemmas.{has_name, lacks_name}
use Rattle.script_scopes.proofs.DistinctLemmas.{met_member}
use Rattle.script_scopes.proofs.calls.refuse_call.Goals as goal

pub returns-then-contains-clause-fault : goal.returns-then-contains-clause-fault
returns-then-contains-clause-fault c =
    let known : List (List ℕ) = map {A = List ℕ × ℕ} {B = List ℕ} (λ e. e.0) c.args.others.now in
    record {
      name = c.name-item.result;
      among = (c.loop-name.name-index, omega arith, sym c.name-item.is);
      other = has_name known c.name-item.result (sym (met_member c.args.others.now c.name-item.result) ∙ sym c.contains.ensures ∙ c.if-contains.true);
      is = ap CallShape c.in_ok-text.ensures;
    }

pub loop-name-preserved : goal.loop-name-preserved
loop-name-preserved c =
    let known : List (List ℕ) = map {A = List ℕ × ℕ} {B = List ℕ} (λ e. e.0) c.args.others.now in
    All-more (λ (n : List ℕ). ¬ Contains known n) c.args.names.now c.loop-name.name-index c.name-item.result (omega arith) c.loop-name.invariant
    (subst (λ (n : List ℕ). ¬ Contains known n) c.name-item.is
    (lacks_name known c.name-item.result (sym (met_member c.args.others.now c.name-item.result) ∙ sym c.contains.ensures ∙ c.if-contains.false)))

pub returns-clause-none : goal.returns-clause-none
returns-clause-none c =
    let known : List (List ℕ) = map {A = List ℕ × ℕ} {B = List ℕ} (λ e. e.0) c.args.others.now in
    subst (All (λ (n : List ℕ). ¬ Contains known n)) (take_all c.loop-name.name-index c.args.names.now (omega arith)) c.loop-name.invariant
