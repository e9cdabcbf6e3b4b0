use Rattle.std.proofs.Common.{ℕ, List, map, arith, ap, sym, subst, ◌∙◌}
use Rattle.std.specs.Prelude.{All, Contains}
use Rattle.std.proofs.lemmas.List.{take_all}
use Rattle.std.proofs.lemmas.List.Elements.{All-more}
use Rattle.ocl_environments.specs.declared.fault.TypeFault.TheVariants.{UnknownName}
use Rattle.script_scopes.proofs.NameLemmas.{has_name, lacks_name}
use Rattle.script_scopes.proofs.DistinctLemmas.{met_member}
use Rattle.script_scopes.proofs.name_faults.refuse_unknown.Goals as goal

pub returns-then-not-contains-clause-fault : goal.returns-then-not-contains-clause-fault
returns-then-not-contains-clause-fault c =
    let known : List (List ℕ) = map {A = List ℕ × ℕ} {B = List ℕ} (λ e. e.0) c.args.known.now in
    record {
      name = c.name-item.result;
      among = (c.loop-name.name-index, omega arith, sym c.name-item.is);
      unknown = lacks_name known c.name-item.result (sym (met_member c.args.known.now c.name-item.result) ∙ sym c.contains.ensures ∙ c.if-not-contains.true);
      is = ap UnknownName c.in_ok-text.ensures;
    }

pub loop-name-preserved : goal.loop-name-preserved
loop-name-preserved c =
    let known : List (List ℕ) = map {A = List ℕ × ℕ} {B = List ℕ} (λ e. e.0) c.args.known.now in
    All-more (Contains known) c.args.names.now c.loop-name.name-index c.name-item.result (omega arith) c.loop-name.invariant
    (subst (Contains known) c.name-item.is
    (has_name known c.name-item.result (sym (met_member c.args.known.now c.name-item.result) ∙ sym c.contains.ensures ∙ c.if-not-contains.false)))

pub returns-clause-known : goal.returns-clause-known
returns-clause-known c =
    let known : List (List ℕ) = map {A = List ℕ × ℕ} {B = List ℕ} (λ e. e.0) c.args.known.now in
    subst (All (Contains known)) (take_all c.loop-name.name-index c.args.names.now (omega arith)) c.loop-name.invariant
