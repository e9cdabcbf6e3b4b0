use Rattle.std.proofs.Common.{◌≡◌, List, Bool, true, false, length, get_or, arith, sym, subst, ◌∙◌}
use Rattle.std.specs.Prelude.{◌↔◌}
use Rattle.enforcement_rules.specs.Derivations.{IsDerivedNumber}
use Rattle.enforcement_rules.proofs.DerivationSteps.{begin_within, end_derived, written_over}
use Rattle.enforcement_rules.proofs.derivations.derived.Goals as goal

pub run-requires : goal.run-requires
run-requires c =
    begin_within c.args.count c.as_mut_slice.result.now c.as_mut_slice-2.result.now c.args.rules (c.as_mut_slice.ensures.value ∙ c.in_ok-bound.ensures) (c.as_mut_slice-2.ensures.value ∙ c.in_ok-waiting.ensures) c.requires

pub returns : goal.returns
returns c = λ n.
    let long : length c.as_mut_slice.result.now ≡ c.in_ok-bound.bound.len = c.as_mut_slice.ensures.len in
    let kept : length c.run.new.bound ≡ length c.as_mut_slice.result.now = c.run.auto.bound in
    let same : c.in_ok-bound.bound.len ≡ length c.run.new.bound = omega (arith, long, kept) in
    subst (λ (bs : List Bool). (get_or bs n false ≡ true) ↔ IsDerivedNumber c.args.rules n) (sym (written_over c.run.new.bound _ c.in_ok-bound.bound.len same))
    (end_derived c.args.count c.as_mut_slice.result.now c.as_mut_slice-2.result.now c.args.rules (c.as_mut_slice.ensures.value ∙ c.in_ok-bound.ensures) (c.as_mut_slice-2.ensures.value ∙ c.in_ok-waiting.ensures)
    (record { bound = c.run.new.bound; waiting = c.run.new.waiting; pending = c.run.new.pending }) c.in_ok-run.ensures.kept c.in_ok-run.ensures.done n)
