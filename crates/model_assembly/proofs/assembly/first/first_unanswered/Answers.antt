use Rattle.std.proofs.Common.{◌≡◌, ◌∙◌, sym, ap, subst, arith, false}
use Rattle.std.specs.Prelude.{All}
use Rattle.std.proofs.lemmas.List.{take_all, get_or_default}
use Rattle.std.proofs.lemmas.List.Elements.{All-more}
use Rattle.model_assembly.specs.AssemblyFirsts.{is_unanswered}
use Rattle.model_assembly.specs.AssemblyNamings.{naming, at}
use Rattle.model_assembly.proofs.assembling.EndLaws.{unanswered_alike}
use Rattle.model_assembly.proofs.assembly.first.first_unanswered.Goals as goal

pub loop-i-preserved : goal.loop-i-preserved
loop-i-preserved c =
    let xs = c.args.namings.now in
    let alike = unanswered_alike c.args.meta.now c.in_ok-all_of.field-0.set.keys xs c.in_ok-all_of-2.field-0.set.keys c.args.sayings.now c.in_ok-all_of.ensures c.in_ok-all_of-2.ensures (at xs c.loop-i.i) in
    All-more (λ n. is_unanswered c.args.meta.now xs c.args.sayings.now n ≡ false) xs c.loop-i.i (naming 0 0 0) (omega arith) c.loop-i.invariant
    (sym alike ∙ sym c.is_unanswered.ensures ∙ c.if-is_unanswered.false)

pub returns-then-is_unanswered : goal.returns-then-is_unanswered
returns-then-is_unanswered c =
    let xs = c.args.namings.now in
    let alike = unanswered_alike c.args.meta.now c.in_ok-all_of.field-0.set.keys xs c.in_ok-all_of-2.field-0.set.keys c.args.sayings.now c.in_ok-all_of.ensures c.in_ok-all_of-2.ensures (at xs c.loop-i.i) in (
      omega arith,
      λ d. ap (is_unanswered c.args.meta.now xs c.args.sayings.now) (get_or_default xs c.loop-i.i d (naming 0 0 0) (omega arith)) ∙ sym alike ∙ sym c.is_unanswered.ensures ∙ c.if-is_unanswered.true,
      c.loop-i.invariant,
    )

pub returns : goal.returns
returns c =
    let xs = c.args.namings.now in
    subst (All (λ n. is_unanswered c.args.meta.now xs c.args.sayings.now n ≡ false)) (take_all c.loop-i.i xs (omega arith)) c.loop-i.invariant
