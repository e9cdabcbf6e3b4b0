use Rattle.std.proofs.Common.{sym, ◌∙◌}
use Rattle.std.proofs.lemmas.Bool.{true≢false}
use Rattle.std.proofs.lemmas.Result.{IfOk-weaker, IfErr-weaker}
use Rattle.qv_syntax.specs.declared.program.Rel.{Rel}
use Rattle.qvtr_semantics.specs.Calls.{free}
use Rattle.qvtr_semantics.specs.Satisfaction.{IsTop}
use Rattle.relation_calls.specs.Seen.{TopChain, AreClean}
use Rattle.relation_calls.specs.Faults.{IsFault}
use Rattle.check_mode.specs.Verdicts.{ChainOfTop}
use Rattle.check_mode.proofs.TopLaws.{clean_top, fault_top, none_top}
use Rattle.check_mode.proofs.checking.failing_of.Goals as goal

pub failing_binding-requires-clause-top : goal.failing_binding-requires-clause-top
failing_binding-requires-clause-top c = c.is_top.ensures.0 c.if-is_top.true

pub returns-then-is_top-clause-clean : goal.returns-then-is_top-clause-clean
returns-then-is_top-clause-clean c =
    IfOk-weaker c.failing_binding.result
    (λ _. (rel : Rel) → IsTop c.args.program.now c.args.number rel → AreClean (TopChain c.args.program.now c.args.models.now (record { rel = c.args.number; roots = free rel })))
    (λ _. AreClean (ChainOfTop c.args.program.now c.args.models.now c.args.number)) (λ _ h. clean_top c.args.program.now c.args.models.now c.args.number h) c.failing_binding.ensures.clean

pub returns-then-is_top-clause-fault : goal.returns-then-is_top-clause-fault
returns-then-is_top-clause-fault c =
    let (rel, top) = c.is_top.ensures.0 c.if-is_top.true in
    IfErr-weaker c.failing_binding.result
    (λ e. (rel : Rel) → IsTop c.args.program.now c.args.number rel → IsFault (TopChain c.args.program.now c.args.models.now (record { rel = c.args.number; roots = free rel })) e)
    (IsFault (ChainOfTop c.args.program.now c.args.models.now c.args.number)) (λ e h. fault_top c.args.program.now c.args.models.now c.args.number rel top e (h rel top)) c.failing_binding.ensures.fault

pub returns-else-is_top-clause-value : goal.returns-else-is_top-clause-value
returns-else-is_top-clause-value c = λ b f. true≢false (sym (c.is_top.ensures.1 (f.rel, f.top)) ∙ c.if-is_top.false)

pub returns-else-is_top-clause-clean : goal.returns-else-is_top-clause-clean
returns-else-is_top-clause-clean c = none_top c.args.program.now c.args.models.now c.args.number (λ rel top. true≢false (sym (c.is_top.ensures.1 (rel, top)) ∙ c.if-is_top.false))
