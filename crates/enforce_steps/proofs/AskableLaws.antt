-- What is known of a program that can be asked: it can be enforced, where it keeps the rules, and has its target.
use Rattle.std.specs.Prelude.{◌<◌, length}
use Rattle.std.proofs.Common.{sym, subst}
use Rattle.std.proofs.lemmas.List.Elements.{All-contains}
use Rattle.answer_texts.specs.Question.{Question}
use Rattle.enforcement_rules.specs.Rules.{IsEnforceable}
use Rattle.entry_finding.specs.Premises.{CanBeEnforced}
use Rattle.enforce_steps.specs.Premises.{HasFewConjuncts, IsAskable}

pub target_within : (q : Question) → IsAskable q → q.program.target < length q.models
target_within q a = subst (λ n. q.program.target < n) (sym a.count) a.well.numbers.target

pub can_be_enforced : (q : Question) → IsAskable q → IsEnforceable q.metas q.program → CanBeEnforced q.metas q.program q.models
can_be_enforced q a e = record {
  evaluable = record { well = a.well; texts = a.texts; kept = a.models };
  enforceable = e;
  target = target_within q a;
  rels = a.rels;
  vars = a.vars;
  wheres = λ rel has. All-contains HasFewConjuncts q.program.rels rel a.wheres has;
}
