use Rattle.enforce_steps.proofs.demanding.keep_rules.Goals as goal

pub rule_refusal-requires : goal.rule_refusal-requires
rule_refusal-requires c = rw c.in-Err-Broken.field-0-is at c.in-Err-Broken.ensures.broken
