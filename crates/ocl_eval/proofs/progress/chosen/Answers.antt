use Rattle.std.proofs.Common.{◌≤◌, ◌++◌, length, drop, sym, ◌∙◌, ap, append-nil, rules}
use Rattle.ocl_eval.proofs.ProgressLaws.{chosen_past}
use Rattle.ocl_eval.proofs.progress.chosen.Goals as goal

pub returns-then-i-elements : goal.returns-then-i-elements
returns-then-i-elements c =
    let past : length c.args.elements.now ≤ c.loop-i.i = search rules in
    sym (append-nil c.loop-i.list) ∙ ap (λ rest. c.loop-i.list ++ rest) (sym (chosen_past c.loop-i.i (drop c.loop-i.i c.args.conditions.now) c.args.elements.now past)) ∙ c.loop-i.invariant
