use Rattle.std.proofs.Common.{List, ◌∷◌, reverse, subst}
use Rattle.std.specs.Prelude.{◌↔◌}
use Rattle.qvtr_semantics.specs.Templates.{Values}
use Rattle.template_match.specs.declared.branch.Branch.{Branch}
use Rattle.template_match.specs.Levels.{IsFoundOrOwed}
use Rattle.template_match.specs.Prepared.{problem_in}
use Rattle.template_match.specs.Search.{values_of}
use Rattle.template_match.proofs.LevelLaws.{last_first, step_follows, steps_done}
use Rattle.template_match.proofs.search.search_levels.Goals as goal

pub returns-in-None : goal.returns-in-None
returns-in-None c =
    steps_done (problem_in c.args.prepared.now) c.args.roots.values c.steps.binding.values (reverse c.args.levels.now) c.steps.levels (values_of c.args.found.now) (values_of c.steps.found)
    c.in-None.ensures.0 c.steps.invariant.same

pub steps-preserved : goal.steps-preserved
steps-preserved c =
    let s = c.args.prepared.now in
    let roots = c.args.roots.values in
    let first = reverse c.args.levels.now in
    let olds = values_of c.args.found.now in
    let mids = values_of c.steps.found in
    let stepped = c.in_ok-binding-in-Some.ensures in
    let same = subst (λ (levels : List Branch). (b : Values) → IsFoundOrOwed (problem_in s) c.steps.binding.values levels mids b ↔ IsFoundOrOwed (problem_in s) roots first olds b)
    (last_first c.pop.new.self c.steps.levels c.in-Some.last c.in-Some.ensures) c.steps.invariant.same in
    record {
      levels = stepped.levels;
      same = step_follows s roots c.steps.binding.values c.in_ok-binding-in-Some.binding.values first (c.in-Some.last ∷ reverse c.pop.new.self) (reverse c.step.new.levels) olds mids
          (values_of c.step.new.found) same stepped;
    }
