use Rattle.std.proofs.Common.{refl, reverse, subst, sym}
use Rattle.template_match.specs.declared.branch.Branch.{Branch}
use Rattle.template_match.specs.Levels.{AreLevels, AreMore}
use Rattle.template_match.specs.Search.{values_of}
use Rattle.template_match.proofs.LevelLaws.{last_first, candidate_prepared, candidate_levels, candidate_step}
use Rattle.template_match.proofs.search.step.Goals as goal

pub enter_allowed-requires-clause-prepared : goal.enter_allowed-requires-clause-prepared
enter_allowed-requires-clause-prepared c =
    let level : Branch = record { variable = c.args.last.variable; candidates = c.pop.new.self } in
    candidate_prepared c.args.prepared.now c.args.binding.values c.with_value-next.result.values (reverse c.args.levels.now) c.args.last level c.in-Some.datum refl c.in-Some.ensures
    c.with_value-next.ensures c.requires

pub enter_allowed-requires-clause-levels : goal.enter_allowed-requires-clause-levels
enter_allowed-requires-clause-levels c =
    let level : Branch = record { variable = c.args.last.variable; candidates = c.pop.new.self } in
    subst (AreLevels c.args.prepared.now c.with_value-next.result.values) (sym (last_first c.args.levels.now c.push.new.self level c.in_ok-push-in-Some.ensures.ok))
    (candidate_levels c.args.prepared.now c.args.binding.values c.with_value-next.result.values (reverse c.args.levels.now) c.args.last level c.in-Some.datum refl c.in-Some.ensures
    c.with_value-next.ensures c.requires)

pub returns-in_ok-enter_allowed-in-Some : goal.returns-in_ok-enter_allowed-in-Some
returns-in_ok-enter_allowed-in-Some c =
    let level : Branch = record { variable = c.args.last.variable; candidates = c.pop.new.self } in
    let s = c.args.prepared.now in
    let next = c.with_value-next.result.values in
    let olds = values_of c.args.found.now in
    let news = values_of c.enter_allowed.new.found in
    let after = reverse c.enter_allowed.new.levels in
    candidate_step s c.args.binding.values next (reverse c.args.levels.now) c.args.last level c.in-Some.datum refl c.in-Some.ensures c.with_value-next.ensures c.requires olds news after
    (subst (λ levels. AreMore s next levels olds after news) (last_first c.args.levels.now c.push.new.self level c.in_ok-push-in-Some.ensures.ok) c.in_ok-enter_allowed-in-Some.ensures)
