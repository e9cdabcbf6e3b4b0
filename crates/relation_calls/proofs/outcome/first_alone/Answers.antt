use Rattle.std.proofs.Common.{ℕ, ◌≡◌, ◌∙◌, ◌<◌, ◌≤◌, ◌+◌, suc, sym, ap, arith, length, min, drop}
use Rattle.std.proofs.lemmas.Bool.{true≢false}
use Rattle.template_match.specs.Search.{values_of}
use Rattle.relation_calls.specs.Outcomes.{first_alone}
use Rattle.relation_calls.proofs.OutcomeLaws.{not_alone, passed_over, none_behind}
use Rattle.relation_calls.proofs.outcome.first_alone.Goals as goal
use Rattle.relation_calls.proofs.outcome.first_alone.Goals.{in-Alone, in_default}

pub loop-i-preserved : goal.loop-i-preserved
loop-i-preserved c =
    let bs = c.args.bindings.now in
    let os = c.args.outcomes.now in
    let i : ℕ = c.loop-i.i in
    let next : i + 1 ≡ suc i = omega arith in
    let room : i < min (length bs) (length os) = omega (arith, c.min-count.ensures, c.loop-i-test.true) in
    let inside : i < length bs = omega (arith, room) in
    let within : i < length os = omega (arith, room) in
    elim c.match-matches.branch [
      | in-Alone w ↦ absurd (true≢false (sym w.matches-is ∙ c.if-matches.false))
      | in_default w ↦ ap (λ k. first_alone (values_of (drop k bs)) (drop k os)) next ∙ passed_over bs os i _ inside within (not_alone _ w.in_default.not-Alone) ∙ c.loop-i.invariant
    ]

pub returns : goal.returns
returns c =
    let past : min (length c.args.bindings.now) (length c.args.outcomes.now) ≤ c.loop-i.i = omega (arith, c.min-count.ensures, c.loop-i-test.false) in
    sym (none_behind c.args.bindings.now c.args.outcomes.now c.loop-i.i past) ∙ c.loop-i.invariant
