use Rattle.std.proofs.Common.{sym, subst, ◌∙◌}
use Rattle.mof_metamodel.proofs.Facts.{contains_map}
use Rattle.template_match.specs.Asked.{asked_value}
use Rattle.template_match.specs.Prepared.{problem_in}
use Rattle.template_match.specs.Settled.{IsTold}
use Rattle.template_match.proofs.ChoiceLaws.{asked_is}
use Rattle.std.specs.Prelude.{Contains, IfSome}
use Rattle.template_match.proofs.choosing.asked_choice.Goals as goal

pub returns-in-Some : goal.returns-in-Some
returns-in-Some c =
    let p = problem_in c.args.prepared.now in
    let asked = c.args.asked.now in
    asked_is p c.args.binding.now.values c.requires.prepared.posed c.requires.prepared.places (asked_value asked) c.in-Some.candidates c.choice.result
    (subst (λ ts. Contains ts (asked_value asked)) c.requires.prepared.asked (contains_map asked_value c.args.prepared.now.asked.now asked c.requires.asked))
    (sym c.is_open.ensures ∙ c.if-not-is_open.false)
    (subst (λ o. IfSome o (IsTold p c.args.binding.now.values (asked_value asked))) c.in-Some.is c.in_ok-told.ensures)
    c.choice.ensures.variable c.choice.ensures.candidates c.choice.ensures.size
