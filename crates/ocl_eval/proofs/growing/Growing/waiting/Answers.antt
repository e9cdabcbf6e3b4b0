use Rattle.std.proofs.Common.{rules, ◌≡◌, true, ap, ◌∙◌}
use Rattle.qvtr_semantics.specs.Expressions.{with_collection}
use Rattle.ocl_eval.specs.Growing.{fits, grown}
use Rattle.ocl_eval.proofs.GrowingLaws.{grown_further}
use Rattle.ocl_eval.proofs.growing.Growing.waiting.Goals as goal

pub returns-in_ok-all-in-Some : goal.returns-in_ok-all-in-Some
returns-in_ok-all-in-Some c =
    let fit : fits c.args.only c.in-Some.kind ≡ true = search rules in
    grown_further c.self.inside.kind c.in-Some.kind c.self.inside.elements c.in_ok-all-in-Some.all c.args.more c.args.only c.with_room.result
    c.in-Some.is fit c.in_ok-all-in-Some.ensures c.with_room.ensures
    ∙ ap (λ x. with_collection x (grown c.args.only c.args.more)) c.self.view_is
