use Rattle.std.proofs.Common.{map}
use Rattle.enforcement_rules.specs.Standings.{shown_standing}
use Rattle.enforcement_rules.proofs.StandingLaws.{target_added}
use Rattle.enforcement_rules.proofs.templates.put_target.Goals as goal

pub returns-then-is_of_target : goal.returns-then-is_of_target
returns-then-is_of_target c =
    target_added c.put_domain.result c.args.program.now c.args.dom.now (map shown_standing c.args.out.now) (map shown_standing c.put_domain.new.out) c.is_of_target.result c.is_of_target.ensures c.if-is_of_target.true
    c.put_domain.ensures
