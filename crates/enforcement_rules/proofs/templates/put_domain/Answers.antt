use Rattle.std.proofs.Common.{map}
use Rattle.enforcement_rules.specs.Standings.{shown_standing}
use Rattle.enforcement_rules.proofs.StandingLaws.{domain_added, bare_added}
use Rattle.enforcement_rules.proofs.templates.put_domain.Goals as goal

pub returns-in-Some : goal.returns-in-Some
returns-in-Some c = domain_added c.put_template.result c.args.dom.now _ (map shown_standing c.args.out.now) (map shown_standing c.put_template.new.out) c.in-Some.is c.put_template.ensures

pub returns-in-None : goal.returns-in-None
returns-in-None c = bare_added c.args.dom.now (map shown_standing c.args.out.now) c.in-None.is
