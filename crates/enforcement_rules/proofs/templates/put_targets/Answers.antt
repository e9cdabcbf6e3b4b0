use Rattle.std.proofs.Common.{map, arith}
use Rattle.enforcement_rules.specs.Standings.{shown_standing, IsOfTarget}
use Rattle.enforcement_rules.proofs.StandingLaws.{no_domains, one_domain}
use Rattle.enforcement_rules.proofs.templates.put_targets.Goals as goal

pub loop-dom-init : goal.loop-dom-init
loop-dom-init c = no_domains (IsOfTarget c.args.program.now) c.args.doms.now (map shown_standing c.args.out.now)

pub loop-dom-preserved : goal.loop-dom-preserved
loop-dom-preserved c =
    one_domain (IsOfTarget c.args.program.now) c.args.doms.now c.loop-dom.dom-index c.dom-item.result (map shown_standing c.args.out.now) (map shown_standing c.loop-dom.out) (map shown_standing c.put_target.new.out) (omega arith) c.dom-item.is
    c.loop-dom.invariant c.in_ok-put_target.ensures
