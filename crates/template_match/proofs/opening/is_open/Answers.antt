use Rattle.template_match.proofs.OpenLaws.{open_by_marks}
use Rattle.template_match.proofs.opening.is_open.Goals as goal

pub returns : goal.returns
returns c =
    open_by_marks c.args.prepared.now c.args.binding.now.values c.args.variable c.is_marked-is_sought.result c.is_vacant-is_vacant.result c.requires.prepared
    c.is_marked-is_sought.ensures c.is_vacant-is_vacant.ensures
