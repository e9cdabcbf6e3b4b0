use Rattle.std.proofs.Common.{List, ap}
use Rattle.qv_syntax.specs.declared.name.Name.{Name}
use Rattle.qv_syntax.specs.declared.name.Path.{Path}
use Rattle.ocl_parser.specs.Moves.{from_to}
use Rattle.ocl_parser.proofs.parts.extended.Goals as goal

pub returns : goal.returns
returns c =
    ap {B = Path} (λ (names : List Name). record { names = names; span = from_to c.args.path.span.start c.args.name.span.end }) c.in_ok-push.ensures.ok
