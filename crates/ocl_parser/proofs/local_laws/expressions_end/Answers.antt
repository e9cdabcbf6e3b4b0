use Rattle.ocl_parser.proofs.FollowLaws.{tree_alike, tree_before}
use Rattle.ocl_parser.proofs.local_laws.expressions_end.Goals as goal

pub returns : goal.returns
returns c = record { before = tree_before; alike = tree_alike }
