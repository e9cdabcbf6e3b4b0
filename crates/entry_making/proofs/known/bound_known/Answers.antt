use Rattle.entry_making.proofs.KnownLaws.{bound_is}
use Rattle.entry_making.proofs.known.bound_known.Goals as goal

pub returns : goal.returns
returns c = λ terms. bound_is terms c.args.b.now c.in_ok-values.values c.in_ok-scope.scope c.in_ok-values.ensures c.in_ok-scope.ensures
