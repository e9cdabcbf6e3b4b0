use borrow.Author.Tests.{ltb-true}
use Rattle.std.proofs.Common.{length, sym}
use Rattle.template_match.proofs.part.numbered.Goals as goal

pub returns-in-Some : goal.returns-in-Some
returns-in-Some g c = (c.args.number, ltb-true c.args.number (length c.args.all.now) (sym c.in-Some.ensures.lookup.0), sym c.in-Some.ensures.lookup.1)
