use Rattle.std.proofs.Common.{◌∙◌}
use Rattle.qvtr_engine.proofs.PathLaws.{new_of_one, none_of, stripped, not_stripped}
use Rattle.qvtr_engine.proofs.paths.is_new_of_one.Goals as goal

pub returns-in-Some : goal.returns-in-Some
returns-in-Some c = λ of is_set.
    let path = c.args.path.now in
    let other = c.in-Some.other.now in
    c.contains.ensures ∙ is_set other ∙ new_of_one path other (stripped path other _ c.in-Some.ensures.cases.0 c.in-Some.ensures.cases.1) of

pub returns-in-None : goal.returns-in-None
returns-in-None c = λ of is_set. none_of c.args.path.now (not_stripped c.args.path.now c.in-None.ensures.cases) of
