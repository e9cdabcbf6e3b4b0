use Rattle.qvtr_engine.proofs.NumberingLaws.{others_taken}
use Rattle.qvtr_engine.proofs.numbering_inputs.take_named.Goals as goal

pub returns-in-Some-clause-others : goal.returns-in-Some-clause-others
returns-in-Some-clause-others g c = λ other apart.
    others_taken c.deref.result.now c.args.found.now.items c.remove.new.self.items c.in-Some.i c.args.name.now other
    c.deref.ensures.value c.in-Some.ensures c.remove.ensures.by_index.2 apart
