use Rattle.std.proofs.Common.{◌≡◌, ◌++◌, drop}
use Rattle.qvtr_semantics.specs.Calls.{calls_of}
use Rattle.relation_calls.specs.Names.{calls_named}
use Rattle.relation_calls.proofs.making.calls_of.Given as goal

abbrev pub invariant-loop-conj : goal.invariant-loop-conj
invariant-loop-conj l = calls_named l.calls ++ calls_of l.visit.program.now l.visit.models.now l.b.values (drop l.conj-index l.clause)
    ≡ calls_of l.visit.program.now l.visit.models.now l.b.values l.clause
