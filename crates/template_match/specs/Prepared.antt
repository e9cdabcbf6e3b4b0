-- What a search has made ready once: for each variable whether it is sought, and what its side asks of slots, and of objects alone.
use Rattle.std.specs.Prelude.{◌≡◌, length}
use Rattle.mof_metamodel.specs.Tables.{table}
use Rattle.qvtr_semantics.specs.Objects.{is_number_among}
use Rattle.qvtr_semantics.specs.Templates.{Values}
use Rattle.template_match.specs.declared.prepared.Prepared.{Prepared}
use Rattle.template_match.specs.Asked.{asked_values, side_asked}
use Rattle.template_match.specs.Problems.{Problem}
use Rattle.template_match.specs.Posed.{IsPosed}
use Rattle.template_match.specs.Search.{sought}
use Rattle.template_match.specs.Shapes.{side_shapes}
use Rattle.template_match.specs.Tasks.{problem_of}

abbrev pub problem_in : Prepared → Problem
problem_in s = problem_of s.task.now

-- it was made ready for the problem, which is posed for this binding
pub record IsPrepared (s : Prepared) (a : Values) : Type 0 where
  pub posed : IsPosed (problem_in s) a
  pub places : length a ≡ length s.task.now.rel.now.vars
  pub marks : s.sought.now ≡ table (λ v. is_number_among v (sought (problem_in s))) (length s.task.now.rel.now.vars)
  pub asked : asked_values s.asked.now ≡ side_asked s.task.now.side s.task.now.program.now s.task.now.rel.now
  pub shapes : s.shapes.now ≡ side_shapes s.task.now.side s.task.now.program.now s.task.now.rel.now
