-- What a function that takes part in a search is given, as the problem of the search.
use Rattle.template_match.specs.declared.task.Task.{Task}
use Rattle.template_match.specs.Problems.{Problem}

abbrev pub problem_of : Task → Problem
problem_of t = record { side = t.side; program = t.program.now; models = t.models.now; rel = t.rel.now; links = t.links.now; variables = t.variables.now; joins = t.joins.now }
