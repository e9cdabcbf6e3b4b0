use Rattle.std.proofs.Common.{◌≡◌, ◌∙◌, [], rules}
use Rattle.std.specs.Prelude.{slice_get}
use Rattle.demand_trace.specs.Traces.{relation_name}
use Rattle.demand_trace.proofs.NameLaws.{no_characters}
use Rattle.demand_trace.proofs.names.Names.relation_name.Goals as goal

pub returns-in-None : goal.returns-in-None
returns-in-None c =
    let none : [] ≡ relation_name (slice_get c.args.self.now.program.now.rels c.args.number) = search rules in
    no_characters ∙ none
