use Rattle.std.proofs.Common.{◌≡◌, ◌∙◌, [], rules}
use Rattle.std.specs.Prelude.{slice_get}
use Rattle.demand_trace.specs.Traces.{identifier_in}
use Rattle.demand_trace.specs.Naming.{world}
use Rattle.demand_trace.proofs.NameLaws.{no_characters}
use Rattle.demand_trace.proofs.names.Names.identifier.Goals as goal

pub returns-in-None : goal.returns-in-None
returns-in-None c =
    let none : [] ≡ identifier_in (slice_get (world c.args.self.now).models c.args.model) c.args.object.0 = search rules in
    no_characters ∙ none
