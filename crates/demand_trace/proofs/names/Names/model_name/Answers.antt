use Rattle.std.proofs.Common.{◌≡◌, ◌∙◌, [], rules}
use Rattle.demand_trace.specs.Traces.{model_name}
use Rattle.demand_trace.specs.Naming.{world}
use Rattle.demand_trace.proofs.NameLaws.{no_characters}
use Rattle.demand_trace.proofs.names.Names.model_name.Goals as goal

pub returns-in-None : goal.returns-in-None
returns-in-None c =
    let none : [] ≡ model_name (world c.args.self.now) c.args.model = search rules in
    no_characters ∙ none
