use Rattle.std.proofs.Common.{◌∙◌, sym, refl}
use Rattle.script_scopes.proofs.RepeatLemmas.{is_repeated, none_repeated}
use Rattle.script_scopes.proofs.repeats.refuse_repeat.Goals as goal

pub returns-in-Some-clause-fault : goal.returns-in-Some-clause-fault
returns-in-Some-clause-fault c = record {
  name = c.in-Some.name;
  repeated = is_repeated c.args.names.now c.in-Some.name (sym c.in_ok-name.ensures ∙ c.in-Some.is);
  is = refl;
}

pub returns-in-None-clause-none : goal.returns-in-None-clause-none
returns-in-None-clause-none c = none_repeated c.args.names.now (sym c.in_ok-name.ensures ∙ c.in-None.is)
