use Rattle.std.proofs.Common.{sym}
use Rattle.std.specs.Cmp.{both_ways}
use Rattle.std.specs.Prelude.{chars}
use Rattle.script_scopes.proofs.NameLemmas.{is_same, same_is}
use Rattle.script_scopes.proofs.names.is_name.Goals as goal

pub returns : goal.returns
returns c = both_ways _ _ (λ h. is_same (chars c.args.name.now) c.args.text.now (sym (c.is.ensures.0 h))) (λ h. c.is.ensures.1 (sym (same_is (chars c.args.name.now) c.args.text.now h)))
