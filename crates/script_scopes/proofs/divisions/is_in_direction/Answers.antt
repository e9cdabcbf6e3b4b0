use Rattle.std.proofs.Common.{Bool, ap, sym, subst, ◌∙◌}
use Rattle.std.specs.Prelude.{chars, IsTrue, ◌↔◌}
use Rattle.script_scopes.specs.Directions.{IsInDirection}
use Rattle.script_scopes.specs.UniversalNames.{has_domain_of}
use Rattle.script_scopes.proofs.DivisionLaws.{in_direction}
use Rattle.script_scopes.proofs.divisions.is_in_direction.Goals as goal

pub returns : goal.returns
returns c = subst (λ (b : Bool). IsTrue b ↔ IsInDirection (chars c.args.target.now) c.args.r.now)
    (sym (c.has_domain_of.ensures ∙ ap (has_domain_of (chars c.args.target.now)) c.as_slice.ensures)) (in_direction (chars c.args.target.now) c.args.r.now)
