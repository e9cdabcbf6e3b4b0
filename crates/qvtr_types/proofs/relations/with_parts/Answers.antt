use Rattle.std.proofs.Common.{refl}
use Rattle.qvtr_types.proofs.relations.with_parts.Goals as goal

pub returns-4 : goal.returns-4
returns-4 c = record {
  named = c.in-Ok-or_drop.ensures;
  top = refl;
  direction = c.is_in_direction.ensures;
  layer = refl;
  variables = c.in-Ok-or_drop-vars.ensures;
  universal = c.in-Ok-or_drop-division.ensures.universal;
  existential = c.in-Ok-or_drop-division.ensures.existential;
  asked = refl;
  asked_first = refl;
  asked_then = refl;
}
