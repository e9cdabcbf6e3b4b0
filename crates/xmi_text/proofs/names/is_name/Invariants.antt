use Rattle.std.proofs.Common.{◌≡◌}
use Rattle.std.specs.List.{fold}
use Rattle.xmi_text.specs.Spellings.{longer}
use Rattle.xmi_text.specs.declared.names.Spelling.TheVariants.{Nothing}
use Rattle.xmi_text.proofs.names.is_name.Given as goal

abbrev pub invariant-loop-c : goal.invariant-loop-c
invariant-loop-c l = l.spelling ≡ fold longer Nothing l.yielded
