use Rattle.std.proofs.Common.{◌≡◌, drop}
use Rattle.model_assembly.specs.Attributes.{value_where}
use Rattle.xmi_profile.specs.Scanning.{is_own, pairs_of}
use Rattle.xmi_profile.proofs.attributes.first_value.Given as goal

abbrev pub invariant-loop-attr : goal.invariant-loop-attr
invariant-loop-attr l = value_where (is_own l.own) (pairs_of (drop l.attr-index l.attrs)) ≡ value_where (is_own l.own) (pairs_of l.attrs)
