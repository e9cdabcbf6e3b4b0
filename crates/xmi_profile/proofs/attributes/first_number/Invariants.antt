use Rattle.std.proofs.Common.{◌≡◌, drop}
use Rattle.xmi_profile.specs.Scanning.{is_own, number_from, pairs_of}
use Rattle.xmi_profile.proofs.attributes.first_number.Given as goal

abbrev pub invariant-loop-number : goal.invariant-loop-number
invariant-loop-number l = number_from (is_own l.own) l.number (pairs_of (drop l.number l.attrs)) ≡ number_from (is_own l.own) 0 (pairs_of l.attrs)
