use Rattle.std.proofs.Common.{◌≡◌, ◌++◌, map}
use Rattle.term_images.proofs.HeldLaws.{partner_value}
use Rattle.term_images.proofs.held.read_partners.Given as goal

abbrev pub invariant-loop-partner : goal.invariant-loop-partner
invariant-loop-partner l = l.read ++ map partner_value l.partner-iterator ≡ map partner_value l.initial.partner-iterator
