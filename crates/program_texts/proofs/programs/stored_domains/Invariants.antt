use Rattle.std.proofs.Common.{◌≡◌, map, drop}
use Rattle.program_texts.specs.Stored.{all_true, is_domain_stored}
use Rattle.program_texts.proofs.programs.stored_domains.Given as goal

abbrev pub invariant-loop-dom : goal.invariant-loop-dom
invariant-loop-dom l = all_true (map is_domain_stored (drop l.dom-index l.domains)) ≡ all_true (map is_domain_stored l.domains)
