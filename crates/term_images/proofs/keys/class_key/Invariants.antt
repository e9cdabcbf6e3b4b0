use Rattle.std.proofs.Common.{◌≡◌, drop}
use Rattle.std.specs.List.{find}
use Rattle.repair_semantics.specs.TargetItems.{is_key_of}
use Rattle.term_images.proofs.keys.class_key.Given as goal

abbrev pub invariant-loop-key : goal.invariant-loop-key
invariant-loop-key l = find (is_key_of l.program l.class.0) (drop l.key-index l.program.keys) ≡ find (is_key_of l.program l.class.0) l.program.keys
