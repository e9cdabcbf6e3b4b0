use Rattle.std.proofs.Common.{◌≡◌, length}
use Rattle.model_assembly.specs.Profile.{id_text}
use Rattle.xmi_profile.specs.Canon.{spaced_behind}
use Rattle.xmi_profile.specs.Writable.{AreLive, ids_of}
use Rattle.xmi_profile.proofs.writing.tags.identifiers.Given as goal

-- the identifiers so far, with those that are left
abbrev pub invariant-loop-b : goal.invariant-loop-b
invariant-loop-b l = record {
  live : AreLive l.model l.left;
  text : spaced_behind l.text (ids_of l.model l.left) ≡ spaced_behind (id_text l.model l.fn.first.0) (ids_of l.model l.fn.others);
}

abbrev pub decreases-loop-b : goal.decreases-loop-b
decreases-loop-b l = length l.left
