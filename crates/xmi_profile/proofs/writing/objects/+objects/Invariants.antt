use Rattle.std.proofs.Common.{◌≡◌, ◌+◌, ◌*◌, ◌||◌, drop, length, map}
use Rattle.std.specs.List.{flat_map}
use Rattle.mof_metamodel.specs.Tables.{prop_numbers}
use Rattle.xmi_text.specs.Calls.{wrote}
use Rattle.model_assembly.specs.Profile.{prop_name}
use Rattle.xmi_profile.specs.Canon.{object_calls}
use Rattle.xmi_profile.specs.Writable.{Left, AreLive, has_some, children_calls, calls_of, part_elements}
use Rattle.xmi_profile.proofs.writing.objects.+objects.Given as goal

-- each level has four calls within one another
abbrev pub decreases-write_object : goal.decreases-write_object
decreases-write_object l = 4 * l.levels

abbrev pub decreases-write_parts : goal.decreases-write_parts
decreases-write_parts l = 4 * l.levels + 1

abbrev pub decreases-write_child : goal.decreases-write_child
decreases-write_child l = 4 * l.levels + 2

abbrev pub decreases-write_children : goal.decreases-write_children
decreases-write_children l = 4 * l.levels + 3

-- what is left can be written, and then all is
abbrev pub invariant-write_children-loop-p : goal.invariant-write_children-loop-p
invariant-write_children-loop-p l = record {
  left : Left l.writer (flat_map (calls_of l.model l.levels l.fn.o.0) (prop_numbers (drop l.p-index l.props))) (wrote l.fn.writer (children_calls l.model l.levels l.fn.o.0));
  some : (l.some || has_some (flat_map (calls_of l.model l.levels l.fn.o.0) (prop_numbers (drop l.p-index l.props)))) ≡ has_some (children_calls l.model l.levels l.fn.o.0);
}

abbrev pub invariant-write_parts-loop-b : goal.invariant-write_parts-loop-b
invariant-write_parts-loop-b l = record {
  live : AreLive l.model l.left;
  left : Left l.writer (flat_map (object_calls l.model l.levels (prop_name l.model.meta l.fn.at.1.0)) (map (λ b. b.0) l.left)) (wrote l.fn.writer (part_elements l.model l.levels l.fn.at.0.0 l.fn.at.1.0));
  some : (l.some || has_some (flat_map (object_calls l.model l.levels (prop_name l.model.meta l.fn.at.1.0)) (map (λ b. b.0) l.left))) ≡ has_some (part_elements l.model l.levels l.fn.at.0.0 l.fn.at.1.0);
}

abbrev pub decreases-write_parts-loop-b : goal.decreases-write_parts-loop-b
decreases-write_parts-loop-b l = length l.left
