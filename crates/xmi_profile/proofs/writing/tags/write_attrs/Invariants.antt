use Rattle.std.proofs.Common.{drop}
use Rattle.std.specs.List.{flat_map}
use Rattle.mof_metamodel.specs.Tables.{prop_numbers}
use Rattle.xmi_text.specs.Calls.{wrote}
use Rattle.model_assembly.specs.Profile.{object_props}
use Rattle.xmi_profile.specs.Canon.{attr_calls}
use Rattle.xmi_profile.specs.Writable.{Left}
use Rattle.xmi_profile.proofs.writing.tags.write_attrs.Given as goal

-- what is left can be written, and then all is
abbrev pub invariant-loop-p : goal.invariant-loop-p
invariant-loop-p l =
    Left l.writer (flat_map (attr_calls l.model l.o.0) (prop_numbers (drop l.p-index l.props))) (wrote l.fn.writer (flat_map (attr_calls l.model l.o.0) (object_props l.model l.o.0)))
