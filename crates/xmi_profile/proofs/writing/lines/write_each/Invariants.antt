use Rattle.std.proofs.Common.{drop}
use Rattle.std.specs.Prelude.{chars}
use Rattle.std.specs.List.{flat_map}
use Rattle.xmi_text.specs.Calls.{wrote}
use Rattle.xmi_profile.specs.Writable.{Left, text_value}
use Rattle.xmi_profile.proofs.writing.lines.write_each.Given as goal

-- what is left can be written, and then all is
abbrev pub invariant-loop-value : goal.invariant-loop-value
invariant-loop-value l =
    Left l.writer (flat_map (text_value l.meta l.depth (chars l.name)) (drop l.value-index l.values)) (wrote l.fn.writer (flat_map (text_value l.meta l.depth (chars l.name)) l.values))
