use Rattle.std.proofs.Common.{length}
use Rattle.std.specs.Prelude.{◌-◌}
use Rattle.std.specs.List.{flat_map, range_with_len}
use Rattle.xmi_text.specs.Calls.{wrote}
use Rattle.xmi_profile.specs.Canon.{top_calls, top_numbers}
use Rattle.xmi_profile.specs.Writable.{Left, calls_at}
use Rattle.xmi_profile.proofs.writing.write_tops.Given as goal

abbrev pub invariant-loop-o : goal.invariant-loop-o
invariant-loop-o l =
    Left l.writer (flat_map (calls_at l.model) (range_with_len l.o (length l.model.objects - l.o))) (wrote l.fn.writer (flat_map (top_calls l.model) (top_numbers l.model)))
