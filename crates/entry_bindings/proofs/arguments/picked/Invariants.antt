use Rattle.std.proofs.Common.{◌≡◌, ◌++◌, drop}
use Rattle.std.specs.Prelude.{None, slice_index_or}
use Rattle.std.specs.List.{filter_map}
use Rattle.qv_syntax.specs.declared.program.Dom.{Dom}
use Rattle.entry_bindings.proofs.arguments.picked.Given as goal

abbrev pub invariant-loop-dom : goal.invariant-loop-dom
invariant-loop-dom l = l.given ++ filter_map (λ (dom : Dom). slice_index_or l.slots dom.root None) (drop l.dom-index l.domains) ≡ filter_map (λ (dom : Dom). slice_index_or l.slots dom.root None) l.domains
