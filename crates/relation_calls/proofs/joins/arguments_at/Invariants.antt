use Rattle.std.proofs.Common.{◌≡◌, map, take}
use Rattle.std.specs.Prelude.{None, slice_index_or}
use Rattle.qv_syntax.specs.declared.program.Dom.{Dom}
use Rattle.relation_calls.proofs.joins.arguments_at.Given as goal

abbrev pub invariant-loop-dom : goal.invariant-loop-dom
invariant-loop-dom l = l.columns ≡ map (λ (dom : Dom). slice_index_or l.places dom.root None) (take l.dom-index l.domains)
