use Rattle.std.proofs.Common.{◌≡◌, ◌++◌, drop, map}
use Rattle.std.specs.Option.{option_map}
use Rattle.qv_syntax.specs.declared.program.Dom.{Dom}
use Rattle.qvtr_semantics.specs.Outs.{all_given}
use Rattle.entry_tops.specs.EntryNames.{value_by_number}
use Rattle.entry_tops.proofs.names.roots_by_number.Given as goal

abbrev pub invariant-loop-dom : goal.invariant-loop-dom
invariant-loop-dom l = option_map (λ more. l.roots ++ more) (all_given (map (λ (dom : Dom). value_by_number l.e dom.root) (drop l.dom-index l.domains)))
    ≡ all_given (map (λ (dom : Dom). value_by_number l.e dom.root) l.domains)
