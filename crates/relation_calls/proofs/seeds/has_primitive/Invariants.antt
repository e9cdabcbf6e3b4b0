use Rattle.std.proofs.Common.{◌≡◌, drop}
use Rattle.std.specs.List.{list_any}
use Rattle.qv_syntax.specs.declared.program.Dom.{Dom}
use Rattle.relation_calls.specs.Seeds.{is_without_model}
use Rattle.relation_calls.proofs.seeds.has_primitive.Given as goal

abbrev pub invariant-loop-dom : goal.invariant-loop-dom
invariant-loop-dom l = list_any (λ (dom : Dom). is_without_model dom.model) (drop l.dom-index l.rel.domains) ≡ list_any (λ (dom : Dom). is_without_model dom.model) l.rel.domains
