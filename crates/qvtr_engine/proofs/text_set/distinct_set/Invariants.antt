use Rattle.std.proofs.Common.{◌≡◌, true, take, map}
use Rattle.qvtr_engine.specs.Names.{are_distinct}
use Rattle.qvtr_engine.specs.TextSets.{IsSetOf}
use Rattle.qvtr_engine.proofs.text_set.distinct_set.Given as goal

-- the texts so far are in the set, and distinct
abbrev pub invariant-loop-text : goal.invariant-loop-text
invariant-loop-text l =
    IsSetOf (map (λ t. t.now) (take l.text-index l.texts)) l.met × (are_distinct (map (λ t. t.now) (take l.text-index l.texts)) ≡ true)
