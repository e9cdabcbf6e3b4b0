use Rattle.entry_texts.proofs.PropLaws.{Covers}
use Rattle.entry_texts.proofs.target.prop_count.Given as goal

-- the properties of the classes so far are counted
abbrev pub invariant-loop-class : goal.invariant-loop-class
invariant-loop-class l = Covers l.meta l.class l.count
