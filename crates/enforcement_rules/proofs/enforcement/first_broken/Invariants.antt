use Rattle.std.proofs.Common.{◌≡◌, ◌<◌, ℕ}
use Rattle.enforcement_rules.specs.Rules.{BreaksAt}
use Rattle.enforcement_rules.proofs.enforcement.first_broken.Given as goal

abbrev pub invariant-loop-rel : goal.invariant-loop-rel
invariant-loop-rel l = record {
  counted : l.relation ≡ l.rel-index;
  kept : (earlier other : ℕ) → earlier < l.rel-index → ¬ BreaksAt l.metas l.program earlier other;
}
