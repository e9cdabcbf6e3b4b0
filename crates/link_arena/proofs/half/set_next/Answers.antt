use Rattle.std.proofs.Common.{refl}
use Rattle.std.proofs.lemmas.List.{map-set}
use Rattle.link_arena.specs.declared.half.Half.{Half}
use Rattle.link_arena.proofs.Columns.{map-kept}
use Rattle.link_arena.proofs.half.set_next.Goals as goal

pub returns-clause-nexts : goal.returns-clause-nexts
returns-clause-nexts c = map-set (λ (s : Half). s.next) c.args.halves.now c.args.at _

pub returns-clause-previouses : goal.returns-clause-previouses
returns-clause-previouses c = map-kept (λ (s : Half). s.previous) c.args.halves.now c.args.at (record { owner = 0; next = 0; previous = 0 }) _ refl

pub returns-clause-owners : goal.returns-clause-owners
returns-clause-owners c = map-kept (λ (s : Half). s.owner) c.args.halves.now c.args.at (record { owner = 0; next = 0; previous = 0 }) _ refl
