use Rattle.std.proofs.Common.{◌≡◌, ℕ, List, Some, below_more, arith}
use Rattle.std.specs.Prelude.{All}
use Rattle.object_tables.specs.Models.{IsAttributeOf, id_at, values_at}
use Rattle.model_assembly.specs.Held.{IsHeldText, IsHeld}
use Rattle.model_assembly.proofs.HeldLaws.{none_gone, none_named}
use Rattle.model_assembly.proofs.held.learn_objects.Goals as goal

pub loop-o-preserved : goal.loop-o-preserved
loop-o-preserved c =
    below_more
    (λ (a : ℕ). ((id : List ℕ) → id_at c.args.model.now a ≡ Some id → IsHeldText id) × ((p : ℕ) → IsAttributeOf c.args.model.now a p → All IsHeld (values_at c.args.model.now a p)))
    c.loop-o.o c.loop-o.invariant (c.learn_id.ensures, c.learn_slots.ensures)

pub returns-clause-ids : goal.returns-clause-ids
returns-clause-ids c o id e = let within = none_named c.args.model.now o id e in (c.loop-o.invariant o (omega (arith, within))).0 id e

pub returns-clause-values : goal.returns-clause-values
returns-clause-values c o p a = let within = none_gone c.args.model.now o a.class a.class_is in (c.loop-o.invariant o (omega (arith, within))).1 p a
