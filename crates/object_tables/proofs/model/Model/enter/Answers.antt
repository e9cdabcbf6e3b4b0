use Rattle.std.proofs.Common.{refl, arith}
use Rattle.std.proofs.lemmas.List.Sums.{count_by-le-length}
use Rattle.std.specs.Prelude.{is_some}
use Rattle.object_tables.proofs.AddLemmas.{below_full, tied-enter, seen-enter, tied-given_up}
use Rattle.object_tables.proofs.KeptObjects.{kept_added}
use Rattle.object_tables.proofs.WholeLemmas.{kept_after, kept_unchanged}
use Rattle.object_tables.proofs.model.Model.enter.Goals as goal
use Rattle.object_tables.proofs.model.Model.enter.Goals.{in-Ok-add, in-Err}

pub invariant_of-self-in-Ok-add : goal.invariant_of-self-in-Ok-add
invariant_of-self-in-Ok-add c =
    record {
      tied = tied-enter _ _ _ _ _ _ _ _ _ _ c.len-number.result c.args.id c.as_str.result.now c.self.invariant.tied c.self.view_is c.requires.addable c.requires.class c.requires.count c.ranges.count.fits
          c.in-Ok-add.ensures.ok refl c.as_str.ensures.bytes c.len-number.ensures c.in-Ok.ensures.found c.enter.ensures.kept;
      few = let l = below_full _ _ _ _ _ c.self.invariant.tied c.self.view_is c.requires.addable.room in omega arith;
      kept = kept_after _ _ _ _ _ _ _ c.self.invariant c.self.view_is (seen-enter _ _ _ _ _ _ _ _ c.self.view_is c.requires.count c.in-Ok-add.ensures.ok c.len-number.ensures).1
          (λ k. kept_added _ _ _ k c.requires.class c.requires.addable.concrete c.requires.identifier c.requires.addable.new);
    }

pub invariant_of-self-in-Err : goal.invariant_of-self-in-Err
invariant_of-self-in-Err c =
    record {
      tied = tied-given_up _ _ _ _ _ _ c.self.invariant.tied c.in-Err.ensures.err.0 c.enter.ensures.kept;
      few = c.self.invariant.few;
      kept = kept_unchanged _ _ _ _ _ c.self.invariant c.in-Err.ensures.err.0;
    }

pub invariant_of-self : goal.invariant_of-self
invariant_of-self c =
    record {
      tied = tied-given_up _ _ _ _ _ _ c.self.invariant.tied refl c.enter.ensures.kept;
      few = c.self.invariant.few;
      kept = c.self.invariant.kept;
    }

pub returns-in_default-clause-err : goal.returns-in_default-clause-err
returns-in_default-clause-err c = c.self.view_is

pub add-requires : goal.add-requires
add-requires c = omega (arith, c.self.invariant.tied.few)

pub overflow_add-self : goal.overflow_add-self
overflow_add-self c = omega (arith, c.self.invariant.tied.few, c.self.invariant.tied.count, count_by-le-length (λ r. is_some r.named) c.self.inside.tables)

pub overflow_cast-number : goal.overflow_cast-number
overflow_cast-number c = omega (arith, c.self.invariant.tied.few, c.len-number.ensures)

pub returns-clause-ok : goal.returns-clause-ok
returns-clause-ok c =
    elim c.match-add.branch [
      | in-Ok-add w ↦ rw (w.result-is, w.self-is) (seen-enter _ _ _ _ _ _ _ _ c.self.view_is c.requires.count w.in-Ok-add.ensures.ok c.len-number.ensures)
      | in-Err w ↦ rw w.result-is tt
    ]
