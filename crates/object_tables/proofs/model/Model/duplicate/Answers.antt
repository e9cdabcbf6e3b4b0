use Rattle.object_tables.proofs.CopyLemmas.{tied-copy}
use Rattle.object_tables.proofs.SamenessLemmas.{same_as_equal}
use Rattle.object_tables.proofs.WholeLemmas.{kept_unchanged}
use Rattle.object_tables.proofs.ModelLemmas.{seen}
use Rattle.std.proofs.Common.{◌∙◌, ap}
use Rattle.object_tables.proofs.model.Model.duplicate.Goals as goal

pub invariant_of-result : goal.invariant_of-result
invariant_of-result c = record {
  tied = tied-copy _ _ _ _ _ _ c.self.invariant.tied c.in_ok-tables.ensures c.in-Ok-or_drop.ensures;
  few = c.self.invariant.few;
  kept = kept_unchanged _ _ _ _ _ c.self.invariant c.in_ok-tables.ensures;
}

pub returns-2-clause-same : goal.returns-2-clause-same
returns-2-clause-same c = same_as_equal _ _ (ap (seen c.self.inside.meta.now) c.in_ok-tables.ensures ∙ c.self.view_is)
