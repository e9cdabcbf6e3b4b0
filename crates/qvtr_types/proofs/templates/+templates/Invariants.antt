use Rattle.std.proofs.Common.{◌≡◌, ℕ, ◌+◌, List, ◌++◌, map, drop}
use Rattle.std.specs.Prelude.{All}
use Rattle.qv_syntax.specs.declared.program.Item.{Item}
use Rattle.ocl_environments.specs.declared.fault.TypeFault.{TypeFault}
use Rattle.script_scopes.specs.ResolvedTemplates.{AreItems}
use Rattle.qvtr_types.specs.TemplatePieces.{IsMeant, IsPieceFault}
use Rattle.qvtr_types.proofs.ItemLaws.{pieces_from, pieces_count}
use Rattle.qvtr_types.proofs.templates.+templates.Given as goal

abbrev pub invariant-resolve_items-loop-tree : goal.invariant-resolve_items-loop-tree
invariant-resolve_items-loop-tree l = record {
  are : (rest : List Item) (next : ℕ) → AreItems l.scope l.of.0 l.k (drop l.tree-index l.trees) rest next → AreItems l.scope l.of.0 l.fn.first l.trees (l.items ++ rest) next;
  next : l.k + pieces_count (drop l.tree-index l.trees) ≡ l.fn.first + pieces_count l.trees;
  meant : All (IsMeant l.scope) (pieces_from l.k l.of.1.now (drop l.tree-index l.trees)) → All (IsMeant l.scope) (pieces_from l.fn.first l.of.1.now l.trees);
  fault : (f : TypeFault) → IsPieceFault l.scope (pieces_from l.k l.of.1.now (drop l.tree-index l.trees)) f → IsPieceFault l.scope (pieces_from l.fn.first l.of.1.now l.trees) f;
}
