use Rattle.std.proofs.Common.{ap, ◌∙◌}
use Rattle.std.specs.Prelude.{chars}
use Rattle.script_scopes.specs.ScriptNames.{each_once}
use Rattle.qvtr_types.proofs.RelationLaws.{relation_is}
use Rattle.qvtr_types.proofs.relations.resolve_relation.Goals as goal

pub resolve_parts-parts-requires-clause-universal : goal.resolve_parts-parts-requires-clause-universal
resolve_parts-parts-requires-clause-universal c = c.in_ok-universal.ensures ∙ ap each_once c.in_ok-named.ensures

pub returns-2-clause-is : goal.returns-2-clause-is
returns-2-clause-is c = λ s over own layer.
    relation_is s c.args.relation.now.tree.now c.args.relation.now.stratum c.args.relation.now.vars.now c.in_ok-parts.parts.domains c.in_ok-parts.parts.clauses.whens c.in_ok-parts.parts.clauses.wheres
    c.in_ok-rel.rel (chars c.args.scope.now.target.now) over.aimed own.are layer (c.in_ok-parts.ensures.parts s over own) c.in_ok-rel.ensures

pub returns-2-clause-vars : goal.returns-2-clause-vars
returns-2-clause-vars c = c.in_ok-rel.ensures.variables
