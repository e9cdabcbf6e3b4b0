use Rattle.std.proofs.Common.{inl, inr}
use Rattle.source_laws.specs.SourceRelations.{IsSourceExpression}
use Rattle.source_laws.proofs.RuleLaws.{rule_keeps, rule_plain, no_target_extent}
use Rattle.source_laws.proofs.laws.rule_keeps_to_sources.Goals as goal

pub returns-clause-keeps : goal.returns-clause-keeps
returns-clause-keeps c = λ metas program number rel formed found rule. rule_keeps metas program formed number rel found rule

pub returns-clause-names : goal.returns-clause-names
returns-clause-names c = λ program rel keeps. λ d e v within asked names. keeps.names e (IsSourceExpression.asked d within asked) v names

pub returns-clause-whens : goal.returns-clause-whens
returns-clause-whens c = λ metas program number rel formed found rule. rule_plain metas program formed number rel found rel.whens (λ d within. inl within) rule

pub returns-clause-wheres : goal.returns-clause-wheres
returns-clause-wheres c = λ metas program number rel formed found rule. rule_plain metas program formed number rel found rel.wheres (λ d within. inr within) rule

pub returns-clause-extents : goal.returns-clause-extents
returns-clause-extents c = λ metas program e formed asks. no_target_extent metas program e formed asks
