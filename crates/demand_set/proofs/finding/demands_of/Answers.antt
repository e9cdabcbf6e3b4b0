-- The entries in order with what they demand are the set, if no two demands are in conflict.
use Rattle.std.specs.Prelude.{All}
use Rattle.std.proofs.Common.{sym, subst}
use Rattle.std.proofs.lemmas.Option.{MatchOption-at_some, MatchOption-at_none}
use Rattle.mof_metamodel.specs.Tables.{IsPropOf}
use Rattle.repair_semantics.specs.declared.demand.Demand.{Demand}
use Rattle.repair_semantics.specs.Conflicts.{AreAtPeace, IsClash}
use Rattle.demand_set.proofs.SetLaws.{sorted_within, props_known, is_set, is_conflict}
use Rattle.demand_set.proofs.finding.demands_of.Goals as goal

pub of_entries-requires : goal.of_entries-requires
of_entries-requires c =
    sorted_within c.requires.premises.0 c.args.program.now c.args.models.now c.requires.premises.1 c.args.table c.args.entries c.in_order-entries.result c.requires.whole
    c.in_order-entries.ensures.same c.in_order-entries.ensures.sorted

pub conflict-requires : goal.conflict-requires
conflict-requires c =
    subst (λ m. All (λ (x : Demand). IsPropOf m x.prop) c.in_ok-demands.demands.list) (sym c.target_meta.ensures)
    (props_known c.requires.premises.0 c.args.program.now c.args.models.now c.requires.premises.1 c.args.table c.args.entries c.in_order-entries.result c.requires.whole
    c.in_order-entries.ensures.same c.in_order-entries.ensures.sorted c.in_ok-demands.demands c.in_ok-demands.ensures.entries c.in_ok-demands.ensures.list c.in_ok-demands.ensures.terms)

pub returns-in-None-clause-ok : goal.returns-in-None-clause-ok
returns-in-None-clause-ok c =
    let d = c.in_ok-demands.demands in
    is_set c.requires.premises.0 c.args.program.now c.args.models.now c.requires.premises.1 c.args.table c.args.entries c.in_order-entries.result c.requires.whole
    c.in_order-entries.ensures.same c.in_order-entries.ensures.sorted d c.in_ok-demands.ensures.entries c.in_ok-demands.ensures.list c.in_ok-demands.ensures.terms
    (subst (λ m. AreAtPeace m d.list) c.target_meta.ensures
    (MatchOption-at_none (AreAtPeace c.target_meta.result.now d.list) (IsClash c.target_meta.result.now d.entries d.list) c.in-None.is c.in_ok-conflict.ensures))

pub returns-in-Some-clause-refusal : goal.returns-in-Some-clause-refusal
returns-in-Some-clause-refusal c =
    let d = c.in_ok-demands.demands in
    is_conflict c.requires.premises.0 c.args.program.now c.args.models.now c.requires.premises.1 c.args.table c.args.entries c.in_order-entries.result c.requires.whole
    c.in_order-entries.ensures.same c.in_order-entries.ensures.sorted d c.in_ok-demands.ensures.entries c.in_ok-demands.ensures.list c.in_ok-demands.ensures.terms c.in-Some.clash
    (subst (λ m. IsClash m d.entries d.list c.in-Some.clash) c.target_meta.ensures
    (MatchOption-at_some (AreAtPeace c.target_meta.result.now d.list) (IsClash c.target_meta.result.now d.entries d.list) c.in-Some.clash c.in-Some.is c.in_ok-conflict.ensures))
