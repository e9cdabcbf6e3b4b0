use Rattle.std.proofs.Common.{ℕ, List, length, sym, subst}
use Rattle.enforcement_rules.specs.Edges.{Edge, BeginWithin, HasEdges}
use Rattle.enforcement_rules.specs.NumberSets.{has}
use Rattle.enforcement_rules.proofs.KeyCycleLaws.{begin_within, cycle_told_of}
use Rattle.enforcement_rules.proofs.key_cycles.has_key_cycle.Goals as goal

pub rows_of-requires : goal.rows_of-requires
rows_of-requires c =
    subst (λ (n : ℕ). BeginWithin n c.as_slice.result.now) (sym c.len.ensures)
    (subst (BeginWithin (length c.args.task.now.rel.now.vars)) (sym c.as_slice.ensures)
    (begin_within c.args.task.now.metas.now c.args.task.now.program.now c.requires.relation.number c.args.task.now.rel.now c.requires.relation.meant c.requires.relation.range.vars _ c.requires.templates c.requires.variables
    c.args.task.now.keys.now c.requires.keys c.requires.one c.args.task.now.meta (has c.args.existential.now) c.requires.target c.requires.existential c.in_ok-edges.edges c.in_ok-edges.ensures))

pub returns : goal.returns
returns c =
    cycle_told_of c.args.task.now.metas.now c.args.task.now.program.now c.requires.relation.number c.args.task.now.rel.now c.requires.relation.meant c.requires.relation.range.vars _ c.requires.templates c.requires.variables
    c.args.task.now.keys.now c.requires.keys c.requires.one c.args.task.now.meta (has c.args.existential.now) c.requires.target c.requires.existential c.in_ok-edges.edges c.in_ok-edges.ensures
    c.as_slice-2.result.now (subst (HasEdges (length c.args.task.now.rel.now.vars) c.in_ok-edges.edges) (sym c.as_slice-2.ensures.value)
    (subst (λ (n : ℕ). HasEdges n c.in_ok-edges.edges c.in_ok-rows.rows.items) c.len.ensures (subst (λ (es : List Edge). HasEdges c.len.result es c.in_ok-rows.rows.items) c.as_slice.ensures c.in_ok-rows.ensures)))
    c.in_ok-found.found c.in_ok-found.ensures c.is_some.result c.is_some.ensures
