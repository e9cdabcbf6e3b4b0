use Rattle.std.specs.Prelude.{◌<◌, ℕ, List, length, take, slice_index_or}
use Rattle.std.proofs.Common.{sym, subst, arith}
use Rattle.std.proofs.lemmas.List.{take_all}
use Rattle.std.proofs.lemmas.Option.{MatchOption-at_some, MatchOption-at_none}
use Rattle.term_table.proofs.TermTableLaws.{grown-refl, grown-trans}
use Rattle.entry_tops.specs.declared.ranked.Ranked.{Ranked}
use Rattle.entry_tops.specs.TopOrder.{numbers_of}
use Rattle.entry_tops.specs.Steps.{IsWithRelation, IsUnmetWith, AreTopsUpTo}
use Rattle.entry_tops.proofs.OrderLaws.{next_top, next_higher, next_new, next_done}
use Rattle.entry_tops.proofs.StepLaws.{no_tops, tops_grown, with_relation, unmet_top, all_found}
use Rattle.entry_tops.proofs.search.add_relations.Goals as goal

-- what stands for a place outside of a list
abbrev absent : Ranked
absent = record { stratum = 0; number = 0 }

pub loop-i-init : goal.loop-i-init
loop-i-init c =
    let p = c.requires.premises in
    let n = c.requires.none in
    (no_tops p.0 c.args.world.now.program.now p.1.evaluable.well c.args.world.now.models.now c.args.table.now c.args.tops.now n.0 n.1 n.2, grown-refl c.args.table.now)

pub add_relation-requires-clause-top : goal.add_relation-requires-clause-top
add_relation-requires-clause-top c =
    let below : c.loop-i.i < length c.args.order.now = omega (arith, c.loop-i-test.true) in
    next_top c.args.world.now.program.now c.args.order.now c.requires.ordered c.loop-i.i absent below

pub add_relation-requires-clause-names : goal.add_relation-requires-clause-names
add_relation-requires-clause-names c = c.loop-i.invariant.0.names_within

pub returns-in_err-unmet-clause-grown : goal.returns-in_err-unmet-clause-grown
returns-in_err-unmet-clause-grown c = grown-trans c.args.table.now c.loop-i.table c.add_relation.new.table c.loop-i.invariant.1 c.add_relation.ensures.grown

pub returns-in-Some-clause-found : goal.returns-in-Some-clause-found
returns-in-Some-clause-found c =
    let p = c.requires.premises in
    let program = c.args.world.now.program.now in
    let models = c.args.world.now.models.now in
    let order = c.args.order.now in
    let i = c.loop-i.i in
    let r = slice_index_or order i absent in
    let below : i < length order = omega (arith, c.loop-i-test.true) in
    let top = next_top program order c.requires.ordered i absent below in
    let terms = c.add_relation.new.table in
    let done = numbers_of (take i order) in
    let up = tops_grown p.0 program p.1.evaluable.well models c.loop-i.table terms done c.loop-i.tops c.add_relation.ensures.grown c.loop-i.invariant.0 in
    let is = MatchOption-at_some (IsWithRelation program models terms r.number c.loop-i.tops c.add_relation.new.tops) (IsUnmetWith program models terms r.number c.loop-i.tops) c.in-Some.unmet c.in-Some.is c.in_ok-unmet.ensures.found in
    unmet_top p.0 program p.1.evaluable.well models terms done c.loop-i.tops up r.number top.0 top.1
    (next_higher program order c.requires.ordered i absent below) (next_new program order c.requires.ordered i absent below) c.in-Some.unmet is

pub returns-in-Some-clause-grown : goal.returns-in-Some-clause-grown
returns-in-Some-clause-grown c = grown-trans c.args.table.now c.loop-i.table c.add_relation.new.table c.loop-i.invariant.1 c.add_relation.ensures.grown

pub loop-i-preserved : goal.loop-i-preserved
loop-i-preserved c =
    let p = c.requires.premises in
    let program = c.args.world.now.program.now in
    let models = c.args.world.now.models.now in
    let order = c.args.order.now in
    let i = c.loop-i.i in
    let r = slice_index_or order i absent in
    let below : i < length order = omega (arith, c.loop-i-test.true) in
    let top = next_top program order c.requires.ordered i absent below in
    let terms = c.add_relation.new.table in
    let done = numbers_of (take i order) in
    let up = tops_grown p.0 program p.1.evaluable.well models c.loop-i.table terms done c.loop-i.tops c.add_relation.ensures.grown c.loop-i.invariant.0 in
    let step = MatchOption-at_none (IsWithRelation program models terms r.number c.loop-i.tops c.add_relation.new.tops) (IsUnmetWith program models terms r.number c.loop-i.tops) c.in_default.is c.in_ok-unmet.ensures.found in
    let more = with_relation p.0 program p.1.evaluable.well models terms done c.loop-i.tops up r.number top.0 top.1
    (next_higher program order c.requires.ordered i absent below) (next_new program order c.requires.ordered i absent below) c.add_relation.new.tops step in (
      subst (λ (ns : List ℕ). AreTopsUpTo program models terms ns c.add_relation.new.tops) (sym (next_done program order c.requires.ordered i absent below)) more,
      grown-trans c.args.table.now c.loop-i.table terms c.loop-i.invariant.1 c.add_relation.ensures.grown,
    )

pub returns-clause-found : goal.returns-clause-found
returns-clause-found c =
    let p = c.requires.premises in
    let program = c.args.world.now.program.now in
    let models = c.args.world.now.models.now in
    let order = c.args.order.now in
    let whole = subst (λ (rs : List Ranked). AreTopsUpTo program models c.loop-i.table (numbers_of rs) c.loop-i.tops) (take_all c.loop-i.i order (omega (arith, c.loop-i-test.false))) c.loop-i.invariant.0 in
    all_found p.0 program p.1.evaluable.well models c.loop-i.table (numbers_of order) c.loop-i.tops c.requires.ordered whole

pub returns-clause-grown : goal.returns-clause-grown
returns-clause-grown c = c.loop-i.invariant.1
