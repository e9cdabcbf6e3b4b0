use Rattle.std.proofs.Common.{◌≡◌, List, sym, subst, ◌∙◌}
use Rattle.std.specs.Prelude.{Option, slice_index_or, Contains}
use Rattle.std.proofs.lemmas.List.Elements.{All-contains_itself}
use Rattle.term_table.specs.declared.numbered.NumberedValue.{NumberedValue}
use Rattle.term_table.proofs.TermTableLaws.{grown-trans}
use Rattle.entry_finding.specs.Made.{IsBindingIn}
use Rattle.entry_finding.proofs.AllLaws.{binding_stays, unmet_of, made_step}
use Rattle.entry_finding.proofs.all_made.all_made.Goals as goal

pub entry_made-requires-clause-binding : goal.entry_made-requires-clause-binding
entry_made-requires-clause-binding c =
    let task = c.args.task.now in
    let bs = c.args.bs.now in
    let item : c.as_slice.result.now ≡ slice_index_or bs c.loop-b.b-index c.b-item.result = c.as_slice.ensures ∙ c.b-item.is in
    binding_stays task.program.now task.recipe.now.rel.now c.args.table.now c.loop-b.table c.loop-b.invariant.grown c.as_slice.result.now
    (subst (IsBindingIn task.program.now task.recipe.now.rel.now c.args.table.now) (sym item) (c.requires.bindings c.loop-b.b-index c.b-item.result c.loop-b-test.true))

pub returns-in-Unmet-clause-unmet : goal.returns-in-Unmet-clause-unmet
returns-in-Unmet-clause-unmet c =
    let task = c.args.task.now in
    let bs = c.args.bs.now in
    let b = c.as_slice.result.now in
    let item : b ≡ slice_index_or bs c.loop-b.b-index c.b-item.result = c.as_slice.ensures ∙ c.b-item.is in
    let there : Contains bs b = subst (λ (x : List (Option NumberedValue)). Contains bs x) (sym item) (All-contains_itself bs c.loop-b.b-index c.b-item.result c.loop-b-test.true) in
    let own = subst (IsBindingIn task.program.now task.recipe.now.rel.now c.args.table.now) (sym item) (c.requires.bindings c.loop-b.b-index c.b-item.result c.loop-b-test.true) in
    unmet_of task.program.now task.models.now task.rel task.recipe.now.rel.now task.called c.args.table.now c.loop-b.table c.entry_made.new.table c.loop-b.invariant.grown bs b there own.within
    c.in_ok-met.field-0 c.in-Unmet.unmet c.in-Unmet.is c.in_ok-met.ensures.made

pub loop-b-preserved : goal.loop-b-preserved
loop-b-preserved c =
    let task = c.args.task.now in
    let bs = c.args.bs.now in
    let b = c.as_slice.result.now in
    let item : b ≡ slice_index_or bs c.loop-b.b-index c.b-item.result = c.as_slice.ensures ∙ c.b-item.is in
    let own = subst (IsBindingIn task.program.now task.recipe.now.rel.now c.args.table.now) (sym item) (c.requires.bindings c.loop-b.b-index c.b-item.result c.loop-b-test.true) in
    record {
      grown = grown-trans c.args.table.now c.loop-b.table c.entry_made.new.table c.loop-b.invariant.grown c.in_ok-met.ensures.grown;
      made = made_step task.program.now task.models.now task.rel task.recipe.now.rel.now task.called c.args.table.now c.loop-b.table c.entry_made.new.table
          c.loop-b.invariant.grown c.in_ok-met.ensures.grown bs c.loop-b.b-index b c.b-item.result c.loop-b-test.true item own.within c.loop-b.found c.loop-b.invariant.made
          c.in_ok-met.field-0 c.in-Met.met c.in-Met.is c.in_ok-met.ensures.made c.put_met.new.found c.in_ok-put_met-in-Met.ensures.entries c.in_ok-put_met-in-Met.ensures.calls;
    }
