use Rattle.std.specs.Prelude.{◌≡◌, ◌<◌, List, Some, None, length, replicate, slice_get, true}
use Rattle.std.proofs.Common.{sym, ap, subst, ◌∙◌}
use Rattle.std.proofs.lemmas.Option.{slice_get_within}
use Rattle.std.proofs.lemmas.Result.{IfOk-weaker}
use Rattle.qv_syntax.specs.declared.program.Rel.{Rel}
use Rattle.repair_semantics.specs.EntryValues.{TermValues, root_values}
use Rattle.term_table.specs.declared.numbered.NumberedValue.{NumberedValue}
use Rattle.term_table.specs.TermTables.{values_in}
use Rattle.entry_making.specs.CallNumbers.{with_numbers, call_of}
use Rattle.entry_bindings.specs.Matches.{names_in}
use Rattle.entry_bindings.specs.Asked.{AreWithin}
use Rattle.entry_finding.specs.Found.{IsSought, AreFound, IsUnmetAmong, IfMet, IfUnmet}
use Rattle.entry_finding.proofs.SoughtLaws.{call_sought}
use Rattle.entry_walk.specs.Explored.{IsExplored, IsUnmetOf}
use Rattle.entry_walk.proofs.GrowthLaws.{tops_grown}
use Rattle.entry_walk.proofs.ExploringLaws.{roots_within, roots_shown, rel_at, made_rel, explored_by, unmet_by, if_met, if_unmet}
use Rattle.entry_walk.proofs.exploring.explored.Goals as goal

pub bounds-as_slice-call : goal.bounds-as_slice-call
bounds-as_slice-call c =
    let (metas, can) = c.requires.premises in
    let program = c.args.ground.now.world.program.now in
    let r = made_rel metas program can.evaluable.well c.args.ground.now.world.models.now (call_of c.args.table.now c.args.call.now) c.requires.made in
    subst (λ (rs : List Rel). c.args.call.now.rel < length rs) (sym c.as_slice.ensures) (slice_get_within program.rels c.args.call.now.rel r.0 r.1)

pub entries_with-requires-clause-sought : goal.entries_with-requires-clause-sought
entries_with-requires-clause-sought c =
    let (metas, can) = c.requires.premises in
    let program = c.args.ground.now.world.program.now in
    let models = c.args.ground.now.world.models.now in
    let call = c.args.call.now in
    let terms = c.args.table.now in
    let rel = c.index-as_slice-call.result in
    let r = made_rel metas program can.evaluable.well models (call_of terms call) c.requires.made in
    let found : slice_get program.rels call.rel ≡ Some rel = rel_at program.rels c.as_slice.result.now call.rel rel c.as_slice.ensures (slice_get_within program.rels call.rel r.0 r.1) c.index-as_slice-call.is in
    let numbers : c.as_slice-3.result.now ≡ with_numbers (replicate (length rel.vars) None) rel.domains call.roots =
    c.as_slice-3.ensures.value ∙ c.in_ok-roots.ensures ∙ ap (λ (xs : List NumberedValue). with_numbers (replicate (length rel.vars) None) rel.domains xs) c.as_slice-2.ensures in
    let are : values_in terms c.as_slice-3.result.now ≡ root_values rel (call_of terms call).roots = ap (values_in terms) numbers ∙ roots_shown terms rel call.roots in
    (metas, can, subst (IsSought metas program models call.rel) (sym are) (call_sought metas program models can c.requires.made.0 c.requires.made.1 (call_of terms call) c.requires.made.2 rel found))

pub entries_with-requires-clause-numbers : goal.entries_with-requires-clause-numbers
entries_with-requires-clause-numbers c =
    let call = c.args.call.now in
    let rel = c.index-as_slice-call.result in
    let numbers : c.as_slice-3.result.now ≡ with_numbers (replicate (length rel.vars) None) rel.domains call.roots =
    c.as_slice-3.ensures.value ∙ c.in_ok-roots.ensures ∙ ap (λ (xs : List NumberedValue). with_numbers (replicate (length rel.vars) None) rel.domains xs) c.as_slice-2.ensures in
    subst (AreWithin c.args.table.now) (sym numbers) (roots_within c.args.table.now rel call.roots c.requires.within)

pub returns-clause-met : goal.returns-clause-met
returns-clause-met c =
    let (metas, can) = c.requires.premises in
    let program = c.args.ground.now.world.program.now in
    let models = c.args.ground.now.world.models.now in
    let tops = c.args.ground.now.tops.now in
    let call = c.args.call.now in
    let terms = c.args.table.now in
    let after = c.entries_with.new.table in
    let rel = c.index-as_slice-call.result in
    let r = made_rel metas program can.evaluable.well models (call_of terms call) c.requires.made in
    let found : slice_get program.rels call.rel ≡ Some rel = rel_at program.rels c.as_slice.result.now call.rel rel c.as_slice.ensures (slice_get_within program.rels call.rel r.0 r.1) c.index-as_slice-call.is in
    let numbers : c.as_slice-3.result.now ≡ with_numbers (replicate (length rel.vars) None) rel.domains call.roots =
    c.as_slice-3.ensures.value ∙ c.in_ok-roots.ensures ∙ ap (λ (xs : List NumberedValue). with_numbers (replicate (length rel.vars) None) rel.domains xs) c.as_slice-2.ensures in
    let roots : TermValues = values_in after c.as_slice-3.result.now in
    let are : roots ≡ root_values rel (call_of after call).roots = ap (values_in after) numbers ∙ roots_shown after rel call.roots in
    IfOk-weaker c.entries_with.result (IfMet (AreFound program models after (names_in after tops.matches) call.rel true roots)) (IfMet (IsExplored program models after tops call))
    (λ finding h. if_met (AreFound program models after (names_in after tops.matches) call.rel true roots) (IsExplored program models after tops call)
    (explored_by program models after tops (tops_grown program models terms after c.entries_with.ensures.grown tops c.requires.tops) call rel found roots are) finding h)
    c.entries_with.ensures.met

pub returns-clause-unmet : goal.returns-clause-unmet
returns-clause-unmet c =
    let (metas, can) = c.requires.premises in
    let program = c.args.ground.now.world.program.now in
    let models = c.args.ground.now.world.models.now in
    let tops = c.args.ground.now.tops.now in
    let call = c.args.call.now in
    let terms = c.args.table.now in
    let after = c.entries_with.new.table in
    let rel = c.index-as_slice-call.result in
    let r = made_rel metas program can.evaluable.well models (call_of terms call) c.requires.made in
    let found : slice_get program.rels call.rel ≡ Some rel = rel_at program.rels c.as_slice.result.now call.rel rel c.as_slice.ensures (slice_get_within program.rels call.rel r.0 r.1) c.index-as_slice-call.is in
    let numbers : c.as_slice-3.result.now ≡ with_numbers (replicate (length rel.vars) None) rel.domains call.roots =
    c.as_slice-3.ensures.value ∙ c.in_ok-roots.ensures ∙ ap (λ (xs : List NumberedValue). with_numbers (replicate (length rel.vars) None) rel.domains xs) c.as_slice-2.ensures in
    let roots : TermValues = values_in after c.as_slice-3.result.now in
    let are : roots ≡ root_values rel (call_of after call).roots = ap (values_in after) numbers ∙ roots_shown after rel call.roots in
    IfOk-weaker c.entries_with.result (IfUnmet (IsUnmetAmong program models after (names_in after tops.matches) call.rel true roots)) (IfUnmet (IsUnmetOf program models after tops call))
    (λ finding h. if_unmet (IsUnmetAmong program models after (names_in after tops.matches) call.rel true roots) (IsUnmetOf program models after tops call)
    (unmet_by program models after tops (tops_grown program models terms after c.entries_with.ensures.grown tops c.requires.tops) call rel found roots are) finding h)
    c.entries_with.ensures.unmet
