use Rattle.std.proofs.Common.{List, map, sym, subst}
use Rattle.std.specs.Prelude.{All}
use Rattle.term_table.specs.TermTables.{values_in}
use Rattle.entry_making.proofs.ResultLaws.{told_more}
use Rattle.entry_bindings.specs.Starts.{NumberedValues}
use Rattle.entry_bindings.specs.Matches.{names_in}
use Rattle.entry_finding.specs.Found.{AreFound, IsUnmetAmong, IfMet, IfUnmet}
use Rattle.entry_finding.specs.Made.{IsBindingIn, AreMade, IsOneUnmet}
use Rattle.entry_finding.proofs.FindingLaws.{met_more, unmet_more, planned, recipe_is, found_is, short_is, few_is, bindings_in, are_found, is_unmet_among}
use Rattle.entry_finding.proofs.finding.entries_by.Goals as goal

pub entry_bindings-requires-clause-planned : goal.entry_bindings-requires-clause-planned
entry_bindings-requires-clause-planned c =
    let s = c.requires.sought in
    planned s.0 c.args.world.now.program.now c.args.world.now.models.now s.1 c.args.rooted.now.rel c.args.table.now c.args.rooted.now.roots.now s.2 c.args.preparation.now (c.requires.prepared s.2.rel s.2.found)

pub all_made-requires-clause-recipe : goal.all_made-requires-clause-recipe
all_made-requires-clause-recipe c =
    let s = c.requires.sought in
    recipe_is s.0 c.args.world.now.program.now c.args.world.now.models.now s.1 c.args.rooted.now.rel c.args.table.now c.args.rooted.now.roots.now s.2 c.args.preparation.now (c.requires.prepared s.2.rel s.2.found)

pub all_made-requires-clause-found : goal.all_made-requires-clause-found
all_made-requires-clause-found c =
    let s = c.requires.sought in
    found_is s.0 c.args.world.now.program.now c.args.world.now.models.now s.1 c.args.rooted.now.rel c.args.table.now c.args.rooted.now.roots.now s.2 c.args.preparation.now (c.requires.prepared s.2.rel s.2.found)

pub all_made-requires-clause-short : goal.all_made-requires-clause-short
all_made-requires-clause-short c =
    let s = c.requires.sought in
    short_is s.0 c.args.world.now.program.now c.args.world.now.models.now s.1 c.args.rooted.now.rel c.args.table.now c.args.rooted.now.roots.now s.2 c.args.preparation.now (c.requires.prepared s.2.rel s.2.found)

pub all_made-requires-clause-few : goal.all_made-requires-clause-few
all_made-requires-clause-few c =
    let s = c.requires.sought in
    few_is s.0 c.args.world.now.program.now c.args.world.now.models.now s.1 c.args.rooted.now.rel c.args.table.now c.args.rooted.now.roots.now s.2 c.args.preparation.now (c.requires.prepared s.2.rel s.2.found)

pub all_made-requires-clause-bindings : goal.all_made-requires-clause-bindings
all_made-requires-clause-bindings c =
    let s = c.requires.sought in
    let program = c.args.world.now.program.now in
    let before = c.args.table.now in
    let prep = c.args.preparation.now in
    let bs = c.in_ok-bindings.bindings in
    subst (λ (xs : List NumberedValues). All (IsBindingIn program prep.recipe.rel.now before) xs) (sym c.as_slice.ensures)
    (bindings_in s.0 program c.args.world.now.models.now s.1 c.args.rooted.now.rel before c.args.rooted.now.roots.now s.2 prep (c.requires.prepared s.2.rel s.2.found) c.args.matches.now bs
    c.in_ok-bindings.ensures.exact c.in_ok-bindings.ensures.each_once c.in_ok-bindings.ensures.within)

pub returns-clause-met : goal.returns-clause-met
returns-clause-met c =
    let s = c.requires.sought in
    let program = c.args.world.now.program.now in
    let models = c.args.world.now.models.now in
    let number = c.args.rooted.now.rel in
    let called = c.args.rooted.now.called in
    let roots = c.args.rooted.now.roots.now in
    let before = c.args.table.now in
    let after = c.all_made.new.table in
    let prep = c.args.preparation.now in
    let ms = c.args.matches.now in
    let bs = c.in_ok-bindings.bindings in
    let P = λ (xs : List NumberedValues). AreMade program models after number prep.recipe.rel.now called (map (values_in before) xs) in
    let Q = AreFound program models after (names_in after ms) number called (values_in after roots) in
    told_more c.all_made.result (IfMet (P c.as_slice.result.now)) (IfMet Q) c.all_made.ensures.met
    (λ f is. met_more (P c.as_slice.result.now) Q f (λ found made.
    are_found s.0 program models s.1 number before roots s.2 prep (c.requires.prepared s.2.rel s.2.found) ms bs c.in_ok-bindings.ensures.exact c.in_ok-bindings.ensures.each_once
    after c.all_made.ensures.grown c.requires.numbers c.requires.names called found (subst (λ (xs : List NumberedValues). P xs found) c.as_slice.ensures made)) is)

pub returns-clause-unmet : goal.returns-clause-unmet
returns-clause-unmet c =
    let s = c.requires.sought in
    let program = c.args.world.now.program.now in
    let models = c.args.world.now.models.now in
    let number = c.args.rooted.now.rel in
    let called = c.args.rooted.now.called in
    let roots = c.args.rooted.now.roots.now in
    let before = c.args.table.now in
    let after = c.all_made.new.table in
    let prep = c.args.preparation.now in
    let ms = c.args.matches.now in
    let bs = c.in_ok-bindings.bindings in
    let P = λ (xs : List NumberedValues). IsOneUnmet program models after number prep.recipe.rel.now called (map (values_in before) xs) in
    let Q = IsUnmetAmong program models after (names_in after ms) number called (values_in after roots) in
    told_more c.all_made.result (IfUnmet (P c.as_slice.result.now)) (IfUnmet Q) c.all_made.ensures.unmet
    (λ f is. unmet_more (P c.as_slice.result.now) Q f (λ u one.
    is_unmet_among s.0 program models s.1 number before roots s.2 prep (c.requires.prepared s.2.rel s.2.found) ms bs c.in_ok-bindings.ensures.exact c.in_ok-bindings.ensures.each_once
    after c.all_made.ensures.grown c.requires.numbers c.requires.names called u (subst (λ (xs : List NumberedValues). P xs u) c.as_slice.ensures one)) is)
