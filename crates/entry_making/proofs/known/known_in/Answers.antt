use Rattle.std.proofs.Common.{◌≡◌, ◌<◌, ℕ, All, List, length, map, subst, sym, ap, ◌∙◌}
use Rattle.std.specs.List.{AllByRecursion}
use Rattle.std.specs.Prelude.{Option}
use Rattle.repair_semantics.specs.EntryValues.{TermValues}
use Rattle.term_table.specs.TermTables.{values_in}
use Rattle.entry_making.specs.declared.origin.Equation.{Equation}
use Rattle.entry_making.specs.declared.origin.Keyed.{Keyed}
use Rattle.entry_making.specs.Equations.{Equated, shown_equation, computed}
use Rattle.entry_making.specs.KeyedVariables.{KeyedVariable, shown_keyed, terms_made}
use Rattle.entry_making.specs.Numbered.{bound_out, number_or_datum}
use Rattle.std.specs.List.{range_with_len}
use Rattle.entry_making.proofs.KnownLaws.{equations_below, keyed_below, known_is}
use Rattle.entry_making.proofs.known.known_in.Goals as goal

pub entry_scope-requires : goal.entry_scope-requires
entry_scope-requires c =
    let n = length c.args.b.now in
    let recipe = c.args.recipe.now in
    subst (λ (qs : List Equation). All (λ (q : Equation). q.variable < n) qs) (sym c.as_slice.ensures)
    (equations_below n recipe.equations (subst (λ (m : ℕ). AllByRecursion (λ (q : Equated). q.0 < m) (map shown_equation recipe.equations)) (sym c.requires.places) c.requires.recipe.equations_within))

pub entry_values-requires-clause-places : goal.entry_values-requires-clause-places
entry_values-requires-clause-places c =
    let n = length c.args.b.now in
    let recipe = c.args.recipe.now in
    subst (λ (ks : List Keyed). All (λ (k : Keyed). k.variable < n) ks) (sym c.as_slice-2.ensures)
    (keyed_below n recipe.keyed (subst (λ (m : ℕ). AllByRecursion (λ (k : KeyedVariable). k.0 < m) (map shown_keyed recipe.keyed)) (sym c.requires.places) c.requires.recipe.keyed_within))

pub returns-clause-known : goal.returns-clause-known
returns-clause-known c =
    let program = c.args.program.now in
    let models = c.args.models.now in
    let b = c.args.b.now in
    let scope = c.in_ok-scope.scope in
    known_is program models c.args.recipe.now c.requires.recipe c.args.table.now b c.requires.places c.entry_values.new.table c.in_ok-values.values scope c.entry_values.new.scope c.requires.given
    c.in_ok-values.ensures.scope (c.in_ok-scope.ensures ∙ ap (λ (qs : List Equation). computed program models (map bound_out b) (map shown_equation qs)) c.as_slice.ensures)
    (c.in_ok-values.ensures.values ∙ ap (λ (ks : List Keyed). terms_made program models scope (values_in c.args.table.now (map (number_or_datum b scope) (range_with_len 0 (length b)))) (map shown_keyed ks)) c.as_slice-2.ensures)
