use Rattle.std.proofs.Common.{◌≡◌, ◌∷◌, List, map, drop, sym, ap, ◌∙◌, arith, ◌<◌, length, ◌+◌}
use Rattle.std.proofs.lemmas.List.{drop_more}
use Rattle.qvtr_semantics.specs.Expressions.{Scope}
use Rattle.repair_semantics.specs.EntryValues.{TermValues}
use Rattle.term_table.specs.TermTables.{values_in}
use Rattle.term_table.proofs.TermTableLaws.{grown-trans}
use Rattle.entry_making.specs.declared.origin.Keyed.{Keyed}
use Rattle.entry_making.specs.KeyedVariables.{shown_keyed, with_term_of, terms_made}
use Rattle.entry_making.proofs.known.make_all.Goals as goal

pub loop-one-preserved : goal.loop-one-preserved
loop-one-preserved c =
    let program = c.args.world.now.program.now in
    let models = c.args.world.now.models.now in
    let scope = c.args.scope.now in
    let i = c.loop-one.one-index in
    let begun = values_in c.loop-one.table c.loop-one.values in
    let below : i < length c.args.keyed.now = omega (arith, c.loop-one-test.true) in
    let next = drop_more c.args.keyed.now i c.one-item.result below ∙ ap (λ (k : Keyed). k ∷ drop (i + 1) c.args.keyed.now) (sym c.one-item.is) in
    let made = c.in_ok-make_term.ensures.values ∙ ap (λ (s : Scope). with_term_of program models s begun (shown_keyed c.one-item.result)) c.loop-one.invariant.scope in
    record {
      values =
          ap (λ (x : TermValues). terms_made program models scope x (map shown_keyed (drop (i + 1) c.args.keyed.now))) made
          ∙ sym (ap (λ (ks : List Keyed). terms_made program models scope begun (map shown_keyed ks)) next)
          ∙ c.loop-one.invariant.values;
      within = c.in_ok-make_term.ensures.within;
      places = c.in_ok-make_term.ensures.places ∙ c.loop-one.invariant.places;
      grown = grown-trans c.args.table.now c.loop-one.table c.make_term.new.table c.loop-one.invariant.grown c.in_ok-make_term.ensures.grown;
      scope = c.in_ok-make_term.ensures.scope ∙ c.loop-one.invariant.scope;
    }
