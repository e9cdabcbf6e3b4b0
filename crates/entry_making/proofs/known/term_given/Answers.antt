use Rattle.std.proofs.Common.{◌≡◌, List, map, sym, ap, ◌∙◌}
use Rattle.entry_making.specs.declared.origin.Origin.{Origin}
use Rattle.entry_making.specs.Givers.{shown_origin}
use Rattle.entry_making.specs.Numbered.{giver_numbers}
use Rattle.entry_making.proofs.KnownLaws.{keys_within, no_term, new_term}
use Rattle.entry_making.proofs.known.term_given.Goals as goal

pub intern-requires : goal.intern-requires
intern-requires c =
    let program = c.args.world.now.program.now in
    let models = c.args.world.now.models.now in
    let values = c.args.values.now in
    let scope = c.args.scope.now in
    let given = ap (λ (os : List Origin). giver_numbers program models values scope (map shown_origin os)) (sym c.as_slice.ensures) ∙ sym c.in_ok-keys.ensures.value ∙ c.in-Some.is in
    keys_within program models c.args.table.now values scope (map shown_origin c.args.keyed.now.keys) c.in-Some.keys c.requires given

pub returns-in_ok-number-in-Some-clause-value : goal.returns-in_ok-number-in-Some-clause-value
returns-in_ok-number-in-Some-clause-value c =
    let program = c.args.world.now.program.now in
    let models = c.args.world.now.models.now in
    let values = c.args.values.now in
    let scope = c.args.scope.now in
    let given = ap (λ (os : List Origin). giver_numbers program models values scope (map shown_origin os)) (sym c.as_slice.ensures) ∙ sym c.in_ok-keys.ensures.value ∙ c.in-Some.is in
    new_term program models c.args.table.now values scope c.args.keyed.now c.intern.new.self c.in_ok-number-in-Some.number c.in-Some.keys given c.in_ok-number-in-Some.ensures.number

pub returns-in-None-clause-value : goal.returns-in-None-clause-value
returns-in-None-clause-value c =
    let program = c.args.world.now.program.now in
    let models = c.args.world.now.models.now in
    let values = c.args.values.now in
    let scope = c.args.scope.now in
    let given = ap (λ (os : List Origin). giver_numbers program models values scope (map shown_origin os)) (sym c.as_slice.ensures) ∙ sym c.in_ok-keys.ensures.value ∙ c.in-None.is in
    no_term program models c.args.table.now values scope c.args.keyed.now given
