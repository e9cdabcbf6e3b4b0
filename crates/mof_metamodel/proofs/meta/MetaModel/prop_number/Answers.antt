use Rattle.std.proofs.Common.{◌≡◌, ◌<◌, [], ◌∙◌, sym, subst, arith, get_or}
use Rattle.std.specs.Prelude.{chars, IfSome, None}
use Rattle.std.proofs.lemmas.List.{get_or_default}
use Rattle.mof_metamodel.specs.declared.desc.MetaDesc.{MetaDesc}
use Rattle.mof_metamodel.specs.Metamodels.{class_count, prop_count, prop_number}
use Rattle.mof_metamodel.specs.Tables.{AreRising}
use Rattle.mof_metamodel.proofs.HolderLemmas.{number_short, no_number, prop_is_none, held_result, held_within}
use Rattle.mof_metamodel.proofs.meta.MetaModel.prop_number.Goals as goal

pub value_of-requires : goal.value_of-requires
value_of-requires c =
    let desc : MetaDesc = c.self.inside.ordered in
    let short = number_short desc c.self.inside.names c.self.invariant.names_are (chars c.args.name.now) c.in-Some.number (sym c.in-Some.ensures) in
    let count = c.self.invariant.holders_are.count in
    let row : c.as_slice.result.now ≡ get_or c.self.inside.holders.items c.in-Some.number [] =
    c.as_slice.ensures ∙ c.index.ensures ∙ get_or_default c.self.inside.holders.items c.in-Some.number c.index.result.now [] (omega (arith, short, count)) in
    subst AreRising (sym row) (c.self.invariant.holders_are.classes.rising c.in-Some.number)

pub returns-in-Some-clause-number : goal.returns-in-Some-clause-number
returns-in-Some-clause-number c =
    let desc : MetaDesc = c.self.inside.ordered in
    let within : c.args.c < class_count desc = rw c.self.view_is c.requires in
    let short = number_short desc c.self.inside.names c.self.invariant.names_are (chars c.args.name.now) c.in-Some.number (sym c.in-Some.ensures) in
    let count = c.self.invariant.holders_are.count in
    let row : c.as_slice.result.now ≡ get_or c.self.inside.holders.items c.in-Some.number [] =
    c.as_slice.ensures ∙ c.index.ensures ∙ get_or_default c.self.inside.holders.items c.in-Some.number c.index.result.now [] (omega (arith, short, count)) in
    let P : MetaDesc → Type 0 = λ d. c.value_of.result ≡ prop_number d c.args.c (chars c.args.name.now) in
    subst P c.self.view_is (held_result desc c.self.inside.names c.self.invariant.names_are (chars c.args.name.now) c.self.invariant.well c.self.inside.holders.items c.self.invariant.holders_are
    c.args.c c.in-Some.number within (sym c.in-Some.ensures) c.as_slice.result.now c.value_of.result row c.value_of.ensures)

pub returns-in-Some-clause-within : goal.returns-in-Some-clause-within
returns-in-Some-clause-within c =
    let desc : MetaDesc = c.self.inside.ordered in
    let within : c.args.c < class_count desc = rw c.self.view_is c.requires in
    let short = number_short desc c.self.inside.names c.self.invariant.names_are (chars c.args.name.now) c.in-Some.number (sym c.in-Some.ensures) in
    let count = c.self.invariant.holders_are.count in
    let row : c.as_slice.result.now ≡ get_or c.self.inside.holders.items c.in-Some.number [] =
    c.as_slice.ensures ∙ c.index.ensures ∙ get_or_default c.self.inside.holders.items c.in-Some.number c.index.result.now [] (omega (arith, short, count)) in
    let P : MetaDesc → Type 0 = λ d. IfSome c.value_of.result (λ p. p < prop_count d) in
    subst P c.self.view_is (held_within desc c.self.inside.names c.self.invariant.names_are (chars c.args.name.now) c.self.invariant.well c.self.inside.holders.items c.self.invariant.holders_are
    c.args.c c.in-Some.number within (sym c.in-Some.ensures) c.as_slice.result.now c.value_of.result row c.value_of.ensures)

pub returns-in-None-clause-number : goal.returns-in-None-clause-number
returns-in-None-clause-number c =
    let desc : MetaDesc = c.self.inside.ordered in
    let within : c.args.c < class_count desc = rw c.self.view_is c.requires in
    let P : MetaDesc → Type 0 = λ d. prop_number d c.args.c (chars c.args.name.now) ≡ None in
    sym (subst P c.self.view_is (prop_is_none desc c.self.invariant.well c.args.c within (chars c.args.name.now)
    (no_number desc c.self.inside.names c.self.invariant.names_are (chars c.args.name.now) c.args.c (sym c.in-None.ensures))))
