use Rattle.std.proofs.Common.{◌≡◌, ◌<◌, [], ap, ◌∙◌, sym, subst, arith, length, get_or, rules}
use Rattle.std.specs.Prelude.{Contains, MatchOption}
use Rattle.std.proofs.lemmas.List.{get_or_default}
use Rattle.mof_metamodel.specs.declared.desc.MetaDesc.{MetaDesc}
use Rattle.mof_metamodel.specs.Metamodels.{class_count, lineage_of}
use Rattle.mof_metamodel.specs.Tables.{AreRising, IsStart}
use Rattle.mof_metamodel.proofs.HeirLemmas.{start_found, no_heirs}
use Rattle.mof_metamodel.proofs.ordered.Ordered.start.Goals as goal

pub returns-then-d-class_count : goal.returns-then-d-class_count
returns-then-d-class_count c =
    let n = c.class_count.ensures ∙ ap class_count c.named.ensures in
    no_heirs c.args.self.now c.args.c c.args.d c.requires (omega (arith, n, c.if-d-class_count.true))

pub index-requires : goal.index-requires
index-requires c =
    let n = c.class_count.ensures ∙ ap class_count (c.named.ensures ∙ sym c.self.view_is) in
    let within : c.args.d < class_count c.self.inside.hierarchy = omega (arith, n, c.if-d-class_count.false) in
    let rows : length c.self.inside.heirs.items ≡ class_count c.self.inside.hierarchy = c.self.invariant.heirs_are.count in
    search (rules, within, rows)

pub value_of-requires : goal.value_of-requires
value_of-requires c =
    let n = c.class_count.ensures ∙ ap class_count (c.named.ensures ∙ sym c.self.view_is) in
    let count = c.self.invariant.heirs_are.count in
    let row : c.as_slice.result.now ≡ get_or c.self.inside.heirs.items c.args.d [] =
    c.as_slice.ensures ∙ c.index.ensures ∙ get_or_default c.self.inside.heirs.items c.args.d c.index.result.now [] (omega (arith, n, c.if-d-class_count.false, count)) in
    subst AreRising (sym row) (c.self.invariant.heirs_are.classes.rising c.args.d)

pub returns : goal.returns
returns c =
    let n = c.class_count.ensures ∙ ap class_count (c.named.ensures ∙ sym c.self.view_is) in
    let count = c.self.invariant.heirs_are.count in
    let row : c.as_slice.result.now ≡ get_or c.self.inside.heirs.items c.args.d [] =
    c.as_slice.ensures ∙ c.index.ensures ∙ get_or_default c.self.inside.heirs.items c.args.d c.index.result.now [] (omega (arith, n, c.if-d-class_count.false, count)) in
    let within : c.args.c < class_count c.self.inside.hierarchy = rw c.self.view_is c.requires in
    let P : MetaDesc → Type 0 = λ d. MatchOption c.value_of.result (Contains (lineage_of d c.args.c) c.args.d → ⊥) (IsStart d c.args.c c.args.d) in
    subst P c.self.view_is (start_found c.self.inside.hierarchy c.self.inside.heirs.items c.args.c c.args.d c.as_slice.result.now c.value_of.result c.self.invariant.heirs_are within row c.value_of.ensures)
