-- A term that is found has its number, and one that isn't found is none of the table's.
use Rattle.std.specs.Prelude.{◌≡◌, ℕ, List, All, None, Some}
use Rattle.std.specs.Map.{lookup}
use Rattle.std.specs.BTreeMap.{is_at}
use Rattle.std.proofs.Common.{◌∙◌, sym, subst}
use Rattle.std.proofs.lemmas.Result.{on_ok_weaker}
use Rattle.repair_semantics.specs.declared.term.Term.{Term}
use Rattle.term_table.specs.declared.numbered.NumberedTerm.{NumberedTerm}
use Rattle.term_table.specs.TermTables.{IsWithin, IsNumberOf}
use Rattle.term_table.specs.NumberOrder.{numbered_term_order}
use Rattle.term_table.specs.Kept.{tree_in}
use Rattle.term_table.proofs.TermTableLaws.{grown-refl, grown_after, with_term_known, with_term_new}
use Rattle.term_table.proofs.KeptLaws.{found_number, missing_number}
use Rattle.term_table.proofs.table.TermTable.intern.Goals as goal

pub add-requires-clause-absent : goal.add-requires-clause-absent
add-requires-clause-absent c =
    let term : NumberedTerm = record { class = c.args.class; keys = c.args.keys } in
    let none : lookup (is_at (numbered_term_order term)) c.self.inside.numbers.entries ≡ None = sym (c.in-None.ensures ∙ c.get.ensures.value) in
    let P : List Term → Type 0 = λ ts. (n : ℕ) → IsNumberOf ts n (tree_in ts term) → ⊥ in
    subst P c.self.view_is
    (missing_number c.self.inside.kept.items c.self.inside.numbers.entries c.self.invariant term (subst (λ ts. All (IsWithin ts) c.args.keys) (sym c.self.view_is) c.requires) none)

pub returns-in-Some-clause-number : goal.returns-in-Some-clause-number
returns-in-Some-clause-number c =
    let term : NumberedTerm = record { class = c.args.class; keys = c.args.keys } in
    let some : lookup (is_at (numbered_term_order term)) c.self.inside.numbers.entries ≡ Some c.in-Some.number = sym (c.in-Some.ensures ∙ c.get.ensures.value) in
    let P : List Term → Type 0 = λ ts. IsNumberOf ts c.in-Some.number (tree_in ts term) in
    subst P c.self.view_is (found_number c.self.inside.kept.items c.self.inside.numbers.entries c.self.invariant term c.in-Some.number some)

pub returns-in-Some-clause-table : goal.returns-in-Some-clause-table
returns-in-Some-clause-table c =
    let term : NumberedTerm = record { class = c.args.class; keys = c.args.keys } in
    sym (with_term_known c.args.self.now c.in-Some.number (tree_in c.args.self.now term) (returns-in-Some-clause-number c))

pub returns-in-None-clause-table : goal.returns-in-None-clause-table
returns-in-None-clause-table c =
    let term : NumberedTerm = record { class = c.args.class; keys = c.args.keys } in
    let none : lookup (is_at (numbered_term_order term)) c.self.inside.numbers.entries ≡ None = sym (c.in-None.ensures ∙ c.get.ensures.value) in
    let P : List Term → Type 0 = λ ts. (n : ℕ) → IsNumberOf ts n (tree_in ts term) → ⊥ in
    let absent : P c.args.self.now = subst P c.self.view_is
    (missing_number c.self.inside.kept.items c.self.inside.numbers.entries c.self.invariant term (subst (λ ts. All (IsWithin ts) c.args.keys) (sym c.self.view_is) c.requires) none) in
    on_ok_weaker c.add.result (λ is. is ∙ sym (with_term_new c.args.self.now (tree_in c.args.self.now term) absent)) c.add.ensures.table

pub returns-in-Some-clause-grown : goal.returns-in-Some-clause-grown
returns-in-Some-clause-grown c = grown-refl c.args.self.now

pub returns-in-None-clause-grown : goal.returns-in-None-clause-grown
returns-in-None-clause-grown c =
    grown_after c.add.result c.args.self.now _ (tree_in c.args.self.now (record { class = c.args.class; keys = c.args.keys })) c.add.ensures.table c.add.ensures.err
