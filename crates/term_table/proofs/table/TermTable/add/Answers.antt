-- What is kept afterwards is a table, of the terms with one behind them or, for want of memory, of the same terms.
use Rattle.std.specs.Prelude.{◌≡◌, ◌++◌, ◌∷◌, ℕ, suc, List, [], map, length, All, OnOk}
use Rattle.std.proofs.Common.{ap, ◌∙◌, sym, subst, arith}
use Rattle.std.proofs.lemmas.List.Elements.{All-weaker}
use Rattle.std.proofs.lemmas.Result.{IfOk-weaker, on_ok_weaker}
use Rattle.repair_semantics.specs.declared.term.Term.{Term}
use Rattle.repair_semantics.specs.Terms.{greatest}
use Rattle.term_table.specs.TermTables.{IsBelow, IsWithin, IsNumberOf}
use Rattle.term_table.specs.Kept.{tree_in, trees, kept_height}
use Rattle.term_table.proofs.TermTableLaws.{below_more}
use Rattle.term_table.proofs.KeptLaws.{length_trees, kept_terms, kept_table}
use Rattle.term_table.proofs.table.TermTable.add.Goals as goal

pub kept_of-requires-clause-within : goal.kept_of-requires-clause-within
kept_of-requires-clause-within c =
    All-weaker (IsWithin c.args.self.now) (IsBelow (length c.as_slice.result.now))
    (λ v w. below_more (length c.args.self.now) (length c.as_slice.result.now) v (omega (arith, ap length c.self.view_is, length_trees c.self.inside.kept.items, ap length c.as_slice.ensures.value)) w)
    c.args.term.keys c.requires.within

pub invariant_of-self : goal.invariant_of-self
invariant_of-self c =
    let kept = c.self.inside.kept.items in
    let term = c.args.term in
    kept_table kept c.self.inside.numbers.entries c.in_ok-one.one term c.in_ok-one.ensures.term c.keep.result c.keep.new.kept.items c.keep.new.numbers.entries c.self.invariant
    (subst (λ ts. All (IsWithin ts) term.keys) (sym c.self.view_is) c.requires.within)
    (c.in_ok-one.ensures.height ∙ ap (λ ks. suc (greatest (map (kept_height ks) term.keys))) c.as_slice.ensures.value)
    (subst (λ ts. (n : ℕ) → IsNumberOf ts n (tree_in ts term) → ⊥) (sym c.self.view_is) c.requires.absent)
    c.keep.ensures.kept (on_ok_weaker c.keep.result (λ updated. updated.0) c.keep.ensures.numbers) c.keep.ensures.same_kept c.keep.ensures.same_numbers

pub returns-clause-number : goal.returns-clause-number
returns-clause-number c =
    IfOk-weaker c.keep.result (λ n. n ≡ length c.self.inside.kept.items) (λ n. n ≡ length c.args.self.now)
    (λ n is. is ∙ sym (length_trees c.self.inside.kept.items) ∙ ap length c.self.view_is) c.keep.ensures.number

pub returns-clause-table : goal.returns-clause-table
returns-clause-table c =
    let P : List Term → Type 0 = λ ts. OnOk c.keep.result (trees c.keep.new.kept.items ≡ ts ++ tree_in ts c.args.term ∷ []) in
    subst P c.self.view_is
    (kept_terms c.self.inside.kept.items c.self.inside.numbers.entries c.in_ok-one.one c.args.term c.in_ok-one.ensures.term c.keep.result c.keep.new.kept.items c.keep.ensures.kept)
