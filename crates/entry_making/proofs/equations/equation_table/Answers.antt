use Rattle.std.proofs.Common.{◌≡◌, ◌≤◌, None, length, map, drop, replicate, List, subst, sym, ap, ◌∙◌, arith}
use Rattle.std.specs.Prelude.{Option}
use Rattle.std.specs.Option.{option_map}
use Rattle.std.proofs.lemmas.List.{drop_all}
use Rattle.qv_syntax.specs.declared.program.Conj.{Conj}
use Rattle.entry_making.specs.declared.origin.Equation.{Equation}
use Rattle.entry_making.specs.Equations.{Equated, shown_equation, with_conjuncts}
use Rattle.entry_making.proofs.TableLaws.{whole_table, shown_empty}
use Rattle.entry_making.proofs.equations.equation_table.Goals as goal

pub loop-conjunct-init : goal.loop-conjunct-init
loop-conjunct-init c =
    ap (λ (t : List (Option Equated)). with_conjuncts t c.args.rel.now.wheres) (ap (map (option_map shown_equation)) (c.in_ok-table.ensures ∙ ap (λ n. replicate n None) c.len.ensures) ∙ shown_empty (length c.args.rel.now.vars))

pub returns : goal.returns
returns c =
    let t : List (Option Equated) = map (option_map shown_equation) c.loop-conjunct.table.items in
    let past : length c.args.rel.now.wheres ≤ c.loop-conjunct.conjunct-index = omega (arith, c.loop-conjunct-test.false, ap (λ (cs : List Conj). length cs) c.as_slice-conjunct-items.ensures) in
    sym (ap (with_conjuncts t) (drop_all c.loop-conjunct.conjunct-index c.args.rel.now.wheres past)) ∙ c.loop-conjunct.invariant ∙ whole_table c.args.rel.now
