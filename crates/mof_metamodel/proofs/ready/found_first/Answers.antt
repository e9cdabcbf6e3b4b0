use Rattle.std.proofs.Common.{◌≡◌, ◌<◌, ℕ, ap, ◌∙◌, sym, subst, arith, length, get_or, not, true, inl, inr}
use Rattle.std.specs.Option.{is_some}
use Rattle.std.specs.Prelude.{IsSome}
use Rattle.std.proofs.lemmas.Bool.{cases_lt}
use Rattle.std.proofs.lemmas.List.{get_or-map}
use Rattle.mof_metamodel.specs.declared.desc.ClassId.{ClassId}
use Rattle.mof_metamodel.specs.Tables.{class_numbers, line_at}
use Rattle.mof_metamodel.proofs.LineLemmas.{line_at_read}
use Rattle.mof_metamodel.proofs.ready.found_first.Goals as goal

pub loop-next-preserved : goal.loop-next-preserved
loop-next-preserved c i a b =
    let one : ClassId = record { 0 = 0 } in
    let x : ClassId = get_or c.args.supers.now c.loop-next.next one in
    let test = c.loop-next-test.true in
    let within : x.0 < length c.args.orders.now = c.requires.within c.loop-next.next one (omega (arith, test)) in
    let at : get_or (class_numbers c.args.supers.now) c.loop-next.next 0 ≡ x.0 = get_or-map (λ (y : ClassId). y.0) c.args.supers.now c.loop-next.next one 0 (omega (arith, test)) in
    let has : is_some (line_at c.args.orders.now x.0) ≡ true =
    ap is_some (line_at_read c.args.orders.now x.0 c.index-orders-supers.result within c.index-orders-supers.is) ∙ c.is_none.ensures ∙ ap not c.if-is_none.false in
    elim (cases_lt i c.loop-next.next) [
      | inl before ↦ c.loop-next.invariant i before b
      | inr past ↦ (
          let same : c.loop-next.next ≡ i = omega (arith, a, past) in
          let P : ℕ → Type 0 = λ z. IsSome (line_at c.args.orders.now z) in
          subst P (sym at ∙ ap (λ k. get_or (class_numbers c.args.supers.now) k 0) same) has)
    ]
