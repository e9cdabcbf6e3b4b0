use Rattle.std.proofs.Common.{◌<◌, ◌+◌, ◌∷◌, [], ℕ, List, ap, ◌∙◌, sym, subst, arith, length, length-append}
use Rattle.std.specs.Prelude.{slice_index_or}
use Rattle.mof_metamodel.specs.declared.desc.Prop.{Prop}
use Rattle.mof_metamodel.specs.Metamodels.{IsProp}
use Rattle.mof_metamodel.proofs.KnownLemmas.{each_more}
use Rattle.mof_metamodel.proofs.WellLemmas.{known_from}
use Rattle.mof_metamodel.proofs.resolved.resolved_props.Goals as goal

pub resolved_prop-requires-clause-known : goal.resolved_prop-requires-clause-known
resolved_prop-requires-clause-known c = (known_from c.args.named.now c.requires).types c.loop-p.p (let n = c.prop_count-p-end.ensures in omega (arith, n))

pub loop-p-preserved : goal.loop-p-preserved
loop-p-preserved c = (
  ap length c.in_ok-push.ensures.ok ∙ (let e = length-append c.loop-p.props (c.in_ok-prop.prop ∷ []) in let i = c.loop-p.invariant.0 in omega (arith, e, i)),
  (let P : List Prop → Type 0 = λ xs. (q : ℕ) (d : Prop) → q < c.loop-p.p + 1 → IsProp c.args.named.now q (slice_index_or xs q d) in
      subst P (sym c.in_ok-push.ensures.ok) (each_more (IsProp c.args.named.now) c.loop-p.props c.loop-p.p c.in_ok-prop.prop c.loop-p.invariant.0 c.loop-p.invariant.1 c.in_ok-prop.ensures)),
)
