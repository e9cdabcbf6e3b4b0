use Rattle.std.proofs.Common.{◌≡◌, ◌∙◌, ◌++◌, ◌∷◌, [], ◌+◌, ap, sym, arith, true, false, drop}
use Rattle.std.specs.List.{list_any}
use Rattle.std.proofs.lemmas.Bool.{not-true, not-false, OnFalse_at}
use Rattle.model_assembly.specs.AssemblyValues.{run}
use Rattle.model_assembly.specs.Source.{is_at}
use Rattle.model_assembly.specs.Values.{same_value, unmet}
use Rattle.model_assembly.proofs.assembling.MetLaws.{run_met, run_new}
use Rattle.model_assembly.proofs.assembly.values.distinct_run.Goals as goal
use Rattle.model_assembly.proofs.assembly.values.distinct_run.Goals.{then-or_drop+in-Ok-or_drop-copy+in-Ok-or_drop-2, else-or_drop}

pub loop-value-preserved : goal.loop-value-preserved
loop-value-preserved c =
    let v = c.value-item.result in
    let o = c.args.object in
    let p = c.args.property.0 in
    let vs = c.args.values.now in
    let i = c.loop-value.value-index in
    let keys = c.loop-value.met.set.keys in
    let at : is_at o p v.object v.property.0 ≡ true = sym c.is_at.ensures ∙ c.if-not-is_at.false in
    elim c.if-or_drop.branch [
      | then-or_drop+in-Ok-or_drop-copy+in-Ok-or_drop-2 w ↦ (
          let fresh : list_any (same_value v.value) keys ≡ false = not-true _ (sym c.in-Ok-or_drop.ensures.is_new ∙ w.if-or_drop.true) in
          ap (λ slot. slot ++ unmet c.meet.new.self.set.keys (run o p (drop (i + 1) vs))) (w.slot-is ∙ w.in-Ok-or_drop-2.ensures.ok ∙ ap (λ x. c.loop-value.slot ++ x ∷ []) w.in-Ok-or_drop-copy.ensures)
          ∙ run_new o p vs i v keys c.meet.new.self.set.keys c.loop-value.slot (unmet [] (run o p vs)) (omega arith) c.value-item.is at fresh c.in-Ok-or_drop.ensures.met c.loop-value.invariant)
      | else-or_drop w ↦ (
          let met : list_any (same_value v.value) keys ≡ true = not-false _ (sym c.in-Ok-or_drop.ensures.is_new ∙ w.if-or_drop.false) in
          ap (λ slot. slot ++ unmet c.meet.new.self.set.keys (run o p (drop (i + 1) vs))) w.slot-is
          ∙ ap (λ ks. c.loop-value.slot ++ unmet ks (run o p (drop (i + 1) vs))) (OnFalse_at w.if-or_drop.false c.in-Ok-or_drop.ensures.known)
          ∙ run_met o p vs i v keys c.loop-value.slot (unmet [] (run o p vs)) (omega arith) c.value-item.is at met c.loop-value.invariant)
    ]
