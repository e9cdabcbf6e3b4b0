use Rattle.std.proofs.Common.{◌≡◌, true, false, ap, ◌∙◌, sym, subst, arith, map, take}
use Rattle.std.specs.Prelude.{Some, is_some, OnOk}
use Rattle.std.specs.List.{list_any}
use Rattle.mof_metamodel.specs.Metamodels.{same_name}
use Rattle.mof_metamodel.specs.Tables.{Names, number_in, with_name}
use Rattle.mof_metamodel.proofs.RepeatLemmas.{shown, repeat_here, repeat_past, met_more}
use Rattle.mof_metamodel.proofs.duplicates.first_repeat.Goals as goal

pub returns-then-is_met : goal.returns-then-is_met
returns-then-is_met c =
    let met : list_any (same_name c.name-item.result.now) (map shown (take c.loop-name.name-index c.args.names.now)) ≡ true =
    sym (c.loop-name.invariant.1 c.name-item.result.now) ∙ sym c.is_met.ensures ∙ c.if-is_met.true in
    ap Some c.in_ok-duplicate.ensures ∙ repeat_here shown c.args.names.now c.loop-name.name-index c.name-item.result (omega arith) c.name-item.is c.loop-name.invariant.0 met

pub loop-name-preserved : goal.loop-name-preserved
loop-name-preserved c =
    let new : list_any (same_name c.name-item.result.now) (map shown (take c.loop-name.name-index c.args.names.now)) ≡ false =
    sym (c.loop-name.invariant.1 c.name-item.result.now) ∙ sym c.is_met.ensures ∙ c.if-is_met.false in
    let added = subst (λ r. OnOk r (c.add.new.self ≡ with_name c.loop-name.met c.name-item.result.now 0)) c.in-Ok.is c.add.ensures in (
      repeat_past shown c.args.names.now c.loop-name.name-index c.name-item.result (omega arith) c.name-item.is c.loop-name.invariant.0 new,
      λ q. ap (λ (met : Names). is_some (number_in met q)) added
          ∙ met_more shown c.args.names.now c.loop-name.name-index c.name-item.result c.loop-name.met 0 (omega arith) c.name-item.is c.loop-name.invariant.1 q,
    )
