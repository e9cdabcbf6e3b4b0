use Rattle.std.proofs.Common.{◌≡◌, ◌∙◌, ◌++◌, ◌∷◌, [], ◌+◌, ℕ, List, ap, sym, arith, true, false, drop, map, get_or}
use Rattle.std.specs.Prelude.{nat_eq, Vec}
use Rattle.std.specs.List.{list_any}
use Rattle.std.specs.declared.alloc.Global.{Global}
use Rattle.std.proofs.lemmas.Bool.{not-true, not-false, OnFalse_at}
use Rattle.std.proofs.lemmas.List.{map-append, get_or_default}
use Rattle.mof_metamodel.specs.Metamodels.{united}
use Rattle.object_tables.specs.declared.value.ObjId.{ObjId}
use Rattle.model_assembly.specs.declared.assembly.naming.Naming.{Naming}
use Rattle.model_assembly.specs.AssemblyNamings.{naming, at}
use Rattle.model_assembly.specs.AssemblyOrders.{targets_run}
use Rattle.model_assembly.specs.Source.{is_at}
use Rattle.model_assembly.proofs.assembling.OrderLaws.{run_ends, target_met, target_new, met_last}
use Rattle.model_assembly.proofs.assembly.orders.distinct_targets.Goals as goal
use Rattle.model_assembly.proofs.assembly.orders.distinct_targets.Goals.{then-branch+in_ok-push, else-branch}

pub loop-naming-preserved : goal.loop-naming-preserved
loop-naming-preserved c =
    let xs = c.args.namings.now in
    let i = c.loop-naming.naming-index in
    let n : Naming = at xs i in
    let o = c.args.object in
    let p = c.args.property in
    let inv = c.loop-naming.invariant in
    let done : List ℕ = map (λ (b : ObjId). b.0) c.loop-naming.targets.items in
    let there : n ≡ get_or xs i n = get_or_default xs i (naming 0 0 0) n (omega arith) in
    let here : is_at o p n.object n.property ≡ true = sym c.is_at.ensures ∙ c.if-not-is_at.false in
    elim c.if-branch.branch [
      | then-branch+in_ok-push w ↦ (
          let fresh : list_any (nat_eq n.target) done ≡ false = sym (inv.1 n.target) ∙ not-true _ (sym c.in_ok-meet.ensures.is_new ∙ w.if-branch.true) in
          let e : map (λ (b : ObjId). b.0) c.if-branch.targets.items ≡ done ++ n.target ∷ [] =
          ap (λ (v : Vec ObjId Global). map (λ (b : ObjId). b.0) v.items) w.targets-is ∙ ap (map (λ (b : ObjId). b.0)) w.in_ok-push.ensures.items ∙ map-append (λ (b : ObjId). b.0) c.loop-naming.targets.items _ in (
            ap (λ ds. united ds (targets_run o p (drop (i + 1) xs))) e ∙ target_new o p xs i n done (united [] (targets_run o p xs)) (omega arith) there here fresh inv.0,
            λ q. c.in_ok-meet.ensures.met q ∙ met_last q n.target done _ (inv.1 q) ∙ sym (ap (list_any (nat_eq q)) e),
          ))
      | else-branch w ↦ (
          let met : list_any (nat_eq n.target) done ≡ true = sym (inv.1 n.target) ∙ not-false _ (sym c.in_ok-meet.ensures.is_new ∙ w.if-branch.false) in
          let e : map (λ (b : ObjId). b.0) c.if-branch.targets.items ≡ done = ap (λ (v : Vec ObjId Global). map (λ (b : ObjId). b.0) v.items) w.targets-is in (
            ap (λ ds. united ds (targets_run o p (drop (i + 1) xs))) e ∙ target_met o p xs i n done (united [] (targets_run o p xs)) (omega arith) there here met inv.0,
            λ q. ap (list_any (nat_eq q)) (OnFalse_at w.if-branch.false c.in_ok-meet.ensures.known) ∙ inv.1 q ∙ sym (ap (list_any (nat_eq q)) e),
          ))
    ]

pub returns-then-not-is_at : goal.returns-then-not-is_at
returns-then-not-is_at c =
    let xs = c.args.namings.now in
    let i = c.loop-naming.naming-index in
    run_ends c.args.object c.args.property xs i (at xs i) (map (λ (b : ObjId). b.0) c.loop-naming.targets.items) (united [] (targets_run c.args.object c.args.property xs)) (omega arith)
    (get_or_default xs i (naming 0 0 0) (at xs i) (omega arith)) (sym c.is_at.ensures ∙ c.if-not-is_at.true) c.loop-naming.invariant.0
