use Rattle.std.proofs.Common.{◌≡◌, ℕ, ◌<◌, ◌+◌, ◌-◌, ◌∙◌, List, length, ap, Some, arith}
use Rattle.mof_metamodel.specs.declared.desc.MetaDesc.{MetaDesc}
use Rattle.object_tables.specs.Models.{ModelData, IsLive}
use Rattle.object_tables.specs.Rows.{Row, row_at, cleared_upto, unnamed}
use Rattle.object_tables.specs.Tied.{named_in}
use Rattle.object_tables.proofs.ModelLemmas.{seen, live_class, placed_seen}
use Rattle.object_tables.proofs.DeleteLemmas.{alike-cleared, tied-delete, seen-delete, live_above, live_named, below_named}
use Rattle.object_tables.proofs.KeptObjects.{kept_deleted}
use Rattle.object_tables.proofs.WholeLemmas.{kept_after}
use Rattle.object_tables.proofs.model.Model.delete.Goals as goal

-- an object is among those that are left where its places are cleared
live_cleared : (rows new : List Row) (o : ℕ) (v : ModelData) (meta : MetaDesc) → new ≡ cleared_upto rows o (length (row_at rows o).places) → IsLive v o → seen meta rows ≡ v → o < length new
live_cleared rows new o v meta cleared live e =
    let (n, named) = live_named meta rows v o e live in
    let at : named_in new o ≡ Some n = ap (λ rs. named_in rs o) cleared ∙ (alike-cleared rows o (length (row_at rows o).places)).named o ∙ named in
    below_named new o n at

pub invariant_of-self : goal.invariant_of-self
invariant_of-self c =
    let (n, named) = live_named c.self.inside.meta.now c.self.inside.tables c.args.self.now c.args.o.0 c.self.view_is c.requires in
    record {
      tied = tied-delete _ _ _ _ _ _ c.args.o.0 n c.self.invariant.tied c.clear.ensures.ranged named
          (c.forget.ensures ∙ ap (λ r. unnamed r c.args.o.0) c.clear.ensures.cleared)
          (live_above _ _ _ _ c.args.o.0 n c.self.invariant.tied named);
      few = let l = c.self.invariant.few in omega arith;
      kept = kept_after _ _ _ _ _ _ _ c.self.invariant c.self.view_is
          (seen-delete _ _ _ _ c.args.o.0 n c.self.view_is c.clear.ensures.ranged named (below_named _ _ _ named)
          (c.forget.ensures ∙ ap (λ r. unnamed r c.args.o.0) c.clear.ensures.cleared))
          (λ k. kept_deleted _ _ k);
    }

pub returns : goal.returns
returns c =
    let (n, named) = live_named c.self.inside.meta.now c.self.inside.tables c.args.self.now c.args.o.0 c.self.view_is c.requires in
    seen-delete _ _ _ _ c.args.o.0 n c.self.view_is c.clear.ensures.ranged named (below_named _ _ _ named)
    (c.forget.ensures ∙ ap (λ r. unnamed r c.args.o.0) c.clear.ensures.cleared)

pub clear-requires : goal.clear-requires
clear-requires c = let (k, e) = live_class c.args.self.now c.args.o.0 c.requires in (placed_seen _ _ _ _ _ k _ c.self.invariant.tied c.self.view_is e).object

pub overflow_sub-self : goal.overflow_sub-self
overflow_sub-self c =
    let (n, named) = live_named c.self.inside.meta.now c.self.inside.tables c.args.self.now c.args.o.0 c.self.view_is c.requires in
    let above : (c.self.inside.live - 1) + 1 ≡ c.self.inside.live = live_above _ _ _ _ c.args.o.0 n c.self.invariant.tied named in
    omega arith

pub forget-requires : goal.forget-requires
forget-requires c = search (live_cleared)
