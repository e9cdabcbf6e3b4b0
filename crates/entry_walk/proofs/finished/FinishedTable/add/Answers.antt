-- Each call is found at its place afterwards, also for want of memory.
use Rattle.std.specs.Prelude.{◌≡◌, List, Some, cond, length, OnOk}
use Rattle.std.specs.Map.{lookup}
use Rattle.std.specs.BTreeMap.{is_at}
use Rattle.std.proofs.Common.{sym, subst}
use Rattle.std.proofs.lemmas.Result.{on_ok_weaker}
use Rattle.entry_making.specs.declared.numbered_call.NumberedCall.{NumberedCall}
use Rattle.entry_walk.specs.declared.call_key.CallKey.{CallKey}
use Rattle.entry_walk.specs.declared.finished.Finished.{Finished}
use Rattle.entry_walk.specs.CallOrder.{key_order}
use Rattle.entry_walk.specs.FinishedTables.{IsUnfinished, key_for}
use Rattle.entry_walk.proofs.FinishedLaws.{kept_index}
use Rattle.entry_walk.proofs.finished.FinishedTable.add.Goals as goal

pub invariant_of-self : goal.invariant_of-self
invariant_of-self c =
    let fs : List Finished = c.self.inside.items.items in
    let places = c.self.inside.places.entries in
    let P : NumberedCall → Type 0 =
    λ d. OnOk c.keep.result ((q : CallKey) → lookup (is_at (key_order q)) c.keep.new.places.entries ≡ cond (is_at (key_order (key_for d)) q) (Some (length fs)) (lookup (is_at (key_order q)) places)) in
    kept_index fs places c.args.one c.keep.result c.keep.new.items.items c.keep.new.places.entries c.self.invariant (subst (λ xs. IsUnfinished xs c.args.one.call) (sym c.self.view_is) c.requires) c.keep.ensures.items
    (subst P c.in_ok-call.ensures (on_ok_weaker c.keep.result (λ updated. updated.0) c.keep.ensures.places)) c.keep.ensures.same_items c.keep.ensures.same_places
