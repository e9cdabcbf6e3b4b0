-- The place that is found is that of the call, and a call that isn't found stands at none.
use Rattle.std.specs.Prelude.{◌≡◌, ℕ, List, Option, MatchOption}
use Rattle.std.proofs.Common.{◌∙◌, sym, subst}
use Rattle.entry_making.specs.declared.numbered_call.NumberedCall.{NumberedCall}
use Rattle.entry_walk.specs.declared.finished.Finished.{Finished}
use Rattle.entry_walk.specs.FinishedTables.{IsFinishedAt, IsUnfinished, place_in}
use Rattle.entry_walk.proofs.FinishedLaws.{looked_up}
use Rattle.entry_walk.proofs.finished.FinishedTable.place_of.Goals as goal

pub returns : goal.returns
returns c =
    let o : Option ℕ = c.copied.result in
    let is : place_in c.self.inside.places.entries c.in_ok-call.call ≡ o = sym (c.copied.ensures ∙ c.get.ensures.value) in
    let P : List Finished → NumberedCall → Type 0 = λ fs d. MatchOption o (IsUnfinished fs d) (λ n. IsFinishedAt fs n d) in
    subst (P c.args.self.now) c.in_ok-call.ensures
    (subst (λ fs. P fs c.in_ok-call.call) c.self.view_is (looked_up c.self.inside.items.items c.self.inside.places.entries c.self.invariant c.in_ok-call.call o is))
