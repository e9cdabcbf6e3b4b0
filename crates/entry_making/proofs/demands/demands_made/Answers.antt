use Rattle.std.proofs.Common.{◌≡◌, ℕ, List, map, ap, ◌∙◌}
use Rattle.repair_semantics.specs.declared.term.Term.{Term}
use Rattle.repair_semantics.specs.TargetItems.{TargetItem, target_items}
use Rattle.repair_semantics.specs.Demands.{item_demands}
use Rattle.entry_making.specs.declared.content.OwnedItem.{OwnedItem}
use Rattle.entry_making.specs.declared.item_demand.ItemDemand.{ItemDemand}
use Rattle.entry_making.specs.Items.{shown_item}
use Rattle.entry_making.specs.Numbered.{known_of}
use Rattle.entry_making.specs.DemandNumbers.{number_demands, demand_of}
use Rattle.entry_making.proofs.DemandLaws.{demands_are}
use Rattle.entry_making.proofs.ResultLaws.{told_more}
use Rattle.entry_making.proofs.demands.demands_made.Goals as goal

pub returns-clause-demands : goal.returns-clause-demands
returns-clause-demands c =
    let program = c.args.program.now in
    let models = c.args.models.now in
    let known = c.args.known.now in
    let items = target_items program c.args.recipe.now.rel.now in
    told_more c.put_demands.result (λ ds. ds ≡ number_demands program models known (map shown_item c.as_slice.result.now))
    (λ ds. (terms : List Term) (entry : ℕ) → map (demand_of terms entry) ds ≡ item_demands program models (known_of terms known) entry items) c.put_demands.ensures.demands (λ ds is terms entry.
    ap (λ (es : List ItemDemand). map (demand_of terms entry) es)
    (is ∙ ap (λ (its : List OwnedItem). number_demands program models known (map shown_item its)) c.as_slice.ensures ∙ ap (λ (its : List TargetItem). number_demands program models known its) c.requires.recipe.items)
    ∙ demands_are program models terms known entry items)
