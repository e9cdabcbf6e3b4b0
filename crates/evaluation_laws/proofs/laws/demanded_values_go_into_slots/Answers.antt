use Rattle.evaluation_laws.proofs.SlotLaws.{demanded_fits}
use Rattle.evaluation_laws.proofs.laws.demanded_values_go_into_slots.Goals as goal

pub returns : goal.returns
returns c = λ metas program contents over rel among dom d t of_dom item has_item e is scope valued model found number v has.
    demanded_fits metas program contents over.kept over.well over.texts rel among dom d t of_dom item has_item e is scope valued model found number v has
