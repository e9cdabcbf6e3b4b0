use Rattle.std.proofs.Common.{◌≡◌, List, map, sym, ap, ◌∙◌}
use Rattle.repair_semantics.specs.declared.term.Term.{Term}
use Rattle.repair_semantics.specs.Unmet.{unmet_at}
use Rattle.entry_making.specs.declared.content.OwnedItem.{OwnedItem}
use Rattle.entry_making.specs.declared.numbered_known.NumberedKnown.{NumberedKnown}
use Rattle.entry_making.specs.Items.{shown_item}
use Rattle.entry_making.specs.Numbered.{known_of}
use Rattle.entry_making.specs.UnmetNumbers.{unmet_conjunct}
use Rattle.entry_making.proofs.UnmetLaws.{at_item, at_conjunct}
use Rattle.entry_making.proofs.ResultLaws.{told_more}
use Rattle.entry_making.proofs.unmet.unmet_place.Goals as goal

pub returns-in-Some-clause-place : goal.returns-in-Some-clause-place
returns-in-Some-clause-place c = λ terms.
    at_item c.args.program.now c.args.models.now c.args.recipe.now.rel.now terms c.args.known.now (map shown_item c.as_slice.result.now) c.in-Some.place
    (ap (λ (its : List OwnedItem). map shown_item its) c.as_slice.ensures ∙ c.requires.recipe.items) (sym c.in-Some.is ∙ c.in_ok-place.ensures.value)

pub returns-in-None-clause-place : goal.returns-in-None-clause-place
returns-in-None-clause-place c =
    let program = c.args.program.now in
    let models = c.args.models.now in
    let rel = c.args.recipe.now.rel.now in
    let known = c.args.known.now in
    told_more c.unmet_conjunct.result (λ p. p ≡ unmet_conjunct program models rel c.unmet_item.new.known 0 rel.wheres)
    (λ p. (terms : List Term) → p ≡ unmet_at program models rel (known_of terms known)) c.unmet_conjunct.ensures.value (λ p is terms.
    at_conjunct program models rel terms known (map shown_item c.as_slice.result.now) p
    (ap (λ (its : List OwnedItem). map shown_item its) c.as_slice.ensures ∙ c.requires.recipe.items) (sym c.in-None.is ∙ c.in_ok-place.ensures.value)
    (is ∙ ap (λ (k : NumberedKnown). unmet_conjunct program models rel k 0 rel.wheres) c.in_ok-place.ensures.kept))
