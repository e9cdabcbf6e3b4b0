use Rattle.std.proofs.Common.{◌++◌, append-nil, sym, ap, ◌∙◌}
use Rattle.std.proofs.lemmas.Bool.{false≢true}
use Rattle.key_index.proofs.EntryLaws.{no_entries}
use Rattle.key_index.proofs.building.put_slot.Goals as goal

pub returns-else-has_attribute : goal.returns-else-has_attribute
returns-else-has_attribute c =
    let none = no_entries c.args.model.now c.end.ensures.kept c.args.object.0 c.args.prop.0 (λ a. false≢true (sym c.if-has_attribute.false ∙ c.has_attribute.ensures.1 a)) in
    sym (ap (λ es. c.args.holders.now.items ++ es) none ∙ append-nil c.args.holders.now.items)
