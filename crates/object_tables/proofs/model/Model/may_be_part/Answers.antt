use Rattle.object_tables.proofs.model.Model.may_be_part.Goals as goal

pub returns : goal.returns
returns c = ((λ h _. c.is_top.ensures.0 h), (λ f. c.is_top.ensures.1 (f c.if-not-would.false)))
