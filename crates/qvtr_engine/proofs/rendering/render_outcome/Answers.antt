use Rattle.qvtr_engine.proofs.rendering.render_outcome.Goals as goal

pub returns-in-Yes : goal.returns-in-Yes
returns-in-Yes c = rw c.in-Yes.is c.page_of.ensures

pub returns-in-No : goal.returns-in-No
returns-in-No c = rw c.in-No.is (rw c.as_slice.ensures at c.page_of-in-No.ensures)

pub returns-in-Kept : goal.returns-in-Kept
returns-in-Kept c = rw c.in-Kept.is c.page_of-in-Kept.ensures

pub returns-in-Traced : goal.returns-in-Traced
returns-in-Traced c = rw c.in-Traced.is (rw c.as_slice-in-Traced.ensures at c.page_of-in-Traced.ensures)
