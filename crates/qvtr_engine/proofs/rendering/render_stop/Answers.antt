use Rattle.qvtr_engine.proofs.rendering.render_stop.Goals as goal

pub returns-in-Faulty : goal.returns-in-Faulty
returns-in-Faulty c = rw c.in-Faulty.is (rw (c.status_of_fault.ensures, c.as_slice.ensures) at c.page_of.ensures)

pub returns-in-Refused : goal.returns-in-Refused
returns-in-Refused c = rw c.in-Refused.is (rw (c.status_of_cause.ensures, c.as_slice-in-Refused.ensures) at c.page_of-in-Refused.ensures)
