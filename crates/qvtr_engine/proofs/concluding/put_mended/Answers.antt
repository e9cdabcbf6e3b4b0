use Rattle.std.proofs.Common.{inl, inr, refl, ◌∙◌}
use Rattle.qvtr_engine.proofs.concluding.put_mended.Goals as goal

pub returns-in-Ok-clause-ends : goal.returns-in-Ok-clause-ends
returns-in-Ok-clause-ends g c =
    inl (rw (c.as_slice.ensures ∙ c.in-Ok.ensures.0, c.as_slice-in-Ok.ensures ∙ c.in-Ok.ensures.1) at c.put.ensures.ends)

pub returns-in-Err-clause-ends : goal.returns-in-Err-clause-ends
returns-in-Err-clause-ends g c = inr (record { kept = refl; reported = inr c.finish.ensures.ends })
