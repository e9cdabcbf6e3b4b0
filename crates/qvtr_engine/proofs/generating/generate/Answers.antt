use Rattle.std.proofs.Common.{inl, subst}
use Rattle.vault_io.specs.Counts.{Rose}
use Rattle.qvtr_engine.specs.declared.status.Status.TheVariants.{Done}
use Rattle.qvtr_engine.specs.Outcome.{Finishes}
use Rattle.qvtr_engine.proofs.generating.generate.Goals as goal

pub returns-in-Ok-clause-ends : goal.returns-in-Ok-clause-ends
returns-in-Ok-clause-ends g c =
    inl (
      c.in-Ok.text,
      c.in-Ok.ensures,
      subst (λ t. Finishes Done t (g.K.Sink.told c.args.out.now) (g.K.Sink.told c.finish.new.out)
          (Rose (g.K.Sink.faults c.args.out.now) (g.K.Sink.faults c.finish.new.out)) c.finish.result) c.as_slice.ensures c.finish.ensures.ends,
    )
