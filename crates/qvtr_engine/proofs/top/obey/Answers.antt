use Rattle.qvtr_engine.proofs.GenRunLaws.{generation_command, not_converted, not_executed, of_request}
use Rattle.qvtr_engine.proofs.top.obey.Goals as goal

pub returns-in-Convert-clause-ends : goal.returns-in-Convert-clause-ends
returns-in-Convert-clause-ends g c = rw c.in-Convert.is c.convert.ensures.ends

pub returns-in-Execute-clause-ends : goal.returns-in-Execute-clause-ends
returns-in-Execute-clause-ends g c = rw c.in-Execute.is c.carry_out.ensures.ends

pub generate-requires : goal.generate-requires
generate-requires g c = rw c.in-Generate.is at c.requires

pub returns-in-Generate-clause-ends : goal.returns-in-Generate-clause-ends
returns-in-Generate-clause-ends g c =
    rw c.in-Generate.is (generation_command (g.F.Vault.files c.args.vault.now) c.in-Generate.request _ _ _ _ c.generate.result c.generate.ensures.ends)

pub returns-in-Generate-clause-generates : goal.returns-in-Generate-clause-generates
returns-in-Generate-clause-generates g c =
    rw c.in-Generate.is (λ request same. of_request c.in-Generate.request request _ _ _ c.generate.result same c.generate.ensures.ends)

pub returns-in-Convert-clause-generates : goal.returns-in-Convert-clause-generates
returns-in-Convert-clause-generates g c = rw c.in-Convert.is (λ request same. absurd (not_converted _ request same))

pub returns-in-Execute-clause-generates : goal.returns-in-Execute-clause-generates
returns-in-Execute-clause-generates g c = rw c.in-Execute.is (λ request same. absurd (not_executed _ _ request same))
