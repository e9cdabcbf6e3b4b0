use Rattle.std.proofs.Common.{sym, arith, []}
use Rattle.ocl_environments.proofs.MeaningLemmas.{put_at, put_more, no_value}
use Rattle.ocl_environments.proofs.meaning.MeaningTable.put.Goals as goal

pub put-requires : goal.put-requires
put-requires c = no_value c.args.self.now.names ([], tt) c.args.name.now c.in_ok-name-in-None.name c.in_ok-name-in-None.ensures c.in-None.ensures.number

pub returns-in-Some-clause-put : goal.returns-in-Some-clause-put
returns-in-Some-clause-put c = λ n.
    put_at c.args.self.now.names c.args.self.now.meanings.items c.args.name.now c.args.meaning c.in-Some.i (omega (arith, c.in-Some.ensures.within, c.requires))
    (sym c.in-Some.ensures.number) n

pub returns-in_ok-push-in-None-clause-put : goal.returns-in_ok-push-in-None-clause-put
returns-in_ok-push-in-None-clause-put c = λ n.
    put_more c.args.self.now.names c.put.new.self c.args.self.now.meanings.items c.push.new.self.items c.args.name.now c.in_ok-name-in-None.name c.args.meaning tt
    c.requires c.in-None.ensures.number c.in_ok-name-in-None.ensures c.in_ok-put-in-None.ensures.ok c.in_ok-push-in-None.ensures.items n
