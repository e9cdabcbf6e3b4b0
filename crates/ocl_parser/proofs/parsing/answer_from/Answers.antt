use Rattle.ocl_parser.proofs.ReadingLaws.{found_told, halts_told}
use Rattle.ocl_parser.proofs.parsing.answer_from.Goals as goal

pub returns-in-Ok : goal.returns-in-Ok
returns-in-Ok c = found_told c.args.tokens.now c.args.levels c.args.from c.in-Ok.found c.in-Ok.ensures

pub returns-in-Err : goal.returns-in-Err
returns-in-Err c = halts_told c.args.tokens.now c.args.levels c.args.from c.in-Err.halt c.error_of.result c.in-Err.ensures c.error_of.ensures
