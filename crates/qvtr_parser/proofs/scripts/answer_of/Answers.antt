use Rattle.qvtr_parser.specs.ScriptReadings.{script_read}
use Rattle.qvtr_parser.proofs.AnswerLaws.{script_told, halts_told}
use Rattle.qvtr_parser.proofs.scripts.answer_of.Goals as goal

pub returns-in-Ok : goal.returns-in-Ok
returns-in-Ok c = script_told c.args.tokens.now (script_read c.args.tokens.now.lexemes c.args.levels) c.in-Ok.found c.in-Ok.ensures

pub returns-in-Err : goal.returns-in-Err
returns-in-Err c = halts_told c.args.tokens.now (script_read c.args.tokens.now.lexemes c.args.levels) c.in-Err.halt c.error_of.result c.in-Err.ensures c.error_of.ensures
