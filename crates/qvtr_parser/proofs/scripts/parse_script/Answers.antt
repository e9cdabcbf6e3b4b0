use Rattle.std.proofs.Common.{arith}
use Rattle.ocl_parser.specs.declared.limits.TheConstants.{MAX_NESTING}
use Rattle.qvtr_parser.proofs.AnswerFound.{answered_found}
use Rattle.qvtr_parser.proofs.AnswerComplete.{answered_complete}
use Rattle.qvtr_parser.proofs.Tells.{answer_tells}
use Rattle.qvtr_parser.proofs.scripts.parse_script.Goals as goal

pub returns-clause-found : goal.returns-clause-found
returns-clause-found c = answered_found c.args.tokens.now MAX_NESTING c.answer_of.result c.answer_of.ensures

pub returns-clause-only : goal.returns-clause-only
returns-clause-only c = answered_complete c.args.tokens.now MAX_NESTING c.answer_of.result c.answer_of.ensures

pub returns-clause-tells : goal.returns-clause-tells
returns-clause-tells c = answer_tells c.args.tokens.now MAX_NESTING (omega arith) c.answer_of.result c.answer_of.ensures
