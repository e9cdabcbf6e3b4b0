use Rattle.ocl_parser.specs.declared.limits.TheConstants.{MAX_NESTING}
use Rattle.ocl_parser.proofs.AnswerLaws.{tree_given, stuck_given, deep_given}
use Rattle.ocl_parser.proofs.parsing.parse_expr.Goals as goal

pub returns-clause-tree : goal.returns-clause-tree
returns-clause-tree c = λ e end t. tree_given c.args.tokens.now MAX_NESTING c.args.from c.answer_from.result c.answer_from.ensures e end t

pub returns-clause-stuck : goal.returns-clause-stuck
returns-clause-stuck c = λ k s. stuck_given c.args.tokens.now MAX_NESTING c.args.from c.answer_from.result c.answer_from.ensures k s

pub returns-clause-deep : goal.returns-clause-deep
returns-clause-deep c = λ k d. deep_given c.args.tokens.now MAX_NESTING c.args.from c.answer_from.result c.answer_from.ensures k d
