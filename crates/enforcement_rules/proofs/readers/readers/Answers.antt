use Rattle.enforcement_rules.proofs.ReaderLaws.{below_told, found_told}
use Rattle.enforcement_rules.proofs.readers.readers.Goals as goal

pub derived-requires : goal.derived-requires
derived-requires c = below_told c.args.program.now c.in_ok-rules.rules c.len.result c.args.meta c.in_ok-rules.ensures c.requires.meta c.len.ensures

pub returns : goal.returns
returns c = found_told c.args.program.now c.in_ok-rules.rules c.args.meta c.in_ok-rules.ensures c.requires.meta c.derived.result c.derived.ensures
