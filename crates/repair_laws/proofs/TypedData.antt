-- The data of each entry of a program that can be enforced are of the types of their variables.
use Rattle.std.specs.Prelude.{List}
use Rattle.mof_metamodel.specs.declared.desc.MetaDesc.{MetaDesc}
use Rattle.object_tables.specs.Models.{ModelData}
use Rattle.qv_syntax.specs.declared.program.Program.{Program}
use Rattle.source_laws.specs.TargetRule.{HandsTargetOn}
use Rattle.source_laws.proofs.RuleLaws.{rule_keeps}
use Rattle.enforceable_sources.proofs.EnforceableLaws.{enforceable_hands_on}
use Rattle.enforcement_rules.specs.Rules.{IsEnforceable}
use Rattle.evaluation_laws.specs.Evaluable.{IsEvaluable}
use Rattle.reading_laws.proofs.EntryRoots.{entry_rooted}
use Rattle.reading_laws.proofs.MeetingTypes.{entry_typed}
use Rattle.repair_laws.specs.Enforced.{HaveTypedData}

pub typed_data : (metas : List MetaDesc) (program : Program) (models : List ModelData) → IsEvaluable metas program models → IsEnforceable metas program → HaveTypedData metas program models
typed_data metas program models over enforceable e rel is found x =
    let r = entry_rooted metas program models over enforceable e is rel found in
    let hands : HandsTargetOn program rel = enforceable_hands_on metas program over.well e.rel rel enforceable found r.direction in
    entry_typed metas program models over e.rel rel found (rule_keeps metas program over.well e.rel rel found hands) r.roots e.values r.source r.has x
