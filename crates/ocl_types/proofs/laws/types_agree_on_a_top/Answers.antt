use Rattle.ocl_types.proofs.UpperLaws.{agreed_sound, agreed_complete}
use Rattle.ocl_types.proofs.laws.types_agree_on_a_top.Goals as goal

pub returns-clause-found : goal.returns-clause-found
returns-clause-found c = λ ty types top is. agreed_sound c.args.metas.now ty top types is

pub returns-clause-known : goal.returns-clause-known
returns-clause-known c = λ ty types top is. (_, agreed_complete c.args.metas.now c.len-count.ensures.well ty top types is)
