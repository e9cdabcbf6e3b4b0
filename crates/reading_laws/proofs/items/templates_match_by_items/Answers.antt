use Rattle.reading_laws.proofs.ItemLaws.{throughout_matched, matched_throughout}
use Rattle.reading_laws.proofs.items.templates_match_by_items.Goals as goal

pub returns : goal.returns
returns c = λ program models g t. (throughout_matched program models g t, matched_throughout program models g t)
