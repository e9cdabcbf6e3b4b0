use Rattle.reading_laws.proofs.EntryClosed.{ground, meets}
use Rattle.reading_laws.proofs.EntryTime.{all_met}
use Rattle.reading_laws.proofs.HoldEntries.{top_holds, satisfied}
use Rattle.reading_laws.proofs.ChainEntries.{no_cyclic, none_deep}
use Rattle.reading_laws.proofs.entries.readings_satisfy.Goals as goal

pub returns-clause-partners : goal.returns-clause-partners
returns-clause-partners c = λ metas program sources models m terms number over reading have among stand chains none.
    let met = all_met metas program over.evaluable.well sources chains.no_cycle chains.no_deep none in
    top_holds metas program sources models m terms number (ground metas program sources models m terms number over reading among met) have
    (meets metas program sources models m terms number over reading among met stand) chains.no_cycle chains.no_deep

pub returns-clause-satisfied : goal.returns-clause-satisfied
returns-clause-satisfied c = λ metas program sources models m terms number over reading have among stand chains none.
    let met = all_met metas program over.evaluable.well sources chains.no_cycle chains.no_deep none in
    satisfied metas program sources models m terms number (ground metas program sources models m terms number over reading among met) have
    (meets metas program sources models m terms number over reading among met stand) chains.no_cycle chains.no_deep

pub returns-clause-chains : goal.returns-clause-chains
returns-clause-chains c = λ metas program sources models m terms number over reading have among stand chains none chain reached.
    let met = all_met metas program over.evaluable.well sources chains.no_cycle chains.no_deep none in
    let base = ground metas program sources models m terms number over reading among met in (
      no_cyclic metas program sources models m terms number base chains.no_cycle chains.no_deep chain reached,
      none_deep metas program sources models m terms number base chains.no_cycle chains.no_deep chain reached,
    )
