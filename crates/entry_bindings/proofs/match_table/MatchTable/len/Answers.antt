use Rattle.std.specs.Prelude.{◌≢◌, List, AllPairs}
use Rattle.std.proofs.Common.{subst}
use Rattle.entry_bindings.specs.declared.matching.Match.{Match}
use Rattle.entry_bindings.specs.MatchKeys.{matches_of}
use Rattle.entry_bindings.proofs.PairLaws.{pairs_from_later}
use Rattle.entry_bindings.proofs.KeyLaws.{distinct_matches}
use Rattle.entry_bindings.proofs.match_table.MatchTable.len.Goals as goal

pub returns-clause-distinct : goal.returns-clause-distinct
returns-clause-distinct c =
    let keys = c.self.inside.keys.keys in
    subst (λ (ms : List Match). AllPairs (λ m n. m ≢ n) ms) c.self.view_is
    (pairs_from_later (λ m n. m ≢ n) (matches_of keys) (distinct_matches keys c.len.ensures.ordered c.self.invariant))
