use Rattle.std.specs.Prelude.{◌≢◌}
use Rattle.entry_bindings.proofs.PairLaws.{later_from_pairs}
use Rattle.entry_bindings.proofs.WholeLaws.{exact, each_once}
use Rattle.entry_bindings.proofs.laws.joins_are_entry_bindings.Goals as goal

pub returns-clause-exact : goal.returns-clause-exact
returns-clause-exact c = λ program models rel terms ms roots enforced are_roots apart roots_within ms_within ds found b.
    exact program models rel terms ms roots enforced are_roots apart roots_within ms_within ds found b

pub returns-clause-once : goal.returns-clause-once
returns-clause-once c = λ program models rel terms ms roots enforced are_roots apart roots_within ms_within ds found sorted ms_apart.
    each_once program models rel terms ms roots enforced are_roots apart roots_within ms_within ds found sorted (later_from_pairs (λ m n. m ≢ n) ms ms_apart)
