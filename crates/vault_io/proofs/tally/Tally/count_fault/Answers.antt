use Rattle.std.proofs.Common.{◌≡◌, ap, inl, inr, arith}
use Rattle.std.proofs.lemmas.Bool.{cases_lt}
use Rattle.vault_io.specs.Counts.{next_count, last_count}
use Rattle.vault_io.proofs.tally.Tally.count_fault.Goals as goal

pub returns-clause-counted : goal.returns-clause-counted
returns-clause-counted c =
    let t = c.args.self.now in
    let next : c.saturating_add-self.result ≡ next_count t.faults = omega arith in
    ap (λ n. record { failing = t.failing; calls = t.calls; faults = n; starved = t.starved }) next

pub returns-clause-risen : goal.returns-clause-risen
returns-clause-risen c = elim (cases_lt c.args.self.now.faults last_count) [
  | inl below ↦ inl (omega arith)
  | inr past ↦ inr (omega arith)
]
