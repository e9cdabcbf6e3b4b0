use Rattle.std.proofs.Common.{◌≡◌, ◌+◌, ◌-◌, ◌<◌, ◌≤◌, ℕ, nat_lt, arith}
use Rattle.std.proofs.lemmas.Bool.Decides.{nat_tests}
use Rattle.ocl_parser.specs.Moves.{open_levels, state_levels}
use Rattle.ocl_parser.proofs.parsing.is_deep.Goals as goal

too_many : (levels count opened more : ℕ) → count ≡ opened → levels < count → nat_lt levels count ≡ nat_lt levels (opened + more)
too_many levels count opened more e h = grind (arith, nat_tests)

left_over : (levels count opened got more : ℕ) → count ≡ opened → got ≡ more → count ≤ levels → nat_lt (levels - count) got ≡ nat_lt levels (opened + more)
left_over levels count opened got more e f h = grind (arith, nat_tests)

pub returns-then-open-levels : goal.returns-then-open-levels
returns-then-open-levels c =
    too_many c.args.levels c.levels-open.result (open_levels c.args.stack.now) (state_levels c.args.state.now) c.levels-open.ensures c.if-open-levels.true

pub returns-else-open-levels : goal.returns-else-open-levels
returns-else-open-levels c =
    left_over c.args.levels c.levels-open.result (open_levels c.args.stack.now) c.state_levels.result (state_levels c.args.state.now) c.levels-open.ensures
    c.state_levels.ensures c.if-open-levels.false
