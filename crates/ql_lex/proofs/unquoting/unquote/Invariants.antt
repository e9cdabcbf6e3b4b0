use Rattle.std.proofs.Common.{◌≡◌, [], false, fold}
use Rattle.ql_lex.specs.Unquoting.{passed}
use Rattle.ql_lex.proofs.unquoting.unquote.Given as goal

abbrev pub invariant-loop-c : goal.invariant-loop-c
invariant-loop-c l = l.so_far ≡ fold passed (record { text = []; opened = false; escaped = false }) l.yielded
