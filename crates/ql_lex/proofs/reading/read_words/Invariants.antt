use Rattle.std.proofs.Common.{◌≡◌, ◌≤◌, ◌-◌, length, drop, take}
use Rattle.std.specs.Str.{IsUtf8}
use Rattle.ql_lex.specs.Lexed.{lexed_from, with_front, AreSlices}
use Rattle.ql_lex.specs.Answers.{seen_all}
use Rattle.ql_lex.proofs.reading.read_words.Given as goal

abbrev pub invariant-loop-at : goal.invariant-loop-at
invariant-loop-at l = record {
  read : with_front (seen_all l.words.items) (lexed_from (drop l.at l.bytes) l.at 0) ≡ lexed_from (drop l.start l.bytes) l.start 0;
  within : l.at ≤ length l.bytes;
  slices : AreSlices l.bytes 0 (seen_all l.words.items) l.at;
  whole : IsUtf8 (take l.at l.bytes);
}

abbrev pub decreases-loop-at : goal.decreases-loop-at
decreases-loop-at l = length l.bytes - l.at
