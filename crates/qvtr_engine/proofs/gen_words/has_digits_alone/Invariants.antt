use Rattle.std.proofs.Common.{◌≡◌, drop}
use Rattle.std.specs.Str.{all_ascii_digits}
use Rattle.qvtr_engine.proofs.gen_words.has_digits_alone.Given as goal

-- the bytes that are left are digits exactly where all are
abbrev pub invariant-loop-byte : goal.invariant-loop-byte
invariant-loop-byte l = all_ascii_digits (drop l.byte-index l.word) ≡ all_ascii_digits l.word
