use Rattle.std.proofs.Common.{◌≡◌, ℕ, ◌-◌, ◌<◌, List, ◌++◌, length, take, drop, sym, ap, ◌∙◌, inl, inr, length-drop, arith}
use Rattle.std.specs.Prelude.{min}
use Rattle.std.proofs.lemmas.Bool.{cases_lt}
use Rattle.std.proofs.lemmas.List.{length-append, length-take-le, take_rest, take_at, drop_all}
use Rattle.vault_io.specs.Files.{Reads}
use Rattle.vault_io.proofs.mem_vault.copy_from.Goals as goal

-- the rest from the place on, or from the end where that comes first
from_start : (bytes : List ℕ) (at start : ℕ) → start ≡ min at (length bytes) → drop start bytes ≡ drop at bytes
from_start bytes at start s = elim (cases_lt at (length bytes)) [
  | inl l ↦ ap (λ k. drop k bytes) (omega arith)
  | inr g ↦ drop_all start bytes (omega arith) ∙ sym (drop_all at bytes g)
]

read_of : (bytes old new : List ℕ) (at start count : ℕ) → start ≡ min at (length bytes) →
    count ≡ min (length (take (length bytes - start) (drop start bytes))) (length old) →
    new ≡ take count (take (length bytes - start) (drop start bytes)) → Reads bytes at count (new ++ drop count old)
read_of bytes old new at start count s m a =
    let rest : take (length bytes - start) (drop start bytes) ≡ drop start bytes = take_rest bytes start in
    let room : length (take (length bytes - start) (drop start bytes)) ≡ length bytes - start = ap length rest ∙ length-drop start bytes in
    let len : length new ≡ count = ap length a ∙ length-take-le count (take (length bytes - start) (drop start bytes)) (omega arith) in
    record {
      within = omega arith;
      bytes = take_at new (drop count old) count len ∙ a ∙ ap (take count) (rest ∙ from_start bytes at start s);
      ends = λ some. let more : 0 < length old = omega (arith, length-append new (drop count old), length-drop count old) in (λ z. omega arith, λ p. omega arith);
    }

pub returns-clause-count : goal.returns-clause-count
returns-clause-count c =
    let rest = ap length (take_rest c.args.bytes.now c.min-start.result) ∙ length-drop c.min-start.result c.args.bytes.now in omega arith

pub returns-clause-reads : goal.returns-clause-reads
returns-clause-reads c = read_of c.args.bytes.now c.args.into.now c.copy_from_slice.new.self c.args.at c.min-start.result c.min-count.result c.min-start.ensures c.min-count.ensures c.copy_from_slice.ensures.after
