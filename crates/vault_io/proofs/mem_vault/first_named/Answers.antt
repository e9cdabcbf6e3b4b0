use Rattle.std.proofs.Common.{◌≡◌, sym, ap, ◌∙◌, true, false, arith, nat_eq}
use Rattle.std.specs.Prelude.{Some, encode_utf8_all}
use Rattle.std.specs.Cmp.Lexicographic.{pointwise}
use Rattle.vault_io.proofs.Lookups.{found_at, passed_at, none_left}
use Rattle.vault_io.proofs.mem_vault.first_named.Goals as goal

pub returns-then-eq-clause-some : goal.returns-then-eq-clause-some
returns-then-eq-clause-some c =
    let key = encode_utf8_all c.file-item.result.name in
    let same : pointwise nat_eq c.args.name.now key ≡ true = ap (pointwise nat_eq c.args.name.now) (sym c.as_str.ensures.bytes) ∙ sym c.eq.ensures ∙ c.if-eq.true in
    sym c.loop-file.invariant
    ∙ found_at c.file-item.result c.args.files.now c.args.name.now c.loop-file.file-index (omega arith) c.file-item.is same
    ∙ ap Some (sym c.as_slice.ensures)

pub loop-file-preserved : goal.loop-file-preserved
loop-file-preserved c =
    let key = encode_utf8_all c.file-item.result.name in
    let other : pointwise nat_eq c.args.name.now key ≡ false = ap (pointwise nat_eq c.args.name.now) (sym c.as_str.ensures.bytes) ∙ sym c.eq.ensures ∙ c.if-eq.false in
    sym (passed_at c.file-item.result c.args.files.now c.args.name.now c.loop-file.file-index (omega arith) c.file-item.is other)
    ∙ c.loop-file.invariant

pub returns-clause-none : goal.returns-clause-none
returns-clause-none c = sym c.loop-file.invariant ∙ none_left c.args.files.now c.args.name.now c.loop-file.file-index (omega arith)
