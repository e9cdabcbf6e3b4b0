use Rattle.std.proofs.Common.{◌≡◌, ℕ, ◌+◌, List, Bool, true, take, drop, sym, ◌∙◌}
use Rattle.std.specs.Prelude.{if◌then◌else◌}
use Rattle.ql_lex.specs.declared.token.TokenKind.TheVariants.{Name, Reserved}
use Rattle.ql_lex.specs.Forms.{front_width, name_len, is_reserved, token, name}
use Rattle.ql_lex.proofs.names.read_name.Goals as goal

named : (bytes behind : List ℕ) (first len : ℕ) (listed : Bool) → first ≡ front_width bytes → behind ≡ drop first bytes → len ≡ name_len behind 0
    → listed ≡ is_reserved (take (first + len) bytes) → token (if listed then Reserved else Name) (first + len) ≡ name bytes
named bytes behind first len listed width rest more is = cc

pub returns-then-is_reserved-clause-value : goal.returns-then-is_reserved-clause-value
returns-then-is_reserved-clause-value c =
    c.make_token.ensures
    ∙ named c.args.bytes.now c.bytes_behind.result.now c.front_width-first.result c.name_len.result true c.front_width-first.ensures.value c.bytes_behind.ensures c.name_len.ensures.value
    (sym c.if-is_reserved.true ∙ c.is_reserved.ensures)
