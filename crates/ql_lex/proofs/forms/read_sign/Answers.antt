use Rattle.std.proofs.Common.{◌≡◌, ℕ, List, true, sym, ◌∙◌}
use Rattle.ql_lex.specs.declared.token.TokenKind.TheVariants.{Sign}
use Rattle.ql_lex.specs.Forms.{begins_long_sign, token, sign}
use Rattle.ql_lex.proofs.forms.read_sign.Goals as goal

long : (bytes : List ℕ) → begins_long_sign bytes ≡ true → sign bytes ≡ token Sign 2
long bytes e = rw e

pub returns-then-begins_long_sign-clause-value : goal.returns-then-begins_long_sign-clause-value
returns-then-begins_long_sign-clause-value c = c.make_token.ensures ∙ sym (long c.args.bytes.now (sym c.begins_long_sign.ensures.value ∙ c.if-begins_long_sign.true))
