use Rattle.std.proofs.Common.{ap, sym}
use Rattle.ql_lex.specs.declared.token.TokenKind.{TokenKind}
use Rattle.qvtr_parser.specs.ScriptReadings.{is_any_name}
use Rattle.qvtr_parser.proofs.names.is_name.Goals as goal

pub returns-in-Name : goal.returns-in-Name
returns-in-Name c = sym (ap (λ (k : TokenKind). is_any_name (record { token = record { kind = k; span = c.args.token.span }; text = c.args._text.now })) c.in-Name.is)

pub returns-in-Quoted : goal.returns-in-Quoted
returns-in-Quoted c = sym (ap (λ (k : TokenKind). is_any_name (record { token = record { kind = k; span = c.args.token.span }; text = c.args._text.now })) c.in-Quoted.is)

pub returns-in-Reserved : goal.returns-in-Reserved
returns-in-Reserved c = sym (ap (λ (k : TokenKind). is_any_name (record { token = record { kind = k; span = c.args.token.span }; text = c.args._text.now })) c.in-Reserved.is)

pub returns-in-Number : goal.returns-in-Number
returns-in-Number c = sym (ap (λ (k : TokenKind). is_any_name (record { token = record { kind = k; span = c.args.token.span }; text = c.args._text.now })) c.in-Number.is)

pub returns-in-Str : goal.returns-in-Str
returns-in-Str c = sym (ap (λ (k : TokenKind). is_any_name (record { token = record { kind = k; span = c.args.token.span }; text = c.args._text.now })) c.in-Str.is)

pub returns-in-Sign : goal.returns-in-Sign
returns-in-Sign c = sym (ap (λ (k : TokenKind). is_any_name (record { token = record { kind = k; span = c.args.token.span }; text = c.args._text.now })) c.in-Sign.is)
