use Rattle.std.proofs.Common.{◌≡◌, IfOk, subst, sym}
use Rattle.ocl_parser.specs.Moves.{Move}
use Rattle.ocl_parser.specs.Answers.{made}
use Rattle.ocl_parser.proofs.ClosingLaws.{IsUnfit, unfit}
use Rattle.ocl_parser.proofs.closing.close_in.Goals as goal

pub returns-in_default : goal.returns-in_default
returns-in_default c =
    let P : Move → Type 0 = λ m. IfOk c.refuse.result (λ o. made c.refuse.new.stack o ≡ m) in
    let n : IsUnfit c.args.terminal.symbol = record {
      parenthesis = c.in_default.not-CloseParenthesis;
      brace = c.in_default.not-CloseBrace;
      comma = c.in_default.not-Comma;
      then_word = c.in_default.not-Then;
      else_word = c.in_default.not-Else;
      endif_word = c.in_default.not-Endif;
      in_word = c.in_default.not-In;
    } in
    subst P (sym (unfit c.args.frame c.args.stack.now c.args.subtree c.args.terminal.symbol c.args.terminal.span n)) c.refuse.ensures
