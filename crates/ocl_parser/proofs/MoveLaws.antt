-- Steps that are stated of one state, one stack or one branch.
use Rattle.std.proofs.Common.{◌≡◌, Bool, true, false, if◌then◌else◌, List, Result, Ok, Err, IfOk, refl, sym, ap, subst}
use Rattle.mof_metamodel.specs.declared.span.Span.{Span}
use Rattle.ocl_parser.specs.Moves.{Move, move}
use Rattle.ocl_parser.specs.Answers.{made}
use Rattle.ql_lex.specs.declared.symbol.Symbol.{Symbol}
use Rattle.ocl_parser.specs.declared.frame.Frame.{Frame}
use Rattle.ocl_parser.specs.declared.state.State.{State}
use Rattle.ocl_parser.specs.declared.state.Action.{Action}

pub so : {E : Type 0} (result : Result Action E) (stack : List Frame) (a b : Move) → a ≡ b → IfOk result (λ o. made stack o ≡ a) → IfOk result (λ o. made stack o ≡ b)
so result stack a b e h = let P : Move → Type 0 = λ m. IfOk result (λ o. made stack o ≡ m) in subst P e h

-- what holds of each stack, at one
pub at_stack : {E : Type 0} (result : Result Action E) (f : List Frame → Move) (stack : List Frame) → IfOk result (λ o. (s : List Frame) → made s o ≡ f s) → IfOk result (λ o. made stack o ≡ f stack)
at_stack (Ok o) f stack h = h stack
at_stack (Err e) f stack h = tt

-- in a state that is this one
pub moved : {E : Type 0} (result : Result Action E) (more stack : List Frame) (state known : State) (symbol : Symbol) (span : Span) → state ≡ known
    → IfOk result (λ o. made more o ≡ move stack known symbol span) → IfOk result (λ o. made more o ≡ move stack state symbol span)
moved result more stack state known symbol span is h = so result more (move stack known symbol span) (move stack state symbol span) (sym (ap (λ (p : State). move stack p symbol span) is)) h

pub then_so : (taken : Bool) (a b : Move) → true ≡ taken → a ≡ (if taken then a else b)
then_so true a b e = refl
then_so false a b e = cc

pub else_so : (taken : Bool) (a b : Move) → false ≡ taken → b ≡ (if taken then a else b)
else_so true a b e = cc
else_so false a b e = refl
