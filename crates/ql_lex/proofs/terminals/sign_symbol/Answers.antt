use Rattle.std.proofs.Common.{List, ℕ, ap, sym}
use Rattle.ql_lex.specs.Symbols.{symbol_among, signs}
use Rattle.ql_lex.proofs.TableLaws.{absent}
use Rattle.ql_lex.proofs.terminals.sign_symbol.Goals as goal

pub returns-in-text : goal.returns-in-text
unfolding symbol_among
returns-in-text c = ap (λ (text : List ℕ). symbol_among text signs) (sym c.in-text.is)

pub returns-in-text-2 : goal.returns-in-text-2
unfolding symbol_among
returns-in-text-2 c = ap (λ (text : List ℕ). symbol_among text signs) (sym c.in-text-2.is)

pub returns-in-text-3 : goal.returns-in-text-3
unfolding symbol_among
returns-in-text-3 c = ap (λ (text : List ℕ). symbol_among text signs) (sym c.in-text-3.is)

pub returns-in-text-4 : goal.returns-in-text-4
unfolding symbol_among
returns-in-text-4 c = ap (λ (text : List ℕ). symbol_among text signs) (sym c.in-text-4.is)

pub returns-in-text-5 : goal.returns-in-text-5
unfolding symbol_among
returns-in-text-5 c = ap (λ (text : List ℕ). symbol_among text signs) (sym c.in-text-5.is)

pub returns-in-text-6 : goal.returns-in-text-6
unfolding symbol_among
returns-in-text-6 c = ap (λ (text : List ℕ). symbol_among text signs) (sym c.in-text-6.is)

pub returns-in-text-7 : goal.returns-in-text-7
unfolding symbol_among
returns-in-text-7 c = ap (λ (text : List ℕ). symbol_among text signs) (sym c.in-text-7.is)

pub returns-in-text-8 : goal.returns-in-text-8
unfolding symbol_among
returns-in-text-8 c = ap (λ (text : List ℕ). symbol_among text signs) (sym c.in-text-8.is)

pub returns-in-text-9 : goal.returns-in-text-9
unfolding symbol_among
returns-in-text-9 c = ap (λ (text : List ℕ). symbol_among text signs) (sym c.in-text-9.is)

pub returns-in-text-10 : goal.returns-in-text-10
unfolding symbol_among
returns-in-text-10 c = ap (λ (text : List ℕ). symbol_among text signs) (sym c.in-text-10.is)

pub returns-in-text-11 : goal.returns-in-text-11
unfolding symbol_among
returns-in-text-11 c = ap (λ (text : List ℕ). symbol_among text signs) (sym c.in-text-11.is)

pub returns-in-text-12 : goal.returns-in-text-12
unfolding symbol_among
returns-in-text-12 c = ap (λ (text : List ℕ). symbol_among text signs) (sym c.in-text-12.is)

pub returns-in-text-13 : goal.returns-in-text-13
unfolding symbol_among
returns-in-text-13 c = ap (λ (text : List ℕ). symbol_among text signs) (sym c.in-text-13.is)

pub returns-in-text-14 : goal.returns-in-text-14
unfolding symbol_among
returns-in-text-14 c = ap (λ (text : List ℕ). symbol_among text signs) (sym c.in-text-14.is)

pub returns-in-text-15 : goal.returns-in-text-15
unfolding symbol_among
returns-in-text-15 c = ap (λ (text : List ℕ). symbol_among text signs) (sym c.in-text-15.is)

pub returns-in-text-16 : goal.returns-in-text-16
unfolding symbol_among
returns-in-text-16 c = ap (λ (text : List ℕ). symbol_among text signs) (sym c.in-text-16.is)

pub returns-in-text-17 : goal.returns-in-text-17
unfolding symbol_among
returns-in-text-17 c = ap (λ (text : List ℕ). symbol_among text signs) (sym c.in-text-17.is)

pub returns-in-text-18 : goal.returns-in-text-18
unfolding symbol_among
returns-in-text-18 c = ap (λ (text : List ℕ). symbol_among text signs) (sym c.in-text-18.is)

pub returns-in-text-19 : goal.returns-in-text-19
unfolding symbol_among
returns-in-text-19 c = ap (λ (text : List ℕ). symbol_among text signs) (sym c.in-text-19.is)

pub returns-in_default : goal.returns-in_default
returns-in_default c = sym (absent c.args.sign.now signs (c.in_default.not-text, (c.in_default.not-text-2, (c.in_default.not-text-3, (c.in_default.not-text-4, (c.in_default.not-text-5, (c.in_default.not-text-6, (c.in_default.not-text-7, (c.in_default.not-text-8, (c.in_default.not-text-9, (c.in_default.not-text-10, (c.in_default.not-text-11, (c.in_default.not-text-12, (c.in_default.not-text-13, (c.in_default.not-text-14, (c.in_default.not-text-15, (c.in_default.not-text-16, (c.in_default.not-text-17, (c.in_default.not-text-18, (c.in_default.not-text-19, tt))))))))))))))))))))
