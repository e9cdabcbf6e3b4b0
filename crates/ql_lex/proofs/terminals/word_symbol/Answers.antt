use Rattle.std.proofs.Common.{List, ℕ, ap, sym}
use Rattle.ql_lex.specs.Symbols.{symbol_among, words}
use Rattle.ql_lex.proofs.TableLaws.{absent}
use Rattle.ql_lex.proofs.terminals.word_symbol.Goals as goal

pub returns-in-let : goal.returns-in-let
unfolding symbol_among
returns-in-let c = ap (λ (text : List ℕ). symbol_among text words) (sym c.in-let.is)

pub returns-in-in : goal.returns-in-in
unfolding symbol_among
returns-in-in c = ap (λ (text : List ℕ). symbol_among text words) (sym c.in-in.is)

pub returns-in-if : goal.returns-in-if
unfolding symbol_among
returns-in-if c = ap (λ (text : List ℕ). symbol_among text words) (sym c.in-if.is)

pub returns-in-then : goal.returns-in-then
unfolding symbol_among
returns-in-then c = ap (λ (text : List ℕ). symbol_among text words) (sym c.in-then.is)

pub returns-in-else : goal.returns-in-else
unfolding symbol_among
returns-in-else c = ap (λ (text : List ℕ). symbol_among text words) (sym c.in-else.is)

pub returns-in-endif : goal.returns-in-endif
unfolding symbol_among
returns-in-endif c = ap (λ (text : List ℕ). symbol_among text words) (sym c.in-endif.is)

pub returns-in-not : goal.returns-in-not
unfolding symbol_among
returns-in-not c = ap (λ (text : List ℕ). symbol_among text words) (sym c.in-not.is)

pub returns-in-null : goal.returns-in-null
unfolding symbol_among
returns-in-null c = ap (λ (text : List ℕ). symbol_among text words) (sym c.in-null.is)

pub returns-in-invalid : goal.returns-in-invalid
unfolding symbol_among
returns-in-invalid c = ap (λ (text : List ℕ). symbol_among text words) (sym c.in-invalid.is)

pub returns-in-true : goal.returns-in-true
unfolding symbol_among
returns-in-true c = ap (λ (text : List ℕ). symbol_among text words) (sym c.in-true.is)

pub returns-in-false : goal.returns-in-false
unfolding symbol_among
returns-in-false c = ap (λ (text : List ℕ). symbol_among text words) (sym c.in-false.is)

pub returns-in-Set : goal.returns-in-Set
unfolding symbol_among
returns-in-Set c = ap (λ (text : List ℕ). symbol_among text words) (sym c.in-Set.is)

pub returns-in-Bag : goal.returns-in-Bag
unfolding symbol_among
returns-in-Bag c = ap (λ (text : List ℕ). symbol_among text words) (sym c.in-Bag.is)

pub returns-in-Sequence : goal.returns-in-Sequence
unfolding symbol_among
returns-in-Sequence c = ap (λ (text : List ℕ). symbol_among text words) (sym c.in-Sequence.is)

pub returns-in-OrderedSet : goal.returns-in-OrderedSet
unfolding symbol_among
returns-in-OrderedSet c = ap (λ (text : List ℕ). symbol_among text words) (sym c.in-OrderedSet.is)

pub returns-in-String : goal.returns-in-String
unfolding symbol_among
returns-in-String c = ap (λ (text : List ℕ). symbol_among text words) (sym c.in-String.is)

pub returns-in-Integer : goal.returns-in-Integer
unfolding symbol_among
returns-in-Integer c = ap (λ (text : List ℕ). symbol_among text words) (sym c.in-Integer.is)

pub returns-in-Boolean : goal.returns-in-Boolean
unfolding symbol_among
returns-in-Boolean c = ap (λ (text : List ℕ). symbol_among text words) (sym c.in-Boolean.is)

pub returns-in-implies : goal.returns-in-implies
unfolding symbol_among
returns-in-implies c = ap (λ (text : List ℕ). symbol_among text words) (sym c.in-implies.is)

pub returns-in-xor : goal.returns-in-xor
unfolding symbol_among
returns-in-xor c = ap (λ (text : List ℕ). symbol_among text words) (sym c.in-xor.is)

pub returns-in-or : goal.returns-in-or
unfolding symbol_among
returns-in-or c = ap (λ (text : List ℕ). symbol_among text words) (sym c.in-or.is)

pub returns-in-and : goal.returns-in-and
unfolding symbol_among
returns-in-and c = ap (λ (text : List ℕ). symbol_among text words) (sym c.in-and.is)

pub returns-in_default : goal.returns-in_default
returns-in_default c = sym (absent c.args.word.now words (c.in_default.not-let, (c.in_default.not-in, (c.in_default.not-if, (c.in_default.not-then, (c.in_default.not-else, (c.in_default.not-endif, (c.in_default.not-not, (c.in_default.not-null, (c.in_default.not-invalid, (c.in_default.not-true, (c.in_default.not-false, (c.in_default.not-Set, (c.in_default.not-Bag, (c.in_default.not-Sequence, (c.in_default.not-OrderedSet, (c.in_default.not-String, (c.in_default.not-Integer, (c.in_default.not-Boolean, (c.in_default.not-implies, (c.in_default.not-xor, (c.in_default.not-or, (c.in_default.not-and, tt)))))))))))))))))))))))
