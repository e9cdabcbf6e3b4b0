-- Each answer is exactly what it stands for.
use Rattle.std.proofs.Common.{◌≡◌, ◌↔◌, ℕ, ◌+◌, ◌<◌, ◌≤◌, inl, inr, Bool, true, false, nat_lt, if◌then◌else◌, List, [], ◌∷◌, ◌++◌, length, take, drop, Some, ap, sym, ◌∙◌, refl, subst, arith, append_assoc}
use Rattle.std.proofs.lemmas.Bool.Decides.{nat_tests}
use Rattle.std.proofs.lemmas.List.{take-append-drop}
use Rattle.std.proofs.lemmas.Option.{slice_get_past}
use Rattle.ql_lex.specs.Lexed.{Lexeme}
use Rattle.qv_syntax.specs.declared.expr.Expr.{Expr}
use Rattle.ql_lex.specs.Lexemes.{stands}
use Rattle.ocl_parser.specs.Grammar.{form, spelled}
use Rattle.ql_lex.specs.Symbols.{symbol_of}
use Rattle.ocl_parser.specs.Moves.{Move, move, reduced, open_levels, state_levels}
use Rattle.ocl_parser.specs.Runs.{Answer, Tree, Stuck, Deep, run, ended_by, answer}
use Rattle.ql_lex.specs.Symbols.{nowhere}
use Rattle.ocl_parser.specs.Beginnings.{BeginsWithin, Begins, IsLongest, IsShallow, IsTree, IsStuck, IsDeep, opens}
use Rattle.ql_lex.specs.declared.symbol.Symbol.TheVariants as symbols
use Rattle.ocl_parser.specs.declared.frame.Frame.{Frame}
use Rattle.ocl_parser.specs.declared.state.State.{State}
use Rattle.ocl_parser.specs.declared.state.Action.{Action}
use Rattle.ocl_parser.specs.declared.state.Action.TheVariants as actions
use Rattle.ql_lex.proofs.TokenLaws.{stands_none}
use Rattle.ocl_parser.proofs.CompleteRuns.{going}
use Rattle.ocl_parser.proofs.CompleteForms.{closing}
use Rattle.ocl_parser.proofs.Complete.{expr_read, complete}
use Rattle.ocl_parser.proofs.CompletionSteps.{by_move, run-step}
use Rattle.ocl_parser.proofs.CompletionSame.{move_same}
use Rattle.ocl_parser.proofs.CompletionExact.{IsAnswered, answered, answer_wider, longest, shallow_before, take_less, run_from, whole_moves, tree_exact, deep_exact}

-- ---- behind a spelled expression

record IsBehindTree (ts : List Lexeme) (levels from k : ℕ) (tree : Expr) : Type 0 where
  stack : List Frame
  state : State
  runs : answer ts levels from ≡ run levels (drop k ts) stack state k
  ends : (move stack state symbols.Other nowhere).action ≡ actions.Whole tree

spelled_behind : (ts : List Lexeme) (levels n from k : ℕ) (tree : Expr) → n ≤ levels → spelled ts n tree from ≡ Some k → IsBehindTree ts levels from k tree
unfolding spelled answer going reduced
spelled_behind ts levels n from k tree few h =
    let r = expr_read ts tree levels n from k [] tt (omega arith) h in
    let ended = closing levels ts tree (form ts tree).binding [] from k r symbols.Other nowhere refl in
    record { stack = r.on; state = r.state; runs = r.runs; ends = ap (λ (m : Move). m.action) ended }

pub stuck_exact : (ts : List Lexeme) (levels from k : ℕ) → from ≤ length ts → answer ts levels from ≡ Stuck k → IsStuck ts from levels k
stuck_exact ts levels from k within e =
    let i : IsAnswered ts levels from k (Stuck k) = answered ts levels from (Stuck k) within e in
    record {
      longest = longest complete ts levels from k (Stuck k) refl refl i;
      shallow = shallow_before ts levels from k i.reading i.within i.reaches;
      none = (λ n tree h.
          let wide : answer ts (levels + n) from ≡ Stuck k = answer_wider levels (levels + n) (omega arith) ts from (Stuck k) refl e in
          let b : IsBehindTree ts (levels + n) from k tree = spelled_behind ts (levels + n) n from k tree (omega arith) h in
          whole_moves (levels + n) (drop k ts) b.stack b.state k tree b.ends (sym b.runs ∙ wide));
    }

-- ---- one number at most

begins_before : (ts : List Lexeme) (from levels j k : ℕ) → j ≤ k → k ≤ length ts → BeginsWithin ts from levels k → BeginsWithin ts from levels j
begins_before ts from levels j k order within b =
    let halves : take j ts ++ drop j (take k ts) ≡ take k ts = ap (λ (ls : List Lexeme). ls ++ drop j (take k ts)) (sym (take_less ts j k order within)) ∙ take-append-drop j (take k ts) in
    let same : take k ts ++ b.more ≡ take j ts ++ (drop j (take k ts) ++ b.more) = ap (λ (ls : List Lexeme). ls ++ b.more) (sym halves) ∙ append_assoc (take j ts) (drop j (take k ts)) b.more in
    record { more = drop j (take k ts) ++ b.more; tree = b.tree; spelled = subst (λ (ls : List Lexeme). spelled ls levels b.tree from ≡ Some (length ls)) same b.spelled }

within_longest : (ts : List Lexeme) (from j k : ℕ) → IsLongest ts from j → k ≤ length ts → Begins ts from k → k ≤ j
within_longest ts from j k l within b = by (nat_lt j k) refl
  where
    not_past : j < k → ⊥
    not_past less = elim l.longest [
      | inl e ↦ absurd (omega (arith, e, less, within))
      | inr none ↦ none (b.0, begins_before ts from b.0 (j + 1) k (omega (arith, less)) within b.1)
    ]

    by : (less : Bool) → nat_lt j k ≡ less → k ≤ j
    by true e = let less : j < k = grind (arith, nat_tests) in absurd (not_past less)
    by false e = grind (arith, nat_tests)

one_longest : (ts : List Lexeme) (from j k : ℕ) → IsLongest ts from j → IsLongest ts from k → j ≡ k
one_longest ts from j k a b = omega (arith, within_longest ts from j k a b.within b.begins, within_longest ts from k j b a.within a.begins)

stands_within : (passes : Lexeme → Bool) (ts : List Lexeme) (k : ℕ) → stands passes ts k ≡ true → k < length ts
stands_within passes ts k h = by (nat_lt k (length ts)) refl
  where
    by : (less : Bool) → nat_lt k (length ts) ≡ less → k < length ts
    by true e = grind (arith, nat_tests)
    by false e =
        let past : length ts ≤ k = grind (arith, nat_tests) in
        let none : stands passes ts k ≡ false = stands_none passes ts k (slice_get_past ts k past) in
        let no : true ≡ false = sym h ∙ none in
        cc

-- the answer at the end of a whole expression is that expression
whole_tree : (levels : ℕ) (ls : List Lexeme) (stack : List Frame) (state : State) (at : ℕ) (d e : Expr) → (move stack state symbols.Other nowhere).action ≡ actions.Whole d → run levels ls stack state at ≡ Tree e at → d ≡ e
unfolding run
whole_tree levels [] stack state at d e w h = by (move stack state symbols.Other nowhere).action w h
  where
    by : (o : Action) → o ≡ actions.Whole d → ended_by o at ≡ Tree e at → d ≡ e
    by (actions.Read next) w h = cc
    by (actions.Whole one) w h = cc
    by actions.Refused w h = cc
whole_tree levels (l ∷ ls) stack state at d e w h =
    by (move stack state (symbol_of l) l.token.span) (move_same stack state (symbol_of l) l.token.span nowhere d e w) (sym (run-step levels at stack state l ls) ∙ h)
  where
    by : (m : Move) → (m.action ≡ actions.Whole e → d ≡ e) → by_move levels ls at m ≡ Tree e at → d ≡ e
    by m = of m.action
      where
        read : (next : State) (b : Bool) → (if b then Deep at else run levels ls m.stack next (at + 1)) ≡ Tree e at → d ≡ e
        read next true k = cc
        read next false k = let more : at + 1 ≤ at = run_from levels ls m.stack next (at + 1) (Tree e at) k in absurd (omega (arith, more))

        of : (o : Action) → (o ≡ actions.Whole e → d ≡ e) → by_move levels ls at (record { stack = m.stack; action = o }) ≡ Tree e at → d ≡ e
        of (actions.Read next) same k = read next (nat_lt levels (open_levels m.stack + state_levels next)) k
        of (actions.Whole one) same k = same (let one_is : one ≡ e = cc in ap actions.Whole one_is)
        of actions.Refused same k = cc

-- ---- back from what is so to the answer

-- a number past the last level, and one through which the levels suffice
deep_apart : (ts : List Lexeme) (from levels j k : ℕ) → IsDeep ts from levels j → IsShallow ts from levels k → k ≤ j
deep_apart ts from levels j k d shallow = by (nat_lt j k) refl
  where
    by : (less : Bool) → nat_lt j k ≡ less → k ≤ j
    by true e = let less : j < k = grind (arith, nat_tests) in absurd (d.deep (shallow j d.from_on less d.opens))
    by false e = grind (arith, nat_tests)

-- nor does it stand where the longest list has ended
deep_within : (ts : List Lexeme) (from levels j k : ℕ) → IsDeep ts from levels j → IsLongest ts from k → j < k
deep_within ts from levels j k d l =
    let less : j < length ts = stands_within opens ts j d.opens in
    let more : j + 1 ≤ length ts = omega (arith, less) in
    omega (arith, within_longest ts from k (j + 1) l more d.begins)

shallow_of : (ts : List Lexeme) (levels from k : ℕ) (a : Answer) → IsAnswered ts levels from k a → IsShallow ts from levels k
shallow_of ts levels from k a i = shallow_before ts levels from k i.reading i.within i.reaches

pub tree_answered : (ts : List Lexeme) (levels from : ℕ) (tree : Expr) (end : ℕ) → IsTree ts from levels tree end → answer ts levels from ≡ Tree tree end
tree_answered ts levels from tree end t = by (answer ts levels from) refl
  where
    within : from ≤ length ts
    within = omega (arith, t.longest.from_on, t.longest.within)

    b : IsBehindTree ts levels from end tree
    b = spelled_behind ts levels levels from end tree (omega arith) t.spelled

    by : (a : Answer) → answer ts levels from ≡ a → answer ts levels from ≡ Tree tree end
    by (Tree other at) e =
        let o : IsTree ts from levels other at = tree_exact complete ts levels from other at within e in
        let here : at ≡ end = one_longest ts from at end o.longest t.longest in
        let moved : answer ts levels from ≡ Tree other end = e ∙ ap (Tree other) here in
        let same : tree ≡ other = whole_tree levels (drop end ts) b.stack b.state end tree other b.ends (sym b.runs ∙ moved) in
        moved ∙ ap (λ (x : Expr). Tree x end) (sym same)
    by (Stuck at) e =
        let o : IsStuck ts from levels at = stuck_exact ts levels from at within e in
        let here : end ≡ at = one_longest ts from end at t.longest o.longest in
        absurd (o.none levels tree (t.spelled ∙ ap Some here))
    by (Deep at) e =
        let o : IsDeep ts from levels at = deep_exact complete ts levels from at within e in
        let less : at < end = deep_within ts from levels at end o t.longest in
        let more : end ≤ at = run_from levels (drop end ts) b.stack b.state end (Deep at) (sym b.runs ∙ e) in
        absurd (omega (arith, less, more))

pub stuck_answered : (ts : List Lexeme) (levels from k : ℕ) → IsStuck ts from levels k → answer ts levels from ≡ Stuck k
stuck_answered ts levels from k s = by (answer ts levels from) refl
  where
    within : from ≤ length ts
    within = omega (arith, s.longest.from_on, s.longest.within)

    by : (a : Answer) → answer ts levels from ≡ a → answer ts levels from ≡ Stuck k
    by (Tree other at) e =
        let o : IsTree ts from levels other at = tree_exact complete ts levels from other at within e in
        let here : at ≡ k = one_longest ts from at k o.longest s.longest in
        absurd (s.none levels other (o.spelled ∙ ap Some here))
    by (Stuck at) e =
        let o : IsStuck ts from levels at = stuck_exact ts levels from at within e in
        e ∙ ap Stuck (one_longest ts from at k o.longest s.longest)
    by (Deep at) e =
        let o : IsDeep ts from levels at = deep_exact complete ts levels from at within e in
        absurd (omega (arith, deep_within ts from levels at k o s.longest, deep_apart ts from levels at k o s.shallow))

pub deep_answered : (ts : List Lexeme) (levels from k : ℕ) → IsDeep ts from levels k → answer ts levels from ≡ Deep k
deep_answered ts levels from k d = by (answer ts levels from) refl
  where
    within : from ≤ length ts
    within = omega (arith, d.from_on, stands_within opens ts k d.opens)

    by : (a : Answer) → answer ts levels from ≡ a → answer ts levels from ≡ Deep k
    by (Tree other at) e =
        let i : IsAnswered ts levels from at (Tree other at) = answered ts levels from (Tree other at) within e in
        absurd (omega (arith, deep_within ts from levels k at d (longest complete ts levels from at (Tree other at) refl refl i), deep_apart ts from levels k at d (shallow_of ts levels from at (Tree other at) i)))
    by (Stuck at) e =
        let i : IsAnswered ts levels from at (Stuck at) = answered ts levels from (Stuck at) within e in
        absurd (omega (arith, deep_within ts from levels k at d (longest complete ts levels from at (Stuck at) refl refl i), deep_apart ts from levels k at d (shallow_of ts levels from at (Stuck at) i)))
    by (Deep at) e =
        let o : IsDeep ts from levels at = deep_exact complete ts levels from at within e in
        let here : at ≡ k = omega (arith, deep_apart ts from levels at k o d.first, deep_apart ts from levels k at d o.first) in
        e ∙ ap Deep here

pub tree_is : (ts : List Lexeme) (levels from : ℕ) (tree : Expr) (end : ℕ) → from ≤ length ts → (answer ts levels from ≡ Tree tree end) ↔ IsTree ts from levels tree end
tree_is ts levels from tree end within = (tree_exact complete ts levels from tree end within, tree_answered ts levels from tree end)

pub stuck_is : (ts : List Lexeme) (levels from k : ℕ) → from ≤ length ts → (answer ts levels from ≡ Stuck k) ↔ IsStuck ts from levels k
stuck_is ts levels from k within = (stuck_exact ts levels from k within, stuck_answered ts levels from k)

pub deep_is : (ts : List Lexeme) (levels from k : ℕ) → from ≤ length ts → (answer ts levels from ≡ Deep k) ↔ IsDeep ts from levels k
deep_is ts levels from k within = (deep_exact complete ts levels from k within, deep_answered ts levels from k)
