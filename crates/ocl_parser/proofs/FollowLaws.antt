-- Expressions in a text that goes on behind them, and in texts that begin alike.
use Rattle.std.proofs.Common.{◌≡◌, ℕ, zero, suc, ◌+◌, ◌<◌, ◌≤◌, Bool, true, false, ◌||◌, not, nat_lt, if◌then◌else◌, List, [], ◌∷◌, ◌++◌, length, take, drop, slice_get, Option, Some, None, ap, sym, ◌∙◌, refl, arith}
use Rattle.std.specs.Prelude.{codes}
use Rattle.std.proofs.lemmas.List.{length-take-le, length-take, drop_more, drop_all, take_all, take-append-drop}
use Rattle.std.proofs.lemmas.Option.{slice_get_within, get_or_from_slice_get}
use Rattle.qv_syntax.specs.declared.name.Name.{Name}
use Rattle.qv_syntax.specs.declared.expr.Expr.{Expr}
use Rattle.qv_syntax.specs.declared.expr.Expr.TheVariants as exprs
use Rattle.ql_lex.specs.Lexed.{Lexeme}
use Rattle.ql_lex.specs.Lexemes.{is_sign, is_name, stands}
use Rattle.ql_lex.specs.Symbols.{nowhere, symbol_among, symbol_of}
use Rattle.ql_lex.specs.declared.symbol.Symbol.{Symbol}
use Rattle.ql_lex.specs.declared.symbol.Symbol.TheVariants as symbols
use Rattle.ocl_parser.specs.Followers.{follows, may_go_on}
use Rattle.ocl_parser.specs.Grammar.{form, spelled}
use Rattle.ocl_parser.specs.Moves.{Move, move, path_of, reduced, open_levels, state_levels}
use Rattle.ocl_parser.specs.Runs.{Answer, Tree, Stuck, Deep, answer, ended_by, run}
use Rattle.ocl_parser.specs.declared.frame.Frame.{Frame}
use Rattle.ocl_parser.specs.declared.state.State.{State}
use Rattle.ocl_parser.specs.declared.state.State.TheVariants as states
use Rattle.ocl_parser.specs.declared.state.Action.{Action}
use Rattle.ocl_parser.specs.declared.state.Action.TheVariants as actions
use Rattle.ocl_parser.proofs.SymbolLaws.{sign_is}
use Rattle.ocl_parser.proofs.SoundRuns.{answer_sound}
use Rattle.ocl_parser.proofs.CompleteRuns.{coming, going, moved, step, stuck_at, there}
use Rattle.ocl_parser.proofs.CompleteForms.{closes, closing}
use Rattle.ocl_parser.proofs.Complete.{complete_within, expr_read}
use Rattle.ocl_parser.proofs.CompletionSteps.{by_move, run-step}
use Rattle.ocl_parser.proofs.CompletionReads.{answer_run}
use Rattle.ocl_parser.proofs.CompletionHalts.{halts, halts_by}
use Rattle.ocl_parser.proofs.CompletionExact.{IsAnswered, answered, number_of}
use Rattle.ocl_parser.proofs.Local.{spelled_cut, spelled_end}
use Rattle.ocl_parser.proofs.EndingLaws.{move_ended}
use Rattle.ql_lex.proofs.TokenLaws.{stands_some}

-- ---- single tokens

slice_get_none : (xs : List Lexeme) (j : ℕ) → slice_get xs j ≡ None → length xs ≤ j
slice_get_none [] j g = omega arith
slice_get_none (x ∷ xs) zero g = cc
slice_get_none (x ∷ xs) (suc j) g = let less = slice_get_none xs j g in omega arith

on_from : (ts : List Lexeme) (i : ℕ) (l : Lexeme) → slice_get ts i ≡ Some l → drop i ts ≡ l ∷ drop (i + 1) ts
on_from ts i l e = drop_more ts i l (slice_get_within ts i l e) ∙ ap (λ (x : Lexeme). x ∷ drop (i + 1) ts) (get_or_from_slice_get ts i l l e)

-- a token that may follow closes what is read
pub follower_closes : (l : Lexeme) → follows l ≡ true → closes (symbol_of l) ≡ true
unfolding symbol_among
follower_closes l e = by (is_sign (codes "}") l) refl (is_sign (codes ",") l) refl (is_sign (codes ";") l) refl e
  where
    by : (a : Bool) → is_sign (codes "}") l ≡ a → (b : Bool) → is_sign (codes ",") l ≡ b → (c : Bool) → is_sign (codes ";") l ≡ c → (a || b || c) ≡ true → closes (symbol_of l) ≡ true
    by true p b q c r h = ap closes (sign_is (codes "}") symbols.CloseBrace l refl p)
    by false p true q c r h = ap closes (sign_is (codes ",") symbols.Comma l refl q)
    by false p false q true r h = ap closes (sign_is (codes ";") symbols.Other l refl r)
    by false p false q false r h = cc

-- ---- where expressions end

-- an expression ends before a token that may follow it
pub tree_before : (ts : List Lexeme) (levels n from k : ℕ) (tree : Expr) → n ≤ levels → spelled ts n tree from ≡ Some k → stands follows ts k ≡ true → answer ts levels from ≡ Tree tree k
unfolding spelled answer going reduced
tree_before ts levels n from k tree few h f =
    let r = expr_read ts tree levels n from k [] tt (omega arith) h in
    let t = there follows ts k f in
    let ended = closing levels ts tree (form ts tree).binding [] from k r (symbol_of t.0) t.0.token.span (follower_closes t.0 t.2) in
    r.runs ∙ rw (on_from ts k t.0 t.1) (moved levels t.0 (drop (k + 1) ts) r.on r.state k ∙ ap (coming levels (drop (k + 1) ts) k) ended)

-- a colon begins none
pub colon_stuck : (ts : List Lexeme) (levels i : ℕ) → stands (is_sign (codes ":")) ts i ≡ true → answer ts levels i ≡ Stuck i
unfolding answer going move symbol_among
colon_stuck ts levels i e =
    let t = there (is_sign (codes ":")) ts i e in
    stuck_at levels ts t.0 i [] states.Operand t.1 (ap (λ (s : Symbol). (move [] states.Operand s t.0.token.span).action) (sign_is (codes ":") symbols.Colon t.0 refl t.2))

-- nor does a closing brace
pub brace_stuck : (ts : List Lexeme) (levels i : ℕ) → stands (is_sign (codes "}")) ts i ≡ true → answer ts levels i ≡ Stuck i
unfolding answer going move symbol_among
brace_stuck ts levels i e =
    let t = there (is_sign (codes "}")) ts i e in
    stuck_at levels ts t.0 i [] states.Operand t.1 (ap (λ (s : Symbol). (move [] states.Operand s t.0.token.span).action) (sign_is (codes "}") symbols.CloseBrace t.0 refl t.2))

-- before a colon a name alone is an expression
pub name_ends : (ts : List Lexeme) (levels i : ℕ) (x : Name) → stands (is_name x) ts i ≡ true → stands (is_sign (codes ":")) ts (i + 1) ≡ true
    → answer ts levels i ≡ Tree (exprs.Named (path_of x)) (i + 1)
unfolding answer going move reduced symbol_among
name_ends ts levels i x e c =
    let one = step levels ts (symbols.Name x) i [] [] states.Operand (states.Path (path_of x)) refl e refl (omega arith) in
    let t = there (is_sign (codes ":")) ts (i + 1) c in
    one ∙ rw (on_from ts (i + 1) t.0 t.1) (moved levels t.0 (drop (i + 1 + 1) ts) [] (states.Path (path_of x)) (i + 1)
    ∙ ap (λ (s : Symbol). coming levels (drop (i + 1 + 1) ts) (i + 1) (move [] (states.Path (path_of x)) s t.0.token.span)) (sign_is (codes ":") symbols.Colon t.0 refl t.2))

-- ---- texts that begin alike

halted_by : (levels k : ℕ) (m : Move) (a : Answer) (more : List Lexeme) → halts_by levels k m ≡ Some a → by_move levels more k m ≡ a
halted_by levels k m a more = by m.action
  where
    deep : (b : Bool) (x : Answer) → (if b then Some (Deep k) else None) ≡ Some a → (if b then Deep k else x) ≡ a
    deep true x e = cc
    deep false x e = cc

    by : (o : Action) → halts_by levels k (record { stack = m.stack; action = o }) ≡ Some a → by_move levels more k (record { stack = m.stack; action = o }) ≡ a
    by (actions.Read next) e = deep (nat_lt levels (open_levels m.stack + state_levels next)) _ e
    by (actions.Whole tree) e = cc
    by actions.Refused e = cc

halted : (levels : ℕ) (ls : List Lexeme) (stack : List Frame) (state : State) (k : ℕ) (a : Answer) → halts levels ls stack state k ≡ Some a → run levels ls stack state k ≡ a
unfolding run
halted levels [] stack state k a h = cc
halted levels (l ∷ ls) stack state k a h = run-step levels k stack state l ls ∙ halted_by levels k (move stack state (symbol_of l) l.token.span) a ls h

alike : (ts us : List Lexeme) (k : ℕ) → k ≤ length ts → take k us ≡ take k ts → k ≤ length us
alike ts us k within same =
    let long : length (take k us) ≡ k = ap length same ∙ length-take-le k ts within in
    omega (arith, length-take k us)

-- the answer for another text of which the tokens before the answer's are the same
answer_for : (ts us : List Lexeme) (levels from : ℕ) (a : Answer) (i : IsAnswered ts levels from (number_of a) a) → take (number_of a) us ≡ take (number_of a) ts
    → answer us levels from ≡ run levels (drop (number_of a) us) i.reading.stack i.reading.state (number_of a)
answer_for ts us levels from a i same =
    let k : ℕ = number_of a in
    let whole : us ≡ take k ts ++ drop k us = sym (take-append-drop k us) ∙ ap (λ (ls : List Lexeme). ls ++ drop k us) same in
    ap (λ (ls : List Lexeme). answer ls levels from) whole ∙ answer_run ts levels from k i.reading i.from_on i.within i.reaches levels (omega arith) (drop k us)

next_alike : (ts us : List Lexeme) (k : ℕ) → k ≤ length ts → take k us ≡ take k ts → slice_get us k ≡ slice_get ts k → (levels : ℕ) (stack : List Frame) (state : State)
    → halts levels (drop k us) stack state k ≡ halts levels (drop k ts) stack state k
next_alike ts us k within same next levels stack state = by (slice_get ts k) refl
  where
    by : (o : Option Lexeme) → slice_get ts k ≡ o → halts levels (drop k us) stack state k ≡ halts levels (drop k ts) stack state k
    by (Some l) e = rw (on_from ts k l e, on_from us k l (next ∙ e)) refl
    by None e =
        let past : drop k ts ≡ [] = drop_all k ts (slice_get_none ts k e) in
        let past_us : drop k us ≡ [] = drop_all k us (slice_get_none us k (next ∙ e)) in
        rw (past, past_us) refl

-- an answer is told by the tokens up to the one that it tells
pub answer_alike : (ts us : List Lexeme) (levels from : ℕ) (a : Answer) → from ≤ length ts → answer ts levels from ≡ a → take (number_of a) us ≡ take (number_of a) ts
    → slice_get us (number_of a) ≡ slice_get ts (number_of a) → answer us levels from ≡ a
answer_alike ts us levels from a within e same next =
    let i = answered ts levels from a within e in
    answer_for ts us levels from a i same
    ∙ halted levels (drop (number_of a) us) i.reading.stack i.reading.state (number_of a) a (next_alike ts us (number_of a) i.within same next levels i.reading.stack i.reading.state ∙ i.halts)

-- ---- a tree in another text

whole_of : (o : Action) (k : ℕ) (tree : Expr) → Some (ended_by o k) ≡ Some (Tree tree k) → o ≡ actions.Whole tree
whole_of (actions.Read next) k tree h = cc
whole_of (actions.Whole one) k tree h = let is : one ≡ tree = cc in ap actions.Whole is
whole_of actions.Refused k tree h = cc

ends_whole : (levels k : ℕ) (m : Move) (tree : Expr) (more : List Lexeme) → m.action ≡ actions.Whole tree → by_move levels more k m ≡ Tree tree k
ends_whole levels k m tree more is = rw is refl

-- the tokens before the end of an expression alone
alone : (ts : List Lexeme) (levels from k : ℕ) (tree : Expr) → from ≤ length ts → answer ts levels from ≡ Tree tree k
    → (from < k) × (k ≤ length ts) × (answer (take k ts) levels from ≡ Tree tree k)
alone ts levels from k tree within e =
    let s = (answer_sound ts levels from tree k within e).spelled in
    let ends = spelled_end ts levels tree from k s in
    let long : length (take k ts) ≡ k = length-take-le k ts ends.1 in
    let cut = spelled_cut ts levels tree from k k s (omega arith) in
    (ends.0, ends.1, complete_within (take k ts) levels levels tree from (omega arith) (cut ∙ ap Some (sym long)) ∙ ap (Tree tree) long)

-- a tree is told by the tokens before its end, where no token follows with which an expression may go on
pub tree_alike : (ts us : List Lexeme) (levels from k : ℕ) (tree : Expr) → from ≤ length ts → answer ts levels from ≡ Tree tree k → take k us ≡ take k ts → stands may_go_on us k ≡ false
    → answer us levels from ≡ Tree tree k
tree_alike ts us levels from k tree within e same f = by (slice_get us k) refl
  where
    a : (from < k) × (k ≤ length ts) × (answer (take k ts) levels from ≡ Tree tree k)
    a = alone ts levels from k tree within e

    long : length (take k ts) ≡ k
    long = length-take-le k ts a.1

    again : take k us ≡ take k (take k ts)
    again = same ∙ sym (take_all k (take k ts) (omega (arith, long)))

    i : IsAnswered (take k ts) levels from k (Tree tree k)
    i = answered (take k ts) levels from (Tree tree k) (omega (arith, long, a.0)) a.2

    ended : (move i.reading.stack i.reading.state symbols.Other nowhere).action ≡ actions.Whole tree
    ended = whole_of (move i.reading.stack i.reading.state symbols.Other nowhere).action k tree
        (ap (λ (ls : List Lexeme). halts levels ls i.reading.stack i.reading.state k) (sym (drop_all k (take k ts) (omega (arith, long)))) ∙ i.halts)

    going_on : answer us levels from ≡ run levels (drop k us) i.reading.stack i.reading.state k
    going_on = answer_for (take k ts) us levels from (Tree tree k) i again

    by : (o : Option Lexeme) → slice_get us k ≡ o → answer us levels from ≡ Tree tree k
    by None g =
        let last : drop k us ≡ [] = drop_all k us (slice_get_none us k g) in
        going_on ∙ halted levels (drop k us) i.reading.stack i.reading.state k (Tree tree k)
        (ap (λ (ls : List Lexeme). halts levels ls i.reading.stack i.reading.state k) last ∙ ap (λ (o : Action). Some (ended_by o k)) ended)
    by (Some l) g =
        let follows_it : follows l ≡ true = kept (follows l) (sym (stands_some may_go_on us k l g) ∙ f) in
        let closed = move_ended i.reading.stack i.reading.state (symbol_of l) l.token.span nowhere tree (follower_closes l follows_it) ended in
        going_on ∙ rw (on_from us k l g) (run-step levels k i.reading.stack i.reading.state l (drop (k + 1) us)
        ∙ ends_whole levels k (move i.reading.stack i.reading.state (symbol_of l) l.token.span) tree (drop (k + 1) us) closed)
      where
        kept : (b : Bool) → not b ≡ false → b ≡ true
        kept true h = refl
        kept false h = cc
