-- What an answer says of the tokens: which of them begin an expression, and which one opens a level past the last.
use Rattle.std.proofs.Common.{◌≡◌, ℕ, ◌+◌, ◌<◌, ◌≤◌, ◌⊎◌, inl, inr, Bool, true, false, nat_lt, if◌then◌else◌, List, [], ◌∷◌, ◌++◌, length, take, drop, get_or, slice_get, None, Some, ap, sym, ◌∙◌, refl, subst, arith, length-append, length-drop, append_assoc}
use Rattle.std.proofs.lemmas.Bool.Decides.{nat_tests}
use Rattle.std.proofs.lemmas.List.{drop-append-le, length-take-le, take_more, drop_all, drop_more, drop-drop, drop-take, take-append-le, take-append-drop}
use Rattle.std.proofs.lemmas.Option.{slice_get-get_or}
use Rattle.ql_lex.specs.Lexed.{Lexeme}
use Rattle.qv_syntax.specs.declared.expr.Expr.{Expr}
use Rattle.ocl_parser.specs.Grammar.{spelled}
use Rattle.ql_lex.specs.Symbols.{symbol_of}
use Rattle.ocl_parser.specs.Moves.{Move, move, open_levels, state_levels}
use Rattle.ocl_parser.specs.Runs.{Answer, Tree, Stuck, Deep, run, ended_by, answer}
use Rattle.ql_lex.specs.Symbols.{nowhere}
use Rattle.ocl_parser.specs.Beginnings.{BeginsWithin, Begins, IsLongest, IsShallow, IsTree, IsDeep, opens}
use Rattle.ocl_parser.specs.Completion.{Reading, Reaches, reads, completion, opening_levels}
use Rattle.ql_lex.specs.declared.symbol.Symbol.TheVariants as symbols
use Rattle.ocl_parser.specs.declared.frame.Frame.{Frame}
use Rattle.ocl_parser.specs.declared.state.State.{State}
use Rattle.ocl_parser.specs.declared.state.State.TheVariants as states
use Rattle.ocl_parser.specs.declared.state.Action.{Action}
use Rattle.ocl_parser.specs.declared.state.Action.TheVariants as actions
use Rattle.ql_lex.proofs.TokenLaws.{stands_some}
use Rattle.ocl_parser.proofs.SoundRuns.{Sound, answer_sound}
use Rattle.ocl_parser.proofs.CompletionSteps.{by_move, run-step}
use Rattle.ocl_parser.proofs.CompletionReads.{FirstRead, first_read, reads_by, reads-step, reads_fit, reached_ends, answer_run}
use Rattle.ocl_parser.proofs.CompletionHalts.{Between, Stops, reads_apart, reads_joined, reads_wider, run_wider, is_deep, halts, halts_by, stops}
use Rattle.ocl_parser.proofs.CompletionLevels.{is_opener, opener_opens, opens_opener, taken, move_within}
use Rattle.ocl_parser.proofs.CompletionOpeners.{opening, move_opening}
use Rattle.ocl_parser.proofs.CompletionWhole.{is_whole, is_refused, move_whole}

-- ---- what is reached begins an expression

pub reached_begins : (ts : List Lexeme) (levels from k : ℕ) (r : Reading) → from ≤ k → k ≤ length ts → Reaches ts levels from k r → (wider : ℕ) → levels + opening_levels r.state ≤ wider → BeginsWithin ts from wider k
reached_begins ts levels from k r order within reached wider w =
    let more : List Lexeme = completion r.stack r.state in
    let whole : List Lexeme = take k ts ++ more in
    let e : (tree : Expr) × (answer whole wider from ≡ Tree tree (length whole)) = reached_ends ts levels from k r order within reached wider w in
    let there : from ≤ length whole = omega (arith, length-take-le k ts within, length-append (take k ts) more) in
    let sound : Sound whole from wider from e.0 (length whole) = answer_sound whole wider from e.0 (length whole) there e.1 in
    record { more = more; tree = e.0; spelled = sound.spelled }

-- ---- what an answer stands for

abbrev pub number_of : Answer → ℕ
number_of (Tree tree end) = end
number_of (Stuck at) = at
number_of (Deep at) = at

-- the tokens before number k are read, and there reading stops
pub record IsAnswered (ts : List Lexeme) (levels from k : ℕ) (a : Answer) : Type 0 where
  pub reading : Reading
  pub from_on : from ≤ k
  pub within : k ≤ length ts
  pub reaches : Reaches ts levels from k reading
  pub halts : halts levels (drop k ts) reading.stack reading.state k ≡ Some a

ended_at : (o : Action) (at : ℕ) (a : Answer) → Some (ended_by o at) ≡ Some a → at ≡ number_of a
ended_at o at a e = by o (let same : ended_by o at ≡ a = cc in same)
  where
    by : (o : Action) → ended_by o at ≡ a → at ≡ number_of a
    by (actions.Read next) e = ap number_of e
    by (actions.Whole tree) e = ap number_of e
    by actions.Refused e = ap number_of e

halted_at : (levels at : ℕ) (m : Move) (a : Answer) → halts_by levels at m ≡ Some a → at ≡ number_of a
halted_at levels at m a = by m.action
  where
    by : (o : Action) → halts_by levels at (record { stack = m.stack; action = o }) ≡ Some a → at ≡ number_of a
    by (actions.Read next) e = deep (nat_lt levels (open_levels m.stack + state_levels next)) e
      where
        deep : (b : Bool) → (if b then Some (Deep at) else None) ≡ Some a → at ≡ number_of a
        deep true e = let same : Deep at ≡ a = cc in ap number_of same
        deep false e = cc
    by (actions.Whole tree) e = let same : Tree tree at ≡ a = cc in ap number_of same
    by actions.Refused e = let same : Stuck at ≡ a = cc in ap number_of same

halts_at : (levels : ℕ) (ls : List Lexeme) (stack : List Frame) (state : State) (at : ℕ) (a : Answer) → halts levels ls stack state at ≡ Some a → at ≡ number_of a
halts_at levels [] stack state at a e = ended_at (move stack state symbols.Other nowhere).action at a e
halts_at levels (l ∷ ls) stack state at a e = halted_at levels at (move stack state (symbol_of l) l.token.span) a e

pub answered : (ts : List Lexeme) (levels from : ℕ) (a : Answer) → from ≤ length ts → answer ts levels from ≡ a → IsAnswered ts levels from (number_of a) a
unfolding answer
answered ts levels from a within e =
    let s : Stops levels (drop from ts) [] states.Operand from a = stops levels (drop from ts) [] states.Operand from a e in
    let rest : drop s.count (drop from ts) ≡ drop (from + s.count) ts = drop-drop s.count from ts in
    let stopped : halts levels (drop (from + s.count) ts) s.reading.stack s.reading.state (from + s.count) ≡ Some a =
    ap (λ (ls : List Lexeme). halts levels ls s.reading.stack s.reading.state (from + s.count)) (sym rest) ∙ s.halts in
    let here : from + s.count ≡ number_of a = halts_at levels (drop (from + s.count) ts) s.reading.stack s.reading.state (from + s.count) a stopped in
    let first : IsAnswered ts levels from (from + s.count) a = record {
      reading = s.reading;
      from_on = omega arith;
      within = omega (arith, s.within, length-drop from ts);
      reaches = ap (λ (ls : List Lexeme). reads levels ls [] states.Operand) (drop-take from s.count ts) ∙ s.read;
      halts = stopped;
    } in
    subst (λ (k : ℕ). IsAnswered ts levels from k a) here first

-- ---- one token

pub record TokenAt (ts : List Lexeme) (k : ℕ) (l : Lexeme) : Type 0 where
  pub within : k < length ts
  pub got : slice_get ts k ≡ Some l
  pub rest : drop k ts ≡ l ∷ drop (k + 1) ts
  pub before : take (k + 1) ts ≡ take k ts ++ l ∷ []

pub token_at : (ts : List Lexeme) (k : ℕ) → k < length ts → (l : Lexeme) × TokenAt ts k l
token_at ts k within = by (drop k ts) refl
  where
    by : (ls : List Lexeme) → drop k ts ≡ ls → (l : Lexeme) × TokenAt ts k l
    by [] e = let none : length (drop k ts) ≡ 0 = ap length e in absurd (omega (arith, none, length-drop k ts, within))
    by (l ∷ ls) e =
        let more : drop k ts ≡ get_or ts k l ∷ drop (k + 1) ts = drop_more ts k l within in
        let one : get_or ts k l ≡ l = cc in (
          l,
          record {
            within = within;
            got = slice_get-get_or ts k l within ∙ ap Some one;
            rest = more ∙ ap (λ (x : Lexeme). x ∷ drop (k + 1) ts) one;
            before = take_more ts k l within ∙ ap (λ (x : Lexeme). take k ts ++ x ∷ []) one;
          },
        )

abbrev pub move_at : Reading → Lexeme → Move
move_at r l = move r.stack r.state (symbol_of l) l.token.span

-- the answer for the tokens through the one at which reading stops
answer_past : (ts : List Lexeme) (levels from k : ℕ) (r : Reading) (l : Lexeme) → from ≤ k → TokenAt ts k l → Reaches ts levels from k r → (wider : ℕ) → levels ≤ wider → (more : List Lexeme)
    → answer (take (k + 1) ts ++ more) wider from ≡ by_move wider more k (move_at r l)
answer_past ts levels from k r l order t reached wider w more =
    let apart : take (k + 1) ts ++ more ≡ take k ts ++ (l ∷ more) = ap (λ (ls : List Lexeme). ls ++ more) t.before ∙ append_assoc (take k ts) (l ∷ []) more in
    ap (λ (ls : List Lexeme). answer ls wider from) apart ∙ answer_run ts levels from k r order (omega (arith, t.within)) reached wider w (l ∷ more)
    ∙ run-step wider k r.stack r.state l more

halted_move : (levels wider k : ℕ) (m : Move) (a : Answer) (more : List Lexeme) → is_deep a ≡ false → halts_by levels k m ≡ Some a → by_move wider more k m ≡ a
halted_move levels wider k m a more shallow = by m.action refl
  where
    deep : (b : Bool) (x : Answer) → (if b then Some (Deep k) else None) ≡ Some a → x ≡ a
    deep true x e =
        let same : Deep k ≡ a = cc in
        let no : true ≡ false = ap is_deep same ∙ shallow in
        cc
    deep false x e = cc

    by : (o : Action) → m.action ≡ o → halts_by levels k (record { stack = m.stack; action = o }) ≡ Some a → by_move wider more k (record { stack = m.stack; action = o }) ≡ a
    by (actions.Read next) is e = deep (nat_lt levels (open_levels m.stack + state_levels next)) _ e
    by (actions.Whole tree) is e = cc
    by actions.Refused is e = cc

deep_move : (levels k : ℕ) (m : Move) (a : Answer) (more : List Lexeme) → halts_by levels k m ≡ Some a → by_move levels more k m ≡ a
deep_move levels k m a more = by m.action
  where
    deep : (b : Bool) (x : Answer) → (if b then Some (Deep k) else None) ≡ Some a → (if b then Deep k else x) ≡ a
    deep true x e = cc
    deep false x e = cc

    by : (o : Action) → halts_by levels k (record { stack = m.stack; action = o }) ≡ Some a → by_move levels more k (record { stack = m.stack; action = o }) ≡ a
    by (actions.Read next) e = deep (nat_lt levels (open_levels m.stack + state_levels next)) _ e
    by (actions.Whole tree) e = cc
    by actions.Refused e = cc

-- ---- what does not begin an expression, as the tokens of one are read as it

abbrev pub IsComplete : Type 0
IsComplete = (ts : List Lexeme) (levels : ℕ) (e : Expr) (from : ℕ) → spelled ts levels e from ≡ Some (length ts) → answer ts levels from ≡ Tree e (length ts)

pub answer_wider : (levels wider : ℕ) → levels ≤ wider → (ts : List Lexeme) (from : ℕ) (a : Answer) → is_deep a ≡ false → answer ts levels from ≡ a → answer ts wider from ≡ a
unfolding answer
answer_wider levels wider w ts from a shallow e = run_wider levels wider w (drop from ts) [] states.Operand from a shallow e

-- the tokens through one that is refused, or before which the expression ends
not_begins : IsComplete → (ts : List Lexeme) (levels from k : ℕ) (a : Answer) (l : Lexeme) → is_deep a ≡ false → number_of a ≡ k → (i : IsAnswered ts levels from k a) → TokenAt ts k l → ¬ Begins ts from (k + 1)
not_begins complete ts levels from k a l shallow here i t b =
    let whole : List Lexeme = take (k + 1) ts ++ b.1.more in
    let wider : ℕ = b.0 + levels in
    let first : answer whole b.0 from ≡ Tree b.1.tree (length whole) = complete whole b.0 b.1.tree from b.1.spelled in
    let all : answer whole wider from ≡ Tree b.1.tree (length whole) = answer_wider b.0 wider (omega arith) whole from (Tree b.1.tree (length whole)) refl first in
    let stop : halts_by levels k (move_at i.reading l) ≡ Some a = ap (λ (ls : List Lexeme). halts levels ls i.reading.stack i.reading.state k) (sym t.rest) ∙ i.halts in
    let past : answer whole wider from ≡ a = answer_past ts levels from k i.reading l i.from_on t i.reaches wider (omega arith) b.1.more ∙ halted_move levels wider k (move_at i.reading l) a b.1.more shallow stop in
    let same : length whole ≡ k = sym (ap number_of (sym past ∙ all)) ∙ here in
    let there : k + 1 ≤ length ts = omega (arith, t.within) in
    absurd (omega (arith, same, length-append (take (k + 1) ts) b.1.more, length-take-le (k + 1) ts there))

-- where reading stops the longest list of tokens ends that begins an expression
pub longest : IsComplete → (ts : List Lexeme) (levels from k : ℕ) (a : Answer) → is_deep a ≡ false → number_of a ≡ k → IsAnswered ts levels from k a → IsLongest ts from k
longest complete ts levels from k a shallow here i = record {
  begins = (levels + opening_levels i.reading.state, reached_begins ts levels from k i.reading i.from_on i.within i.reaches (levels + opening_levels i.reading.state) (omega arith));
  from_on = i.from_on;
  within = i.within;
  longest = by (nat_lt k (length ts)) refl;
}
  where
    by : (b : Bool) → nat_lt k (length ts) ≡ b → (k ≡ length ts) ⊎ (¬ Begins ts from (k + 1))
    by true e =
        let less : k < length ts = grind (arith, nat_tests) in
        let t : (l : Lexeme) × TokenAt ts k l = token_at ts k less in
        inr (not_begins complete ts levels from k a t.0 shallow here i t.1)
    by false e =
        let not_less : length ts ≤ k = grind (arith, nat_tests) in
        inl (omega (arith, not_less, i.within))

-- ---- tokens that open levels

pub take_less : (ts : List Lexeme) (j k : ℕ) → j ≤ k → k ≤ length ts → take j (take k ts) ≡ take j ts
take_less ts j k order within =
    let there : j ≤ length (take k ts) = omega (arith, order, length-take-le k ts within) in
    sym (take-append-le j (take k ts) (drop k ts) there) ∙ ap (take j) (take-append-drop k ts)

parted : (ts : List Lexeme) (from j k : ℕ) → from ≤ j → j ≤ k → k ≤ length ts → drop from (take k ts) ≡ drop from (take j ts) ++ drop j (take k ts)
parted ts from j k first order within =
    let halves : take j ts ++ drop j (take k ts) ≡ take k ts = ap (λ (ls : List Lexeme). ls ++ drop j (take k ts)) (sym (take_less ts j k order within)) ∙ take-append-drop j (take k ts) in
    let j_within : j ≤ length ts = omega arith in
    let there : from ≤ length (take j ts) = omega (arith, first, length-take-le j ts j_within) in
    ap (drop from) (sym halves) ∙ drop-append-le from (take j ts) (drop j (take k ts)) there

-- what is reached before
reached_before : (ts : List Lexeme) (levels from j k : ℕ) (r : Reading) → from ≤ j → j ≤ k → k ≤ length ts → Reaches ts levels from k r
    → Between levels (drop from (take j ts)) (drop j (take k ts)) [] states.Operand r
reached_before ts levels from j k r first order within reached =
    reads_apart levels (drop from (take j ts)) (drop j (take k ts)) [] states.Operand r (ap (λ (ls : List Lexeme). reads levels ls [] states.Operand) (sym (parted ts from j k first order within)) ∙ reached)

one_token : (ts : List Lexeme) (j : ℕ) (l : Lexeme) → TokenAt ts j l → drop j (take (j + 1) ts) ≡ l ∷ []
one_token ts j l t = drop-take j 1 ts ∙ ap (take 1) t.rest

-- behind a token that opens a level no other has to be opened
opened_state : (levels : ℕ) (stack : List Frame) (state : State) (l : Lexeme) (r : Reading) → opens l ≡ true → reads levels (l ∷ []) stack state ≡ Some r → opening_levels r.state ≡ 0
unfolding reads
opened_state levels stack state l r o e =
    let m : Move = move stack state (symbol_of l) l.token.span in
    let f : FirstRead levels [] m r = first_read levels [] m r (sym (reads-step levels l [] stack state) ∙ e) in
    let none : opening m ≡ 0 = move_opening stack state (symbol_of l) l.token.span (opens_opener l o) in
    by m f.next r f.is none f.rest
  where
    by : (m : Move) (next : State) (r : Reading) → m.action ≡ actions.Read next → opening m ≡ 0 → reads levels [] m.stack next ≡ Some r → opening_levels r.state ≡ 0
    by m next r is none rest =
        let there : record { stack = m.stack; state = next } ≡ r = cc in
        let zero_there : opening_levels next ≡ 0 = rw is at none in
        subst (λ (x : Reading). opening_levels x.state ≡ 0) there zero_there

pub shallow_before : (ts : List Lexeme) (levels from k : ℕ) (r : Reading) → k ≤ length ts → Reaches ts levels from k r → IsShallow ts from levels k
shallow_before ts levels from k r within reached j first less o =
    let j_less : j < length ts = omega arith in
    let j_more : j + 1 ≤ k = omega arith in
    let t : (l : Lexeme) × TokenAt ts j l = token_at ts j j_less in
    let passes : opens t.0 ≡ true = sym (stands_some opens ts j t.0 t.1.got) ∙ o in
    let b : Between levels (drop from (take (j + 1) ts)) (drop (j + 1) (take k ts)) [] states.Operand r = reached_before ts levels from (j + 1) k r (omega arith) j_more within reached in
    let c : Between levels (drop from (take j ts)) (drop j (take (j + 1) ts)) [] states.Operand b.middle = reached_before ts levels from j (j + 1) b.middle first (omega arith) (omega (arith, j_more, within)) b.before in
    let one : reads levels (t.0 ∷ []) c.middle.stack c.middle.state ≡ Some b.middle = ap (λ (ls : List Lexeme). reads levels ls c.middle.stack c.middle.state) (sym (one_token ts j t.0 t.1)) ∙ c.behind in
    let none : opening_levels b.middle.state ≡ 0 = opened_state levels c.middle.stack c.middle.state t.0 b.middle passes one in
    reached_begins ts levels from (j + 1) b.middle (omega arith) (omega (arith, j_more, within)) b.before levels (omega (arith, none))

-- ---- the token that opens a level past the last

record TooDeep (levels : ℕ) (m : Move) : Type 0 where
  next : State
  is : m.action ≡ actions.Read next
  deep : levels < open_levels m.stack + state_levels next

too_deep : (levels k j : ℕ) (m : Move) → halts_by levels k m ≡ Some (Deep j) → TooDeep levels m
too_deep levels k j m = by m.action refl
  where
    deep : (next : State) → m.action ≡ actions.Read next → (b : Bool) → nat_lt levels (open_levels m.stack + state_levels next) ≡ b → (if b then Some (Deep k) else None) ≡ Some (Deep j) → TooDeep levels m
    deep next is true small e = record { next = next; is = is; deep = grind (arith, nat_tests) }
    deep next is false small e = cc

    by : (o : Action) → m.action ≡ o → halts_by levels k (record { stack = m.stack; action = o }) ≡ Some (Deep j) → TooDeep levels m
    by (actions.Read next) is e = deep next is (nat_lt levels (open_levels m.stack + state_levels next)) refl e
    by (actions.Whole tree) is e = cc
    by actions.Refused is e = cc

-- it is one that opens a level
deep_opens : (levels : ℕ) (r : Reading) (l : Lexeme) → open_levels r.stack + state_levels r.state ≤ levels → TooDeep levels (move_at r l) → opens l ≡ true
deep_opens levels r l fits d = by (is_opener (symbol_of l)) refl
  where
    bounded : (m : Move) (next : State) → m.action ≡ actions.Read next → taken m ≤ levels → open_levels m.stack + state_levels next ≤ levels
    bounded m next is h = rw is at h

    by : (b : Bool) → is_opener (symbol_of l) ≡ b → opens l ≡ true
    by true o = opener_opens l o
    by false o =
        let h : taken (move_at r l) ≤ levels = move_within levels r.stack r.state (symbol_of l) l.token.span o fits in
        absurd (omega (arith, d.deep, bounded (move_at r l) d.next d.is h))

-- with more levels it is read
reads_one : (levels : ℕ) (stack : List Frame) (state : State) (l : Lexeme) (next : State) → (move stack state (symbol_of l) l.token.span).action ≡ actions.Read next
    → open_levels (move stack state (symbol_of l) l.token.span).stack + state_levels next ≤ levels → reads levels (l ∷ []) stack state ≡ Some (record { stack = (move stack state (symbol_of l) l.token.span).stack; state = next })
unfolding reads
reads_one levels stack state l next is fits = reads-step levels l [] stack state ∙ by (move stack state (symbol_of l) l.token.span) next is fits
  where
    by : (m : Move) (next : State) → m.action ≡ actions.Read next → open_levels m.stack + state_levels next ≤ levels → reads_by levels [] m ≡ Some (record { stack = m.stack; state = next })
    by m next is fits =
        let small : nat_lt levels (open_levels m.stack + state_levels next) ≡ false = grind (arith, nat_tests) in
        rw (is, small) refl

deep_begins : (ts : List Lexeme) (levels from k : ℕ) (r : Reading) (l : Lexeme) → from ≤ k → TokenAt ts k l → Reaches ts levels from k r → TooDeep levels (move_at r l) → Begins ts from (k + 1)
deep_begins ts levels from k r l order t reached d =
    let m : Move = move_at r l in
    let wider : ℕ = levels + (open_levels m.stack + state_levels d.next) in
    let next : Reading = record { stack = m.stack; state = d.next } in
    let k_within : k ≤ length ts = omega (arith, t.within) in
    let there : from ≤ length (take k ts) = omega (arith, order, length-take-le k ts k_within) in
    let apart : drop from (take (k + 1) ts) ≡ drop from (take k ts) ++ (l ∷ []) = ap (drop from) t.before ∙ drop-append-le from (take k ts) (l ∷ []) there in
    let wide : reads wider (drop from (take k ts)) [] states.Operand ≡ Some r = reads_wider levels wider (omega arith) (drop from (take k ts)) [] states.Operand r reached in
    let one : reads wider (l ∷ []) r.stack r.state ≡ Some next = reads_one wider r.stack r.state l d.next d.is (omega arith) in
    let all : Reaches ts wider from (k + 1) next = ap (λ (ls : List Lexeme). reads wider ls [] states.Operand) apart ∙ reads_joined wider (drop from (take k ts)) (l ∷ []) [] states.Operand r next wide one in
    (wider + opening_levels d.next, reached_begins ts wider from (k + 1) next (omega (arith, order)) (omega (arith, t.within)) all (wider + opening_levels d.next) (omega arith))

-- ---- answers

pub tree_exact : IsComplete → (ts : List Lexeme) (levels from : ℕ) (tree : Expr) (end : ℕ) → from ≤ length ts → answer ts levels from ≡ Tree tree end → IsTree ts from levels tree end
tree_exact complete ts levels from tree end within e = record {
  longest = longest complete ts levels from end (Tree tree end) refl refl (answered ts levels from (Tree tree end) within e);
  spelled = (answer_sound ts levels from tree end within e).spelled;
}

pub deep_exact : IsComplete → (ts : List Lexeme) (levels from k : ℕ) → from ≤ length ts → answer ts levels from ≡ Deep k → IsDeep ts from levels k
deep_exact complete ts levels from k within e =
    let i : IsAnswered ts levels from k (Deep k) = answered ts levels from (Deep k) within e in
    by i (nat_lt k (length ts)) refl
  where
    no_end : (ls : List Lexeme) (r : Reading) → ls ≡ [] → halts levels ls r.stack r.state k ≡ Some (Deep k) → ⊥
    no_end [] r none h = ended (move r.stack r.state symbols.Other nowhere).action h
      where
        ended : (o : Action) → Some (ended_by o k) ≡ Some (Deep k) → ⊥
        ended (actions.Read next) h = cc
        ended (actions.Whole tree) h = cc
        ended actions.Refused h = cc
    no_end (l ∷ ls) r none h = cc

    by : (i : IsAnswered ts levels from k (Deep k)) (b : Bool) → nat_lt k (length ts) ≡ b → IsDeep ts from levels k
    by i true less =
        let k_less : k < length ts = grind (arith, nat_tests) in
        let t : (l : Lexeme) × TokenAt ts k l = token_at ts k k_less in
        let r : Reading = i.reading in
        let stop : halts_by levels k (move_at r t.0) ≡ Some (Deep k) = ap (λ (ls : List Lexeme). halts levels ls r.stack r.state k) (sym t.1.rest) ∙ i.halts in
        let d : TooDeep levels (move_at r t.0) = too_deep levels k k (move_at r t.0) stop in
        let fits : open_levels r.stack + state_levels r.state ≤ levels = reads_fit levels (drop from (take k ts)) [] states.Operand r i.reaches (omega arith) in
        record {
          from_on = i.from_on;
          opens = stands_some opens ts k t.0 t.1.got ∙ deep_opens levels r t.0 fits d;
          begins = deep_begins ts levels from k r t.0 i.from_on t.1 i.reaches d;
          deep = (λ b. never (sym (answer_past ts levels from k r t.0 i.from_on t.1 i.reaches levels (omega arith) b.more ∙ deep_move levels k (move_at r t.0) (Deep k) b.more stop)
              ∙ complete (take (k + 1) ts ++ b.more) levels b.tree from b.spelled));
          first = shallow_before ts levels from k r i.within i.reaches;
        }
      where
        never : {tree : Expr} {at : ℕ} → Deep k ≡ Tree tree at → ⊥
        never h = cc
    by i false more =
        let not_less : length ts ≤ k = grind (arith, nat_tests) in
        absurd (no_end (drop k ts) i.reading (drop_all k ts not_less) i.halts)

-- ---- where no symbol is refused

-- the answer of tokens from a number on stands there or behind it
pub run_from : (levels : ℕ) (ls : List Lexeme) (stack : List Frame) (state : State) (at : ℕ) (a : Answer) → run levels ls stack state at ≡ a → at ≤ number_of a
run_from levels ls stack state at a e =
    let s : Stops levels ls stack state at a = stops levels ls stack state at a e in
    let here : at + s.count ≡ number_of a = halts_at levels (drop s.count ls) s.reading.stack s.reading.state (at + s.count) a s.halts in
    omega (arith, here)

-- behind a whole expression nothing is stuck
pub whole_moves : (levels : ℕ) (ls : List Lexeme) (stack : List Frame) (state : State) (at : ℕ) (tree : Expr) → (move stack state symbols.Other nowhere).action ≡ actions.Whole tree → run levels ls stack state at ≡ Stuck at → ⊥
unfolding run
whole_moves levels [] stack state at tree w e = by (move stack state symbols.Other nowhere).action w e
  where
    by : (o : Action) → o ≡ actions.Whole tree → ended_by o at ≡ Stuck at → ⊥
    by (actions.Read next) w e = cc
    by (actions.Whole one) w e = cc
    by actions.Refused w e = cc
whole_moves levels (l ∷ ls) stack state at tree w e =
    let is : is_whole (move stack state symbols.Other nowhere) ≡ true = known (move stack state symbols.Other nowhere) w in
    by (move stack state (symbol_of l) l.token.span) (move_whole stack state (symbol_of l) l.token.span nowhere is) (sym (run-step levels at stack state l ls) ∙ e)
  where
    known : (m : Move) → m.action ≡ actions.Whole tree → is_whole m ≡ true
    known m h = rw h refl

    by : (m : Move) → is_refused m ≡ false → by_move levels ls at m ≡ Stuck at → ⊥
    by m = of m.action
      where
        read : (next : State) (b : Bool) → (if b then Deep at else run levels ls m.stack next (at + 1)) ≡ Stuck at → ⊥
        read next true e = cc
        read next false e = let more : at + 1 ≤ at = run_from levels ls m.stack next (at + 1) (Stuck at) e in absurd (omega (arith, more))

        of : (o : Action) → is_refused (record { stack = m.stack; action = o }) ≡ false → by_move levels ls at (record { stack = m.stack; action = o }) ≡ Stuck at → ⊥
        of (actions.Read next) h e = read next (nat_lt levels (open_levels m.stack + state_levels next)) e
        of (actions.Whole one) h e = cc
        of actions.Refused h e = cc
