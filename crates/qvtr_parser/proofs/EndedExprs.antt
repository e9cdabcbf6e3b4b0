-- What expressions, paths and types leave open can be ended.
use Rattle.std.proofs.Common.{◌≡◌, ℕ, zero, suc, ◌+◌, ◌-◌, ◌<◌, ◌≤◌, inl, inr, Bool, true, false, nat_lt, nat_le, List, [], ◌∷◌, ◌++◌, length, take, slice_get, Option, Some, None, Ok, Err, ap, sym, ◌∙◌, refl, subst, arith, true≢false, length-append}
use Rattle.std.specs.Prelude.{codes, if◌then◌else◌}
use Rattle.std.proofs.lemmas.Bool.Decides.{nat_tests}
use Rattle.std.proofs.lemmas.List.{append-nil, append_assoc, length-take-le, take-append-le, take_all}
use Rattle.mof_metamodel.specs.declared.span.Span.{Span}
use Rattle.qv_syntax.specs.declared.name.Name.{Name}
use Rattle.qv_syntax.specs.declared.expr.Expr.{Expr}
use Rattle.qv_syntax.specs.declared.expr.Expr.TheVariants as exprs
use Rattle.qv_syntax.specs.declared.type_tree.Kind.{Kind}
use Rattle.qv_syntax.specs.declared.type_tree.TypeTree.{TypeTree}
use Rattle.qv_syntax.specs.declared.type_tree.TypeTree.TheVariants.{Named, Coll, Str}
use Rattle.ql_lex.specs.Lexed.{Lexeme}
use Rattle.ql_lex.specs.Lexemes.{is_sign, is_word, span_at, stands}
use Rattle.ql_lex.specs.Symbols.{symbol_of, terminal_of}
use Rattle.ql_lex.specs.declared.symbol.Symbol.{Symbol}
use Rattle.ql_lex.specs.declared.symbol.Symbol.TheVariants as symbols
use Rattle.ql_lex.proofs.TokenLaws.{stands_some}
use Rattle.ocl_parser.specs.Beginnings.{BeginsWithin, IsStuck, opens}
use Rattle.ocl_parser.specs.Completion.{mark, null, reserved, some_name}
use Rattle.ocl_parser.specs.Followers.{may_go_on}
use Rattle.ocl_parser.specs.Grammar.{spelled}
use Rattle.ocl_parser.specs.Moves.{extended, path_of, plain_type}
use Rattle.ocl_parser.specs.Runs.{Answer, Tree, Stuck, Deep, answer}
use Rattle.ocl_parser.specs.Readings.{and_then, expr_read, name_read, opening_read, path_read, read_by, sign_read, type_by, type_read}
use Rattle.ocl_parser.specs.declared.halt.Stop.TheVariants as stops
use Rattle.ocl_parser.proofs.Complete.{complete_within}
use Rattle.ocl_parser.proofs.CompletionAnswers.{deep_is, stuck_is}
use Rattle.ocl_parser.proofs.CompletionExact.{answer_wider, number_of as token_of}
use Rattle.ocl_parser.proofs.CompletionLevels.{is_opener, opens_opener}
use Rattle.ocl_parser.proofs.ExprLaws.{null_spelled}
use Rattle.ocl_parser.proofs.FollowLaws.{answer_alike, tree_alike}
use Rattle.ocl_parser.proofs.Local.{spelled_cut, spelled_end}
use Rattle.ocl_parser.proofs.ReadingComplete.{type_reads}
use Rattle.ocl_parser.proofs.ReadingLaws.{type_unrolled}
use Rattle.ocl_parser.proofs.TypeLaws.{type_str}
use Rattle.qvtr_parser.proofs.CompleteLists.{stands_before}
use Rattle.qvtr_parser.proofs.PastLaws.{expr_past}
use Rattle.qvtr_parser.proofs.Told.{Reading, Same, by_next, number_of, same_get, same_less, same_span, told_by}
use Rattle.qvtr_parser.proofs.ToldLists.{ends_at, expr_told}
use Rattle.qvtr_parser.proofs.ToldTypes.{parenthesis_opens, type_told}
use Rattle.qvtr_parser.proofs.Ended.{Anything, Ended, Ending, Has, NoNext, Part, Whole, done_part, ended_by, meets_end, meets_first, meets_free, sequence_part, token_part, tuned}
use Rattle.qvtr_parser.proofs.EndedParts.{behind_ended, braced_part, lowered_part, name_part, next_ended, optional_part, stuck_ended}

-- ---- tokens that stand one behind the other

take_next : (us : List Lexeme) (k : ℕ) (l : Lexeme) → slice_get us k ≡ Some l → take (k + 1) us ≡ take k us ++ l ∷ []
take_next [] k l e = cc
take_next (x ∷ us) zero l e = let same : x ≡ l = cc in ap (λ (y : Lexeme). y ∷ []) same
take_next (x ∷ us) (suc k) l e =
    let next : suc k + 1 ≡ suc (k + 1) = omega arith in
    ap (λ (j : ℕ). take j (x ∷ us)) next ∙ ap (λ (ls : List Lexeme). x ∷ ls) (take_next us k l e)

-- the tokens before number k, and these behind them, are those of a text in which they stand there
pub stand_there : (us more : List Lexeme) (k : ℕ) → Has us k more → take (k + length more) us ≡ take k us ++ more
stand_there us [] k has =
    let same : k + 0 ≡ k = omega arith in
    ap (λ (j : ℕ). take j us) same ∙ sym (append-nil (take k us))
stand_there us (l ∷ more) k has =
    let same : k + length (l ∷ more) ≡ k + 1 + length more = omega arith in
    ap (λ (j : ℕ). take j us) same ∙ stand_there us more (k + 1) has.1 ∙ ap (λ (ls : List Lexeme). ls ++ more) (take_next us k l has.0) ∙ append_assoc (take k us) (l ∷ []) more

-- the tokens up to and with a token are those of a text that goes on behind them
pub begun_same : (ts more : List Lexeme) (k : ℕ) → k < length ts → Same ts (take (k + 1) ts ++ more) (k + 1)
begun_same ts more k less =
    let long : length (take (k + 1) ts) ≡ k + 1 = length-take-le (k + 1) ts (omega (arith, less)) in
    take-append-le (k + 1) (take (k + 1) ts) more (omega (arith, long)) ∙ take_all (k + 1) (take (k + 1) ts) (omega (arith, long))

-- ---- expressions

-- what is spelled is read where no token follows that may go on with it
spelled_read : (us : List Lexeme) (n i k : ℕ) (tree : Expr) → spelled us n tree i ≡ Some k → stands may_go_on us k ≡ false → answer us n i ≡ Tree tree k
spelled_read us n i k tree s follow =
    let ends = spelled_end us n tree i k s in
    let long : length (take k us) ≡ k = length-take-le k us ends.1 in
    let cut : spelled (take k us) n tree i ≡ Some (length (take k us)) = spelled_cut us n tree i k k s (omega arith) ∙ ap (λ (j : ℕ). Some j) (sym long) in
    let alone : answer (take k us) n i ≡ Tree tree k = complete_within (take k us) n n tree i (omega arith) cut ∙ ap (Tree tree) long in
    tree_alike (take k us) us n i k tree (omega (arith, long, ends.0)) alone (sym (take_all k (take k us) (omega (arith, long)))) follow

-- no token with which an expression may go on
abbrev pub expr_free : List Lexeme → ℕ → Type 0
expr_free = NoNext may_go_on

expr_whole : (i : ℕ) → Whole ends_at expr_free 0 (null ∷ []) i (λ ts n. expr_read ts n i)
unfolding expr_read
expr_whole i = record {
  reads = λ us n few has follow. (
      let word : stands (is_word (codes "null")) us i ≡ true = stands_some (is_word (codes "null")) us i null has.0 in
      let tree : Expr = exprs.Null (span_at us i (i + 1)) in
      ((tree, i + 1), ap read_by (spelled_read us n i (i + 1) tree (null_spelled us (span_at us i (i + 1)) n i word refl) follow), refl));
}

-- what begins an expression is ended by what makes it one
expr_ending : (ts : List Lexeme) (n i k levels reserve : ℕ) → i ≤ k → k ≤ length ts → BeginsWithin ts i levels k → (stands opens ts (k - 1) ≡ true → reserve ≤ n → levels ≤ n) → Ending ends_at expr_free reserve ts n (λ ts n. expr_read ts n i) k
unfolding expr_read
expr_ending ts n i k levels reserve first within b shallow = record {
  more = b.more;
  enough = levels;
  shallow = shallow;
  ends = λ us v en same has follow. (
      let whole : List Lexeme = take k ts ++ b.more in
      let long : length whole ≡ k + length b.more = omega (arith, length-append (take k ts) b.more, length-take-le k ts within) in
      let alone : answer whole v i ≡ Tree b.tree (length whole) = complete_within whole v levels b.tree i en b.spelled in
      let there : take (length whole) us ≡ whole = ap (λ (j : ℕ). take j us) long ∙ stand_there us b.more k has ∙ ap (λ (ls : List Lexeme). ls ++ b.more) same in
      let again : take (length whole) us ≡ take (length whole) whole = there ∙ sym (take_all (length whole) whole (omega arith)) in
      let free : stands may_go_on us (length whole) ≡ false = ap (stands may_go_on us) long ∙ follow in
      ((b.tree, length whole), ap read_by (tree_alike whole us v i (length whole) b.tree (omega (arith, long, first)) alone again free), long));
}

abbrev expr_number : Answer → ℕ
expr_number a = number_of ends_at (read_by a)

expr_ended : (ts : List Lexeme) (n i : ℕ) → Ended ends_at expr_free 0 ts n i (λ ts n. expr_read ts n i)
unfolding expr_read
expr_ended ts n i = record {
  cut = λ us w y e same follow wide. cut_by us w (answer ts n i) refl (nat_le i (length ts)) refl y e same follow wide;
  ends = λ k less e. ends_by k less (answer ts n i) refl (nat_le i (length ts)) refl e;
  deeper = λ k e. deeper_by k (answer ts n i) refl (nat_le i (length ts)) refl e;
}
  where
    start_of_it : nat_le i (length ts) ≡ true → i ≤ length ts
    start_of_it c = grind (arith, nat_tests)

    past : (a : Answer) → answer ts n i ≡ a → nat_le i (length ts) ≡ false → a ≡ Stuck i
    past a e c = sym e ∙ expr_past ts n i (grind (arith, nat_tests))

    cut_by : (us : List Lexeme) (w : ℕ) (a : Answer) → answer ts n i ≡ a → (c : Bool) → nat_le i (length ts) ≡ c → (y : Expr × ℕ) → read_by a ≡ Ok y → Same ts us y.1 → stands may_go_on us y.1 ≡ false → n ≤ w → read_by (answer us w i) ≡ Ok y
    cut_by us w (Tree tree k) e true c y h same follow wide =
        let here : k ≡ y.1 = cc in
        let s : Same ts us k = subst (λ (j : ℕ). Same ts us j) (sym here) same in
        let f : stands may_go_on us k ≡ false = ap (stands may_go_on us) here ∙ follow in
        ap read_by (tree_alike ts us w i k tree (start_of_it c) (answer_wider n w wide ts i (Tree tree k) refl e) s f) ∙ h
    cut_by us w (Tree tree k) e false c y h same follow wide = let no : Stuck i ≡ Tree tree k = sym (past (Tree tree k) e c) in cc
    cut_by us w (Stuck k) e c d y h same follow wide = cc
    cut_by us w (Deep k) e c d y h same follow wide = cc

    ends_by : (k : ℕ) → i < k → (a : Answer) → answer ts n i ≡ a → (c : Bool) → nat_le i (length ts) ≡ c → read_by a ≡ Err (stops.Stuck k) → Ending ends_at expr_free 0 ts n (λ ts n. expr_read ts n i) k
    ends_by k less (Tree tree j) e c d h = cc
    ends_by k less (Deep j) e c d h = cc
    ends_by k less (Stuck j) e false c h =
        let here : j ≡ k = cc in
        let no : Stuck j ≡ Stuck i = past (Stuck j) e c in
        let same : j ≡ i = ap token_of no in
        absurd (omega (arith, less, here, same))
    ends_by k less (Stuck j) e true c h = by (stands opens ts (k - 1)) refl
      where
        here : j ≡ k
        here = cc

        s : IsStuck ts i n k
        s = (stuck_is ts n i k (start_of_it c)).0 (e ∙ ap Stuck here)

        by : (o : Bool) → stands opens ts (k - 1) ≡ o → Ending ends_at expr_free 0 ts n (λ ts n. expr_read ts n i) k
        by true o =
            let last : k - 1 + 1 ≡ k = omega (arith, less) in
            let b : BeginsWithin ts i n k = subst (λ (m : ℕ). BeginsWithin ts i n m) last (s.shallow (k - 1) (omega (arith, less)) (omega (arith, less)) o) in
            expr_ending ts n i k n 0 (omega (arith, less)) s.longest.within b (λ p q. omega arith)
        by false o = expr_ending ts n i k s.longest.begins.0 0 (omega (arith, less)) s.longest.within s.longest.begins.1 (λ p q. absurd (true≢false (sym p ∙ o)))

    deeper_by : (k : ℕ) (a : Answer) → answer ts n i ≡ a → (c : Bool) → nat_le i (length ts) ≡ c → read_by a ≡ Err (stops.Deep k) → (w : ℕ) × ((v : ℕ) → w ≤ v → k < expr_number (answer ts v i))
    deeper_by k (Tree tree j) e c d h = cc
    deeper_by k (Stuck j) e c d h = cc
    deeper_by k (Deep j) e false c h = let no : Stuck i ≡ Deep j = sym (past (Deep j) e c) in cc
    deeper_by k (Deep j) e true c h =
        let here : j ≡ k = cc in
        let d = (deep_is ts n i k (start_of_it c)).0 (e ∙ ap Deep here) in
        let within : k < length ts = stands_before opens ts k d.opens in
        (d.begins.0, λ v en. by d.begins.0 d.begins.1 within v en (nat_lt k (expr_number (answer ts v i))) refl)
      where
        told_number : (a : Answer) → expr_number a ≡ token_of a
        told_number (Tree tree k) = refl
        told_number (Stuck k) = refl
        told_number (Deep k) = refl

        by : (levels : ℕ) → BeginsWithin ts i levels (k + 1) → k < length ts → (v : ℕ) → levels ≤ v → (p : Bool) → nat_lt k (expr_number (answer ts v i)) ≡ p → k < expr_number (answer ts v i)
        by levels b within v en true p = grind (arith, nat_tests)
        by levels b within v en false p =
            let whole : List Lexeme = take (k + 1) ts ++ b.more in
            let long : length whole ≡ k + 1 + length b.more = omega (arith, length-append (take (k + 1) ts) b.more, length-take-le (k + 1) ts (omega (arith, within))) in
            let alone : answer whole v i ≡ Tree b.tree (length whole) = complete_within whole v levels b.tree i en b.spelled in
            let same : Same ts whole (k + 1) = begun_same ts b.more k within in
            let number : expr_number (answer ts v i) ≡ token_of (answer ts v i) = told_number (answer ts v i) in
            let not_less : expr_number (answer ts v i) ≤ k = grind (arith, nat_tests) in
            let before : Same ts whole (token_of (answer ts v i)) = same_less ts whole (token_of (answer ts v i)) (k + 1) (omega (arith, number, not_less)) same in
            let next : slice_get whole (token_of (answer ts v i)) ≡ slice_get ts (token_of (answer ts v i)) = same_get ts whole (k + 1) (token_of (answer ts v i)) (omega (arith, number, not_less)) same in
            let again : answer whole v i ≡ answer ts v i = answer_alike ts whole v i (answer ts v i) (start_of_it c) refl before next in
            let at_end : token_of (answer ts v i) ≡ length whole = ap token_of (sym again ∙ alone) in
            absurd (omega (arith, at_end, long, number, not_less))

pub expr_part : {If : Type 0} {ts : List Lexeme} {n : ℕ} (i : ℕ) → Part If ends_at expr_free 0 0 (null ∷ []) 1 ts n i (λ ts n. expr_read ts n i)
expr_part {If} {ts} {n} i = record { told = expr_told i; whole = expr_whole i; ended = λ if_. expr_ended ts n i }

-- ---- paths

-- no token with which a path goes on
abbrev pub path_free : List Lexeme → ℕ → Type 0
path_free = NoNext (is_sign (codes "::"))

pub path_part : {If : Type 0} {ts : List Lexeme} {n : ℕ} (i : ℕ) → Part If ends_at path_free 0 0 (some_name ∷ []) 1 ts n i (λ ts n. path_read ts i)
unfolding path_read
path_part {If} {ts} {n} i = sequence_part 0 0 (omega arith) (omega arith) (omega arith) (omega arith) (name_part i) (λ f far. second f) meets_free (inl (omega arith))
  where
    second : (f : Name × ℕ) → Part If ends_at path_free 0 0 [] 0 ts n f.1 (λ ts n. if stands (is_sign (codes "::")) ts f.1
        then and_then (name_read ts (f.1 + 1)) (λ s. Ok (extended (path_of f.0) s.0, s.1)) else Ok (path_of f.0, f.1))
    second f = optional_part 0 (is_sign (codes "::")) (mark (codes "::")) refl path_free (λ us j p. p) (λ us j p. tt) (omega arith) (inl (omega arith)) (path_of f.0) (λ x ts n. and_then (name_read ts x) (λ s. Ok (extended (path_of f.0) s.0, s.1)))
        (λ x far. sequence_part {FreeK = Anything} 0 0 (omega arith) (omega arith) (omega arith) (omega arith) (name_part x) (λ s more. done_part s.1 (λ ts. extended (path_of f.0) s.0) (λ ts us same. refl)) meets_free (inl (omega arith)))

-- ---- types

abbrev pub string_word : Lexeme
string_word = reserved (codes "String")

abbrev closing_sign : Lexeme
closing_sign = mark (codes ")")

abbrev type_next : ℕ → Lexeme → Reading (TypeTree × ℕ)
type_next i l us v = type_by us (type_read us (v - 1)) v i (terminal_of (Some l))

abbrev type_from : ℕ → Reading (TypeTree × ℕ)
type_from i us v = by_next (type_next i) i (slice_get us i) us v

type_same : (i : ℕ) (us : List Lexeme) (v : ℕ) → type_from i us v ≡ type_read us v i
type_same i us v = by (slice_get us i) ∙ type_unrolled us v i
  where
    by : (o : Option Lexeme) → by_next (type_next i) i o us v ≡ type_by us (type_read us (v - 1)) v i (terminal_of o)
    by None = refl
    by (Some l) = refl

type_whole : (i : ℕ) → Whole ends_at path_free 0 (string_word ∷ []) i (λ ts n. type_read ts n i)
type_whole i = record {
  reads = λ us n few has follow. (
      let word : stands (is_word (codes "String")) us i ≡ true = stands_some (is_word (codes "String")) us i string_word has.0 in
      let tree : TypeTree = Str (span_at us i (i + 1)) in
      ((tree, i + 1), (type_reads tree us n i (i + 1) (type_str us n i word) follow).read, refl));
}

elements_part : {If : Type 0} {ts : List Lexeme} {n : ℕ} (i : ℕ) (kind : Kind) → ((1 ≤ n) × If → (j : ℕ) → Ended ends_at path_free 0 ts (n - 1) j (λ ts n. type_read ts n j))
    → Part If ends_at Anything 1 0 (mark (codes "(") ∷ string_word ∷ closing_sign ∷ []) 1 ts n (i + 1) (λ us v. and_then (opening_read us (codes "(") v (i + 1))
    (λ first. and_then (type_read us (v - 1) first) (λ t. and_then (sign_read us (codes ")") t.1) (λ end. Ok (Coll kind t.0 (span_at us i end), end)))))
elements_part {If} {ts} {n} i kind inner =
    tuned Anything 1 0 1 (λ us j f. tt) (omega arith) (omega arith) (omega arith) (braced_part 1 0 (codes "(") parenthesis_opens (mark (codes "(")) refl (omega arith) (omega arith) (λ v some h. (omega (arith, some), omega (arith, some)))
    (λ x far. sequence_part {FreeK = Anything} 1 1 (omega arith) (omega arith) (omega arith) (omega arith)
    (lowered_part 1 1 (λ v h. omega arith) (λ v h. (h, omega arith)) (record { told = type_told x; whole = type_whole x; ended = λ if_. inner if_ x }))
    (λ t further. sequence_part {FreeK = Anything} 0 0 (omega arith) (omega arith) (omega arith) (omega arith) (token_part (is_sign (codes ")")) closing_sign refl t.1)
    (λ end last. done_part end (λ ts. Coll kind t.0 (span_at ts i end)) (λ ts us same. ap (λ (at : Span). Coll kind t.0 at) (same_span ts us i end (omega (arith, far, further, last)) same))) meets_free (inl (omega arith)))
    (meets_first (λ us j h. stands_some (is_sign (codes "::")) us j closing_sign h) (omega arith)) (inl (omega arith))))

type_by_symbol : {ts : List Lexeme} {n : ℕ} (i : ℕ) → ((1 ≤ n) × Unit {0} → (j : ℕ) → Ended ends_at path_free 0 ts (n - 1) j (λ ts n. type_read ts n j)) → (span : Span) (s : Symbol) → (is_opener s ≡ false → stands opens ts i ≡ false)
    → Ended ends_at path_free 0 ts n i (λ us v. type_by us (type_read us (v - 1)) v i (record { symbol = s; span = span }))
type_by_symbol {ts} {n} i inner span (symbols.Plain ty) calm = behind_ended {If = Unit {0}} i tt (inl (omega arith)) (done_part (i + 1) (λ ts. plain_type ty span) (λ ts us same. refl))
type_by_symbol {ts} {n} i inner span (symbols.Kind kind) calm = behind_ended {If = Unit {0}} i tt (inr (calm refl)) (tuned path_free 1 0 1 (λ us j f. tt) (omega arith) (omega arith) (omega arith) (elements_part i kind inner))
type_by_symbol {ts} {n} i inner span (symbols.Name x) calm =
    (sequence_part {If = Unit {0}} 0 0 (omega arith) (omega arith) (omega arith) (omega arith) (path_part i) (λ p far. done_part p.1 (λ ts. Named p.0) (λ ts us same. refl)) (meets_end (λ us j f. f)) (inl (omega arith))).ended tt
type_by_symbol {ts} {n} i inner span s calm = stuck_ended i

opener_at : (ts : List Lexeme) (i : ℕ) (l : Lexeme) → slice_get ts i ≡ Some l → is_opener (symbol_of l) ≡ false → stands opens ts i ≡ false
opener_at ts i l g apart = stands_some opens ts i l g ∙ by (opens l) refl
  where
    by : (b : Bool) → opens l ≡ b → b ≡ false
    by true o = absurd (true≢false (sym (opens_opener l o) ∙ apart))
    by false o = refl

type_with : (ts : List Lexeme) (n i : ℕ) → ((1 ≤ n) × Unit {0} → (j : ℕ) → Ended ends_at path_free 0 ts (n - 1) j (λ ts n. type_read ts n j)) → Ended ends_at path_free 0 ts n i (λ ts n. type_read ts n i)
type_with ts n i inner =
    ended_by (type_same i) (next_ended (type_next i) i (told_by (λ us v. sym (type_same i us v)) (type_told i)) (λ l g. type_by_symbol i inner l.token.span (symbol_of l) (opener_at ts i l g)))

type_ended : (ts : List Lexeme) (n i : ℕ) → Ended ends_at path_free 0 ts n i (λ ts n. type_read ts n i)
type_ended ts zero i = type_with ts zero i (λ h j. absurd (omega (arith, h.0)))
type_ended ts (suc n) i =
    let less : n ≡ suc n - 1 = omega arith in
    type_with ts (suc n) i (λ h j. subst (λ (m : ℕ). Ended ends_at path_free 0 ts m j (λ ts n. type_read ts n j)) less (type_ended ts n j))

pub type_part : {If : Type 0} {ts : List Lexeme} {n : ℕ} (i : ℕ) → Part If ends_at path_free 0 0 (string_word ∷ []) 1 ts n i (λ ts n. type_read ts n i)
type_part {If} {ts} {n} i = record { told = type_told i; whole = type_whole i; ended = λ if_. type_ended ts n i }
