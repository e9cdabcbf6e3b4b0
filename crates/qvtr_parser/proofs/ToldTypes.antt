-- What readings of types and templates answer is told by the tokens up to and with the one at which they end or stop.
use Rattle.std.proofs.Common.{◌≡◌, ℕ, zero, suc, ◌+◌, ◌-◌, ◌<◌, ◌≤◌, inl, inr, Bool, true, false, nat_le, List, [], ◌∷◌, ◌++◌, length, take, slice_get, Option, Some, None, Ok, Err, ap, sym, ◌∙◌, refl, subst, arith, true≢false}
use Rattle.std.specs.Prelude.{codes, if◌then◌else◌}
use Rattle.std.proofs.lemmas.Bool.Decides.{nat_tests}
use Rattle.std.proofs.lemmas.List.{length-take-le, take-append-le, take_all}
use Rattle.mof_metamodel.specs.declared.span.Span.{Span}
use Rattle.qv_syntax.specs.declared.expr.Expr.{Expr}
use Rattle.qv_syntax.specs.declared.expr.Expr.TheVariants as exprs
use Rattle.qv_syntax.specs.declared.name.Name.{Name}
use Rattle.qv_syntax.specs.declared.type_tree.TypeTree.TheVariants.{Named, Coll}
use Rattle.qv_syntax.specs.declared.script.TemplateTree.{TemplateTree, roll-TemplateTree}
use Rattle.qv_syntax.specs.declared.script.ItemValueTree.{ItemValueTree}
use Rattle.qv_syntax.specs.declared.script.ItemValueTree.TheVariants as values
use Rattle.ql_lex.specs.Lexed.{Lexeme}
use Rattle.ql_lex.specs.Lexemes.{is_name, is_sign, span_at, stands}
use Rattle.ql_lex.specs.Symbols.{symbol_of, terminal_of}
use Rattle.ql_lex.specs.declared.symbol.Symbol.{Symbol}
use Rattle.ql_lex.specs.declared.symbol.Symbol.TheVariants as symbols
use Rattle.ocl_parser.specs.Beginnings.{opens}
use Rattle.ocl_parser.specs.Completion.{mark}
use Rattle.ocl_parser.specs.Moves.{path_of, plain_type}
use Rattle.ocl_parser.specs.Runs.{Answer, Tree, Stuck, Deep, answer}
use Rattle.ocl_parser.specs.Readings.{Read, and_then, expr_read, read_by, type_by, type_read}
use Rattle.ocl_parser.proofs.CompletionExact.{number_of as token_of}
use Rattle.ocl_parser.proofs.FollowLaws.{answer_alike, name_ends}
use Rattle.ocl_parser.proofs.ReadingLaws.{type_unrolled}
use Rattle.ql_lex.proofs.TokenLaws.{stands_some}
use Rattle.qvtr_parser.specs.ScriptReadings.{begins_template, is_any_name, is_name_at, is_sign_at, item_by, items_by, items_read, nested_read, template_by, template_read, value_read}
use Rattle.qvtr_parser.proofs.CompleteLists.{stands_before}
use Rattle.qvtr_parser.proofs.ApartLaws.{apart_at, name_no_sign}
use Rattle.qvtr_parser.proofs.CompleteTemplates.{name_at_is}
use Rattle.ocl_parser.proofs.ReadingComplete.{name_stands_reads}
use Rattle.qvtr_parser.proofs.TemplateLaws.{unrolled}
use Rattle.qvtr_parser.proofs.Told.{Same, Starts, Told, braced_told, by_next, choice, choice_by, loosen, lower, name_told, next_told, none_told, number_of, restricted, same_get, same_less, same_span, same_stands, sequence, stuck_told, token_told, told_by, unbounded, whole}
use Rattle.qvtr_parser.proofs.ToldLists.{any_told, ends_at, expr_told, path_told}

pub brace_opens : (l : Lexeme) → is_sign (codes "{") l ≡ true → opens l ≡ true
brace_opens l e = by (is_sign (codes "(") l) refl
  where
    by : (b : Bool) → is_sign (codes "(") l ≡ b → opens l ≡ true
    by true p = rw p refl
    by false p = rw (p, e) refl

pub parenthesis_opens : (l : Lexeme) → is_sign (codes "(") l ≡ true → opens l ≡ true
parenthesis_opens l e = rw e refl

-- ---- types

type_with : {Is : ℕ → Type 0} → ((j : ℕ) → Told (λ n. (1 ≤ n) × Is n) ends_at 1 j (λ ts n. type_read ts (n - 1) j)) → (i : ℕ) (span : Span) (s : Symbol)
    → Starts Is ends_at i (λ ts n. type_by ts (type_read ts (n - 1)) n i (record { symbol = s; span = span }))
type_with inner i span (symbols.Plain ty) = inr (whole (i + 1) (λ ts. plain_type ty span) (λ ts us same. refl))
type_with inner i span (symbols.Kind kind) = inr (loosen 0 (omega arith) (braced_told (codes "(") parenthesis_opens (i + 1)
    (λ x far. sequence (inner x) (λ t further. sequence (token_told (is_sign (codes ")")) t.1) (λ end last. whole end (λ ts. Coll kind t.0 (span_at ts i end))
    (λ ts us same. ap (λ (at : Span). Coll kind t.0 at) (same_span ts us i end (omega (arith, far, further, last)) (same_less ts us end (end + 1) (omega arith) same))))))))
type_with inner i span (symbols.Name x) = inl (sequence (path_told i) (λ p far. whole p.1 (λ ts. Named p.0) (λ ts us same. refl)))
type_with inner i span s = inl (stuck_told i)

type_told_below : (below i : ℕ) → Told (λ n. n < below) ends_at 1 i (λ ts n. type_read ts n i)
type_told_below zero i = none_told (λ n is. omega (arith, is))
type_told_below (suc below) i = told_by (λ ts n. same ts n (slice_get ts i) ∙ type_unrolled ts n i) (next_told (λ l ts n. type_by ts (type_read ts (n - 1)) n i (terminal_of (Some l))) i
    (λ l. type_with (λ j. restricted (λ n is. (is.0, omega (arith, is.0, is.1))) (lower (type_told_below below j))) i l.token.span (symbol_of l)))
  where
    same : (ts : List Lexeme) (n : ℕ) (o : Option Lexeme) → by_next (λ l ts n. type_by ts (type_read ts (n - 1)) n i (terminal_of (Some l))) i o ts n ≡ type_by ts (type_read ts (n - 1)) n i (terminal_of o)
    same ts n None = refl
    same ts n (Some l) = refl

pub type_told : {Is : ℕ → Type 0} (i : ℕ) → Told Is ends_at 1 i (λ ts n. type_read ts n i)
type_told i = unbounded (λ below. type_told_below below i)

-- ---- values of items

get_last : (xs : List Lexeme) (y : Lexeme) → slice_get (xs ++ y ∷ []) (length xs) ≡ Some y
get_last [] y = refl
get_last (x ∷ xs) y = get_last xs y

abbrev colon : Lexeme
colon = mark (codes ":")

abbrev is_tree : Answer → Bool
is_tree (Tree tree k) = true
is_tree a = false

-- the tokens up to and with a name, and a colon
record NameAlone (ts us : List Lexeme) (i : ℕ) : Type 0 where
  same : Same ts us (i + 1)
  name : Name
  named : stands (is_name name) us i ≡ true
  colon : stands (is_sign (codes ":")) us (i + 1) ≡ true

name_alone : (ts : List Lexeme) (i : ℕ) → is_name_at ts i ≡ true → NameAlone ts (take (i + 1) ts ++ colon ∷ []) i
name_alone ts i e =
    let less : i < length ts = stands_before is_any_name ts i e in
    let long : length (take (i + 1) ts) ≡ i + 1 = length-take-le (i + 1) ts (omega (arith, less)) in
    let us : List Lexeme = take (i + 1) ts ++ colon ∷ [] in
    let same : Same ts us (i + 1) = take-append-le (i + 1) (take (i + 1) ts) (colon ∷ []) (omega (arith, long)) ∙ take_all (i + 1) (take (i + 1) ts) (omega (arith, long)) in
    let x = name_at_is ts i e in
    let last : slice_get us (i + 1) ≡ Some colon = ap (slice_get us) (sym long) ∙ get_last (take (i + 1) ts) colon in
    record {
      same = same;
      name = x.0;
      named = same_stands (is_name x.0) ts us (i + 1) i (omega arith) same ∙ x.1;
      colon = stands_some (is_sign (codes ":")) us (i + 1) colon last;
    }

-- at a name an expression does not stop
name_goes_on : (ts : List Lexeme) (n i : ℕ) → is_name_at ts i ≡ true → (a : Answer) → answer ts n i ≡ a → (k : ℕ) → k ≡ i → token_of a ≡ k → is_tree a ≡ true
name_goes_on ts n i e a h k here at = by a h at
  where
    us : List Lexeme
    us = take (i + 1) ts ++ colon ∷ []

    alone : NameAlone ts us i
    alone = name_alone ts i e

    within : i ≤ length ts
    within = let less : i < length ts = stands_before is_any_name ts i e in omega (arith, less)

    again : (b : Answer) → answer ts n i ≡ b → token_of b ≡ k → Tree (exprs.Named (path_of alone.name)) (i + 1) ≡ b
    again b g at =
        let same : Same ts us (token_of b) = same_less ts us (token_of b) (i + 1) (omega (arith, at, here)) alone.same in
        let next : slice_get us (token_of b) ≡ slice_get ts (token_of b) = same_get ts us (i + 1) (token_of b) (omega (arith, at, here)) alone.same in
        sym (name_ends us n i alone.name alone.named alone.colon) ∙ answer_alike ts us n i b within g same next

    by : (b : Answer) → answer ts n i ≡ b → token_of b ≡ k → is_tree b ≡ true
    by (Tree tree j) g at = refl
    by (Stuck j) g at = ap is_tree (sym (again (Stuck j) g at))
    by (Deep j) g at = ap is_tree (sym (again (Deep j) g at))

expr_named : (ts : List Lexeme) (n i : ℕ) → is_name_at ts i ≡ true → i + 1 ≤ number_of ends_at (expr_read ts n i)
unfolding expr_read
expr_named ts n i e = by (answer ts n i) refl (nat_le (i + 1) (number_of ends_at (read_by (answer ts n i)))) refl
  where
    any : Told (λ m. Unit {0}) ends_at 1 i (λ us m. expr_read us m i)
    any = expr_told i

    token_is : (a : Answer) → token_of a ≡ number_of ends_at (read_by a)
    token_is (Tree tree k) = refl
    token_is (Stuck k) = refl
    token_is (Deep k) = refl

    tree_further : (a : Answer) → answer ts n i ≡ a → is_tree a ≡ true → i + 1 ≤ number_of ends_at (read_by a)
    tree_further (Tree tree k) h t = any.further ts n tt (tree, k) (ap read_by h)
    tree_further (Stuck k) h t = absurd (true≢false (sym t))
    tree_further (Deep k) h t = absurd (true≢false (sym t))

    by : (a : Answer) → answer ts n i ≡ a → (b : Bool) → nat_le (i + 1) (number_of ends_at (read_by a)) ≡ b → i + 1 ≤ number_of ends_at (read_by a)
    by a h true c = grind (arith, nat_tests)
    by a h false c =
        let on : i ≤ number_of ends_at (read_by a) = subst (λ (x : Answer). i ≤ number_of ends_at (read_by x)) h (any.on ts n tt) in
        let less : number_of ends_at (read_by a) < i + 1 = grind (arith, nat_tests) in
        let here : number_of ends_at (read_by a) ≡ i = omega (arith, on, less) in
        tree_further a h (name_goes_on ts n i e a h (number_of ends_at (read_by a)) here (token_is a))

-- the test whether a template begins is told by the tokens up to and with the one at which the value ends or stops
template_seen : (ts us : List Lexeme) (i k : ℕ) → i ≤ k → (is_name_at ts i ≡ true → i + 1 ≤ k) → Same ts us (k + 1) → begins_template us i ≡ begins_template ts i
template_seen ts us i k on named same = by (is_name_at ts i) refl
  where
    first : is_sign_at us (codes ":") i ≡ is_sign_at ts (codes ":") i
    first = same_stands (is_sign (codes ":")) ts us (k + 1) i (omega (arith, on)) same

    second : is_name_at us i ≡ is_name_at ts i
    second = same_stands is_any_name ts us (k + 1) i (omega (arith, on)) same

    by : (b : Bool) → is_name_at ts i ≡ b → begins_template us i ≡ begins_template ts i
    by true e =
        let third : is_sign_at us (codes ":") (i + 1) ≡ is_sign_at ts (codes ":") (i + 1) = same_stands (is_sign (codes ":")) ts us (k + 1) (i + 1) (omega (arith, named e)) same in
        rw (first, second, third) refl
    by false e = rw (first, second, e) refl

-- an item's value, by what reads a template in it
nested_told : {Is : ℕ → Type 0} → ((j : ℕ) → Told Is ends_at 1 j (λ ts n. template_read ts n j)) → (i : ℕ) → Told Is ends_at 1 i (λ ts n. nested_read ts (template_read ts n) i)
nested_told inner i = choice (λ ts. is_sign_at ts (codes ":") i) (λ ts us same. same_stands (is_sign (codes ":")) ts us (i + 1) i (omega arith) same)
    (sequence (inner i) (λ t far. whole t.1 (λ ts. values.Nested None t.0) (λ ts us same. refl)))
    (loosen 1 (omega arith) (sequence (name_told i) (λ x far. sequence (inner x.1) (λ t further. whole t.1 (λ ts. values.Nested (Some x.0) t.0) (λ ts us same. refl)))))

plain_told : {Is : ℕ → Type 0} (i : ℕ) → Told Is ends_at 1 i (λ ts n. and_then (expr_read ts n i) (λ e. Ok (values.Expr e.0, e.1)))
plain_told i = sequence (expr_told i) (λ e far. whole e.1 (λ ts. values.Expr e.0) (λ ts us same. refl))

abbrev value_by : List Lexeme → ℕ → ℕ → Bool → Read ItemValueTree
value_by ts n i b = if b then nested_read ts (template_read ts n) i else and_then (expr_read ts n i) (λ e. Ok (values.Expr e.0, e.1))

-- behind a name the value does not stop before the next token
value_named : {Is : ℕ → Type 0} → ((j : ℕ) → Told Is ends_at 1 j (λ ts n. template_read ts n j)) → (i : ℕ) (ts : List Lexeme) (n : ℕ) → Is n → is_name_at ts i ≡ true → (b : Bool) → i + 1 ≤ number_of ends_at (value_by ts n i b)
value_named {Is} inner i ts n is e true =
    let x = name_at_is ts i e in
    let first : is_sign_at ts (codes ":") i ≡ false = apart_at (is_name x.0) (is_sign (codes ":")) (name_no_sign x.0 (codes ":")) ts i x.1 in
    rw (first, name_stands_reads ts x.0 i x.1) (behind x.0 (template_read ts n (i + 1)) refl)
  where
    behind : (x : Name) (q : Read TemplateTree) → template_read ts n (i + 1) ≡ q → i + 1 ≤ number_of ends_at (and_then q (λ t. Ok (values.Nested (Some x) t.0, t.1)))
    behind x (Ok t) h = let far = (inner (i + 1)).further ts n is t h in omega (arith, far)
    behind x (Err s) h = subst (λ (q : Read TemplateTree). i + 1 ≤ number_of ends_at q) h ((inner (i + 1)).on ts n is)
value_named {Is} inner i ts n is e false = by (expr_read ts n i) (expr_named ts n i e)
  where
    by : (q : Read Expr) → i + 1 ≤ number_of ends_at q → i + 1 ≤ number_of ends_at (and_then q (λ e. Ok (values.Expr e.0, e.1)))
    by (Ok x) h = h
    by (Err s) h = h

pub value_told : {Is : ℕ → Type 0} → ((j : ℕ) → Told Is ends_at 1 j (λ ts n. template_read ts n j)) → (i : ℕ) → Told Is ends_at 1 i (λ ts n. value_read ts (template_read ts n) n i)
value_told {Is} inner i = choice_by (λ ts. begins_template ts i) (λ ts us n is same.
    template_seen ts us i (number_of ends_at (value_by ts n i (begins_template ts i))) (on_by ts n is (begins_template ts i)) (λ e. value_named inner i ts n is e (begins_template ts i)) same)
    (nested_told inner i) (plain_told i)
  where
    plain : Told Is ends_at 1 i (λ ts n. and_then (expr_read ts n i) (λ e. Ok (values.Expr e.0, e.1)))
    plain = plain_told i

    on_by : (ts : List Lexeme) (n : ℕ) → Is n → (b : Bool) → i ≤ number_of ends_at (value_by ts n i b)
    on_by ts n is true = (nested_told inner i).on ts n is
    on_by ts n is false = plain.on ts n is

item_told : {Is : ℕ → Type 0} → ((j : ℕ) → Told Is ends_at 1 j (λ ts n. template_read ts n j)) → (i : ℕ) → Told Is ends_at 1 i (λ ts n. item_by ts (template_read ts n) n i)
unfolding item_by
item_told inner i = loosen 1 (omega arith) (sequence (name_told i) (λ x far. sequence (token_told (is_sign (codes "=")) x.1) (λ equals further. sequence (value_told inner equals)
    (λ v last. whole v.1 (λ ts. record { prop = x.0; value = v.0 }) (λ ts us same. refl)))))

pub items_told : {Is : ℕ → Type 0} → ((j : ℕ) → Told Is ends_at 1 j (λ ts n. template_read ts n j)) → (i : ℕ) → Told Is ends_at 0 i (λ ts n. items_read ts n i)
unfolding items_by
items_told inner i = any_told (codes "}") (λ ts n j. item_by ts (template_read ts n) n j) (item_told inner) i

-- ---- templates

template_with : {Is : ℕ → Type 0} → ((j : ℕ) → Told (λ n. (1 ≤ n) × Is n) ends_at 0 j (λ ts n. items_read ts (n - 1) j)) → (i : ℕ) → Told Is ends_at 1 i (λ ts n. template_by ts (items_read ts (n - 1)) n i)
template_with inner i = loosen 1 (omega arith) (sequence (token_told (is_sign (codes ":")) i) (λ c far. sequence (path_told c) (λ class further. braced_told (codes "{") brace_opens class.1
    (λ x inside. sequence (inner x) (λ its behind. sequence (token_told (is_sign (codes "}")) its.1) (λ end last. whole end (λ ts. roll-TemplateTree (record { class = class.0; items = its.0; span = span_at ts i end }))
    (λ ts us same. ap (λ (at : Span). roll-TemplateTree (record { class = class.0; items = its.0; span = at })) (same_span ts us i end (omega (arith, far, further, inside, behind, last)) (same_less ts us end (end + 1) (omega arith) same)))))))))

template_told_below : (below i : ℕ) → Told (λ n. n < below) ends_at 1 i (λ ts n. template_read ts n i)
template_told_below zero i = none_told (λ n is. omega (arith, is))
template_told_below (suc below) i = told_by (λ ts n. unrolled ts n i)
    (template_with (λ j. restricted (λ n is. (is.0, omega (arith, is.0, is.1))) (lower (items_told (λ l. template_told_below below l) j))) i)

pub template_told : {Is : ℕ → Type 0} (i : ℕ) → Told Is ends_at 1 i (λ ts n. template_read ts n i)
template_told i = unbounded (λ below. template_told_below below i)
