-- What scripts and their parts leave open can be ended.
use Rattle.std.proofs.Common.{◌≡◌, ℕ, ◌+◌, ◌<◌, ◌≤◌, inl, Bool, true, false, not, List, [], ◌∷◌, ◌++◌, length, slice_get, Some, None, Ok, Err, ap, sym, ◌∙◌, refl, subst, arith}
use Rattle.std.specs.Prelude.{codes, if◌then◌else◌, ◌==◌}
use Rattle.std.specs.Str.{bytes_eq}
use Rattle.std.proofs.lemmas.Bool.Decides.{nat_tests}
use Rattle.mof_metamodel.specs.declared.span.Span.{Span}
use Rattle.qv_syntax.specs.declared.expr.Expr.{Expr}
use Rattle.qv_syntax.specs.declared.script.Script.{Script}
use Rattle.qv_syntax.specs.declared.script.Declaration.TheVariants as declarations
use Rattle.qv_syntax.specs.declared.script.DomainTree.TheVariants as domains
use Rattle.ql_lex.specs.Lexed.{Lexeme}
use Rattle.ql_lex.specs.Lexemes.{is_sign, is_word, span_at}
use Rattle.ql_lex.proofs.TokenLaws.{stands_some}
use Rattle.ocl_parser.specs.Completion.{mark, null, reserved, some_name}
use Rattle.ocl_parser.specs.Followers.{may_go_on}
use Rattle.ocl_parser.specs.Runs.{Stuck}
use Rattle.ocl_parser.specs.Readings.{Read, and_then, expr_read, name_read, path_read, read_by, token_read, type_read}
use Rattle.ocl_parser.specs.declared.halt.Stop.TheVariants as stops
use Rattle.ocl_parser.proofs.FollowLaws.{brace_stuck}
use Rattle.qvtr_parser.specs.ScriptReadings.{all_vars_read, begins_declaration, begins_domain, behind_if, block_read, body_read, clause_read, conjunct_read, conjuncts_read, declaration_read, declarations_read, domain_read, domains_read, end_read, goes_on, is_any_name, is_marked, is_name_at, is_sign_at, is_word_at, key_read, mark_at, model_read, models_read, names_read, param_read, params_read, pattern_read, primitive_read, props_read, query_body_read, query_read, relation_of, relation_read, script_read, vars_read}
use Rattle.qvtr_parser.proofs.ApartLaws.{apart_at, sign_no_word, signs_apart}
use Rattle.qvtr_parser.proofs.Told.{Reading, Same, Told, choice, followed, itself, number_of, same_span, same_stands, sequence, whole}
use Rattle.qvtr_parser.proofs.ToldLists.{ends_at, test_of_token}
use Rattle.qvtr_parser.proofs.ToldTypes.{brace_opens, parenthesis_opens}
use Rattle.qvtr_parser.proofs.ToldScripts.{behind_semicolon, conjuncts_listed, conjuncts_told, declaration_told, declaration_test, domain_told, domain_test, end_told, mark_same, mark_there, marked_same, query_told, relation_told, word_same}
use Rattle.mof_metamodel.proofs.Facts.{first_true}
use Rattle.qvtr_parser.proofs.Complete.{word_within}
use Rattle.qvtr_parser.proofs.Ended.{Anything, Ending, Meets, Next, NoNext, Part, done_part, meets_end, meets_first, meets_free, one_token, then_part, token_part, tuned}
use Rattle.qvtr_parser.proofs.EndedParts.{braced_part, lowered_part, name_part, optional_part, skip_part, token_choice_ended}
use Rattle.qvtr_parser.proofs.EndedLists.{Run, any_part, closed_part, each_part, list_part, some_part}
use Rattle.qvtr_parser.proofs.EndedExprs.{expr_free, expr_part, path_free, path_part, string_word, type_part}
use Rattle.qvtr_parser.proofs.EndedTemplates.{brace_ends, closes, template_part}

-- ---- tokens

abbrev colon : Lexeme
colon = mark (codes ":")

abbrev semicolon : Lexeme
semicolon = mark (codes ";")

abbrev open_brace : Lexeme
open_brace = mark (codes "{")

abbrev close_brace : Lexeme
close_brace = mark (codes "}")

abbrev open_parenthesis : Lexeme
open_parenthesis = mark (codes "(")

abbrev close_parenthesis : Lexeme
close_parenthesis = mark (codes ")")

-- ---- single readings, with any levels

token_there : {If : Type 0} {ts : List Lexeme} {n l r : ℕ} (passes : Lexeme → Bool) (x : Lexeme) → passes x ≡ true → (i : ℕ) → Part If itself Anything l r (x ∷ []) 1 ts n i (λ ts n. token_read passes ts i)
token_there {If} {ts} {n} {l} {r} passes x p i = tuned Anything l r 1 (λ us j f. f) (omega arith) (omega arith) (omega arith) (token_part passes x p i)

name_there : {If : Type 0} {ts : List Lexeme} {n l r : ℕ} (i : ℕ) → Part If ends_at Anything l r (some_name ∷ []) 1 ts n i (λ ts n. name_read ts i)
name_there {If} {ts} {n} {l} {r} i = tuned Anything l r 1 (λ us j f. f) (omega arith) (omega arith) (omega arith) (name_part i)

type_there : {If : Type 0} {ts : List Lexeme} {n l r : ℕ} (i : ℕ) → Part If ends_at path_free l r (string_word ∷ []) 1 ts n i (λ ts n. type_read ts n i)
type_there {If} {ts} {n} {l} {r} i = tuned path_free l r 1 (λ us j f. f) (omega arith) (omega arith) (omega arith) (type_part i)

path_there : {If : Type 0} {ts : List Lexeme} {n l r : ℕ} (i : ℕ) → Part If ends_at path_free l r (some_name ∷ []) 1 ts n i (λ ts n. path_read ts i)
path_there {If} {ts} {n} {l} {r} i = tuned path_free l r 1 (λ us j f. f) (omega arith) (omega arith) (omega arith) (path_part i)

-- the end of a production
tree : {A : Type 0} {If : Type 0} {Free : List Lexeme → ℕ → Type 0} {ts : List Lexeme} {n l r : ℕ} (end : ℕ) (f : List Lexeme → A) → ((ts us : List Lexeme) → Same ts us end → f us ≡ f ts) → Part If ends_at Free l r [] 0 ts n end (λ ts n. Ok (f ts, end))
tree {A} {If} {Free} {ts} {n} {l} {r} end f same = tuned Free l r 0 (λ us j f. f) (omega arith) (omega arith) (omega arith) (done_part end f same)

-- a tree without a place, and one that holds the place from a token on
same_tree : {A : Type 0} {If : Type 0} {Free : List Lexeme → ℕ → Type 0} {ts : List Lexeme} {n l r : ℕ} (end : ℕ) (x : A) → Part If ends_at Free l r [] 0 ts n end (λ ts n. Ok (x, end))
same_tree end x = tree end (λ ts. x) (λ ts us s. refl)

placed : {A : Type 0} {If : Type 0} {Free : List Lexeme → ℕ → Type 0} {ts : List Lexeme} {n l r : ℕ} (i end : ℕ) → i < end → (f : Span → A) → Part If ends_at Free l r [] 0 ts n end (λ ts n. Ok (f (span_at ts i end), end))
placed i end less f = tree end (λ ts. f (span_at ts i end)) (λ ts us same. ap f (same_span ts us i end less same))

-- a token with which a path does not go on
no_colons : {step : ℕ} {l : Lexeme} {ls : List Lexeme} {Free : List Lexeme → ℕ → Type 0} → is_sign (codes "::") l ≡ false → 1 ≤ step → Meets path_free step (l ∷ ls) Free
no_colons {step} {l} apart some = meets_first (λ us j h. stands_some (is_sign (codes "::")) us j l h ∙ apart) some

-- ---- names, parameters, models and keys

abbrev no_comma : List Lexeme → ℕ → Type 0
no_comma = NoNext (is_sign (codes ","))

comma_apart : {step : ℕ} {l : Lexeme} {ls : List Lexeme} {Free : List Lexeme → ℕ → Type 0} → is_sign (codes ",") l ≡ false → 1 ≤ step → Meets no_comma step (l ∷ ls) Free
comma_apart {step} {l} apart some = meets_first (λ us j h. stands_some (is_sign (codes ",")) us j l h ∙ apart) some

names_part : {If : Type 0} {ts : List Lexeme} {n l r : ℕ} (i : ℕ) → Part If ends_at no_comma l r (some_name ∷ []) 1 ts n i (λ ts n. names_read ts i)
unfolding names_read
names_part {If} {ts} {n} {l} {r} i = tuned no_comma l r 1 (λ us j f. f) (omega arith) (omega arith) (omega arith) (some_part (λ ts n j. name_read ts j) no_comma (λ us j f. f) (λ us j f. tt) (λ j. name_part j) i)

param_part : {If : Type 0} {ts : List Lexeme} {n : ℕ} (i : ℕ) → Part If ends_at path_free 0 0 (some_name ∷ colon ∷ string_word ∷ []) 1 ts n i (λ ts n. param_read ts n i)
unfolding param_read
param_part {If} {ts} {n} i = one_token (omega arith) (then_part 0 0 (omega arith) (name_there i) (λ x a. then_part 0 0 (omega arith) (token_there (is_sign (codes ":")) colon refl x.1) (λ c b. then_part 0 0 (omega arith) (type_there c)
    (λ ty d. same_tree ty.1 (record { name = x.0; ty = ty.0 })) (meets_end (λ us j f. f))) meets_free) meets_free)

model_part : {If : Type 0} {ts : List Lexeme} {n : ℕ} (i : ℕ) → Part If ends_at Anything 0 0 (some_name ∷ colon ∷ some_name ∷ []) 1 ts n i (λ ts n. model_read ts i)
unfolding model_read
model_part {If} {ts} {n} i = one_token (omega arith) (then_part 0 0 (omega arith) (name_there i) (λ x a. then_part 0 0 (omega arith) (token_there (is_sign (codes ":")) colon refl x.1) (λ c b. then_part 0 0 (omega arith) (name_there c)
    (λ y d. same_tree y.1 (record { name = x.0; meta = y.0 })) meets_free) meets_free) meets_free)

-- behind what opens a level none more is needed
opened : (v : ℕ) → 1 ≤ v → 0 ≤ v → (0 ≤ v) × (0 ≤ v)
opened v some h = (h, h)

abbrev props_short : List Lexeme
props_short = open_brace ∷ some_name ∷ close_brace ∷ []

props_part : {If : Type 0} {ts : List Lexeme} {n : ℕ} (i : ℕ) → Part If ends_at Anything 1 1 props_short 1 ts n i (λ ts n. props_read ts n i)
unfolding props_read
props_part {If} {ts} {n} i = tuned Anything 1 1 1 (λ us j f. f) (omega arith) (omega arith) (omega arith) (braced_part 1 0 (codes "{") brace_opens open_brace refl (omega arith) (omega arith) opened
    (λ x a. then_part {FreeK = Anything} 0 0 (omega arith) (names_part x) (λ ns b. then_part {FreeK = Anything} 0 0 (omega arith) (token_there (is_sign (codes "}")) close_brace refl ns.1) (λ end c. same_tree end ns.0) meets_free) (comma_apart refl (omega arith))))

abbrev key_short : List Lexeme
key_short = reserved (codes "key") ∷ some_name ∷ open_brace ∷ some_name ∷ close_brace ∷ semicolon ∷ []

key_part : {If : Type 0} {ts : List Lexeme} {n : ℕ} (i : ℕ) → Part If ends_at Anything 1 1 key_short 1 ts n i (λ ts n. key_read ts n i)
unfolding key_read
key_part {If} {ts} {n} i = one_token (omega arith) (then_part 1 1 (omega arith) (token_there (is_word (codes "key")) (reserved (codes "key")) refl i) (λ first a. then_part 1 1 (omega arith) (path_there first) (λ class b. then_part 1 1 (omega arith) (props_part class.1)
    (λ props c. then_part 1 1 (omega arith) (token_there (is_sign (codes ";")) semicolon refl props.1) (λ end d. placed i end (omega (arith, a, b, c, d)) (λ span. record { class = class.0; props = props.0; span = span })) meets_free)
    meets_free) (no_colons refl (omega arith))) meets_free)

-- ---- domains

-- no word that marks a domain
abbrev no_mark : List Lexeme → ℕ → Type 0
no_mark us j = is_marked us j ≡ false

pattern_part : {If : Type 0} {ts : List Lexeme} {n : ℕ} (i : ℕ) → Part If ends_at Anything 1 1 (reserved (codes "domain") ∷ some_name ∷ some_name ∷ colon ∷ some_name ∷ open_brace ∷ close_brace ∷ semicolon ∷ []) 1 ts n i (λ ts n. pattern_read ts n i)
unfolding pattern_read
pattern_part {If} {ts} {n} i = one_token (omega arith) (then_part 1 1 (omega arith)
    (tuned no_mark 1 1 0 (λ us j f. f) (omega arith) (omega arith) (omega arith) (skip_part i is_marked (λ ts us same. marked_same ts us i (i + 1) (omega arith) same) (λ ts e. mark_there ts i e)))
    (λ k a. then_part 1 1 (omega arith) (token_there (is_word (codes "domain")) (reserved (codes "domain")) refl k) (λ first b. then_part 1 1 (omega arith) (name_there first) (λ m c. then_part 1 1 (omega arith) (name_there m.1)
    (λ root d. then_part 1 1 (omega arith) (tuned Anything 1 1 1 (λ us j f. f) (omega arith) (omega arith) (omega arith) (template_part root.1)) (λ t f. then_part 1 1 (omega arith) (token_there (is_sign (codes ";")) semicolon refl t.1)
    (λ end g. tree end (λ ts. domains.Pattern (mark_at ts i) m.0 root.0 t.0 (span_at ts i end)) (λ ts us same.
    let less : i < end = omega (arith, a, b, c, d, f, g) in
    ap (λ (span : Span). domains.Pattern (mark_at us i) m.0 root.0 t.0 span) (same_span ts us i end less same)
    ∙ ap (λ x. domains.Pattern x m.0 root.0 t.0 (span_at ts i end)) (mark_same ts us i end less same))) meets_free) meets_free) meets_free) meets_free) meets_free)
    (meets_first (λ us j h. unmarked us j h) (omega arith)))
  where
    unmarked : (us : List Lexeme) (j : ℕ) → slice_get us j ≡ Some (reserved (codes "domain")) → is_marked us j ≡ false
    unmarked us j h =
        let one : is_word_at us (codes "checkonly") j ≡ false = stands_some (is_word (codes "checkonly")) us j (reserved (codes "domain")) h in
        let other : is_word_at us (codes "enforce") j ≡ false = stands_some (is_word (codes "enforce")) us j (reserved (codes "domain")) h in
        rw (one, other) refl

abbrev domain_short : List Lexeme
domain_short = reserved (codes "primitive") ∷ reserved (codes "domain") ∷ some_name ∷ colon ∷ string_word ∷ semicolon ∷ []

primitive_part : {If : Type 0} {ts : List Lexeme} {n : ℕ} (i : ℕ) → Part If ends_at Anything 1 1 domain_short 1 ts n i (λ ts n. primitive_read ts n i)
unfolding primitive_read
primitive_part {If} {ts} {n} i = one_token (omega arith) (then_part 1 1 (omega arith) (token_there (is_word (codes "primitive")) (reserved (codes "primitive")) refl i) (λ first a. then_part 1 1 (omega arith) (token_there (is_word (codes "domain")) (reserved (codes "domain")) refl first)
    (λ second b. then_part 1 1 (omega arith) (name_there second) (λ root c. then_part 1 1 (omega arith) (token_there (is_sign (codes ":")) colon refl root.1) (λ next d. then_part 1 1 (omega arith) (type_there next) (λ ty f. then_part 1 1 (omega arith) (token_there (is_sign (codes ";")) semicolon refl ty.1)
    (λ end g. placed i end (omega (arith, a, b, c, d, f, g)) (λ span. domains.Primitive root.0 ty.0 span)) meets_free) (no_colons refl (omega arith))) meets_free) meets_free) meets_free) meets_free)

domain_part : {If : Type 0} {ts : List Lexeme} {n : ℕ} (i : ℕ) → Part If ends_at Anything 1 1 domain_short 1 ts n i (λ ts n. domain_read ts n i)
domain_part {If} {ts} {n} i = record {
  told = domain_told i;
  whole = record {
    reads = λ us v few has follow. (
        let y = primitive.whole.reads us v few has follow in
        let first : is_word_at us (codes "primitive") i ≡ true = stands_some (is_word (codes "primitive")) us i (reserved (codes "primitive")) has.0 in
        (y.0, rw first y.1, y.2));
  };
  ended = λ if_. token_choice_ended (is_word (codes "primitive")) primitive.told pattern.told (primitive.ended if_) (pattern.ended if_);
}
  where
    primitive : Part If ends_at Anything 1 1 domain_short 1 ts n i (λ ts n. primitive_read ts n i)
    primitive = primitive_part i

    pattern : Part If ends_at Anything 1 1 (reserved (codes "domain") ∷ some_name ∷ some_name ∷ colon ∷ some_name ∷ open_brace ∷ close_brace ∷ semicolon ∷ []) 1 ts n i (λ ts n. pattern_read ts n i)
    pattern = pattern_part i

abbrev no_domain : List Lexeme → ℕ → Type 0
no_domain us j = begins_domain us j ≡ false

domains_part : {If : Type 0} {ts : List Lexeme} {n : ℕ} (i : ℕ) → Part If ends_at no_domain 1 1 domain_short 1 ts n i (λ ts n. domains_read ts n i)
unfolding domains_read
domains_part {If} {ts} {n} i = then_part 1 1 (omega arith) (domain_part i)
    (λ d a. tuned no_domain 1 1 0 (λ us j f. f) (omega arith) (omega arith) (omega arith) (each_part begins_domain domain_test (λ ts n j. domain_read ts n j) no_domain (λ us j f. f) (λ us j f. tt) (λ j. domain_part j) (d.0 ∷ []) d.1)) meets_free

-- ---- relations

vars_part : {If : Type 0} {ts : List Lexeme} {n : ℕ} (i : ℕ) → Part If ends_at Anything 0 0 (some_name ∷ colon ∷ string_word ∷ semicolon ∷ []) 1 ts n i (λ ts n. vars_read ts n i)
unfolding vars_read
vars_part {If} {ts} {n} i = one_token (omega arith) (then_part 0 0 (omega arith) (names_part i) (λ ns a. then_part 0 0 (omega arith) (token_there (is_sign (codes ":")) colon refl ns.1) (λ c b. then_part 0 0 (omega arith) (type_there c) (λ ty d. then_part 0 0 (omega arith) (token_there (is_sign (codes ";")) semicolon refl ty.1)
    (λ end f. placed i end (omega (arith, a, b, d, f)) (λ span. record { names = ns.0; ty = ty.0; span = span })) meets_free) (no_colons refl (omega arith))) meets_free) (comma_apart refl (omega arith)))

abbrev no_name : List Lexeme → ℕ → Type 0
no_name us j = is_name_at us j ≡ false

all_vars_part : {If : Type 0} {ts : List Lexeme} {n : ℕ} (i : ℕ) → Part If ends_at no_name 1 1 [] 0 ts n i (λ ts n. all_vars_read ts n i)
all_vars_part {If} {ts} {n} i = tuned no_name 1 1 0 (λ us j f. f) (omega arith) (omega arith) (omega arith)
    (each_part is_name_at (test_of_token is_any_name) (λ ts n j. vars_read ts n j) no_name (λ us j f. f) (λ us j f. tt) (λ j. vars_part j) [] i)

-- an expression behind a semicolon
abbrev conjunct : ℕ → Reading (Expr × ℕ)
conjunct j = followed (λ ts n. token_read (is_sign (codes ";")) ts j) (λ x ts n. expr_read ts n x)

no_brace_begins : (us : List Lexeme) (w j : ℕ) (x : Expr × ℕ) → expr_read us w j ≡ Ok x → is_sign_at us (codes "}") j ≡ false
unfolding expr_read
no_brace_begins us w j x e = by (is_sign_at us (codes "}") j) refl
  where
    by : (b : Bool) → is_sign_at us (codes "}") j ≡ b → b ≡ false
    by true s =
        let no : read_by (Stuck j) ≡ Ok x = ap read_by (sym (brace_stuck us w j s)) ∙ e in
        cc
    by false s = refl

conjuncts_run : Run goes_on behind_semicolon (λ ts n j. conjunct_read ts n j) conjunct closes
conjuncts_run = record {
  d = 1;
  listed = conjuncts_listed;
  same = λ us v j g. (let s : is_sign_at us (codes ";") j ≡ true = first_true (is_sign_at us (codes ";") j) (not (is_sign_at us (codes "}") (j + 1))) g in rw s refl);
  stop = λ us j f. (let s : is_sign_at us (codes ";") j ≡ false = brace_no_semicolon us j f in (rw s refl, rw s refl));
  over = λ us j f. over_by us j (is_sign_at us (codes ";") j) refl f;
  last = λ ts us j same f. last_by ts us j (is_sign_at ts (codes ";") j) refl same f;
  goes = λ ts us w j x g e same. goes_by ts us w j x g e same;
}
  where
    brace_no_semicolon : (us : List Lexeme) (j : ℕ) → closes us j → is_sign_at us (codes ";") j ≡ false
    brace_no_semicolon us j f = apart_at (is_sign (codes "}")) (is_sign (codes ";")) (signs_apart (codes "}") (codes ";") refl) us j f

    over_by : (us : List Lexeme) (j : ℕ) (b : Bool) → is_sign_at us (codes ";") j ≡ b → closes us (behind_if b j) → goes_on us j ≡ false
    over_by us j true s f = rw (s, f) refl
    over_by us j false s f = rw s refl

    last_by : (ts us : List Lexeme) (j : ℕ) (b : Bool) → is_sign_at ts (codes ";") j ≡ b → Same ts us (behind_if b j) → closes us (behind_if b j) → behind_semicolon us j ≡ behind_if b j
    last_by ts us j true s same f =
        let t : is_sign_at us (codes ";") j ≡ true = same_stands (is_sign (codes ";")) ts us (j + 1) j (omega arith) same ∙ s in
        rw t refl
    last_by ts us j false s same f =
        let t : is_sign_at us (codes ";") j ≡ false = brace_no_semicolon us j f in
        rw t refl

    goes_by : (ts us : List Lexeme) (w j : ℕ) (x : Expr × ℕ) → goes_on ts j ≡ true → conjunct j us w ≡ Ok x → Same ts us (j + 1) → goes_on us j ≡ true
    goes_by ts us w j x g e same =
        let s : is_sign_at ts (codes ";") j ≡ true = first_true (is_sign_at ts (codes ";") j) (not (is_sign_at ts (codes "}") (j + 1))) g in
        let t : is_sign_at us (codes ";") j ≡ true = same_stands (is_sign (codes ";")) ts us (j + 1) j (omega arith) same ∙ s in
        let read : expr_read us w (j + 1) ≡ Ok x = read_behind us w j x t e in
        rw (t, no_brace_begins us w (j + 1) x read) refl
      where
        read_behind : (us : List Lexeme) (w j : ℕ) (x : Expr × ℕ) → is_sign_at us (codes ";") j ≡ true → conjunct j us w ≡ Ok x → expr_read us w (j + 1) ≡ Ok x
        read_behind us w j x t e = sym (rw t refl) ∙ e

conjunct_part : {If : Type 0} {ts : List Lexeme} {n : ℕ} (j : ℕ) → Part If ends_at expr_free 0 0 (semicolon ∷ null ∷ []) 1 ts n j (conjunct j)
conjunct_part {If} {ts} {n} j = one_token (omega arith) (then_part 0 0 (omega arith) (token_there (is_sign (codes ";")) semicolon refl j) (λ x a. expr_part x) meets_free)

conjuncts_part : {If : Type 0} {ts : List Lexeme} {n : ℕ} (i : ℕ) → Part If ends_at closes 0 0 [] 0 ts n i (λ ts n. conjuncts_read ts n i)
unfolding conjuncts_read
conjuncts_part {If} {ts} {n} i = closed_part (codes "}") closes (λ us j f. f) (conjuncts_told i)
    (then_part 0 0 (omega arith) (expr_part i) (λ e a. list_part conjuncts_run brace_ends (λ j. conjunct_part j) (e.0 ∷ []) e.1) (meets_end brace_ends))

-- a closing brace is what may follow
meets_brace : {ls : List Lexeme} {Free : List Lexeme → ℕ → Type 0} {step : ℕ} → 1 ≤ step → Meets closes step (close_brace ∷ ls) Free
meets_brace some = meets_first (λ us j h. stands_some (is_sign (codes "}")) us j close_brace h) some

abbrev block_short : List Lexeme
block_short = open_brace ∷ close_brace ∷ []

block_part : {If : Type 0} {ts : List Lexeme} {n : ℕ} (i : ℕ) → Part If ends_at Anything 1 1 block_short 1 ts n i (λ ts n. block_read ts n i)
unfolding block_read
block_part {If} {ts} {n} i = tuned Anything 1 1 1 (λ us j f. f) (omega arith) (omega arith) (omega arith) (braced_part 1 1 (codes "{") brace_opens open_brace refl (omega arith) (omega arith) (λ v some h. (h, h))
    (λ x a. then_part {FreeK = Anything} 1 1 (omega arith) (lowered_part 1 1 (λ v h. omega arith) (λ v h. (h, omega arith)) (conjuncts_part x)) (λ es b. then_part {FreeK = Anything} 1 1 (omega arith) (token_there (is_sign (codes "}")) close_brace refl es.1)
    (λ end c. placed i end (omega (arith, a, b, c)) (λ span. record { exprs = es.0; span = span })) meets_free) (meets_brace (omega arith))))

clause_part : {If : Type 0} {ts : List Lexeme} {n : ℕ} (text : List ℕ) → is_word text (reserved text) ≡ true → (i : ℕ) → Part If ends_at (NoNext (is_word text)) 1 1 [] 0 ts n i (λ ts n. clause_read ts text n i)
unfolding clause_read
clause_part {If} {ts} {n} text is_it i = tuned (NoNext (is_word text)) 1 1 0 (λ us j f. f) (omega arith) (omega arith) (omega arith)
    (optional_part 1 (is_word text) (reserved text) is_it (NoNext (is_word text)) (λ us j f. f) (λ us j f. tt) (omega arith) (inl (omega arith)) None (λ x ts n. and_then (block_read ts n x) (λ b. Ok (Some b.0, b.1)))
    (λ x far. then_part {FreeK = Anything} 1 1 (omega arith) (block_part x) (λ b a. same_tree b.1 (Some b.0)) meets_free))

brace_no_word : (text : List ℕ) (us : List Lexeme) (j : ℕ) → closes us j → is_word_at us text j ≡ false
brace_no_word text us j f = apart_at (is_sign (codes "}")) (is_word text) (sign_no_word (codes "}") text) us j f

brace_no_domain : (us : List Lexeme) (j : ℕ) → closes us j → begins_domain us j ≡ false
brace_no_domain us j f = rw (brace_no_word (codes "checkonly") us j f, brace_no_word (codes "enforce") us j f, brace_no_word (codes "domain") us j f, brace_no_word (codes "primitive") us j f) refl

body_part : {If : Type 0} {ts : List Lexeme} {n : ℕ} (i : ℕ) → Part If ends_at closes 1 1 domain_short 1 ts n i (λ ts n. body_read ts n i)
unfolding body_read
body_part {If} {ts} {n} i = then_part 1 1 (omega arith) (all_vars_part i) (λ vs a. then_part 1 1 (omega arith) (domains_part vs.1) (λ ds b. then_part 1 1 (omega arith) (clause_part (codes "when") refl ds.1) (λ when c. then_part 1 1 (omega arith) (clause_part (codes "where") refl when.1)
    (λ wheres d. same_tree wheres.1 (record { vars = vs.0; domains = ds.0; when = when.0; wheres = wheres.0 })) (meets_end (brace_no_word (codes "where")))) (meets_end (brace_no_word (codes "when")))) (meets_end brace_no_domain))
    (meets_first (λ us j h. stands_some is_any_name us j (reserved (codes "primitive")) h) (omega arith))

abbrev relation_short : List Lexeme
relation_short = reserved (codes "relation") ∷ some_name ∷ open_brace ∷ domain_short ++ close_brace ∷ []

abbrev no_top : List Lexeme → ℕ → Type 0
no_top us j = is_word_at us (codes "top") j ≡ false

relation_part : {If : Type 0} {ts : List Lexeme} {n : ℕ} (i : ℕ) → Part If ends_at Anything 2 2 relation_short 1 ts n i (λ ts n. relation_read ts n i)
unfolding relation_read
relation_part {If} {ts} {n} i = one_token (omega arith) (then_part 2 2 (omega arith)
    (tuned no_top 2 2 0 (λ us j f. f) (omega arith) (omega arith) (omega arith) (skip_part i (λ ts i. is_word_at ts (codes "top") i) (λ ts us same. word_same (codes "top") ts us i (i + 1) (omega arith) same) (λ ts e. word_within ts (codes "top") i e)))
    (λ k a. then_part 2 2 (omega arith) (token_there (is_word (codes "relation")) (reserved (codes "relation")) refl k) (λ first b. then_part 2 2 (omega arith) (name_there first)
    (λ x c. braced_part 2 2 (codes "{") brace_opens open_brace refl (omega arith) (omega arith) (λ v some h. (h, h)) (λ inside d. then_part 2 2 (omega arith) (lowered_part 2 2 (λ v h. omega (arith, h)) (λ v h. (omega (arith, h), omega (arith, h))) (body_part inside))
    (λ body f. then_part 2 2 (omega arith) (token_there (is_sign (codes "}")) close_brace refl body.1)
    (λ end g. tree end (λ ts. relation_of (is_word_at ts (codes "top") i) x.0 body.0 ts i end) (λ ts us same.
    let less : i < end = omega (arith, a, b, c, d, f, g) in
    rw (word_same (codes "top") ts us i end less same, same_span ts us i end less same) refl)) meets_free) (meets_brace (omega arith))))
    meets_free) meets_free)
    (meets_first (λ us j h. stands_some (is_word (codes "top")) us j (reserved (codes "relation")) h) (omega arith)))

-- ---- transformations

abbrev closes_list : List Lexeme → ℕ → Type 0
closes_list = Next (is_sign (codes ")"))

parenthesis_apart : (text : List ℕ) → bytes_eq (codes ")") text ≡ false → (us : List Lexeme) (j : ℕ) → closes_list us j → is_sign_at us text j ≡ false
parenthesis_apart text other us j f = apart_at (is_sign (codes ")")) (is_sign text) (signs_apart (codes ")") text other) us j f

meets_parenthesis : {ls : List Lexeme} {Free : List Lexeme → ℕ → Type 0} {step : ℕ} → 1 ≤ step → Meets closes_list step (close_parenthesis ∷ ls) Free
meets_parenthesis some = meets_first (λ us j h. stands_some (is_sign (codes ")")) us j close_parenthesis h) some

abbrev params_short : List Lexeme
params_short = open_parenthesis ∷ close_parenthesis ∷ []

params_part : {If : Type 0} {ts : List Lexeme} {n : ℕ} (i : ℕ) → Part If ends_at Anything 1 1 params_short 1 ts n i (λ ts n. params_read ts n i)
unfolding params_read
params_part {If} {ts} {n} i = tuned Anything 1 1 1 (λ us j f. f) (omega arith) (omega arith) (omega arith) (braced_part 1 1 (codes "(") parenthesis_opens open_parenthesis refl (omega arith) (omega arith) (λ v some h. (h, h))
    (λ x a. then_part {FreeK = Anything} 1 1 (omega arith) (lowered_part 1 1 (λ v h. omega arith) (λ v h. (h, omega arith))
    (any_part (codes ")") (λ ts n j. param_read ts n j) closes_list (λ us j f. f) (parenthesis_apart (codes ",") refl) (parenthesis_apart (codes "::") refl) (λ j. param_part j) x))
    (λ ps b. then_part {FreeK = Anything} 1 1 (omega arith) (token_there (is_sign (codes ")")) close_parenthesis refl ps.1) (λ end c. same_tree end ps.0) meets_free) (meets_parenthesis (omega arith))))

query_body_part : {If : Type 0} {ts : List Lexeme} {n : ℕ} (i : ℕ) → Part If ends_at Anything 1 1 (open_brace ∷ null ∷ close_brace ∷ []) 1 ts n i (λ ts n. query_body_read ts n i)
unfolding query_body_read
query_body_part {If} {ts} {n} i = tuned Anything 1 1 1 (λ us j f. f) (omega arith) (omega arith) (omega arith) (braced_part 1 1 (codes "{") brace_opens open_brace refl (omega arith) (omega arith) (λ v some h. (h, h))
    (λ x a. then_part {FreeK = Anything} 1 1 (omega arith) (lowered_part 1 1 (λ v h. omega arith) (λ v h. (h, omega arith)) (expr_part x)) (λ e b. then_part {FreeK = Anything} 1 1 (omega arith) (token_there (is_sign (codes "}")) close_brace refl e.1)
    (λ end c. same_tree end e.0) meets_free) (meets_first (λ us j h. stands_some may_go_on us j close_brace h) (omega arith))))

query_part : {If : Type 0} {ts : List Lexeme} {n : ℕ} (i : ℕ)
    → Part If ends_at Anything 1 1 (reserved (codes "query") ∷ some_name ∷ open_parenthesis ∷ close_parenthesis ∷ colon ∷ string_word ∷ open_brace ∷ null ∷ close_brace ∷ []) 1 ts n i (λ ts n. query_read ts n i)
unfolding query_read
query_part {If} {ts} {n} i = one_token (omega arith) (then_part 1 1 (omega arith) (token_there (is_word (codes "query")) (reserved (codes "query")) refl i) (λ first a. then_part 1 1 (omega arith) (name_there first) (λ x b. then_part 1 1 (omega arith) (params_part x.1)
    (λ ps c. then_part 1 1 (omega arith) (token_there (is_sign (codes ":")) colon refl ps.1) (λ next d. then_part 1 1 (omega arith) (type_there next) (λ ty f. then_part 1 1 (omega arith) (query_body_part ty.1)
    (λ body g. same_tree body.1 (record { name = x.0; params = ps.0; result = ty.0; body = body.0 })) meets_free) (no_colons refl (omega arith))) meets_free) meets_free) meets_free) meets_free)

declaration_part : {If : Type 0} {ts : List Lexeme} {n : ℕ} (i : ℕ) → Part If ends_at Anything 2 2 key_short 1 ts n i (λ ts n. declaration_read ts n i)
unfolding declaration_read
declaration_part {If} {ts} {n} i = record {
  told = declaration_told i;
  whole = record {
    reads = λ us v few has follow. (
        let y = a_key.whole.reads us v few has follow in
        let first : is_word_at us (codes "key") i ≡ true = stands_some (is_word (codes "key")) us i (reserved (codes "key")) has.0 in
        (y.0, rw first y.1, y.2));
  };
  ended = λ if_. token_choice_ended (is_word (codes "key")) a_key.told (choice_told i) (a_key.ended if_)
      (token_choice_ended (is_word (codes "query")) a_query.told a_relation.told (a_query.ended if_) (a_relation.ended if_));
}
  where
    a_key : Part If ends_at Anything 2 2 key_short 1 ts n i (λ ts n. and_then (key_read ts n i) (λ k. Ok (declarations.Key k.0, k.1)))
    a_key = then_part 2 2 (omega arith) (tuned Anything 2 2 1 (λ us j f. f) (omega arith) (omega arith) (omega arith) (key_part i)) (λ k a. same_tree k.1 (declarations.Key k.0)) meets_free

    a_query : Part If ends_at Anything 2 2 (reserved (codes "query") ∷ some_name ∷ open_parenthesis ∷ close_parenthesis ∷ colon ∷ string_word ∷ open_brace ∷ null ∷ close_brace ∷ []) 1 ts n i (λ ts n. and_then (query_read ts n i) (λ q. Ok (declarations.Query q.0, q.1)))
    a_query = then_part 2 2 (omega arith) (tuned Anything 2 2 1 (λ us j f. f) (omega arith) (omega arith) (omega arith) (query_part i)) (λ q a. same_tree q.1 (declarations.Query q.0)) meets_free

    a_relation : Part If ends_at Anything 2 2 relation_short 1 ts n i (λ ts n. and_then (relation_read ts n i) (λ r. Ok (declarations.Relation r.0, r.1)))
    a_relation = then_part 2 2 (omega arith) (relation_part i) (λ r a. same_tree r.1 (declarations.Relation r.0)) meets_free

    choice_told : (i : ℕ) → Told (λ n. Unit {0}) ends_at 1 i (λ ts n. if is_word_at ts (codes "query") i then and_then (query_read ts n i) (λ q. Ok (declarations.Query q.0, q.1)) else and_then (relation_read ts n i) (λ r. Ok (declarations.Relation r.0, r.1)))
    choice_told i = choice (λ ts. is_word_at ts (codes "query") i) (λ ts us same. word_same (codes "query") ts us i (i + 1) (omega arith) same)
        (sequence (query_told i) (λ q a. whole q.1 (λ ts. declarations.Query q.0) (λ ts us same. refl)))
        (sequence (relation_told i) (λ r a. whole r.1 (λ ts. declarations.Relation r.0) (λ ts us same. refl)))

abbrev models_short : List Lexeme
models_short = open_parenthesis ∷ some_name ∷ colon ∷ some_name ∷ close_parenthesis ∷ []

models_part : {If : Type 0} {ts : List Lexeme} {n : ℕ} (i : ℕ) → Part If ends_at Anything 3 3 models_short 1 ts n i (λ ts n. models_read ts n i)
unfolding models_read
models_part {If} {ts} {n} i = tuned Anything 3 3 1 (λ us j f. f) (omega arith) (omega arith) (omega arith) (braced_part 1 0 (codes "(") parenthesis_opens open_parenthesis refl (omega arith) (omega arith) opened
    (λ x a. then_part {FreeK = Anything} 0 0 (omega arith) (some_part (λ ts n j. model_read ts j) no_comma (λ us j f. f) (λ us j f. tt) (λ j. model_part j) x)
    (λ ms b. then_part {FreeK = Anything} 0 0 (omega arith) (token_there (is_sign (codes ")")) close_parenthesis refl ms.1) (λ end c. same_tree end ms.0) meets_free) (comma_apart refl (omega arith))))

abbrev no_declaration : List Lexeme → ℕ → Type 0
no_declaration us j = begins_declaration us j ≡ false

declarations_part : {If : Type 0} {ts : List Lexeme} {n : ℕ} (i : ℕ) → Part If ends_at Anything 3 3 block_short 1 ts n i (λ ts n. declarations_read ts n i)
unfolding declarations_read
declarations_part {If} {ts} {n} i = tuned Anything 3 3 1 (λ us j f. f) (omega arith) (omega arith) (omega arith) (braced_part 3 3 (codes "{") brace_opens open_brace refl (omega arith) (omega arith) (λ v some h. (h, h))
    (λ x a. then_part {FreeK = Anything} 3 3 (omega arith) (lowered_part 3 3 (λ v h. omega arith) (λ v h. (omega (arith, h), omega (arith, h)))
    (each_part begins_declaration declaration_test (λ ts n j. declaration_read ts n j) no_declaration (λ us j f. f) (λ us j f. tt) (λ j. declaration_part j) [] x))
    (λ ds b. then_part {FreeK = Anything} 3 3 (omega arith) (token_there (is_sign (codes "}")) close_brace refl ds.1) (λ end c. same_tree end ds.0) meets_free)
    (meets_first (λ us j h. undeclared us j h) (omega arith))))
  where
    undeclared : (us : List Lexeme) (j : ℕ) → slice_get us j ≡ Some close_brace → begins_declaration us j ≡ false
    undeclared us j h =
        let f : closes us j = stands_some (is_sign (codes "}")) us j close_brace h in
        rw (brace_no_word (codes "key") us j f, brace_no_word (codes "query") us j f, brace_no_word (codes "top") us j f, brace_no_word (codes "relation") us j f) refl

-- the end of the text
abbrev pub at_end : List Lexeme → ℕ → Type 0
at_end us j = length us ≡ j

end_part : {If : Type 0} {ts : List Lexeme} {n l r : ℕ} (i at : ℕ) → i < at → (f : Span → Script) → Part If ends_at at_end l r [] 0 ts n at (λ ts n. end_read ts (f (span_at ts i at)) at)
end_part {If} {ts} {n} {l} {r} i at less f = record {
  told = end_told i at less f;
  whole = record {
    reads = λ us v few has follow. (
        let same : at + 0 ≡ at = omega arith in
        ((f (span_at us i at), at), ended us (follow ∙ same), sym same));
  };
  ended = λ if_. record {
    cut = λ us w y e same follow wide. cut_by us (length ts == at) y e same follow;
    ends = λ k past e. ends_by k past (length ts == at) e;
    deeper = λ k e. deeper_by k (length ts == at) e;
  };
}
  where
    read_end : List Lexeme → Bool → Read Script
    read_end us b = if b then Ok (f (span_at us i at), at) else Err (stops.Stuck at)

    ended : (us : List Lexeme) → length us ≡ at → read_end us (length us == at) ≡ Ok (f (span_at us i at), at)
    ended us e =
        let t : (length us == at) ≡ true = grind (arith, nat_tests) in
        ap (read_end us) t

    cut_by : (us : List Lexeme) (b : Bool) (y : Script × ℕ) → read_end ts b ≡ Ok y → Same ts us y.1 → length us ≡ y.1 → read_end us (length us == at) ≡ Ok y
    cut_by us true y e same follow =
        let here : at ≡ y.1 = cc in
        let s : Same ts us at = subst (λ (j : ℕ). Same ts us j) (sym here) same in
        ended us (follow ∙ sym here) ∙ ap (λ (span : Span). Ok (f span, at)) (same_span ts us i at less s) ∙ e
    cut_by us false y e same follow = cc

    ends_by : (k : ℕ) → at < k → (b : Bool) → read_end ts b ≡ Err (stops.Stuck k) → Ending ends_at at_end r ts n (λ ts n. end_read ts (f (span_at ts i at)) at) k
    ends_by k past true e = cc
    ends_by k past false e = (let here : at ≡ k = cc in absurd (omega (arith, past, here)))

    deeper_by : (k : ℕ) (b : Bool) → read_end ts b ≡ Err (stops.Deep k) → (w : ℕ) × ((v : ℕ) → w ≤ v → k < number_of ends_at (end_read ts (f (span_at ts i at)) at))
    deeper_by k true e = cc
    deeper_by k false e = cc

abbrev pub script_short : List Lexeme
script_short = reserved (codes "transformation") ∷ some_name ∷ models_short ++ block_short

pub script_part : (ts : List Lexeme) (n : ℕ) → Part (Unit {0}) ends_at at_end 3 3 script_short 1 ts n 0 (λ ts n. script_read ts n)
unfolding script_read
script_part ts n = one_token (omega arith) (then_part 3 3 (omega arith) (token_there (is_word (codes "transformation")) (reserved (codes "transformation")) refl 0) (λ first a. then_part 3 3 (omega arith) (name_there first) (λ x b. then_part 3 3 (omega arith) (models_part x.1)
    (λ ms c. then_part 3 3 (omega arith) (declarations_part ms.1) (λ ds d. end_part 0 ds.1 (omega (arith, a, b, c, d)) (λ span. record { name = x.0; models = ms.0; declarations = ds.0; span = span })) meets_free) meets_free) meets_free) meets_free)
