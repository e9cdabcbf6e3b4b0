-- What readings of scripts and their parts answer is told by the tokens up to and with the one at which they end or stop.
use Rattle.std.proofs.Common.{◌≡◌, ℕ, ◌+◌, ◌-◌, ◌<◌, ◌≤◌, Bool, true, false, ◌||◌, ◌&&◌, not, List, [], ◌∷◌, length, take, Some, None, Ok, Err, ap, ◌∙◌, refl, subst, arith}
use Rattle.std.specs.Prelude.{codes, if◌then◌else◌, ◌==◌}
use Rattle.std.proofs.lemmas.Bool.Decides.{nat_tests}
use Rattle.std.proofs.lemmas.List.{length-take}
use Rattle.mof_metamodel.specs.declared.span.Span.{Span}
use Rattle.qv_syntax.specs.declared.script.Script.{Script}
use Rattle.qv_syntax.specs.declared.script.Declaration.TheVariants as declarations
use Rattle.qv_syntax.specs.declared.script.DomainTree.TheVariants as domains
use Rattle.ql_lex.specs.Lexed.{Lexeme}
use Rattle.ql_lex.specs.Lexemes.{is_sign, is_word, span_at, stands}
use Rattle.ocl_parser.specs.Beginnings.{opens}
use Rattle.ocl_parser.specs.Readings.{Read, name_read}
use Rattle.ocl_parser.specs.declared.halt.Stop.TheVariants as stops
use Rattle.qvtr_parser.specs.ScriptReadings.{all_vars_read, begins_declaration, begins_domain, behind_if, block_read, body_read, clause_read, conjunct_read, conjuncts_read, declaration_read, declarations_read, domain_read, domains_read, end_read, goes_on, is_any_name, is_marked, is_name_at, is_sign_at, is_word_at, key_read, mark_at, model_read, models_read, names_read, param_read, params_read, pattern_read, primitive_read, props_read, query_body_read, query_read, relation_of, relation_read, script_read, vars_read}
use Rattle.qvtr_parser.proofs.Complete.{domain_loop, word_within}
use Rattle.qvtr_parser.proofs.CompleteLists.{stands_before}
use Rattle.qvtr_parser.proofs.CompleteScripts.{declaration_loop}
use Rattle.qvtr_parser.proofs.Told.{Reading, Same, Told, braced_told, choice, loosen, lower, name_told, number_of, optional_told, restricted, same_less, same_span, same_stands, sequence, skip_told, token_told, whole}
use Rattle.qvtr_parser.proofs.ToldLists.{Listed, Test, any_told, each_told, ends_at, expr_told, listed_told, path_told, some_told, test_of_token}
use Rattle.qvtr_parser.proofs.ToldTypes.{brace_opens, parenthesis_opens, template_told, type_told}
use Rattle.mof_metamodel.proofs.Facts.{first_true}

-- a reading where a level less is left, behind what opened one
lowered : {Y : Type 0} {Is : ℕ → Type 0} {at : Y → ℕ} {step i : ℕ} {m : Reading Y} → Told (λ n. Unit {0}) at step i m → Told (λ n. (1 ≤ n) × Is n) at step i (λ ts n. m ts (n - 1))
lowered t = restricted (λ n is. (is.0, tt)) (lower t)

-- a production that ends where its span does
ends_with : {A : Type 0} {Is : ℕ → Type 0} (i end : ℕ) → i < end → (f : Span → A) → Told Is (λ (y : A × ℕ). y.1) 0 end (λ ts n. Ok (f (span_at ts i end), end))
ends_with i end less f = whole end (λ ts. f (span_at ts i end)) (λ ts us same. ap f (same_span ts us i end less (same_less ts us end (end + 1) (omega arith) same)))

-- where each value begins with the token that is tested
here_told : {A : Type 0} {Is : ℕ → Type 0} (j : ℕ) {m : Reading (A × ℕ)} → Told Is ends_at 1 j m → Told Is ends_at 1 (j + 0) m
here_told {A} {Is} j {m} t = subst (λ (k : ℕ). Told Is ends_at 1 k m) (omega arith) t

-- ---- names, parameters, models and keys

names_told : {Is : ℕ → Type 0} (i : ℕ) → Told Is ends_at 1 i (λ ts n. names_read ts i)
unfolding names_read
names_told i = some_told (λ ts n j. name_read ts j) (λ j. name_told j) i

param_told : {Is : ℕ → Type 0} (i : ℕ) → Told Is ends_at 1 i (λ ts n. param_read ts n i)
unfolding param_read
param_told i = loosen 1 (omega arith) (sequence (name_told i) (λ x a. sequence (token_told (is_sign (codes ":")) x.1) (λ colon b. sequence (type_told colon)
    (λ ty c. whole ty.1 (λ ts. record { name = x.0; ty = ty.0 }) (λ ts us same. refl)))))

model_told : {Is : ℕ → Type 0} (i : ℕ) → Told Is ends_at 1 i (λ ts n. model_read ts i)
unfolding model_read
model_told i = loosen 1 (omega arith) (sequence (name_told i) (λ x a. sequence (token_told (is_sign (codes ":")) x.1) (λ colon b. sequence (name_told colon)
    (λ y c. whole y.1 (λ ts. record { name = x.0; meta = y.0 }) (λ ts us same. refl)))))

props_told : {Is : ℕ → Type 0} (i : ℕ) → Told Is ends_at 1 i (λ ts n. props_read ts n i)
unfolding props_read
props_told i = loosen 1 (omega arith) (braced_told (codes "{") brace_opens i (λ x a. sequence (names_told x) (λ ns b. sequence (token_told (is_sign (codes "}")) ns.1) (λ end c. whole end (λ ts. ns.0) (λ ts us same. refl)))))

pub key_told : {Is : ℕ → Type 0} (i : ℕ) → Told Is ends_at 1 i (λ ts n. key_read ts n i)
unfolding key_read
key_told i = loosen 1 (omega arith) (sequence (token_told (is_word (codes "key")) i) (λ first a. sequence (path_told first) (λ class b. sequence (props_told class.1) (λ props c. sequence (token_told (is_sign (codes ";")) props.1)
    (λ end d. ends_with i end (omega (arith, a, b, c, d)) (λ span. record { class = class.0; props = props.0; span = span }))))))

-- ---- domains

pub word_same : (text : List ℕ) (ts us : List Lexeme) (i k : ℕ) → i < k → Same ts us k → is_word_at us text i ≡ is_word_at ts text i
word_same text ts us i k less same = same_stands (is_word text) ts us k i less same

pub marked_same : (ts us : List Lexeme) (i k : ℕ) → i < k → Same ts us k → is_marked us i ≡ is_marked ts i
marked_same ts us i k less same = rw (word_same (codes "checkonly") ts us i k less same, word_same (codes "enforce") ts us i k less same) refl

pub mark_same : (ts us : List Lexeme) (i k : ℕ) → i < k → Same ts us k → mark_at us i ≡ mark_at ts i
mark_same ts us i k less same = rw (word_same (codes "checkonly") ts us i k less same, word_same (codes "enforce") ts us i k less same) refl

pub mark_there : (ts : List Lexeme) (i : ℕ) → is_marked ts i ≡ true → i < length ts
mark_there ts i e = by (is_word_at ts (codes "checkonly") i) refl (is_word_at ts (codes "enforce") i) refl e
  where
    by : (a : Bool) → is_word_at ts (codes "checkonly") i ≡ a → (b : Bool) → is_word_at ts (codes "enforce") i ≡ b → (a || b) ≡ true → i < length ts
    by true p b q h = word_within ts (codes "checkonly") i p
    by false p true q h = word_within ts (codes "enforce") i q
    by false p false q h = cc

pattern_told : {Is : ℕ → Type 0} (i : ℕ) → Told Is ends_at 1 i (λ ts n. pattern_read ts n i)
unfolding pattern_read
pattern_told i = loosen 1 (omega arith) (sequence (skip_told i (λ ts. is_marked ts i) (λ ts us same. marked_same ts us i (i + 1) (omega arith) same) (λ ts e. mark_there ts i e))
    (λ k a. sequence (token_told (is_word (codes "domain")) k) (λ first b. sequence (name_told first) (λ m c. sequence (name_told m.1) (λ root d. sequence (template_told root.1) (λ t f. sequence (token_told (is_sign (codes ";")) t.1)
    (λ end g. whole end (λ ts. domains.Pattern (mark_at ts i) m.0 root.0 t.0 (span_at ts i end)) (λ ts us same.
    let less : i < end = omega (arith, a, b, c, d, f, g) in
    ap (λ (span : Span). domains.Pattern (mark_at us i) m.0 root.0 t.0 span) (same_span ts us i end less (same_less ts us end (end + 1) (omega arith) same))
    ∙ ap (λ x. domains.Pattern x m.0 root.0 t.0 (span_at ts i end)) (mark_same ts us i (end + 1) (omega (arith, less)) same)))))))))

primitive_told : {Is : ℕ → Type 0} (i : ℕ) → Told Is ends_at 1 i (λ ts n. primitive_read ts n i)
unfolding primitive_read
primitive_told i = loosen 1 (omega arith) (sequence (token_told (is_word (codes "primitive")) i) (λ first a. sequence (token_told (is_word (codes "domain")) first) (λ second b. sequence (name_told second)
    (λ root c. sequence (token_told (is_sign (codes ":")) root.1) (λ colon d. sequence (type_told colon) (λ ty f. sequence (token_told (is_sign (codes ";")) ty.1)
    (λ end g. ends_with i end (omega (arith, a, b, c, d, f, g)) (λ span. domains.Primitive root.0 ty.0 span))))))))

pub domain_told : {Is : ℕ → Type 0} (i : ℕ) → Told Is ends_at 1 i (λ ts n. domain_read ts n i)
domain_told i = choice (λ ts. is_word_at ts (codes "primitive") i) (λ ts us same. word_same (codes "primitive") ts us i (i + 1) (omega arith) same) (primitive_told i) (pattern_told i)

pub domain_test : Test begins_domain
domain_test = record {
  there = λ ts j e. (domain_loop ts 0).within j e;
  seen = λ ts us j same. rw (
    word_same (codes "checkonly") ts us j (j + 1) (omega arith) same,
    word_same (codes "enforce") ts us j (j + 1) (omega arith) same,
    word_same (codes "domain") ts us j (j + 1) (omega arith) same,
    word_same (codes "primitive") ts us j (j + 1) (omega arith) same,
  ) refl;
}

domains_told : {Is : ℕ → Type 0} (i : ℕ) → Told Is ends_at 1 i (λ ts n. domains_read ts n i)
unfolding domains_read
domains_told i = sequence (domain_told i) (λ d a. each_told begins_domain domain_test 0 (omega arith) (λ ts n j. domain_read ts n j) (λ j. here_told j (domain_told j)) (d.0 ∷ []) d.1)

-- ---- relations

vars_told : {Is : ℕ → Type 0} (i : ℕ) → Told Is ends_at 1 i (λ ts n. vars_read ts n i)
unfolding vars_read
vars_told i = loosen 1 (omega arith) (sequence (names_told i) (λ ns a. sequence (token_told (is_sign (codes ":")) ns.1) (λ colon b. sequence (type_told colon) (λ ty c. sequence (token_told (is_sign (codes ";")) ty.1)
    (λ end d. ends_with i end (omega (arith, a, b, c, d)) (λ span. record { names = ns.0; ty = ty.0; span = span }))))))

all_vars_told : {Is : ℕ → Type 0} (i : ℕ) → Told Is ends_at 0 i (λ ts n. all_vars_read ts n i)
all_vars_told i = each_told is_name_at (test_of_token is_any_name) 0 (omega arith) (λ ts n j. vars_read ts n j) (λ j. here_told j (vars_told j)) [] i

abbrev pub behind_semicolon : List Lexeme → ℕ → ℕ
behind_semicolon ts j = behind_if (is_sign_at ts (codes ";") j) j

pub conjuncts_listed : {Is : ℕ → Type 0} → Listed Is goes_on 1 behind_semicolon (λ ts n j. conjunct_read ts n j)
conjuncts_listed = record {
  one = λ j. expr_told (j + 1);
  there = λ ts j g. omega (arith, semicolon_there ts j g);
  before = semicolon_there;
  goes = λ ts us j g same. rw (sign_same (codes ";") ts us j (j + 1 + 1) (omega arith) same, sign_same (codes "}") ts us (j + 1) (j + 1 + 1) (omega arith) same) g;
  stays = λ ts us j g same. stays_by ts us j (is_sign_at ts (codes ";") j) refl g same;
  on = λ ts j. on_by j (is_sign_at ts (codes ";") j);
  within = λ ts j start. within_by ts j start (is_sign_at ts (codes ";") j) refl;
}
  where
    semicolon_there : (ts : List Lexeme) (j : ℕ) → goes_on ts j ≡ true → j < length ts
    semicolon_there ts j g = stands_before (is_sign (codes ";")) ts j (first_true (is_sign_at ts (codes ";") j) (not (is_sign_at ts (codes "}") (j + 1))) g)

    sign_same : (text : List ℕ) (ts us : List Lexeme) (i k : ℕ) → i < k → Same ts us k → is_sign_at us text i ≡ is_sign_at ts text i
    sign_same text ts us i k less same = same_stands (is_sign text) ts us k i less same

    stays_by : (ts us : List Lexeme) (j : ℕ) (b : Bool) → is_sign_at ts (codes ";") j ≡ b → goes_on ts j ≡ false → Same ts us (behind_if b j + 1) → (goes_on us j ≡ false) × (behind_semicolon us j ≡ behind_semicolon ts j)
    stays_by ts us j true e g same =
        let a = sign_same (codes ";") ts us j (j + 1 + 1) (omega arith) same in
        let b = sign_same (codes "}") ts us (j + 1) (j + 1 + 1) (omega arith) same in
        (rw (a, b) g, rw a refl)
    stays_by ts us j false e g same =
        let a = sign_same (codes ";") ts us j (j + 1) (omega arith) same in
        (rw (a, e) refl, rw a refl)

    on_by : (j : ℕ) (b : Bool) → j ≤ behind_if b j
    on_by j true = omega arith
    on_by j false = omega arith

    within_by : (ts : List Lexeme) (j : ℕ) → j ≤ length ts → (b : Bool) → is_sign_at ts (codes ";") j ≡ b → behind_if b j ≤ length ts
    within_by ts j start true e = omega (arith, stands_before (is_sign (codes ";")) ts j e)
    within_by ts j start false e = start

pub conjuncts_told : {Is : ℕ → Type 0} (i : ℕ) → Told Is ends_at 0 i (λ ts n. conjuncts_read ts n i)
unfolding conjuncts_read
conjuncts_told i = choice (λ ts. is_sign_at ts (codes "}") i) (λ ts us same. same_stands (is_sign (codes "}")) ts us (i + 1) i (omega arith) same) (whole i (λ ts. []) (λ ts us same. refl))
    (loosen 0 (omega arith) (sequence (expr_told i) (λ e a. listed_told goes_on 1 behind_semicolon (λ ts n j. conjunct_read ts n j) conjuncts_listed (e.0 ∷ []) e.1)))

block_told : {Is : ℕ → Type 0} (i : ℕ) → Told Is ends_at 1 i (λ ts n. block_read ts n i)
unfolding block_read
block_told i = loosen 1 (omega arith) (braced_told (codes "{") brace_opens i (λ x a. sequence (lowered (conjuncts_told x)) (λ es b. sequence (token_told (is_sign (codes "}")) es.1)
    (λ end c. ends_with i end (omega (arith, a, b, c)) (λ span. record { exprs = es.0; span = span })))))

clause_told : {Is : ℕ → Type 0} (text : List ℕ) (i : ℕ) → Told Is ends_at 0 i (λ ts n. clause_read ts text n i)
unfolding clause_read
clause_told text i = optional_told (is_word text) i (sequence (block_told (i + 1)) (λ b a. whole b.1 (λ ts. Some b.0) (λ ts us same. refl))) (whole i (λ ts. None) (λ ts us same. refl))

body_told : {Is : ℕ → Type 0} (i : ℕ) → Told Is ends_at 1 i (λ ts n. body_read ts n i)
unfolding body_read
body_told i = sequence (all_vars_told i) (λ vs a. sequence (domains_told vs.1) (λ ds b. sequence (clause_told (codes "when") ds.1) (λ when c. sequence (clause_told (codes "where") when.1)
    (λ wheres d. whole wheres.1 (λ ts. record { vars = vs.0; domains = ds.0; when = when.0; wheres = wheres.0 }) (λ ts us same. refl)))))

pub relation_told : {Is : ℕ → Type 0} (i : ℕ) → Told Is ends_at 1 i (λ ts n. relation_read ts n i)
unfolding relation_read
relation_told i = loosen 1 (omega arith) (sequence (skip_told i (λ ts. is_word_at ts (codes "top") i) (λ ts us same. word_same (codes "top") ts us i (i + 1) (omega arith) same) (λ ts e. word_within ts (codes "top") i e))
    (λ k a. sequence (token_told (is_word (codes "relation")) k) (λ first b. sequence (name_told first) (λ x c. braced_told (codes "{") brace_opens x.1 (λ inside d. sequence (lowered (body_told inside)) (λ body f. sequence (token_told (is_sign (codes "}")) body.1)
    (λ end g. whole end (λ ts. relation_of (is_word_at ts (codes "top") i) x.0 body.0 ts i end) (λ ts us same.
    let less : i < end = omega (arith, a, b, c, d, f, g) in
    rw (word_same (codes "top") ts us i (end + 1) (omega (arith, less)) same, same_span ts us i end less (same_less ts us end (end + 1) (omega arith) same)) refl))))))))

-- ---- transformations

params_told : {Is : ℕ → Type 0} (i : ℕ) → Told Is ends_at 1 i (λ ts n. params_read ts n i)
unfolding params_read
params_told i = loosen 1 (omega arith) (braced_told (codes "(") parenthesis_opens i (λ x a. sequence (lowered (any_told (codes ")") (λ ts n j. param_read ts n j) (λ j. param_told j) x)) (λ ps b. sequence (token_told (is_sign (codes ")")) ps.1)
    (λ end c. whole end (λ ts. ps.0) (λ ts us same. refl)))))

query_body_told : {Is : ℕ → Type 0} (i : ℕ) → Told Is ends_at 1 i (λ ts n. query_body_read ts n i)
unfolding query_body_read
query_body_told i = loosen 1 (omega arith) (braced_told (codes "{") brace_opens i (λ x a. sequence (lowered (expr_told x)) (λ e b. sequence (token_told (is_sign (codes "}")) e.1) (λ end c. whole end (λ ts. e.0) (λ ts us same. refl)))))

pub query_told : {Is : ℕ → Type 0} (i : ℕ) → Told Is ends_at 1 i (λ ts n. query_read ts n i)
unfolding query_read
query_told i = loosen 1 (omega arith) (sequence (token_told (is_word (codes "query")) i) (λ first a. sequence (name_told first) (λ x b. sequence (params_told x.1) (λ ps c. sequence (token_told (is_sign (codes ":")) ps.1) (λ colon d. sequence (type_told colon)
    (λ ty f. sequence (query_body_told ty.1) (λ body g. whole body.1 (λ ts. record { name = x.0; params = ps.0; result = ty.0; body = body.0 }) (λ ts us same. refl))))))))

pub declaration_told : {Is : ℕ → Type 0} (i : ℕ) → Told Is ends_at 1 i (λ ts n. declaration_read ts n i)
unfolding declaration_read
declaration_told i = choice (λ ts. is_word_at ts (codes "key") i) (λ ts us same. word_same (codes "key") ts us i (i + 1) (omega arith) same)
    (sequence (key_told i) (λ k a. whole k.1 (λ ts. declarations.Key k.0) (λ ts us same. refl)))
    (choice (λ ts. is_word_at ts (codes "query") i) (λ ts us same. word_same (codes "query") ts us i (i + 1) (omega arith) same)
    (sequence (query_told i) (λ q a. whole q.1 (λ ts. declarations.Query q.0) (λ ts us same. refl)))
    (sequence (relation_told i) (λ r a. whole r.1 (λ ts. declarations.Relation r.0) (λ ts us same. refl))))

pub declaration_test : Test begins_declaration
declaration_test = record {
  there = λ ts j e. (declaration_loop ts 0).within j e;
  seen = λ ts us j same. rw (
    word_same (codes "key") ts us j (j + 1) (omega arith) same,
    word_same (codes "query") ts us j (j + 1) (omega arith) same,
    word_same (codes "top") ts us j (j + 1) (omega arith) same,
    word_same (codes "relation") ts us j (j + 1) (omega arith) same,
  ) refl;
}

models_told : {Is : ℕ → Type 0} (i : ℕ) → Told Is ends_at 1 i (λ ts n. models_read ts n i)
unfolding models_read
models_told i = loosen 1 (omega arith) (braced_told (codes "(") parenthesis_opens i (λ x a. sequence (some_told (λ ts n j. model_read ts j) (λ j. model_told j) x) (λ ms b. sequence (token_told (is_sign (codes ")")) ms.1)
    (λ end c. whole end (λ ts. ms.0) (λ ts us same. refl)))))

declarations_told : {Is : ℕ → Type 0} (i : ℕ) → Told Is ends_at 1 i (λ ts n. declarations_read ts n i)
unfolding declarations_read
declarations_told i = loosen 1 (omega arith) (braced_told (codes "{") brace_opens i
    (λ x a. sequence (lowered (each_told begins_declaration declaration_test 0 (omega arith) (λ ts n j. declaration_read ts n j) (λ j. here_told j (declaration_told j)) [] x)) (λ ds b. sequence (token_told (is_sign (codes "}")) ds.1)
    (λ end c. whole end (λ ts. ds.0) (λ ts us same. refl)))))

abbrev ended_by : ℕ → Script → Bool → Read Script
ended_by at s b = if b then Ok (s, at) else Err (stops.Stuck at)

-- the end of the text
pub end_told : {Is : ℕ → Type 0} (i at : ℕ) → i < at → (f : Span → Script) → Told Is ends_at 0 at (λ ts n. end_read ts (f (span_at ts i at)) at)
end_told {Is} i at less f = record {
  on = λ ts n is. on_by ts (length ts == at);
  further = λ ts n is y e. further_by ts (length ts == at) y e;
  within = λ ts n is start. within_by ts start (length ts == at);
  alike = λ ts us n w is same levels. alike_by ts us (length ts == at) refl same;
  opens = λ ts n is k e. opens_by ts (length ts == at) k e;
}
  where
    on_by : (ts : List Lexeme) (b : Bool) → at ≤ number_of ends_at (ended_by at (f (span_at ts i at)) b)
    on_by ts true = omega arith
    on_by ts false = omega arith

    further_by : (ts : List Lexeme) (b : Bool) (y : Script × ℕ) → ended_by at (f (span_at ts i at)) b ≡ Ok y → at + 0 ≤ y.1
    further_by ts true y e = let here : at ≡ y.1 = cc in omega arith
    further_by ts false y e = cc

    within_by : (ts : List Lexeme) → at ≤ length ts → (b : Bool) → number_of ends_at (ended_by at (f (span_at ts i at)) b) ≤ length ts
    within_by ts start true = start
    within_by ts start false = start

    long : (ts us : List Lexeme) → Same ts us (at + 1) → length (take (at + 1) us) ≡ length (take (at + 1) ts)
    long ts us same = ap length same

    alike_by : (ts us : List Lexeme) (b : Bool) → (length ts == at) ≡ b → Same ts us (number_of ends_at (ended_by at (f (span_at ts i at)) b) + 1)
        → ended_by at (f (span_at us i at)) (length us == at) ≡ ended_by at (f (span_at ts i at)) b
    alike_by ts us true e same =
        let here : length ts ≡ at = grind (arith, nat_tests) in
        let there : length us ≡ at = omega (arith, here, long ts us same, length-take (at + 1) us, length-take (at + 1) ts) in
        let t : (length us == at) ≡ true = grind (arith, nat_tests) in
        rw (t, same_span ts us i at less (same_less ts us at (at + 1) (omega arith) same)) refl
    alike_by ts us false e same =
        let here : length ts ≡ at → ⊥ = λ h. apart_number ts h e in
        let t : (length us == at) ≡ false = by (length us == at) refl in
        rw t refl
      where
        apart_number : (ts : List Lexeme) → length ts ≡ at → (length ts == at) ≡ false → ⊥
        apart_number ts h e = grind (arith, nat_tests)

        by : (c : Bool) → (length us == at) ≡ c → c ≡ false
        by true g =
            let there : length us ≡ at = grind (arith, nat_tests) in
            let back : length ts ≡ at = omega (arith, there, long ts us same, length-take (at + 1) us, length-take (at + 1) ts) in
            absurd (apart_number ts back e)
        by false g = refl

    opens_by : (ts : List Lexeme) (b : Bool) (k : ℕ) → ended_by at (f (span_at ts i at)) b ≡ Err (stops.Deep k) → stands opens ts k ≡ true
    opens_by ts true k e = cc
    opens_by ts false k e = cc

pub script_told : Told (λ n. Unit {0}) ends_at 1 0 (λ ts n. script_read ts n)
unfolding script_read
script_told = loosen 1 (omega arith) (sequence (token_told (is_word (codes "transformation")) 0) (λ first a. sequence (name_told first) (λ x b. sequence (models_told x.1) (λ ms c. sequence (declarations_told ms.1)
    (λ ds d. end_told 0 ds.1 (omega (arith, a, b, c, d)) (λ span. record { name = x.0; models = ms.0; declarations = ds.0; span = span }))))))
