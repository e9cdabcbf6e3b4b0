-- What is spelled is read, production by production.
use Rattle.std.proofs.Common.{◌≡◌, ℕ, ◌+◌, ◌<◌, ◌≤◌, Bool, true, false, ◌||◌, nat_lt, List, [], ◌∷◌, map, length, Option, Some, None, Ok, ap, sym, ◌∙◌, refl, arith}
use Rattle.std.specs.Prelude.{codes}
use Rattle.mof_metamodel.specs.declared.span.Span.{Span}
use Rattle.qv_syntax.specs.declared.name.Name.{Name}
use Rattle.qv_syntax.specs.declared.query.ParamTree.{ParamTree}
use Rattle.qv_syntax.specs.declared.script.ModelTree.{ModelTree}
use Rattle.qv_syntax.specs.declared.script.KeyTree.{KeyTree}
use Rattle.qv_syntax.specs.declared.script.VarsTree.{VarsTree}
use Rattle.qv_syntax.specs.declared.script.DomainMark.{DomainMark}
use Rattle.qv_syntax.specs.declared.script.DomainMark.TheVariants as marks
use Rattle.qv_syntax.specs.declared.script.DomainTree.{DomainTree}
use Rattle.qv_syntax.specs.declared.script.DomainTree.TheVariants as domains
use Rattle.ql_lex.specs.Lexed.{Lexeme}
use Rattle.ql_lex.specs.Lexemes.{is_name, is_sign, is_word, stands}
use Rattle.ocl_parser.specs.Pieces.{Piece, ◌▸◌, sign, word, name, nested, each, separated}
use Rattle.ocl_parser.specs.Grammar.{class_path, type_of}
use Rattle.ocl_parser.specs.Readings.{name_read, word_read}
use Rattle.ocl_parser.proofs.CompletePieces.{at_span, held, parts, taken}
use Rattle.qvtr_parser.specs.Grammar.{domain, key, model, optional_mark, param, some_domains, some_with_commas, template, vars}
use Rattle.qvtr_parser.specs.Lists.{comma_at, left}
use Rattle.qvtr_parser.specs.ScriptReadings.{all_vars_read, begins_domain, behind_if, domain_read, domains_read, is_any_name, is_marked, is_name_at, is_word_at, key_read, mark_at, model_read, names_read, param_read, pattern_read, primitive_read, props_read, vars_read}
use Rattle.qvtr_parser.proofs.ApartLaws.{AreApart, apart_at, named_at, signs_apart, word_no_name, words_apart}
use Rattle.qvtr_parser.proofs.CompleteLists.{IsReadFrom, Loop, each_of, each_reads, from_here, some_reads, stands_before}
use Rattle.qvtr_parser.proofs.CompleteTemplates.{template_reads}
use Rattle.ocl_parser.proofs.ReadingComplete.{Follows, Reads, braced, name_reads, path_reads, sign_reads, type_reads, word_reads}

-- anything may follow
abbrev Anything : ℕ → Type 0
Anything j = Unit {0}

-- a sign that is no `::` follows
pub no_colons : (text : List ℕ) (ts : List Lexeme) (n i j : ℕ) → sign ts text n i ≡ Some j → AreApart (is_sign text) (is_sign (codes "::")) → Follows ts i
no_colons text ts n i j e apart = apart_at (is_sign text) (is_sign (codes "::")) apart ts i (taken (is_sign text) ts n i j e).0

-- ---- names, parameters, models and keys

pub names_complete : (ts : List Lexeme) (xs : List Name) (n i j : ℕ) → some_with_commas ts (map (name ts) xs) n i ≡ Some j → comma_at ts j ≡ false → Reads (names_read ts) xs i j
unfolding names_read some_with_commas
names_complete ts [] n i j e ends = cc
names_complete ts (x ∷ xs) n i j e ends =
    let a = held (nat_lt 0 (length (map (name ts) (x ∷ xs)))) (separated ts (codes ",") (map (name ts) (x ∷ xs))) n i j e in
    let r = some_reads ts Anything (name_read ts) (name ts) n (λ k comma. tt) x xs
    (each_of (IsReadFrom Anything (name_read ts) (name ts) n) (λ y k l h last. (let b = name_reads ts y n k l h in record { read = b.0; further = omega (arith, b.1) })) (x ∷ xs)) i j a.1 ends tt in
    record { read = r.read; further = r.further }

pub param_complete : (ts : List Lexeme) (p : ParamTree) (n i j : ℕ) → param ts p n i ≡ Some j → Follows ts j → Reads (param_read ts n) p i j
unfolding param_read param
param_complete ts p n i j e follow =
    let a = parts (name ts p.name ▸ sign ts (codes ":")) (type_of ts p.ty) n i j e in
    let b = parts (name ts p.name) (sign ts (codes ":")) n i a.0 a.1 in
    let x = name_reads ts p.name n i b.0 b.1 in
    let c = sign_reads ts (codes ":") n b.0 a.0 b.2 in
    let t = type_reads p.ty ts n a.0 j a.2 follow in
    record { read = rw (x.0, c.0, t.read) refl; further = omega (arith, x.1, c.1, t.further) }

pub model_complete : (ts : List Lexeme) (m : ModelTree) (n i j : ℕ) → model ts m n i ≡ Some j → Reads (model_read ts) m i j
unfolding model_read model
model_complete ts m n i j e =
    let a = parts (name ts m.name ▸ sign ts (codes ":")) (name ts m.meta) n i j e in
    let b = parts (name ts m.name) (sign ts (codes ":")) n i a.0 a.1 in
    let x = name_reads ts m.name n i b.0 b.1 in
    let c = sign_reads ts (codes ":") n b.0 a.0 b.2 in
    let y = name_reads ts m.meta n a.0 j a.2 in
    record { read = rw (x.0, c.0, y.0) refl; further = omega (arith, x.1, c.1, y.1) }

pub props_complete : (ts : List Lexeme) (xs : List Name) (n i j : ℕ) → nested (sign ts (codes "{") ▸ some_with_commas ts (map (name ts) xs) ▸ sign ts (codes "}")) n i ≡ Some j
    → Reads (props_read ts n) xs i j
unfolding props_read
props_complete ts xs n i j e =
    let b = braced ts (codes "{") (codes "}") (some_with_commas ts (map (name ts) xs)) n i j e in
    let r = names_complete ts xs b.inside (i + 1) b.close b.inner (apart_at (is_sign (codes "}")) (is_sign (codes ",")) (signs_apart (codes "}") (codes ",") refl) ts b.close b.closing) in
    record { read = rw (b.opens, r.read, b.closes) refl; further = omega (arith, r.further, b.end) }

pub key_complete : (ts : List Lexeme) (k : KeyTree) (n i j : ℕ) → key ts k n i ≡ Some j → Reads (key_read ts n) k i j
unfolding key_read key
key_complete ts k n i j e =
    let props : Piece = nested (sign ts (codes "{") ▸ some_with_commas ts (map (name ts) k.props) ▸ sign ts (codes "}")) in
    let s = at_span ts k.span (word ts (codes "key") ▸ class_path ts k.class ▸ props ▸ sign ts (codes ";")) n i j e in
    let a = parts (word ts (codes "key") ▸ class_path ts k.class ▸ props) (sign ts (codes ";")) n i j s.0 in
    let b = parts (word ts (codes "key") ▸ class_path ts k.class) props n i a.0 a.1 in
    let c = parts (word ts (codes "key")) (class_path ts k.class) n i b.0 b.1 in
    let w = word_reads ts (codes "key") n i c.0 c.1 in
    let d = braced ts (codes "{") (codes "}") (some_with_commas ts (map (name ts) k.props)) n b.0 a.0 b.2 in
    let p = path_reads ts k.class n c.0 b.0 c.2 (apart_at (is_sign (codes "{")) (is_sign (codes "::")) (signs_apart (codes "{") (codes "::") refl) ts b.0 d.opening) in
    let q = props_complete ts k.props n b.0 a.0 b.2 in
    let f = sign_reads ts (codes ";") n a.0 j a.2 in
    record {
      read = rw (w.0, p.read, q.read, f.0) (ap (λ (x : Span). Ok (record { class = k.class; props = k.props; span = x }, j)) (sym s.1));
      further = omega (arith, w.1, p.further, q.further, f.1);
    }

pub key_begins : (ts : List Lexeme) (k : KeyTree) (n i j : ℕ) → key ts k n i ≡ Some j → is_word_at ts (codes "key") i ≡ true
unfolding key
key_begins ts k n i j e =
    let props : Piece = nested (sign ts (codes "{") ▸ some_with_commas ts (map (name ts) k.props) ▸ sign ts (codes "}")) in
    let s = at_span ts k.span (word ts (codes "key") ▸ class_path ts k.class ▸ props ▸ sign ts (codes ";")) n i j e in
    let a = parts (word ts (codes "key") ▸ class_path ts k.class ▸ props) (sign ts (codes ";")) n i j s.0 in
    let b = parts (word ts (codes "key") ▸ class_path ts k.class) props n i a.0 a.1 in
    let c = parts (word ts (codes "key")) (class_path ts k.class) n i b.0 b.1 in
    (taken (is_word (codes "key")) ts n i c.0 c.1).0

-- ---- domains

-- a domain's mark is read, up to the word behind it
record Mark (ts : List Lexeme) (mark : Option DomainMark) (i k : ℕ) : Type 0 where
  behind : behind_if (is_marked ts i) i ≡ k
  is : mark_at ts i ≡ mark
  further : i ≤ k
  plain : is_word_at ts (codes "primitive") i ≡ false
  begins : begins_domain ts i ≡ true

mark_complete : (ts : List Lexeme) (mark : Option DomainMark) (n i k : ℕ) → optional_mark ts mark n i ≡ Some k → stands (is_word (codes "domain")) ts k ≡ true → Mark ts mark i k
mark_complete ts None n i k e d =
    let same : i ≡ k = cc in
    let here : is_word_at ts (codes "domain") i ≡ true = ap (stands (is_word (codes "domain")) ts) same ∙ d in
    let first : is_word_at ts (codes "checkonly") i ≡ false = apart_at (is_word (codes "domain")) (is_word (codes "checkonly")) (words_apart (codes "domain") (codes "checkonly") refl) ts i here in
    let second : is_word_at ts (codes "enforce") i ≡ false = apart_at (is_word (codes "domain")) (is_word (codes "enforce")) (words_apart (codes "domain") (codes "enforce") refl) ts i here in
    record {
      behind = rw (first, second) same;
      is = rw (first, second) refl;
      further = omega arith;
      plain = apart_at (is_word (codes "domain")) (is_word (codes "primitive")) (words_apart (codes "domain") (codes "primitive") refl) ts i here;
      begins = rw (first, second, here) refl;
    }
mark_complete ts (Some marks.Checkonly) n i k e d =
    let w = taken (is_word (codes "checkonly")) ts n i k e in
    record {
      behind = rw w.0 (sym w.1);
      is = rw w.0 refl;
      further = omega (arith, w.1);
      plain = apart_at (is_word (codes "checkonly")) (is_word (codes "primitive")) (words_apart (codes "checkonly") (codes "primitive") refl) ts i w.0;
      begins = rw w.0 refl;
    }
mark_complete ts (Some marks.Enforce) n i k e d =
    let w = taken (is_word (codes "enforce")) ts n i k e in
    let first : is_word_at ts (codes "checkonly") i ≡ false = apart_at (is_word (codes "enforce")) (is_word (codes "checkonly")) (words_apart (codes "enforce") (codes "checkonly") refl) ts i w.0 in
    record {
      behind = rw (first, w.0) (sym w.1);
      is = rw (first, w.0) refl;
      further = omega (arith, w.1);
      plain = apart_at (is_word (codes "enforce")) (is_word (codes "primitive")) (words_apart (codes "enforce") (codes "primitive") refl) ts i w.0;
      begins = rw (first, w.0) refl;
    }

-- a domain is read, and begins as one
record ReadDomain (ts : List Lexeme) (d : DomainTree) (n i j : ℕ) : Type 0 where
  reads : Reads (domain_read ts n) d i j
  begins : begins_domain ts i ≡ true

or_last : (a b c d : Bool) → d ≡ true → (a || b || c || d) ≡ true
or_last true b c d e = refl
or_last false true c d e = refl
or_last false false true d e = refl
or_last false false false d e = e

domain_complete : (ts : List Lexeme) (d : DomainTree) (n i j : ℕ) → domain ts d n i ≡ Some j → ReadDomain ts d n i j
unfolding pattern_read primitive_read domain
domain_complete ts (domains.Pattern mark m root pattern span) n i j e =
    let s = at_span ts span (optional_mark ts mark ▸ word ts (codes "domain") ▸ name ts m ▸ name ts root ▸ template ts pattern ▸ sign ts (codes ";")) n i j e in
    let a = parts (optional_mark ts mark ▸ word ts (codes "domain") ▸ name ts m ▸ name ts root ▸ template ts pattern) (sign ts (codes ";")) n i j s.0 in
    let b = parts (optional_mark ts mark ▸ word ts (codes "domain") ▸ name ts m ▸ name ts root) (template ts pattern) n i a.0 a.1 in
    let c = parts (optional_mark ts mark ▸ word ts (codes "domain") ▸ name ts m) (name ts root) n i b.0 b.1 in
    let d = parts (optional_mark ts mark ▸ word ts (codes "domain")) (name ts m) n i c.0 c.1 in
    let f = parts (optional_mark ts mark) (word ts (codes "domain")) n i d.0 d.1 in
    let k = mark_complete ts mark n i f.0 f.1 (taken (is_word (codes "domain")) ts n f.0 d.0 f.2).0 in
    let w = word_reads ts (codes "domain") n f.0 d.0 f.2 in
    let x = name_reads ts m n d.0 c.0 d.2 in
    let y = name_reads ts root n c.0 b.0 c.2 in
    let t = template_reads ts pattern n b.0 a.0 b.2 in
    let z = sign_reads ts (codes ";") n a.0 j a.2 in
    record {
      reads = record {
        read = rw (k.plain, k.behind, w.0, x.0, y.0, t.read, z.0, k.is) (ap (λ (v : Span). Ok (domains.Pattern mark m root pattern v, j)) (sym s.1));
        further = omega (arith, k.further, w.1, x.1, y.1, t.further, z.1);
      };
      begins = k.begins;
    }
domain_complete ts (domains.Primitive root ty span) n i j e =
    let s = at_span ts span (word ts (codes "primitive") ▸ word ts (codes "domain") ▸ name ts root ▸ sign ts (codes ":") ▸ type_of ts ty ▸ sign ts (codes ";")) n i j e in
    let a = parts (word ts (codes "primitive") ▸ word ts (codes "domain") ▸ name ts root ▸ sign ts (codes ":") ▸ type_of ts ty) (sign ts (codes ";")) n i j s.0 in
    let b = parts (word ts (codes "primitive") ▸ word ts (codes "domain") ▸ name ts root ▸ sign ts (codes ":")) (type_of ts ty) n i a.0 a.1 in
    let c = parts (word ts (codes "primitive") ▸ word ts (codes "domain") ▸ name ts root) (sign ts (codes ":")) n i b.0 b.1 in
    let d = parts (word ts (codes "primitive") ▸ word ts (codes "domain")) (name ts root) n i c.0 c.1 in
    let f = parts (word ts (codes "primitive")) (word ts (codes "domain")) n i d.0 d.1 in
    let u = word_reads ts (codes "primitive") n i f.0 f.1 in
    let here = (taken (is_word (codes "primitive")) ts n i f.0 f.1).0 in
    let w = word_reads ts (codes "domain") n f.0 d.0 f.2 in
    let x = name_reads ts root n d.0 c.0 d.2 in
    let y = sign_reads ts (codes ":") n c.0 b.0 c.2 in
    let t = type_reads ty ts n b.0 a.0 b.2 (no_colons (codes ";") ts n a.0 j a.2 (signs_apart (codes ";") (codes "::") refl)) in
    let z = sign_reads ts (codes ";") n a.0 j a.2 in
    record {
      reads = record {
        read = rw (here, ap (word_read ts (codes "domain")) (sym u.1) ∙ w.0, x.0, y.0, t.read, z.0) (ap (λ (v : Span). Ok (domains.Primitive root ty v, j)) (sym s.1));
        further = omega (arith, u.1, w.1, x.1, y.1, t.further, z.1);
      };
      begins = or_last (is_word_at ts (codes "checkonly") i) (is_word_at ts (codes "enforce") i) (is_word_at ts (codes "domain") i) (is_word_at ts (codes "primitive") i) here;
    }

or_within : (ts : List Lexeme) (p q : Bool) (i : ℕ) → (p ≡ true → i < length ts) → (q ≡ true → i < length ts) → (p || q) ≡ true → i < length ts
or_within ts true q i f g e = f refl
or_within ts false q i f g e = g e

pub word_within : (ts : List Lexeme) (text : List ℕ) (i : ℕ) → is_word_at ts text i ≡ true → i < length ts
word_within ts text i e = stands_before (is_word text) ts i e

pub domain_loop : (ts : List Lexeme) (n : ℕ) → Loop ts (begins_domain ts) Anything (domain ts) n
domain_loop ts n = record {
  within = λ j e. or_within ts (is_marked ts j || is_word_at ts (codes "domain") j) (is_word_at ts (codes "primitive") j) j
      (λ f. or_within ts (is_marked ts j) (is_word_at ts (codes "domain") j) j
      (λ g. or_within ts (is_word_at ts (codes "checkonly") j) (is_word_at ts (codes "enforce") j) j (word_within ts (codes "checkonly") j) (word_within ts (codes "enforce") j) g)
      (word_within ts (codes "domain") j) f)
      (word_within ts (codes "primitive") j) (or_apart (is_word_at ts (codes "checkonly") j) (is_word_at ts (codes "enforce") j) (is_word_at ts (codes "domain") j) (is_word_at ts (codes "primitive") j) e);
  begins = λ d i j e last. (domain_complete ts d n i j e).begins;
  between = λ j e. tt;
}
  where
    or_apart : (a b c d : Bool) → ((a || b) || c || d) ≡ true → (((a || b) || c) || d) ≡ true
    or_apart true b c d e = refl
    or_apart false true c d e = refl
    or_apart false false true d e = refl
    or_apart false false false d e = e

pub domains_complete : (ts : List Lexeme) (ds : List DomainTree) (n i j : ℕ) → some_domains ts ds n i ≡ Some j → begins_domain ts j ≡ false
    → Reads (domains_read ts n) ds i j × (is_name_at ts i ≡ false)
unfolding domains_read each
domains_complete ts [] n i j e ends = cc
domains_complete ts (d ∷ ds) n i j e ends =
    let a = held (nat_lt 0 (length (d ∷ ds))) (each (map (domain ts) (d ∷ ds))) n i j e in
    let b = parts (domain ts d) (each (map (domain ts) ds)) n i j a.1 in
    let r = domain_complete ts d n i b.0 b.1 in
    let more = each_reads ts (begins_domain ts) Anything (domain_read ts n) (domain ts) n (domain_loop ts n) ds
    (each_of (IsReadFrom Anything (domain_read ts n) (domain ts) n) (λ x k l h last. (domain_complete ts x n k l h).reads) ds) b.0 j b.2 ends tt (left ts b.0) (d ∷ []) (from_here ts b.0) in
    (record { read = rw (r.reads.read) more.0; further = omega (arith, r.reads.further, more.1) }, no_name r.begins)
  where
    by_word : (text : List ℕ) → is_word_at ts text i ≡ true → is_name_at ts i ≡ false
    by_word text w = apart_at (is_word text) is_any_name (word_no_name text) ts i w

    no_name : begins_domain ts i ≡ true → is_name_at ts i ≡ false
    no_name h = by (is_word_at ts (codes "checkonly") i) refl (is_word_at ts (codes "enforce") i) refl (is_word_at ts (codes "domain") i) refl (is_word_at ts (codes "primitive") i) refl h
      where
        by : (a : Bool) → is_word_at ts (codes "checkonly") i ≡ a → (b : Bool) → is_word_at ts (codes "enforce") i ≡ b → (c : Bool) → is_word_at ts (codes "domain") i ≡ c
            → (d : Bool) → is_word_at ts (codes "primitive") i ≡ d → ((a || b) || c || d) ≡ true → is_name_at ts i ≡ false
        by true p b q c r d s h = by_word (codes "checkonly") p
        by false p true q c r d s h = by_word (codes "enforce") q
        by false p false q true r d s h = by_word (codes "domain") r
        by false p false q false r true s h = by_word (codes "primitive") s
        by false p false q false r false s h = cc

-- ---- relations

vars_complete : (ts : List Lexeme) (v : VarsTree) (n i j : ℕ) → vars ts v n i ≡ Some j → Reads (vars_read ts n) v i j
unfolding vars_read vars
vars_complete ts v n i j e =
    let s = at_span ts v.span (some_with_commas ts (map (name ts) v.names) ▸ sign ts (codes ":") ▸ type_of ts v.ty ▸ sign ts (codes ";")) n i j e in
    let a = parts (some_with_commas ts (map (name ts) v.names) ▸ sign ts (codes ":") ▸ type_of ts v.ty) (sign ts (codes ";")) n i j s.0 in
    let b = parts (some_with_commas ts (map (name ts) v.names) ▸ sign ts (codes ":")) (type_of ts v.ty) n i a.0 a.1 in
    let c = parts (some_with_commas ts (map (name ts) v.names)) (sign ts (codes ":")) n i b.0 b.1 in
    let colon = sign_reads ts (codes ":") n c.0 b.0 c.2 in
    let x = names_complete ts v.names n i c.0 c.1 (apart_at (is_sign (codes ":")) (is_sign (codes ",")) (signs_apart (codes ":") (codes ",") refl) ts c.0 (taken (is_sign (codes ":")) ts n c.0 b.0 c.2).0) in
    let t = type_reads v.ty ts n b.0 a.0 b.2 (no_colons (codes ";") ts n a.0 j a.2 (signs_apart (codes ";") (codes "::") refl)) in
    let z = sign_reads ts (codes ";") n a.0 j a.2 in
    record {
      read = rw (x.read, colon.0, t.read, z.0) (ap (λ (y : Span). Ok (record { names = v.names; ty = v.ty; span = y }, j)) (sym s.1));
      further = omega (arith, x.further, colon.1, t.further, z.1);
    }

vars_begin : (ts : List Lexeme) (n : ℕ) (v : VarsTree) (i j : ℕ) → vars ts v n i ≡ Some j → is_name_at ts i ≡ true
unfolding vars some_with_commas separated
vars_begin ts n v i j e =
    let s = at_span ts v.span (some_with_commas ts (map (name ts) v.names) ▸ sign ts (codes ":") ▸ type_of ts v.ty ▸ sign ts (codes ";")) n i j e in
    let a = parts (some_with_commas ts (map (name ts) v.names) ▸ sign ts (codes ":") ▸ type_of ts v.ty) (sign ts (codes ";")) n i j s.0 in
    let b = parts (some_with_commas ts (map (name ts) v.names) ▸ sign ts (codes ":")) (type_of ts v.ty) n i a.0 a.1 in
    let c = parts (some_with_commas ts (map (name ts) v.names)) (sign ts (codes ":")) n i b.0 b.1 in
    by v.names c.0 c.1
  where
    by : (xs : List Name) (k : ℕ) → some_with_commas ts (map (name ts) xs) n i ≡ Some k → is_name_at ts i ≡ true
    by [] k h = cc
    by (x ∷ xs) k h =
        let a = held (nat_lt 0 (length (map (name ts) (x ∷ xs)))) (separated ts (codes ",") (map (name ts) (x ∷ xs))) n i k h in
        let b = parts (name ts x) (each (map (λ q. sign ts (codes ",") ▸ q) (map (name ts) xs))) n i k a.1 in
        named_at ts x i (taken (is_name x) ts n i b.0 b.1).0

pub all_vars_complete : (ts : List Lexeme) (vs : List VarsTree) (n i j : ℕ) → each (map (vars ts) vs) n i ≡ Some j → is_name_at ts j ≡ false → (all_vars_read ts n i ≡ Ok (vs, j)) × (i ≤ j)
all_vars_complete ts vs n i j e ends = each_reads ts (is_name_at ts) Anything (vars_read ts n) (vars ts) n
    (record { within = λ k g. stands_before is_any_name ts k g; begins = λ x k l h last. vars_begin ts n x k l h; between = λ k g. tt }) vs
    (each_of (IsReadFrom Anything (vars_read ts n) (vars ts) n) (λ x k l h last. vars_complete ts x n k l h) vs) i j e ends tt (left ts i) [] (from_here ts i)
