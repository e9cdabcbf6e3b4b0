-- What is spelled is read: templates and their items.
use Rattle.std.proofs.Common.{◌≡◌, ℕ, ◌+◌, ◌-◌, ◌≤◌, Bool, true, false, ◌||◌, ◌&&◌, List, [], ◌∷◌, map, Option, Some, None, Ok, ap, sym, ◌∙◌, refl, subst, arith, true≢false}
use Rattle.std.specs.Prelude.{codes}
use Rattle.std.specs.Str.{chars}
use Rattle.mof_metamodel.specs.declared.span.Span.{Span}
use Rattle.qv_syntax.specs.declared.expr.Expr.{Expr}
use Rattle.qv_syntax.specs.declared.expr.Expr.TheVariants as exprs
use Rattle.qv_syntax.specs.declared.name.Name.{Name}
use Rattle.qv_syntax.specs.declared.name.Path.{Path}
use Rattle.qv_syntax.specs.declared.script.TemplateTree.{TemplateTree, roll-TemplateTree, ind-TemplateTree}
use Rattle.qv_syntax.specs.declared.script.ItemTree.{ItemTree, roll-ItemTree}
use Rattle.qv_syntax.specs.declared.script.ItemValueTree.{ItemValueTree, roll-ItemValueTree, map-ItemValueTree}
use Rattle.qv_syntax.specs.declared.script.ItemValueTree.TheOpen as of
use Rattle.qv_syntax.specs.declared.script.ItemValueTree.TheVariants as values
use Rattle.qv_syntax.specs.declared.script.ItemValueTree.TheVariants.{rolls-Expr, rolls-Nested}
use Rattle.ql_lex.specs.declared.token.TokenKind.{TokenKind}
use Rattle.ql_lex.specs.declared.token.TokenKind.TheVariants as kinds
use Rattle.ql_lex.specs.Lexed.{Lexeme}
use Rattle.ql_lex.specs.Lexemes.{is_name, is_sign, name_text, stands}
use Rattle.ql_lex.specs.Unquoting.{unquoted}
use Rattle.ql_lex.proofs.TokenLaws.{same_span, same_text, stands_some}
use Rattle.ocl_parser.specs.Followers.{follows}
use Rattle.ocl_parser.specs.Pieces.{Piece, ◌▸◌, name, nested, spanned, separated, sign}
use Rattle.ocl_parser.specs.Grammar.{class_path, spelled}
use Rattle.ocl_parser.specs.Moves.{path_of}
use Rattle.ocl_parser.specs.Runs.{Stuck, Tree, answer}
use Rattle.ocl_parser.proofs.CompletePieces.{at_span, parts, taken}
use Rattle.ocl_parser.proofs.CompleteLists.{AllOf, all_of}
use Rattle.ocl_parser.proofs.CompleteRuns.{there}
use Rattle.ocl_parser.proofs.FollowLaws.{colon_stuck, name_ends, tree_before}
use Rattle.qvtr_parser.specs.Grammar.{expr, item, item_value, template}
use Rattle.qvtr_parser.specs.ScriptReadings.{begins_template, is_any_name, is_name_at, is_sign_at, item_by, items_by, items_read, template_read, value_read}
use Rattle.qvtr_parser.proofs.ApartLaws.{AreApart, apart_at, name_no_sign, named_at, passes_too, signs_apart}
use Rattle.qvtr_parser.proofs.CompleteLists.{IsReadFrom, any_reads}
use Rattle.ocl_parser.proofs.ReadingComplete.{Reads, braced, expr_reads, name_reads, path_reads, sign_reads}
use Rattle.qvtr_parser.proofs.TemplateFound.{item_is, template_is, value_expr, value_nested}
use Rattle.qvtr_parser.proofs.TemplateLaws.{unrolled}

-- ---- what begins a template

abbrev of_kind : TokenKind → List ℕ → Span → Lexeme
of_kind kind text span = record { token = record { kind = kind; span = span }; text = text }

name_of : (l : Lexeme) → is_any_name l ≡ true → (x : Name) × (is_name x l ≡ true)
unfolding name_text
name_of l e = by l.token.kind l.text l.token.span e
  where
    by : (kind : TokenKind) (text : List ℕ) (span : Span) → is_any_name (of_kind kind text span) ≡ true → (x : Name) × (is_name x (of_kind kind text span) ≡ true)
    by kinds.Name text span h = (record { text = chars text; span = span }, rw (same_text (chars text), same_span span) refl)
    by kinds.Quoted text span h = (record { text = unquoted (chars text); span = span }, rw (same_text (unquoted (chars text)), same_span span) refl)
    by kinds.Reserved text span h = absurd (true≢false (sym h))
    by kinds.Number text span h = absurd (true≢false (sym h))
    by kinds.Str text span h = absurd (true≢false (sym h))
    by kinds.Sign text span h = absurd (true≢false (sym h))

-- the name that a token is
pub name_at_is : (ts : List Lexeme) (i : ℕ) → stands is_any_name ts i ≡ true → (x : Name) × (stands (is_name x) ts i ≡ true)
name_at_is ts i e =
    let t = there is_any_name ts i e in
    let x = name_of t.0 t.2 in
    (x.0, stands_some (is_name x.0) ts i t.0 t.1 ∙ x.1)

colon_no_follower : AreApart (is_sign (codes ":")) follows
colon_no_follower l e = rw (signs_apart (codes ":") (codes "}") refl l e, signs_apart (codes ":") (codes ",") refl l e, signs_apart (codes ":") (codes ";") refl l e) refl

end_of_tree : (d e : Expr) (i j : ℕ) → Tree d i ≡ Tree e j → i ≡ j
end_of_tree d e i j h = cc

no_tree : (e : Expr) (i j : ℕ) {X : Type 0} → Stuck i ≡ Tree e j → X
no_tree e i j h = cc

-- what an expression begins with begins no template
no_template : (ts : List Lexeme) (e : Expr) (n i j : ℕ) → spelled ts n e i ≡ Some j → stands follows ts j ≡ true → begins_template ts i ≡ false
no_template ts e n i j h f = by (is_sign_at ts (codes ":") i) refl (is_name_at ts i) refl (is_sign_at ts (codes ":") (i + 1)) refl
  where
    tree : answer ts n i ≡ Tree e j
    tree = tree_before ts n n i j e (omega arith) h f

    by : (a : Bool) → is_sign_at ts (codes ":") i ≡ a → (b : Bool) → is_name_at ts i ≡ b → (c : Bool) → is_sign_at ts (codes ":") (i + 1) ≡ c → (a || b && c) ≡ false
    by true p b q c r = no_tree e i j (sym (colon_stuck ts n i p) ∙ tree)
    by false p true q true r =
        let x = name_at_is ts i q in
        let end : i + 1 ≡ j = end_of_tree (exprs.Named (path_of x.0)) e (i + 1) j (sym (name_ends ts n i x.0 x.1 r) ∙ tree) in
        let no : stands follows ts j ≡ false = ap (stands follows ts) (sym end) ∙ apart_at (is_sign (codes ":")) follows colon_no_follower ts (i + 1) r in
        absurd (true≢false (sym f ∙ no))
    by false p true q false r = refl
    by false p false q c r = refl

-- ---- values, items and templates

abbrev Follower : List Lexeme → ℕ → Type 0
Follower ts j = stands follows ts j ≡ true

abbrev IsValueRead : List Lexeme → ItemValueTree → Type 0
IsValueRead ts v = (n i j : ℕ) → item_value ts v n i ≡ Some j → Follower ts j → Reads (value_read ts (template_read ts n) n) v i j

abbrev item_piece : List Lexeme → ItemTree → Piece
item_piece ts it = name ts it.prop ▸ sign ts (codes "=") ▸ item_value ts it.value

abbrev IsItemRead : List Lexeme → ItemTree → Type 0
IsItemRead ts it = (n : ℕ) → IsReadFrom (Follower ts) (item_by ts (template_read ts n) n) (item ts) n it

-- a template is read, and begins with a colon
record ReadTemplate (ts : List Lexeme) (t : TemplateTree) (n i j : ℕ) : Type 0 where
  reads : Reads (template_read ts n) t i j
  colon : stands (is_sign (codes ":")) ts i ≡ true

abbrev IsTemplateRead : List Lexeme → TemplateTree → Type 0
IsTemplateRead ts t = (n i j : ℕ) → template ts t n i ≡ Some j → ReadTemplate ts t n i j

value_of_expr : (ts : List Lexeme) (e : Expr) → IsValueRead ts (values.Expr e)
unfolding spelled
value_of_expr ts e n i j h f =
    let s : expr ts e n i ≡ Some j = ap (λ (p : Piece). p n i) (sym (value_expr ts e)) ∙ h in
    let r = expr_reads ts e n i j s f in
    record { read = rw (no_template ts e n i j s f, r.read) refl; further = r.further }

value_of_template : (ts : List Lexeme) (variable : Option Name) (t : TemplateTree) → IsTemplateRead ts t → IsValueRead ts (values.Nested variable t)
value_of_template ts None t ih n i j h f =
    let s : template ts t n i ≡ Some j = ap (λ (p : Piece). p n i) (sym (value_nested ts None t)) ∙ h in
    let r = ih n i j s in
    record { read = rw (r.colon, r.reads.read) refl; further = r.reads.further }
value_of_template ts (Some x) t ih n i j h f =
    let s : (name ts x ▸ template ts t) n i ≡ Some j = ap (λ (p : Piece). p n i) (sym (value_nested ts (Some x) t)) ∙ h in
    let a = parts (name ts x) (template ts t) n i j s in
    let b = name_reads ts x n i a.0 a.1 in
    let c = taken (is_name x) ts n i a.0 a.1 in
    let r = ih n a.0 j a.2 in
    let first : is_sign_at ts (codes ":") i ≡ false = apart_at (is_name x) (is_sign (codes ":")) (name_no_sign x (codes ":")) ts i c.0 in
    let second : is_sign_at ts (codes ":") (i + 1) ≡ true = ap (stands (is_sign (codes ":")) ts) (sym c.1) ∙ r.colon in
    record { read = rw (first, named_at ts x i c.0, second, b.0, r.reads.read) refl; further = omega (arith, b.1, r.reads.further) }

item_reads : (ts : List Lexeme) (it : ItemTree) → IsValueRead ts it.value → IsItemRead ts it
unfolding item_by
item_reads ts it ih n i j h f =
    let s : item_piece ts it n i ≡ Some j = ap (λ (p : Piece). p n i) (sym (item_is ts it.prop it.value)) ∙ h in
    let a = parts (name ts it.prop ▸ sign ts (codes "=")) (item_value ts it.value) n i j s in
    let b = parts (name ts it.prop) (sign ts (codes "=")) n i a.0 a.1 in
    let x = name_reads ts it.prop n i b.0 b.1 in
    let c = sign_reads ts (codes "=") n b.0 a.0 b.2 in
    let r = ih n a.0 j a.2 f in
    record { read = rw (x.0, c.0, r.read) refl; further = omega (arith, x.1, c.1, r.further) }

item_begins : (ts : List Lexeme) (n : ℕ) (it : ItemTree) (i j : ℕ) → item ts it n i ≡ Some j → stands (is_sign (codes "}")) ts i ≡ false
item_begins ts n it i j h =
    let s : item_piece ts it n i ≡ Some j = ap (λ (p : Piece). p n i) (sym (item_is ts it.prop it.value)) ∙ h in
    let a = parts (name ts it.prop ▸ sign ts (codes "=")) (item_value ts it.value) n i j s in
    let b = parts (name ts it.prop) (sign ts (codes "=")) n i a.0 a.1 in
    apart_at (is_name it.prop) (is_sign (codes "}")) (name_no_sign it.prop (codes "}")) ts i (taken (is_name it.prop) ts n i b.0 b.1).0

comma_follows : (l : Lexeme) → is_sign (codes ",") l ≡ true → follows l ≡ true
comma_follows l e = rw (signs_apart (codes ",") (codes "}") refl l e, e) refl

pub brace_follows : (l : Lexeme) → is_sign (codes "}") l ≡ true → follows l ≡ true
brace_follows l e = rw e refl

items_read_by : (ts : List Lexeme) (its : List ItemTree) → AllOf (IsItemRead ts) its → (n : ℕ) → AllOf (IsReadFrom (Follower ts) (item_by ts (template_read ts n) n) (item ts) n) its
items_read_by ts [] all n = tt
items_read_by ts (it ∷ its) all n = (all.0 n, items_read_by ts its all.1 n)

items_all_read : (ts : List Lexeme) (its : List ItemTree) → AllOf (IsItemRead ts) its → (n i j : ℕ) → separated ts (codes ",") (map (item ts) its) n i ≡ Some j → stands (is_sign (codes "}")) ts j ≡ true
    → (items_read ts n i ≡ Ok (its, j)) × (i ≤ j)
unfolding items_by
items_all_read ts its all n i j h closes =
    any_reads ts (Follower ts) (codes "}") (item_by ts (template_read ts n) n) (item ts) n
    (λ k comma. passes_too (is_sign (codes ",")) follows comma_follows ts k comma) (item_begins ts n) its (items_read_by ts its all n) i j h closes
    (apart_at (is_sign (codes "}")) (is_sign (codes ",")) (signs_apart (codes "}") (codes ",") refl) ts j closes) (passes_too (is_sign (codes "}")) follows brace_follows ts j closes)

template_reads_by : (ts : List Lexeme) (class : Path) (its : List ItemTree) (span : Span) → AllOf (IsItemRead ts) its → IsTemplateRead ts (roll-TemplateTree (record { class = class; items = its; span = span }))
template_reads_by ts class its span all n i j h =
    let items : Piece = separated ts (codes ",") (map (item ts) its) in
    let braces : Piece = nested (sign ts (codes "{") ▸ items ▸ sign ts (codes "}")) in
    let s : spanned ts span (sign ts (codes ":") ▸ class_path ts class ▸ braces) n i ≡ Some j = ap (λ (p : Piece). p n i) (sym (template_is ts class its span)) ∙ h in
    let a = at_span ts span (sign ts (codes ":") ▸ class_path ts class ▸ braces) n i j s in
    let b = parts (sign ts (codes ":") ▸ class_path ts class) braces n i j a.0 in
    let c = parts (sign ts (codes ":")) (class_path ts class) n i b.0 b.1 in
    let colon = sign_reads ts (codes ":") n i c.0 c.1 in
    let d = braced ts (codes "{") (codes "}") items n b.0 j b.2 in
    let p = path_reads ts class n c.0 b.0 c.2 (apart_at (is_sign (codes "{")) (is_sign (codes "::")) (signs_apart (codes "{") (codes "::") refl) ts b.0 d.opening) in
    let r = items_all_read ts its all d.inside (b.0 + 1) d.close d.inner d.closing in
    let within : items_read ts (n - 1) (b.0 + 1) ≡ Ok (its, d.close) = ap (λ (m : ℕ). items_read ts m (b.0 + 1)) d.less ∙ r.0 in
    record {
      reads = record {
        read = sym (unrolled ts n i) ∙ rw (colon.0, p.read, d.opens, within, d.closes) (ap (λ (x : Span). Ok (roll-TemplateTree (record { class = class; items = its; span = x }), j)) (sym a.1));
        further = omega (arith, colon.1, p.further, r.1, d.end);
      };
      colon = (taken (is_sign (codes ":")) ts n i c.0 c.1).0;
    }

-- ---- by induction on templates

abbrev ReadValue : List Lexeme → Type 0
ReadValue ts = (v : ItemValueTree) × IsValueRead ts v

abbrev ReadItem : List Lexeme → Type 0
ReadItem ts = (it : ItemTree) × IsItemRead ts it

abbrev ReadNested : List Lexeme → Type 0
ReadNested ts = (t : TemplateTree) × IsTemplateRead ts t

value_formed : (ts : List Lexeme) (y : of.ItemValueTree-F (ReadValue ts) (ReadItem ts) (ReadNested ts))
    → IsValueRead ts (roll-ItemValueTree (map-ItemValueTree (ReadValue ts) (ReadItem ts) (ReadNested ts) ItemValueTree ItemTree TemplateTree (λ e. e.0) (λ e. e.0) (λ e. e.0) y))
value_formed ts (of.Expr e) = subst (IsValueRead ts) (sym (rolls-Expr e)) (value_of_expr ts e)
value_formed ts (of.Nested variable t) = subst (IsValueRead ts) (sym (rolls-Nested variable t.0)) (value_of_template ts variable t.0 t.1)

pub template_reads : (ts : List Lexeme) (t : TemplateTree) (n i j : ℕ) → template ts t n i ≡ Some j → Reads (template_read ts n) t i j
template_reads ts t n i j h = (ind-TemplateTree (IsValueRead ts) (IsItemRead ts) (IsTemplateRead ts)
    (λ x y is. subst (λ d. IsValueRead ts (roll-ItemValueTree d)) is (value_formed ts y))
    (λ x y is. subst (λ d. IsItemRead ts (roll-ItemTree d)) is (item_reads ts (record { prop = y.prop; value = y.value.0 }) y.value.1))
    (λ x y is. subst (λ d. IsTemplateRead ts (roll-TemplateTree d)) is (template_reads_by ts y.class (map (λ e. e.0) y.items) y.span (all_of (IsItemRead ts) y.items))) t n i j h).reads
