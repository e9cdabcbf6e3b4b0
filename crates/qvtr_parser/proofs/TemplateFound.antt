-- What is read of a template is spelled.
use Rattle.std.proofs.Common.{◌≡◌, ℕ, zero, suc, ◌-◌, Bool, true, false, List, map, Option, Some, None, Ok, Err, ap, sym, ◌∙◌, refl, subst, arith}
use Rattle.std.specs.Prelude.{codes, if◌then◌else◌}
use Rattle.mof_metamodel.specs.declared.span.Span.{Span}
use Rattle.qv_syntax.specs.declared.expr.Expr.{Expr}
use Rattle.qv_syntax.specs.declared.name.Name.{Name}
use Rattle.qv_syntax.specs.declared.name.Path.{Path}
use Rattle.qv_syntax.specs.declared.script.TemplateTree.{TemplateTree, roll-TemplateTree, fold-roll-TemplateTree}
use Rattle.qv_syntax.specs.declared.script.ItemTree.{ItemTree, fold-roll-ItemTree}
use Rattle.qv_syntax.specs.declared.script.ItemValueTree.{ItemValueTree, fold-roll-ItemValueTree}
use Rattle.qv_syntax.specs.declared.script.ItemValueTree.TheOpen as of
use Rattle.qv_syntax.specs.declared.script.ItemValueTree.TheVariants as values
use Rattle.qv_syntax.specs.declared.script.ItemValueTree.TheVariants.{rolls-Expr, rolls-Nested}
use Rattle.ql_lex.specs.Lexed.{Lexeme}
use Rattle.ql_lex.specs.Lexemes.{span_at}
use Rattle.ql_lex.proofs.TokenLaws.{same_span}
use Rattle.ocl_parser.specs.Pieces.{Piece, ◌▸◌, sign, name, nested, spanned, separated}
use Rattle.ocl_parser.specs.Grammar.{class_path, spelled}
use Rattle.ocl_parser.specs.Readings.{Read, and_then, expr_read, name_read, opening_read, path_read, sign_read}
use Rattle.ocl_parser.specs.declared.halt.Stop.TheVariants as stops
use Rattle.qvtr_parser.proofs.FoundLaws.{expr_found, inverted, name_found, opening_found, path_found, same_ok, sign_found}
use Rattle.ocl_parser.proofs.PieceLaws.{inside}
use Rattle.qvtr_parser.specs.Grammar.{expr, item, item_step, item_value, optional_name, template, template_step, value_step}
use Rattle.qvtr_parser.specs.ScriptReadings.{begins_template, is_sign_at, item_by, items_by, nested_read, template_by, template_read, value_read}
use Rattle.qvtr_parser.proofs.ListLaws.{any_found}

-- ---- the pieces, form by form

pub value_expr : (ts : List Lexeme) (e : Expr) → item_value ts (values.Expr e) ≡ expr ts e
unfolding item_value
value_expr ts e = ap (item_value ts) (sym (rolls-Expr e)) ∙ fold-roll-ItemValueTree Piece Piece Piece (value_step ts) (item_step ts) (template_step ts) (of.Expr e)

pub value_nested : (ts : List Lexeme) (variable : Option Name) (t : TemplateTree) → item_value ts (values.Nested variable t) ≡ optional_name ts variable ▸ template ts t
unfolding item_value template
value_nested ts variable t = ap (item_value ts) (sym (rolls-Nested variable t)) ∙ fold-roll-ItemValueTree Piece Piece Piece (value_step ts) (item_step ts) (template_step ts) (of.Nested variable t)

pub item_is : (ts : List Lexeme) (prop : Name) (value : ItemValueTree) → item ts (record { prop = prop; value = value }) ≡ name ts prop ▸ sign ts (codes "=") ▸ item_value ts value
unfolding item item_value
item_is ts prop value = fold-roll-ItemTree Piece Piece Piece (value_step ts) (item_step ts) (template_step ts) (record { prop = prop; value = value })

pub template_is : (ts : List Lexeme) (class : Path) (items : List ItemTree) (span : Span) → template ts (roll-TemplateTree (record { class = class; items = items; span = span }))
    ≡ spanned ts span (sign ts (codes ":") ▸ class_path ts class ▸ nested (sign ts (codes "{") ▸ separated ts (codes ",") (map (item ts) items) ▸ sign ts (codes "}")))
unfolding template item
template_is ts class items span = fold-roll-TemplateTree Piece Piece Piece (value_step ts) (item_step ts) (template_step ts) (record { class = class; items = items; span = span })

-- ---- what is read is spelled

abbrev pub IsTemplateFound : List Lexeme → (ℕ → Read TemplateTree) → ℕ → Type 0
IsTemplateFound ts inner n = (i : ℕ) (x : TemplateTree × ℕ) → inner i ≡ Ok x → template ts x.0 n i ≡ Some x.1

nested_found : (ts : List Lexeme) (inner : ℕ → Read TemplateTree) (n i : ℕ) (x : ItemValueTree × ℕ) → IsTemplateFound ts inner n → nested_read ts inner i ≡ Ok x
    → item_value ts x.0 n i ≡ Some x.1
nested_found ts inner n i x found e = by (is_sign_at ts (codes ":") i) e
  where
    by : (b : Bool) → (if b then and_then (inner i) (λ t. Ok (values.Nested None t.0, t.1))
        else and_then (name_read ts i) (λ n. and_then (inner n.1) (λ t. Ok (values.Nested (Some n.0) t.0, t.1)))) ≡ Ok x → item_value ts x.0 n i ≡ Some x.1
    by true a =
        let b = inverted (inner i) (λ (t : TemplateTree × ℕ). Ok (values.Nested None t.0, t.1)) x a in
        subst (λ (y : ItemValueTree × ℕ). item_value ts y.0 n i ≡ Some y.1) (same_ok _ x b.2)
        (ap (λ (p : Piece). p n i) (value_nested ts None b.0.0) ∙ found i b.0 b.1)
    by false a =
        let b = inverted (name_read ts i) (λ (m : Name × ℕ). and_then (inner m.1) (λ t. Ok (values.Nested (Some m.0) t.0, t.1))) x a in
        let c = inverted (inner b.0.1) (λ (t : TemplateTree × ℕ). Ok (values.Nested (Some b.0.0) t.0, t.1)) x b.2 in
        subst (λ (y : ItemValueTree × ℕ). item_value ts y.0 n i ≡ Some y.1) (same_ok _ x c.2)
        (ap (λ (p : Piece). p n i) (value_nested ts (Some b.0.0) c.0.0) ∙ rw (name_found ts i b.0 b.1 n) (found b.0.1 c.0 c.1))

value_found : (ts : List Lexeme) (inner : ℕ → Read TemplateTree) (n i : ℕ) (x : ItemValueTree × ℕ) → IsTemplateFound ts inner n → value_read ts inner n i ≡ Ok x
    → item_value ts x.0 n i ≡ Some x.1
unfolding spelled
value_found ts inner n i x found e = by (begins_template ts i) e
  where
    by : (b : Bool) → (if b then nested_read ts inner i else and_then (expr_read ts n i) (λ e. Ok (values.Expr e.0, e.1))) ≡ Ok x → item_value ts x.0 n i ≡ Some x.1
    by true a = nested_found ts inner n i x found a
    by false a =
        let b = inverted (expr_read ts n i) (λ (e : Expr × ℕ). Ok (values.Expr e.0, e.1)) x a in
        subst (λ (y : ItemValueTree × ℕ). item_value ts y.0 n i ≡ Some y.1) (same_ok _ x b.2)
        (ap (λ (p : Piece). p n i) (value_expr ts b.0.0) ∙ expr_found ts n i b.0 b.1)

item_found : (ts : List Lexeme) (inner : ℕ → Read TemplateTree) (n i : ℕ) (x : ItemTree × ℕ) → IsTemplateFound ts inner n → item_by ts inner n i ≡ Ok x → item ts x.0 n i ≡ Some x.1
unfolding item_by
item_found ts inner n i x found e =
    let a = inverted (name_read ts i) _ x e in
    let b = inverted (sign_read ts (codes "=") a.0.1) _ x a.2 in
    let c = inverted (value_read ts inner n b.0) _ x b.2 in
    subst (λ (y : ItemTree × ℕ). item ts y.0 n i ≡ Some y.1) (same_ok _ x c.2)
    (ap (λ (p : Piece). p n i) (item_is ts a.0.0 c.0.0) ∙ rw (name_found ts i a.0 a.1 n, sign_found ts (codes "=") a.0.1 b.0 b.1 n) (value_found ts inner n b.0 c.0 found c.1))

abbrev AreItemsFound : List Lexeme → (ℕ → Read (List ItemTree)) → ℕ → Type 0
AreItemsFound ts items n = (i : ℕ) (x : List ItemTree × ℕ) → items i ≡ Ok x → separated ts (codes ",") (map (item ts) x.0) n i ≡ Some x.1

items_found : (ts : List Lexeme) (inner : ℕ → Read TemplateTree) (n : ℕ) → IsTemplateFound ts inner n → AreItemsFound ts (items_by ts inner n) n
unfolding items_by
items_found ts inner n found i x e = any_found ts (codes "}") (item_by ts inner n) (item ts) n (λ j y r. item_found ts inner n j y found r) i x e

template_by_found : (ts : List Lexeme) (items : ℕ → Read (List ItemTree)) (n i : ℕ) (x : TemplateTree × ℕ) → AreItemsFound ts items (n - 1) → template_by ts items n i ≡ Ok x
    → template ts x.0 n i ≡ Some x.1
template_by_found ts items n i x found e =
    let a = inverted (sign_read ts (codes ":") i) _ x e in
    let b = inverted (path_read ts a.0) _ x a.2 in
    let c = inverted (opening_read ts (codes "{") n b.0.1) _ x b.2 in
    let d = inverted (items c.0) _ x c.2 in
    let f = inverted (sign_read ts (codes "}") d.0.1) _ x d.2 in
    let o = opening_found ts (codes "{") n b.0.1 c.0 c.1 in
    let braces = inside (sign ts (codes "{") ▸ separated ts (codes ",") (map (item ts) d.0.0) ▸ sign ts (codes "}")) n (n - 1) b.0.1 f.0 o.0
    (rw (o.1 (n - 1), found c.0 d.0 d.1, sign_found ts (codes "}") d.0.1 f.0 f.1 (n - 1)) refl) in
    subst (λ (y : TemplateTree × ℕ). template ts y.0 n i ≡ Some y.1) (same_ok _ x f.2)
    (ap (λ (p : Piece). p n i) (template_is ts b.0.0 d.0.0 (span_at ts i f.0))
    ∙ rw (sign_found ts (codes ":") i a.0 a.1 n, path_found ts a.0 b.0 b.1 n, braces, same_span (span_at ts i f.0)) refl)

pub template_found : (ts : List Lexeme) (levels i : ℕ) (x : TemplateTree × ℕ) → template_read ts levels i ≡ Ok x → template ts x.0 levels i ≡ Some x.1
unfolding template_read
template_found ts zero i x e = template_by_found ts (λ inside. Err (stops.Stuck inside)) 0 i x (λ j y a. cc) e
template_found ts (suc levels) i x e =
    let less : suc levels - 1 ≡ levels = omega arith in
    template_by_found ts (items_by ts (template_read ts levels) levels) (suc levels) i x
    (rw less (items_found ts (template_read ts levels) levels (λ j y a. template_found ts levels j y a))) e
