-- What spells an expression is told by its own tokens: those behind its end do not matter.
use Rattle.std.proofs.Common.{◌≡◌, ℕ, ◌<◌, ◌≤◌, Bool, ◌&&◌, nat_lt, nat_le, List, [], ◌∷◌, length, map, take, suc, Option, Some, None, ap, sym, ◌∙◌, refl, subst}
use Rattle.std.specs.Prelude.{codes, ◌==◌}
use Rattle.std.specs.List.{list_all}
use Rattle.std.proofs.lemmas.List.{length-map}
use Rattle.mof_metamodel.specs.declared.span.Span.{Span}
use Rattle.ql_lex.specs.Lexed.{Lexeme}
use Rattle.qv_syntax.specs.declared.name.Name.{Name}
use Rattle.qv_syntax.specs.declared.name.Path.{Path}
use Rattle.qv_syntax.specs.declared.type_tree.TypeTree.{TypeTree, fold-roll-TypeTree, roll-TypeTree, map-TypeTree, ind-TypeTree}
use Rattle.qv_syntax.specs.declared.type_tree.TypeTree.TheOpen as types
use Rattle.qv_syntax.specs.declared.expr.Expr.{Expr, roll-Expr, map-Expr, fold-roll-Expr, ind-Expr}
use Rattle.qv_syntax.specs.declared.expr.Infix.{Infix, roll-Infix, map-Infix, fold-roll-Infix}
use Rattle.qv_syntax.specs.declared.expr.Postfix.{Postfix, roll-Postfix, map-Postfix, fold-roll-Postfix}
use Rattle.qv_syntax.specs.declared.expr.Args.{Args, roll-Args, map-Args, fold-roll-Args}
use Rattle.qv_syntax.specs.declared.expr.Args.TheOpen as of
use Rattle.ocl_parser.specs.Pieces.{Piece, ◌▸◌, token, name, sign, word, nested, only, spanned, each, separated}
use Rattle.ql_lex.specs.Lexemes.{is_sign, is_word, is_name, is_number, is_string}
use Rattle.ocl_parser.specs.Grammar.{Form, InfixForm, Given, form, infix_form, postfix_piece, given}
use Rattle.ocl_parser.specs.Grammar.{args_step, expr_step, postfix_step, infix_step, chain_level, is_of_level, is_chain}
use Rattle.ocl_parser.specs.Grammar.{is_same, takes_class, args_for, constant, is_operator, spelled, names}
use Rattle.ocl_parser.specs.Grammar.{path, kind_word, type_of, type_step, optional_type, bound, declared_variable}
use Rattle.ocl_parser.proofs.LocalPieces.{Keeps, Holds, keeps, holds_token, holds_both, holds_nested}
use Rattle.ocl_parser.proofs.LocalPieces.{holds_only, holds_spanned, AllKeep, keeps_empty, keeps_each, keeps_separated, behind_signs}

-- ---- pieces over the tokens and over those before number k

record Kept (ts : List Lexeme) (k : ℕ) (p q : Piece) : Type 0 where
  at : Keeps ts k p q

record Held (ts : List Lexeme) (k : ℕ) (p q : Piece) : Type 0 where
  at : Holds ts k p q

weaker : {ts : List Lexeme} {k : ℕ} {p q : Piece} → Held ts k p q → Kept ts k p q
weaker {ts} {k} {p} {q} h = record { at = keeps ts k p q h.at }

one : (ts : List Lexeme) (k : ℕ) (passes : Lexeme → Bool) → Held ts k (token passes ts) (token passes (take k ts))
one ts k passes = record { at = holds_token ts k passes }

some : {ts : List Lexeme} {k : ℕ} {p p' q q' : Piece} → Held ts k p p' → Kept ts k q q' → Held ts k (p ▸ q) (p' ▸ q')
some {ts} {k} {p} {p'} {q} {q'} h g = record { at = holds_both ts k p p' q q' h.at g.at }

two : {ts : List Lexeme} {k : ℕ} {p p' q q' : Piece} → Held ts k p p' → Held ts k q q' → Held ts k (p ▸ q) (p' ▸ q')
two h g = some h (weaker g)

deeper : {ts : List Lexeme} {k : ℕ} {p q : Piece} → Held ts k p q → Held ts k (nested p) (nested q)
deeper {ts} {k} {p} {q} h = record { at = holds_nested ts k p q h.at }

if_held : {ts : List Lexeme} {k : ℕ} {p q : Piece} (b c : Bool) → b ≡ c → Held ts k p q → Held ts k (only b p) (only c q)
if_held {ts} {k} {p} {q} b c same h = record { at = holds_only ts k b c p q same h.at }

at_its_span : {ts : List Lexeme} {k : ℕ} {p q : Piece} (span : Span) → Held ts k p q → Held ts k (spanned ts span p) (spanned (take k ts) span q)
at_its_span {ts} {k} {p} {q} span h = record { at = holds_spanned ts k span p q h.at }

-- ---- paths and types

all_names : (ts : List Lexeme) (k : ℕ) (ns : List Name) → AllKeep ts k (map (name ts) ns) (map (name (take k ts)) ns)
all_names ts k [] = tt
all_names ts k (x ∷ ns) = ((weaker (one ts k (is_name x))).at, all_names ts k ns)

path_held : (ts : List Lexeme) (k most : ℕ) (p : Path) → Held ts k (path ts most p) (path (take k ts) most p)
unfolding path names separated
path_held ts k most p = at_its_span p.span (by p.names)
  where
    by : (ns : List Name) → Held ts k (only (nat_lt 0 (length ns) && nat_le (length ns) most) (names ts ns))
        (only (nat_lt 0 (length ns) && nat_le (length ns) most) (names (take k ts) ns))
    by [] = record { at = λ n i j e. cc }
    by (x ∷ ns) =
        let ps : List Piece = map (λ q. sign ts (codes "::") ▸ q) (map (name ts) ns) in
        let qs : List Piece = map (λ q. sign (take k ts) (codes "::") ▸ q) (map (name (take k ts)) ns) in
        let further : Kept ts k (each ps) (each qs) = record
        { at = keeps_each ts k ps qs (behind_signs ts k (codes "::") (map (name ts) ns) (map (name (take k ts)) ns) (all_names ts k ns)) } in
        if_held (nat_lt 0 (length (x ∷ ns)) && nat_le (length (x ∷ ns)) most) (nat_lt 0 (length (x ∷ ns)) && nat_le (length (x ∷ ns)) most) refl
        (some (one ts k (is_name x)) further)

TypeHeld : TypeTree → Type 0
TypeHeld t = (ts : List Lexeme) (k : ℕ) → Held ts k (type_of ts t) (type_of (take k ts) t)

type_by : (d : types.TypeTree-F TypeTree)
    → ((ts : List Lexeme) (k : ℕ) → Held ts k (type_step ts (map-TypeTree TypeTree Piece (type_of ts) d))
    (type_step (take k ts) (map-TypeTree TypeTree Piece (type_of (take k ts)) d))) → TypeHeld (roll-TypeTree d)
unfolding type_of TypeHeld
type_by d h ts k = subst (λ (p : Piece). Held ts k p (type_of (take k ts) (roll-TypeTree d))) (sym (fold-roll-TypeTree Piece (type_step ts) d))
    (subst (Held ts k (type_step ts (map-TypeTree TypeTree Piece (type_of ts) d))) (sym (fold-roll-TypeTree Piece (type_step (take k ts)) d)) (h ts k))

type_layer : (y : types.TypeTree-F ((t : TypeTree) × TypeHeld t)) → TypeHeld (roll-TypeTree (map-TypeTree ((t : TypeTree) × TypeHeld t) TypeTree (λ x. x.0) y))
unfolding TypeHeld
type_layer (types.Str span) = type_by (types.Str span) (λ ts k. at_its_span span (one ts k (is_word (codes "String"))))
type_layer (types.Int span) = type_by (types.Int span) (λ ts k. at_its_span span (one ts k (is_word (codes "Integer"))))
type_layer (types.Bool span) = type_by (types.Bool span) (λ ts k. at_its_span span (one ts k (is_word (codes "Boolean"))))
type_layer (types.Named p) = type_by (types.Named p) (λ ts k. path_held ts k 2 p)
type_layer (types.Coll kind t span) = type_by (types.Coll kind t.0 span)
    (λ ts k. at_its_span span (two (one ts k (is_word (kind_word kind)))
    (deeper (two (two (one ts k (is_sign (codes "("))) (t.1 ts k)) (one ts k (is_sign (codes ")")))))))

type_held : (t : TypeTree) → TypeHeld t
type_held = ind-TypeTree TypeHeld (λ x y is. subst (λ z. TypeHeld (roll-TypeTree z)) is (type_layer y))

-- ---- heads

bound_held : (ts : List Lexeme) (k : ℕ) (x : Name) (ty : TypeTree) → Held ts k (bound ts x ty) (bound (take k ts) x ty)
unfolding bound TypeHeld
bound_held ts k x ty = two (two (two (one ts k (is_name x)) (one ts k (is_sign (codes ":")))) (type_held ty ts k)) (one ts k (is_sign (codes "=")))

optional_kept : (ts : List Lexeme) (k : ℕ) (ty : Option TypeTree) → Kept ts k (optional_type ts ty) (optional_type (take k ts) ty)
unfolding optional_type TypeHeld
optional_kept ts k None = record { at = keeps_empty ts k }
optional_kept ts k (Some ty) = weaker (two (one ts k (is_sign (codes ":"))) (type_held ty ts k))

variable_held : (ts : List Lexeme) (k : ℕ) (v : Name) (ty : Option TypeTree) → Held ts k (declared_variable ts v ty) (declared_variable (take k ts) v ty)
unfolding declared_variable
variable_held ts k v ty = two (some (two (one ts k (is_sign (codes "("))) (one ts k (is_name v))) (optional_kept ts k ty)) (one ts k (is_sign (codes "|")))

-- ---- expressions

record FormHeld (ts : List Lexeme) (k : ℕ) (f g : Form) : Type 0 where
  binding : f.binding ≡ g.binding
  piece : Held ts k f.piece g.piece

record GivenHeld (ts : List Lexeme) (k : ℕ) (f g : Given) : Type 0 where
  is_class : f.is_class ≡ g.is_class
  piece : Held ts k f.piece g.piece

record InfixFormHeld (ts : List Lexeme) (k : ℕ) (f g : InfixForm) : Type 0 where
  level : f.level ≡ g.level
  subtree : f.subtree ≡ g.subtree
  piece : Held ts k f.piece g.piece

abbrev ArgsHeld : Args → Type 0
ArgsHeld a = (ts : List Lexeme) (k : ℕ) → GivenHeld ts k (given ts a) (given (take k ts) a)

abbrev ExprHeld : Expr → Type 0
ExprHeld e = (ts : List Lexeme) (k : ℕ) → FormHeld ts k (form ts e) (form (take k ts) e)

abbrev PostfixHeld : Postfix → Type 0
PostfixHeld s = (ts : List Lexeme) (k : ℕ) → Held ts k (postfix_piece ts s) (postfix_piece (take k ts) s)

abbrev InfixHeld : Infix → Type 0
InfixHeld l = (ts : List Lexeme) (k : ℕ) → InfixFormHeld ts k (infix_form ts l) (infix_form (take k ts) l)

abbrev A : Type 0
A = (a : Args) × ArgsHeld a

abbrev E : Type 0
E = (e : Expr) × ExprHeld e

abbrev S : Type 0
S = (s : Postfix) × PostfixHeld s

abbrev L : Type 0
L = (l : Infix) × InfixHeld l

abbrev expr_at : List Lexeme → of.Expr-F Args Expr Postfix Infix → Form
expr_at ts d = expr_step ts (map-Expr Args Expr Postfix Infix Given Form Piece InfixForm (given ts) (form ts) (postfix_piece ts) (infix_form ts) d)

expr_by : (d : of.Expr-F Args Expr Postfix Infix) → ((ts : List Lexeme) (k : ℕ) → FormHeld ts k (expr_at ts d) (expr_at (take k ts) d)) → ExprHeld (roll-Expr d)
expr_by d h ts k =
    let mine : form ts (roll-Expr d) ≡ expr_at ts d = fold-roll-Expr Given Form Piece InfixForm (args_step ts) (expr_step ts) (postfix_step ts) (infix_step ts) d in
    let theirs : form (take k ts) (roll-Expr d) ≡ expr_at (take k ts) d =
    fold-roll-Expr Given Form Piece InfixForm (args_step (take k ts)) (expr_step (take k ts)) (postfix_step (take k ts)) (infix_step (take k ts)) d in
    subst (λ (f : Form). FormHeld ts k f (form (take k ts) (roll-Expr d))) (sym mine) (subst (FormHeld ts k (expr_at ts d)) (sym theirs) (h ts k))

-- one form
form_of : {ts : List Lexeme} {k : ℕ} {p q : Piece} (n : ℕ) → Held ts k p q → FormHeld ts k (record { binding = n; piece = p }) (record { binding = n; piece = q })
form_of n h = record { binding = refl; piece = h }

-- lists of parts
parts_keep : (ts : List Lexeme) (k : ℕ) (es : List E) → AllKeep ts k (map (λ e. e.piece) (map (form ts) (map (λ e. e.0) es)))
    (map (λ e. e.piece) (map (form (take k ts)) (map (λ e. e.0) es)))
parts_keep ts k [] = tt
parts_keep ts k (e ∷ es) = ((weaker (e.1 ts k).piece).at, parts_keep ts k es)

steps_keep : (ts : List Lexeme) (k : ℕ) (ss : List S) → AllKeep ts k (map (postfix_piece ts) (map (λ s. s.0) ss)) (map (postfix_piece (take k ts)) (map (λ s. s.0) ss))
steps_keep ts k [] = tt
steps_keep ts k (s ∷ ss) = ((weaker (s.1 ts k)).at, steps_keep ts k ss)

abbrev all_infix_forms : List Lexeme → List L → List InfixForm
all_infix_forms ts ls = map (infix_form ts) (map (λ l. l.0) ls)

links_keep : (ts : List Lexeme) (k : ℕ) (ls : List L) → AllKeep ts k (map (λ l. l.piece) (all_infix_forms ts ls)) (map (λ l. l.piece) (all_infix_forms (take k ts) ls))
links_keep ts k [] = tt
links_keep ts k (l ∷ ls) = ((weaker (l.1 ts k).piece).at, links_keep ts k ls)

same_count : (ts us : List Lexeme) (ls : List L) → length (all_infix_forms ts ls) ≡ length (all_infix_forms us ls)
same_count ts us [] = refl
same_count ts us (l ∷ ls) = ap (λ (n : ℕ). suc n) (same_count ts us ls)

same_level : (ts : List Lexeme) (k : ℕ) (ls : List L) → chain_level (all_infix_forms ts ls) ≡ chain_level (all_infix_forms (take k ts) ls)
same_level ts k [] = refl
same_level ts k (l ∷ ls) = (l.1 ts k).level

same_tests : (ts : List Lexeme) (k level : ℕ) (ls : List L) → list_all (is_of_level level) (all_infix_forms ts ls) ≡ list_all (is_of_level level) (all_infix_forms (take k ts) ls)
same_tests ts k level [] = refl
same_tests ts k level (l ∷ ls) =
    let h : InfixFormHeld ts k (infix_form ts l.0) (infix_form (take k ts) l.0) = l.1 ts k in
    ap (λ (n : ℕ). (n == level) && nat_lt level (infix_form ts l.0).subtree && list_all (is_of_level level) (all_infix_forms ts ls)) h.level
    ∙ ap (λ (n : ℕ). ((infix_form (take k ts) l.0).level == level) && nat_lt level n && list_all (is_of_level level) (all_infix_forms ts ls)) h.subtree
    ∙ ap (λ (b : Bool). ((infix_form (take k ts) l.0).level == level) && nat_lt level (infix_form (take k ts) l.0).subtree && b) (same_tests ts k level ls)

same_chain : (ts : List Lexeme) (k : ℕ) (f g : Form) (ls : List L) → f.binding ≡ g.binding → is_chain f (all_infix_forms ts ls) ≡ is_chain g (all_infix_forms (take k ts) ls)
same_chain ts k f g ls e =
    let js : List InfixForm = all_infix_forms ts ls in
    let us : List InfixForm = all_infix_forms (take k ts) ls in
    ap (λ (n : ℕ). nat_lt 0 n && nat_lt (chain_level js) f.binding && list_all (is_of_level (chain_level js)) js) (same_count ts (take k ts) ls)
    ∙ ap (λ (n : ℕ). nat_lt 0 (length us) && nat_lt (chain_level js) n && list_all (is_of_level (chain_level js)) js) e
    ∙ ap (λ (n : ℕ). nat_lt 0 (length us) && nat_lt n g.binding && list_all (is_of_level n) js) (same_level ts k ls)
    ∙ ap (λ (b : Bool). nat_lt 0 (length us) && nat_lt (chain_level us) g.binding && b) (same_tests ts k (chain_level us) ls)

same_calls : (ts us : List Lexeme) (n m : ℕ) (ss : List Postfix) → n ≡ m
    → (nat_le 10 n && nat_lt 0 (length (map (postfix_piece ts) ss))) ≡ (nat_le 10 m && nat_lt 0 (length (map (postfix_piece us) ss)))
same_calls ts us n m ss e =
    let counts : length (map (postfix_piece ts) ss) ≡ length (map (postfix_piece us) ss) = length-map ss (postfix_piece ts) ∙ sym (length-map ss (postfix_piece us)) in
    ap (λ (x : ℕ). nat_le 10 x && nat_lt 0 (length (map (postfix_piece ts) ss))) e ∙ ap (λ (x : ℕ). nat_le 10 m && nat_lt 0 x) counts

args_held : {ts : List Lexeme} {k : ℕ} {f g : Given} (text : List ℕ) → GivenHeld ts k f g → Held ts k (args_for text f) (args_for text g)
args_held {ts} {k} {f} {g} text h = if_held (is_same f.is_class (takes_class text)) (is_same g.is_class (takes_class text))
    (ap (λ (b : Bool). is_same b (takes_class text)) h.is_class) h.piece

list_kept : (ts : List Lexeme) (k : ℕ) (es : List E) → Kept ts k (separated ts (codes ",") (map (λ e. e.piece) (map (form ts) (map (λ e. e.0) es))))
    (separated (take k ts) (codes ",") (map (λ e. e.piece) (map (form (take k ts)) (map (λ e. e.0) es))))
list_kept ts k es = record {
  at = keeps_separated ts k (codes ",") (map (λ e. e.piece) (map (form ts) (map (λ e. e.0) es)))
      (map (λ e. e.piece) (map (form (take k ts)) (map (λ e. e.0) es))) (parts_keep ts k es);
}

links_kept : (ts : List Lexeme) (k : ℕ) (ls : List L) → Kept ts k (each (map (λ l. l.piece) (all_infix_forms ts ls))) (each (map (λ l. l.piece) (all_infix_forms (take k ts) ls)))
links_kept ts k ls = record { at = keeps_each ts k (map (λ l. l.piece) (all_infix_forms ts ls)) (map (λ l. l.piece) (all_infix_forms (take k ts) ls)) (links_keep ts k ls) }

steps_kept : (ts : List Lexeme) (k : ℕ) (ss : List S) → Kept ts k (each (map (postfix_piece ts) (map (λ s. s.0) ss)))
    (each (map (postfix_piece (take k ts)) (map (λ s. s.0) ss)))
steps_kept ts k ss = record { at = keeps_each ts k (map (postfix_piece ts) (map (λ s. s.0) ss)) (map (postfix_piece (take k ts)) (map (λ s. s.0) ss)) (steps_keep ts k ss) }

a_word : (ts : List Lexeme) (k : ℕ) (text : List ℕ) → Held ts k (word ts text) (word (take k ts) text)
a_word ts k text = one ts k (is_word text)

a_sign : (ts : List Lexeme) (k : ℕ) (text : List ℕ) → Held ts k (sign ts text) (sign (take k ts) text)
a_sign ts k text = one ts k (is_sign text)

chain_held : (first : E) (rest : List L) (span : Span) (ts : List Lexeme) (k : ℕ)
    → FormHeld ts k (expr_at ts (of.Chain first.0 (map (λ l. l.0) rest) span)) (expr_at (take k ts) (of.Chain first.0 (map (λ l. l.0) rest) span))
chain_held first rest span ts k =
    let f : FormHeld ts k (form ts first.0) (form (take k ts) first.0) = first.1 ts k in
    record {
      binding = same_level ts k rest;
      piece = at_its_span span (if_held (is_chain (form ts first.0) (all_infix_forms ts rest)) (is_chain (form (take k ts) first.0) (all_infix_forms (take k ts) rest))
          (same_chain ts k (form ts first.0) (form (take k ts) first.0) rest f.binding) (some f.piece (links_kept ts k rest)));
    }

calls_held : (subtree : E) (ss : List S) (span : Span) (ts : List Lexeme) (k : ℕ)
    → FormHeld ts k (expr_at ts (of.Calls subtree.0 (map (λ s. s.0) ss) span)) (expr_at (take k ts) (of.Calls subtree.0 (map (λ s. s.0) ss) span))
calls_held subtree ss span ts k =
    let f : FormHeld ts k (form ts subtree.0) (form (take k ts) subtree.0) = subtree.1 ts k in
    let steps : List Postfix = map (λ s. s.0) ss in
    form_of 9 (at_its_span span (if_held (nat_le 10 (form ts subtree.0).binding && nat_lt 0 (length (map (postfix_piece ts) steps)))
    (nat_le 10 (form (take k ts) subtree.0).binding && nat_lt 0 (length (map (postfix_piece (take k ts)) steps)))
    (same_calls ts (take k ts) (form ts subtree.0).binding (form (take k ts) subtree.0).binding steps f.binding) (some f.piece (steps_kept ts k ss))))

expr_layer : (y : of.Expr-F A E S L) → ExprHeld (roll-Expr (map-Expr A E S L Args Expr Postfix Infix (λ x. x.0) (λ x. x.0) (λ x. x.0) (λ x. x.0) y))
expr_layer (of.Let x ty value body span) = expr_by (of.Let x ty value.0 body.0 span)
    (λ ts k. form_of 0 (at_its_span span (deeper (two (two (two (two (a_word ts k (codes "let")) (bound_held ts k x ty)) (value.1 ts k).piece)
    (a_word ts k (codes "in"))) (body.1 ts k).piece))))
expr_layer (of.Chain first rest span) = expr_by (of.Chain first.0 (map (λ l. l.0) rest) span) (chain_held first rest span)
expr_layer (of.Not operand span) = expr_by (of.Not operand.0 span)
    (λ ts k. form_of 8 (at_its_span span (if_held (nat_le 8 (form ts operand.0).binding) (nat_le 8 (form (take k ts) operand.0).binding)
    (ap (nat_le 8) (operand.1 ts k).binding) (deeper (two (a_word ts k (codes "not")) (operand.1 ts k).piece)))))
expr_layer (of.Negated operand span) = expr_by (of.Negated operand.0 span)
    (λ ts k. form_of 8 (at_its_span span (if_held (nat_le 8 (form ts operand.0).binding) (nat_le 8 (form (take k ts) operand.0).binding)
    (ap (nat_le 8) (operand.1 ts k).binding) (deeper (two (a_sign ts k (codes "-")) (operand.1 ts k).piece)))))
expr_layer (of.Calls subtree ss span) = expr_by (of.Calls subtree.0 (map (λ s. s.0) ss) span) (calls_held subtree ss span)
expr_layer (of.Number value span) = expr_by (of.Number value span) (λ ts k. form_of 10 (at_its_span span (one ts k (is_number value))))
expr_layer (of.Str value span) = expr_by (of.Str value span) (λ ts k. form_of 10 (at_its_span span (one ts k (is_string value))))
expr_layer (of.Bool value span) = expr_by (of.Bool value span) (λ ts k. form_of 10 (at_its_span span (a_word ts k (constant value))))
expr_layer (of.Null span) = expr_by (of.Null span) (λ ts k. form_of 10 (at_its_span span (a_word ts k (codes "null"))))
expr_layer (of.Invalid span) = expr_by (of.Invalid span) (λ ts k. form_of 10 (at_its_span span (a_word ts k (codes "invalid"))))
expr_layer (of.Parens inner span) = expr_by (of.Parens inner.0 span)
    (λ ts k. form_of 10 (at_its_span span (deeper (two (two (a_sign ts k (codes "(")) (inner.1 ts k).piece) (a_sign ts k (codes ")"))))))
expr_layer (of.If condition first other span) = expr_by (of.If condition.0 first.0 other.0 span)
    (λ ts k. form_of 10 (at_its_span span (deeper
    (two (two (two (two (two (two (a_word ts k (codes "if")) (condition.1 ts k).piece) (a_word ts k (codes "then"))) (first.1 ts k).piece) (a_word ts k (codes "else")))
    (other.1 ts k).piece) (a_word ts k (codes "endif"))))))
expr_layer (of.Coll kind elements span) = expr_by (of.Coll kind (map (λ e. e.0) elements) span)
    (λ ts k. form_of 10 (at_its_span span (two (a_word ts k (kind_word kind))
    (deeper (two (some (a_sign ts k (codes "{")) (list_kept ts k elements)) (a_sign ts k (codes "}")))))))
expr_layer (of.Call x args span) = expr_by (of.Call x args.0 span) (λ ts k. form_of 10 (at_its_span span (two (one ts k (is_name x)) (args_held x.text (args.1 ts k)))))
expr_layer (of.Named p) = expr_by (of.Named p) (λ ts k. form_of 10 (path_held ts k 3 p))

-- ---- calls, arguments and operators

abbrev step_at : List Lexeme → of.Postfix-F Args Expr Postfix Infix → Piece
step_at ts d = postfix_step ts (map-Postfix Args Expr Postfix Infix Given Form Piece InfixForm (given ts) (form ts) (postfix_piece ts) (infix_form ts) d)

step_by : (d : of.Postfix-F Args Expr Postfix Infix) → ((ts : List Lexeme) (k : ℕ) → Held ts k (step_at ts d) (step_at (take k ts) d)) → PostfixHeld (roll-Postfix d)
step_by d h ts k =
    let mine : postfix_piece ts (roll-Postfix d) ≡ step_at ts d = fold-roll-Postfix Given Form Piece InfixForm (args_step ts) (expr_step ts) (postfix_step ts) (infix_step ts) d in
    let theirs : postfix_piece (take k ts) (roll-Postfix d) ≡ step_at (take k ts) d =
    fold-roll-Postfix Given Form Piece InfixForm (args_step (take k ts)) (expr_step (take k ts)) (postfix_step (take k ts)) (infix_step (take k ts)) d in
    subst (λ (p : Piece). Held ts k p (postfix_piece (take k ts) (roll-Postfix d))) (sym mine) (subst (Held ts k (step_at ts d)) (sym theirs) (h ts k))

step_layer : (y : of.Postfix-F A E S L) → PostfixHeld (roll-Postfix (map-Postfix A E S L Args Expr Postfix Infix (λ x. x.0) (λ x. x.0) (λ x. x.0) (λ x. x.0) y))
step_layer (of.Property x) = step_by (of.Property x) (λ ts k. two (a_sign ts k (codes ".")) (one ts k (is_name x)))
step_layer (of.Dot x args span) = step_by (of.Dot x args.0 span)
    (λ ts k. at_its_span span (two (two (a_sign ts k (codes ".")) (one ts k (is_name x))) (args_held x.text (args.1 ts k))))
step_layer (of.Arrow x args span) = step_by (of.Arrow x args.0 span)
    (λ ts k. at_its_span span (two (two (a_sign ts k (codes "->")) (one ts k (is_name x))) (args_held x.text (args.1 ts k))))
step_layer (of.Iterator x v ty body span) = step_by (of.Iterator x v ty body.0 span)
    (λ ts k. at_its_span span (two (two (a_sign ts k (codes "->")) (one ts k (is_name x)))
    (deeper (two (two (variable_held ts k v ty) (body.1 ts k).piece) (a_sign ts k (codes ")"))))))

abbrev args_at : List Lexeme → of.Args-F Args Expr Postfix Infix → Given
args_at ts d = args_step ts (map-Args Args Expr Postfix Infix Given Form Piece InfixForm (given ts) (form ts) (postfix_piece ts) (infix_form ts) d)

args_by : (d : of.Args-F Args Expr Postfix Infix) → ((ts : List Lexeme) (k : ℕ) → GivenHeld ts k (args_at ts d) (args_at (take k ts) d)) → ArgsHeld (roll-Args d)
args_by d h ts k =
    let mine : given ts (roll-Args d) ≡ args_at ts d = fold-roll-Args Given Form Piece InfixForm (args_step ts) (expr_step ts) (postfix_step ts) (infix_step ts) d in
    let theirs : given (take k ts) (roll-Args d) ≡ args_at (take k ts) d =
    fold-roll-Args Given Form Piece InfixForm (args_step (take k ts)) (expr_step (take k ts)) (postfix_step (take k ts)) (infix_step (take k ts)) d in
    subst (λ (f : Given). GivenHeld ts k f (given (take k ts) (roll-Args d))) (sym mine) (subst (GivenHeld ts k (args_at ts d)) (sym theirs) (h ts k))

args_layer : (y : of.Args-F A E S L) → ArgsHeld (roll-Args (map-Args A E S L Args Expr Postfix Infix (λ x. x.0) (λ x. x.0) (λ x. x.0) (λ x. x.0) y))
args_layer (of.Values values) = args_by (of.Values (map (λ e. e.0) values))
    (λ ts k. record { is_class = refl; piece = deeper (two (some (a_sign ts k (codes "(")) (list_kept ts k values)) (a_sign ts k (codes ")"))) })
args_layer (of.Class p) = args_by (of.Class p) (λ ts k. record
    { is_class = refl; piece = deeper (two (two (a_sign ts k (codes "(")) (path_held ts k 2 p)) (a_sign ts k (codes ")"))) })

abbrev link_at : List Lexeme → of.Infix-F Args Expr Postfix Infix → InfixForm
link_at ts d = infix_step ts (map-Infix Args Expr Postfix Infix Given Form Piece InfixForm (given ts) (form ts) (postfix_piece ts) (infix_form ts) d)

link_by : (d : of.Infix-F Args Expr Postfix Infix) → ((ts : List Lexeme) (k : ℕ) → InfixFormHeld ts k (link_at ts d) (link_at (take k ts) d)) → InfixHeld (roll-Infix d)
link_by d h ts k =
    let mine : infix_form ts (roll-Infix d) ≡ link_at ts d = fold-roll-Infix Given Form Piece InfixForm (args_step ts) (expr_step ts) (postfix_step ts) (infix_step ts) d in
    let theirs : infix_form (take k ts) (roll-Infix d) ≡ link_at (take k ts) d =
    fold-roll-Infix Given Form Piece InfixForm (args_step (take k ts)) (expr_step (take k ts)) (postfix_step (take k ts)) (infix_step (take k ts)) d in
    subst (λ (f : InfixForm). InfixFormHeld ts k f (infix_form (take k ts) (roll-Infix d))) (sym mine) (subst (InfixFormHeld ts k (link_at ts d)) (sym theirs) (h ts k))

link_layer : (y : of.Infix-F A E S L) → InfixHeld (roll-Infix (map-Infix A E S L Args Expr Postfix Infix (λ x. x.0) (λ x. x.0) (λ x. x.0) (λ x. x.0) y))
link_layer y = link_by (map-Infix A E S L Args Expr Postfix Infix (λ x. x.0) (λ x. x.0) (λ x. x.0) (λ x. x.0) y)
    (λ ts k. record { level = refl; subtree = (y.right.1 ts k).binding; piece = two (one ts k (is_operator y.operator)) (y.right.1 ts k).piece })

expr_held : (e : Expr) → ExprHeld e
expr_held = ind-Expr ArgsHeld ExprHeld PostfixHeld InfixHeld
    (λ x y is. subst (λ z. ArgsHeld (roll-Args z)) is (args_layer y))
    (λ x y is. subst (λ z. ExprHeld (roll-Expr z)) is (expr_layer y))
    (λ x y is. subst (λ z. PostfixHeld (roll-Postfix z)) is (step_layer y))
    (λ x y is. subst (λ z. InfixHeld (roll-Infix z)) is (link_layer y))

-- ---- the laws

-- an expression has a token, and ends where the tokens do or before
pub spelled_end : (ts : List Lexeme) (n : ℕ) (e : Expr) (from k : ℕ) → spelled ts n e from ≡ Some k → (from < k) × (k ≤ length ts)
unfolding spelled
spelled_end ts n e from k s = (let a = (expr_held e ts k).piece.at n from k s in (a.0, a.1))

-- the tokens behind its end do not matter
pub spelled_cut : (ts : List Lexeme) (n : ℕ) (e : Expr) (from end k : ℕ) → spelled ts n e from ≡ Some end → end ≤ k → spelled (take k ts) n e from ≡ Some end
unfolding spelled
spelled_cut ts n e from end k s few = ((expr_held e ts k).piece.at n from end s).2 few
