-- The where clause of a relation has no more conjuncts than its script has tokens.
use Rattle.std.specs.Prelude.{◌≡◌, ◌≤◌, ◌+◌, ℕ, List, [], ◌∷◌, map, length, Option, None, Some, All, codes}
use Rattle.std.specs.List.{flat_map, filter_map}
use Rattle.std.proofs.Common.{arith, length-append}
use Rattle.std.proofs.lemmas.Option.{same_Some}
use Rattle.std.proofs.lemmas.List.Elements.{All-nil, All-cons}
use Rattle.ql_lex.specs.Lexed.{Lexeme}
use Rattle.ql_lex.specs.Lexemes.{is_sign, is_word}
use Rattle.qv_syntax.specs.declared.expr.Expr.{Expr}
use Rattle.qv_syntax.specs.declared.script.Script.{Script}
use Rattle.qv_syntax.specs.declared.script.BlockTree.{BlockTree}
use Rattle.qv_syntax.specs.declared.script.Declaration.{Declaration}
use Rattle.qv_syntax.specs.declared.script.Declaration.TheVariants as declarations
use Rattle.qv_syntax.specs.declared.script.RelationTree.{RelationTree}
use Rattle.ocl_parser.specs.Pieces.{Piece, ◌▸◌, sign, word, name, nested, each, separated}
use Rattle.ocl_parser.specs.Grammar.{spelled}
use Rattle.ocl_parser.proofs.CompletePieces.{parts, at_span, within, token_first, bracketed}
use Rattle.ocl_parser.proofs.Local.{spelled_end}
use Rattle.qvtr_parser.specs.Grammar as grammar
use Rattle.script_scopes.specs.Conjuncts.{conjuncts, clause_conjuncts}
use Rattle.script_scopes.specs.Occurrences.{relation_in}
use Rattle.script_sizes.proofs.ConjunctSizes.{conjuncts_fit}

module _ (ts : List Lexeme) where
  -- room for so many conjuncts from a token on, before the end of the tokens
  abbrev HasRoom : ℕ → ℕ → ℕ → Type 0
  HasRoom from count end = (from + count ≤ end) × (end ≤ length ts)

  one_expression : (e : Expr) (n from k : ℕ) → grammar.expr ts e n from ≡ Some k → HasRoom from (length (conjuncts e)) k
  unfolding spelled
  one_expression e n from k s = (conjuncts_fit e ts n from k s, (spelled_end ts n e from k s).1)

  -- further expressions, each behind a `;`
  further : (es : List Expr) (n from k : ℕ) → each (map (λ q. sign ts (codes ";") ▸ q) (map (grammar.expr ts) es)) n from ≡ Some k → from ≤ length ts
      → HasRoom from (length (flat_map conjuncts es)) k
  unfolding each
  further [] n from k s low = let same : from ≡ k = same_Some from k s in (omega (arith, same), omega (arith, same, low))
  further (e ∷ es) n from k s low =
      let m = parts (sign ts (codes ";") ▸ grammar.expr ts e) (each (map (λ (q : Piece). sign ts (codes ";") ▸ q) (map (grammar.expr ts) es))) n from k s in
      let one = one_expression e n (from + 1) m.0 (token_first (is_sign (codes ";")) ts (grammar.expr ts e) n from m.0 m.1).1 in
      let others = further es n m.0 k m.2 one.1 in
      let both = length-append (conjuncts e) (flat_map conjuncts es) in
      let first = one.0 in
      let second = others.0 in
      (omega (arith, first, second, both), others.1)

  several : (e : Expr) (es : List Expr) (n from k : ℕ) → separated ts (codes ";") (map (grammar.expr ts) (e ∷ es)) n from ≡ Some k
      → HasRoom from (length (flat_map conjuncts (e ∷ es))) k
  unfolding separated
  several e es n from k s =
      let m = parts (grammar.expr ts e) (each (map (λ (q : Piece). sign ts (codes ";") ▸ q) (map (grammar.expr ts) es))) n from k s in
      let one = one_expression e n from m.0 m.1 in
      let others = further es n m.0 k m.2 one.1 in
      let both = length-append (conjuncts e) (flat_map conjuncts es) in
      let first = one.0 in
      let second = others.0 in
      (omega (arith, first, second, both), others.1)

  -- ---- clauses

  abbrev IsShort : Option BlockTree → Type 0
  IsShort b = length (clause_conjuncts b) ≤ length ts

  exprs_short : (es : List Expr) (n from k : ℕ) → grammar.conjuncts ts es n from ≡ Some k → length (flat_map conjuncts es) ≤ length ts
  exprs_short [] n from k s = omega arith
  exprs_short (e ∷ es) n from k s =
      let m = parts (separated ts (codes ";") (map (grammar.expr ts) (e ∷ es))) (grammar.optional_semicolon ts) n from k s in
      let room = several e es n from m.0 m.1 in
      let first = room.0 in
      let second = room.1 in
      omega (arith, first, second)

  block_short : (b : BlockTree) (n from k : ℕ) → grammar.block ts b n from ≡ Some k → IsShort (Some b)
  unfolding grammar.block
  block_short b n from k s =
      let inside : Piece = sign ts (codes "{") ▸ grammar.conjuncts ts b.exprs ▸ sign ts (codes "}") in
      let deep = within inside n from k (at_span ts b.span (nested inside) n from k s).0 in
      let mid = bracketed (is_sign (codes "{")) (is_sign (codes "}")) ts (grammar.conjuncts ts b.exprs) deep.0 from k deep.2 in
      exprs_short b.exprs deep.0 (from + 1) mid.0 mid.2

  clause_short : (text : List ℕ) (b : Option BlockTree) (n from k : ℕ) → grammar.clause ts text b n from ≡ Some k → IsShort b
  clause_short text None n from k s = omega arith
  clause_short text (Some b) n from k s = block_short b n (from + 1) k (token_first (is_word text) ts (grammar.block ts b) n from k s).1

  -- ---- relations

  abbrev HasShortClause : RelationTree → Type 0
  HasShortClause r = IsShort r.wheres

  relation_short : (r : RelationTree) (n from k : ℕ) → grammar.relation ts r n from ≡ Some k → HasShortClause r
  unfolding grammar.relation
  relation_short r n from k s =
      let body : Piece = grammar.relation_body ts r.vars r.domains r.when r.wheres in
      let inside : Piece = sign ts (codes "{") ▸ body ▸ sign ts (codes "}") in
      let head : Piece = grammar.optional_word ts (codes "top") r.top ▸ word ts (codes "relation") ▸ name ts r.name in
      let m = parts head (nested inside) n from k (at_span ts r.span (head ▸ nested inside) n from k s).0 in
      let deep = within inside n m.0 k m.2 in
      let mid = bracketed (is_sign (codes "{")) (is_sign (codes "}")) ts body deep.0 m.0 k deep.2 in
      let front : Piece = each (map (grammar.vars ts) r.vars) ▸ grammar.some_domains ts r.domains ▸ grammar.clause ts (codes "when") r.when in
      let last = parts front (grammar.clause ts (codes "where") r.wheres) deep.0 (m.0 + 1) mid.0 mid.2 in
      clause_short (codes "where") r.wheres deep.0 last.0 mid.0 last.2

  -- a declaration before others
  one_more : (d : Declaration) (ds : List Declaration) (n from k : ℕ) → grammar.declaration ts d n from ≡ Some k → All HasShortClause (filter_map relation_in ds)
      → All HasShortClause (filter_map relation_in (d ∷ ds))
  one_more (declarations.Key key) ds n from k s others = others
  one_more (declarations.Query query) ds n from k s others = others
  one_more (declarations.Relation r) ds n from k s others = All-cons HasShortClause r (filter_map relation_in ds) (relation_short r n from k s) others

  declarations_short : (ds : List Declaration) (n from k : ℕ) → each (map (grammar.declaration ts) ds) n from ≡ Some k → All HasShortClause (filter_map relation_in ds)
  unfolding each
  declarations_short [] n from k s = All-nil HasShortClause
  declarations_short (d ∷ ds) n from k s =
      let m = parts (grammar.declaration ts d) (each (map (grammar.declaration ts) ds)) n from k s in
      one_more d ds n from m.0 m.1 (declarations_short ds n m.0 k m.2)

-- the relations of a script
pub relations_short : (ts : List Lexeme) (s : Script) → grammar.IsScript ts s → All (λ (r : RelationTree). length (clause_conjuncts r.wheres) ≤ length ts) (filter_map relation_in s.declarations)
unfolding grammar.script
relations_short ts s is =
    let inside : Piece = sign ts (codes "{") ▸ each (map (grammar.declaration ts) s.declarations) ▸ sign ts (codes "}") in
    let head : Piece = word ts (codes "transformation") ▸ name ts s.name ▸ nested (sign ts (codes "(") ▸ grammar.some_with_commas ts (map (grammar.model ts) s.models) ▸ sign ts (codes ")")) in
    let m = parts head (nested inside) _ 0 (length ts) (at_span ts s.span (head ▸ nested inside) _ 0 (length ts) is).0 in
    let deep = within inside _ m.0 (length ts) m.2 in
    let mid = bracketed (is_sign (codes "{")) (is_sign (codes "}")) ts (each (map (grammar.declaration ts) s.declarations)) deep.0 m.0 (length ts) deep.2 in
    declarations_short ts s.declarations deep.0 (m.0 + 1) mid.0 mid.2
