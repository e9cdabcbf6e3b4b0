-- The where clauses of the program that a text resolves to are short.
use Rattle.std.specs.Prelude.{◌<◌, ◌≤◌, ◌^◌, ℕ, List, [], ◌∷◌, length, All, Contains}
use Rattle.std.specs.List.{AllZip}
use Rattle.std.proofs.Common.{arith}
use Rattle.std.proofs.lemmas.List.Elements.{All-nil, All-cons, All-head, All-tail, All-contains}
use Rattle.ql_lex.specs.declared.limits.TheConstants.{MAX_SCRIPT}
use Rattle.qv_syntax.specs.declared.program.Program.{Program}
use Rattle.qv_syntax.specs.declared.program.Rel.{Rel}
use Rattle.qv_syntax.specs.declared.script.RelationTree.{RelationTree}
use Rattle.script_files.specs.Scripts.{SpellsScript}
use Rattle.script_scopes.specs.Conjuncts.{clause_conjuncts}
use Rattle.script_scopes.specs.Environments.{Setting}
use Rattle.script_scopes.specs.Occurrences.{relations_of}
use Rattle.script_scopes.specs.Resolutions.{IsProgramOf, IsRelation}
use Rattle.script_sizes.proofs.TokenSizes.{few_tokens}
use Rattle.script_sizes.proofs.ClauseSizes.{relations_short}

abbrev IsShort : ℕ → Rel → Type 0
IsShort n rel = length rel.wheres ≤ n

-- each conjunct of the script is one of the program
as_many : (s : Setting) (n : ℕ) (rs : List RelationTree) (rels : List Rel) → AllZip (IsRelation s) rs rels
    → All (λ (r : RelationTree). length (clause_conjuncts r.wheres) ≤ n) rs → All (IsShort n) rels
as_many s n [] [] are short = All-nil (IsShort n)
as_many s n (r ∷ rs) (rel ∷ rels) are short =
    let count = are.0.wheres.count in
    let one = All-head (λ (x : RelationTree). length (clause_conjuncts x.wheres) ≤ n) r rs short in
    All-cons (IsShort n) rel rels (omega (arith, count, one)) (as_many s n rs rels are.1 (All-tail (λ (x : RelationTree). length (clause_conjuncts x.wheres) ≤ n) r rs short))
as_many s n [] (rel ∷ rels) are short = absurd are
as_many s n (r ∷ rs) [] are short = absurd are

all_short : (bytes : List ℕ) (s : Setting) (program : Program) (spelled : SpellsScript bytes s.script) → IsProgramOf s program → All (IsShort (length spelled.lexemes)) program.rels
all_short bytes s program spelled is = as_many s (length spelled.lexemes) (relations_of s.script) program.rels is.rels (relations_short spelled.lexemes s.script spelled.spelled)

pub short_clause : (bytes : List ℕ) (s : Setting) (program : Program) → SpellsScript bytes s.script → IsProgramOf s program → (rel : Rel) → Contains program.rels rel
    → length rel.wheres ≤ length bytes
short_clause bytes s program spelled is rel has =
    let few = few_tokens bytes spelled.lexemes spelled.tokens in
    let short = All-contains (IsShort (length spelled.lexemes)) program.rels rel (all_short bytes s program spelled is) has in
    omega (arith, few, short)

abbrev IsFew : Rel → Type 0
IsFew rel = length rel.wheres < 2 ^ 32

each_few : (n : ℕ) (rels : List Rel) → n ≤ MAX_SCRIPT → All (IsShort n) rels → All IsFew rels
each_few n [] low short = All-nil IsFew
each_few n (rel ∷ rels) low short =
    let one = All-head (IsShort n) rel rels short in
    All-cons IsFew rel rels (omega (arith, one, low)) (each_few n rels low (All-tail (IsShort n) rel rels short))

pub few_conjuncts : (bytes : List ℕ) (s : Setting) (program : Program) → SpellsScript bytes s.script → IsProgramOf s program → All IsFew program.rels
few_conjuncts bytes s program spelled is =
    let few = few_tokens bytes spelled.lexemes spelled.tokens in
    let within = spelled.tokens.within in
    each_few (length spelled.lexemes) program.rels (omega (arith, few, within)) (all_short bytes s program spelled is)
