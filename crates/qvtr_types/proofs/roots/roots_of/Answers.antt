use Rattle.std.proofs.Common.{◌≡◌, ℕ, List, Bor, map, true, length, sym, ap, subst, ◌∙◌}
use Rattle.std.specs.Prelude.{All, is_some}
use Rattle.std.specs.List.{AllZip}
use Rattle.std.proofs.lemmas.List.{length-map}
use Rattle.std.proofs.lemmas.Result.{IfOk-weaker}
use Rattle.mof_metamodel.specs.NameTables.{value_of}
use Rattle.qv_syntax.specs.declared.program.Var.{Var}
use Rattle.qv_syntax.specs.declared.script.DomainTree.{DomainTree}
use Rattle.script_scopes.specs.Occurrences.{root_of, variables_of}
use Rattle.qvtr_types.specs.RootVariables.{IsNamed, HasRoots}
use Rattle.qvtr_types.proofs.RootVariableLaws.{roots_known}
use Rattle.qvtr_types.proofs.roots.roots_of.Goals as goal

pub domain_roots-requires-clause-known : goal.domain_roots-requires-clause-known
domain_roots-requires-clause-known c =
    subst (All (λ (d : DomainTree). is_some (value_of c.in_ok-numbers.numbers (root_of d)) ≡ true)) (sym c.as_slice.ensures) (roots_known c.args.r.now c.in_ok-numbers.numbers c.in_ok-numbers.ensures)

pub domain_roots-requires-clause-count : goal.domain_roots-requires-clause-count
domain_roots-requires-clause-count c =
    c.requires ∙ ap (λ (ns : List (List ℕ)). length ns) (sym c.in_ok-numbers.ensures) ∙ length-map {A = List ℕ × ℕ} {B = List ℕ} c.in_ok-numbers.numbers (λ e. e.0)

pub returns : goal.returns
returns c =
    IfOk-weaker c.domain_roots.result
    (λ (roots : List (Bor Var)). AllZip (λ d root. IsNamed (map {A = List ℕ × ℕ} {B = List ℕ} (λ e. e.0) c.in_ok-numbers.numbers) c.args.vars.now (root_of d) root) c.as_slice.result.now (map {A = Bor Var} {B = Var} (λ r. r.now) roots))
    (λ (roots : List (Bor Var)). HasRoots c.args.r.now c.args.vars.now (map {A = Bor Var} {B = Var} (λ r. r.now) roots))
    (λ roots all.
    subst (λ (ds : List DomainTree). AllZip (λ d root. IsNamed (variables_of c.args.r.now) c.args.vars.now (root_of d) root) ds (map {A = Bor Var} {B = Var} (λ r. r.now) roots)) c.as_slice.ensures
    (subst (λ (ns : List (List ℕ)). AllZip (λ d root. IsNamed ns c.args.vars.now (root_of d) root) c.as_slice.result.now (map {A = Bor Var} {B = Var} (λ r. r.now) roots)) c.in_ok-numbers.ensures all))
    c.domain_roots.ensures
