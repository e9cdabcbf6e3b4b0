use Rattle.std.proofs.Common.{◌≡◌, ℕ, List, map, sym, ap, ◌∙◌}
use Rattle.std.specs.Option.{unwrap_or}
use Rattle.mof_metamodel.specs.NameTables.{value_of}
use Rattle.script_scopes.specs.Environments.{place_of}
use Rattle.qvtr_types.proofs.domains.domain_scope.Goals as goal

pub new-requires : goal.new-requires
new-requires c = c.as_slice-metas.ensures ∙ c.requires.named

pub returns : goal.returns
returns c =
    let number : c.in_ok-number.number ≡ place_of c.args.model.now (map {A = List ℕ × ℕ} {B = List ℕ} (λ e. e.0) c.args.scope.now.names.now.models) = c.in_ok-number.ensures.number in
    let meta : c.metamodel_of-meta.result ≡ unwrap_or (value_of c.args.scope.now.names.now.models c.args.model.now) 0 = sym (ap (λ o. unwrap_or o 0) c.metamodel_of-meta.ensures) in
    c.new.ensures ∙ (λ i. record {
      env = c.args.scope.now.env.now;
      variables = map {A = List ℕ × ℕ} {B = List ℕ} (λ e. e.0) c.args.scope.now.variables.now;
      model = number i;
      meta = meta i;
    })
