use Rattle.std.proofs.Common.{◌≡◌, ℕ, List, ◌++◌, Bor, sym, ap, ◌∙◌, map}
use Rattle.std.specs.Prelude.{Option}
use Rattle.std.specs.Option.{option_map}
use Rattle.mof_metamodel.specs.NameTables.{NamesWith, value_of}
use Rattle.qv_syntax.specs.declared.script.RelationTree.{RelationTree}
use Rattle.script_scopes.specs.ModelLists.{called_models, call_models, conjunct_models}
use Rattle.script_scopes.proofs.RefusalLemmas.{given_then}
use Rattle.script_scopes.proofs.LoopLemmas.{value_shown, twice_shown}
use Rattle.script_scopes.proofs.object_models.add_conjunct_models.Goals as goal

pub returns-in-Some : goal.returns-in-Some
returns-in-Some c =
    let shown : NamesWith RelationTree = map {A = List ℕ × Bor RelationTree} {B = List ℕ × RelationTree} (λ e. (e.0, e.1.now)) c.args.relations.now in
    let found : option_map (λ (r : Bor (Bor RelationTree)). r.now.now) c.get.result ≡ value_of shown c.in-Some.name.now =
    twice_shown c.get.result ∙ ap (λ (o : Option (Bor RelationTree)). option_map (λ r. r.now) o) (c.get.ensures ∙ ap (value_of c.args.relations.now) c.as_str.ensures.characters)
    ∙ sym (value_shown c.args.relations.now c.in-Some.name.now) in
    given_then c.add_called_models.result
    (c.add_called_models.new.out ≡ c.args.out.now ++ called_models (option_map (λ (r : Bor (Bor RelationTree)). r.now.now) c.get.result) c.in-Some.args.now)
    (c.add_called_models.new.out ≡ c.args.out.now ++ conjunct_models shown c.args.conjunct.now)
    (λ e. e ∙ ap (λ (ms : NamesWith (List ℕ)). c.args.out.now ++ ms) (ap (λ (o : Option RelationTree). called_models o c.in-Some.args.now) found ∙ ap (call_models shown) c.in-Some.ensures))
    c.add_called_models.ensures
