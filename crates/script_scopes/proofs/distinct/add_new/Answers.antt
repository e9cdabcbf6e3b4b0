use Rattle.std.proofs.Common.{◌≡◌, ℕ, List, [], ◌∷◌, ◌++◌, Bool, true, false, cond, map, sym, ◌∙◌, ap, append-nil}
use Rattle.std.specs.Set.{is_member}
use Rattle.std.proofs.lemmas.List.{map-append}
use Rattle.mof_metamodel.specs.Characters.{same_name}
use Rattle.script_scopes.proofs.DistinctLemmas.{met_member}
use Rattle.script_scopes.proofs.distinct.add_new.Goals as goal

pub returns-then-contains-clause-ok : goal.returns-then-contains-clause-ok
returns-then-contains-clause-ok c =
    let keys : List (List ℕ) = map {A = List ℕ × ℕ} {B = List ℕ} (λ e. e.0) c.args.met.now in
    let there : is_member same_name keys c.args.name ≡ true = sym (met_member c.args.met.now c.args.name) ∙ sym c.contains.ensures ∙ c.if-contains.true in
    sym (ap (λ (b : Bool). keys ++ cond b [] (c.args.name ∷ [])) there ∙ append-nil keys)

pub returns-clause-ok : goal.returns-clause-ok
returns-clause-ok c =
    let keys : List (List ℕ) = map {A = List ℕ × ℕ} {B = List ℕ} (λ e. e.0) c.args.met.now in
    let new : is_member same_name keys c.args.name ≡ false = sym (met_member c.args.met.now c.args.name) ∙ sym c.contains.ensures ∙ c.if-contains.false in
    ap (map {A = List ℕ × ℕ} {B = List ℕ} (λ e. e.0)) c.in_ok-put.ensures.ok ∙ map-append {A = List ℕ × ℕ} {B = List ℕ} (λ e. e.0) c.args.met.now ((c.args.name, 0) ∷ [])
    ∙ sym (ap (λ (b : Bool). keys ++ cond b [] (c.args.name ∷ [])) new)
