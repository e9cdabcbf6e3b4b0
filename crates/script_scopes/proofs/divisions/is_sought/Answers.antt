use Rattle.std.proofs.Common.{ℕ, List, Bool, map, ap, sym, ◌∙◌, not}
use Rattle.script_scopes.specs.UniversalNames.{is_among}
use Rattle.script_scopes.proofs.DistinctLemmas.{met_member}
use Rattle.script_scopes.proofs.divisions.is_sought.Goals as goal

pub returns-then-wanted : goal.returns-then-wanted
returns-then-wanted c =
    let known : List (List ℕ) = map {A = List ℕ × ℕ} {B = List ℕ} (λ e. e.0) c.args.names.now in
    c.contains.ensures ∙ met_member c.args.names.now c.args.name.now ∙ sym (ap (λ (b : Bool). is_among known b c.args.name.now) c.if-wanted.true)

pub returns-else-wanted : goal.returns-else-wanted
returns-else-wanted c =
    let known : List (List ℕ) = map {A = List ℕ × ℕ} {B = List ℕ} (λ e. e.0) c.args.names.now in
    ap not (c.contains-else-wanted.ensures ∙ met_member c.args.names.now c.args.name.now) ∙ sym (ap (λ (b : Bool). is_among known b c.args.name.now) c.if-wanted.false)
