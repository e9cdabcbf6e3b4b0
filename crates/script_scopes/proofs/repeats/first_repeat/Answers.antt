use Rattle.std.proofs.Common.{◌≡◌, ℕ, List, [], ◌∷◌, ◌++◌, true, false, ap, ◌∙◌, sym, arith, map, take}
use Rattle.std.specs.Prelude.{Some}
use Rattle.std.specs.Set.{is_member}
use Rattle.std.proofs.lemmas.List.{map-append, take_more}
use Rattle.mof_metamodel.specs.Characters.{same_name}
use Rattle.script_scopes.proofs.DistinctLemmas.{met_member}
use Rattle.script_scopes.proofs.RepeatLemmas.{repeat_here, repeat_past}
use Rattle.script_scopes.proofs.repeats.first_repeat.Goals as goal

pub returns-then-contains : goal.returns-then-contains
returns-then-contains c =
    let there : is_member same_name (take c.loop-name.name-index c.args.names.now) c.name-item.result ≡ true =
    sym (ap (λ (ns : List (List ℕ)). is_member same_name ns c.name-item.result) c.loop-name.invariant.met) ∙ sym (met_member c.loop-name.met c.name-item.result) ∙ sym c.contains.ensures ∙ c.if-contains.true in
    ap Some c.in_ok-duplicate.ensures ∙ repeat_here c.args.names.now c.loop-name.name-index c.name-item.result (omega arith) c.name-item.is c.loop-name.invariant.apart there

pub loop-name-preserved : goal.loop-name-preserved
loop-name-preserved c =
    let new : is_member same_name (take c.loop-name.name-index c.args.names.now) c.name-item.result ≡ false =
    sym (ap (λ (ns : List (List ℕ)). is_member same_name ns c.name-item.result) c.loop-name.invariant.met) ∙ sym (met_member c.loop-name.met c.name-item.result) ∙ sym c.contains.ensures ∙ c.if-contains.false in
    record {
      met = ap (map {A = List ℕ × ℕ} {B = List ℕ} (λ e. e.0)) c.in_ok-put.ensures.ok
          ∙ map-append {A = List ℕ × ℕ} {B = List ℕ} (λ e. e.0) c.loop-name.met ((c.in_ok-duplicate-2.field-0, 0) ∷ [])
          ∙ ap (λ (ns : List (List ℕ)). ns ++ c.in_ok-duplicate-2.field-0 ∷ []) c.loop-name.invariant.met
          ∙ ap (λ (y : List ℕ). take c.loop-name.name-index c.args.names.now ++ y ∷ []) (c.in_ok-duplicate-2.ensures ∙ c.name-item.is)
          ∙ sym (take_more c.args.names.now c.loop-name.name-index c.name-item.result (omega arith));
      apart = repeat_past c.args.names.now c.loop-name.name-index c.name-item.result (omega arith) c.name-item.is c.loop-name.invariant.apart new;
    }
