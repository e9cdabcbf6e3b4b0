use Rattle.std.proofs.Common.{ap, sym, ◌∙◌, ◌≡◌, ◌<◌, ◌+◌, ◌++◌, ◌∷◌, [], length, take, get_or, option_to_list}
use Rattle.std.proofs.lemmas.List.{append-nil, get_or_default}
use Rattle.mof_metamodel.proofs.TableLemmas.{filter_map_more}
use Rattle.made_objects.specs.Numbers.{object_in, known_in}
use Rattle.made_objects.proofs.numbers.known_in.Goals as goal
use Rattle.made_objects.proofs.numbers.known_in.Goals.{in-Some+in_ok-push, in_default}

pub loop-term-preserved : goal.loop-term-preserved
loop-term-preserved c =
    let objects = c.args.objects.now in
    let terms = c.args.terms.now in
    let i = c.loop-term.term-index in
    let term = get_or terms i 0 in
    let before = known_in objects (take i terms) in
    let within : i < length terms = c.loop-term-test.true in
    let more : known_in objects (take (i + 1) terms) ≡ before ++ option_to_list (object_in objects term) =
    filter_map_more (object_in objects) terms i term within (get_or_default terms i 0 term within) in
    elim c.match-object_in.branch [
      | in-Some+in_ok-push w ↦ w.known-is ∙ w.in_ok-push.ensures.ok ∙ ap (λ known. known ++ w.in-Some.object ∷ []) c.loop-term.invariant
          ∙ ap (λ o. before ++ option_to_list o) w.in-Some.ensures ∙ sym more
      | in_default w ↦ w.known-is ∙ c.loop-term.invariant ∙ sym (append-nil before)
          ∙ ap (λ o. before ++ option_to_list o) w.in_default.ensures ∙ sym more
    ]
