use Rattle.std.proofs.Common.{◌≡◌, ◌<◌, ℕ, List, length, sym, ◌∙◌, ap, subst, arith}
use Rattle.call_graph.specs.declared.walk.Walk.{Walk}
use Rattle.call_graph.specs.Walks.{node_at, passed_at}
use Rattle.call_graph.proofs.WalkLemmas.{place_within, node_within, follow_on}
use Rattle.call_graph.proofs.walk.advance.Goals as goal

pub item-u-requires : goal.item-u-requires
item-u-requires c =
    subst (λ (l : List ℕ). c.args.step.place < length l) (sym c.as_slice.ensures)
    (place_within c.args.whens.now c.args.wheres.now c.args.walk.now c.requires.walk c.requires.same c.requires.last.0 c.args.step c.requires.last.1)

pub call_of-requires-clause-when : goal.call_of-requires-clause-when
call_of-requires-clause-when c =
    let at : c.item-u.result ≡ node_at c.args.walk.now.stack c.args.step.place = c.item-u.ensures ∙ ap (λ (l : List ℕ). node_at l c.args.step.place) c.as_slice.ensures in
    subst (λ (n : ℕ). n < length c.args.whens.now) (sym at)
    (node_within c.args.whens.now c.args.wheres.now c.args.walk.now c.requires.walk c.requires.same c.requires.last.0 c.args.step c.requires.last.1)

pub call_of-requires-clause-wheres : goal.call_of-requires-clause-wheres
call_of-requires-clause-wheres c =
    let at : c.item-u.result ≡ node_at c.args.walk.now.stack c.args.step.place = c.item-u.ensures ∙ ap (λ (l : List ℕ). node_at l c.args.step.place) c.as_slice.ensures in
    subst (λ (n : ℕ). c.item-u.result < n) c.requires.same (subst (λ (n : ℕ). n < length c.args.whens.now) (sym at)
    (node_within c.args.whens.now c.args.wheres.now c.args.walk.now c.requires.walk c.requires.same c.requires.last.0 c.args.step c.requires.last.1))

pub item-k-requires : goal.item-k-requires
item-k-requires c =
    let at : c.item-u.result ≡ node_at c.args.walk.now.stack c.args.step.place = c.item-u.ensures ∙ ap (λ (l : List ℕ). node_at l c.args.step.place) c.as_slice.ensures in
    let inside = node_within c.args.whens.now c.args.wheres.now c.args.walk.now c.requires.walk c.requires.same c.requires.last.0 c.args.step c.requires.last.1 in
    let counts = c.requires.walk.counts in
    let same : length c.as_slice-2.result.now ≡ length c.args.walk.now.passed.items = ap length c.as_slice-2.ensures.value in
    omega (arith, at, inside, counts, same)

pub returns-in_ok-follow-in-Some : goal.returns-in_ok-follow-in-Some
returns-in_ok-follow-in-Some c =
    let walk : Walk = c.args.walk.now in
    let at_u : c.item-u.result ≡ node_at walk.stack c.args.step.place = c.item-u.ensures ∙ ap (λ (l : List ℕ). node_at l c.args.step.place) c.as_slice.ensures in
    let at_k : c.item-k.result ≡ passed_at walk.passed.items c.item-u.result = c.item-k.ensures ∙ ap (λ (l : List ℕ). passed_at l c.item-u.result) c.as_slice-2.ensures.value in
    follow_on c.args.whens.now c.args.wheres.now walk c.requires.walk c.requires.same c.requires.last.0 c.args.step c.requires.last.1 c.item-u.result c.item-k.result c.in-Some.v c.follow.new.walk
    at_u at_k c.in-Some.ensures.0 c.in-Some.ensures.1 c.in_ok-follow-in-Some.ensures
