-- What is put on the stack of an evaluation: what it makes of a value then.
use Rattle.std.proofs.Common.{◌≡◌, ℕ, ◌+◌, ◌<◌, List, [], ◌∷◌, ◌++◌, length, get_or, take, drop, refl, sym, ◌∙◌, ap, append-nil, append_assoc}
use Rattle.std.specs.List.{fold}
use Rattle.std.proofs.lemmas.List.{take-append-drop, drop_more}
use Rattle.qv_syntax.specs.declared.operation.IteratorKind.{IteratorKind}
use Rattle.qv_syntax.specs.declared.type_tree.Kind.{Kind}
use Rattle.qv_syntax.specs.declared.typed.Typed.{Typed}
use Rattle.qv_syntax.specs.declared.typed.TypedPostfix.{TypedPostfix}
use Rattle.qvtr_semantics.specs.declared.datum.Datum.{Datum}
use Rattle.qvtr_semantics.specs.declared.out.Out.{Out}
use Rattle.qvtr_semantics.specs.declared.out.Out.TheVariants.{One, Many}
use Rattle.qvtr_semantics.specs.Expressions.{Scope, each, with_collection}
use Rattle.qvtr_semantics.specs.Iterators.{iterated}
use Rattle.ocl_eval.specs.declared.world.World.{World}
use Rattle.ocl_eval.specs.declared.progress.Progress.{Progress}
use Rattle.ocl_eval.specs.declared.frame.Frame.TheVariants as frames
use Rattle.ocl_eval.specs.declared.frame.Iteration.{Iteration}
use Rattle.ocl_eval.specs.declared.frame.Stacked.{Stacked}
use Rattle.ocl_eval.specs.declared.memo.Memo.{Memo}
use Rattle.ocl_eval.specs.Frames.{Cover, Standing, Arrival, Outcome, called, iteration_result, returned, returned_to, arrived_at, after, arrivals, stack_outcome, outcome_below}
use Rattle.ocl_eval.specs.Progress.{begun, advanced, iterator_result}
use Rattle.ocl_eval.specs.Worlds.{with_calls, meaning_of, each_behind}
use Rattle.ocl_eval.proofs.ScopeLaws.{without_last, iterator_done}

-- what was put on top is the first to go on with a value
after_pushed : (w : World) (xs : List Stacked) (top : Stacked) (s : Standing) → after w (xs ++ top ∷ []) s ≡ after w xs (returned_to w top s)
after_pushed w [] top s = refl
after_pushed w (x ∷ xs) top s = ap (returned_to w x) (after_pushed w xs top s)

arrivals_pushed : (w : World) (xs : List Stacked) (top : Stacked) (s : Standing) → arrivals w (xs ++ top ∷ []) s ≡ arrived_at top s ++ arrivals w xs (returned_to w top s)
arrivals_pushed w [] top s = sym (append-nil (arrived_at top s))
arrivals_pushed w (x ∷ xs) top s =
    let below = returned_to w top s in
    ap (λ a. a ++ arrived_at x (after w (xs ++ top ∷ []) s)) (arrivals_pushed w xs top s)
    ∙ ap (λ t. (arrived_at top s ++ arrivals w xs below) ++ arrived_at x t) (after_pushed w xs top s)
    ∙ append_assoc (arrived_at top s) (arrivals w xs below) (arrived_at x (after w xs below))

pub pushed : (w : World) (memo : Memo) (xs : List Stacked) (top : Stacked) (s : Standing) → stack_outcome w memo (xs ++ top ∷ []) s ≡ outcome_below w memo xs top s
pushed w memo xs top s =
    let with_last : Standing → List Arrival → Outcome = λ last a. record { world = w; memo = memo; last = last; arrivals = a } in
    ap (λ last. with_last last (arrivals w (xs ++ top ∷ []) s)) (after_pushed w xs top s)
    ∙ ap (with_last (after w xs (returned_to w top s))) (arrivals_pushed w xs top s)

-- the body of an iterator for one element, with the iterator on top
pub element_entered : (w : World) (c : Cover) (scope with_element : Scope) (i following : Iteration) (p : Progress) (d element : Datum)
    → i.next < length i.elements → element ≡ get_or i.elements i.next element → d ≡ element → with_element ≡ scope ++ One d ∷ [] → following ≡ record i { next = i.next + 1 }
    → returned (with_calls w 0) (frames.Element following p) (record { cover = c; scope = with_element; out = meaning_of (with_calls w c.calls) i.body.now with_element })
    ≡ record { cover = c; scope = scope ++ i.behind.items; out = iteration_result (with_calls w c.calls) scope i p }
element_entered w c scope with_element i following p d element within found same entered follows =
    let v = with_calls w c.calls in
    let behind_of : Iteration → Scope → Standing
    = λ j s. returned (with_calls w 0) (frames.Element j p) (record { cover = c; scope = s; out = meaning_of v i.body.now s }) in
    let next = record i { next = i.next + 1 } in
    let s1 = scope ++ One element ∷ [] in
    let left_over : Scope → Standing = λ s. record { cover = c; scope = s ++ i.behind.items; out = iteration_result v s next (advanced p (meaning_of v i.body.now s1)) } in
    let over : List Datum → Standing
    = λ ds. record { cover = c; scope = scope ++ i.behind.items; out = called v (scope ++ i.behind.items) (iterator_result i.iterator (record { kind = i.kind; elements = i.elements }) (fold advanced p (each_behind (meaning_of v i.body.now) scope ds))) i.calls.now } in
    let split : drop i.next i.elements ≡ element ∷ drop (i.next + 1) i.elements
    = drop_more i.elements i.next element within ∙ ap (λ x. x ∷ drop (i.next + 1) i.elements) (sym found) in
    ap (λ j. behind_of j with_element) follows
    ∙ ap (behind_of next) (entered ∙ ap (λ x. scope ++ One x ∷ []) same)
    ∙ ap left_over (without_last scope (One element))
    ∙ sym (ap over split)

-- an iterator that begins
pub iteration_begun : (w : World) (c : Cover) (old cut behind : Scope) (x : Out) (it : IteratorKind) (number : ℕ) (body : Typed) (kind : Kind) (elements : List Datum) (start : Progress) (calls : List TypedPostfix)
    → x ≡ Many kind elements → cut ≡ take number old → behind ≡ drop number old → start ≡ begun it
    → ◌≡◌ {A = Standing} (record { cover = c; scope = cut ++ behind; out = called w (cut ++ behind) (iterator_result it (record { kind = kind; elements = elements }) (fold advanced start (each_behind (meaning_of w body) cut elements))) calls })
    (record { cover = c; scope = old; out = called w old (with_collection x (λ c. iterated it c (each old number (meaning_of w body) c.elements))) calls })
iteration_begun w c old cut behind x it number body kind elements start calls is first rest begins =
    let at : Scope → Out → Standing = λ s y. record { cover = c; scope = s; out = called w s y calls } in
    let whole : cut ++ behind ≡ old = ap (λ s. s ++ behind) first ∙ ap (λ s. take number old ++ s) rest ∙ take-append-drop number old in
    let out = iterator_result it (record { kind = kind; elements = elements }) (fold advanced start (each_behind (meaning_of w body) cut elements)) in
    ap (λ s. at s out) whole
    ∙ ap (at old) (iterator_done w old cut x out it number (meaning_of w body) kind elements elements start _ is first begins refl refl refl)
