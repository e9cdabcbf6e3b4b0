-- Scopes that are left as they were, iterators by steps, and calls of queries.
use Rattle.std.proofs.Common.{◌≡◌, ◌≢◌, ℕ, zero, suc, ◌-◌, List, [], ◌∷◌, ◌++◌, length, take, drop, Some, None, refl, sym, ◌∙◌, ap, arith}
use Rattle.std.specs.Prelude.{slice_get}
use Rattle.std.specs.List.{fold}
use Rattle.std.proofs.Math.Seq.{take-append_seam}
use Rattle.std.proofs.lemmas.List.{take-append-drop, length-append}
use Rattle.qv_syntax.specs.declared.operation.IteratorKind.{IteratorKind}
use Rattle.qv_syntax.specs.declared.query.Query.{Query}
use Rattle.qv_syntax.specs.declared.type_tree.Kind.{Kind}
use Rattle.qvtr_semantics.specs.declared.datum.Datum.{Datum}
use Rattle.qvtr_semantics.specs.declared.out.Out.{Out}
use Rattle.qvtr_semantics.specs.declared.out.Out.TheVariants.{Many, Invalid}
use Rattle.qvtr_semantics.specs.Objects.{Setting}
use Rattle.qvtr_semantics.specs.Iterators.{iterated}
use Rattle.qvtr_semantics.specs.Expressions.{Scope, Meaning, meaning, query_value, queries_within, each, with_collection}
use Rattle.ocl_eval.specs.declared.world.World.{World}
use Rattle.ocl_eval.specs.Progress.{begun, advanced, iterator_result}
use Rattle.ocl_eval.specs.Worlds.{setting_of, queries_of, meaning_of, each_behind}
use Rattle.ocl_eval.proofs.ProgressLaws.{iterated_by_steps}

pub without_last : {X : Type 0} (xs : List X) (x : X) → take (length (xs ++ x ∷ []) - 1) (xs ++ x ∷ []) ≡ xs
without_last xs x =
    let before : length (xs ++ x ∷ []) - 1 ≡ length xs = ap (λ n. n - 1) (length-append xs (x ∷ [])) ∙ omega arith in
    ap (λ n. take n (xs ++ x ∷ [])) before ∙ take-append_seam xs (x ∷ [])

-- a variable that came into reach is out of it again
pub left_again : (old s1 s2 s3 : List Out) (value : Out) → s1 ≡ old ++ value ∷ [] → s2 ≡ s1 → s3 ≡ take (length s2 - 1) s2 → s3 ≡ old
left_again old s1 s2 s3 value entered same left = left ∙ ap (λ s. take (length s - 1) s) (same ∙ entered) ∙ without_last old value

-- those that were cut off stand behind the others again
pub restored : (old s1 s2 s3 behind : List Out) (n : ℕ) → s1 ≡ take n old → behind ≡ drop n old → s2 ≡ s1 → s3 ≡ s2 ++ behind → s3 ≡ old
restored old s1 s2 s3 behind n cut rest same back = back ∙ ap (λ s. s ++ behind) (same ∙ cut) ∙ ap (λ r. take n old ++ r) rest ∙ take-append-drop n old

pub iterator_done : (w : World) (old s1 : Scope) (x out : Out) (it : IteratorKind) (number : ℕ) (body : Meaning) (kind : Kind) (elements ds : List Datum) (start progress : _)
    → x ≡ Many kind elements → s1 ≡ take number old → start ≡ begun it → ds ≡ elements → progress ≡ fold advanced start (each_behind body s1 ds)
    → out ≡ iterator_result it (record { kind = kind; elements = elements }) progress → out ≡ with_collection x (λ c. iterated it c (each old number body c.elements))
iterator_done w old s1 x out it number body kind elements ds start progress is cut began same walked done =
    done
    ∙ ap (iterator_result it (record { kind = kind; elements = elements })) (walked
    ∙ ap (λ s. fold advanced start (each_behind body s ds)) cut
    ∙ ap (λ p. fold advanced p (each_behind body (take number old) ds)) began
    ∙ ap (λ es. fold advanced (begun it) (each_behind body (take number old) es)) same)
    ∙ iterated_by_steps it (record { kind = kind; elements = elements }) (each_behind body (take number old) elements)
    ∙ sym (ap (λ y. with_collection y (λ c. iterated it c (each old number body c.elements))) is)

-- ---- calls of queries

pub no_calls : (w : World) (query : ℕ) (args : List Out) → w.calls ≡ 0 → Invalid ≡ queries_of w query args
no_calls w query args h = sym (ap (λ n. queries_within w.program.now.queries (setting_of w) n query args) h)

no_query_within : (qs : List Query) (s : Setting) (n query : ℕ) (args : List Out) → slice_get qs query ≡ None → Invalid ≡ queries_within qs s n query args
no_query_within qs s zero query args h = refl
no_query_within qs s (suc n) query args h = sym (ap (λ q. query_value s (queries_within qs s n) q args) h)

pub no_query : (w : World) (query : ℕ) (args : List Out) → slice_get w.program.now.queries query ≡ None → Invalid ≡ queries_of w query args
no_query w query args h = no_query_within w.program.now.queries (setting_of w) w.calls query args h

query_within : (qs : List Query) (s : Setting) (n query : ℕ) (q : Query) (args : List Out) → slice_get qs query ≡ Some q → n ≢ 0
    → meaning s (queries_within qs s (n - 1)) q.body args ≡ queries_within qs s n query args
query_within qs s zero query q args h some = absurd (some refl)
query_within qs s (suc n) query q args h some =
    let before : suc n - 1 ≡ n = omega arith in
    ap (λ m. meaning s (queries_within qs s m) q.body args) before ∙ sym (ap (λ o. query_value s (queries_within qs s n) o args) h)

pub query_called : (w inner : World) (query : ℕ) (q : Query) (args scope : List Out) (out : Out) → slice_get w.program.now.queries query ≡ Some q → w.calls ≢ 0
    → inner ≡ record w { calls = w.calls - 1 } → scope ≡ args → out ≡ meaning_of inner q.body scope → out ≡ queries_of w query args
query_called w inner query q args scope out h some within same found =
    found ∙ ap (λ i. meaning_of i q.body scope) within ∙ ap (meaning_of (record w { calls = w.calls - 1 }) q.body) same ∙ query_within w.program.now.queries (setting_of w) w.calls query q args h some
