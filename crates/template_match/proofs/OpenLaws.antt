-- By marks of the variables that are sought it is told which of them are open.
use Rattle.std.specs.Prelude.{◌≡◌, ℕ, Bool, true, false, ◌&&◌, ◌||◌, List, [], ◌∷◌, length, slice_get}
use Rattle.std.specs.List.{list_any}
use Rattle.std.proofs.Common.{refl, ap, subst, ◌∙◌, ◌<◌}
use Rattle.mof_metamodel.specs.Tables.{table}
use Rattle.qvtr_semantics.specs.Objects.{is_number_among}
use Rattle.qvtr_semantics.specs.Templates.{Values}
use Rattle.template_match.specs.declared.prepared.Prepared.{Prepared}
use Rattle.template_match.specs.Marks.{is_marked}
use Rattle.template_match.specs.Prepared.{problem_in, IsPrepared}
use Rattle.template_match.specs.Problems.{Problem}
use Rattle.template_match.specs.Search.{sought, is_vacant, is_open}
use Rattle.template_match.proofs.MarkLaws.{is_marked-table}
use Rattle.template_match.proofs.ValueLaws.{vacant_parts}

one_if : (m k x : Bool) → (x ≡ true → m ≡ k) → (m && x) ≡ (k && x)
one_if m k true h = ap (λ b. b && true) (h refl)
one_if true true false h = refl
one_if true false false h = refl
one_if false true false h = refl
one_if false false false h = refl

marked : (marks : List Bool) (f : ℕ → Bool) (n v : ℕ) → marks ≡ table f n → v < n → is_marked marks v ≡ f v
marked marks f n v is within = ap (λ ms. is_marked ms v) is ∙ is_marked-table f n v within

pub open_by_marks : (s : Prepared) (a : Values) (v : ℕ) (m x : Bool) → IsPrepared s a → m ≡ is_marked s.sought.now v → x ≡ is_vacant (slice_get a v)
    → (m && x) ≡ is_open (problem_in s) a v
open_by_marks s a v m x h mark vacant =
    ap (λ b. b && x) mark ∙ ap (λ b. is_marked s.sought.now v && b) vacant
    ∙ one_if (is_marked s.sought.now v) (is_number_among v (sought (problem_in s))) (is_vacant (slice_get a v))
    (λ is. marked s.sought.now (λ w. is_number_among w (sought (problem_in s))) (length s.task.now.rel.now.vars) v h.marks
    (subst (λ n. v < n) h.places (vacant_parts a v is).0))

neither : (k x y z : Bool) → x || y ≡ false → (y ≡ false → z ≡ false) → (k && x) || z ≡ false
neither true true y z h more = h
neither false true y z h more = absurd (cc)
neither true false y z h more = more h
neither false false y z h more = more h

-- what has no place without a value is not open
pub none_open : (p : Problem) (a : Values) (vs : List ℕ) → list_any (λ v. is_vacant (slice_get a v)) vs ≡ false → list_any (is_open p a) vs ≡ false
none_open p a [] h = refl
none_open p a (v ∷ vs) h =
    neither (is_number_among v (sought p)) (is_vacant (slice_get a v)) (list_any (λ w. is_vacant (slice_get a w)) vs) (list_any (is_open p a) vs) h (none_open p a vs)
