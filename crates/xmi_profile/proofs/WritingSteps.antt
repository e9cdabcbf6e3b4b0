-- Steps of a writer through a list of calls: what is left of them can still be written.
use Rattle.std.proofs.Common.{◌≡◌, ℕ, zero, suc, ◌+◌, ◌<◌, ◌≤◌, Bool, true, false, cond, List, [], ◌∷◌, ◌++◌, length, get_or, map, drop, drop_of_length-le, refl, sym, ◌∙◌, ap, ap₂, subst, arith, add-one}
use Rattle.std.specs.Prelude.{◌==◌, ◌||◌, not}
use Rattle.std.specs.List.{flat_map}
use Rattle.std.proofs.Math.Seq.{drop-cons}
use Rattle.std.proofs.lemmas.Bool.{ne_eqb}
use Rattle.object_tables.specs.Models.{ModelData}
use Rattle.xmi_text.specs.Writing.{Written, with_line}
use Rattle.xmi_text.specs.Calls.{Call, Close, Line, wrote}
use Rattle.xmi_profile.specs.Canon.{depth_over, tag_calls, object_calls}
use Rattle.xmi_profile.specs.Writable.{CanWrite, Left, has_some, children_calls, end_calls}
use Rattle.xmi_profile.proofs.WritingCalls.{wrote_both, can_first, can_rest}
use Rattle.mof_metamodel.proofs.Facts.{or_false}

pub left_start : (w : Written) (calls : List Call) → CanWrite w calls → Left w calls (wrote w calls)
left_start w calls k = (k, refl)

pub left_first : (w end : Written) (a b : List Call) → Left w (a ++ b) end → CanWrite w a
left_first w end a b l = can_first w a b l.0

pub left_rest : (w v end : Written) (a b : List Call) → Left w (a ++ b) end → v ≡ wrote w a → Left v b end
left_rest w v end a b l e = subst (λ (x : Written). Left x b end) (sym e) (can_rest w a b l.0, sym (wrote_both w a b) ∙ l.1)

-- ---- lists, one item after another

pub left_next : {X : Type 0} (f : X → List Call) (xs : List X) (i : ℕ) (x d : X) → i < length xs → x ≡ get_or xs i d → flat_map f (drop i xs) ≡ f x ++ flat_map f (drop (i + 1) xs)
left_next f xs i x d l e = ap (flat_map f) (drop-cons xs i d l ∙ ap₂ (λ y n. y ∷ drop n xs) (sym e) (sym (add-one i)))

pub left_next_by : {X Y : Type 0} (g : X → Y) (f : Y → List Call) (xs : List X) (i : ℕ) (x d : X) → i < length xs → x ≡ get_or xs i d
    → flat_map f (map g (drop i xs)) ≡ f (g x) ++ flat_map f (map g (drop (i + 1) xs))
left_next_by g f xs i x d l e = ap (λ ys. flat_map f (map g ys)) (drop-cons xs i d l ∙ ap₂ (λ y n. y ∷ drop n xs) (sym e) (sym (add-one i)))

-- ---- whether there are calls

pub some_cons : (c : Call) (a : List Call) → has_some (c ∷ a) ≡ true
some_cons c a = ap not (ne_eqb (length (c ∷ a)) 0 (λ e. absurd (omega (arith, e))))

pub some_both : (a b : List Call) → has_some (a ++ b) ≡ (has_some a || has_some b)
some_both [] b = refl
some_both (c ∷ a) b = some_cons c (a ++ b) ∙ sym (ap (λ t. t || has_some b) (some_cons c a))

either_of_three : (a b c : Bool) → ((a || b) || c) ≡ (a || (b || c))
either_of_three true b c = refl
either_of_three false b c = refl

pub ended_calls : (depth : ℕ) (calls : List Call) → cond (length calls == 0) (Close ∷ []) (calls ++ (Line depth ∷ Close ∷ [])) ≡ calls ++ end_calls depth (has_some calls)
ended_calls depth [] = refl
ended_calls depth (c ∷ a) =
    let none : (length (c ∷ a) == 0) ≡ false = ne_eqb (length (c ∷ a)) 0 (λ e. absurd (omega (arith, e))) in
    ap₂ (λ s t. cond s (Close ∷ []) t) none refl ∙ ap (λ t. (c ∷ a) ++ end_calls depth t) (sym (some_cons c a))

-- ---- a step of a loop over items

pub item_can : {X Y : Type 0} (g : X → Y) (f : Y → List Call) (xs : List X) (i : ℕ) (x d : X) (w end : Written) → i < length xs → x ≡ get_or xs i d
    → Left w (flat_map f (map g (drop i xs))) end → CanWrite w (f (g x))
item_can g f xs i x d w end l e left =
    left_first w end (f (g x)) (flat_map f (map g (drop (i + 1) xs))) (subst (λ (calls : List Call). Left w calls end) (left_next_by g f xs i x d l e) left)

pub item_left : {X Y : Type 0} (g : X → Y) (f : Y → List Call) (xs : List X) (i : ℕ) (x d : X) (w v end : Written) → i < length xs → x ≡ get_or xs i d
    → Left w (flat_map f (map g (drop i xs))) end → v ≡ wrote w (f (g x)) → Left v (flat_map f (map g (drop (i + 1) xs))) end
item_left g f xs i x d w v end l e left wrote_it =
    left_rest w v end (f (g x)) (flat_map f (map g (drop (i + 1) xs))) (subst (λ (calls : List Call). Left w calls end) (left_next_by g f xs i x d l e) left) wrote_it

pub item_some : {X Y : Type 0} (g : X → Y) (f : Y → List Call) (xs : List X) (i : ℕ) (x d : X) (some now all : Bool) → i < length xs → x ≡ get_or xs i d
    → (some || has_some (flat_map f (map g (drop i xs)))) ≡ all → now ≡ (some || has_some (f (g x)))
    → (now || has_some (flat_map f (map g (drop (i + 1) xs)))) ≡ all
item_some g f xs i x d some now all l e h n =
    let rest = flat_map f (map g (drop (i + 1) xs)) in
    ap (λ t. t || has_some rest) n ∙ either_of_three some (has_some (f (g x))) (has_some rest)
    ∙ ap (λ t. some || t) (sym (some_both (f (g x)) rest)) ∙ ap (λ calls. some || has_some calls) (sym (left_next_by g f xs i x d l e)) ∙ h

-- the same of a list itself
pub value_can : {X : Type 0} (f : X → List Call) (xs : List X) (i : ℕ) (x d : X) (w end : Written) → i < length xs → x ≡ get_or xs i d → Left w (flat_map f (drop i xs)) end → CanWrite w (f x)
value_can f xs i x d w end l e left =
    left_first w end (f x) (flat_map f (drop (i + 1) xs)) (subst (λ (calls : List Call). Left w calls end) (left_next f xs i x d l e) left)

pub value_left : {X : Type 0} (f : X → List Call) (xs : List X) (i : ℕ) (x d : X) (w v end : Written) → i < length xs → x ≡ get_or xs i d
    → Left w (flat_map f (drop i xs)) end → v ≡ wrote w (f x) → Left v (flat_map f (drop (i + 1) xs)) end
value_left f xs i x d w v end l e left wrote_it =
    left_rest w v end (f x) (flat_map f (drop (i + 1) xs)) (subst (λ (calls : List Call). Left w calls end) (left_next f xs i x d l e) left) wrote_it

-- ---- an object's element

object_unfolded : (m : ModelData) (levels inner : ℕ) (element : List ℕ) (o : ℕ) → levels ≡ suc inner
    → object_calls m levels element o ≡ Line (depth_over inner) ∷ (tag_calls m element o ++ (children_calls m inner o ++ end_calls (depth_over inner) (has_some (children_calls m inner o))))
object_unfolded m levels inner element o e =
    ap (λ n. object_calls m n element o) e ∙ ap (λ calls. Line (depth_over inner) ∷ (tag_calls m element o ++ calls)) (ended_calls (depth_over inner) (children_calls m inner o))

-- what is left of it behind its line's end
pub object_begun : (m : ModelData) (levels inner : ℕ) (element : List ℕ) (o : ℕ) (w v : Written) → levels ≡ suc inner → CanWrite w (object_calls m levels element o) → v ≡ with_line w (depth_over inner)
    → Left v (tag_calls m element o ++ (children_calls m inner o ++ end_calls (depth_over inner) (has_some (children_calls m inner o)))) (wrote w (object_calls m levels element o))
object_begun m levels inner element o w v e k line =
    let rest = tag_calls m element o ++ (children_calls m inner o ++ end_calls (depth_over inner) (has_some (children_calls m inner o))) in
    let same = object_unfolded m levels inner element o e in
    subst (λ (calls : List Call). Left v rest (wrote w calls)) (sym same)
    (left_rest w v (wrote w (Line (depth_over inner) ∷ rest)) (Line (depth_over inner) ∷ []) rest (left_start w (Line (depth_over inner) ∷ rest) (subst (CanWrite w) same k)) line)

-- behind the last item all is written
pub left_none : {X : Type 0} (f : X → List Call) (xs : List X) (i : ℕ) (w end : Written) → length xs ≤ i → Left w (flat_map f (drop i xs)) end → w ≡ end
left_none {X = X} f xs i w end l left = (subst (λ (ys : List X). Left w (flat_map f ys) end) (drop_of_length-le xs l) left).1

pub left_none_by : {X Y : Type 0} (g : X → Y) (f : Y → List Call) (xs : List X) (i : ℕ) (w end : Written) → length xs ≤ i → Left w (flat_map f (map g (drop i xs))) end → w ≡ end
left_none_by {X = X} g f xs i w end l left = (subst (λ (ys : List X). Left w (flat_map f (map g ys)) end) (drop_of_length-le xs l) left).1

pub none_some : {X Y : Type 0} (g : X → Y) (f : Y → List Call) (xs : List X) (i : ℕ) (some all : Bool) → length xs ≤ i → (some || has_some (flat_map f (map g (drop i xs)))) ≡ all → some ≡ all
none_some {X = X} g f xs i some all l e = sym (or_false some) ∙ subst (λ (ys : List X). (some || has_some (flat_map f (map g ys))) ≡ all) (drop_of_length-le xs l) e

pub values_some : {X : Type 0} (f : X → List Call) (xs : List X) → ((x : X) → has_some (f x) ≡ true) → has_some (flat_map f xs) ≡ not (length xs == 0)
values_some f [] h = refl
values_some f (x ∷ xs) h = some_both (f x) (flat_map f xs) ∙ ap (λ t. t || has_some (flat_map f xs)) (h x) ∙ sym (ap not (ne_eqb (length (x ∷ xs)) 0 (λ e. absurd (omega (arith, e)))))

-- ---- a step of a loop that takes the first of what is left

first_is : {X Y : Type 0} (g : X → Y) (f : Y → List Call) (xs : List X) (x : X) (rest : List X) → xs ≡ x ∷ rest → flat_map f (map g xs) ≡ f (g x) ++ flat_map f (map g rest)
first_is g f xs x rest e = ap (λ ys. flat_map f (map g ys)) e

pub part_can : {X Y : Type 0} (g : X → Y) (f : Y → List Call) (xs : List X) (x : X) (rest : List X) (w end : Written) → xs ≡ x ∷ rest → Left w (flat_map f (map g xs)) end → CanWrite w (f (g x))
part_can g f xs x rest w end e left = left_first w end (f (g x)) (flat_map f (map g rest)) (subst (λ (calls : List Call). Left w calls end) (first_is g f xs x rest e) left)

pub part_left : {X Y : Type 0} (g : X → Y) (f : Y → List Call) (xs : List X) (x : X) (rest : List X) (w v end : Written) → xs ≡ x ∷ rest
    → Left w (flat_map f (map g xs)) end → v ≡ wrote w (f (g x)) → Left v (flat_map f (map g rest)) end
part_left g f xs x rest w v end e left wrote_it =
    left_rest w v end (f (g x)) (flat_map f (map g rest)) (subst (λ (calls : List Call). Left w calls end) (first_is g f xs x rest e) left) wrote_it

pub part_some : {X Y : Type 0} (g : X → Y) (f : Y → List Call) (xs : List X) (x : X) (rest : List X) (some now all : Bool) → xs ≡ x ∷ rest
    → (some || has_some (flat_map f (map g xs))) ≡ all → now ≡ (some || has_some (f (g x))) → (now || has_some (flat_map f (map g rest))) ≡ all
part_some g f xs x rest some now all e h n =
    let others = flat_map f (map g rest) in
    ap (λ t. t || has_some others) n ∙ either_of_three some (has_some (f (g x))) (has_some others)
    ∙ ap (λ t. some || t) (sym (some_both (f (g x)) others)) ∙ ap (λ calls. some || has_some calls) (sym (first_is g f xs x rest e)) ∙ h

pub parts_none : {X Y : Type 0} (g : X → Y) (f : Y → List Call) (xs : List X) (w end : Written) → xs ≡ [] → Left w (flat_map f (map g xs)) end → w ≡ end
parts_none {X = X} g f xs w end e left = (subst (λ (ys : List X). Left w (flat_map f (map g ys)) end) e left).1

pub parts_some : {X Y : Type 0} (g : X → Y) (f : Y → List Call) (xs : List X) (some all : Bool) → xs ≡ [] → (some || has_some (flat_map f (map g xs))) ≡ all → some ≡ all
parts_some {X = X} g f xs some all e h = sym (or_false some) ∙ subst (λ (ys : List X). (some || has_some (flat_map f (map g ys))) ≡ all) e h

pub object_some : (m : ModelData) (levels : ℕ) (element : List ℕ) (o : ℕ) → has_some (object_calls m levels element o) ≡ not (levels == 0)
object_some m zero element o = refl
object_some m (suc levels) element o = ap has_some (object_unfolded m (suc levels) levels element o refl) ∙ some_cons (Line (depth_over levels)) (tag_calls m element o ++ (children_calls m levels o ++ end_calls (depth_over levels) (has_some (children_calls m levels o)))) ∙ sym (ap not (ne_eqb (suc levels) 0 (λ e. absurd (omega (arith, e)))))
