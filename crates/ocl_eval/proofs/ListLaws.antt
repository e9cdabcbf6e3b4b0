-- Lists that are gathered from left to right, and lists in a row.
use Rattle.std.proofs.Common.{◌≡◌, true, false, cond, List, [], ◌∷◌, ◌++◌, refl, sym, ◌∙◌, ap, append-nil}
use Rattle.std.proofs.lemmas.List.{append_assoc}
use Rattle.std.proofs.lemmas.List.Elements.{All-nil, All-cons, All-head, All-tail}
use Rattle.std.specs.Prelude.{Option, None, Some, All}
use Rattle.std.specs.Option.{option_map}
use Rattle.qvtr_semantics.specs.declared.datum.Datum.{Datum}
use Rattle.qvtr_semantics.specs.Data.{is_among, new_ones}

-- behind those so far stand those that follow, if none of these is missing
abbrev pub given_behind : {X : Type 0} → List X → Option (List X) → Option (List X)
given_behind so_far rest = option_map (λ ys. so_far ++ ys) rest

-- one more of them
pub given_further : {X : Type 0} (so_far : List X) (x : X) (rest : Option (List X)) → given_behind (so_far ++ x ∷ []) rest ≡ given_behind so_far (option_map (λ ys. x ∷ ys) rest)
given_further so_far x None = refl
given_further so_far x (Some ys) = ap Some (append_assoc so_far (x ∷ []) ys)

pub given_none : {X : Type 0} (rest : Option (List X)) → given_behind [] rest ≡ rest
given_none None = refl
given_none (Some ys) = refl

pub given_all : {X : Type 0} (so_far : List X) → given_behind so_far (Some []) ≡ Some so_far
given_all so_far = ap Some (append-nil so_far)

-- ---- each datum at its first place

pub new_further : (firsts met ds : List Datum) (d : Datum) → is_among d met ≡ false → (firsts ++ d ∷ []) ++ new_ones (d ∷ met) ds ≡ firsts ++ new_ones met (d ∷ ds)
new_further firsts met ds d h = append_assoc firsts (d ∷ []) (new_ones (d ∷ met) ds) ∙ ap (λ b. firsts ++ cond b (new_ones met ds) (d ∷ new_ones (d ∷ met) ds)) (sym h)

pub old_further : (firsts met ds : List Datum) (d : Datum) → is_among d met ≡ true → firsts ++ new_ones met ds ≡ firsts ++ new_ones met (d ∷ ds)
old_further firsts met ds d h = ap (λ b. firsts ++ cond b (new_ones met ds) (d ∷ new_ones (d ∷ met) ds)) (sym h)

pub no_more : (ds : List Datum) → ds ++ [] ≡ ds
no_more ds = append-nil ds

-- what is true of all of two lists in a row is true of all of each
pub all_parts : {X : Type 0} (P : X → Type 0) (xs ys : List X) → All P (xs ++ ys) → All P xs × All P ys
all_parts P [] ys all = (All-nil P, all)
all_parts P (x ∷ xs) ys all =
    let rest = all_parts P xs ys (All-tail P x (xs ++ ys) all) in
    (All-cons P x xs (All-head P x (xs ++ ys) all) rest.0, rest.1)
