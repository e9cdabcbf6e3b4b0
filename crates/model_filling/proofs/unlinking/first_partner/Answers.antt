use Rattle.std.proofs.Common.{◌≡◌, ℕ, List, [], ◌∷◌, refl, sym, ap, subst, arith, Option, Some, None, true≢false, ◌∙◌}
use Rattle.std.specs.Iterator.{YieldsFirst}
use Rattle.std.specs.Prelude.{All, Contains, IfSome, IfNone}
use Rattle.mof_metamodel.proofs.Facts.{contains_first}
use Rattle.object_tables.specs.declared.value.ObjId.{ObjId}
use Rattle.object_tables.specs.Ids.{object_ids}
use Rattle.object_tables.specs.Models.{IsLive}
use Rattle.object_tables.proofs.KeptLemmas.{sound_of, linked_reference}
use Rattle.model_filling.proofs.MemberLaws.{empty_from}
use Rattle.model_filling.proofs.unlinking.first_partner.Goals as goal

first_is : (xs : List ℕ) (b : ObjId) (left : List ObjId) → object_ids xs ≡ b ∷ left → Contains xs b.0
first_is [] b left e = absurd cc
first_is (x ∷ xs) b left e = let same : record { 0 = x } ≡ b = cc in subst (Contains (x ∷ xs)) (ap (λ (z : ObjId). z.0) same) (contains_first x xs)

first_all : (P : ℕ → Type 0) (xs : List ℕ) (b : ObjId) (left : List ObjId) → All P xs → object_ids xs ≡ b ∷ left → P b.0
first_all P [] b left all e = absurd cc
first_all P (x ∷ xs) b left all e = let same : record { 0 = x } ≡ b = cc in subst P (ap (λ (z : ObjId). z.0) same) (all 0 x (omega arith))

none_is : (xs : List ℕ) → object_ids xs ≡ [] → xs ≡ []
none_is [] e = refl
none_is (x ∷ xs) e = absurd cc

linked_step : (xs : List ℕ) (list next : List ObjId) (r : Option ObjId) → list ≡ object_ids xs → YieldsFirst (λ (p : List ObjId). p) list r next
    → IfSome r (λ b. Contains xs b.0)
linked_step xs list next None e y = tt
linked_step xs list next (Some b) e y = first_is xs b next (sym e ∙ y)

live_step : (P : ℕ → Type 0) (xs : List ℕ) (list next : List ObjId) (r : Option ObjId) → All P xs → list ≡ object_ids xs
    → YieldsFirst (λ (p : List ObjId). p) list r next → IfSome r (λ b. P b.0)
live_step P xs list next None all e y = tt
live_step P xs list next (Some b) all e y = first_all P xs b next all (sym e ∙ y)

none_step : (xs : List ℕ) (list next : List ObjId) (r : Option ObjId) → list ≡ object_ids xs → YieldsFirst (λ (p : List ObjId). p) list r next
    → IfNone r (xs ≡ [])
none_step xs list next None e y = none_is xs (sym e ∙ y.0)
none_step xs list next (Some b) e y = tt

pub returns-then-not-has_reference-clause-none : goal.returns-then-not-has_reference-clause-none
returns-then-not-has_reference-clause-none c = empty_from _ (λ b pair.
    true≢false (sym (c.has_reference.ensures.1 (linked_reference c.args.model.now c.args.p.0 c.args.o.0 b
    (sound_of c.args.model.now c.requires) pair)) ∙ c.if-not-has_reference.true))

pub returns-clause-linked : goal.returns-clause-linked
returns-clause-linked c = linked_step _ c.partners.result c.next.new.self c.next.result c.partners.ensures.list c.next.ensures.steps

pub returns-clause-live : goal.returns-clause-live
returns-clause-live c =
    live_step (IsLive c.args.model.now) _ c.partners.result c.next.new.self c.next.result c.partners.ensures.live c.partners.ensures.list c.next.ensures.steps

pub returns-clause-none : goal.returns-clause-none
returns-clause-none c = none_step _ c.partners.result c.next.new.self c.next.result c.partners.ensures.list c.next.ensures.steps
